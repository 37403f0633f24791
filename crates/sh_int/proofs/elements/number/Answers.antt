use Rattle.std.proofs.Common.{ap, ◌∙◌}
use Rattle.sh_int.specs.Signed.{reduced}
use Rattle.sh_int.proofs.SignedLaws.{quotient_of, remainder_of}
use Rattle.sh_int.proofs.elements.number.Goals as goal

pub returns-in-Divsi : goal.returns-in-Divsi
returns-in-Divsi c =
    rw c.in-Divsi.is
    ((rw (c.signed.ensures.value, c.signed-in-Divsi.ensures.value) at c.wrapped-in-Divsi.ensures) ∙ ap (reduced c.args.w) (quotient_of c.args.w c.args.x c.args.y c.requires.first c.requires.second))

pub returns-in-Remsi : goal.returns-in-Remsi
returns-in-Remsi c =
    rw c.in-Remsi.is
    ((rw (c.signed-in-Remsi.ensures.value, c.signed-in-Remsi-2.ensures.value) at c.wrapped-in-Remsi.ensures) ∙ ap (reduced c.args.w) (remainder_of c.args.w c.args.x c.args.y c.requires.first c.requires.second))
