use Rattle.std.proofs.Common.{ap, sym, subst, ◌<◌, length, ◌∙◌}
use Rattle.std.specs.Prelude.{get_or}
use Rattle.sh_ir.specs.Loops.{unlisted}
use Rattle.sh_ir.specs.Numbers.{as_naturals}
use Rattle.sh_iface_linalg.specs.declared.maps.DimLoops.{DimLoops}
use Rattle.sh_iface_linalg.specs.Reading.{loops_in}
use Rattle.sh_iface_linalg.proofs.NestLaws.{got_where, places_at}
use Rattle.sh_iface_linalg.proofs.maps.DimLoops.at.Goals as goal

pub returns-in-Places : goal.returns-in-Places
returns-in-Places c =
    c.place_of.ensures
    ∙ sym (places_at c.in-Places.field-0 (as_naturals c.in-Places.written.now) c.args.dim (subst (λ (x : DimLoops). c.args.dim < length (loops_in x)) c.in-Places.is c.requires))
    ∙ ap (λ (x : DimLoops). get_or (loops_in x) c.args.dim 0) (sym c.in-Places.is)

pub returns-in-Unlisted : goal.returns-in-Unlisted
returns-in-Unlisted c =
    c.unwrap_or-in-Unlisted.ensures
    ∙ got_where (unlisted c.in-Unlisted.bound (as_naturals c.in-Unlisted.listed.now)) c.args.dim c.unlisted_at.result c.unlisted_at.ensures
    ∙ ap (λ (x : DimLoops). get_or (loops_in x) c.args.dim 0) (sym c.in-Unlisted.is)
