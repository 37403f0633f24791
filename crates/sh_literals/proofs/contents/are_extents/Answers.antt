use Rattle.std.proofs.Common.{◌≡◌, length, nat_eq, drop, [], ap, sym, ◌∙◌, arith}
use Rattle.std.proofs.lemmas.List.{drop_all}
use Rattle.sh_literals.specs.LiteralCells.{are_extents}
use Rattle.sh_literals.proofs.Ended.{no_more}
use Rattle.sh_literals.proofs.contents.are_extents.Goals as goal

pub returns : goal.returns
returns c =
    let all : length c.args.dims.now ≡ c.loop-at.at = omega arith in
    let none : [] ≡ drop c.loop-at.at c.args.dims.now = sym (drop_all c.loop-at.at c.args.dims.now c.loop-at-test.false) in
    ap (λ n. nat_eq n (length c.args.extents.now)) all
    ∙ no_more c.loop-at.at c.args.extents.now c.loop-at.invariant.1
    ∙ ap (λ dims. are_extents dims (drop c.loop-at.at c.args.extents.now)) none
    ∙ c.loop-at.invariant.0
