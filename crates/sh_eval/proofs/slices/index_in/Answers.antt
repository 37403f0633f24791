use Rattle.std.proofs.Common.{◌++◌, ℕ, List, Some, map, ap, sym, ◌∙◌, arith, append-nil}
use Rattle.std.specs.Prelude.{option_map}
use Rattle.sh_eval.proofs.IndexRules.{zip_end}
use Rattle.sh_sem.specs.Slices.{Range, coordinate_in}
use Rattle.sh_turns.specs.Program.{all_there}
use Rattle.sh_eval.proofs.slices.index_in.Goals as goal

pub returns : goal.returns
returns c =
    ap (λ i. Some i) (c.shape.ensures ∙ c.as_slice.ensures ∙ sym (append-nil c.loop-at.places.items))
    ∙ ap (λ (z : List (Range × ℕ)). option_map (λ more. c.loop-at.places.items ++ more) (all_there (map (λ x. coordinate_in x.0 x.1) z)))
    (sym (zip_end c.args.ranges.now c.args.index.now c.loop-at.at (omega (arith, c.loop-at-test.false, c.min-at-end.ensures))))
    ∙ c.loop-at.invariant.value
