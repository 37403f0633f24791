use Rattle.std.proofs.Common.{◌++◌, ◌+◌, ◌*◌, ℕ, List, map, ap, sym, ◌∙◌, arith, append-nil}
use Rattle.sh_eval.specs.Cuts.{cut_index}
use Rattle.sh_eval.proofs.IndexRules.{zip_end}
use Rattle.sh_sem.specs.Slices.{Range}
use Rattle.sh_eval.proofs.slices.sliced_index.Goals as goal

pub returns : goal.returns
returns c =
    c.shape.ensures ∙ c.as_slice.ensures ∙ sym (append-nil c.loop-at.places.items)
    ∙ ap (λ (z : List (Range × ℕ)). c.loop-at.places.items ++ cut_index (map (λ x. x.0.offset + x.1 * x.0.stride) z))
    (sym (zip_end c.args.ranges.now c.args.index.now c.loop-at.at (omega (arith, c.loop-at-test.false, c.min-at-end.ensures))))
    ∙ c.loop-at.invariant.value
