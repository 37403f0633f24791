use Rattle.std.proofs.Common.{◌++◌, ap, sym, ◌∙◌, arith, append-nil}
use Rattle.sh_eval.proofs.IndexRules.{unpadded_end}
use Rattle.sh_eval.proofs.pieces.without_padding.Goals as goal

pub returns : goal.returns
returns c =
    c.shape.ensures ∙ c.as_slice.ensures ∙ sym (append-nil c.loop-at.places.items)
    ∙ ap (λ r. c.loop-at.places.items ++ r) (sym (unpadded_end c.args.low.now c.args.index.now c.loop-at.at (omega (arith, c.loop-at-test.false, c.min-at-end.ensures))))
    ∙ c.loop-at.invariant.value
