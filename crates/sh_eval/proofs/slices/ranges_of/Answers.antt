use Rattle.std.proofs.Common.{◌++◌, length, ap, sym, ◌∙◌, arith, append-nil}
use Rattle.sh_eval.specs.Slices.{ranges_in}
use Rattle.sh_eval.proofs.IndexRules.{ranges_end}
use Rattle.sh_eval.proofs.slices.ranges_of.Goals as goal

pub returns : goal.returns
returns c =
    ap ranges_in c.from_vec.ensures ∙ sym (append-nil (ranges_in c.loop-at.ranges.items))
    ∙ ap (λ r. ranges_in c.loop-at.ranges.items ++ r)
    (sym (ranges_end c.args.dims.now c.args.extents.now c.args.slice.now.offsets c.args.slice.now.sizes c.args.slice.now.strides c.loop-at.at
    (let o = ap length c.as_slice-offsets.ensures in
    let k = ap length c.as_slice-sizes.ensures in
    let t = ap length c.as_slice-strides.ensures in
    omega (arith, o, k, t, c.loop-at-test.false, c.min.ensures, c.min-fewest.ensures, c.min-2.ensures, c.min-at-end.ensures))))
    ∙ c.loop-at.invariant
