use Rattle.std.proofs.Common.{arith, ◌≡◌, length, refl, subst, ap, None, false}
use Rattle.sh_sharding.proofs.Cases.{not_both}
use Rattle.sh_iface.specs.LoopNest.{loop_at}
use Rattle.sh_iface.specs.Valid.{MayBeSplit}
use Rattle.sh_iface.proofs.SplitLists.{read_at, split_in, splits_counted, splits_of}
use Rattle.sh_iface.proofs.validity.are_splits.Goals as goal

pub returns-then-len-loop_count : goal.returns-then-len-loop_count
returns-then-len-loop_count g c = (
  λ t. absurd (cc),
  λ h.
      let loops = (g.O.HasLoops.meaning c.args.op.now).nest.loops in
      let same : length c.args.o.now ≡ length loops = splits_counted c.args.g.now.extents loops c.args.o.now h in
      absurd (omega (arith, same, c.len.ensures, c.loop_count.ensures, c.if-len-loop_count.true)),
)

pub returns-then-not-may_be_split : goal.returns-then-not-may_be_split
returns-then-not-may_be_split g c = (
  λ t. absurd (cc),
  λ h.
      let nest = (g.O.HasLoops.meaning c.args.op.now).nest in
      let o = c.args.o.now in
      let at = c.loop-at.at in
      let same : length o ≡ length nest.loops = splits_counted c.args.g.now.extents nest.loops o h in
      let items = c.as_slice-split-items.ensures in
      let below = c.loop-at-test.true in
      let mine = subst (MayBeSplit c.args.g.now.extents (loop_at nest at))
      (read_at o c.as_slice-split-items.result.now at c.split-item.result None items below c.split-item.is)
      (split_in c.args.g.now.extents nest.loops o (record { extent = 0; splittable = false; kind = None }) at h (omega (arith, same, below, ap length items))) in
      absurd (not_both c.may_be_split.result (c.may_be_split.ensures.1 mine) c.if-not-may_be_split.true),
)

pub returns : goal.returns
returns g c = (
  λ t.
      let nest = (g.O.HasLoops.meaning c.args.op.now).nest in
      let o = c.args.o.now in
      let same : length o ≡ length nest.loops = omega (arith, c.len.ensures, c.loop_count.ensures, c.if-len-loop_count.false) in
      splits_of c.args.g.now.extents nest.loops o (record { extent = 0; splittable = false; kind = None }) same
      (λ l le. c.loop-at.invariant l (omega (arith, le, same, c.loop-at-test.false, ap length c.as_slice-split-items.ensures))),
  λ h. refl,
)
