use Rattle.sh_choose.proofs.bounds.is_axis_shared.Given as goal

abbrev pub invariant-loop-split : goal.invariant-loop-split
invariant-loop-split l = Unit {0}
