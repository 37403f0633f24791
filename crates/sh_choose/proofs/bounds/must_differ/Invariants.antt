use Rattle.sh_choose.proofs.bounds.must_differ.Given as goal

abbrev pub invariant-loop-dim : goal.invariant-loop-dim
invariant-loop-dim g l = Unit {0}
