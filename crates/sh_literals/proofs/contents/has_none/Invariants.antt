use Rattle.std.proofs.Common.{◌≡◌, drop}
use Rattle.std.specs.List.{list_any}
use Rattle.sh_ir.specs.Literals.{is_zero}
use Rattle.sh_literals.proofs.contents.has_none.Given as goal

abbrev pub invariant-loop-dim : goal.invariant-loop-dim
invariant-loop-dim l = list_any is_zero (drop l.dim-index l.dims) ≡ list_any is_zero l.dims
