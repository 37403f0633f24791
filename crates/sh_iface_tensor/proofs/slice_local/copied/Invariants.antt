use Rattle.std.proofs.Common.{◌≡◌, take}
use Rattle.sh_iface_tensor.proofs.slice_local.copied.Given as goal

abbrev pub invariant-loop-number : goal.invariant-loop-number
invariant-loop-number l = l.out ≡ take l.number-index l.numbers
