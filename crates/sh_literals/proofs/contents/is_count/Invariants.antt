use Rattle.std.proofs.Common.{◌≡◌, ◌+◌, ◌≤◌, drop, nat_eq, false}
use Rattle.std.specs.Option.{option_map_or}
use Rattle.sh_ir.specs.Literals.{known_count}
use Rattle.sh_literals.proofs.Counts.{is_product}
use Rattle.sh_literals.proofs.contents.is_count.Given as goal

abbrev pub invariant-loop-dim : goal.invariant-loop-dim
invariant-loop-dim l = record {
  rest : is_product l.fn.count l.product (drop l.dim-index l.dims)
      ≡ option_map_or (nat_eq l.fn.count) (known_count l.dims) false;
  within : l.product ≤ l.fn.count + 1;
}
