-- The values of a function, as the code holds them.
use Rattle.std.specs.Prelude.{nat_eq, option_map}
use Rattle.std.specs.Map.{lookup}
use Rattle.sh_eval.specs.declared.store.Store.{Store}
use Rattle.sh_sem.specs.Meaning.{Values}

-- the tensors by their names
unfoldable pub values_in : Store → Values
values_in store name = option_map (λ t. t.value) (lookup (nat_eq name) store.tensors.entries)
