-- The history of a world: one number of all that its devices computed.
use Rattle.std.specs.Prelude.{ℕ, ◌+◌, ◌*◌, ◌%◌, ◌^◌, List, map, fold, flat_map, drop}
use Rattle.sh_base.specs.declared.numbers.Cell.{Cell}
use Rattle.sh_base.specs.declared.numbers.Cell.TheVariants.{Undef, Val}
use Rattle.sh_tensor.specs.Tensor.{TensorValue}
use Rattle.sh_turns.specs.World.{World}

-- an undefined cell, or a number
abbrev pub code_of : Cell → ℕ
code_of Undef = 0
code_of (Val n) = n + 1

-- the cells of all values but the arguments, by device, instruction and index
abbrev pub computed_cells : ℕ → World TensorValue → List Cell
computed_cells arity w = flat_map (λ d. flat_map (λ t. t.cells) (drop arity d.values)) w

abbrev pub history_step : ℕ → ℕ → ℕ
history_step h code = (31 * h + code) % 2 ^ 64

abbrev pub history_of : ℕ → World TensorValue → ℕ
history_of arity w = fold history_step 0 (map code_of (computed_cells arity w))
