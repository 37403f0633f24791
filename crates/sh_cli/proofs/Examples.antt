-- The headline's definitions on the example, by computation, and two wrong modules that they refuse.
use Rattle.std.proofs.Common.{get_or, ◌≡◌, ℕ, zero, suc, true, false, List, [], ◌∷◌, Some, refl, ap, sym, ◌∙◌, subst, map, length, arith}
use Rattle.std.proofs.lemmas.Option.{same_Some}
use Rattle.std.specs.List.{AllByRecursion}
use Rattle.std.specs.Prelude.{IsSomeAnd}
use Rattle.sh_base.specs.Cells.{IsCellOf}
use Rattle.sh_base.specs.declared.numbers.Cell.{Cell}
use Rattle.sh_base.specs.declared.numbers.Cell.TheVariants.{Undef, Val}
use Rattle.sh_base.specs.declared.numbers.Width.{Width}
use Rattle.sh_base.specs.declared.numbers.Width.TheVariants.{I32}
use Rattle.sh_base.specs.Shape.{cell_count, flat_of}
use Rattle.sh_ir.specs.declared.functions.Carry.{Carry}
use Rattle.sh_ir.specs.declared.operations.OpKind.TheVariants.{Binary}
use Rattle.sh_ir.specs.declared.types.Dim.TheVariants.{Known}
use Rattle.sh_base.specs.declared.operations.BinOp.TheVariants.{Addi}
use Rattle.sh_ir.specs.declared.functions.Func.{Func}
use Rattle.sh_ir.specs.Shapes.{argument_types, shape_of}
use Rattle.sh_ir.specs.declared.types.ValueType.{ValueType}
use Rattle.sh_tensor.specs.Tensor.{TensorValue, at, cells_of}
use Rattle.sh_grid.specs.Grid.{GridValue, place_in, group_size_of, on_axes}
use Rattle.sh_int.specs.Elements.{element_of}
use Rattle.sh_sharding.specs.Carried.{cuts_of, grid_named}
use Rattle.sh_sharding.specs.HaloSizes.{halo_count}
use Rattle.sh_sharding.specs.OffsetLists.{mark_of, offset_count}
use Rattle.sh_sharding.specs.Cut.{cut_of}
use Rattle.sh_sharding.specs.Sharding.{offset_of, parts_of, part_of, offset_at, part_size, size_of_part, start_in, size_in, local_extent, offsets_of}
use Rattle.sh_sharding.specs.LocalTypes.{part_sizes, local_dim}
use Rattle.sh_ir.specs.Typing.{typing_of}
use Rattle.sh_sem.specs.Given.{given, shape_given, cell_given, giving, gives_cells, built_of}
use Rattle.sh_sem.specs.Meaning.{means, evaluated}
use Rattle.sh_sem.specs.Scalars.{formula_cell}
use Rattle.sh_sem.specs.Steps.{device_program, device_function, steps_on}
use Rattle.sh_pieces.specs.Instructions.{at_instruction}
use Rattle.sh_sem.specs.Types.{AreOfTypes, IsOfType}
use Rattle.sh_turns.specs.Program.{Program, returned, turns}
use Rattle.sh_turns.specs.World.{start, run, finished}
use Rattle.sh_pieces.specs.Right.{RunsRight}
use Rattle.sh_cli.specs.Headline.{IsPartition, IsPartitioned}
use Rattle.sh_cli.specs.Modules.{argument, carry_of, defining, device_func, line_of_devices, module_of, place_at, returning, source_func, vector}
use Rattle.sh_cli.proofs.LineSharding.{line}
use Rattle.sh_cli.proofs.SumHeadline.{only_one, the_one, sum_is_partitioned}

-- a vector of these numbers
abbrev of_numbers : List ℕ → TensorValue
of_numbers numbers = record { shape = length numbers ∷ []; width = I32; cells = map (λ x. Val x) numbers }

abbrev left : TensorValue
left = of_numbers (2147483647 ∷ 1 ∷ 2 ∷ 3 ∷ [])

abbrev right : TensorValue
right = of_numbers (1 ∷ 1 ∷ 1 ∷ 1 ∷ [])

-- the device function on two devices
abbrev on_two_devices : Func → List TensorValue → Program TensorValue
on_two_devices f arguments = device_program f (2 ∷ []) (cuts_of (line 2) (carry_of 4).args arguments)

-- the sum wraps round: 2147483648 is the number of -2147483648
sum_is : means (source_func 4) (left ∷ right ∷ []) ≡ Some (of_numbers (2147483648 ∷ 2 ∷ 3 ∷ 4 ∷ []) ∷ [])
unfolding means evaluated given shape_given cell_given giving gives_cells built_of formula_cell typing_of element_of at cells_of
sum_is = refl

-- each device has its half of the sum, in two turns, in either order
abbrev ends_with_halves : List ℕ → Type 0
ends_with_halves schedule =
    IsSomeAnd (run (on_two_devices (device_func 4 2) (left ∷ right ∷ [])) (start (on_two_devices (device_func 4 2) (left ∷ right ∷ []))) schedule)
    (λ w. (finished (on_two_devices (device_func 4 2) (left ∷ right ∷ [])) w ≡ true)
    × (map (λ d. returned (on_two_devices (device_func 4 2) (left ∷ right ∷ [])) d.values) w ≡ (of_numbers (2147483648 ∷ 2 ∷ []) ∷ []) ∷ (of_numbers (3 ∷ 4 ∷ []) ∷ []) ∷ []))

first_device_first : ends_with_halves (0 ∷ 1 ∷ [])
unfolding device_program device_function steps_on at_instruction given shape_given cell_given giving gives_cells built_of formula_cell typing_of element_of at cells_of cut_of start_in size_in local_extent part_size size_of_part part_of offset_at offset_of parts_of place_in group_size_of on_axes mark_of offset_count halo_count offsets_of
first_device_first = (refl, refl)

last_device_first : ends_with_halves (1 ∷ 0 ∷ [])
unfolding device_program device_function steps_on at_instruction given shape_given cell_given giving gives_cells built_of formula_cell typing_of element_of at cells_of cut_of start_in size_in local_extent part_size size_of_part part_of offset_at offset_of parts_of place_in group_size_of on_axes mark_of offset_count halo_count offsets_of
last_device_first = (refl, refl)

two_turns : turns (on_two_devices (device_func 4 2) (left ∷ right ∷ [])) ≡ 2
unfolding device_program device_function steps_on at_instruction
two_turns = refl

-- ---- two wrong modules

-- a module whose function adds its first argument to itself
abbrev twice_func : Func
twice_func = record (device_func 4 2) { ops = defining 2 (Binary Addi) (0 ∷ 0 ∷ []) (vector 2) (place_at 5 5) ∷ returning 2 2 (place_at 6 5) ∷ [] }

-- a module whose devices have whole vectors as their parts
abbrev undivided_func : Func
undivided_func = device_func 4 4

cell_fits : (w : Width) (cells : List Cell) → AllByRecursion (IsCellOf w) cells → (k : ℕ) → IsCellOf w (get_or cells k Undef)
cell_fits w [] fit k = tt
cell_fits w (c ∷ cells) fit zero = fit.0
cell_fits w (c ∷ cells) fit (suc k) = cell_fits w cells fit.1 k

is_vector : (t : TensorValue) → length t.cells ≡ cell_count t.shape → t.shape ≡ 4 ∷ [] → t.width ≡ I32 → AllByRecursion (IsCellOf t.width) t.cells → IsOfType (vector 4) t
unfolding at
is_vector t counted shape width fit = record {
  extents = ap (λ (dims : List ℕ). map (λ n. Known n) dims) shape;
  width = width;
  whole = record { counted = counted; fitting = λ i h. cell_fits t.width t.cells fit (flat_of t.shape i) };
}

left_fits : AllByRecursion (IsCellOf I32) left.cells
left_fits = (omega arith, (omega arith, (omega arith, (omega arith, tt))))

right_fits : AllByRecursion (IsCellOf I32) right.cells
right_fits = (omega arith, (omega arith, (omega arith, (omega arith, tt))))

are_vectors : AreOfTypes (argument_types (source_func 4)) (left ∷ right ∷ [])
are_vectors = (is_vector left refl refl refl left_fits, (is_vector right refl refl refl right_fits, tt))

-- what the statement of the headline says of a module with one function, where that carries the right cuts
is_partition : (f : Func) → f.carry ≡ Some (carry_of 4) → IsPartitioned (module_of 2 (source_func 4)) (module_of 2 f) → IsPartition (source_func 4) f (carry_of 4) (line 2)
is_partition f carries holds =
    let got = holds.functions (source_func 4) (the_one (source_func 4)) refl in
    let same_func = only_one f got.function got.among in
    let same_carry : got.carry ≡ carry_of 4 = same_Some _ _ (sym got.is_partition.carries ∙ ap (λ (f : Func). f.carry) same_func ∙ carries) in
    let same_grid : got.grid ≡ line 2 = same_Some _ _ (sym (sym (ap (λ (c : Carry). grid_named (line_of_devices 2 ∷ []) c.grid) same_carry) ∙ got.on_grid)) in
    subst (λ (c : Carry). IsPartition (source_func 4) f c (line 2)) same_carry
    (subst (λ (g : GridValue). IsPartition (source_func 4) f got.carry g) same_grid
    (subst (λ (h : Func). IsPartition (source_func 4) h got.carry got.grid) same_func got.is_partition))

-- every run of such a function, on the cuts of the example's arguments, would be right
would_run : (f : Func) → f.carry ≡ Some (carry_of 4) → IsPartitioned (module_of 2 (source_func 4)) (module_of 2 f)
    → RunsRight (on_two_devices f (left ∷ right ∷ [])) (cuts_of (line 2) (carry_of 4).results (of_numbers (2147483648 ∷ 2 ∷ 3 ∷ 4 ∷ []) ∷ []))
would_run f carries holds = (is_partition f carries holds).runs (left ∷ right ∷ []) (of_numbers (2147483648 ∷ 2 ∷ 3 ∷ 4 ∷ []) ∷ []) are_vectors sum_is

abbrev number_in : Cell → ℕ
number_in Undef = 0
number_in (Val x) = x

abbrev first_number : List TensorValue → ℕ
first_number [] = 0
first_number (t ∷ ts) = number_in (get_or t.cells 0 Undef)

two_numbers : (a b : ℕ) → a ≡ 4294967294 → b ≡ 2147483648 → a ≡ b → ⊥
two_numbers a b is_a is_b e = absurd (omega arith)

-- the headline is false of the module that adds the first argument twice: device 0 ends with another first number
twice_is_wrong : IsPartitioned (module_of 2 (source_func 4)) (module_of 2 twice_func) → ⊥
unfolding device_program device_function steps_on at_instruction given shape_given cell_given giving gives_cells built_of formula_cell typing_of element_of at cells_of cut_of start_in size_in local_extent part_size size_of_part part_of offset_at offset_of parts_of place_in group_size_of on_axes mark_of offset_count halo_count offsets_of
twice_is_wrong holds =
    let ran = would_run twice_func refl holds (0 ∷ 1 ∷ []) _ refl in
    two_numbers _ _ refl refl (ap first_number (ran.results refl 0 (omega arith)))

-- it is false of the module with a wrong local type: the first turn is stuck
undivided_is_wrong : IsPartitioned (module_of 2 (source_func 4)) (module_of 2 undivided_func) → ⊥
unfolding device_program device_function steps_on at_instruction given shape_given cell_given giving gives_cells built_of formula_cell typing_of element_of at cells_of cut_of start_in size_in local_extent part_size size_of_part part_of offset_at offset_of parts_of place_in group_size_of on_axes mark_of offset_count halo_count offsets_of
undivided_is_wrong holds =
    let ran = would_run undivided_func refl holds [] _ refl in
    let moves : false ≡ true = ran.no_fault 0 refl in
    cc moves

-- It is false of a module whose function has other types than its cuts, though it runs right: here each
-- argument is written as a vector of three.
abbrev mistyped_func : Func
mistyped_func = record (device_func 4 2) { args = argument 0 3 ∷ argument 1 3 ∷ [] }

abbrev first_extent : List ValueType → ℕ
first_extent [] = 0
first_extent (type ∷ types) = get_or (shape_of type) 0 0

three_or_two : (a b : ℕ) → a ≡ 3 → b ≡ 2 → a ≡ b → ⊥
three_or_two a b is_a is_b e = absurd (omega arith)

mistyped_is_wrong : IsPartitioned (module_of 2 (source_func 4)) (module_of 2 mistyped_func) → ⊥
unfolding device_program device_function steps_on at_instruction given shape_given cell_given giving gives_cells built_of formula_cell typing_of element_of at cells_of cut_of start_in size_in local_extent part_size size_of_part part_of offset_at offset_of parts_of place_in group_size_of on_axes mark_of offset_count halo_count offsets_of part_sizes local_dim
mistyped_is_wrong holds =
    three_or_two _ _ refl refl (ap first_extent (is_partition mistyped_func refl holds).local.args)

-- nor where what is returned is written as a vector of three
abbrev misreturned_func : Func
misreturned_func = record (device_func 4 2) { ops = defining 2 (Binary Addi) (0 ∷ 1 ∷ []) (vector 2) (place_at 5 5) ∷ returning 2 3 (place_at 6 5) ∷ [] }

misreturned_is_wrong : IsPartitioned (module_of 2 (source_func 4)) (module_of 2 misreturned_func) → ⊥
misreturned_is_wrong holds =
    three_or_two _ _ refl refl (ap first_extent (is_partition misreturned_func refl holds).of_return)

-- nor of the right function on another grid than the source module's
on_three_is_wrong : IsPartitioned (module_of 2 (source_func 4)) (module_of 3 (device_func 4 2)) → ⊥
on_three_is_wrong holds =
    three_or_two _ _ refl refl (ap (λ (grids : List GridValue). get_or (get_or grids 0 (line 0)).extents 0 0) holds.grids)

-- it is true of the right one
right_is_right : IsPartitioned (module_of 2 (source_func 4)) (module_of 2 (device_func 4 2))
right_is_right = sum_is_partitioned 4 2 (record {
  limits = record { some_cells = omega arith; few_cells = omega arith; some_devices = omega arith; few_devices = omega arith };
  divisible = refl;
})
