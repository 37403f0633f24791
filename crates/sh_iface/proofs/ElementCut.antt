-- The local part of an element operation makes the cut of the result of the cuts of the operands.
use Rattle.std.proofs.Common.{ap₂, ◌≡◌, ℕ, ◌+◌, ◌-◌, ◌<◌, Bool, true, false, List, [], ◌∷◌, map, length, Option, Some, None, refl, ap, sym, ◌∙◌, arith, subst}
use Rattle.std.proofs.lemmas.Bool.Decides.{nat_tests}
use Rattle.std.proofs.lemmas.List.{length-map}
use Rattle.std.proofs.lemmas.Option.{same_Some}
use Rattle.std.proofs.lemmas.Slice.Eq.{bytes_eq-Decides}
use Rattle.std.specs.Cmp.Lexicographic.{pointwise}
use Rattle.std.specs.List.{AllByRecursion, range_with_len}
use Rattle.std.specs.Prelude.{◌==◌, is_none, unwrap_or, nat_eq, if◌then◌else◌, option_and_then, IfSome}
use Rattle.sh_base.specs.Cells.{IsCellOf, bits_of}
use Rattle.sh_base.specs.declared.numbers.Cell.{Cell}
use Rattle.sh_base.specs.declared.numbers.Cell.TheVariants.{Undef, Val}
use Rattle.sh_base.specs.declared.numbers.Width.{Width}
use Rattle.sh_base.specs.declared.numbers.Width.TheVariants.{I1, I8, I16, I32, I64}
use Rattle.sh_base.specs.declared.operations.CastOp.{CastOp}
use Rattle.sh_base.specs.declared.operations.CastOp.TheVariants.{Extsi, Extui, Trunci}
use Rattle.sh_base.specs.Shape.{cell_count, IsIndexOf}
use Rattle.sh_int.specs.Elements.{element_of, comparison_of, cast_of, CanCast}
use Rattle.sh_int.proofs.ElementLaws.{element_of-within, comparison_of-within, cast_of-within}
use Rattle.sh_ir.specs.declared.operations.Op.{Op}
use Rattle.sh_ir.specs.declared.types.Dim.{Dim}
use Rattle.sh_ir.specs.declared.types.Dim.TheVariants.{Known, Differs}
use Rattle.sh_ir.specs.Classes.{class_of}
use Rattle.sh_ir.specs.Results.{changes_bits}
use Rattle.sh_ir.specs.Typing.{typing_of}
use Rattle.sh_pieces.specs.Instructions.{State, collected_by, gives, local_by}
use Rattle.sh_pieces.specs.Promises.{cuts, AllFit, HasCuts, IsLocalPart}
use Rattle.sh_pieces.specs.Runs.{RunsTo, HasRows}
use Rattle.sh_pieces.proofs.Parts.{one_gives}
use Rattle.sh_sem.specs.Given.{Seat, alone, given, giving, gives_cells, have_all_extents}
use Rattle.sh_sem.specs.Pieces.{common_shape}
use Rattle.sh_sem.specs.Scalars.{Formula, formula_cell, chosen}
use Rattle.sh_sem.specs.Steps.{is_collective_class, seat_of, steps_on}
use Rattle.sh_sem.specs.Types.{have_extents}
use Rattle.sh_sharding.specs.declared.shardings.Dimension.{Dimension}
use Rattle.sh_sharding.specs.Cut.{cut_of, whole_index}
use Rattle.sh_sharding.specs.LocalTypes.{local_dim, local_dims, IsLocalDim}
use Rattle.sh_sharding.specs.Sharding.{ShardingValue, IsSharding, HasNoHalos, local_extent, local_shape, whole_of}
use Rattle.sh_sharding.specs.Splits.{TensorSplit, IsOfSplit, tensor_splitting}
use Rattle.sh_sharding.proofs.CutLaws.{at-cut_of, shape-cut_of, cut_cell-no_halos, cut_of-elements, no_halos-inside, whole_index-inside}
use Rattle.sh_sharding.proofs.LocalTypeLaws.{are_local_dims}
use Rattle.sh_sharding.proofs.PartLaws.{axes_of-each, placed}
use Rattle.sh_tensor.specs.Tensor.{TensorValue, at, build}
use Rattle.sh_tensor.proofs.TensorLaws.{IsTensor-build}
use Rattle.sh_iface.specs.Elements.{What, by_operation, by_predicate, by_choice, by_cast, Element, formula_by, widths_by, fits_width, kind_at, op_at, tensor_of, known_dims}
use Rattle.sh_iface.proofs.ElementGiven.{or_undefined, cell_by, IsBuilt, IsCellwise, given_is, is_given}

-- ---- what the operation is on tensors of any extents

-- it gives the formula's cells
pub gives_formula : (what : What) (w : Width) (dims : List Dim) (operands : List ℕ) (seat : Seat)
    → giving (kind_at dims what) operands (tensor_of dims w) seat ≡ Some (gives_cells (formula_by what w))
unfolding giving
gives_formula (by_operation op) w dims operands seat = refl
gives_formula (by_predicate p v) w dims operands seat = refl
gives_formula by_choice w dims operands seat = refl
gives_formula (by_cast op v) w dims operands seat = refl

-- the types that are written for its operands
pub types_at : (what : What) (w : Width) (dims : List Dim) → typing_of (kind_at dims what) (tensor_of dims w) ≡ map (tensor_of dims) (widths_by what w)
unfolding typing_of
types_at (by_operation op) w dims = refl
types_at (by_predicate p v) w dims = refl
types_at by_choice w dims = refl
types_at (by_cast op v) w dims = refl

same_shape : (s : List ℕ) → pointwise nat_eq s s ≡ true
same_shape s = (bytes_eq-Decides s s).1 refl

-- operands of one shape have it in common
pub common_of : (what : What) (w : Width) (s : List ℕ) → common_shape (map (λ (v : Width). s) (widths_by what w)) ≡ Some s
common_of (by_operation op) w s = let same = same_shape s in rw same refl
common_of (by_predicate p v) w s = let same = same_shape s in rw same refl
common_of by_choice w s = let same = same_shape s in rw same refl
common_of (by_cast op v) w s = refl

-- ---- its cells are of the result's width

abbrev AreCells : List Width → List Cell → Type 0
AreCells [] [] = Unit {0}
AreCells [] (c ∷ cells) = ⊥
AreCells (w ∷ ws) [] = ⊥
AreCells (w ∷ ws) (c ∷ cells) = IsCellOf w c × AreCells ws cells

within_some : (o : Option Cell) (w : Width) (c : Cell) → IfSome o (λ c. IsCellOf w c) → o ≡ Some c → IsCellOf w c
within_some (Some d) w c h e = subst (IsCellOf w) (same_Some d c e) h
within_some None w c h e = absurd (cc)

chosen-within : (w : Width) (c a b : Cell) → IsCellOf w a → IsCellOf w b → IsCellOf w (chosen c a b)
chosen-within w Undef a b h k = tt
chosen-within w (Val n) a b h k = pick (n == 0)
  where
    pick : (zero : Bool) → IsCellOf w (if zero then b else a)
    pick true = k
    pick false = h

one_bit : (w : Width) → nat_eq (bits_of w) 1 ≡ true → w ≡ I1
one_bit I1 e = refl
one_bit I8 e = absurd (cc)
one_bit I16 e = absurd (cc)
one_bit I32 e = absurd (cc)
one_bit I64 e = absurd (cc)

can_cast : (op : CastOp) (v w : Width) → changes_bits op (bits_of v) (bits_of w) ≡ true → CanCast op v w
can_cast Extsi v w e = grind (arith, nat_tests)
can_cast Extui v w e = grind (arith, nat_tests)
can_cast Trunci v w e = grind (arith, nat_tests)

formula-within : (what : What) (w : Width) (cells : List Cell) (c : Cell) → fits_width what w ≡ true → AreCells (widths_by what w) cells
    → formula_cell (formula_by what w) cells ≡ Some c → IsCellOf w c
unfolding formula_cell
formula-within (by_operation op) w (a ∷ b ∷ []) c fits h e = within_some (element_of op w a b) w c (element_of-within op w a b h.0 h.1.0) e
formula-within (by_operation op) w [] c fits h e = absurd h
formula-within (by_operation op) w (a ∷ []) c fits h e = absurd h.1
formula-within (by_operation op) w (a ∷ b ∷ d ∷ cells) c fits h e = absurd h.1.1
formula-within (by_predicate p v) w (a ∷ b ∷ []) c fits h e =
    subst (IsCellOf w) (same_Some (comparison_of p v a b) c e) (subst (λ w. IsCellOf w (comparison_of p v a b)) (sym (one_bit w fits)) (comparison_of-within p v a b))
formula-within (by_predicate p v) w [] c fits h e = absurd h
formula-within (by_predicate p v) w (a ∷ []) c fits h e = absurd h.1
formula-within (by_predicate p v) w (a ∷ b ∷ d ∷ cells) c fits h e = absurd h.1.1
formula-within by_choice w (d ∷ a ∷ b ∷ []) c fits h e = subst (IsCellOf w) (same_Some (chosen d a b) c e) (chosen-within w d a b h.1.0 h.1.1.0)
formula-within by_choice w [] c fits h e = absurd h
formula-within by_choice w (a ∷ []) c fits h e = absurd h.1
formula-within by_choice w (a ∷ b ∷ []) c fits h e = absurd h.1.1
formula-within by_choice w (a ∷ b ∷ d ∷ x ∷ cells) c fits h e = absurd h.1.1.1
formula-within (by_cast op v) w (a ∷ []) c fits h e = subst (IsCellOf w) (same_Some (cast_of op v w a) c e) (cast_of-within op v w a (can_cast op v w fits) h.0)
formula-within (by_cast op v) w [] c fits h e = absurd h
formula-within (by_cast op v) w (a ∷ b ∷ cells) c fits h e = absurd h.1

-- ---- operands that are split alike

-- one way to split for each width
abbrev pub splits_by : ShardingValue → List Width → List TensorSplit
splits_by s ws = map (λ w. record { sharding = s; width = w }) ws

module _ (s : ShardingValue) where
  whole_shapes : (ws : List Width) (ts : List TensorValue) → AllFit tensor_splitting (splits_by s ws) ts → map (λ t. t.shape) ts ≡ map (λ w. whole_of s) ws
  whole_shapes [] [] all = refl
  whole_shapes [] (t ∷ ts) all = absurd all
  whole_shapes (w ∷ ws) [] all = absurd all
  whole_shapes (w ∷ ws) (t ∷ ts) all = ap₂ ◌∷◌ all.0.shape (whole_shapes ws ts all.1)

  cuts_are : (c : ℕ) (ws : List Width) (ts : List TensorValue) → AllFit tensor_splitting (splits_by s ws) ts → cuts tensor_splitting (splits_by s ws) ts c ≡ map (λ t. cut_of s t c) ts
  cuts_are c [] [] all = refl
  cuts_are c [] (t ∷ ts) all = absurd all
  cuts_are c (w ∷ ws) [] all = absurd all
  cuts_are c (w ∷ ws) (t ∷ ts) all = ap (λ us. cut_of s t c ∷ us) (cuts_are c ws ts all.1)

  local_shapes : (c : ℕ) (ws : List Width) (ts : List TensorValue) → AllFit tensor_splitting (splits_by s ws) ts
      → map (λ t. t.shape) (map (λ t. cut_of s t c) ts) ≡ map (λ w. local_shape s c) ws
  local_shapes c [] [] all = refl
  local_shapes c [] (t ∷ ts) all = absurd all
  local_shapes c (w ∷ ws) [] all = absurd all
  local_shapes c (w ∷ ws) (t ∷ ts) all = ap₂ ◌∷◌ (shape-cut_of s t c) (local_shapes c ws ts all.1)

  whole_cells : (i : List ℕ) → IsIndexOf (whole_of s) i → (ws : List Width) (ts : List TensorValue) → AllFit tensor_splitting (splits_by s ws) ts → AreCells ws (map (λ t. at t i) ts)
  whole_cells i h [] [] all = tt
  whole_cells i h [] (t ∷ ts) all = absurd all
  whole_cells i h (w ∷ ws) [] all = absurd all
  whole_cells i h (w ∷ ws) (t ∷ ts) all =
      (subst (λ v. IsCellOf v (at t i)) all.0.width (all.0.tensor.fitting i (subst (λ z. IsIndexOf z i) (sym all.0.shape) h)), whole_cells i h ws ts all.1)

-- ---- the local types know the local extents

extents_known : (d : Dim) (ds : List Dim) (g : List ℕ) (device n : ℕ) (ns : List ℕ) (x : Dimension) → IsLocalDim g x d → device < cell_count g → n ≡ local_extent g device x
    → have_extents ds ns ≡ true → have_extents (d ∷ ds) (n ∷ ns) ≡ true
extents_known Differs ds g device n ns x is l e rest = rest
extents_known (Known m) ds g device n ns x is l e rest =
    let same : nat_eq m n ≡ true = let here : m ≡ n = sym (is device l) ∙ sym e in grind (arith, nat_tests) in
    rw (same, rest) refl

all_known : (g : List ℕ) (device : ℕ) (ds : List Dimension) → device < cell_count g → AllByRecursion (λ d. IsLocalDim g d (local_dim g d)) ds
    → have_extents (map (local_dim g) ds) (map (local_extent g device) ds) ≡ true
all_known g device [] l are = refl
all_known g device (d ∷ ds) l are = extents_known (local_dim g d) (map (local_dim g) ds) g device (local_extent g device d) (map (local_extent g device) ds) d are.0 l refl (all_known g device ds l are.1)

pub local_extents : (s : ShardingValue) (device : ℕ) → IsSharding s → device < cell_count s.grid.extents → have_extents (local_dims s) (local_shape s device) ≡ true
local_extents s device ok l =
    let g = s.grid.extents in
    all_known g device s.dimensions l (are_local_dims g s.dimensions ok.grid (axes_of-each (length g) s.dimensions ok.axes))

types_known : (dims : List Dim) (shape : List ℕ) (ws : List Width) → have_extents dims shape ≡ true → have_all_extents (map (tensor_of dims) ws) (map (λ w. shape) ws) ≡ true
types_known dims shape [] h = refl
types_known dims shape (w ∷ ws) h = let rest = types_known dims shape ws h in rw (h, rest) refl

-- ---- cells of cuts

module _ (s : ShardingValue) (ok : IsSharding s) (none : HasNoHalos s.dimensions) (c : ℕ) (l : c < cell_count s.grid.extents) where
  cells_of_cuts : (j : List ℕ) → IsIndexOf (local_shape s c) j → (ts : List TensorValue)
      → map (λ t. at t j) (map (λ t. cut_of s t c) ts) ≡ map (λ t. at t (whole_index s.grid.extents c s.dimensions j)) ts
  cells_of_cuts j h [] = refl
  cells_of_cuts j h (t ∷ ts) = ap₂ ◌∷◌ (at-cut_of s t c j h ∙ cut_cell-no_halos s t c j ok none l h) (cells_of_cuts j h ts)

  inside : (j : List ℕ) → IsIndexOf (local_shape s c) j → IsIndexOf (whole_of s) (whole_index s.grid.extents c s.dimensions j)
  inside j h = whole_index-inside s.grid.extents c s.dimensions j h (no_halos-inside s.grid.extents c s.dimensions j (placed s c ok l) none h)

  -- a cell of the cuts is stuck only where one of the whole is
  calm_cuts : (f : Formula) (ts : List TensorValue) → ((i : List ℕ) → IsIndexOf (whole_of s) i → is_none (cell_by f ts i) ≡ false)
      → (j : List ℕ) → IsIndexOf (local_shape s c) j → is_none (cell_by f (map (λ t. cut_of s t c) ts) j) ≡ false
  calm_cuts f ts calm j h = ap (λ cells. is_none (formula_cell f cells)) (cells_of_cuts j h ts) ∙ calm (whole_index s.grid.extents c s.dimensions j) (inside j h)

  at_cuts : (j : List ℕ) (ts : List TensorValue) → map (λ t. at t j) (map (λ t. cut_of s t c) ts) ≡ map (λ t. at (cut_of s t c) j) ts
  at_cuts j [] = refl
  at_cuts j (t ∷ ts) = ap (λ cells. at (cut_of s t c) j ∷ cells) (at_cuts j ts)

-- ---- the local part

-- it is a local instruction
pub alone_at : (what : What) (dims : List Dim) → is_collective_class (class_of (kind_at dims what)) ≡ false
alone_at (by_operation op) dims = refl
alone_at (by_predicate p v) dims = refl
alone_at by_choice dims = refl
alone_at (by_cast op v) dims = refl

module _ (e : Element) (s : ShardingValue) (ok : IsSharding s) (none : HasNoHalos s.dimensions) (fits : fits_width e.what e.width ≡ true) where
  abbrev widths : List Width
  widths = widths_by e.what e.width

  abbrev formula : Formula
  formula = formula_by e.what e.width

  abbrev local_op : Op
  local_op = op_at e (local_dims s)

  -- what the operation gives of whole operands
  whole_value : (shape : List ℕ) (ts : List TensorValue) (t : TensorValue) → AllFit tensor_splitting (splits_by s widths) ts → given (op_at e (known_dims shape)) alone ts ≡ Some t
      → IsBuilt (whole_of s) e.width (cell_by formula ts) t
  whole_value shape ts t all is =
      let parts : IsCellwise formula e.width ts t = given_is (op_at e (known_dims shape)) alone formula ts t (gives_formula e.what e.width (known_dims shape) (op_at e (known_dims shape)).operands alone) is in
      let there : common_shape (map (λ t. t.shape) ts) ≡ Some (whole_of s) = ap common_shape (whole_shapes s widths ts all) ∙ common_of e.what e.width (whole_of s) in
      let same : parts.shape ≡ whole_of s = same_Some parts.shape (whole_of s) (sym parts.common ∙ there) in
      subst (λ z. IsBuilt z e.width (cell_by formula ts) t) same parts.built

  cell_fits : (ts : List TensorValue) → AllFit tensor_splitting (splits_by s widths) ts → ((i : List ℕ) → IsIndexOf (whole_of s) i → is_none (cell_by formula ts i) ≡ false)
      → (i : List ℕ) → IsIndexOf (whole_of s) i → IsCellOf e.width (or_undefined (cell_by formula ts) i)
  cell_fits ts all calm i h = go (cell_by formula ts i) refl (calm i h)
    where
      go : (o : Option Cell) → cell_by formula ts i ≡ o → is_none o ≡ false → IsCellOf e.width (unwrap_or o Undef)
      go (Some c) is there = formula-within e.what e.width (map (λ t. at t i) ts) c fits (whole_cells s i h widths ts all) is
      go None is there = absurd (cc)

  result_fits : (shape : List ℕ) (ts : List TensorValue) (t : TensorValue) → AllFit tensor_splitting (splits_by s widths) ts → given (op_at e (known_dims shape)) alone ts ≡ Some t
      → IsOfSplit (record { sharding = s; width = e.width }) t
  result_fits shape ts t all is =
      let built = whole_value shape ts t all is in
      let made : IsOfSplit (record { sharding = s; width = e.width }) (build (whole_of s) e.width (or_undefined (cell_by formula ts))) = record {
        tensor = IsTensor-build (whole_of s) e.width (or_undefined (cell_by formula ts)) (cell_fits ts all built.calm);
        shape = refl;
        width = refl;
      } in
      subst (IsOfSplit (record { sharding = s; width = e.width })) (sym built.is) made

  -- on the cuts the local instruction gives the cut
  given_cut : (shape : List ℕ) (ts : List TensorValue) (t : TensorValue) (c : ℕ) (seat : Seat) → c < cell_count s.grid.extents → AllFit tensor_splitting (splits_by s widths) ts
      → given (op_at e (known_dims shape)) alone ts ≡ Some t → given local_op seat (map (λ t. cut_of s t c) ts) ≡ Some (cut_of s t c)
  given_cut shape ts t c seat l all is =
      let built = whole_value shape ts t all is in
      let extents = local_extents s c ok l in
      let shapes = local_shapes s c widths ts all in
      let known : have_all_extents (typing_of local_op.kind local_op.result) (map (λ t. t.shape) (map (λ t. cut_of s t c) ts)) ≡ true =
      ap₂ have_all_extents (types_at e.what e.width (local_dims s)) shapes ∙ types_known (local_dims s) (local_shape s c) widths extents in
      let common : common_shape (map (λ t. t.shape) (map (λ t. cut_of s t c) ts)) ≡ Some (local_shape s c) = ap common_shape shapes ∙ common_of e.what e.width (local_shape s c) in
      let f : List Cell → Cell = λ cells. unwrap_or (formula_cell formula cells) Undef in
      let cut_is : cut_of s t c ≡ build (local_shape s c) e.width (λ j. f (map (λ x. at (cut_of s x c) j) ts)) =
      ap (λ u. cut_of s u c) built.is ∙ cut_of-elements s e.width f ts c ok none l in
      let cells : build (local_shape s c) e.width (or_undefined (cell_by formula (map (λ t. cut_of s t c) ts))) ≡ build (local_shape s c) e.width (λ j. f (map (λ x. at (cut_of s x c) j) ts)) =
      ap (build (local_shape s c) e.width) (λ k j. f (at_cuts s ok none c l j ts k)) in
      is_given local_op seat formula (map (λ t. cut_of s t c) ts) (local_shape s c) (gives_formula e.what e.width (local_dims s) local_op.operands seat) known common extents
      (calm_cuts s ok none c l formula ts built.calm)
      ∙ ap (λ u. Some u) (cells ∙ sym cut_is)

  gives_cut : (shape : List ℕ) (ts : List TensorValue) (t : TensorValue) (st : State TensorValue) (c : ℕ) → c < cell_count s.grid.extents → AllFit tensor_splitting (splits_by s widths) ts
      → given (op_at e (known_dims shape)) alone ts ≡ Some t → HasRows (steps_on s.grid.extents) (range_with_len 0 (length widths)) (cuts tensor_splitting (splits_by s widths) ts) st
      → gives (steps_on s.grid.extents) local_op st c ≡ Some (cut_of s t c)
  unfolding steps_on
  gives_cut shape ts t st c l all is has =
      let sem = steps_on s.grid.extents in
      ap (λ (b : Bool). if b then collected_by sem local_op c st else local_by sem local_op c (st c)) (alone_at e.what (local_dims s))
      ∙ ap (option_and_then (given local_op (seat_of s.grid.extents local_op c))) (has c l ∙ ap (λ us. Some us) (cuts_are s c widths ts all))
      ∙ given_cut shape ts t c (seat_of s.grid.extents local_op c) l all is

  -- The promise of a local part, where the shape is that of the sharding or any other.
  pub element_cut : (shape : List ℕ) → IsLocalPart (steps_on s.grid.extents) tensor_splitting (given (op_at e (known_dims shape)) alone) (splits_by s widths) (record { sharding = s; width = e.width }) (local_op ∷ [])
  unfolding steps_on
  element_cut shape =
      let counted : length (splits_by s widths) ≡ length widths = length-map widths (λ w. record { sharding = s; width = w }) in
      let name : length widths ≡ length (splits_by s widths) + 1 - 1 = omega (arith, counted) in
      record {
        some = omega arith;
        numbered = (ap (λ n. Some n) (sym counted), tt);
        fits = result_fits shape;
        runs = λ ts t st all is has.
            subst (λ n. RunsTo (steps_on s.grid.extents) (local_op ∷ []) st (HasCuts (steps_on s.grid.extents) tensor_splitting n (record { sharding = s; width = e.width }) t)) name
            (one_gives (steps_on s.grid.extents) tensor_splitting local_op st (length widths) (record { sharding = s; width = e.width }) t refl
            (λ c l. gives_cut shape ts t st c l all is (subst (λ n. HasRows (steps_on s.grid.extents) (range_with_len 0 n) (cuts tensor_splitting (splits_by s widths) ts) st) counted has)));
      }
