-- What an operation gives of tensors is a tensor: its cells are of its width.
use Rattle.std.proofs.Common.{◌≡◌, ℕ, zero, suc, ◌+◌, ◌<◌, ◌≤◌, Bool, true, false, List, [], ◌∷◌, ◌++◌, map, length, get_or, take, drop, Option, Some, None, refl, ap, sym, ◌∙◌, arith, subst, inl, inr}
use Rattle.std.proofs.lemmas.Bool.{cases_Bool, cases_eq}
use Rattle.std.proofs.lemmas.Bool.Decides.{nat_tests}
use Rattle.std.proofs.lemmas.Option.{none-some, same_Some}
use Rattle.std.specs.List.{All, AllByRecursion, range_with_len}
use Rattle.std.specs.Prelude.{◌==◌, ◌^◌, IfSome, filter, fold, if◌then◌else◌, option_and_then, option_map, slice_get}
use Rattle.sh_base.specs.Cells.{IsCellOf, bits_of}
use Rattle.sh_base.specs.Shape.{IsIndexOf, cell_count, flat_of, unflat_of}
use Rattle.sh_base.specs.declared.numbers.Cell.{Cell}
use Rattle.sh_base.specs.declared.numbers.Cell.TheVariants.{Undef, Val}
use Rattle.sh_base.specs.declared.numbers.Width.{Width}
use Rattle.sh_base.specs.declared.numbers.Width.TheVariants.{I1}
use Rattle.sh_base.specs.declared.operations.BinOp.{BinOp}
use Rattle.sh_base.specs.declared.operations.BinOp.TheVariants.{Addi, Muli}
use Rattle.sh_base.specs.declared.operations.CastOp.{CastOp}
use Rattle.sh_base.specs.declared.operations.CastOp.TheVariants.{Extsi}
use Rattle.sh_base.specs.declared.operations.Predicate.{Predicate}
use Rattle.sh_base.proofs.ShapeLaws.{unflat_of-within}
use Rattle.sh_int.specs.Elements.{CanCast, cast_of, comparison_of, element_of}
use Rattle.sh_int.proofs.ElementLaws.{cast_of-within, comparison_of-within, element_of-within}
use Rattle.sh_ir.specs.Loops.{LoopMap, Step, Structure, by_region, copied, product_added}
use Rattle.sh_loops.specs.Placing.{AreCellsOf}
use Rattle.sh_loops.specs.Structured.{CanNest, FitsStep, widths_of}
use Rattle.sh_loops.proofs.CellLaws.{built_by, length-cells_by, read_by}
use Rattle.sh_sem.proofs.TensorCells.{cells_fit}
use Rattle.sh_loops.proofs.PlacedLaws.{region_within}
use Rattle.sh_loops.proofs.StepLaws.{extended_same}
use Rattle.sh_loops.proofs.StructuredLaws.{got_within}
use Rattle.sh_loops.specs.Cells.{cells_by}
use Rattle.sh_sem.specs.Given.{built_of, fixed_of, nest_cell, of_one, outs_of}
use Rattle.sh_sem.specs.Nest.{Fixed, Followed, all_followed, extended, extent_of_loop, extents_by, folded_cell, followed, index_at, input_cells, maps_of, points_of, points_to, product_cell, step_cell, visit}
use Rattle.sh_sem.specs.Region.{placed}
use Rattle.sh_sem.specs.Scalars.{chosen, on_one, on_two, on_three}
use Rattle.sh_tensor.specs.Tensor.{IsTensor, TensorValue, at}
use Rattle.sh_eval.proofs.TypeLaws.{one_width}

-- ---- cells of tensors

-- any cell that is read of a tensor is of its width, also past its end
pub at_within : (t : TensorValue) (i : List ℕ) → IsTensor t → IsCellOf t.width (at t i)
unfolding at
at_within t i is = got_within t.width t.cells (flat_of t.shape i) (cells_fit t t.width is refl)

-- at an index of any tensors of one width
pub all_at : (w : Width) (ts : List TensorValue) (i : List ℕ) → AllByRecursion IsTensor ts
    → AllByRecursion (λ (t : TensorValue). t.width ≡ w) ts → AllByRecursion (IsCellOf w) (map (λ t. at t i) ts)
all_at w [] i whole same = tt
all_at w (t ∷ ts) i whole same = (subst (λ v. IsCellOf v (at t i)) same.0 (at_within t i whole.0), all_at w ts i whole.1 same.1)

-- ---- a tensor of cells of its width

pub record IsBuilt (shape : List ℕ) (w : Width) (t : TensorValue) : Type 0 where
  pub shape_is : t.shape ≡ shape
  pub width_is : t.width ≡ w
  pub whole : IsTensor t

module _ (shape : List ℕ) (w : Width) (cell : List ℕ → Option Cell)
    (within : (i : List ℕ) (c : Cell) → cell i ≡ Some c → IsCellOf w c) where
  built_whole : (cells : List Cell) → cells_by (λ k. cell (unflat_of shape k)) (cell_count shape) ≡ Some cells
      → IsTensor (record { shape = shape; width = w; cells = cells })
  unfolding at
  built_whole cells e =
      let counted = length-cells_by (λ k. cell (unflat_of shape k)) (cell_count shape) cells e in
      let all : All (IsCellOf w) cells = λ k d l. within (unflat_of shape k) (get_or cells k d)
      (read_by (λ k. cell (unflat_of shape k)) (cell_count shape) k cells d e (omega (arith, l, counted))) in
      record { counted = counted; fitting = λ i is. got_within w cells (flat_of shape i) all }

  built_from : (o : Option (List Cell)) → cells_by (λ k. cell (unflat_of shape k)) (cell_count shape) ≡ o → (t : TensorValue)
      → option_map (λ cs. record { shape = shape; width = w; cells = cs }) o ≡ Some t → IsBuilt shape w t
  built_from None e t h = absurd (none-some t h)
  built_from (Some cells) e t h =
      let same = same_Some (record { shape = shape; width = w; cells = cells }) t h in
      subst (IsBuilt shape w) same (record { shape_is = refl; width_is = refl; whole = built_whole cells e })

  -- A tensor that is built of such cells is one.
  pub built_typed : (t : TensorValue) → built_of shape w cell ≡ Some t → IsBuilt shape w t
  built_typed t h = built_from (cells_by (λ k. cell (unflat_of shape k)) (cell_count shape)) refl t (sym (built_by shape w cell) ∙ h)

-- ---- formulas

some_within : (w : Width) (o : Option Cell) (c : Cell) → IfSome o (λ a. IsCellOf w a) → o ≡ Some c → IsCellOf w c
some_within w None c h e = absurd (none-some c e)
some_within w (Some a) c h e = subst (IsCellOf w) (same_Some a c e) h

pub binary_within : (op : BinOp) (w : Width) (cells : List Cell) (c : Cell) → AllByRecursion (IsCellOf w) cells
    → on_two (element_of op w) cells ≡ Some c → IsCellOf w c
binary_within op w [] c h e = absurd (none-some c e)
binary_within op w (a ∷ []) c h e = absurd (none-some c e)
binary_within op w (a ∷ b ∷ []) c h e = some_within w (element_of op w a b) c (element_of-within op w a b h.0 h.1.0) e
binary_within op w (a ∷ b ∷ d ∷ cells) c h e = absurd (none-some c e)

pub compare_within : (p : Predicate) (w : Width) (cells : List Cell) (c : Cell)
    → on_two (λ a b. Some (comparison_of p w a b)) cells ≡ Some c → IsCellOf I1 c
compare_within p w [] c e = absurd (none-some c e)
compare_within p w (a ∷ []) c e = absurd (none-some c e)
compare_within p w (a ∷ b ∷ []) c e = subst (IsCellOf I1) (same_Some (comparison_of p w a b) c e) (comparison_of-within p w a b)
compare_within p w (a ∷ b ∷ d ∷ cells) c e = absurd (none-some c e)

chosen_within : (w : Width) (n a b : Cell) → IsCellOf w a → IsCellOf w b → IsCellOf w (chosen n a b)
chosen_within w Undef a b h k = tt
chosen_within w (Val zero) a b h k = k
chosen_within w (Val (suc n)) a b h k =
    let some : (suc n == 0) ≡ false = grind (arith, nat_tests) in
    subst (IsCellOf w) (sym (ap (λ t. if t then b else a) some)) h

pub select_within : (w : Width) (cells : List Cell) (c : Cell) → AllByRecursion (IsCellOf w) (drop 1 cells)
    → on_three (λ n a b. Some (chosen n a b)) cells ≡ Some c → IsCellOf w c
select_within w [] c h e = absurd (none-some c e)
select_within w (n ∷ []) c h e = absurd (none-some c e)
select_within w (n ∷ a ∷ []) c h e = absurd (none-some c e)
select_within w (n ∷ a ∷ b ∷ []) c h e = subst (IsCellOf w) (same_Some (chosen n a b) c e) (chosen_within w n a b h.0 h.1.0)
select_within w (n ∷ a ∷ b ∷ d ∷ cells) c h e = absurd (none-some c e)

pub cast_within : (op : CastOp) (from to : Width) (cells : List Cell) (c : Cell) → CanCast op from to → AllByRecursion (IsCellOf from) cells
    → on_one (λ a. Some (cast_of op from to a)) cells ≡ Some c → IsCellOf to c
cast_within op from to [] c can h e = absurd (none-some c e)
cast_within op from to (a ∷ []) c can h e = subst (IsCellOf to) (same_Some (cast_of op from to a) c e) (cast_of-within op from to a can h.0)
cast_within op from to (a ∷ b ∷ cells) c can h e = absurd (none-some c e)

-- ---- loop points

abbrev pub Small : List ℕ → Type 0
Small = AllByRecursion (λ k. k < 2 ^ 64)

small_index : (shape i : List ℕ) → Small shape → IsIndexOf shape i → Small i
small_index [] [] small is = tt
small_index [] (k ∷ i) small is = absurd is
small_index (n ∷ shape) [] small is = absurd is
small_index (n ∷ shape) (k ∷ i) small is = (let a = small.0 in let b = is.0 in omega (arith, a, b), small_index shape i small.1 is.1)

points_small : (extents : List ℕ) (a count : ℕ) → Small extents → a + count ≤ cell_count extents
    → AllByRecursion Small (map (unflat_of extents) (range_with_len a count))
points_small extents a zero small le = tt
points_small extents a (suc count) small le = (
  small_index extents (unflat_of extents a) small (unflat_of-within extents a (omega (arith, le))),
  points_small extents (a + 1) count small (omega (arith, le)),
)

all_filtered : {X : Type 0} (P : X → Type 0) (q : X → Bool) (xs : List X) → AllByRecursion P xs → AllByRecursion P (filter q xs)
all_filtered P q [] h = tt
all_filtered P q (x ∷ xs) h =
    let rest = all_filtered P q xs h.1 in
    elim (cases_Bool (q x)) [ inl b ↦ rw b (h.0, rest) | inr b ↦ rw b rest ]

followed_small : (dims : LoopMap) (shape : List ℕ) (more : List Followed) → Small shape
    → AllByRecursion (λ (d : Followed). d.extent < 2 ^ 64) more
    → AllByRecursion (λ (d : Followed). d.extent < 2 ^ 64) (followed dims shape ++ more)
followed_small [] shape more small rest = rest
followed_small (loops ∷ dims) [] more small rest = rest
followed_small (loops ∷ dims) (n ∷ shape) more small rest = (small.0, followed_small dims shape more small.1 rest)

all_followed_small : (maps : List LoopMap) (shapes : List (List ℕ)) → AllByRecursion Small shapes
    → AllByRecursion (λ (d : Followed). d.extent < 2 ^ 64) (all_followed maps shapes)
all_followed_small [] shapes small = tt
all_followed_small (dims ∷ maps) [] small = tt
all_followed_small (dims ∷ maps) (shape ∷ shapes) small =
    followed_small dims shape (all_followed maps shapes) small.0 (all_followed_small maps shapes small.1)

loop_small : (dims : List Followed) (l : ℕ) → AllByRecursion (λ (d : Followed). d.extent < 2 ^ 64) dims → extent_of_loop dims l < 2 ^ 64
loop_small [] l small = omega arith
loop_small (d ∷ dims) l small = go _ (loop_small dims l small.1)
  where
    go : (b : Bool) → extent_of_loop dims l < 2 ^ 64 → (if b then d.extent else extent_of_loop dims l) < 2 ^ 64
    go true rest = small.0
    go false rest = rest

loops_small : (dims : List Followed) (a count : ℕ) → AllByRecursion (λ (d : Followed). d.extent < 2 ^ 64) dims
    → Small (map (extent_of_loop dims) (range_with_len a count))
loops_small dims a zero small = tt
loops_small dims a (suc count) small = (loop_small dims a small, loops_small dims (a + 1) count small)

-- loops are no longer than the dimensions of operands
pub extents_small : (s : Structure) (shapes : List (List ℕ)) → AllByRecursion Small shapes → Small (extents_by s shapes)
extents_small s shapes small = loops_small (all_followed (maps_of s) shapes) 0 s.loops (all_followed_small (maps_of s) shapes small)

-- ---- the cells of the inputs

-- each is of the width of its input
inputs_of : (maps : List LoopMap) (ts : List TensorValue) (p : List ℕ) → length maps ≡ length ts → AllByRecursion IsTensor ts
    → AreCellsOf (widths_of ts) (input_cells maps ts p)
inputs_of [] [] p long whole = tt
inputs_of [] (t ∷ ts) p long whole = absurd (omega (arith, long))
inputs_of (dims ∷ maps) [] p long whole = absurd (omega (arith, long))
inputs_of (dims ∷ maps) (t ∷ ts) p long whole = (
  at_within t (index_at dims p) whole.0,
  inputs_of maps ts p
      (let all : suc (length maps) ≡ suc (length ts) = long in omega (arith, all)) whole.1,
)

scalars_of : (ts : List TensorValue) → AllByRecursion IsTensor ts → AreCellsOf (widths_of ts) (map (λ t. at t []) ts)
scalars_of [] whole = tt
scalars_of (t ∷ ts) whole = (at_within t [] whole.0, scalars_of ts whole.1)

cells_together : (vs ws : List Width) (cs ds : List Cell) → AreCellsOf vs cs → AreCellsOf ws ds → AreCellsOf (vs ++ ws) (cs ++ ds)
cells_together [] ws [] ds h k = k
cells_together [] ws (c ∷ cs) ds h k = absurd h
cells_together (v ∷ vs) ws [] ds h k = absurd h
cells_together (v ∷ vs) ws (c ∷ cs) ds h k = (h.0, cells_together vs ws cs ds h.1 k)

-- ---- one step

first_within : (w : Width) (widths : List Width) (cells : List Cell) (c : Cell) → AllByRecursion (λ v. v ≡ w) widths
    → AreCellsOf widths cells → slice_get cells 0 ≡ Some c → IsCellOf w c
first_within w [] [] c same h e = absurd (none-some c e)
first_within w [] (a ∷ cells) c same h e = absurd h
first_within w (v ∷ widths) [] c same h e = absurd h
first_within w (v ∷ widths) (a ∷ cells) c same h e = subst (IsCellOf w) (same_Some a c e) (subst (λ u. IsCellOf u a) same.0 h.0)

-- a cell that is extended by sign is of the wider width
extended_within : (v w : Width) (a : Cell) → bits_of v ≤ bits_of w → IsCellOf v a → IsCellOf w (cast_of Extsi v w a)
extended_within v w a le h =
    elim (cases_eq (bits_of v) (bits_of w)) [
      | inl same ↦
          let is : v ≡ w = one_width v w (grind (arith, nat_tests)) in
          subst (λ u. IsCellOf u (cast_of Extsi v u a)) is (subst (IsCellOf v) (sym (extended_same v a h)) h)
      | inr other ↦ cast_of-within Extsi v w a (omega (arith, le, other)) h
    ]

product_within : (x : Fixed) (cells : List Cell) (so_far c : Cell) → AllByRecursion (λ v. bits_of v ≤ bits_of x.width) x.widths
    → AreCellsOf x.widths cells → IsCellOf x.width so_far
    → option_and_then (element_of Addi x.width so_far) (product_cell x cells) ≡ Some c → IsCellOf x.width c
product_within x cells so_far c fits h here e = go x.widths cells fits h refl e
  where
    added : (o : Option Cell) → IfSome o (λ a. IsCellOf x.width a) → option_and_then (element_of Addi x.width so_far) o ≡ Some c
        → IsCellOf x.width c
    added None is f = absurd (none-some c f)
    added (Some a) is f = some_within x.width (element_of Addi x.width so_far a) c (element_of-within Addi x.width so_far a here is) f

    go : (widths : List Width) (cells : List Cell) → AllByRecursion (λ v. bits_of v ≤ bits_of x.width) widths → AreCellsOf widths cells
        → widths ≡ x.widths
        → option_and_then (element_of Addi x.width so_far) (product_cell x cells) ≡ Some c → IsCellOf x.width c
    go widths [] fits h is f = absurd (none-some c f)
    go widths (a ∷ []) fits h is f = absurd (none-some c f)
    go [] (a ∷ b ∷ []) fits h is f = absurd h
    go (v ∷ []) (a ∷ b ∷ []) fits h is f = absurd h.1
    go (v ∷ u ∷ widths) (a ∷ b ∷ []) fits h is f =
        let first : IsCellOf x.width (extended x 0 a) =
        subst (λ (ws : List Width). IsCellOf x.width (cast_of Extsi (get_or ws 0 x.width) x.width a)) is
        (extended_within v x.width a fits.0 h.0) in
        let second : IsCellOf x.width (extended x 1 b) =
        subst (λ (ws : List Width). IsCellOf x.width (cast_of Extsi (get_or ws 1 x.width) x.width b)) is
        (extended_within u x.width b fits.1.0 h.1.0) in
        added (element_of Muli x.width (extended x 0 a) (extended x 1 b))
        (element_of-within Muli x.width (extended x 0 a) (extended x 1 b) first second) f
    go widths (a ∷ b ∷ d ∷ cells) fits h is f = absurd (none-some c f)

-- the next value of the output's cell is of its width
step_within : (step : Step) (x : Fixed) (scalars : List Width) (p : List ℕ) (cells : List Cell) (so_far c : Cell)
    → FitsStep step x.widths x.width x.captured scalars → AreCellsOf x.widths cells
    → AreCellsOf scalars x.scalars → Small p → IsCellOf x.width so_far → step_cell step x p cells so_far ≡ Some c → IsCellOf x.width c
step_within copied x scalars p cells so_far c fits h k small here e = first_within x.width x.widths cells c fits h e
step_within product_added x scalars p cells so_far c fits h k small here e = product_within x cells so_far c fits h here e
step_within (by_region body) x scalars p cells so_far c fits h k small here e =
    region_within (placed x.captured body) (scalars ++ x.widths ++ x.width ∷ []) x.width p (x.scalars ++ cells ++ so_far ∷ []) c fits
    (cells_together (scalars ++ x.widths) (x.width ∷ []) (x.scalars ++ cells) (so_far ∷ [])
    (cells_together scalars x.widths x.scalars cells k h) (here, tt)) small e

-- ---- the fold

-- what each step keeps, the fold keeps
fold_within : {X : Type 0} (w : Width) (F : Option Cell → X → Option Cell) (P : X → Type 0) (points : List X) (o : Option Cell) (c : Cell)
    → ((o : Option Cell) (p : X) → P p → IfSome o (IsCellOf w) → IfSome (F o p) (IsCellOf w)) → AllByRecursion P points
    → IfSome o (IsCellOf w) → fold F o points ≡ Some c → IsCellOf w c
fold_within w F P [] o c step all here e = some_within w o c here e
fold_within w F P (p ∷ points) o c step all here e = fold_within w F P points (F o p) c step all.1 (step o p all.0 here) e

if_some : (w : Width) (o : Option Cell) → ((c : Cell) → o ≡ Some c → IsCellOf w c) → IfSome o (IsCellOf w)
if_some w None h = tt
if_some w (Some c) h = h c refl

folded_within : (s : Structure) (x : Fixed) (scalars : List Width) (extents : List ℕ) (ins : List TensorValue) (outs : TensorValue)
    (i : List ℕ) (c : Cell) → FitsStep s.step x.widths x.width x.captured scalars
    → AreCellsOf scalars x.scalars → length s.inputs ≡ length ins → AllByRecursion IsTensor ins → x.widths ≡ widths_of ins → IsTensor outs
    → outs.width ≡ x.width → Small extents
    → folded_cell s x extents ins outs i ≡ Some c → IsCellOf x.width c
unfolding folded_cell
folded_within s x scalars extents ins outs i c fits k long whole widths out same small e =
    fold_within x.width (visit s x ins) Small (points_to s extents i) (Some (at outs i)) c (λ o p little here. one o p little here)
    (all_filtered Small _ (points_of extents) (points_small extents 0 (cell_count extents) small (omega arith)))
    (subst (λ v. IsCellOf v (at outs i)) same (at_within outs i out)) e
  where
    one : (o : Option Cell) (p : List ℕ) → Small p → IfSome o (IsCellOf x.width) → IfSome (visit s x ins o p) (IsCellOf x.width)
    one None p little here = tt
    one (Some a) p little here =
        let cells : AreCellsOf x.widths (input_cells s.inputs ins p) = subst (λ ws. AreCellsOf ws (input_cells s.inputs ins p)) (sym widths)
        (inputs_of s.inputs ins p long whole) in
        if_some x.width (step_cell s.step x p (input_cells s.inputs ins p) a)
        (λ b found. step_within s.step x scalars p (input_cells s.inputs ins p) a b fits cells k little here found)

-- ---- structured operations

all_taken : {X : Type 0} (P : X → Type 0) (n : ℕ) (xs : List X) → AllByRecursion P xs → AllByRecursion P (take n xs)
all_taken P zero xs h = tt
all_taken P (suc n) [] h = tt
all_taken P (suc n) (x ∷ xs) h = (h.0, all_taken P n xs h.1)

all_dropped : {X : Type 0} (P : X → Type 0) (n : ℕ) (xs : List X) → AllByRecursion P xs → AllByRecursion P (drop n xs)
all_dropped P zero xs h = h
all_dropped P (suc n) [] h = tt
all_dropped P (suc n) (x ∷ xs) h = all_dropped P n xs h.1

taken_long : {X : Type 0} (n : ℕ) (xs ys : List X) (x : X) → take 1 (drop n xs) ≡ x ∷ ys → length (take n xs) ≡ n
taken_long zero xs ys x e = refl
taken_long (suc n) [] ys x e = absurd (cc)
taken_long (suc n) (y ∷ xs) ys x e = ap suc (taken_long n xs ys x e)

-- The cells of a structured operation are of the width of its result.
pub nest_within : (s : Structure) (operands : List ℕ) (w : Width) (ts : List TensorValue) (i : List ℕ) (c : Cell) → CanNest s operands w ts
    → AllByRecursion IsTensor ts → AllByRecursion Small (map (λ t. t.shape) ts)
    → nest_cell s (drop (length s.inputs + 1) operands) ts i ≡ Some c → IsCellOf w c
nest_within s operands w ts i c can whole small e = go (outs_of s ts) refl e
  where
    captured : List ℕ
    captured = drop (length s.inputs + 1) operands

    cell_of : TensorValue → Option Cell
    cell_of outs = folded_cell s (fixed_of s captured ts outs) (extents_by s (map (λ t. t.shape) ts)) (take (length s.inputs) ts) outs i

    go : (o : List TensorValue) → outs_of s ts ≡ o → of_one cell_of o ≡ Some c → IsCellOf w c
    go [] is f = absurd (none-some c f)
    go (outs ∷ a ∷ others) is f = absurd (none-some c f)
    go (outs ∷ []) is f =
        let width : outs.width ≡ w = (subst (AllByRecursion (λ (t : TensorValue). t.width ≡ w)) is can.output).0 in
        let out : IsTensor outs = (subst (AllByRecursion IsTensor) is
        (all_taken IsTensor 1 (drop (length s.inputs) ts) (all_dropped IsTensor (length s.inputs) ts whole))).0 in
        let rest = drop (length s.inputs + 1) ts in
        let step : FitsStep s.step (widths_of (take (length s.inputs) ts)) outs.width captured (widths_of rest) =
        subst (λ v. FitsStep s.step (widths_of (take (length s.inputs) ts)) v captured (widths_of rest)) (sym width) can.step in
        subst (λ v. IsCellOf v c) width
        (folded_within s (fixed_of s captured ts outs) (widths_of rest) (extents_by s (map (λ t. t.shape) ts))
        (take (length s.inputs) ts) outs i c step
        (scalars_of rest (all_dropped IsTensor (length s.inputs + 1) ts whole)) (sym (taken_long (length s.inputs) ts [] outs is))
        (all_taken IsTensor (length s.inputs) ts whole) refl out refl
        (extents_small s (map (λ t. t.shape) ts) small) f)
