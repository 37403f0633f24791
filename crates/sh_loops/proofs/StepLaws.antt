-- Steps at loop points.
use Rattle.std.proofs.Common.{◌≡◌, ◌≢◌, ℕ, zero, suc, ◌+◌, ◌<◌, ◌≤◌, List, [], ◌∷◌, ◌++◌, length, get_or, drop, Some, None, ap, ap₂, sym, ◌∙◌, arith, refl, add-one, append_assoc, append-nil}
use Rattle.std.specs.Prelude.{◌^◌, Bool, IfSome, Option, option_and_then, slice_get, true}
use Rattle.std.specs.List.{AllByRecursion}
use Rattle.std.proofs.lemmas.List.{drop_all}
use Rattle.sh_base.specs.Cells.{IsCellOf, bits_of}
use Rattle.sh_base.specs.declared.numbers.Cell.{Cell}
use Rattle.sh_base.specs.declared.numbers.Cell.TheVariants.{Undef, Val}
use Rattle.sh_base.specs.declared.numbers.Width.{Width}
use Rattle.sh_base.specs.declared.numbers.Width.TheVariants.{I1, I8, I16, I32, I64}
use Rattle.sh_base.specs.declared.operations.CastOp.TheVariants.{Extsi}
use Rattle.sh_base.specs.Shape.{cell_count, IsIndexOf, flat_of, unflat_of}
use Rattle.sh_ir.specs.Loops.{LoopMap}
use Rattle.sh_tensor.specs.Tensor.{TensorValue, at}
use Rattle.sh_sem.specs.Nest.{index_at, input_cells}
use Rattle.sh_loops.specs.Cells.{cells_by}
use Rattle.sh_loops.specs.Folds.{IsVisited}
use Rattle.sh_loops.proofs.FoldLaws.{all_visited, one_stuck}
use Rattle.sh_loops.specs.declared.steps.PointStep as declared
use Rattle.sh_loops.specs.declared.steps.PointStep.TheVariants.{Copied, ProductAdded, Yielded}
use Rattle.sh_loops.specs.declared.nests.Nest as memory
use Rattle.sh_loops.specs.declared.regions.Region.{Region}
use Rattle.sh_loops.specs.declared.regions.PlacedStep.{PlacedStep}
use Rattle.sh_loops.specs.Regions.{ran, region_given, steps_given}
use Rattle.sh_loops.specs.Nests.{AreInside, TakesRegion, folded_by, next_by, place_at, product_added, visit_at}
use Rattle.sh_int.specs.Elements.{cast_of}
use Rattle.sh_int.proofs.SignedLaws.{reduced-signed_of}

pub widths_apart : (v w : Width) → bits_of v ≤ bits_of w → v ≢ w → bits_of v < bits_of w
widths_apart I1 I1 l ne = absurd (ne refl)
widths_apart I1 I8 l ne = omega arith
widths_apart I1 I16 l ne = omega arith
widths_apart I1 I32 l ne = omega arith
widths_apart I1 I64 l ne = omega arith
widths_apart I8 I1 l ne = absurd (omega (arith, l))
widths_apart I8 I8 l ne = absurd (ne refl)
widths_apart I8 I16 l ne = omega arith
widths_apart I8 I32 l ne = omega arith
widths_apart I8 I64 l ne = omega arith
widths_apart I16 I1 l ne = absurd (omega (arith, l))
widths_apart I16 I8 l ne = absurd (omega (arith, l))
widths_apart I16 I16 l ne = absurd (ne refl)
widths_apart I16 I32 l ne = omega arith
widths_apart I16 I64 l ne = omega arith
widths_apart I32 I1 l ne = absurd (omega (arith, l))
widths_apart I32 I8 l ne = absurd (omega (arith, l))
widths_apart I32 I16 l ne = absurd (omega (arith, l))
widths_apart I32 I32 l ne = absurd (ne refl)
widths_apart I32 I64 l ne = omega arith
widths_apart I64 I1 l ne = absurd (omega (arith, l))
widths_apart I64 I8 l ne = absurd (omega (arith, l))
widths_apart I64 I16 l ne = absurd (omega (arith, l))
widths_apart I64 I32 l ne = absurd (omega (arith, l))
widths_apart I64 I64 l ne = absurd (ne refl)

-- to its own width a cell is extended to itself
pub extended_same : (w : Width) (a : Cell) → IsCellOf w a → cast_of Extsi w w a ≡ a
unfolding cast_of
extended_same w Undef h = refl
extended_same w (Val x) h = ap (λ y. Val y) (reduced-signed_of w x h)

-- ---- products

pub no_pair : (step : declared.PointStep) (first second w : Width) (p : List ℕ) (cells : List Cell) (so_far : Cell) → step ≡ ProductAdded first second → length cells ≢ 2
    → next_by step w p cells so_far ≡ None
unfolding next_by
no_pair step first second w p [] so_far e l = ap (λ s. next_by s w p [] so_far) e
no_pair step first second w p (a ∷ []) so_far e l = ap (λ s. next_by s w p (a ∷ []) so_far) e
no_pair step first second w p (a ∷ b ∷ []) so_far e l = absurd (l refl)
no_pair step first second w p (a ∷ b ∷ c ∷ cells) so_far e l = ap (λ s. next_by s w p (a ∷ b ∷ c ∷ cells) so_far) e

pub pair_next : (step : declared.PointStep) (first second w : Width) (p : List ℕ) (cells : List Cell) (d e so_far : Cell) → step ≡ ProductAdded first second → length cells ≡ 2
    → product_added w (cast_of Extsi first w (get_or cells 0 d)) (cast_of Extsi second w (get_or cells 1 e)) so_far ≡ next_by step w p cells so_far
unfolding next_by
pair_next step first second w p [] d e so_far is l = absurd (omega (arith, l))
pair_next step first second w p (a ∷ []) d e so_far is l = absurd (omega (arith, l))
pair_next step first second w p (a ∷ b ∷ []) d e so_far is l = ap (λ s. next_by s w p (a ∷ b ∷ []) so_far) (sym is)
pair_next step first second w p (a ∷ b ∷ c ∷ cells) d e so_far is l = absurd (omega (arith, l))

pub copied_next : (step : declared.PointStep) (w : Width) (p : List ℕ) (cells : List Cell) (so_far : Cell) → step ≡ Copied → slice_get cells 0 ≡ next_by step w p cells so_far
unfolding next_by
copied_next step w p cells so_far e = ap (λ s. next_by s w p cells so_far) (sym e)

pub yielded_next : (step : declared.PointStep) (r : Region) (w : Width) (p q : List ℕ) (cells : List Cell) (so_far : Cell) → step ≡ Yielded r → q ≡ p
    → region_given r q (r.scalars ++ cells ++ so_far ∷ []) ≡ next_by step w p cells so_far
unfolding next_by
yielded_next step r w p q cells so_far e same =
    ap (λ x. region_given r x (r.scalars ++ cells ++ so_far ∷ [])) same ∙ ap (λ s. next_by s w p cells so_far) (sym e)

-- what is read once a region has run
pub region_read : (r : Region) (point : List ℕ) (view after start : List Cell) (steps : List PlacedStep) (scalars cells : List Cell) (so_far : Cell) (there : Bool) (o : Option Cell)
    → o ≡ option_and_then (slice_get view) r.yields → view ≡ after → there ≡ true → ran there after ≡ steps_given steps point start → steps ≡ r.steps → start ≡ scalars ++ cells ++ so_far ∷ []
    → scalars ≡ r.scalars → o ≡ region_given r point (r.scalars ++ cells ++ so_far ∷ [])
unfolding region_given
region_read r point view after start steps scalars cells so_far there o read seen ran_all run ops block held =
    let value : Some after ≡ steps_given r.steps point (r.scalars ++ cells ++ so_far ∷ []) =
    ap (λ t. ran t after) (sym ran_all) ∙ run
    ∙ ap₂ (λ ss cs. steps_given ss point cs) ops (block ∙ ap (λ s. s ++ cells ++ so_far ∷ []) held) in
    read ∙ ap (λ v. option_and_then (slice_get v) r.yields) seen
    ∙ ap (option_and_then (λ cs. option_and_then (slice_get cs) r.yields)) value

some_cell : (w : Width) (o : Option Cell) → ((c : Cell) → o ≡ Some c → IsCellOf w c) → IfSome o (IsCellOf w)
some_cell w None h = tt
some_cell w (Some c) h = h c refl

pub all_small : (point : List ℕ) → ((i : ℕ) → get_or point i 0 < 18446744073709551616) → AllByRecursion (λ k. k < 2 ^ 64) point
all_small [] h = tt
all_small (k ∷ point) h = (h 0, all_small point (λ i. h (suc i)))

pub yielded_within : (r : Region) (w : Width) (point : List ℕ) (cells : List Cell) (so_far : Cell) (o : Option Cell) → TakesRegion r w cells
    → ((i : ℕ) → get_or point i 0 < 18446744073709551616) → IsCellOf w so_far → o ≡ region_given r point (r.scalars ++ cells ++ so_far ∷ []) → IfSome o (IsCellOf w)
yielded_within r w point cells so_far o takes small here is = some_cell w o (λ c k. takes.within point so_far c (all_small point small) here (sym is ∙ k))

-- what a step that is stuck so far goes on with
pub stays_stuck : (nest : memory.Nest) (extents : List ℕ) (w : Width) (ins : List TensorValue) (k : ℕ) → visit_at nest extents w ins k None ≡ None
unfolding visit_at
stays_stuck nest extents w ins k = refl

pub goes_on : (nest : memory.Nest) (extents : List ℕ) (w : Width) (ins : List TensorValue) (k : ℕ) (point : List ℕ) (cells : List Cell) (c : Cell)
    → point ≡ unflat_of extents k → cells ≡ input_cells nest.inputs ins point → next_by nest.step w point cells c ≡ visit_at nest extents w ins k (Some c)
unfolding visit_at
goes_on nest extents w ins k point cells c at e =
    ap (λ cs. next_by nest.step w point cs c) e ∙ ap (λ p. next_by nest.step w p (input_cells nest.inputs ins p) c) at

pub goes_to : (nest : memory.Nest) (extents shape : List ℕ) (k : ℕ) (point : List ℕ) → point ≡ unflat_of extents k
    → flat_of shape (index_at nest.output point) ≡ place_at nest extents shape k
unfolding place_at
goes_to nest extents shape k point at = ap (λ p. flat_of shape (index_at nest.output p)) at

-- ---- the cells of the inputs

pub inside_length : (maps : List LoopMap) (ts : List TensorValue) (p : List ℕ) → AreInside maps ts p → length maps ≡ length ts
inside_length [] [] p h = refl
inside_length [] (t ∷ ts) p h = absurd h
inside_length (dims ∷ maps) [] p h = absurd h
inside_length (dims ∷ maps) (t ∷ ts) p h = ap suc (inside_length maps ts p h.1)

pub inside_at : (maps : List LoopMap) (ts : List TensorValue) (p : List ℕ) (i : ℕ) (d : LoopMap) (u : TensorValue) → AreInside maps ts p → i < length maps
    → IsIndexOf (get_or ts i u).shape (index_at (get_or maps i d) p)
inside_at [] ts p i d u h l = absurd (omega (arith, l))
inside_at (dims ∷ maps) [] p i d u h l = absurd h
inside_at (dims ∷ maps) (t ∷ ts) p zero d u h l = h.0
inside_at (dims ∷ maps) (t ∷ ts) p (suc i) d u h l = inside_at maps ts p i d u h.1 (omega (arith, l))

inputs_more : (maps : List LoopMap) (ts : List TensorValue) (p : List ℕ) (i : ℕ) (d : LoopMap) (u : TensorValue) → AreInside maps ts p → i < length maps
    → input_cells (drop i maps) (drop i ts) p ≡ at (get_or ts i u) (index_at (get_or maps i d) p) ∷ input_cells (drop (suc i) maps) (drop (suc i) ts) p
inputs_more [] ts p i d u h l = absurd (omega (arith, l))
inputs_more (dims ∷ maps) [] p i d u h l = absurd h
inputs_more (dims ∷ maps) (t ∷ ts) p zero d u h l = refl
inputs_more (dims ∷ maps) (t ∷ ts) p (suc i) d u h l = inputs_more maps ts p i d u h.1 (omega (arith, l))

pub gathered : (maps : List LoopMap) (ts : List TensorValue) (p : List ℕ) (i : ℕ) (dims : LoopMap) (t : TensorValue) (done new : List Cell) (c : Cell)
    → AreInside maps ts p → i < length maps → dims ≡ get_or maps i dims → t ≡ get_or ts i t → c ≡ at t (index_at dims p) → new ≡ done ++ c ∷ []
    → done ++ input_cells (drop i maps) (drop i ts) p ≡ input_cells maps ts p → new ++ input_cells (drop (i + 1) maps) (drop (i + 1) ts) p ≡ input_cells maps ts p
gathered maps ts p i dims t done new c inside l md te ce pushed h =
    ap (λ n. new ++ input_cells (drop n maps) (drop n ts) p) (add-one i)
    ∙ ap (λ z. z ++ input_cells (drop (suc i) maps) (drop (suc i) ts) p) pushed
    ∙ append_assoc done (c ∷ []) (input_cells (drop (suc i) maps) (drop (suc i) ts) p)
    ∙ ap (λ z. done ++ z)
    (ap (λ x. x ∷ input_cells (drop (suc i) maps) (drop (suc i) ts) p) (ce ∙ ap₂ (λ u ds. at u (index_at ds p)) te md)
    ∙ sym (inputs_more maps ts p i dims t inside l))
    ∙ h

pub all_gathered : (maps : List LoopMap) (ts : List TensorValue) (p : List ℕ) (i : ℕ) (cells : List Cell) → AreInside maps ts p → length maps ≤ i
    → cells ++ input_cells (drop i maps) (drop i ts) p ≡ input_cells maps ts p → cells ≡ input_cells maps ts p
all_gathered maps ts p i cells inside l h =
    sym (append-nil cells) ∙ ap (λ z. cells ++ z) (sym (ap (λ ms. input_cells ms (drop i ts) p) (drop_all i maps l))) ∙ h

-- ---- one point of the fold

pub step_taken : (nest : memory.Nest) (extents : List ℕ) (w v : Width) (ins : List TensorValue) (k : ℕ) (point : List ℕ) (maps : List LoopMap) (inputs cells : List Cell) (a b : Cell)
    → v ≡ w → point ≡ unflat_of extents k → maps ≡ nest.inputs → inputs ≡ input_cells maps ins point → cells ≡ inputs → b ≡ a
    → next_by nest.step v point cells b ≡ visit_at nest extents w ins k (Some a)
step_taken nest extents w v ins k point maps inputs cells a b width at mapped read same so_far =
    ap (λ u. next_by nest.step u point cells b) width
    ∙ ap₂ (λ cs c. next_by nest.step w point cs c) same so_far
    ∙ goes_on nest extents w ins k point inputs a at (read ∙ ap (λ ms. input_cells ms ins point) mapped)

pub place_taken : (nest : memory.Nest) (extents shape : List ℕ) (k : ℕ) (point : List ℕ) (dims : LoopMap) (p : ℕ)
    → point ≡ unflat_of extents k → dims ≡ nest.output → p ≡ flat_of shape (index_at dims point) → p ≡ place_at nest extents shape k
place_taken nest extents shape k point dims p at mapped e =
    e ∙ ap (λ ds. flat_of shape (index_at ds point)) mapped ∙ goes_to nest extents shape k point at

pub all_folded : (nest : memory.Nest) (extents : List ℕ) (ins : List TensorValue) (outs : TensorValue) (n count : ℕ) (cells : List Cell)
    → IsVisited (visit_at nest extents outs.width ins) (place_at nest extents outs.shape) (IsCellOf outs.width) outs.cells n cells → n ≡ count → length outs.cells ≡ cell_count outs.shape
    → cells_by (folded_by nest extents ins outs count) (cell_count outs.shape) ≡ Some cells
unfolding folded_by
all_folded nest extents ins outs n count cells h e counted =
    ap₂ (λ m l. cells_by (folded_by nest extents ins outs m) l) (sym e) (sym counted)
    ∙ all_visited (visit_at nest extents outs.width ins) (place_at nest extents outs.shape) (IsCellOf outs.width) outs.cells n cells h

pub fold_stuck : (nest : memory.Nest) (extents : List ℕ) (ins : List TensorValue) (outs : TensorValue) (n count p : ℕ) (cells : List Cell)
    → IsVisited (visit_at nest extents outs.width ins) (place_at nest extents outs.shape) (IsCellOf outs.width) outs.cells n cells → n < count → length outs.cells ≡ cell_count outs.shape
    → p ≡ place_at nest extents outs.shape n → p < cell_count outs.shape → None ≡ visit_at nest extents outs.width ins n (Some (get_or cells p Undef))
    → cells_by (folded_by nest extents ins outs count) (cell_count outs.shape) ≡ None
unfolding folded_by
fold_stuck nest extents ins outs n count p cells h before counted at below e =
    ap (cells_by (folded_by nest extents ins outs count)) (sym counted)
    ∙ one_stuck (visit_at nest extents outs.width ins) (place_at nest extents outs.shape) (stays_stuck nest extents outs.width ins) (IsCellOf outs.width) outs.cells n count cells p h at (rw counted below) before e
