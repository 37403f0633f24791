-- A structured operation gives what its nest in memory gives: the steps stand for one another, the
-- operands have the cells that are read, and the operands' list is parted as memory parts it.
use Rattle.std.proofs.Common.{◌≡◌, ℕ, zero, suc, ◌+◌, ◌<◌, ◌≤◌, Bool, true, false, List, [], ◌∷◌, ◌++◌, map, length, get_or, take, drop, Option, Some, None, refl, ap, ap₂, sym, ◌∙◌, arith, subst, add-one, inl, inr}
use Rattle.std.specs.Prelude.{◌==◌, ◌&&◌, ◌^◌, All, IfSome, option_map, option_and_then, slice_get, unwrap_or, if◌then◌else◌}
use Rattle.std.proofs.lemmas.List.{length-map}
use Rattle.std.specs.List.{AllByRecursion}
use Rattle.sh_base.specs.Cells.{IsCellOf, bits_of}
use Rattle.sh_base.specs.Shape.{cell_count, IsIndexOf, flat_of, max_cells, unflat_of}
use Rattle.sh_base.specs.declared.numbers.Cell.{Cell}
use Rattle.sh_base.specs.declared.numbers.Cell.TheVariants.{Undef}
use Rattle.sh_base.specs.declared.numbers.Width.{Width}
use Rattle.sh_ir.specs.Loops.{LoopMap, Step, Structure, copied, product_added, by_region, structure_of}
use Rattle.sh_tensor.specs.Tensor.{IsHeld, IsTensor, TensorValue, at}
use Rattle.sh_loops.specs.declared.steps.PointStep as declared
use Rattle.sh_loops.specs.declared.steps.PointStep.TheVariants.{Copied, ProductAdded, Yielded}
use Rattle.sh_loops.specs.declared.loops.Loops as loops_memory
use Rattle.sh_loops.specs.declared.nests.Nest as memory
use Rattle.sh_ir.specs.declared.operations.OpKind.{OpKind}
use Rattle.sh_loops.specs.Structures.{loops_in}
use Rattle.sh_loops.specs.Sizes.{agree_on, agreed_extents, extent_by, extents_with}
use Rattle.std.proofs.lemmas.Bool.{cases_Bool}
use Rattle.std.proofs.lemmas.Option.{none-some, same_Some}
use Rattle.sh_loops.specs.Nests.{AreInside, CanFold, StandsFor, TakesCells, all_follow_loops, next_by, structured_value}
use Rattle.sh_loops.specs.NestSizes.{nest_size}
use Rattle.sh_loops.specs.declared.nest_sizes.NestSize.{NestSize}
use Rattle.sh_loops.specs.Placing.{AreCellsOf}
use Rattle.sh_loops.specs.Structured.{CanFoldParts, CanNest, FitsStep, IsOfStructure, IsStep, fixed_by, value_by, widths_of}
use Rattle.sh_loops.proofs.CountLaws.{points_below}
use Rattle.sh_sem.proofs.TensorCells.{cells_fit}
use Rattle.sh_loops.proofs.InsideLaws.{agreeing_inside}
use Rattle.std.specs.List.{range_with_len}
use Rattle.sh_loops.proofs.PlacedLaws.{alike_region, alike_runs, can_run, region_within}
use Rattle.sh_sem.specs.Given.{built_of, fixed_of, gives_nest, nest_cell, nest_shape, of_one, outs_of}
use Rattle.sh_sem.specs.Nest.{Fixed, all_followed, extent_of_loop, extents_by, folded_cell, followed, has_room, have_ranks, index_at, input_cells, maps_of, sizes_agree, step_cell}
use Rattle.sh_sem.specs.Region.{placed, region_cell}

-- ---- steps

product_stands : (x : Fixed) (point : List ℕ) (cells : List Cell) (so_far : Cell)
    → next_by (ProductAdded (get_or x.widths 0 x.width) (get_or x.widths 1 x.width)) x.width point cells so_far ≡ step_cell product_added x point cells so_far
unfolding next_by
product_stands x point [] so_far = refl
product_stands x point (a ∷ []) so_far = refl
product_stands x point (a ∷ b ∷ []) so_far = refl
product_stands x point (a ∷ b ∷ c ∷ cells) so_far = refl

pub step_stands : (p : declared.PointStep) (step : Step) (x : Fixed) → IsStep p step x.widths x.width x.captured x.scalars
    → (point : List ℕ) (cells : List Cell) (so_far : Cell) → next_by p x.width point cells so_far ≡ step_cell step x point cells so_far
unfolding next_by
step_stands p copied x is point cells so_far = ap (λ q. next_by q x.width point cells so_far) is
step_stands p product_added x is point cells so_far = ap (λ q. next_by q x.width point cells so_far) is ∙ product_stands x point cells so_far
step_stands p (by_region body) x is point cells so_far =
    ap (λ q. next_by q x.width point cells so_far) is.step_is
    ∙ alike_region is.region (placed x.captured body) point (is.region.scalars ++ cells ++ so_far ∷ []) is.stands
    ∙ ap (λ scalars. region_cell (placed x.captured body) point (scalars ++ cells ++ so_far ∷ [])) is.scalars_are

-- ---- reads

flat_none : (shape : List ℕ) → flat_of shape [] ≡ 0
flat_none [] = refl
flat_none (n ∷ shape) = refl

first_or : (cells : List Cell) → unwrap_or (slice_get cells 0) Undef ≡ get_or cells 0 Undef
first_or [] = refl
first_or (c ∷ cells) = refl

-- the cell of a scalar
pub first_read : (t : TensorValue) (cells : List Cell) (o : Option Cell) → cells ≡ t.cells → o ≡ slice_get cells 0 → unwrap_or o Undef ≡ at t []
unfolding at
first_read t cells o are is =
    ap (λ x. unwrap_or x Undef) (is ∙ ap (λ cs. slice_get cs 0) are) ∙ first_or t.cells ∙ ap (λ n. get_or t.cells n Undef) (sym (flat_none t.shape))

-- the width of an input
pub width_read : {B : Type 0} (f : B → TensorValue) (xs : List B) (k : ℕ) (w : Width) (x : B) → k < length xs → x ≡ get_or xs k x
    → (f x).width ≡ get_or (widths_of (map f xs)) k w
width_read f [] k w x l e = absurd (omega (arith, l))
width_read f (y ∷ xs) zero w x l e = ap (λ z. (f z).width) e
width_read f (y ∷ xs) (suc k) w x l e = width_read f xs k w x (omega (arith, l)) e

-- ---- cells of widths

cells_together : (vs ws : List Width) (cs ds : List Cell) → AreCellsOf vs cs → AreCellsOf ws ds → AreCellsOf (vs ++ ws) (cs ++ ds)
cells_together [] ws [] ds h k = k
cells_together [] ws (c ∷ cs) ds h k = absurd h
cells_together (v ∷ vs) ws [] ds h k = absurd h
cells_together (v ∷ vs) ws (c ∷ cs) ds h k = (h.0, cells_together vs ws cs ds h.1 k)

all_of_one : (w : Width) (widths : List Width) (cells : List Cell) → AllByRecursion (λ v. v ≡ w) widths → AreCellsOf widths cells → All (IsCellOf w) cells
all_of_one w [] [] fits h = λ k d l. absurd (omega (arith, l))
all_of_one w [] (c ∷ cells) fits h = absurd h
all_of_one w (v ∷ widths) [] fits h = absurd h
all_of_one w (v ∷ widths) (c ∷ cells) fits h = go (all_of_one w widths cells fits.1 h.1)
  where
    go : All (IsCellOf w) cells → (k : ℕ) (d : Cell) → k < length (c ∷ cells) → IsCellOf w (get_or (c ∷ cells) k d)
    go rest zero d l = subst (λ u. IsCellOf u c) fits.0 h.0
    go rest (suc k) d l = rest k d (omega (arith, l))

factors : (w : Width) (widths : List Width) (cells : List Cell) → AllByRecursion (λ v. bits_of v ≤ bits_of w) widths → AreCellsOf widths cells
    → TakesCells (ProductAdded (get_or widths 0 w) (get_or widths 1 w)) w cells
factors w [] [] fits h = tt
factors w [] (c ∷ cells) fits h = absurd h
factors w (v ∷ widths) [] fits h = absurd h
factors w (v ∷ []) (c ∷ []) fits h = tt
factors w (v ∷ []) (c ∷ d ∷ cells) fits h = absurd h.1
factors w (v ∷ u ∷ widths) (c ∷ []) fits h = absurd h.1
factors w (v ∷ u ∷ []) (c ∷ d ∷ []) fits h = ((fits.0, fits.1.0), (h.0, h.1.0))
factors w (v ∷ u ∷ t ∷ widths) (c ∷ d ∷ []) fits h = absurd h.1.1
factors w (v ∷ u ∷ widths) (c ∷ d ∷ e ∷ cells) fits h = tt

region_takes : (p : declared.PointStep) (x : Fixed) (scalars : List Width) (cells : List Cell) → (step : Step) → IsStep p step x.widths x.width x.captured x.scalars
    → FitsStep step x.widths x.width x.captured scalars → AreCellsOf x.widths cells → AreCellsOf scalars x.scalars → TakesCells p x.width cells
region_takes p x scalars cells copied is fits h k = subst (λ q. TakesCells q x.width cells) (sym is) (all_of_one x.width x.widths cells fits h)
region_takes p x scalars cells product_added is fits h k = subst (λ q. TakesCells q x.width cells) (sym is) (factors x.width x.widths cells fits h)
region_takes p x scalars cells (by_region body) is fits h k =
    subst (λ q. TakesCells q x.width cells) (sym is.step_is)
    (let block : (so_far : Cell) → IsCellOf x.width so_far → AreCellsOf (scalars ++ x.widths ++ x.width ∷ []) (is.region.scalars ++ cells ++ so_far ∷ []) =
    λ so_far here.
    cells_together (scalars ++ x.widths) (x.width ∷ []) (is.region.scalars ++ cells) (so_far ∷ [])
    (cells_together scalars x.widths is.region.scalars cells (subst (AreCellsOf scalars) (sym is.scalars_are) k) h) (here, tt) in
    record {
      run =
          λ point so_far small here.
          alike_runs is.region.steps (placed x.captured body).ops point (is.region.scalars ++ cells ++ so_far ∷ []) is.stands.steps
          (can_run (placed x.captured body).ops (scalars ++ x.widths ++ x.width ∷ []) point (is.region.scalars ++ cells ++ so_far ∷ []) fits.ops (block so_far here) small);
      within =
          λ point so_far c small here e.
          region_within (placed x.captured body) (scalars ++ x.widths ++ x.width ∷ []) x.width point (is.region.scalars ++ cells ++ so_far ∷ []) c fits (block so_far here) small
          (sym (alike_region is.region (placed x.captured body) point (is.region.scalars ++ cells ++ so_far ∷ []) is.stands) ∙ e);
    })

-- ---- the operands' cells

tail_tensors : (t : TensorValue) (ts : List TensorValue) → All IsTensor (t ∷ ts) → All IsTensor ts
tail_tensors t ts all = λ k d l. all (suc k) d (omega (arith, l))

pub inputs_within : (maps : List LoopMap) (ts : List TensorValue) (p : List ℕ) → AreInside maps ts p → All IsTensor ts → AreCellsOf (widths_of ts) (input_cells maps ts p)
inputs_within [] [] p inside all = tt
inputs_within [] (t ∷ ts) p inside all = absurd inside
inputs_within (dims ∷ maps) [] p inside all = absurd inside
inputs_within (dims ∷ maps) (t ∷ ts) p inside all =
    ((all 0 t (omega arith)).fitting (index_at dims p) inside.0, inputs_within maps ts p inside.1 (tail_tensors t ts all))

pub got_within : (w : Width) (cells : List Cell) (k : ℕ) → All (IsCellOf w) cells → IsCellOf w (get_or cells k Undef)
got_within w [] k all = tt
got_within w (c ∷ cells) zero all = all 0 c (omega arith)
got_within w (c ∷ cells) (suc k) all = got_within w cells k (λ i d l. all (suc i) d (omega (arith, l)))

scalar_within : (t : TensorValue) → IsTensor t → IsCellOf t.width (at t [])
unfolding at
scalar_within t is = got_within t.width t.cells (flat_of t.shape []) (cells_fit t t.width is refl)

pub scalars_within : (ts : List TensorValue) → All IsTensor ts → AreCellsOf (widths_of ts) (map (λ t. at t []) ts)
scalars_within [] all = tt
scalars_within (t ∷ ts) all = (scalar_within t (all 0 t (omega arith)), scalars_within ts (tail_tensors t ts all))

-- ---- the parts of the operands' list

front_of : {X : Type 0} (front xs : List X) → take (length front) (front ++ xs) ≡ front
front_of [] xs = refl
front_of (x ∷ front) xs = ap (λ ys. x ∷ ys) (front_of front xs)

behind_of : {X : Type 0} (front xs : List X) → drop (length front) (front ++ xs) ≡ xs
behind_of [] xs = refl
behind_of (x ∷ front) xs = behind_of front xs

shapes_parted : (front : List TensorValue) (outs : TensorValue) (rest : List TensorValue)
    → map (λ t. t.shape) (front ++ outs ∷ rest) ≡ map (λ t. t.shape) (front ++ outs ∷ []) ++ map (λ t. t.shape) rest
shapes_parted [] outs rest = refl
shapes_parted (t ∷ front) outs rest = ap (λ ss. t.shape ∷ ss) (shapes_parted front outs rest)

shapes_long : (front : List TensorValue) (outs : TensorValue) → length (map (λ t. t.shape) (front ++ outs ∷ [])) ≡ length front + 1
shapes_long [] outs = refl
shapes_long (t ∷ front) outs = let rest = shapes_long front outs in omega (arith, rest)

-- the parts, as a structure with so many inputs takes them
record AreParts (s : Structure) (front : List TensorValue) (outs : TensorValue) (rest : List TensorValue) : Type 0 where
  shapes : take (length s.inputs + 1) (map (λ t. t.shape) (front ++ outs ∷ rest)) ≡ map (λ t. t.shape) (front ++ outs ∷ [])
  shape : outs_of s (map (λ t. t.shape) (front ++ outs ∷ rest)) ≡ outs.shape ∷ []
  output : outs_of s (front ++ outs ∷ rest) ≡ outs ∷ []
  inputs : take (length s.inputs) (front ++ outs ∷ rest) ≡ front
  scalars : drop (length s.inputs + 1) (front ++ outs ∷ rest) ≡ rest
  extents : extents_by s (map (λ t. t.shape) (front ++ outs ∷ rest)) ≡ extents_by s (map (λ t. t.shape) (front ++ outs ∷ []))

followed_more : (maps : List LoopMap) (shapes more : List (List ℕ)) → length maps ≤ length shapes → all_followed maps (shapes ++ more) ≡ all_followed maps shapes
followed_more [] shapes more l = none shapes
  where
    none : (shapes : List (List ℕ)) → all_followed [] (shapes ++ more) ≡ all_followed [] shapes
    none [] = refl
    none (x ∷ shapes) = refl
followed_more (dims ∷ maps) [] more l = absurd (omega (arith, l))
followed_more (dims ∷ maps) (x ∷ shapes) more l = ap (λ ds. followed dims x ++ ds) (followed_more maps shapes more (omega (arith, l)))

maps_long : (inputs : List LoopMap) (output : LoopMap) → length (inputs ++ output ∷ []) ≡ length inputs + 1
maps_long [] output = refl
maps_long (m ∷ inputs) output = let rest = maps_long inputs output in omega (arith, rest)

shapes_outs : (front : List TensorValue) (outs : TensorValue) (rest : List TensorValue) → take 1 (drop (length front) (map (λ t. t.shape) (front ++ outs ∷ rest))) ≡ outs.shape ∷ []
shapes_outs [] outs rest = refl
shapes_outs (t ∷ front) outs rest = shapes_outs front outs rest

rest_of : (front : List TensorValue) (outs : TensorValue) (rest : List TensorValue) → drop (suc (length front)) (front ++ outs ∷ rest) ≡ rest
rest_of [] outs rest = refl
rest_of (t ∷ front) outs rest = rest_of front outs rest

parts : (s : Structure) (front : List TensorValue) (outs : TensorValue) (rest : List TensorValue) → length s.inputs ≡ length front → AreParts s front outs rest
parts s front outs rest long = record {
  shapes =
      ap₂ (λ n ss. take n ss) (ap (λ n. n + 1) long ∙ sym (shapes_long front outs)) (shapes_parted front outs rest)
      ∙ front_of (map (λ t. t.shape) (front ++ outs ∷ [])) (map (λ t. t.shape) rest);
  shape = ap (λ n. take 1 (drop n (map (λ t. t.shape) (front ++ outs ∷ rest)))) long ∙ shapes_outs front outs rest;
  output = ap (λ n. take 1 (drop n (front ++ outs ∷ rest))) long ∙ ap (take 1) (behind_of front (outs ∷ rest));
  inputs = ap (λ n. take n (front ++ outs ∷ rest)) long ∙ front_of front (outs ∷ rest);
  scalars = ap (λ n. drop n (front ++ outs ∷ rest)) (ap (λ n. n + 1) long ∙ add-one (length front)) ∙ rest_of front outs rest;
  extents =
      ap (λ ds. map (extent_of_loop ds) (range_with_len 0 s.loops))
      (ap (all_followed (maps_of s)) (shapes_parted front outs rest)
      ∙ followed_more (maps_of s) (map (λ t. t.shape) (front ++ outs ∷ [])) (map (λ t. t.shape) rest)
      (let m = maps_long s.inputs s.output in let n = shapes_long front outs in omega (arith, m, n, long)));
}

-- ---- what is given

fixed_is : (s : Structure) (captured : List ℕ) (front : List TensorValue) (outs : TensorValue) (rest : List TensorValue) → AreParts s front outs rest
    → fixed_of s captured (front ++ outs ∷ rest) outs ≡ fixed_by captured front outs rest
fixed_is s captured front outs rest p =
    ap₂ (λ inputs scalars. record { widths = map (λ t. t.width) inputs; width = outs.width; captured = captured; scalars = map (λ t. at t []) scalars }) p.inputs p.scalars

nest_cells : (s : Structure) (captured : List ℕ) (front : List TensorValue) (outs : TensorValue) (rest : List TensorValue) → AreParts s front outs rest → (i : List ℕ)
    → nest_cell s captured (front ++ outs ∷ rest) i
    ≡ folded_cell s (fixed_by captured front outs rest) (extents_by s (map (λ t. t.shape) (front ++ outs ∷ []))) front outs i
nest_cells s captured front outs rest p i =
    ap (of_one (λ o. folded_cell s (fixed_of s captured (front ++ outs ∷ rest) o) (extents_by s (map (λ t. t.shape) (front ++ outs ∷ rest))) (take (length s.inputs) (front ++ outs ∷ rest)) o i)) p.output
    ∙ ap (λ x. folded_cell s x (extents_by s (map (λ t. t.shape) (front ++ outs ∷ rest))) (take (length s.inputs) (front ++ outs ∷ rest)) outs i) (fixed_is s captured front outs rest p)
    ∙ ap₂ (λ extents inputs. folded_cell s (fixed_by captured front outs rest) extents inputs outs i) p.extents p.inputs

shape_if : (agree : Bool) (shapes : List (List ℕ)) (shape : List ℕ) → agree ≡ true → shapes ≡ shape ∷ [] → (if agree then of_one (λ z. Some z) shapes else None) ≡ Some shape
shape_if agree shapes shape a e = rw (a, e) refl

no_shape_if : (agree : Bool) (o : Option (List ℕ)) → agree ≡ false → (if agree then o else None) ≡ None
no_shape_if agree o a = rw a refl

pub nest_given : (s : Structure) (operands : List ℕ) (w : Width) (front : List TensorValue) (outs : TensorValue) (rest : List TensorValue) → length s.inputs ≡ length front → outs.width ≡ w
    → sizes_agree s (map (λ t. t.shape) (front ++ outs ∷ [])) ≡ true
    → value_by (gives_nest operands s) w (front ++ outs ∷ rest)
    ≡ structured_value s (fixed_by (drop (length s.inputs + 1) operands) front outs rest) (extents_by s (map (λ t. t.shape) (front ++ outs ∷ []))) front outs
unfolding gives_nest
nest_given s operands w front outs rest long width agree =
    let p = parts s front outs rest long in
    let captured = drop (length s.inputs + 1) operands in
    let cells : (i : List ℕ) → nest_cell s captured (front ++ outs ∷ rest) i
    ≡ folded_cell s (fixed_by captured front outs rest) (extents_by s (map (λ t. t.shape) (front ++ outs ∷ []))) front outs i =
    nest_cells s captured front outs rest p in
    ap (option_and_then (λ shape. built_of shape w (λ i. nest_cell s captured (front ++ outs ∷ rest) i)))
    (shape_if (sizes_agree s (take (length s.inputs + 1) (map (λ t. t.shape) (front ++ outs ∷ rest)))) (outs_of s (map (λ t. t.shape) (front ++ outs ∷ rest))) outs.shape
    (ap (sizes_agree s) p.shapes ∙ agree) p.shape)
    ∙ ap₂ (λ v f. built_of outs.shape v f) (sym width) (λ d i. cells i d)

pub nest_not_given : (s : Structure) (operands : List ℕ) (w : Width) (front : List TensorValue) (outs : TensorValue) (rest : List TensorValue) → length s.inputs ≡ length front
    → sizes_agree s (map (λ t. t.shape) (front ++ outs ∷ [])) ≡ false → None ≡ value_by (gives_nest operands s) w (front ++ outs ∷ rest)
unfolding gives_nest
nest_not_given s operands w front outs rest long agree =
    let p = parts s front outs rest long in
    let captured = drop (length s.inputs + 1) operands in
    sym (ap (option_and_then (λ shape. built_of shape w (λ i. nest_cell s captured (front ++ outs ∷ rest) i)))
    (no_shape_if (sizes_agree s (take (length s.inputs + 1) (map (λ t. t.shape) (front ++ outs ∷ rest)))) (of_one (λ z. Some z) (outs_of s (map (λ t. t.shape) (front ++ outs ∷ rest))))
    (ap (sizes_agree s) p.shapes ∙ agree)))

-- ---- the fold

inside_parts : (maps : List LoopMap) (out : LoopMap) (front : List TensorValue) (outs : TensorValue) (p : List ℕ) → length maps ≡ length front → AreInside (maps ++ out ∷ []) (front ++ outs ∷ []) p
    → AreInside maps front p × IsIndexOf outs.shape (index_at out p)
inside_parts [] out [] outs p e h = (tt, h.0)
inside_parts [] out (t ∷ front) outs p e h = absurd (omega (arith, e))
inside_parts (d ∷ maps) out [] outs p e h = absurd (omega (arith, e))
inside_parts (d ∷ maps) out (t ∷ front) outs p e h =
    let r = inside_parts maps out front outs p (omega (arith, e)) h.1 in ((h.0, r.0), r.1)

pub can_fold : (s : Structure) (nest : memory.Nest) (x : Fixed) (scalars : List Width) (front : List TensorValue) (outs : TensorValue) → nest.inputs ≡ s.inputs → nest.output ≡ s.output
    → length s.inputs ≡ length front → all_follow_loops s.loops (maps_of s) ≡ true → sizes_agree s (map (λ t. t.shape) (front ++ outs ∷ [])) ≡ true → All IsTensor front
    → x.widths ≡ widths_of front → x.width ≡ outs.width → IsStep nest.step s.step x.widths x.width x.captured x.scalars
    → FitsStep s.step x.widths x.width x.captured scalars → AreCellsOf scalars x.scalars
    → CanFold nest (extents_by s (map (λ t. t.shape) (front ++ outs ∷ []))) front outs
can_fold s nest x scalars front outs inputs output long follow agree whole widths width step fits of_scalars =
    let extents = extents_by s (map (λ t. t.shape) (front ++ outs ∷ [])) in
    let inside : (k : ℕ) → k < cell_count extents → AreInside s.inputs front (unflat_of extents k) × IsIndexOf outs.shape (index_at s.output (unflat_of extents k)) =
    λ k below. inside_parts s.inputs s.output front outs (unflat_of extents k) long (agreeing_inside s (front ++ outs ∷ []) k follow agree below) in
    record {
      inputs = λ k below. subst (λ maps. AreInside maps front (unflat_of extents k)) (sym inputs) (inside k below).0;
      output = λ k below. subst (λ dims. IsIndexOf outs.shape (index_at dims (unflat_of extents k))) (sym output) (inside k below).1;
      cells =
          λ k below.
          subst (λ maps. TakesCells nest.step outs.width (input_cells maps front (unflat_of extents k))) (sym inputs)
          (subst (λ w. TakesCells nest.step w (input_cells s.inputs front (unflat_of extents k))) width
          (region_takes nest.step x scalars (input_cells s.inputs front (unflat_of extents k)) s.step step fits
          (subst (λ ws. AreCellsOf ws (input_cells s.inputs front (unflat_of extents k))) (sym widths) (inputs_within s.inputs front (unflat_of extents k) (inside k below).0 whole)) of_scalars));
    }

-- ---- too few operands

few_ranks : (maps : List LoopMap) (shapes : List (List ℕ)) → length shapes < length maps → have_ranks maps shapes ≡ false
few_ranks [] shapes l = absurd (omega (arith, l))
few_ranks (dims ∷ maps) [] l = refl
few_ranks (dims ∷ maps) (s ∷ shapes) l = last (length dims == length s) (few_ranks maps shapes (omega (arith, l)))
  where
    last : (a : Bool) {b : Bool} → b ≡ false → (a && b) ≡ false
    last true e = e
    last false e = refl

take-short : {X : Type 0} (n : ℕ) (xs : List X) → length (take n xs) ≤ length xs
take-short zero xs = omega arith
take-short (suc n) [] = omega arith
take-short (suc n) (x ∷ xs) = let rest = take-short n xs in omega (arith, rest)

no_shape : (ranks room : Bool) (o : Option (List ℕ)) → ranks ≡ false → (if ranks && room then o else None) ≡ None
no_shape ranks room o e = rw e refl

-- there is no output
pub unsized_few : (s : Structure) (loops : loops_memory.Loops) (ts : List TensorValue) (n : ℕ) → loops ≡ loops_in s → n ≡ length loops.inputs → length ts ≤ n
    → None ≡ nest_size (map (λ t. t.shape) ts) s
unfolding nest_size
unsized_few s loops ts n is long less =
    let shapes = map (λ t. t.shape) ts in
    let inputs : length loops.inputs ≡ length s.inputs = ap (λ (l : loops_memory.Loops). length l.inputs) is in
    let short = take-short (length s.inputs + 1) shapes in
    let count = maps_long s.inputs s.output in
    let same = length-map ts (λ t. t.shape) in
    sym (ap (option_map (λ shape. record { shape = shape; points = cell_count (extents_by s shapes) }))
    (no_shape (have_ranks (maps_of s) (take (length s.inputs + 1) shapes)) _ (of_one (λ z. Some z) (outs_of s shapes))
    (few_ranks (maps_of s) (take (length s.inputs + 1) shapes) (omega (arith, short, count, same, less, long, inputs)))))

pub too_few : (s : Structure) (operands : List ℕ) (w : Width) (ts : List TensorValue) → length ts ≤ length s.inputs → None ≡ value_by (gives_nest operands s) w ts
unfolding gives_nest
too_few s operands w ts few =
    let shapes = map (λ t. t.shape) ts in
    let short = take-short (length s.inputs + 1) shapes in
    let long = maps_long s.inputs s.output in
    let same = length-map ts (λ t. t.shape) in
    sym (ap (option_and_then (λ shape. built_of shape w (λ i. nest_cell s (drop (length s.inputs + 1) operands) ts i)))
    (no_shape (have_ranks (maps_of s) (take (length s.inputs + 1) shapes)) _ (of_one (λ z. Some z) (outs_of s shapes))
    (few_ranks (maps_of s) (take (length s.inputs + 1) shapes) (omega (arith, short, long, same, few)))))

-- ---- from what a call knows

at_structure : (kind : OpKind) (s : Structure) (P : Structure → Type 0) → structure_of kind ≡ Some s → IfSome (structure_of kind) P → P s
at_structure kind s P e h = subst (λ o. IfSome o P) e h

module _ (kind : OpKind) (loops : loops_memory.Loops) (captured extents : List ℕ) (front : List TensorValue) (outs : TensorValue) (rest : List TensorValue) (nest : memory.Nest) (w : Width)
    (h : CanFoldParts kind loops captured extents front outs rest) (inputs : nest.inputs ≡ loops.inputs) (output : nest.output ≡ loops.output) (width : w ≡ outs.width)
    (is : IfSome (structure_of kind) (λ s. IsStep nest.step s.step (widths_of front) w captured (map (λ t. at t []) rest))) where
  step_at : (s : Structure) → structure_of kind ≡ Some s → IsStep nest.step s.step (widths_of front) outs.width captured (map (λ t. at t []) rest)
  step_at s e =
      subst (λ v. IsStep nest.step s.step (widths_of front) v captured (map (λ t. at t []) rest)) width
      (at_structure kind s (λ z. IsStep nest.step z.step (widths_of front) w captured (map (λ t. at t []) rest)) e is)

  pub can_fold_parts : All IsTensor front → All IsTensor rest → CanFold nest extents front outs
  can_fold_parts whole scalars =
      subst (λ E. CanFold nest E front outs) (sym h.extents_are)
      (can_fold h.structure nest (fixed_by captured front outs rest) (widths_of rest) front outs
      (inputs ∙ ap (λ (l : loops_memory.Loops). l.inputs) h.loops_are) (output ∙ ap (λ (l : loops_memory.Loops). l.output) h.loops_are)
      h.inputs_long h.follow h.agree whole refl refl (step_at h.structure h.kind_is) h.step (scalars_within rest scalars))

  pub stands_parts : (s : Structure) → structure_of kind ≡ Some s → StandsFor nest outs.width s (fixed_by captured front outs rest)
  stands_parts s e =
      let same = same_Some h.structure s (sym h.kind_is ∙ e) in
      record {
        inputs = inputs ∙ ap (λ (l : loops_memory.Loops). l.inputs) h.loops_are ∙ ap (λ (z : Structure). z.inputs) same;
        output = output ∙ ap (λ (l : loops_memory.Loops). l.output) h.loops_are ∙ ap (λ (z : Structure). z.output) same;
        step = step_stands nest.step s.step (fixed_by captured front outs rest) (step_at s e);
      }

pub too_few_of : (kind : OpKind) (loops : loops_memory.Loops) (operands : List ℕ) (w : Width) (ts : List TensorValue) (n : ℕ) → IsOfStructure kind loops operands w ts → n ≡ length loops.inputs
    → length ts ≤ n → (s : Structure) → structure_of kind ≡ Some s → None ≡ value_by (gives_nest operands s) w ts
too_few_of kind loops operands w ts n h long few s e =
    let same = same_Some h.structure s (sym h.kind_is ∙ e) in
    let inputs : length loops.inputs ≡ length s.inputs = ap (λ (l : loops_memory.Loops). length l.inputs) h.loops_are ∙ ap (λ (z : Structure). length z.inputs) same in
    too_few s operands w ts (omega (arith, long, few, inputs))

parted_from : {B : Type 0} (f : B → TensorValue) (xs : List B) (n : ℕ) (o : B) → n < length xs → o ≡ get_or (drop n xs) 0 o → map f xs ≡ map f (take n xs) ++ f o ∷ map f (drop (suc n) xs)
parted_from f [] n o l e = absurd (omega (arith, l))
parted_from f (x ∷ xs) zero o l e = ap (λ y. f y ∷ map f xs) (sym e)
parted_from f (x ∷ xs) (suc n) o l e = ap (λ ys. f x ∷ ys) (parted_from f xs n o (omega (arith, l)) e)

pub parted : {B : Type 0} (f : B → TensorValue) (xs : List B) (n : ℕ) (o : B) → n < length xs → o ≡ get_or (drop n xs) 0 o → map f xs ≡ map f (take n xs) ++ f o ∷ map f (drop (n + 1) xs)
parted f xs n o l e = parted_from f xs n o l e ∙ ap (λ k. map f (take n xs) ++ f o ∷ map f (drop k xs)) (sym (add-one n))

front_from : {B : Type 0} (f : B → TensorValue) (xs : List B) (n : ℕ) (o : B) → n < length xs → o ≡ get_or (drop n xs) 0 o → map f (take (suc n) xs) ≡ map f (take n xs) ++ f o ∷ []
front_from f [] n o l e = absurd (omega (arith, l))
front_from f (x ∷ xs) zero o l e = ap (λ y. f y ∷ []) (sym e)
front_from f (x ∷ xs) (suc n) o l e = ap (λ ys. f x ∷ ys) (front_from f xs n o (omega (arith, l)) e)

pub parted_front : {B : Type 0} (f : B → TensorValue) (xs : List B) (n : ℕ) (o : B) → n < length xs → o ≡ get_or (drop n xs) 0 o → map f (take (n + 1) xs) ≡ map f (take n xs) ++ f o ∷ []
parted_front f xs n o l e = ap (λ k. map f (take k xs)) (add-one n) ∙ front_from f xs n o l e

pub front_long : {B : Type 0} (f : B → TensorValue) (xs : List B) (n : ℕ) → n < length xs → length (map f (take n xs)) ≡ n
front_long f xs zero l = refl
front_long f [] (suc n) l = absurd (omega (arith, l))
front_long f (x ∷ xs) (suc n) l = ap suc (front_long f xs n (omega (arith, l)))

extents_same : (s : Structure) (ts : List TensorValue) → extents_with (maps_of s) ts s.loops ≡ extents_by s (map (λ t. t.shape) ts)
unfolding extents_with extent_by
extents_same s ts = refl

agreed_some : (maps : List LoopMap) (ts : List TensorValue) (n : ℕ) (E : List ℕ) → Some E ≡ agreed_extents maps ts n → (agree_on maps (map (λ t. t.shape) ts) ≡ true) × (E ≡ extents_with maps ts n)
unfolding agreed_extents
agreed_some maps ts n E h =
    elim (cases_Bool (agree_on maps (map (λ t. t.shape) ts))) [
      | inl b ↦ (b, same_Some E (extents_with maps ts n) (h ∙ ap (λ a. if a then Some (extents_with maps ts n) else None) b))
      | inr b ↦ absurd (none-some E (sym (h ∙ ap (λ a. if a then Some (extents_with maps ts n) else None) b)))
    ]

agreed_none : (maps : List LoopMap) (ts : List TensorValue) (n : ℕ) → None ≡ agreed_extents maps ts n → agree_on maps (map (λ t. t.shape) ts) ≡ false
unfolding agreed_extents
agreed_none maps ts n h =
    elim (cases_Bool (agree_on maps (map (λ t. t.shape) ts))) [
      | inl b ↦ absurd (none-some (extents_with maps ts n) (h ∙ ap (λ a. if a then Some (extents_with maps ts n) else None) b))
      | inr b ↦ b
    ]

maps_are : (kind : OpKind) (loops : loops_memory.Loops) (operands : List ℕ) (w : Width) (ts : List TensorValue) (h : IsOfStructure kind loops operands w ts) (maps : List LoopMap)
    → maps ≡ loops.inputs ++ loops.output ∷ [] → maps ≡ maps_of h.structure
maps_are kind loops operands w ts h maps e = e ∙ ap (λ (l : loops_memory.Loops). l.inputs ++ l.output ∷ []) h.loops_are

pub few_of : (kind : OpKind) (loops : loops_memory.Loops) (operands : List ℕ) (w : Width) (ts : List TensorValue) → IsOfStructure kind loops operands w ts → loops.count ≤ 6
few_of kind loops operands w ts h = subst (λ (l : loops_memory.Loops). l.count ≤ 6) (sym h.loops_are) h.fits.few

pub follow_of : (kind : OpKind) (loops : loops_memory.Loops) (operands : List ℕ) (w : Width) (ts : List TensorValue) (maps : List LoopMap) → IsOfStructure kind loops operands w ts
    → maps ≡ loops.inputs ++ loops.output ∷ [] → all_follow_loops loops.count maps ≡ true
follow_of kind loops operands w ts maps h e =
    ap₂ all_follow_loops (ap (λ (l : loops_memory.Loops). l.count) h.loops_are) (maps_are kind loops operands w ts h maps e) ∙ h.fits.follow

-- what the parts of the operands know
pub record Known (kind : OpKind) (loops : loops_memory.Loops) (captured extents : List ℕ) (front : List TensorValue) (outs : TensorValue) (rest : List TensorValue) (w : Width) : Type 0 where
  pub can : CanFoldParts kind loops captured extents front outs rest
  pub width : outs.width ≡ w

pub parts_known : (kind : OpKind) (loops : loops_memory.Loops) (operands : List ℕ) (w : Width) (ts : List TensorValue) (maps : List LoopMap) (front : List TensorValue) (outs : TensorValue) (rest : List TensorValue) (E : List ℕ) (n : ℕ)
    → IsOfStructure kind loops operands w ts → n ≡ length loops.inputs → length front ≡ n → ts ≡ front ++ outs ∷ rest → maps ≡ loops.inputs ++ loops.output ∷ []
    → Some E ≡ agreed_extents maps (front ++ outs ∷ []) loops.count → Known kind loops (drop (n + 1) operands) E front outs rest w
parts_known kind loops operands w ts maps front outs rest E n h long short parted_is maps_is agreed =
    let s = h.structure in
    let of_maps = maps_are kind loops operands w ts h maps maps_is in
    let count : loops.count ≡ s.loops = ap (λ (l : loops_memory.Loops). l.count) h.loops_are in
    let n_is : n ≡ length s.inputs = long ∙ ap (λ (l : loops_memory.Loops). length l.inputs) h.loops_are in
    let inputs_long : length s.inputs ≡ length front = sym n_is ∙ sym short in
    let p = parts s front outs rest inputs_long in
    let fits : CanNest s operands w (front ++ outs ∷ rest) = subst (CanNest s operands w) parted_is h.fits in
    let found = agreed_some (maps_of s) (front ++ outs ∷ []) s.loops E (agreed ∙ ap₂ (λ ms k. agreed_extents ms (front ++ outs ∷ []) k) of_maps count) in
    let width : outs.width ≡ w = (subst (AllByRecursion (λ (t : TensorValue). t.width ≡ w)) p.output fits.output).0 in
    record {
      can = record {
        structure = s;
        kind_is = h.kind_is;
        loops_are = h.loops_are;
        inputs_long = inputs_long;
        few = h.fits.few;
        follow = h.fits.follow;
        agree = found.0;
        extents_are = found.1 ∙ extents_same s (front ++ outs ∷ []);
        step =
            subst (λ v. FitsStep s.step (widths_of front) v (drop (n + 1) operands) (widths_of rest)) (sym width)
            (subst (λ k. FitsStep s.step (widths_of front) w (drop (k + 1) operands) (widths_of rest)) (sym n_is)
            (subst (λ (ts : List TensorValue). FitsStep s.step (widths_of front) w (drop (length s.inputs + 1) operands) (widths_of ts)) p.scalars
            (subst (λ (ts : List TensorValue). FitsStep s.step (widths_of ts) w (drop (length s.inputs + 1) operands) (widths_of (drop (length s.inputs + 1) (front ++ outs ∷ rest)))) p.inputs fits.step)));
      };
      width = width;
    }

pub value_of_parts : (kind : OpKind) (loops : loops_memory.Loops) (operands : List ℕ) (w : Width) (ts : List TensorValue) (front : List TensorValue) (outs : TensorValue) (rest : List TensorValue) (E : List ℕ) (n : ℕ) (s : Structure)
    → Known kind loops (drop (n + 1) operands) E front outs rest w → n ≡ length loops.inputs → ts ≡ front ++ outs ∷ rest → structure_of kind ≡ Some s
    → structured_value s (fixed_by (drop (n + 1) operands) front outs rest) E front outs ≡ value_by (gives_nest operands s) w ts
value_of_parts kind loops operands w ts front outs rest E n s h long parted_is e =
    let same = same_Some h.can.structure s (sym h.can.kind_is ∙ e) in
    let n_is : n ≡ length s.inputs = long ∙ ap (λ (l : loops_memory.Loops). length l.inputs) h.can.loops_are ∙ ap (λ (z : Structure). length z.inputs) same in
    let inputs_long : length s.inputs ≡ length front = subst (λ (z : Structure). length z.inputs ≡ length front) same h.can.inputs_long in
    let agree : sizes_agree s (map (λ t. t.shape) (front ++ outs ∷ [])) ≡ true = subst (λ (z : Structure). sizes_agree z (map (λ t. t.shape) (front ++ outs ∷ [])) ≡ true) same h.can.agree in
    let extents : E ≡ extents_by s (map (λ t. t.shape) (front ++ outs ∷ [])) = subst (λ (z : Structure). E ≡ extents_by z (map (λ t. t.shape) (front ++ outs ∷ []))) same h.can.extents_are in
    ap₂ (λ k x. structured_value s (fixed_by (drop (k + 1) operands) front outs rest) x front outs) n_is extents
    ∙ sym (nest_given s operands w front outs rest inputs_long h.width agree)
    ∙ ap (value_by (gives_nest operands s) w) (sym parted_is)

pub none_of_parts : (kind : OpKind) (loops : loops_memory.Loops) (operands : List ℕ) (w : Width) (ts : List TensorValue) (maps : List LoopMap) (front : List TensorValue) (outs : TensorValue) (rest : List TensorValue) (n : ℕ) (s : Structure)
    → IsOfStructure kind loops operands w ts → n ≡ length loops.inputs → length front ≡ n → ts ≡ front ++ outs ∷ rest → maps ≡ loops.inputs ++ loops.output ∷ []
    → None ≡ agreed_extents maps (front ++ outs ∷ []) loops.count → structure_of kind ≡ Some s → None ≡ value_by (gives_nest operands s) w ts
none_of_parts kind loops operands w ts maps front outs rest n s h long short parted_is maps_is agreed e =
    let same = same_Some h.structure s (sym h.kind_is ∙ e) in
    let of_maps : maps ≡ maps_of s = maps_are kind loops operands w ts h maps maps_is ∙ ap maps_of same in
    let count : loops.count ≡ s.loops = ap (λ (l : loops_memory.Loops). l.count) h.loops_are ∙ ap (λ (z : Structure). z.loops) same in
    let n_is : n ≡ length s.inputs = long ∙ ap (λ (l : loops_memory.Loops). length l.inputs) h.loops_are ∙ ap (λ (z : Structure). length z.inputs) same in
    nest_not_given s operands w front outs rest (sym n_is ∙ sym short)
    (agreed_none (maps_of s) (front ++ outs ∷ []) s.loops (agreed ∙ ap₂ (λ ms k. agreed_extents ms (front ++ outs ∷ []) k) of_maps count))
    ∙ ap (value_by (gives_nest operands s) w) (sym parted_is)

-- ---- as a call parts its operands

module _ {B : Type 0} (f : B → TensorValue) (kind : OpKind) (loops : loops_memory.Loops) (operands : List ℕ) (w : Width) (maps : List LoopMap) (xs : List B) (n : ℕ) (o : B)
    (inputs typed others scalars : List B) (captured : List ℕ) (h : IsOfStructure kind loops operands w (map f xs)) (long : n ≡ length loops.inputs) (below : n < length xs)
    (inputs_are : inputs ≡ take n xs) (typed_are : typed ≡ take (n + 1) xs) (others_are : others ≡ drop n xs) (scalars_are : scalars ≡ drop (n + 1) xs)
    (captured_is : captured ≡ drop (n + 1) operands) (first : o ≡ get_or others 0 o) (maps_is : maps ≡ loops.inputs ++ loops.output ∷ []) where
  first_other : o ≡ get_or (drop n xs) 0 o
  first_other = first ∙ ap (λ ys. get_or ys 0 o) others_are

  typed_parts : map f typed ≡ map f (take n xs) ++ f o ∷ []
  typed_parts = ap (map f) typed_are ∙ parted_front f xs n o below first_other

  pub parts_met : (E : List ℕ) → Some E ≡ agreed_extents maps (map f typed) loops.count → Known kind loops captured E (map f inputs) (f o) (map f scalars) w
  parts_met E agreed =
      subst (λ is. Known kind loops captured E (map f is) (f o) (map f scalars) w) (sym inputs_are)
      (subst (λ sc. Known kind loops captured E (map f (take n xs)) (f o) (map f sc) w) (sym scalars_are)
      (subst (λ cs. Known kind loops cs E (map f (take n xs)) (f o) (map f (drop (n + 1) xs)) w) (sym captured_is)
      (parts_known kind loops operands w (map f xs) maps (map f (take n xs)) (f o) (map f (drop (n + 1) xs)) E n h long (front_long f xs n below) (parted f xs n o below first_other) maps_is
      (agreed ∙ ap (λ ts. agreed_extents maps ts loops.count) typed_parts))))

  pub none_met : None ≡ agreed_extents maps (map f typed) loops.count → (s : Structure) → structure_of kind ≡ Some s → None ≡ value_by (gives_nest operands s) w (map f xs)
  none_met agreed s e =
      none_of_parts kind loops operands w (map f xs) maps (map f (take n xs)) (f o) (map f (drop (n + 1) xs)) n s h long (front_long f xs n below) (parted f xs n o below first_other) maps_is
      (agreed ∙ ap (λ ts. agreed_extents maps ts loops.count) typed_parts) e

  pub value_met : (E : List ℕ) → Some E ≡ agreed_extents maps (map f typed) loops.count → (s : Structure) → structure_of kind ≡ Some s
      → structured_value s (fixed_by captured (map f inputs) (f o) (map f scalars)) E (map f inputs) (f o) ≡ value_by (gives_nest operands s) w (map f xs)
  value_met E agreed s e =
      let known = parts_known kind loops operands w (map f xs) maps (map f (take n xs)) (f o) (map f (drop (n + 1) xs)) E n h long (front_long f xs n below) (parted f xs n o below first_other) maps_is
      (agreed ∙ ap (λ ts. agreed_extents maps ts loops.count) typed_parts) in
      ap₂ (λ cs is. structured_value s (fixed_by cs (map f is) (f o) (map f scalars)) E (map f is) (f o)) captured_is inputs_are
      ∙ ap (λ sc. structured_value s (fixed_by (drop (n + 1) operands) (map f (take n xs)) (f o) (map f sc)) E (map f (take n xs)) (f o)) scalars_are
      ∙ value_of_parts kind loops operands w (map f xs) (map f (take n xs)) (f o) (map f (drop (n + 1) xs)) E n s known long (parted f xs n o below first_other) e

-- ---- how large it is

few_held : (ts : List TensorValue) → All IsHeld ts → AllByRecursion (λ (t : TensorValue). cell_count t.shape ≤ max_cells) ts
few_held [] held = tt
few_held (t ∷ ts) held = ((held 0 t (omega arith)).small, few_held ts (λ k d l. held (suc k) d (omega (arith, l))))

abbrev sized_by : List ℕ → ℕ → NestSize
sized_by shape points = record { shape = shape; points = points }

pub output_shape : (o : TensorValue) (shape : List ℕ) (points : ℕ) → shape ≡ o.shape → Some (sized_by shape points) ≡ Some (sized_by o.shape points)
output_shape o shape points e = ap (λ z. Some (sized_by z points)) e

-- as a call parts the operands of a structure with these loops
module _ {B : Type 0} (f : B → TensorValue) (loops : loops_memory.Loops) (s : Structure) (is : loops ≡ loops_in s) (maps : List LoopMap) (xs : List B) (n : ℕ) (o : B) (typed others : List B)
    (long : n ≡ length loops.inputs) (below : n < length xs) (typed_are : typed ≡ take (n + 1) xs) (others_are : others ≡ drop n xs) (first : o ≡ get_or others 0 o)
    (maps_is : maps ≡ loops.inputs ++ loops.output ∷ []) where
  inputs_long : length s.inputs ≡ length (map f (take n xs))
  inputs_long = sym (long ∙ ap (λ (l : loops_memory.Loops). length l.inputs) is) ∙ sym (front_long f xs n below)

  output_first : o ≡ get_or (drop n xs) 0 o
  output_first = first ∙ ap (λ ys. get_or ys 0 o) others_are

  sized_parts : AreParts s (map f (take n xs)) (f o) (map f (drop (n + 1) xs))
  sized_parts = parts s (map f (take n xs)) (f o) (map f (drop (n + 1) xs)) inputs_long

  all_parts : map f xs ≡ map f (take n xs) ++ f o ∷ map f (drop (n + 1) xs)
  all_parts = parted f xs n o below output_first

  sized_typed : map f typed ≡ map f (take n xs) ++ f o ∷ []
  sized_typed = ap (map f) typed_are ∙ parted_front f xs n o below output_first

  agreed_parts : agreed_extents maps (map f typed) loops.count ≡ agreed_extents (maps_of s) (map f (take n xs) ++ f o ∷ []) s.loops
  agreed_parts =
      ap₂ (λ ms ts. agreed_extents ms ts loops.count) (maps_is ∙ ap (λ (l : loops_memory.Loops). l.inputs ++ l.output ∷ []) is) sized_typed
      ∙ ap (λ (l : loops_memory.Loops). agreed_extents (maps_of s) (map f (take n xs) ++ f o ∷ []) l.count) is

  pub sized : (E : List ℕ) (points : ℕ) → Some E ≡ agreed_extents maps (map f typed) loops.count → (cell_count E < 2 ^ 128 → points ≡ cell_count E)
      → s.loops ≤ 6 → all_follow_loops s.loops (maps_of s) ≡ true → All IsHeld (map f typed)
      → Some (record { shape = (f o).shape; points = points }) ≡ nest_size (map (λ t. t.shape) (map f xs)) s
  unfolding nest_size
  sized E points found count few follow held =
      let known = agreed_some (maps_of s) (map f (take n xs) ++ f o ∷ []) s.loops E (found ∙ agreed_parts) in
      let extents : E ≡ extents_by s (map (λ t. t.shape) (map f (take n xs) ++ f o ∷ [])) = known.1 ∙ extents_same s (map f (take n xs) ++ f o ∷ []) in
      let small : cell_count E < 2 ^ 128 =
      subst (λ e. cell_count e < 2 ^ 128) (sym extents)
      (points_below s (map f (take n xs) ++ f o ∷ []) few follow known.0 (few_held (map f (take n xs) ++ f o ∷ []) (subst (All IsHeld) sized_typed held))) in
      let shape : nest_shape s (map (λ t. t.shape) (map f (take n xs) ++ f o ∷ map f (drop (n + 1) xs))) ≡ Some (f o).shape =
      shape_if (sizes_agree s (take (length s.inputs + 1) (map (λ t. t.shape) (map f (take n xs) ++ f o ∷ map f (drop (n + 1) xs))))) (outs_of s (map (λ t. t.shape) (map f (take n xs) ++ f o ∷ map f (drop (n + 1) xs)))) (f o).shape
      (ap (sizes_agree s) sized_parts.shapes ∙ known.0) sized_parts.shape in
      sym (ap (λ (ts : List TensorValue). option_map (λ z. record { shape = z; points = cell_count (extents_by s (map (λ t. t.shape) ts)) }) (nest_shape s (map (λ t. t.shape) ts))) all_parts
      ∙ ap₂ (λ e o. option_map (λ z. record { shape = z; points = cell_count e }) o) (sized_parts.extents ∙ sym extents) shape
      ∙ ap (λ k. Some (record { shape = (f o).shape; points = k })) (sym (count small)))

  pub unsized : None ≡ agreed_extents maps (map f typed) loops.count → None ≡ nest_size (map (λ t. t.shape) (map f xs)) s
  unfolding nest_size
  unsized found =
      let unlike = agreed_none (maps_of s) (map f (take n xs) ++ f o ∷ []) s.loops (found ∙ agreed_parts) in
      sym (ap (λ (ts : List TensorValue). option_map (λ z. record { shape = z; points = cell_count (extents_by s (map (λ t. t.shape) ts)) }) (nest_shape s (map (λ t. t.shape) ts))) all_parts
      ∙ ap (option_map (λ z. record { shape = z; points = cell_count (extents_by s (map (λ t. t.shape) (map f (take n xs) ++ f o ∷ map f (drop (n + 1) xs)))) }))
      (no_shape_if (sizes_agree s (take (length s.inputs + 1) (map (λ t. t.shape) (map f (take n xs) ++ f o ∷ map f (drop (n + 1) xs))))) (of_one (λ z. Some z) (outs_of s (map (λ t. t.shape) (map f (take n xs) ++ f o ∷ map f (drop (n + 1) xs)))))
      (ap (sizes_agree s) sized_parts.shapes ∙ unlike)))

-- ---- whether an operation is structured

of_structure_by : (kind : OpKind) (loops : loops_memory.Loops) (operands : List ℕ) (w : Width) (ts : List TensorValue) (o : Option Structure) → structure_of kind ≡ o → Some loops ≡ option_map loops_in o
    → IfSome o (λ s. CanNest s operands w ts) → IsOfStructure kind loops operands w ts
of_structure_by kind loops operands w ts None e h fits = absurd (none-some loops (sym h))
of_structure_by kind loops operands w ts (Some s) e h fits = record { structure = s; kind_is = e; loops_are = same_Some loops (loops_in s) h; fits = fits }

pub of_structure : (kind : OpKind) (loops : loops_memory.Loops) (operands : List ℕ) (w : Width) (ts : List TensorValue) → Some loops ≡ option_map loops_in (structure_of kind)
    → IfSome (structure_of kind) (λ s. CanNest s operands w ts) → IsOfStructure kind loops operands w ts
of_structure kind loops operands w ts h fits = of_structure_by kind loops operands w ts (structure_of kind) refl h fits

no_structure_by : {Y : Type 0} (o : Option Structure) (f : Structure → Option Y) → None ≡ option_map loops_in o → None ≡ option_and_then f o
no_structure_by None f h = refl
no_structure_by (Some s) f h = absurd (none-some (loops_in s) h)

pub no_structure : {Y : Type 0} (kind : OpKind) (f : Structure → Option Y) → None ≡ option_map loops_in (structure_of kind) → None ≡ option_and_then f (structure_of kind)
no_structure kind f h = no_structure_by (structure_of kind) f h
