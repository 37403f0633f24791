-- Regions in memory give what their bodies give, and cells of the widths that types say.
use Rattle.std.proofs.Common.{◌≡◌, ℕ, zero, suc, ◌+◌, ◌<◌, List, [], ◌∷◌, ◌++◌, map, length, get_or, Option, Some, None, refl, ap, ap₂, sym, ◌∙◌, arith, subst, add-one, append-nil, append_assoc, take}
use Rattle.std.specs.Prelude.{◌^◌, All, IfSome, drop, slice_get, option_map, option_and_then, if◌then◌else◌, ◌==◌, false}
use Rattle.std.proofs.lemmas.Bool.Decides.{nat_tests}
use Rattle.std.specs.List.{AllByRecursion}
use Rattle.std.proofs.lemmas.Option.{same_Some, none-some}
use Rattle.sh_base.specs.Cells.{IsCellOf, bits_of}
use Rattle.sh_base.specs.declared.numbers.Cell.{Cell}
use Rattle.sh_base.specs.declared.numbers.Cell.TheVariants.{Undef, Val}
use Rattle.sh_base.specs.declared.numbers.Width.{Width}
use Rattle.sh_base.specs.declared.numbers.Width.TheVariants.{I1, I8, I16, I32, I64}
use Rattle.sh_base.specs.declared.operations.BinOp.{BinOp}
use Rattle.sh_base.specs.declared.operations.CastOp.{CastOp}
use Rattle.sh_base.specs.declared.operations.CastOp.TheVariants.{Trunci}
use Rattle.sh_base.specs.declared.operations.Predicate.{Predicate}
use Rattle.sh_int.specs.Elements.{CanCast, cast_of, comparison_of, element_of}
use Rattle.sh_int.proofs.ElementLaws.{cast_of-within, comparison_of-within, element_of-within}
use Rattle.sh_ir.specs.declared.bodies.Body.{Body}
use Rattle.sh_ir.specs.declared.bodies.BodyKind.{BodyKind}
use Rattle.sh_ir.specs.declared.bodies.BodyKind.TheVariants.{Constant, Binary, Compare, Select, Cast, Index, IndexCast}
use Rattle.sh_ir.specs.declared.types.ValueType.{ValueType}
use Rattle.sh_pieces.specs.Instructions.{last_place}
use Rattle.sh_turns.specs.Program.{all_there}
use Rattle.sh_loops.specs.declared.regions.PlacedStep.{PlacedStep}
use Rattle.sh_loops.specs.declared.regions.Region.{Region}
use Rattle.sh_ir.specs.declared.bodies.BodyOp.{BodyOp}
use Rattle.sh_loops.specs.Placing.{AreAlike, ArePlaced, AreCellsOf, AreSourcesOf, CanRunPlaced, FitOps, FitsBody, FitsRegion, IsAlike, IsSourceOf, StandsForBody, TakesBody, width_given, widths_after}
use Rattle.sh_loops.specs.Regions.{CanRun, region_given, step_given, steps_given, work_cell}
use Rattle.sh_loops.proofs.CellLaws.{constant_fits}
use Rattle.sh_loops.proofs.RegionLaws.{cast_to_itself}
use Rattle.sh_sem.specs.Region.{PlacedBody, PlacedOp, body_cell, cells_after, placed, placed_op, placed_op_cell, placed_ops, region_cell, source_cells}
use Rattle.sh_sem.specs.Scalars.{chosen, width_of, on_one, on_two, on_three, formula_cell, cast}

-- ---- lists of which each is there

record IsFirstOf {X : Type 0} (o : Option X) (xs : List (Option X)) (found : List X) : Type 0 where
  first : X
  rest : List X
  here : o ≡ Some first
  others : all_there xs ≡ Some rest
  all : first ∷ rest ≡ found

first_more : {X : Type 0} (x : X) (xs : List (Option X)) (found : List X) (a : Option (List X)) → a ≡ all_there xs → option_map (λ ws. x ∷ ws) a ≡ Some found → IsFirstOf (Some x) xs found
first_more x xs found None e k = absurd (none-some found k)
first_more x xs found (Some ws) e k = record { first = x; rest = ws; here = refl; others = sym e; all = same_Some (x ∷ ws) found k }

first_of : {X : Type 0} (o : Option X) (xs : List (Option X)) (found : List X) → all_there (o ∷ xs) ≡ Some found → IsFirstOf o xs found
first_of None xs found h = absurd (none-some found h)
first_of (Some x) xs found h = first_more x xs found (all_there xs) refl h

-- ---- cells at places are of their widths

place_within : (ws : List Width) (cells : List Cell) (k : ℕ) (w : Width) (c : Cell) → AreCellsOf ws cells → slice_get cells k ≡ Some c → IsCellOf (get_or ws k w) c
place_within [] [] k w c h e = absurd (none-some c e)
place_within [] (a ∷ cells) k w c h e = absurd h
place_within (v ∷ ws) [] k w c h e = absurd h
place_within (v ∷ ws) (a ∷ cells) zero w c h e = subst (IsCellOf v) (same_Some a c e) h.0
place_within (v ∷ ws) (a ∷ cells) (suc k) w c h e = place_within ws cells k w c h.1 e

source_within : (ws : List Width) (cells : List Cell) (source : Option ℕ) (w : Width) (c : Cell) → AreCellsOf ws cells → IsSourceOf ws w source
    → option_and_then (slice_get cells) source ≡ Some c → IsCellOf w c
source_within ws cells None w c h is e = absurd (none-some c e)
source_within ws cells (Some k) w c h is e = subst (λ v. IsCellOf v c) (is k refl) (place_within ws cells k w c h e)

sources_within : (ws : List Width) (cells : List Cell) (sources : List (Option ℕ)) (w : Width) (found : List Cell) → AreCellsOf ws cells → AreSourcesOf ws w sources
    → source_cells cells sources ≡ Some found → AllByRecursion (IsCellOf w) found
sources_within ws cells [] w found h are e = subst (AllByRecursion (IsCellOf w)) (same_Some [] found e) tt
sources_within ws cells (s ∷ sources) w found h are e =
    let f = first_of (option_and_then (slice_get cells) s) (map (option_and_then (slice_get cells)) sources) found e in
    subst (AllByRecursion (IsCellOf w)) f.all
    (source_within ws cells s w f.first h are.0 f.here, sources_within ws cells sources w f.rest h are.1 f.others)

others_within : (ws : List Width) (cells : List Cell) (sources : List (Option ℕ)) (w : Width) (found : List Cell) → AreCellsOf ws cells → AreSourcesOf ws w (drop 1 sources)
    → source_cells cells sources ≡ Some found → AllByRecursion (IsCellOf w) (drop 1 found)
others_within ws cells [] w found h are e = subst (λ cs. AllByRecursion (IsCellOf w) (drop 1 cs)) (same_Some [] found e) tt
others_within ws cells (s ∷ sources) w found h are e =
    let f = first_of (option_and_then (slice_get cells) s) (map (option_and_then (slice_get cells)) sources) found e in
    subst (λ cs. AllByRecursion (IsCellOf w) (drop 1 cs)) f.all (sources_within ws cells sources w f.rest h are f.others)

-- ---- one operation

body_takes : (kind : BodyKind) (result : ValueType) (ws : List Width) (sources : List (Option ℕ)) (cells found : List Cell) → FitsBody kind result ws sources → AreCellsOf ws cells
    → source_cells cells sources ≡ Some found → TakesBody kind result found
unfolding FitsBody TakesBody
body_takes (Constant x) result ws sources cells found fits h e = tt
body_takes (Binary op) result ws sources cells found fits h e = sources_within ws cells sources (width_of result) found h fits e
body_takes (Compare x) result ws sources cells found fits h e = sources_within ws cells sources (width_of x.operand_type) found h fits e
body_takes (Select x) result ws sources cells found fits h e = others_within ws cells sources (width_of result) found h fits e
body_takes (Cast x) result ws sources cells found fits h e = (fits.0, sources_within ws cells sources (width_of x.operand_type) found h fits.1 e)
body_takes (Index x) result ws sources cells found fits h e = tt
body_takes IndexCast result ws sources cells found fits h e = sources_within ws cells sources I64 found h fits e

some_within : (w : Width) (o : Option Cell) (c : Cell) → IfSome o (λ a. IsCellOf w a) → o ≡ Some c → IsCellOf w c
some_within w None c h e = absurd (none-some c e)
some_within w (Some a) c h e = subst (IsCellOf w) (same_Some a c e) h

binary_within : (op : BinOp) (w : Width) (found : List Cell) (c : Cell) → AllByRecursion (IsCellOf w) found → on_two (element_of op w) found ≡ Some c → IsCellOf w c
binary_within op w [] c h e = absurd (none-some c e)
binary_within op w (a ∷ []) c h e = absurd (none-some c e)
binary_within op w (a ∷ b ∷ []) c h e = some_within w (element_of op w a b) c (element_of-within op w a b h.0 h.1.0) e
binary_within op w (a ∷ b ∷ d ∷ found) c h e = absurd (none-some c e)

compare_within : (p : Predicate) (w : Width) (found : List Cell) (c : Cell) → on_two (λ a b. Some (comparison_of p w a b)) found ≡ Some c → IsCellOf I1 c
compare_within p w [] c e = absurd (none-some c e)
compare_within p w (a ∷ []) c e = absurd (none-some c e)
compare_within p w (a ∷ b ∷ []) c e = subst (IsCellOf I1) (same_Some (comparison_of p w a b) c e) (comparison_of-within p w a b)
compare_within p w (a ∷ b ∷ d ∷ found) c e = absurd (none-some c e)

chosen_within : (w : Width) (n a b : Cell) → IsCellOf w a → IsCellOf w b → IsCellOf w (chosen n a b)
chosen_within w Undef a b h k = tt
chosen_within w (Val zero) a b h k = k
chosen_within w (Val (suc n)) a b h k =
    let some : (suc n == 0) ≡ false = grind (arith, nat_tests) in
    subst (IsCellOf w) (sym (ap (λ t. if t then b else a) some)) h

select_within : (w : Width) (found : List Cell) (c : Cell) → AllByRecursion (IsCellOf w) (drop 1 found) → on_three (λ n a b. Some (chosen n a b)) found ≡ Some c → IsCellOf w c
select_within w [] c h e = absurd (none-some c e)
select_within w (n ∷ []) c h e = absurd (none-some c e)
select_within w (n ∷ a ∷ []) c h e = absurd (none-some c e)
select_within w (n ∷ a ∷ b ∷ []) c h e = subst (IsCellOf w) (same_Some (chosen n a b) c e) (chosen_within w n a b h.0 h.1.0)
select_within w (n ∷ a ∷ b ∷ d ∷ found) c h e = absurd (none-some c e)

cast_within : (op : CastOp) (from to : Width) (found : List Cell) (c : Cell) → CanCast op from to → AllByRecursion (IsCellOf from) found
    → on_one (λ a. Some (cast_of op from to a)) found ≡ Some c → IsCellOf to c
cast_within op from to [] c can h e = absurd (none-some c e)
cast_within op from to (a ∷ []) c can h e = subst (IsCellOf to) (same_Some (cast_of op from to a) c e) (cast_of-within op from to a can h.0)
cast_within op from to (a ∷ b ∷ found) c can h e = absurd (none-some c e)

low_within : (w : Width) (a : Cell) → IsCellOf I64 a → IsCellOf w (cast_of Trunci I64 w a)
low_within I1 a h = cast_of-within Trunci I64 I1 a (omega arith) h
low_within I8 a h = cast_of-within Trunci I64 I8 a (omega arith) h
low_within I16 a h = cast_of-within Trunci I64 I16 a (omega arith) h
low_within I32 a h = cast_of-within Trunci I64 I32 a (omega arith) h
low_within I64 a h = subst (IsCellOf I64) (sym (cast_to_itself a h)) h

index_cast_within : (w : Width) (found : List Cell) (c : Cell) → AllByRecursion (IsCellOf I64) found → on_one (λ a. Some (cast_of Trunci I64 w a)) found ≡ Some c → IsCellOf w c
index_cast_within w [] c h e = absurd (none-some c e)
index_cast_within w (a ∷ []) c h e = subst (IsCellOf w) (same_Some (cast_of Trunci I64 w a) c e) (low_within w a h.0)
index_cast_within w (a ∷ b ∷ found) c h e = absurd (none-some c e)

index_within : (point : List ℕ) (l : ℕ) (c : Cell) → AllByRecursion (λ k. k < 2 ^ 64) point → option_map (λ k. Val k) (slice_get point l) ≡ Some c → IsCellOf I64 c
index_within [] l c small e = absurd (none-some c e)
index_within (k ∷ point) zero c small e = subst (IsCellOf I64) (same_Some (Val k) c e) small.0
index_within (k ∷ point) (suc l) c small e = index_within point l c small.1 e

body_within : (kind : BodyKind) (result : ValueType) (ws : List Width) (sources : List (Option ℕ)) (point : List ℕ) (found : List Cell) (c : Cell) → FitsBody kind result ws sources
    → TakesBody kind result found → AllByRecursion (λ k. k < 2 ^ 64) point → body_cell kind result point found ≡ Some c → IsCellOf (width_given kind result) c
unfolding FitsBody TakesBody body_cell width_given formula_cell
body_within (Constant x) result ws sources point found c fits takes small e = constant_fits (width_of result) x.contents 0 c fits e
body_within (Binary op) result ws sources point found c fits takes small e = binary_within op (width_of result) found c takes e
body_within (Compare x) result ws sources point found c fits takes small e = compare_within x.predicate (width_of x.operand_type) found c e
body_within (Select x) result ws sources point found c fits takes small e = select_within (width_of result) found c takes e
body_within (Cast x) result ws sources point found c fits takes small e = cast_within x.op (width_of x.operand_type) (width_of result) found c takes.0 takes.1 e
body_within (Index x) result ws sources point found c fits takes small e = index_within point x.dimension c small e
body_within IndexCast result ws sources point found c fits takes small e = index_cast_within (width_of result) found c takes e

-- ---- all operations

more_cells : (ws : List Width) (cells : List Cell) (w : Width) (c : Cell) → AreCellsOf ws cells → IsCellOf w c → AreCellsOf (ws ++ w ∷ []) (cells ++ c ∷ [])
more_cells [] [] w c h k = (k, tt)
more_cells [] (a ∷ cells) w c h k = absurd h
more_cells (v ∷ ws) [] w c h k = absurd h
more_cells (v ∷ ws) (a ∷ cells) w c h k = (h.0, more_cells ws cells w c h.1 k)

op_within : (op : PlacedOp) (ws : List Width) (point : List ℕ) (cells : List Cell) (c : Cell) → FitsBody op.kind op.result ws op.sources → AreCellsOf ws cells
    → AllByRecursion (λ k. k < 2 ^ 64) point → placed_op_cell op point cells ≡ Some c → IsCellOf (width_given op.kind op.result) c
op_within op ws point cells c fits h small e = go (source_cells cells op.sources) refl e
  where
    go : (o : Option (List Cell)) → o ≡ source_cells cells op.sources → option_and_then (body_cell op.kind op.result point) o ≡ Some c → IsCellOf (width_given op.kind op.result) c
    go None is k = absurd (none-some c k)
    go (Some found) is k = body_within op.kind op.result ws op.sources point found c fits (body_takes op.kind op.result ws op.sources cells found fits h (sym is)) small k

pub can_run : (ops : List PlacedOp) (ws : List Width) (point : List ℕ) (cells : List Cell) → FitOps ws ops → AreCellsOf ws cells → AllByRecursion (λ k. k < 2 ^ 64) point
    → CanRunPlaced ops point cells
can_run [] ws point cells fits h small = tt
can_run (op ∷ ops) ws point cells fits h small = (
  λ found e. body_takes op.kind op.result ws op.sources cells found fits.0 h e,
  λ c e.
      can_run ops (ws ++ width_given op.kind op.result ∷ []) point (cells ++ c ∷ []) fits.1
      (more_cells ws cells (width_given op.kind op.result) c h (op_within op ws point cells c fits.0 h small e)) small,
)

after_within : (ops : List PlacedOp) (ws : List Width) (point : List ℕ) (cells after : List Cell) → FitOps ws ops → AreCellsOf ws cells → AllByRecursion (λ k. k < 2 ^ 64) point
    → cells_after ops point cells ≡ Some after → AreCellsOf (widths_after ws ops) after
after_within [] ws point cells after fits h small e = subst (AreCellsOf ws) (same_Some cells after e) h
after_within (op ∷ ops) ws point cells after fits h small e =
    go (placed_op_cell op point cells) refl
    (λ c is k.
    after_within ops (ws ++ width_given op.kind op.result ∷ []) point (cells ++ c ∷ []) after fits.1
    (more_cells ws cells (width_given op.kind op.result) c h (op_within op ws point cells c fits.0 h small is)) small k)
    e
  where
    go : (o : Option Cell) → o ≡ placed_op_cell op point cells
        → ((c : Cell) → placed_op_cell op point cells ≡ Some c → cells_after ops point (cells ++ c ∷ []) ≡ Some after → AreCellsOf (widths_after ws (op ∷ ops)) after)
        → option_and_then (λ c. cells_after ops point (cells ++ c ∷ [])) o ≡ Some after → AreCellsOf (widths_after ws (op ∷ ops)) after
    go None is rec k = absurd (none-some after k)
    go (Some c) is rec k = rec c (sym is) k

pub region_within : (body : PlacedBody) (ws : List Width) (w : Width) (point : List ℕ) (cells : List Cell) (c : Cell) → FitsRegion ws body w → AreCellsOf ws cells
    → AllByRecursion (λ k. k < 2 ^ 64) point → region_cell body point cells ≡ Some c → IsCellOf w c
unfolding region_cell
region_within body ws w point cells c fits h small e =
    go (cells_after body.ops point cells) refl e
  where
    go : (o : Option (List Cell)) → o ≡ cells_after body.ops point cells → option_and_then (λ after. option_and_then (slice_get after) body.yields) o ≡ Some c → IsCellOf w c
    go None is k = absurd (none-some c k)
    go (Some after) is k = source_within (widths_after ws body.ops) after body.yields w c (after_within body.ops ws point cells after fits.ops h small (sym is)) fits.yields k

-- ---- a region stands for a body

alike_step : (s : PlacedStep) (op : PlacedOp) (point : List ℕ) (cells : List Cell) → IsAlike s op → step_given s point cells ≡ placed_op_cell op point cells
unfolding step_given
alike_step s op point cells alike =
    ap (λ sources. option_and_then (work_cell s.work point) (source_cells cells sources)) alike.sources
    ∙ go (source_cells cells op.sources)
  where
    go : (o : Option (List Cell)) → option_and_then (work_cell s.work point) o ≡ option_and_then (body_cell op.kind op.result point) o
    go None = refl
    go (Some found) = alike.gives point found

alike_steps : (steps : List PlacedStep) (ops : List PlacedOp) (point : List ℕ) (cells : List Cell) → AreAlike steps ops → steps_given steps point cells ≡ cells_after ops point cells
alike_steps [] [] point cells alike = refl
alike_steps [] (op ∷ ops) point cells alike = absurd alike
alike_steps (s ∷ steps) [] point cells alike = absurd alike
alike_steps (s ∷ steps) (op ∷ ops) point cells alike =
    ap (option_and_then (λ c. steps_given steps point (cells ++ c ∷ []))) (alike_step s op point cells alike.0)
    ∙ go (placed_op_cell op point cells) (λ c. alike_steps steps ops point (cells ++ c ∷ []) alike.1)
  where
    go : (o : Option Cell) → ((c : Cell) → steps_given steps point (cells ++ c ∷ []) ≡ cells_after ops point (cells ++ c ∷ []))
        → option_and_then (λ c. steps_given steps point (cells ++ c ∷ [])) o ≡ option_and_then (λ c. cells_after ops point (cells ++ c ∷ [])) o
    go None rec = refl
    go (Some c) rec = rec c

pub alike_region : (r : Region) (body : PlacedBody) (point : List ℕ) (cells : List Cell) → StandsForBody r body → region_given r point cells ≡ region_cell body point cells
unfolding region_given region_cell
alike_region r body point cells stands =
    ap₂ (λ y o. option_and_then (λ after. option_and_then (slice_get after) y) o) stands.yields (alike_steps r.steps body.ops point cells stands.steps)

pub alike_runs : (steps : List PlacedStep) (ops : List PlacedOp) (point : List ℕ) (cells : List Cell) → AreAlike steps ops → CanRunPlaced ops point cells → CanRun steps point cells
alike_runs [] [] point cells alike can = tt
alike_runs [] (op ∷ ops) point cells alike can = absurd alike
alike_runs (s ∷ steps) [] point cells alike can = absurd alike
alike_runs (s ∷ steps) (op ∷ ops) point cells alike can = (
  λ found e. alike.0.takes found (can.0 found (ap (source_cells cells) (sym alike.0.sources) ∙ e)),
  λ c e. alike_runs steps ops point (cells ++ c ∷ []) alike.1 (can.1 c (sym (alike_step s op point cells alike.0) ∙ e)),
)

-- ---- one operation more

pub alike_pushed : (steps : List PlacedStep) (s : PlacedStep) (names : List (Option ℕ)) (ops : List BodyOp) (op : BodyOp) → AreAlike steps (placed_ops names ops)
    → IsAlike s (placed_op (names ++ map (λ (o : BodyOp). Some o.defines) ops) op) → AreAlike (steps ++ s ∷ []) (placed_ops names (ops ++ op ∷ []))
alike_pushed [] s names [] op are is = (subst (λ ns. IsAlike s (placed_op ns op)) (append-nil names) is, tt)
alike_pushed (t ∷ steps) s names [] op are is = absurd are
alike_pushed [] s names (o ∷ ops) op are is = absurd are
alike_pushed (t ∷ steps) s names (o ∷ ops) op are is = (
  are.0,
  alike_pushed steps s (names ++ Some o.defines ∷ []) ops op are.1
      (subst (λ ns. IsAlike s (placed_op ns op)) (sym (append_assoc names (Some o.defines ∷ []) (map (λ (p : BodyOp). Some p.defines) ops))) is),
)

somes-both : (xs : List ℕ) (ops : List BodyOp) → map (λ n. Some n) (xs ++ map (λ (o : BodyOp). o.defines) ops) ≡ map (λ n. Some n) xs ++ map (λ (o : BodyOp). Some o.defines) ops
somes-both [] ops = somes ops
  where
    somes : (ops : List BodyOp) → map (λ n. Some n) (map (λ (o : BodyOp). o.defines) ops) ≡ map (λ (o : BodyOp). Some o.defines) ops
    somes [] = refl
    somes (o ∷ ops) = ap (λ xs. Some o.defines ∷ xs) (somes ops)
somes-both (x ∷ xs) ops = ap (λ ys. Some x ∷ ys) (somes-both xs ops)

pub one_placed : (steps new : List PlacedStep) (s : PlacedStep) (names now after : List ℕ) (ops : List BodyOp) (i : ℕ) (op : BodyOp) → i < length ops → op ≡ get_or ops i op
    → ArePlaced steps names (take i ops) now → IsAlike s (placed_op (map (λ n. Some n) now) op) → new ≡ steps ++ s ∷ [] → after ≡ now ++ op.defines ∷ []
    → ArePlaced new names (take (i + 1) ops) after
one_placed steps new s names now after ops i op l at h alike pushed named =
    let more : take (i + 1) ops ≡ take i ops ++ op ∷ [] = take_more ops i op l at in
    record {
      steps_alike =
          subst (λ xs. AreAlike new (placed_ops (map (λ n. Some n) names) xs)) (sym more)
          (subst (λ ss. AreAlike ss (placed_ops (map (λ n. Some n) names) (take i ops ++ op ∷ []))) (sym pushed)
          (alike_pushed steps s (map (λ n. Some n) names) (take i ops) op h.steps_alike
          (subst (λ ns. IsAlike s (placed_op ns op)) (ap (map (λ n. Some n)) h.names_after ∙ somes-both names (take i ops)) alike)));
      names_after =
          named ∙ ap (λ ns. ns ++ op.defines ∷ []) h.names_after
          ∙ append_assoc names (map (λ (o : BodyOp). o.defines) (take i ops)) (op.defines ∷ [])
          ∙ ap (λ xs. names ++ xs) (sym (ap (map (λ (o : BodyOp). o.defines)) more ∙ defines-both (take i ops) op));
    }
  where
    take_more : (ops : List BodyOp) (i : ℕ) (op : BodyOp) → i < length ops → op ≡ get_or ops i op → take (i + 1) ops ≡ take i ops ++ op ∷ []
    take_more ops i op l at = ap (λ n. take n ops) (add-one i) ∙ go ops i op l at
      where
        go : (ops : List BodyOp) (i : ℕ) (op : BodyOp) → i < length ops → op ≡ get_or ops i op → take (suc i) ops ≡ take i ops ++ op ∷ []
        go [] i op l at = absurd (omega (arith, l))
        go (o ∷ ops) zero op l at = ap (λ x. x ∷ []) (sym at)
        go (o ∷ ops) (suc i) op l at = ap (λ xs. o ∷ xs) (go ops i op (omega (arith, l)) at)

    defines-both : (xs : List BodyOp) (op : BodyOp) → map (λ (o : BodyOp). o.defines) (xs ++ op ∷ []) ≡ map (λ (o : BodyOp). o.defines) xs ++ op.defines ∷ []
    defines-both [] op = refl
    defines-both (x ∷ xs) op = ap (λ ys. x.defines ∷ ys) (defines-both xs op)

pub region_stands : (steps : List PlacedStep) (y : Option ℕ) (scalars : List Cell) (captured : List ℕ) (body : Body) (ops : List BodyOp) (names after : List ℕ) → ops ≡ body.ops
    → names ≡ captured ++ body.args → ArePlaced steps names ops after → y ≡ last_place (map (λ n. Some n) after) body.yields
    → StandsForBody (record { steps = steps; yields = y; scalars = scalars }) (placed captured body)
unfolding placed
region_stands steps y scalars captured body ops names after ops_are names_are h is =
    record {
      steps =
          subst (λ os. AreAlike steps (placed_ops (map (λ n. Some n) (captured ++ body.args)) os)) ops_are
          (subst (λ ns. AreAlike steps (placed_ops (map (λ n. Some n) ns) ops)) names_are h.steps_alike);
      yields =
          is
          ∙ ap (λ ns. last_place ns body.yields)
          (ap (map (λ n. Some n)) h.names_after ∙ somes-both names ops
          ∙ ap₂ (λ ns os. map (λ n. Some n) ns ++ map (λ (o : BodyOp). Some o.defines) os) names_are ops_are);
    }
