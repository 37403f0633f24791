-- What the instructions around a split reduction give: a fill, an all_reduce of tensors of one shape, and
-- an element operation that is never stuck.
use Rattle.std.proofs.Common.{◌≡◌, ℕ, zero, suc, ◌<◌, Bool, true, List, [], ◌∷◌, map, fold, length, Option, Some, None, refl, ap, ap₂, sym, ◌∙◌, arith, subst}
use Rattle.std.specs.Prelude.{◌&&◌, nat_eq, option_map, option_and_then, slice_get, if◌then◌else◌}
use Rattle.std.specs.List.{range_with_len, AllByRecursion, list_all}
use Rattle.std.specs.Cmp.Lexicographic.{pointwise}
use Rattle.std.proofs.lemmas.Bool.{and_from}
use Rattle.std.proofs.lemmas.List.{length-map}
use Rattle.std.proofs.lemmas.List.FromFn.{length-range_with_len}
use Rattle.std.proofs.lemmas.Slice.Eq.{bytes_eq-Decides}
use Rattle.sh_base.specs.declared.numbers.Cell.{Cell}
use Rattle.sh_base.specs.declared.numbers.Width.{Width}
use Rattle.sh_base.specs.declared.operations.BinOp.{BinOp}
use Rattle.sh_base.specs.declared.operations.Kind.{Kind}
use Rattle.sh_base.specs.Cells.{IsCellOf}
use Rattle.sh_int.specs.Elements.{element_of}
use Rattle.sh_int.specs.Reduction.{combine_of, neutral_of, CombineLaws}
use Rattle.sh_ir.specs.declared.operations.Op.{Op}
use Rattle.sh_ir.specs.declared.operations.OpKind.{OpKind}
use Rattle.sh_ir.specs.declared.operations.OpKind.TheVariants.{AllReduce, Binary}
use Rattle.sh_ir.specs.declared.shard_ops.AllReduce as declared_all_reduce
use Rattle.sh_ir.specs.Agreement.{dims_of}
use Rattle.sh_ir.specs.Typing.{typing_of}
use Rattle.sh_sem.specs.Collected.{collected, collecting, combined_at, operands_fit, reduces, result_at, shapes_by, shapes_collected}
use Rattle.sh_sem.specs.Given.{Giving, Seat, given, giving, shape_given, cell_given, built_of, of_dims, gives_cells, have_all_extents}
use Rattle.sh_sem.specs.Pieces.{common_shape}
use Rattle.sh_sem.specs.Scalars.{binary, formula_cell, width_of}
use Rattle.sh_sem.specs.Types.{have_extents}
use Rattle.sh_tensor.specs.Tensor.{TensorValue, at, build}
use Rattle.sh_turns.specs.Program.{all_there}
use Rattle.sh_nest_laws.specs.Folds.{total}
use Rattle.sh_nest_laws.proofs.Totals.{fold_total}
use Rattle.sh_nest_laws.proofs.Values.{build_all}

-- ---- lists of one shape

same_test : (s : List ℕ) → pointwise nat_eq s s ≡ true
same_test s = (bytes_eq-Decides s s).1 refl

all_pass : {X : Type 0} (test : X → Bool) (x : X) (xs : List X) → test x ≡ true → AllByRecursion (λ y. y ≡ x) xs → list_all test xs ≡ true
all_pass test x [] pass h = refl
all_pass test x (y ∷ xs) pass h = and_from (test y) (list_all test xs) (ap test h.0 ∙ pass) (all_pass test x xs pass h.1)

common_is : (s : List ℕ) (shapes : List (List ℕ)) → 0 < length shapes → AllByRecursion (λ z. z ≡ s) shapes → common_shape shapes ≡ Some s
common_is s [] some h = absurd (omega (arith, some))
common_is s (z ∷ shapes) some h =
    ap (λ first. if list_all (pointwise nat_eq first) shapes then Some first else None) h.0
    ∙ ap (λ (b : Bool). if b then Some s else None) (all_pass (pointwise nat_eq s) s shapes (same_test s) h.1)

all_some : {X : Type 0} (f : ℕ → Option X) (x : X) (ks : List ℕ) → ((k : ℕ) → f k ≡ Some x) → all_there (map f ks) ≡ Some (map (λ k. x) ks)
all_some f x [] h = refl
all_some f x (k ∷ ks) h = let here = h k in let rest = all_some f x ks h in rw (here, rest) refl

get_same : {X : Type 0} (x : X) (ks : List ℕ) (p : ℕ) → p < length ks → slice_get (map (λ k. x) ks) p ≡ Some x
get_same x [] p lt = absurd (omega (arith, lt))
get_same x (k ∷ ks) zero lt = refl
get_same x (k ∷ ks) (suc p) lt = get_same x ks p (omega (arith, lt))

-- ---- an all_reduce

module _ (x : declared_all_reduce.AllReduce) (op : Op) (is : op.kind ≡ AllReduce x) (grid : List ℕ) (s : List ℕ) (operand : have_extents (dims_of x.operand_type) s ≡ true) (result : have_extents (dims_of op.result) s ≡ true) where
  shapes_are : (shapes : List (List ℕ)) → 0 < length shapes → AllByRecursion (λ z. z ≡ s) shapes → shapes_collected op grid shapes ≡ Some (map (λ k. s) (range_with_len 0 (length shapes)))
  unfolding shapes_collected collecting typing_of reduces
  shapes_are shapes some same =
      let fits : operands_fit (AllReduce x) op.result shapes ≡ true =
      all_pass (λ shape. have_all_extents (typing_of (AllReduce x) op.result) (shape ∷ [])) s shapes (ap (λ (b : Bool). b && true) operand) same in
      let each : (p : ℕ) → option_and_then (of_dims (dims_of op.result)) (common_shape shapes) ≡ Some s =
      λ p. ap (option_and_then (of_dims (dims_of op.result))) (common_is s shapes some same) ∙ ap (λ (b : Bool). if b then Some s else None) result in
      ap (λ kind. if operands_fit kind op.result shapes then option_and_then (shapes_by (dims_of op.result) shapes) (collecting kind grid) else None) is
      ∙ ap (λ (b : Bool). if b then option_and_then (shapes_by (dims_of op.result) shapes) (collecting (AllReduce x) grid) else None) fits
      ∙ all_some (λ p. option_and_then (of_dims (dims_of op.result)) (common_shape shapes)) s (range_with_len 0 (length shapes)) each

  -- tensors of one shape give the combination of their cells
  pub collected_is : (ts : List TensorValue) (p : ℕ) → p < length ts → AllByRecursion (λ t. t.shape ≡ s) ts → collected op grid ts p ≡ Some (build s (width_of op.result) (combined_at x.reduction ts))
  unfolding collected collecting reduces
  collected_is ts p lt same =
      let counted : length (map (λ t. t.shape) ts) ≡ length ts = length-map ts (λ t. t.shape) in
      let long : length (range_with_len 0 (length (map (λ t. t.shape) ts))) ≡ length ts = length-range_with_len 0 (length (map (λ t. t.shape) ts)) ∙ counted in
      ap (λ (o : Option (List (List ℕ))). option_and_then (result_at op grid ts p) (option_and_then (λ shapes. slice_get shapes p) o)) (shapes_are (map (λ t. t.shape) ts) (omega (arith, lt, counted)) (each_shape ts same))
      ∙ ap (option_and_then (result_at op grid ts p)) (get_same s (range_with_len 0 (length (map (λ t. t.shape) ts))) p (subst (λ n. p < n) (sym long) lt))
      ∙ ap (λ kind. option_map (λ y. build s (width_of op.result) (y.cell p ts)) (collecting kind grid)) is
    where
      each_shape : (ts : List TensorValue) → AllByRecursion (λ t. t.shape ≡ s) ts → AllByRecursion (λ z. z ≡ s) (map (λ t. t.shape) ts)
      each_shape [] h = tt
      each_shape (t ∷ ts) h = (h.0, each_shape ts h.1)

-- the combination of cells that tensors have is the cells put together
fold_cells : (k : Kind) (w : Width) (laws : CombineLaws (IsCellOf w) (neutral_of k w) (combine_of k w)) (part : ℕ → TensorValue) (cell : ℕ → Cell) (j : List ℕ) (ms : List ℕ)
    → ((m : ℕ) → IsCellOf w (cell m)) → AllByRecursion (λ m. at (part m) j ≡ cell m) ms → (a : Cell) → IsCellOf w a
    → fold (combine_of k w) a (map (λ u. at u j) (map part ms)) ≡ combine_of k w a (total (combine_of k w) (neutral_of k w) ms cell)
fold_cells k w laws part cell j ms valid each a ia = same a ms each ∙ fold_total laws (λ b m. combine_of k w b (cell m)) cell valid (λ b m ib. refl) a ia ms
  where
    same : (a : Cell) (ms : List ℕ) → AllByRecursion (λ m. at (part m) j ≡ cell m) ms → fold (combine_of k w) a (map (λ u. at u j) (map part ms)) ≡ fold (λ b m. combine_of k w b (cell m)) a ms
    same a [] h = refl
    same a (m ∷ ms) h = ap (λ b. fold (combine_of k w) (combine_of k w a b) (map (λ u. at u j) (map part ms))) h.0 ∙ same (combine_of k w a (cell m)) ms h.1

pub combined_is : (k : Kind) (w : Width) (laws : CombineLaws (IsCellOf w) (neutral_of k w) (combine_of k w)) (part : ℕ → TensorValue) (cell : ℕ → Cell) (j : List ℕ) (ms : List ℕ) → 0 < length ms
    → ((m : ℕ) → (part m).width ≡ w) → ((m : ℕ) → IsCellOf w (cell m)) → AllByRecursion (λ m. at (part m) j ≡ cell m) ms
    → combined_at k (map part ms) j ≡ total (combine_of k w) (neutral_of k w) ms cell
combined_is k w laws part cell j [] some widths valid each = absurd (omega (arith, some))
combined_is k w laws part cell j (m ∷ ms) some widths valid each =
    ap (λ v. fold (combine_of k v) (at (part m) j) (map (λ u. at u j) (map part ms))) (widths m)
    ∙ ap (λ a. fold (combine_of k w) a (map (λ u. at u j) (map part ms))) each.0
    ∙ fold_cells k w laws part cell j ms valid each.1 (cell m) (valid m)

-- ---- an element operation of two operands that is never stuck

module _ (b : BinOp) (op : Op) (is : op.kind ≡ Binary b) (F : Cell → Cell → Cell) (calm : (x y : Cell) → element_of b (width_of op.result) x y ≡ Some (F x y)) where
  pub binary_gives : (seat : Seat) (s : List ℕ) (x y : TensorValue) → x.shape ≡ s → y.shape ≡ s → have_extents (dims_of op.result) s ≡ true → given op seat (x ∷ y ∷ []) ≡ Some (build s (width_of op.result) (λ i. F (at x i) (at y i)))
  unfolding given shape_given cell_given giving typing_of gives_cells formula_cell
  binary_gives seat s x y xs ys knows =
      let value : OpKind → List ℕ → List ℕ → Option TensorValue = λ kind first second.
      option_and_then (λ shape. built_of shape (width_of op.result) (λ i. option_and_then (λ (g : Giving). g.cell (x ∷ y ∷ []) shape i) (giving kind op.operands op.result seat)))
      (if have_all_extents (typing_of kind op.result) (first ∷ second ∷ []) then option_and_then (of_dims (dims_of op.result)) (option_and_then (λ (g : Giving). g.shape (first ∷ second ∷ [])) (giving kind op.operands op.result seat)) else None) in
      let types : have_all_extents (op.result ∷ op.result ∷ []) (s ∷ s ∷ []) ≡ true = ap₂ (λ (a b : Bool). a && (b && true)) knows knows in
      let common : common_shape (s ∷ s ∷ []) ≡ Some s = common_is s (s ∷ s ∷ []) (omega arith) (refl, (refl, tt)) in
      let cell : List ℕ → Option Cell = λ i. formula_cell (binary b (width_of op.result)) (at x i ∷ at y i ∷ []) in
      ap (λ kind. value kind x.shape y.shape) is
      ∙ ap₂ (value (Binary b)) xs ys
      ∙ ap (λ (t : Bool). option_and_then (λ shape. built_of shape (width_of op.result) cell) (if t then option_and_then (of_dims (dims_of op.result)) (common_shape (s ∷ s ∷ [])) else None)) types
      ∙ ap (λ (o : Option (List ℕ)). option_and_then (λ shape. built_of shape (width_of op.result) cell) (option_and_then (of_dims (dims_of op.result)) o)) common
      ∙ ap (λ (t : Bool). option_and_then (λ shape. built_of shape (width_of op.result) cell) (if t then Some s else None)) knows
      ∙ build_all s (width_of op.result) cell (λ i. F (at x i) (at y i)) (λ i inside. calm (at x i) (at y i))
