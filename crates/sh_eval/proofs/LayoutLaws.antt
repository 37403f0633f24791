-- Slices, reshapes, pieces, paddings and joins: the shape that an operation gives and the rule of its
-- cells make the value that is defined.
use Rattle.std.proofs.Common.{◌≡◌, ◌≢◌, ℕ, zero, suc, ◌*◌, ◌<◌, ◌≤◌, Bool, true, false, List, [], ◌∷◌, map, length, get_or, Option, Some, None, refl, ap, ap₂, sym, ◌∙◌, arith, subst}
use Rattle.std.specs.Prelude.{◌^◌, All, IfSome, IsTrue, max, option_map, option_and_then, if◌then◌else◌}
use Rattle.std.proofs.lemmas.Nat.{mul-le}
use Rattle.std.proofs.Math.Nat.{le-mul_of_pos_right}
use Rattle.sh_base.specs.Shape.{cell_count, max_cells, unflat_of}
use Rattle.sh_base.specs.declared.numbers.Cell.{Cell}
use Rattle.sh_base.specs.declared.numbers.Width.{Width}
use Rattle.sh_ir.specs.declared.types.Dim.{Dim}
use Rattle.sh_tensor.specs.Tensor.{TensorValue}
use Rattle.sh_eval.specs.Cuts.{cut_extent, cut_shape}
use Rattle.sh_eval.specs.Values.{GivesFew, IsFew, known_value, shapes_of}
use Rattle.sh_loops.specs.Cells.{cells_by, tensor_of}
use Rattle.sh_loops.proofs.CellLaws.{built_by, cells_by-same}
use Rattle.sh_sem.specs.Given.{Giving, built_of, of_dims, of_none, of_one, of_two}
use Rattle.sh_sem.specs.Types.{have_extents}

-- ---- few cells

few_some : (s : List ℕ) → 0 < cell_count (map (λ n. max n 1) s)
few_some [] = omega arith
few_some (n ∷ s) =
    let rest = few_some s in
    let one : 1 ≤ max n 1 = omega arith in
    let both : 1 * 1 ≤ max n 1 * cell_count (map (λ n. max n 1) s) = mul-le 1 1 (max n 1) (cell_count (map (λ n. max n 1) s)) one (omega (arith, rest)) in
    omega (arith, both)

pub few_rest : (n : ℕ) (s : List ℕ) → IsFew (n ∷ s) → IsFew s
few_rest n s few =
    let c = cell_count (map (λ n. max n 1) s) in
    let one : 1 ≤ max n 1 = omega arith in
    let more : 1 * c ≤ max n 1 * c = mul-le 1 c (max n 1) c one (omega arith) in
    omega (arith, more, few)

pub few_first : (n : ℕ) (s : List ℕ) → IsFew (n ∷ s) → n ≤ max_cells
few_first n s few =
    let c = cell_count (map (λ n. max n 1) s) in
    let some = few_some s in
    let more : max n 1 ≤ max n 1 * c = le-mul_of_pos_right {m = c} (max n 1) some in
    let here : n ≤ max n 1 = omega arith in
    omega (arith, more, here, few)

pub few_uncut : (s : List ℕ) → IsFew s → cut_shape s ≡ s
few_uncut [] few = refl
few_uncut (n ∷ s) few =
    let small = few_first n s few in
    let here : cut_extent n ≡ n = omega (arith, small) in
    ap₂ (λ m r. m ∷ r) here (few_uncut s (few_rest n s few))

pub few_words : (s : List ℕ) → IsFew s → All (λ n. n < 2 ^ 64) s
few_words [] few = λ k d l. absurd (omega (arith, l))
few_words (n ∷ s) few = go (few_words s (few_rest n s few))
  where
    go : All (λ n. n < 2 ^ 64) s → (k d : ℕ) → k < length (n ∷ s) → get_or (n ∷ s) k d < 2 ^ 64
    go rest zero d l = let small = few_first n s few in omega (arith, small)
    go rest (suc k) d l = rest k d (omega (arith, l))

pub few_count : (s : List ℕ) → IsFew s → cell_count s ≤ max_cells
few_count s few = let more = below s in omega (arith, more, few)
  where
    below : (s : List ℕ) → cell_count s ≤ cell_count (map (λ n. max n 1) s)
    below [] = omega arith
    below (n ∷ s) = mul-le n (cell_count s) (max n 1) (cell_count (map (λ n. max n 1) s)) (omega arith) (below s)

-- ---- the shape

pub shape_unknown : (dims : List Dim) (s : List ℕ) (known : Bool) → known ≡ have_extents dims s → known ≡ false → None ≡ of_dims dims s
shape_unknown dims s known e isn_t = sym (ap (λ b. if b then Some s else None) (sym e ∙ isn_t))

pub shape_known_at : (dims : List Dim) (s : List ℕ) (known : Bool) → known ≡ have_extents dims s → known ≡ true → of_dims dims s ≡ Some s
shape_known_at dims s known e is = ap (λ b. if b then Some s else None) (sym e ∙ is)

pub few_at_known : (dims : List Dim) (s : List ℕ) (known : Bool) → known ≡ have_extents dims s → known ≡ true → IfSome (of_dims dims s) IsFew → IsFew s
few_at_known dims s known e is few = subst (λ o. IfSome o IsFew) (shape_known_at dims s known e is) few

pub not_both : (b : Bool) → b ≡ false → IsTrue b → ⊥
not_both true e h = cc
not_both false e h = cc

-- ---- the tensor

pub laid : (shape : List ℕ) (w : Width) (f : List ℕ → List ℕ → Cell) (cells : List Cell) (o : Option (List ℕ)) → Some shape ≡ o
    → cells_by (λ k. Some (f shape (unflat_of shape k))) (cell_count shape) ≡ Some cells
    → option_map (tensor_of shape w) (Some cells) ≡ option_and_then (λ z. built_of z w (λ i. Some (f z i))) o
laid shape w f cells o e made =
    ap (option_map (tensor_of shape w)) (sym made)
    ∙ sym (built_by shape w (λ i. Some (f shape i)))
    ∙ ap (option_and_then (λ z. built_of z w (λ i. Some (f z i)))) e

built_same : (z : List ℕ) (w : Width) (f g : List ℕ → Option Cell) → ((i : List ℕ) → f i ≡ g i) → built_of z w f ≡ built_of z w g
built_same z w f g h =
    built_by z w f
    ∙ ap (option_map (tensor_of z w)) (cells_by-same (λ k. f (unflat_of z k)) (λ k. g (unflat_of z k)) (cell_count z) (λ k l. h (unflat_of z k)))
    ∙ sym (built_by z w g)

then_same : (o : Option (List ℕ)) (f g : List ℕ → Option TensorValue) → ((z : List ℕ) → f z ≡ g z) → option_and_then f o ≡ option_and_then g o
then_same None f g h = refl
then_same (Some z) f g h = h z

-- the value of a rule whose shape and cells are these
pub value_of_rule : (x : Giving) (dims : List Dim) (w : Width) (ts : List TensorValue) (s : List ℕ) (f : List ℕ → List ℕ → Cell) → x.shape (shapes_of ts) ≡ Some s
    → ((z i : List ℕ) → x.cell ts z i ≡ Some (f z i)) → option_and_then (λ z. built_of z w (λ i. Some (f z i))) (of_dims dims s) ≡ known_value x dims w ts
value_of_rule x dims w ts s f shape cell =
    then_same (of_dims dims s) (λ z. built_of z w (λ i. Some (f z i))) (λ z. built_of z w (x.cell ts z))
    (λ z. built_same z w (λ i. Some (f z i)) (x.cell ts z) (λ i. sym (cell z i)))
    ∙ ap (λ o. option_and_then (λ z. built_of z w (x.cell ts z)) (option_and_then (of_dims dims) o)) (sym shape)

pub few_of_rule : (x : Giving) (dims : List Dim) (ts : List TensorValue) (s : List ℕ) → x.shape (shapes_of ts) ≡ Some s → GivesFew x dims ts → IfSome (of_dims dims s) IsFew
few_of_rule x dims ts s shape few = subst (λ o. IfSome (option_and_then (of_dims dims) o) IsFew) shape few

pub no_value : (x : Giving) (dims : List Dim) (w : Width) (ts : List TensorValue) → x.shape (shapes_of ts) ≡ None → None ≡ known_value x dims w ts
no_value x dims w ts shape = ap (λ o. option_and_then (λ z. built_of z w (x.cell ts z)) (option_and_then (of_dims dims) o)) (sym shape)

pub creator_value : (x : Giving) (dims : List Dim) (w : Width) (ts : List TensorValue) (s shape : List ℕ) → x.shape (shapes_of ts) ≡ Some s → Some shape ≡ of_dims dims s
    → built_of shape w (x.cell ts shape) ≡ known_value x dims w ts
creator_value x dims w ts s shape is known =
    ap (option_and_then (λ z. built_of z w (x.cell ts z))) known
    ∙ ap (λ o. option_and_then (λ z. built_of z w (x.cell ts z)) (option_and_then (of_dims dims) o)) (sym is)

pub creator_none : (x : Giving) (dims : List Dim) (w : Width) (ts : List TensorValue) (s : List ℕ) → x.shape (shapes_of ts) ≡ Some s → None ≡ of_dims dims s → None ≡ known_value x dims w ts
creator_none x dims w ts s is known =
    ap (option_and_then (λ z. built_of z w (x.cell ts z))) known
    ∙ ap (λ o. option_and_then (λ z. built_of z w (x.cell ts z)) (option_and_then (of_dims dims) o)) (sym is)

-- ---- so many operands

pub none_of_none : {X Y : Type 0} (y : Option Y) (xs : List X) → length xs ≢ 0 → of_none y xs ≡ None
none_of_none y [] h = absurd (h refl)
none_of_none y (x ∷ xs) h = refl

pub none_of_one : {X Y : Type 0} (f : X → Option Y) (xs : List X) → length xs ≢ 1 → of_one f xs ≡ None
none_of_one f [] h = refl
none_of_one f (x ∷ []) h = absurd (h refl)
none_of_one f (x ∷ y ∷ xs) h = refl

pub none_of_two : {X Y : Type 0} (f : X → X → Option Y) (xs : List X) → length xs ≢ 2 → of_two f xs ≡ None
none_of_two f [] h = refl
none_of_two f (x ∷ []) h = refl
none_of_two f (x ∷ y ∷ []) h = absurd (h refl)
none_of_two f (x ∷ y ∷ z ∷ xs) h = refl

-- the values that a list of so many borrowed tensors has
module _ {B : Type 0} (f : B → TensorValue) where
  pub values_long : (xs : List B) → length (shapes_of (map f xs)) ≡ length xs
  values_long [] = refl
  values_long (x ∷ xs) = ap suc (values_long xs)

  pub no_values : (xs : List B) → length xs ≡ 0 → map f xs ≡ []
  no_values [] l = refl
  no_values (x ∷ xs) l = absurd (omega (arith, l))

  pub one_value : (xs : List B) (t : B) → length xs ≡ 1 → t ≡ get_or xs 0 t → map f xs ≡ f t ∷ []
  one_value [] t l e = absurd (omega (arith, l))
  one_value (x ∷ []) t l e = ap (λ y. f y ∷ []) (sym e)
  one_value (x ∷ y ∷ xs) t l e = absurd (omega (arith, l))

  pub two_values : (xs : List B) (t u : B) → length xs ≡ 2 → t ≡ get_or xs 0 t → u ≡ get_or xs 1 u → map f xs ≡ f t ∷ f u ∷ []
  two_values [] t u l e g = absurd (omega (arith, l))
  two_values (x ∷ []) t u l e g = absurd (omega (arith, l))
  two_values (x ∷ y ∷ []) t u l e g = ap₂ (λ a b. f a ∷ f b ∷ []) (sym e) (sym g)
  two_values (x ∷ y ∷ z ∷ xs) t u l e g = absurd (omega (arith, l))
