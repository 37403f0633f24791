-- Pieces of tensors of one shape.
use Rattle.std.proofs.Common.{◌≡◌, ℕ, ◌+◌, ◌*◌, ◌/◌, ◌%◌, ◌<◌, ◌≤◌, Bool, true, false, List, [], ◌∷◌, ◌++◌, map, length, get_or, set, take, refl, ap, ap₂, sym, ◌∙◌, arith, subst, Some, None}
use Rattle.std.specs.Prelude.{◌&&◌, ◌==◌, Option, nat_eq, nat_lt, option_and_then, option_map, if◌then◌else◌}
use Rattle.std.specs.Cmp.Lexicographic.{pointwise}
use Rattle.std.specs.List.{All, list_all}
use Rattle.std.proofs.lemmas.Cmp.{nat_list_eq_equiv}
use Rattle.std.proofs.lemmas.List.{take_more, map-append, length-map, length-set}
use Rattle.std.proofs.lemmas.List.Elements.{All-head, All-tail, All-nil, All-cons}
use Rattle.std.proofs.lemmas.Option.{same_Some}
use Rattle.std.proofs.Math.Nat.{mul-le-mul_right, div-add-mod}
use Rattle.sh_base.specs.declared.numbers.Width.{Width}
use Rattle.sh_sem.specs.Collected.{piece_of, scattered_shape, exchanged_shape}
use Rattle.sh_sem.specs.Pieces.{Piece, equal_piece, common_shape, joined_shape, is_like, total_extent}
use Rattle.sh_tensor.specs.Tensor.{TensorValue, IsTensor, slice_of}
use Rattle.sh_tensor.proofs.SliceLaws.{IsTensor-slice_of}
use Rattle.sh_collectives.specs.Operands.{AreTensors, pieces_at}
use Rattle.sh_collectives.proofs.CombiningLaws.{have_common}

-- ---- one element more of a mapped list

pub mapped_more : {X Y : Type 0} (f : X → Y) (xs : List X) (i : ℕ) (x : X) (y : Y) (old new : List Y) → i < length xs → get_or xs i x ≡ x → y ≡ f x → old ≡ map f (take i xs) → new ≡ old ++ y ∷ []
    → new ≡ map f (take (i + 1) xs)
mapped_more f xs i x y old new l read e h n =
    n ∙ ap₂ (λ o z. o ++ z ∷ []) h (e ∙ ap f (sym read))
    ∙ sym (ap (map f) (take_more xs i x l) ∙ map-append f (take i xs) (get_or xs i x ∷ []))

-- ---- a piece of one tensor

-- piece p of pieces of this size, if there is one
abbrev equal_by : ℕ → Bool → ℕ → Option Piece
equal_by p b size = if b then Some (record { start = p * size; size = size }) else None

module _ (n p e : ℕ) where
  sized : (b : Bool) (q size : ℕ) → option_map (λ (x : Piece). x.size) (equal_by p b q) ≡ Some size → equal_by p b q ≡ equal_by p true size
  sized false q size h = absurd (cc)
  sized true q size h = ap (equal_by p true) (same_Some q size h)

  -- the piece of a known size
  equal_is : (size : ℕ) → option_map (λ (x : Piece). x.size) (equal_piece n p e) ≡ Some size → equal_piece n p e ≡ equal_by p true size
  equal_is size h = sized (nat_lt 0 n && (e % n == 0)) (e / n) size h

  size_is : (b : Bool) (q size : ℕ) → option_map (λ (x : Piece). x.size) (equal_by p b q) ≡ Some size → q ≡ size
  size_is false q size h = absurd (cc)
  size_is true q size h = same_Some q size h

  -- it lies within the extent
  pub piece_fits : (size : ℕ) → p < n → option_map (λ (x : Piece). x.size) (equal_piece n p e) ≡ Some size → p * size + size ≤ e
  piece_fits size l h =
      let same : e / n ≡ size = size_is (nat_lt 0 n && (e % n == 0)) (e / n) size h in
      let split : n * (e / n) + e % n ≡ e = div-add-mod e n in
      let all : n * size + e % n ≡ e = ap (λ z. n * z + e % n) (sym same) ∙ split in
      let less : (p + 1) * size ≤ n * size = mul-le-mul_right size (omega (arith, l)) in
      omega (arith, all, less)

  none_is : (o : Option Piece) → option_map (λ (x : Piece). x.size) o ≡ None → o ≡ None
  none_is None h = refl
  none_is (Some x) h = absurd (cc)

abbrev piece_by : ℕ → TensorValue → Option Piece → TensorValue
piece_by axis t o = elim o [ None ↦ t | Some x ↦ slice_of t axis x.start x.size ]

module _ (axis n p : ℕ) (t : TensorValue) where
  pub piece_some : (size : ℕ) → option_map (λ (x : Piece). x.size) (equal_piece n p (get_or t.shape axis 0)) ≡ Some size → slice_of t axis (p * size) size ≡ piece_of axis n p t
  piece_some size h = sym (ap (piece_by axis t) (equal_is n p (get_or t.shape axis 0) size h))

  pub piece_none : option_map (λ (x : Piece). x.size) (equal_piece n p (get_or t.shape axis 0)) ≡ None → t ≡ piece_of axis n p t
  piece_none h = sym (ap (piece_by axis t) (none_is n p (get_or t.shape axis 0) (equal_piece n p (get_or t.shape axis 0)) h))

  whole_by : (o : Option ℕ) → option_map (λ (x : Piece). x.size) (equal_piece n p (get_or t.shape axis 0)) ≡ o → p < n → axis < length t.shape → IsTensor t → IsTensor (piece_of axis n p t)
  whole_by None h l ranked whole = subst IsTensor (piece_none h) whole
  whole_by (Some size) h l ranked whole =
      subst IsTensor (piece_some size h) (IsTensor-slice_of t axis (p * size) size ranked (piece_fits n p (get_or t.shape axis 0) size l h) whole)

  width_by : (o : Option Piece) → (piece_by axis t o).width ≡ t.width
  width_by None = refl
  width_by (Some x) = refl

  shape_by : (o : Option Piece) (s : List ℕ) → option_map (λ x. set t.shape axis x.size) o ≡ Some s → (piece_by axis t o).shape ≡ s
  shape_by None s h = absurd (cc)
  shape_by (Some x) s h = same_Some _ s h

  shape_of : (s0 s : List ℕ) → t.shape ≡ s0 → scattered_shape axis n p s0 ≡ Some s → (piece_of axis n p t).shape ≡ s
  shape_of s0 s e h = shape_by (equal_piece n p (get_or t.shape axis 0)) s (ap (scattered_shape axis n p) e ∙ h)

-- ---- a piece of each

module _ (axis n p : ℕ) where
  pieces_whole : (ts : List TensorValue) → p < n → All (λ (t : TensorValue). axis < length t.shape) ts → All IsTensor ts → All IsTensor (map (piece_of axis n p) ts)
  pieces_whole [] l axes whole = All-nil IsTensor
  pieces_whole (t ∷ ts) l axes whole =
      All-cons IsTensor (piece_of axis n p t) (map (piece_of axis n p) ts)
      (whole_by axis n p t (option_map (λ (x : Piece). x.size) (equal_piece n p (get_or t.shape axis 0))) refl l (All-head (λ (t : TensorValue). axis < length t.shape) t ts axes) (All-head IsTensor t ts whole))
      (pieces_whole ts l (All-tail (λ (t : TensorValue). axis < length t.shape) t ts axes) (All-tail IsTensor t ts whole))

  pieces_wide : (w : Width) (ts : List TensorValue) → All (λ (t : TensorValue). t.width ≡ w) ts → All (λ (t : TensorValue). t.width ≡ w) (map (piece_of axis n p) ts)
  pieces_wide w [] widths = All-nil (λ (t : TensorValue). t.width ≡ w)
  pieces_wide w (t ∷ ts) widths =
      All-cons (λ (t : TensorValue). t.width ≡ w) (piece_of axis n p t) (map (piece_of axis n p) ts)
      (width_by axis n p t (equal_piece n p (get_or t.shape axis 0)) ∙ All-head (λ (t : TensorValue). t.width ≡ w) t ts widths)
      (pieces_wide w ts (All-tail (λ (t : TensorValue). t.width ≡ w) t ts widths))

  pieces_shaped : (s0 s : List ℕ) (ts : List TensorValue) → All (λ (t : TensorValue). t.shape ≡ s0) ts → scattered_shape axis n p s0 ≡ Some s → All (λ (t : TensorValue). t.shape ≡ s) (map (piece_of axis n p) ts)
  pieces_shaped s0 s [] shapes h = All-nil (λ (t : TensorValue). t.shape ≡ s)
  pieces_shaped s0 s (t ∷ ts) shapes h =
      All-cons (λ (t : TensorValue). t.shape ≡ s) (piece_of axis n p t) (map (piece_of axis n p) ts)
      (shape_of axis n p t s0 s (All-head (λ (t : TensorValue). t.shape ≡ s0) t ts shapes) h)
      (pieces_shaped s0 s ts (All-tail (λ (t : TensorValue). t.shape ≡ s0) t ts shapes) h)

pub pieces_are : (axis p : ℕ) (w : Width) (ts : List TensorValue) → p < length ts → All (λ (t : TensorValue). axis < length t.shape) ts → AreTensors w ts → AreTensors w (pieces_at axis p ts)
pieces_are axis p w ts l axes are = record {
  whole = pieces_whole axis (length ts) p ts l axes are.whole;
  widths = pieces_wide axis (length ts) p w ts are.widths;
}

-- ---- tensors of one shape

all_same : (s : List ℕ) (us : List TensorValue) → All (λ (u : TensorValue). u.shape ≡ s) us → list_all (pointwise nat_eq s) (map (λ u. u.shape) us) ≡ true
all_same s [] all = refl
all_same s (u ∷ us) all =
    ap₂ (λ a b. a && b)
    (ap (pointwise nat_eq s) (All-head (λ (u : TensorValue). u.shape ≡ s) u us all) ∙ nat_list_eq_equiv.refl s)
    (all_same s us (All-tail (λ (u : TensorValue). u.shape ≡ s) u us all))

common_of : (s : List ℕ) (us : List TensorValue) → 0 < length us → All (λ (u : TensorValue). u.shape ≡ s) us → common_shape (map (λ u. u.shape) us) ≡ Some s
common_of s [] some all = absurd (omega (arith, some))
common_of s (u ∷ us) some all =
    let first : u.shape ≡ s = All-head (λ (u : TensorValue). u.shape ≡ s) u us all in
    ap (λ x. if list_all (pointwise nat_eq x) (map (λ u. u.shape) us) then Some x else None) first
    ∙ ap (λ b. if b then Some s else None) (all_same s us (All-tail (λ (u : TensorValue). u.shape ≡ s) u us all))

all_like : (axis : ℕ) (s : List ℕ) (us : List TensorValue) → All (λ (u : TensorValue). u.shape ≡ s) us → list_all (is_like axis s) (map (λ u. u.shape) us) ≡ true
all_like axis s [] all = refl
all_like axis s (u ∷ us) all =
    ap₂ (λ a b. a && b)
    (ap (is_like axis s) (All-head (λ (u : TensorValue). u.shape ≡ s) u us all) ∙ nat_list_eq_equiv.refl (set s axis 0))
    (all_like axis s us (All-tail (λ (u : TensorValue). u.shape ≡ s) u us all))

total_of : (axis : ℕ) (s : List ℕ) (us : List TensorValue) → All (λ (u : TensorValue). u.shape ≡ s) us → total_extent axis (map (λ u. u.shape) us) ≡ length us * get_or s axis 0
total_of axis s [] all = omega arith
total_of axis s (u ∷ us) all =
    let first : get_or u.shape axis 0 ≡ get_or s axis 0 = ap (λ x. get_or x axis 0) (All-head (λ (u : TensorValue). u.shape ≡ s) u us all) in
    let rest = total_of axis s us (All-tail (λ (u : TensorValue). u.shape ≡ s) u us all) in
    omega (arith, first, rest)

joined_of : (axis : ℕ) (s : List ℕ) (us : List TensorValue) → 0 < length us → All (λ (u : TensorValue). u.shape ≡ s) us
    → joined_shape axis (map (λ u. u.shape) us) ≡ Some (set s axis (length us * get_or s axis 0))
joined_of axis s [] some all = absurd (omega (arith, some))
joined_of axis s (u ∷ us) some all =
    let first : u.shape ≡ s = All-head (λ (u : TensorValue). u.shape ≡ s) u us all in
    ap (λ x. if list_all (is_like axis x) (map (λ u. u.shape) us) then Some (set x axis (total_extent axis (map (λ u. u.shape) (u ∷ us)))) else None) first
    ∙ ap (λ b. if b then Some (set s axis (total_extent axis (map (λ u. u.shape) (u ∷ us)))) else None) (all_like axis s us (All-tail (λ (u : TensorValue). u.shape ≡ s) u us all))
    ∙ ap (λ n. Some (set s axis n)) (total_of axis s (u ∷ us) all)

-- ---- the shapes of all pieces

-- the pieces have this shape
pub record ArePieces (axis p : ℕ) (ts : List TensorValue) (part : List ℕ) : Type 0 where
  pub whole : List ℕ
  pub common : common_shape (map (λ u. u.shape) ts) ≡ Some whole
  pub scattered : scattered_shape axis (length ts) p whole ≡ Some part

scattered_by : (axis p : ℕ) (ts : List TensorValue) (s : List ℕ) (o : Option (List ℕ)) → common_shape (map (λ u. u.shape) ts) ≡ o → option_and_then (scattered_shape axis (length ts) p) o ≡ Some s → ArePieces axis p ts s
scattered_by axis p ts s None e h = absurd (cc)
scattered_by axis p ts s (Some whole) e h = record { whole = whole; common = e; scattered = h }

parts_shaped : (axis p : ℕ) (ts : List TensorValue) (part : List ℕ) → ArePieces axis p ts part → All (λ (t : TensorValue). t.shape ≡ part) (pieces_at axis p ts)
parts_shaped axis p ts part h = pieces_shaped axis (length ts) p h.whole part ts (have_common ts h.whole h.common) h.scattered

pub scattered_pieces : (axis p : ℕ) (ts : List TensorValue) (s : List ℕ) → p < length ts → option_and_then (scattered_shape axis (length ts) p) (common_shape (map (λ u. u.shape) ts)) ≡ Some s
    → common_shape (map (λ u. u.shape) (pieces_at axis p ts)) ≡ Some s
scattered_pieces axis p ts s l h =
    let many = length-map ts (piece_of axis (length ts) p) in
    common_of s (pieces_at axis p ts) (omega (arith, l, many)) (parts_shaped axis p ts s (scattered_by axis p ts s (common_shape (map (λ u. u.shape) ts)) refl h))

-- pieces that are put together along an axis to this shape
pub record AreExchanged (split concat p : ℕ) (ts : List TensorValue) (s : List ℕ) : Type 0 where
  pub part : List ℕ
  pub pieces : ArePieces split p ts part
  pub together : set part concat (length ts * get_or part concat 0) ≡ s

exchanged_part : (split concat p : ℕ) (ts : List TensorValue) (s whole : List ℕ) (o : Option (List ℕ)) → common_shape (map (λ u. u.shape) ts) ≡ Some whole → scattered_shape split (length ts) p whole ≡ o
    → option_map (λ x. set x concat (length ts * get_or x concat 0)) o ≡ Some s → AreExchanged split concat p ts s
exchanged_part split concat p ts s whole None common e h = absurd (cc)
exchanged_part split concat p ts s whole (Some part) common e h =
    record { part = part; pieces = record { whole = whole; common = common; scattered = e }; together = same_Some _ s h }

exchanged_by : (split concat p : ℕ) (ts : List TensorValue) (s : List ℕ) (o : Option (List ℕ)) → common_shape (map (λ u. u.shape) ts) ≡ o → option_and_then (exchanged_shape split concat (length ts) p) o ≡ Some s
    → AreExchanged split concat p ts s
exchanged_by split concat p ts s None e h = absurd (cc)
exchanged_by split concat p ts s (Some whole) e h = exchanged_part split concat p ts s whole (scattered_shape split (length ts) p whole) e refl h

pub exchanged_pieces : (split concat p : ℕ) (ts : List TensorValue) (s : List ℕ) → p < length ts → option_and_then (exchanged_shape split concat (length ts) p) (common_shape (map (λ u. u.shape) ts)) ≡ Some s
    → joined_shape concat (map (λ u. u.shape) (pieces_at split p ts)) ≡ Some s
exchanged_pieces split concat p ts s l h =
    let many = length-map ts (piece_of split (length ts) p) in
    let x = exchanged_by split concat p ts s (common_shape (map (λ u. u.shape) ts)) refl h in
    joined_of concat x.part (pieces_at split p ts) (omega (arith, l, many)) (parts_shaped split p ts x.part x.pieces)
    ∙ ap (λ n. Some (set x.part concat (n * get_or x.part concat 0))) many
    ∙ ap (λ z. Some z) x.together

-- ---- pieces have the dimensions of their tensors

ranked_by : (axis : ℕ) (t : TensorValue) (o : Option Piece) → length (piece_by axis t o).shape ≡ length t.shape
ranked_by axis t None = refl
ranked_by axis t (Some x) = length-set t.shape axis x.size

ranked_all : (axis n p d : ℕ) (ts : List TensorValue) → All (λ (t : TensorValue). d < length t.shape) ts → All (λ (t : TensorValue). d < length t.shape) (map (piece_of axis n p) ts)
ranked_all axis n p d [] all = All-nil (λ (t : TensorValue). d < length t.shape)
ranked_all axis n p d (t ∷ ts) all =
    All-cons (λ (t : TensorValue). d < length t.shape) (piece_of axis n p t) (map (piece_of axis n p) ts)
    (subst (λ m. d < m) (sym (ranked_by axis t (equal_piece n p (get_or t.shape axis 0)))) (All-head (λ (t : TensorValue). d < length t.shape) t ts all))
    (ranked_all axis n p d ts (All-tail (λ (t : TensorValue). d < length t.shape) t ts all))

pub pieces_ranked : (axis p d : ℕ) (ts : List TensorValue) → All (λ (t : TensorValue). d < length t.shape) ts → All (λ (t : TensorValue). d < length t.shape) (pieces_at axis p ts)
pieces_ranked axis p d ts all = ranked_all axis (length ts) p d ts all
