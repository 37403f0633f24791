-- Tensors of one width one after the other, by their shapes.
use Rattle.std.proofs.Common.{◌≡◌, ℕ, ◌<◌, Bool, true, false, List, [], ◌∷◌, map, length, set, refl, ap, ap₂, sym, ◌∙◌, arith, subst, Some, None}
use Rattle.std.specs.Prelude.{◌&&◌, if◌then◌else◌}
use Rattle.std.specs.Cmp.Lexicographic.{same_text}
use Rattle.std.specs.List.{All, AllByRecursion, list_all}
use Rattle.std.proofs.lemmas.List.Elements.{All-head, All-tail}
use Rattle.std.proofs.lemmas.Option.{same_Some}
use Rattle.sh_base.specs.declared.numbers.Width.{Width}
use Rattle.sh_sem.specs.Pieces as pieces
use Rattle.sh_tensor.specs.Tensor.{TensorValue, IsTensor, IsLike, CanJoin, build, concat_of, joined_at, joined_extent, joined_shape}
use Rattle.sh_tensor.proofs.JoinLaws.{join_is}
use Rattle.sh_base.specs.declared.numbers.Cell.{Cell}
use Rattle.sh_collectives.specs.Operands.{AreTensors}
use Rattle.sh_collectives.proofs.MadeLaws.{IsMade, is_made}

pub both_true : (a b : Bool) → (a && b) ≡ true → (a ≡ true) × (b ≡ true)
both_true true b h = (refl, h)
both_true false b h = absurd (cc)

total_is : (axis : ℕ) (ts : List TensorValue) → pieces.total_extent axis (map (λ t. t.shape) ts) ≡ joined_extent axis ts
total_is axis [] = refl
total_is axis (t ∷ ts) = let rest = total_is axis ts in omega (arith, rest)

likes : (axis : ℕ) (w : Width) (t : TensorValue) (us : List TensorValue) → t.width ≡ w → All (λ (u : TensorValue). axis < length u.shape) us → All (λ (u : TensorValue). u.width ≡ w) us
    → list_all (pieces.is_like axis t.shape) (map (λ u. u.shape) us) ≡ true → AllByRecursion (IsLike axis t) us
likes axis w t [] width axes widths h = tt
likes axis w t (u ∷ us) width axes widths h =
    let parts = both_true (pieces.is_like axis t.shape u.shape) (list_all (pieces.is_like axis t.shape) (map (λ u. u.shape) us)) h in (
      record {
        ranked = All-head (λ (u : TensorValue). axis < length u.shape) u us axes;
        width = All-head (λ (u : TensorValue). u.width ≡ w) u us widths ∙ sym width;
        others = sym (same_text (set t.shape axis 0) (set u.shape axis 0) (sym parts.0));
      },
      likes axis w t us width (All-tail (λ (u : TensorValue). axis < length u.shape) u us axes) (All-tail (λ (u : TensorValue). u.width ≡ w) u us widths) parts.1,
    )

-- what is known of tensors that are joined to this shape
pub record IsJoined (axis : ℕ) (w : Width) (ts : List TensorValue) (s : List ℕ) : Type 0 where
  pub can : CanJoin axis ts
  pub shape : s ≡ joined_shape axis ts
  pub value : concat_of ts axis ≡ build s w (joined_at axis ts)

joined_if : (axis : ℕ) (w : Width) (t : TensorValue) (us : List TensorValue) (s : List ℕ) (b : Bool) → list_all (pieces.is_like axis t.shape) (map (λ u. u.shape) us) ≡ b
    → AreTensors w (t ∷ us) → All (λ (u : TensorValue). axis < length u.shape) (t ∷ us)
    → (if b then Some (set t.shape axis (pieces.total_extent axis (map (λ u. u.shape) (t ∷ us)))) else None) ≡ Some s → IsJoined axis w (t ∷ us) s
joined_if axis w t us s false alike are axes h = absurd (cc)
joined_if axis w t us s true alike are axes h =
    let width : t.width ≡ w = All-head (λ (u : TensorValue). u.width ≡ w) t us are.widths in
    let shape : s ≡ joined_shape axis (t ∷ us) = sym (same_Some _ _ h) ∙ ap (set t.shape axis) (total_is axis (t ∷ us)) in
    record {
      can = (
        record { ranked = All-head (λ (u : TensorValue). axis < length u.shape) t us axes; width = refl; others = refl },
        likes axis w t us width (All-tail (λ (u : TensorValue). axis < length u.shape) t us axes) (All-tail (λ (u : TensorValue). u.width ≡ w) t us are.widths) alike,
      );
      shape = shape;
      value = ap₂ (λ x v. build x v (joined_at axis (t ∷ us))) (sym shape) width;
    }

pub is_joined : (axis : ℕ) (w : Width) (ts : List TensorValue) (s : List ℕ) → AreTensors w ts → All (λ (u : TensorValue). axis < length u.shape) ts
    → pieces.joined_shape axis (map (λ u. u.shape) ts) ≡ Some s → IsJoined axis w ts s
is_joined axis w [] s are axes h = absurd (cc)
is_joined axis w (t ∷ us) s are axes h = joined_if axis w t us s (list_all (pieces.is_like axis t.shape) (map (λ u. u.shape) us)) refl are axes h

-- the cells of the joined tensors make the tensor of this shape
pub joined_made : (axis : ℕ) (w : Width) (ts : List TensorValue) (s : List ℕ) (cells : List Cell) → AreTensors w ts → All (λ (u : TensorValue). axis < length u.shape) ts
    → pieces.joined_shape axis (map (λ u. u.shape) ts) ≡ Some s → cells ≡ (concat_of ts axis).cells → IsMade s w (joined_at axis ts) cells
joined_made axis w ts s cells are axes h e =
    let joined = is_joined axis w ts s are axes h in
    let join = join_is axis ts joined.can are.whole in
    is_made s w (joined_at axis ts) cells (subst IsTensor joined.value join.whole) (e ∙ ap (λ (t : TensorValue). t.cells) joined.value)
