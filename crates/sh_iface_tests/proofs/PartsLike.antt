-- Lists of local tensors that are built device by device, each of the shape and the width of a cut.
use Rattle.std.proofs.Common.{◌≡◌, ℕ, ◌+◌, ◌<◌, ◌⊎◌, inl, inr, List, [], ◌∷◌, ◌++◌, length, ap, sym, ◌∙◌, arith}
use Rattle.std.proofs.Math.Seq.{get_or-append_seam}
use Rattle.std.proofs.lemmas.List.{get_or_append_left, length-append}
use Rattle.sh_base.specs.declared.numbers.Width.TheVariants.{I1}
use Rattle.sh_base.specs.Shape.{cell_count}
use Rattle.sh_tensor.specs.Tensor.{TensorValue}
use Rattle.sh_sharding.specs.Sharding.{ShardingValue}
use Rattle.sh_sharding.specs.Together.{part_at, AreParts}

-- parts of the first devices, like the cuts
pub record AreLike (cuts parts : List TensorValue) (k : ℕ) : Type 0 where
  pub counted : length parts ≡ k
  pub shapes : (device : ℕ) → device < k → (part_at parts device).shape ≡ (part_at cuts device).shape
  pub widths : (device : ℕ) → device < k → (part_at parts device).width ≡ (part_at cuts device).width

pub none_like : (cuts parts : List TensorValue) → parts ≡ [] → AreLike cuts parts 0
none_like cuts parts e = record { counted = ap length e; shapes = λ device l. absurd (omega arith); widths = λ device l. absurd (omega arith) }

lt_cases : (i k : ℕ) → i < k + 1 → (i < k) ⊎ (i ≡ k)
lt_cases i k h = grind arith

-- one more
pub more_like : (cuts parts more : List TensorValue) (k : ℕ) (part : TensorValue) → AreLike cuts parts k → more ≡ parts ++ part ∷ []
    → part.shape ≡ (part_at cuts k).shape → part.width ≡ (part_at cuts k).width → AreLike cuts more (k + 1)
more_like cuts parts more k part h e es ew =
    let before : (i : ℕ) → i < k → part_at more i ≡ part_at parts i =
    λ i l. ap (λ ts. part_at ts i) e ∙ get_or_append_left parts (part ∷ []) (record { shape = []; width = I1; cells = [] }) i (rw h.counted l) in
    let here : part_at more k ≡ part =
    ap (λ ts. part_at ts k) e ∙ ap (part_at (parts ++ part ∷ [])) (sym h.counted) ∙ get_or-append_seam parts part [] (record { shape = []; width = I1; cells = [] }) in
    record {
      counted = ap length e ∙ length-append parts (part ∷ []) ∙ ap (λ n. n + 1) h.counted;
      shapes = λ i l. elim (lt_cases i k l) [
        | inl less ↦ ap (λ (u : TensorValue). u.shape) (before i less) ∙ h.shapes i less
        | inr same ↦ ap (λ (z : ℕ). (part_at more z).shape) same ∙ ap (λ (u : TensorValue). u.shape) here ∙ es ∙ sym (ap (λ (z : ℕ). (part_at cuts z).shape) same)
      ];
      widths = λ i l. elim (lt_cases i k l) [
        | inl less ↦ ap (λ (u : TensorValue). u.width) (before i less) ∙ h.widths i less
        | inr same ↦ ap (λ (z : ℕ). (part_at more z).width) same ∙ ap (λ (u : TensorValue). u.width) here ∙ ew ∙ sym (ap (λ (z : ℕ). (part_at cuts z).width) same)
      ];
    }

-- all devices
pub all_like : (s : ShardingValue) (cuts parts : List TensorValue) (k n : ℕ) → AreParts s cuts → AreLike cuts parts k → k ≡ n
    → n ≡ cell_count s.grid.extents → 0 < n → AreParts s parts
all_like s cuts parts k n are h ek en some =
    let all : k ≡ cell_count s.grid.extents = ek ∙ en in
    record {
      counted = h.counted ∙ all;
      shapes = λ i l. h.shapes i (rw all l) ∙ are.shapes i l;
      widths = λ i l. h.widths i (rw all l) ∙ are.widths i l ∙ sym (h.widths 0 (rw ek some));
    }
