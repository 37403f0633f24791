-- Lists of local tensors that are built device by device.
use Rattle.std.proofs.Common.{◌≡◌, ℕ, ◌+◌, ◌<◌, ◌⊎◌, inl, inr, List, [], ◌∷◌, ◌++◌, length, map, ap, sym, ◌∙◌, arith}
use Rattle.std.specs.List.{range_with_len}
use Rattle.std.proofs.Math.Seq.{get_or-append_seam}
use Rattle.std.proofs.lemmas.List.{get_or_append_left, length-append}
use Rattle.std.proofs.lemmas.List.FromFn.{get_or-map-range_with_len, length-map-range_with_len}
use Rattle.sh_base.specs.declared.numbers.Width.TheVariants.{I1, I64}
use Rattle.sh_base.specs.Shape.{cell_count}
use Rattle.sh_tensor.specs.Tensor.{TensorValue}
use Rattle.sh_sharding.specs.Sharding.{ShardingValue, local_shape}
use Rattle.sh_sharding.specs.Cut.{cut_of}
use Rattle.sh_sharding.specs.Together.{part_at, AreParts}
use Rattle.sh_sharding.proofs.CutLaws.{shape-cut_of, width-cut_of}

-- the cuts of all devices are parts
pub cuts_are_parts : (s : ShardingValue) (t : TensorValue) (n : ℕ) (parts : List TensorValue) → n ≡ cell_count s.grid.extents → 0 < n → parts ≡ map (cut_of s t) (range_with_len 0 n) → AreParts s parts
cuts_are_parts s t n parts en some e =
    let at : (k : ℕ) → k < n → part_at parts k ≡ cut_of s t k =
    λ k l. ap (λ ts. part_at ts k) e ∙ get_or-map-range_with_len (cut_of s t) 0 n k k (record { shape = []; width = I1; cells = [] }) l (omega arith) in
    record {
      counted = ap length e ∙ length-map-range_with_len (cut_of s t) 0 n ∙ en;
      shapes = λ k l. ap (λ (u : TensorValue). u.shape) (at k (rw en l)) ∙ shape-cut_of s t k;
      widths = λ k l. ap (λ (u : TensorValue). u.width) (at k (rw en l)) ∙ width-cut_of s t k ∙ sym (ap (λ (u : TensorValue). u.width) (at 0 some) ∙ width-cut_of s t 0);
    }

-- ---- parts of the first devices

pub record ArePartsTo (s : ShardingValue) (parts : List TensorValue) (k : ℕ) : Type 0 where
  pub counted : length parts ≡ k
  pub shapes : (device : ℕ) → device < k → (part_at parts device).shape ≡ local_shape s device
  pub widths : (device : ℕ) → device < k → (part_at parts device).width ≡ I64

pub no_parts : (s : ShardingValue) (parts : List TensorValue) → parts ≡ [] → ArePartsTo s parts 0
no_parts s parts e = record { counted = ap length e; shapes = λ device l. absurd (omega arith); widths = λ device l. absurd (omega arith) }

lt_cases : (i k : ℕ) → i < k + 1 → (i < k) ⊎ (i ≡ k)
lt_cases i k h = grind arith

-- one more
pub more_parts : (s : ShardingValue) (parts more : List TensorValue) (k : ℕ) (part : TensorValue) → ArePartsTo s parts k → more ≡ parts ++ part ∷ [] → part.shape ≡ local_shape s k → part.width ≡ I64 → ArePartsTo s more (k + 1)
more_parts s parts more k part h e es ew =
    let before : (i : ℕ) → i < k → part_at more i ≡ part_at parts i =
    λ i l. ap (λ ts. part_at ts i) e ∙ get_or_append_left parts (part ∷ []) (record { shape = []; width = I1; cells = [] }) i (rw h.counted l) in
    let here : part_at more k ≡ part =
    ap (λ ts. part_at ts k) e ∙ ap (part_at (parts ++ part ∷ [])) (sym h.counted) ∙ get_or-append_seam parts part [] (record { shape = []; width = I1; cells = [] }) in
    record {
      counted = ap length e ∙ length-append parts (part ∷ []) ∙ ap (λ n. n + 1) h.counted;
      shapes = λ i l. elim (lt_cases i k l) [
        | inl less ↦ ap (λ (u : TensorValue). u.shape) (before i less) ∙ h.shapes i less
        | inr same ↦ ap (λ (z : ℕ). (part_at more z).shape) same ∙ ap (λ (u : TensorValue). u.shape) here ∙ es ∙ sym (ap (local_shape s) same)
      ];
      widths = λ i l. elim (lt_cases i k l) [
        | inl less ↦ ap (λ (u : TensorValue). u.width) (before i less) ∙ h.widths i less
        | inr same ↦ ap (λ (z : ℕ). (part_at more z).width) same ∙ ap (λ (u : TensorValue). u.width) here ∙ ew
      ];
    }

-- all devices
pub all_parts : (s : ShardingValue) (parts : List TensorValue) (k n : ℕ) → ArePartsTo s parts k → k ≡ n → n ≡ cell_count s.grid.extents → 0 < n → AreParts s parts
all_parts s parts k n h ek en some =
    let all : k ≡ cell_count s.grid.extents = ek ∙ en in
    record {
      counted = h.counted ∙ all;
      shapes = λ i l. h.shapes i (rw all l);
      widths = λ i l. h.widths i (rw all l) ∙ sym (h.widths 0 (rw ek some));
    }
