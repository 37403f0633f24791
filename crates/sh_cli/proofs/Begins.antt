-- How a text in source form begins, and that its numbers are determined.
use Rattle.std.proofs.Common.{◌≡◌, ℕ, ◌<◌, ◌^◌, List, ◌++◌, ◌∷◌, codes, length, drop, get_or, [], ap, ap₂, subst, sym, ◌∙◌, refl, arith, append_assoc, inl, inr}
use Rattle.std.proofs.Math.Seq.{drop-append_seam}
use Rattle.std.specs.Fmt.{decimal}
use Rattle.sh_cli.specs.VectorSum.{vector_type, source_layout, source_text, partitioned_layout, IsVectorSum}
use Rattle.sh_cli.proofs.Decimals.{one_decimal}

-- what stands before the number of devices, and between it and the extent
abbrev before_devices : List ℕ
before_devices = codes "module {\n  shard.grid @g(shape = "

abbrev pub before_extent : List ℕ
before_extent = codes "\n  func.func @f(%a: tensor<"

-- the same in device form
abbrev pub before_whole : List ℕ
before_whole = codes "\n  shardrun.device @f on @g(tensor<"

-- what follows one beginning of a text is determined
pub one_rest : (begin more other text : List ℕ) → text ≡ begin ++ more → text ≡ begin ++ other → more ≡ other
one_rest begin more other text e h = sym (drop-append_seam begin more) ∙ ap (drop (length begin)) (sym e ∙ h) ∙ drop-append_seam begin other

-- where the number of devices and the extent of a text first stand, with this text between them
pub record IsBegun (between text : List ℕ) (extent devices : ℕ) : Type 0 where
  pub middle : List ℕ
  pub rest : List ℕ
  pub first : text ≡ codes "module {\n  shard.grid @g(shape = " ++ (decimal devices ++ (41 ∷ middle))
  pub second : middle ≡ between ++ (decimal extent ++ (120 ∷ rest))
  pub small_extent : extent < 2 ^ 64
  pub small_devices : devices < 2 ^ 64

begins : (vector devices : List ℕ) → (rest : List ℕ) × (source_layout vector devices ≡ codes "module {\n  shard.grid @g(shape = " ++ (devices ++ (41 ∷ (codes "\n  func.func @f(%a: " ++ (vector ++ rest)))))
unfolding source_layout
begins vector devices = (_, refl)

vector_begins : (extent : ℕ) (rest : List ℕ) → vector_type extent ++ rest ≡ codes "tensor<" ++ (decimal extent ++ (codes "xi32>" ++ rest))
unfolding vector_type
vector_begins extent rest = ap (λ more. codes "tensor<" ++ more) (append_assoc (decimal extent) (codes "xi32>") rest)

pub source_begun : (extent devices : ℕ) → extent < 2 ^ 64 → devices < 2 ^ 64 → IsBegun before_extent (source_text extent devices) extent devices
unfolding source_text
source_begun extent devices small_extent small_devices =
    let start = begins (vector_type extent) (decimal devices) in
    record {
      middle = codes "\n  func.func @f(%a: " ++ (vector_type extent ++ start.0);
      rest = codes "i32>" ++ start.0;
      first = start.1;
      second = ap (λ more. codes "\n  func.func @f(%a: " ++ more) (vector_begins extent start.0);
      small_extent = small_extent;
      small_devices = small_devices;
    }

-- the same of another text that is equal
also_begun : (between text other : List ℕ) (extent devices : ℕ) → text ≡ other → IsBegun between other extent devices → IsBegun between text extent devices
also_begun between text other extent devices e b = subst (λ (t : List ℕ). IsBegun between t extent devices) (sym e) b

pub begun : (text : List ℕ) (extent devices : ℕ) → IsVectorSum text extent devices → IsBegun before_extent text extent devices
begun text extent devices is =
    also_begun before_extent text (source_text extent devices) extent devices is.is_text (source_begun extent devices (omega (arith, is.limits.few_cells)) (omega (arith, is.limits.few_devices)))

-- ---- device form

device_begins : (whole local devices : List ℕ) → (rest : List ℕ) × (partitioned_layout whole local devices ≡ codes "module {\n  shard.grid @g(shape = " ++ (devices ++ (41 ∷ (codes "\n  shardrun.device @f on @g(" ++ (whole ++ rest)))))
unfolding partitioned_layout
device_begins whole local devices = (_, refl)

pub device_begun : (extent local devices : ℕ) → extent < 2 ^ 64 → devices < 2 ^ 64 → IsBegun before_whole (partitioned_layout (vector_type extent) (vector_type local) (decimal devices)) extent devices
device_begun extent local devices small_extent small_devices =
    let start = device_begins (vector_type extent) (vector_type local) (decimal devices) in
    record {
      middle = codes "\n  shardrun.device @f on @g(" ++ (vector_type extent ++ start.0);
      rest = codes "i32>" ++ start.0;
      first = start.1;
      second = ap (λ more. codes "\n  shardrun.device @f on @g(" ++ more) (vector_begins extent start.0);
      small_extent = small_extent;
      small_devices = small_devices;
    }

-- pieces before a text
abbrev onto : List (List ℕ) → List ℕ → List ℕ
onto [] text = text
onto (piece ∷ pieces) text = piece ++ onto pieces text

one_behind : (pieces : List (List ℕ)) (more other : List ℕ) → onto pieces more ≡ onto pieces other → more ≡ other
one_behind [] more other e = e
one_behind (piece ∷ pieces) more other e = one_behind pieces more other (one_rest piece _ _ (piece ++ onto pieces more) refl e)

-- what stands before the type of a device's part
abbrev before_local : List ℕ → List ℕ → List (List ℕ)
before_local whole devices =
    codes "module {\n"
    ∷ codes "  shard.grid @g(shape = " ∷ devices ∷ codes ")\n"
    ∷ codes "  shardrun.device @f on @g(" ∷ whole ∷ codes " split_axes = [[0]], " ∷ whole ∷ codes " split_axes = [[0]]) -> (" ∷ whole ∷ codes " split_axes = [[0]])\n"
    ∷ codes "  func.func @f(%arg0 : "
    ∷ []

local_follows : (whole local devices : List ℕ) → (rest : List ℕ) × (partitioned_layout whole local devices ≡ onto (before_local whole devices) (local ++ rest))
unfolding partitioned_layout
local_follows whole local devices = (_, refl)

-- ---- the numbers are determined

-- two beginnings of one text, with the same texts before their numbers
same_numbers : (before text : List ℕ) (extent devices other_extent other_devices : ℕ) → IsBegun before text extent devices → IsBegun before text other_extent other_devices → (extent ≡ other_extent) × (devices ≡ other_devices)
same_numbers before text extent devices other_extent other_devices b o =
    let first = one_decimal 41 devices other_devices b.middle o.middle (inl (omega arith)) b.small_devices o.small_devices (one_rest before_devices _ _ text b.first o.first) in
    let second = one_decimal 120 extent other_extent b.rest o.rest (inr (omega arith)) b.small_extent o.small_extent (one_rest before _ _ b.middle b.second (first.1 ∙ o.second)) in
    (second.0, first.0)

pub one_sum : (text : List ℕ) (extent devices other_extent other_devices : ℕ) → IsVectorSum text extent devices → IsVectorSum text other_extent other_devices → (extent ≡ other_extent) × (devices ≡ other_devices)
one_sum text extent devices other_extent other_devices is also =
    same_numbers before_extent text extent devices other_extent other_devices (begun text extent devices is) (begun text other_extent other_devices also)

pub one_source : (extent devices other_extent other_devices : ℕ) → extent < 2 ^ 64 → devices < 2 ^ 64 → other_extent < 2 ^ 64 → other_devices < 2 ^ 64 → source_text extent devices ≡ source_text other_extent other_devices
    → (extent ≡ other_extent) × (devices ≡ other_devices)
one_source extent devices other_extent other_devices a b c d e =
    let other = also_begun before_extent (source_text extent devices) (source_text other_extent other_devices) other_extent other_devices e (source_begun other_extent other_devices c d) in
    same_numbers before_extent (source_text extent devices) extent devices other_extent other_devices (source_begun extent devices a b) other

two_letters : (f s : ℕ) → f ≡ 102 → s ≡ 115 → f ≡ s → ⊥
two_letters f s is_f is_s e = absurd (omega arith)

-- a text isn't of both forms
pub two_forms : (extent devices whole local others : ℕ) → extent < 2 ^ 64 → devices < 2 ^ 64 → whole < 2 ^ 64 → others < 2 ^ 64
    → source_text extent devices ≡ partitioned_layout (vector_type whole) (vector_type local) (decimal others) → ⊥
two_forms extent devices whole local others a b c d e =
    let s = source_begun extent devices a b in
    let p = device_begun whole local others c d in
    let first = one_decimal 41 devices others s.middle p.middle (inl (omega arith)) s.small_devices p.small_devices (one_rest before_devices _ _ (source_text extent devices) s.first (e ∙ p.first)) in
    let clash : before_extent ++ (decimal extent ++ (120 ∷ s.rest)) ≡ before_whole ++ (decimal whole ++ (120 ∷ p.rest)) = sym s.second ∙ first.1 ∙ p.second in
    two_letters _ _ refl refl (ap (λ (l : List ℕ). get_or l 3 0) clash)

-- the numbers of a text in device form
pub record AreNumbers (extent local devices other_extent other_local other_devices : ℕ) : Type 0 where
  pub extents : extent ≡ other_extent
  pub locals : local ≡ other_local
  pub device_counts : devices ≡ other_devices

same_local : (extent devices local other : ℕ) → local < 2 ^ 64 → other < 2 ^ 64 → partitioned_layout (vector_type extent) (vector_type local) (decimal devices) ≡ partitioned_layout (vector_type extent) (vector_type other) (decimal devices) → local ≡ other
same_local extent devices local other small small_other e =
    let mine = local_follows (vector_type extent) (vector_type local) (decimal devices) in
    let its = local_follows (vector_type extent) (vector_type other) (decimal devices) in
    let types = one_behind (before_local (vector_type extent) (decimal devices)) (vector_type local ++ mine.0) (vector_type other ++ its.0) (sym mine.1 ∙ e ∙ its.1) in
    let numbers = one_rest (codes "tensor<") _ _ (vector_type local ++ mine.0) (vector_begins local mine.0) (types ∙ vector_begins other its.0) in
    (one_decimal 120 local other (codes "i32>" ++ mine.0) (codes "i32>" ++ its.0) (inr (omega arith)) small small_other numbers).0

pub one_partitioned : (extent local devices other_extent other_local other_devices : ℕ) → extent < 2 ^ 64 → local < 2 ^ 64 → devices < 2 ^ 64 → other_extent < 2 ^ 64 → other_local < 2 ^ 64 → other_devices < 2 ^ 64
    → partitioned_layout (vector_type extent) (vector_type local) (decimal devices) ≡ partitioned_layout (vector_type other_extent) (vector_type other_local) (decimal other_devices)
    → AreNumbers extent local devices other_extent other_local other_devices
one_partitioned extent local devices other_extent other_local other_devices a b c d l f e =
    let other = also_begun before_whole (partitioned_layout (vector_type extent) (vector_type local) (decimal devices)) _ other_extent other_devices e (device_begun other_extent other_local other_devices d f) in
    let same = same_numbers before_whole _ extent devices other_extent other_devices (device_begun extent local devices a c) other in
    let aligned : partitioned_layout (vector_type extent) (vector_type local) (decimal devices) ≡ partitioned_layout (vector_type extent) (vector_type other_local) (decimal devices) =
    e ∙ ap₂ (λ n d. partitioned_layout (vector_type n) (vector_type other_local) (decimal d)) (sym same.0) (sym same.1) in
    record { extents = same.0; locals = same_local extent devices local other_local b l aligned; device_counts = same.1 }
