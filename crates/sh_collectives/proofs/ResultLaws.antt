-- The result at a place of a group, by its shape there.
use Rattle.std.proofs.Common.{◌≡◌, ℕ, ◌<◌, ◌≤◌, Bool, true, false, List, [], ◌∷◌, map, length, refl, ap, ap₂, sym, ◌∙◌, arith, max, subst, Some, None}
use Rattle.std.specs.Prelude.{Option, is_some, option_and_then, option_map, slice_get, if◌then◌else◌}
use Rattle.std.proofs.lemmas.Bool.{leb-true}
use Rattle.std.proofs.lemmas.Nat.{mul-le}
use Rattle.sh_base.specs.Shape.{cell_count, max_cells}
use Rattle.sh_ir.specs.Agreement.{dims_of}
use Rattle.sh_ir.specs.declared.operations.Op.{Op}
use Rattle.sh_ir.specs.declared.types.Dim.{Dim}
use Rattle.sh_sem.specs.Collected.{Collecting, collected, collecting, result_at}
use Rattle.sh_sem.specs.Given.{of_dims}
use Rattle.sh_sem.specs.Scalars.{width_of}
use Rattle.sh_sem.specs.Types.{have_extents}
use Rattle.sh_sharding.specs.Sharding.{counted_cells}
use Rattle.sh_tensor.specs.Tensor.{TensorValue, build}
use Rattle.sh_collectives.specs.declared.sizes.Shaped.TheVariants.{TooLarge, Fits}
use Rattle.sh_collectives.specs.declared.ways.Described.{Described}
use Rattle.sh_collectives.specs.declared.ways.Way.{Way}
use Rattle.sh_collectives.specs.Described.{IsDescription, shapes_given}
use Rattle.sh_collectives.specs.Operands.{shape_by, value_by}
use Rattle.sh_collectives.specs.Sizes.{is_small, shaped}
use Rattle.sh_collectives.specs.Ways.{collecting_by}
use Rattle.sh_collectives.proofs.AnswerLaws.{given_by, given_none, shape_there_is}

-- ---- shapes that are answered

cells_le : (s : List ℕ) → cell_count s ≤ counted_cells s
cells_le [] = omega arith
cells_le (n ∷ s) = mul-le n (cell_count s) (max 1 n) (counted_cells s) (omega arith) (cells_le s)

-- a shape that fits is the one, and small
pub record IsFitting (o : Option (List ℕ)) (s : List ℕ) : Type 0 where
  pub is : o ≡ Some s
  pub small : cell_count s ≤ max_cells

fitting_by : (t s : List ℕ) (b : Bool) → is_small t ≡ b → (if b then Fits t else TooLarge) ≡ Fits s → IsFitting (Some t) s
fitting_by t s false small h = absurd (cc)
fitting_by t s true small h =
    let same : t ≡ s = cc in
    let few = leb-true (counted_cells t) max_cells small in
    record { is = ap (λ x. Some x) same; small = subst (λ x. cell_count x ≤ max_cells) same (omega (arith, cells_le t, few)) }

pub fitting_is : (o : Option (List ℕ)) (s : List ℕ) → shaped o ≡ Fits s → IsFitting o s
fitting_is None s h = absurd (cc)
fitting_is (Some t) s h = fitting_by t s (is_small t) refl h

-- the shape at a place is the one that the way gives
fits_here : (dims : List Dim) (t s : List ℕ) (b : Bool) → (if b then Some t else None) ≡ Some s → Some t ≡ Some s
fits_here dims t s false h = absurd (cc)
fits_here dims t s true h = h

of_fitting : (dims : List Dim) (o : Option (List ℕ)) (s : List ℕ) → option_and_then (of_dims dims) o ≡ Some s → o ≡ Some s
of_fitting dims None s h = absurd (cc)
of_fitting dims (Some t) s h = fits_here dims t s (have_extents dims t) h

pub shape_is : (operand dims : List Dim) (w : Way) (shapes : List (List ℕ)) (place : ℕ) (s : List ℕ) → place < length shapes → is_some (shapes_given operand dims w shapes) ≡ true
    → shape_by operand dims w shapes place ≡ Some s → (collecting_by w).shape place shapes ≡ Some s
shape_is operand dims w shapes place s l there h = of_fitting dims ((collecting_by w).shape place shapes) s (sym (shape_there_is operand dims w shapes place l there) ∙ h)

-- ---- what is collected

module _ (op : Op) (grid : List ℕ) (ts : List TensorValue) (p : ℕ) where
  pub collected_by : (x : Described) → IsDescription op.kind grid x → value_by x.dims.now (dims_of op.result) (width_of op.result) x.way ts p ≡ collected op grid ts p
  unfolding collected
  collected_by x d =
      let shapes = map (λ (t : TensorValue). t.shape) ts in
      sym (ap₂ (λ (c : Option Collecting) (o : Option (List (List ℕ))).
      option_and_then (λ (s : List ℕ). option_map (λ (y : Collecting). build s (width_of op.result) (y.cell p ts)) c) (option_and_then (λ ss. slice_get ss p) o))
      d.collecting (given_by op grid x shapes d)
      ∙ as_map (option_and_then (λ ss. slice_get ss p) (shapes_given x.dims.now (dims_of op.result) x.way shapes)))
    where
      as_map : (o : Option (List ℕ)) → option_and_then (λ (s : List ℕ). Some (build s (width_of op.result) ((collecting_by x.way).cell p ts))) o
          ≡ option_map (λ s. build s (width_of op.result) ((collecting_by x.way).cell p ts)) o
      as_map None = refl
      as_map (Some s) = refl

  pub collected_none : collecting op.kind grid ≡ None → None ≡ collected op grid ts p
  unfolding collected
  collected_none h =
      sym (ap (λ o. option_and_then (result_at op grid ts p) (option_and_then (λ ss. slice_get ss p) o)) (given_none op grid (map (λ (t : TensorValue). t.shape) ts) h))
