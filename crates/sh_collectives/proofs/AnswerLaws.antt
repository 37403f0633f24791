-- What a group gives, by what is described of its collective.
use Rattle.std.proofs.Common.{◌≡◌, ℕ, ◌<◌, Bool, true, false, List, map, length, get_or, refl, ap, ap₂, sym, ◌∙◌, arith, subst, None}
use Rattle.std.specs.Prelude.{All, Option, option_and_then, is_some, slice_get, if◌then◌else◌}
use Rattle.std.specs.List.{list_all, range_with_len}
use Rattle.std.proofs.lemmas.List.FromFn.{length-map-range_with_len, get_or-map-range_with_len}
use Rattle.sh_grid.specs.Grid.{IsGrid, group_size_of}
use Rattle.sh_grid.proofs.GroupSteps.{size_end}
use Rattle.std.proofs.lemmas.List.{take_all}
use Rattle.sh_ir.specs.Agreement.{dims_of}
use Rattle.sh_ir.specs.declared.operations.Op.{Op}
use Rattle.sh_ir.specs.declared.operations.OpKind.{OpKind}
use Rattle.sh_ir.specs.declared.types.Dim.{Dim}
use Rattle.sh_sem.specs.Collected.{Collecting, collecting, operands_fit, shapes_by, shapes_collected}
use Rattle.sh_sem.specs.Steps.{axes_of}
use Rattle.sh_sem.specs.Types.{have_extents}
use Rattle.sh_collectives.specs.declared.ways.Described.{Described}
use Rattle.sh_collectives.specs.declared.ways.Way.{Way}
use Rattle.sh_collectives.specs.Described.{CanCollect, IsDescription, shapes_given}
use Rattle.sh_collectives.specs.Ways.{CanWork, IsOfSize, collecting_by}
use Rattle.sh_collectives.proofs.AskedLaws.{given_at}
use Rattle.sh_collectives.proofs.PlaceLaws.{there_at}

-- ---- where all members have results

given_there : (operand dims : List Dim) (w : Way) (shapes : List (List ℕ)) (place : ℕ) (b : Bool) → place < length shapes
    → is_some (if b then shapes_by dims shapes (collecting_by w) else None) ≡ true
    → option_and_then (λ ss. slice_get ss place) (if b then shapes_by dims shapes (collecting_by w) else None) ≡ given_at dims shapes w place
given_there operand dims w shapes place false l there = absurd (cc)
given_there operand dims w shapes place true l there =
    let results = map (given_at dims shapes w) (range_with_len 0 (length shapes)) in
    let long : place < length results = rw (length-map-range_with_len (given_at dims shapes w) 0 (length shapes)) l in
    there_at results place long
    ∙ ap (λ t. if t then get_or results place None else None) there
    ∙ get_or-map-range_with_len (given_at dims shapes w) 0 (length shapes) place place None l (omega arith)

-- the shape at a place is the one there
pub shape_there_is : (operand dims : List Dim) (w : Way) (shapes : List (List ℕ)) (place : ℕ) → place < length shapes → is_some (shapes_given operand dims w shapes) ≡ true
    → option_and_then (λ ss. slice_get ss place) (shapes_given operand dims w shapes) ≡ given_at dims shapes w place
shape_there_is operand dims w shapes place l there = given_there operand dims w shapes place (list_all (have_extents operand) shapes) l there

-- ---- by the description

module _ (op : Op) (grid : List ℕ) where
  pub given_by : (x : Described) (shapes : List (List ℕ)) → IsDescription op.kind grid x
      → shapes_collected op grid shapes ≡ shapes_given x.dims.now (dims_of op.result) x.way shapes
  unfolding shapes_collected
  given_by x shapes d =
      ap₂ (λ (p : List ℕ → Bool) (c : Option Collecting). if list_all p shapes then option_and_then (shapes_by (dims_of op.result) shapes) c else None)
      (λ i shape. d.operand op.result shape i) d.collecting

  none_either : (b : Bool) (o : Option (List (List ℕ))) → o ≡ None → (if b then o else None) ≡ None
  none_either true o h = h
  none_either false o h = refl

  -- a kind that isn't described gives nothing
  pub given_none : (shapes : List (List ℕ)) → collecting op.kind grid ≡ None → shapes_collected op grid shapes ≡ None
  unfolding shapes_collected
  given_none shapes h =
      none_either (operands_fit op.kind op.result shapes) (option_and_then (shapes_by (dims_of op.result) shapes) (collecting op.kind grid))
      (ap (option_and_then (shapes_by (dims_of op.result) shapes)) h)

pub can_work : (kind : OpKind) (grid : List ℕ) (shapes : List (List ℕ)) (place : ℕ) (x : Described) → IsGrid grid → CanCollect kind grid shapes place → IsDescription kind grid x → CanWork x.way shapes
can_work kind grid shapes place x g can d =
    let axes = axes_of kind in
    let size = size_end grid axes (length axes) (group_size_of grid axes) g can.axes (omega arith) (ap (group_size_of grid) (sym (take_all (length axes) axes (omega arith)))) in
    let many = can.counted in
    record {
      size = subst (IsOfSize x.way) (sym can.counted) d.size;
      few = omega (arith, size.few, many);
      dims = subst (λ dims. All (λ a. All (λ s. a < length s) shapes) dims) (sym d.dims) can.dims;
    }
