-- A local part of one instruction that gives the cut on each device.
use Rattle.std.proofs.Common.{◌≡◌, ℕ, ◌+◌, ◌-◌, ◌<◌, Bool, false, List, [], ◌∷◌, length, Option, Some, ap, ◌∙◌, arith, sym, subst}
use Rattle.std.specs.List.{range_with_len}
use Rattle.std.specs.Prelude.{if◌then◌else◌, option_and_then}
use Rattle.sh_base.specs.Shape.{cell_count}
use Rattle.sh_ir.specs.declared.operations.Op.{Op}
use Rattle.sh_ir.specs.Classes.{class_of}
use Rattle.sh_pieces.specs.Instructions.{State, collected_by, gives, local_by}
use Rattle.sh_pieces.specs.Promises.{cuts, AllFit, HasCuts, IsLocalPart}
use Rattle.sh_pieces.specs.Runs.{RunsTo, HasRows}
use Rattle.sh_pieces.proofs.Parts.{one_gives}
use Rattle.sh_sem.specs.Given.{Seat, given}
use Rattle.sh_sem.specs.Steps.{is_collective_class, seat_of, steps_on}
use Rattle.sh_sharding.specs.Cut.{cut_of}
use Rattle.sh_sharding.specs.Splits.{TensorSplit, IsOfSplit, tensor_splitting}
use Rattle.sh_tensor.specs.Tensor.{TensorValue}

-- SliceKind the whole gives is of the result's split, and on the cuts of the operands the instruction
-- gives its cut.
pub record GivesCuts (g : List ℕ) (whole : List TensorValue → Option TensorValue) (splits : List TensorSplit) (result : TensorSplit) (op : Op) : Type 0 where
  pub local : is_collective_class (class_of op.kind) ≡ false
  pub names : op.operands ≡ range_with_len 0 (length splits)
  pub defines : op.defines ≡ Some (length splits)
  pub fits : (ts : List TensorValue) (t : TensorValue) → AllFit tensor_splitting splits ts → whole ts ≡ Some t → IsOfSplit result t
  pub cut : (ts : List TensorValue) (t : TensorValue) (c : ℕ) (seat : Seat) → AllFit tensor_splitting splits ts → whole ts ≡ Some t → c < cell_count g
      → given op seat (cuts tensor_splitting splits ts c) ≡ Some (cut_of result.sharding t c)

module _ (g : List ℕ) (whole : List TensorValue → Option TensorValue) (splits : List TensorSplit) (result : TensorSplit) (op : Op) (h : GivesCuts g whole splits result op) where
  gives_cut : (ts : List TensorValue) (t : TensorValue) (st : State TensorValue) (c : ℕ) → c < cell_count g → AllFit tensor_splitting splits ts → whole ts ≡ Some t
      → HasRows (steps_on g) (range_with_len 0 (length splits)) (cuts tensor_splitting splits ts) st → gives (steps_on g) op st c ≡ Some (cut_of result.sharding t c)
  unfolding steps_on
  gives_cut ts t st c l all is has =
      let rows = subst (λ names. HasRows (steps_on g) names (cuts tensor_splitting splits ts) st) (sym h.names) has in
      ap (λ (b : Bool). if b then collected_by (steps_on g) op c st else local_by (steps_on g) op c (st c)) h.local
      ∙ ap (option_and_then (given op (seat_of g op c))) (rows c l)
      ∙ h.cut ts t c (seat_of g op c) all is l

  pub one_instruction : IsLocalPart (steps_on g) tensor_splitting whole splits result (op ∷ [])
  unfolding steps_on
  one_instruction =
      let name : length splits ≡ length splits + 1 - 1 = omega arith in
      record {
        some = omega arith;
        numbered = (h.defines, tt);
        fits = h.fits;
        runs = λ ts t st all is has.
            subst (λ n. RunsTo (steps_on g) (op ∷ []) st (HasCuts (steps_on g) tensor_splitting n result t)) name
            (one_gives (steps_on g) tensor_splitting op st (length splits) result t h.defines
            (λ c l. gives_cut ts t st c l all is has));
      }
