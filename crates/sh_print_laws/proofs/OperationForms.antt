-- Operations with the names that they define.
use Rattle.std.proofs.Common.{◌≡◌, ℕ, true, false, List, [], ◌∷◌, map, Some, refl, ap}
use Rattle.sh_base.specs.declared.places.Place.{Place}
use Rattle.sh_alike.specs.Renamed.{no_place, renamed_kind}
use Rattle.sh_build.specs.Meaning.{made}
use Rattle.sh_build.specs.declared.parts.Part.{Part}
use Rattle.sh_build.specs.declared.parts.Part.TheVariants as part
use Rattle.sh_grammar.specs.Lexemes.{Lexeme}
use Rattle.sh_grammar.specs.declared.forms.Form.TheVariants as forms
use Rattle.sh_ir.specs.Parts.{op_of}
use Rattle.sh_ir.specs.declared.operations.Op.{Op}
use Rattle.sh_ir.specs.declared.operations.OpKind.{OpKind}
use Rattle.sh_ir.specs.declared.operations.OpKind.TheVariants as op_kind
use Rattle.sh_ir.specs.declared.types.ValueType.{ValueType}
use Rattle.sh_print.specs.Tokens.{defined, op_pieces}
use Rattle.sh_print.specs.Values.{Scope, name_in, name_text}
use Rattle.sh_print_laws.specs.ReadsBack.{IsOperationRead, IsWritten, is_simple}
use Rattle.sh_print_laws.specs.TokensOf.{AreTokensOf}
use Rattle.sh_print_laws.proofs.Keywords as keyword
use Rattle.sh_print_laws.proofs.KindForms.{kind_spelled}
use Rattle.sh_print_laws.proofs.ReadingBack.{stand_for, texts_numbered}
use Rattle.sh_print_laws.proofs.Rows.{IsForm, Naming, by_row_entered, end_row, then_is, then_line_end, then_token, then_value}
use Rattle.sh_print_laws.proofs.ValueForms.{id_of, ids_in}
use Rattle.sh_print_laws.proofs.Walks.{State, enter, start}

-- an operation with no region has no names of its own
pub kind_kept : (r : ℕ → ℕ) (k : OpKind) → is_simple k ≡ true → renamed_kind r k ≡ k
kind_kept r (op_kind.Constant x) simple = refl
kind_kept r (op_kind.Binary x) simple = refl
kind_kept r (op_kind.Compare x) simple = refl
kind_kept r (op_kind.Select x) simple = refl
kind_kept r (op_kind.Cast x) simple = refl
kind_kept r op_kind.Empty simple = refl
kind_kept r (op_kind.ExtractSlice x) simple = refl
kind_kept r (op_kind.InsertSlice x) simple = refl
kind_kept r (op_kind.CollapseShape x) simple = refl
kind_kept r (op_kind.ExpandShape x) simple = refl
kind_kept r (op_kind.Fill x) simple = refl
kind_kept r (op_kind.Matmul x) simple = refl
kind_kept r (op_kind.BatchMatmul x) simple = refl
kind_kept r (op_kind.Matvec x) simple = refl
kind_kept r (op_kind.Vecmat x) simple = refl
kind_kept r (op_kind.Dot x) simple = refl
kind_kept r (op_kind.Conv1d x) simple = refl
kind_kept r (op_kind.Conv2d x) simple = refl
kind_kept r (op_kind.Transpose x) simple = refl
kind_kept r (op_kind.Broadcast x) simple = refl
kind_kept r (op_kind.Reduce x) simple = absurd (let e : false ≡ true = simple in cc)
kind_kept r (op_kind.Generic x) simple = absurd (let e : false ≡ true = simple in cc)
kind_kept r (op_kind.Sharding x) simple = refl
kind_kept r (op_kind.Shard x) simple = refl
kind_kept r (op_kind.AllGather x) simple = refl
kind_kept r (op_kind.AllSlice x) simple = refl
kind_kept r (op_kind.AllReduce x) simple = refl
kind_kept r (op_kind.ReduceScatter x) simple = refl
kind_kept r (op_kind.AllToAll x) simple = refl
kind_kept r (op_kind.Shift x) simple = refl
kind_kept r (op_kind.UpdateHalo x) simple = refl
kind_kept r (op_kind.Take x) simple = refl
kind_kept r (op_kind.Pad x) simple = refl
kind_kept r (op_kind.Join x) simple = refl
kind_kept r (op_kind.Call x) simple = refl
kind_kept r (op_kind.Return x) simple = refl

-- the part is this operation, at some place
abbrev IsOp : Op → Part → Type 0
IsOp op p = (place : Place) × (p ≡ part.Op (op_of op.kind op.operands op.defines op.result place))

module _ {numbered : State → Lexeme → ℕ} (N : Naming numbered) (scope : Scope) where
  pub operation_spelled : (id : ℕ) (k : OpKind) (xs : List ℕ) (t : ValueType) (place : Place) → is_simple k ≡ true → IsWritten k xs t
      → ((σ : State) → N.Holds σ → N.Holds (enter forms.Operation σ))
      → IsForm N forms.Operation (op_pieces scope (op_of k xs (Some id) t place)) (IsOp (op_of k (ids_in N scope xs) (Some (id_of N (name_in scope id))) t place))
  unfolding made op_pieces defined
  operation_spelled id k xs t place simple w enters = by_row_entered 0 refl enters (then_value N (λ p. then_token N keyword.the-equals (λ q i.
      then_is N (kind_spelled N scope k xs t simple w) (then_line_end N (end_row N (p, refl))))))

-- ## Read back, with numbers by texts

pub map_same : (xs : List ℕ) → map (λ id. id) xs ≡ xs
map_same [] = refl
map_same (x ∷ xs) = ap (λ more. x ∷ more) (map_same xs)

pub operations_read : (number : List ℕ → ℕ) (scope : Scope) (id : ℕ) (k : OpKind) (xs : List ℕ) (t : ValueType) (place : Place)
    → is_simple k ≡ true → IsWritten k xs t → (ts : List Lexeme) → AreTokensOf (op_pieces scope (op_of k xs (Some id) t place)) ts
    → IsOperationRead ts number scope (op_of k xs (Some id) t place)
operations_read number scope id k xs t place simple w ts are =
    let it = operation_spelled (texts_numbered number) scope id k xs t place simple w (λ σ h. tt) ts start are tt in
    let r = λ (x : ℕ). number (name_text (name_in scope x)) in
    let kept : op_of (renamed_kind (λ x. x) k) (map (λ x. x) (map r xs)) (Some (r id)) t no_place ≡ op_of (renamed_kind r k) (map r xs) (Some (r id)) t no_place =
    rw (kind_kept (λ x. x) k simple, kind_kept r k simple, map_same (map r xs)) refl in record {
      read = op_of k (map r xs) (Some (r id)) t it.value.0;
      stands = stand_for number ts it (part.Op (op_of k (map r xs) (Some (r id)) t it.value.0)) it.value.1;
      same = kept;
    }
