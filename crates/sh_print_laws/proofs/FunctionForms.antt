-- Functions.
use Rattle.std.proofs.Common.{◌≡◌, ◌∙◌, ◌+◌, ℕ, Bool, true, false, List, [], ◌∷◌, map, Some, None, refl, ap, sym, subst}
use Rattle.std.specs.Prelude.{IsTrue, flat_map}
use Rattle.std.specs.List.{AllByRecursion, list_all}
use Rattle.std.proofs.lemmas.List.{append-nil}
use Rattle.sh_alike.specs.Renamed.{renamed_arg, renamed_op}
use Rattle.sh_build.specs.Meaning.{made}
use Rattle.sh_build.specs.Readings.{op_in, ops_in}
use Rattle.sh_build.specs.declared.parts.Part.{Part}
use Rattle.sh_build.specs.declared.parts.Part.TheVariants as part
use Rattle.sh_grammar.specs.declared.forms.Form.{Form}
use Rattle.sh_grammar.specs.declared.forms.Form.TheVariants as forms
use Rattle.sh_ir.specs.Classes.{is_return}
use Rattle.sh_ir.specs.Formed.{is_numbered, is_spelled_type}
use Rattle.sh_ir.specs.Parts.{op_of}
use Rattle.sh_ir.specs.Written.{written_by}
use Rattle.sh_ir.specs.declared.functions.Arg.{Arg}
use Rattle.sh_ir.specs.declared.operations.Op.{Op}
use Rattle.sh_ir.specs.declared.operations.OpKind.TheVariants as op_kind
use Rattle.sh_ir.specs.declared.operations.Return as declared_return
use Rattle.sh_ir.specs.declared.types.ValueType.{ValueType}
use Rattle.sh_ir.specs.declared.types.ValueType.TheVariants as type
use Rattle.sh_literals.specs.Fronts.{before}
use Rattle.sh_names.specs.Names.{Owned}
use Rattle.sh_print.specs.Spellings.{list_of}
use Rattle.sh_print.specs.Tokens.{of_type, op_pieces, parameter, results_pieces, several_pieces, to_type}
use Rattle.sh_print.specs.Values.{Scope}
use Rattle.sh_print_laws.proofs.Between.{Between, enters_operation, enters_return, outside_spot}
use Rattle.sh_print_laws.proofs.Counted.{form_counted, token_count}
use Rattle.sh_print_laws.proofs.Keywords as keyword
use Rattle.sh_print_laws.proofs.ListForms.{IsListForm, list_spelled}
use Rattle.sh_print_laws.proofs.LoopForms.{base, reader_of}
use Rattle.sh_print_laws.proofs.PlainForms.{type_spelled, types_spelled}
use Rattle.sh_print_laws.proofs.Rows.{FormTo, Gives, Naming, is_plain, by_row, by_row_entered, end_row, form_between, last_form, last_is, row_by, then_form, then_is, then_token, then_value}
use Rattle.sh_print_laws.proofs.SideForms.{AreOutside, IsRead, OpFits, operation_row, return_row}
use Rattle.sh_print_laws.proofs.Standing.{Standing, enters_plain, naming, num_by}
use Rattle.sh_print_laws.proofs.Tests.{and_parts}
use Rattle.sh_print_laws.proofs.Walks.{State, enter}

-- ## Operations

-- What is known of an operation that isn't the last.
pub record InnerFits (scope : Scope) (x : Op) : Type 0 where
  pub other : is_return x.kind ≡ false
  pub id : ℕ
  pub defines : x.defines ≡ Some id
  pub fits : OpFits scope x.kind x.operands x.result
  pub out : AreOutside x.kind (id ∷ x.operands)

-- and of the return
pub record LastFits (x : Op) : Type 0 where
  pub ret : declared_return.Return
  pub kind : x.kind ≡ op_kind.Return ret
  pub defines : x.defines ≡ None
  pub result : x.result ≡ type.Nothing
  pub types : IsTrue (list_all is_spelled_type ret.operand_types)

abbrev pub OpsFit : Scope → List Op → Type 0
OpsFit scope [] = ⊥
OpsFit scope (x ∷ []) = LastFits x
OpsFit scope (x ∷ next ∷ ops) = InnerFits scope x × OpsFit scope (next ∷ ops)

-- each map of these operations is numbered by first occurrence
abbrev pub AreNumbered : List Op → Type 0
AreNumbered ops = AllByRecursion (λ x. IsTrue (list_all is_numbered (written_by x.kind).maps)) ops

-- behind the return
abbrev pub Behind : (List ℕ → Bool) → ℕ → State → Type 0
Behind fit unit σ = (op : ℕ) × Standing (outside_spot fit unit op) σ

module _ (v : Owned → ℕ) (apart : (x y : Owned) → x.unit ≡ y.unit → v x ≡ v y → x ≡ y) (fit : List ℕ → Bool) (unit : ℕ) (scope : Scope) where
  -- the operations as they are read from this token on
  abbrev pub read_ops : ℕ → List Op → List Op
  read_ops k [] = []
  read_ops k (x ∷ ops) = renamed_op (reader_of v apart fit unit k scope x.kind) x ∷ read_ops (k + token_count (op_pieces scope x)) ops

  abbrev pub IsOps : ℕ → List Op → Part → Type 0
  IsOps k ops p = (reads : List Op) × (p ≡ part.Ops reads) × (AreNumbered reads → map (renamed_op (λ id. id)) reads ≡ read_ops k ops)

  between_plain : (n : Form) (σ : State) → is_plain n ≡ true → Between fit unit σ → Between fit unit (enter n σ)
  between_plain n σ plain h = record { spot = h.spot; stands = enters_plain h.spot n σ plain h.stands; of_fit = h.of_fit; of_at = h.of_at; of_func = h.of_func }

  operation_at : (k : ℕ) (x : Op) → InnerFits scope x → FormTo (num_by v) (λ σ. Between fit unit σ × (σ.count ≡ k)) (λ σ. Between fit unit σ × (σ.count ≡ k + token_count (op_pieces scope x)))
      forms.Operation (op_pieces scope x) (IsRead v apart fit unit k scope x)
  operation_at k x f = form_between (λ σ h. (h, h.1)) (λ σ h. h) (form_counted k (subst (λ o. FormTo (num_by v) (λ σ. Between fit unit σ × (σ.count ≡ k)) (Between fit unit) forms.Operation
      (op_pieces scope (op_of x.kind x.operands o x.result x.place)) (IsRead v apart fit unit k scope (op_of x.kind x.operands o x.result x.place))) (sym f.defines)
      (form_between (λ σ h. subst (λ o. Standing (outside_spot fit unit o) (enter forms.Operation σ)) h.1 (enters_operation fit unit σ h.0)) (λ σ h. h)
      (operation_row v apart fit unit k scope x.kind x.operands f.id x.result x.place f.other f.fits f.out))))

  return_at : (k : ℕ) (x : Op) → LastFits x → FormTo (num_by v) (λ σ. Between fit unit σ × (σ.count ≡ k)) (Behind fit unit) forms.Return (op_pieces scope x) (IsRead v apart fit unit k scope x)
  return_at k x f =
      let same : op_of (op_kind.Return f.ret) x.operands None type.Nothing x.place ≡ x =
      ap (λ o. op_of o x.operands None type.Nothing x.place) (sym f.kind) ∙ ap (λ d. op_of x.kind x.operands d type.Nothing x.place) (sym f.defines) ∙ ap (λ t. op_of x.kind x.operands x.defines t x.place) (sym f.result) in
      subst (λ y. FormTo (num_by v) (λ σ. Between fit unit σ × (σ.count ≡ k)) (Behind fit unit) forms.Return (op_pieces scope y) (IsRead v apart fit unit k scope y)) same
      (form_between (λ σ h. subst (λ o. Standing (outside_spot fit unit o) (enter forms.Return σ)) h.1 (enters_return fit unit σ h.0)) (λ σ h. (k, h))
      (return_row v apart fit unit k scope f.ret x.operands x.place f.types))

  ops_joined : (k : ℕ) (x : Op) (ops : List Op) (p q : Part) → IsRead v apart fit unit k scope x p → IsOps (k + token_count (op_pieces scope x)) ops q
      → IsOps k (x ∷ ops) (part.Ops (before (op_in p) (ops_in q)))
  ops_joined k x ops p q one more = (
    one.0 ∷ more.0,
    ap (λ r. part.Ops (before (op_in r) (ops_in q))) one.1 ∙ ap (λ r. part.Ops (one.0 ∷ ops_in r)) more.1,
    λ numbered. ap (λ o. o ∷ map (renamed_op (λ id. id)) more.0) (one.2 numbered.0) ∙ ap (λ os. renamed_op (reader_of v apart fit unit k scope x.kind) x ∷ os) (more.2 numbered.1),
  )

  ops_spelled : (k : ℕ) (ops : List Op) → OpsFit scope ops
      → FormTo (num_by v) (λ σ. Between fit unit σ × (σ.count ≡ k)) (Behind fit unit) forms.Operations (flat_map (op_pieces scope) ops) (IsOps k ops)
  unfolding made
  ops_spelled k [] f = absurd f
  ops_spelled k (x ∷ []) f = let N = naming v (outside_spot fit unit k) refl in
      by_row_entered 1 refl (λ σ h. (between_plain forms.Operations σ refl h.0, h.1)) (row_by N (sym (append-nil (op_pieces scope x))) (last_form N (return_at k x f)
      (λ p is. (is.0 ∷ [], ap (λ r. part.Ops (before (op_in r) [])) is.1, λ numbered. ap (λ o. o ∷ []) (is.2 numbered.0)))))
  ops_spelled k (x ∷ next ∷ ops) f = let N = naming v (outside_spot fit unit k) refl in
      by_row_entered 0 refl (λ σ h. (between_plain forms.Operations σ refl h.0, h.1)) (then_form N (operation_at k x f.0) (λ p one.
      last_form N (ops_spelled (k + token_count (op_pieces scope x)) (next ∷ ops) f.1) (λ q more. ops_joined k x (next ∷ ops) p q one more)))

  -- begun at some token
  abbrev pub IsOpsSomewhere : List Op → Part → Type 0
  IsOpsSomewhere ops p = (k : ℕ) × IsOps k ops p

  pub ops_anywhere : (ops : List Op) → OpsFit scope ops → FormTo (num_by v) (Between fit unit) (Behind fit unit) forms.Operations (flat_map (op_pieces scope) ops) (IsOpsSomewhere ops)
  ops_anywhere ops f ts σ are h = let r = ops_spelled σ.count ops f ts σ are (h, refl) in
      record { i = r.i; body = r.body; below = r.below; is = r.is; spells = r.spells; takes = r.takes; value = (σ.count, r.value); holds = r.holds }

  -- ## Parameters and results

  -- the number of a name of the function
  abbrev pub number_in : ℕ → ℕ
  number_in id = base v apart fit unit 0 scope id

  module _ (op : ℕ) where
    abbrev N : Naming (num_by v)
    N = naming v (outside_spot fit unit op) refl

    parameter_spelled : (arg : Arg) → is_spelled_type arg.value_type ≡ true → Gives N forms.Parameter (parameter scope arg) (part.Arg (renamed_arg number_in arg))
    unfolding made parameter of_type
    parameter_spelled arg h = by_row N 0 refl refl (then_value N (λ p. then_token N keyword.the-colon (λ p i. last_is N (type_spelled N arg.value_type h) refl)))

    parameters_form : IsListForm forms.Parameters forms.MoreParameters forms.Parameter (λ args. part.Args (map (renamed_arg number_in) args)) (λ arg. part.Arg (renamed_arg number_in arg))
    unfolding made
    parameters_form = record {
      lists = refl;
      rests = refl;
      plain = refl;
      plain_rest = refl;
      none = refl;
      some = λ x xs. refl;
      none_more = refl;
      some_more = λ comma x xs. refl;
    }

    each_parameter : (args : List Arg) → list_all (λ arg. is_spelled_type arg.value_type) args ≡ true
        → AllByRecursion (λ arg. Gives N forms.Parameter (parameter scope arg) (part.Arg (renamed_arg number_in arg))) args
    each_parameter [] h = tt
    each_parameter (arg ∷ args) h = let both = and_parts (is_spelled_type arg.value_type) (list_all (λ arg. is_spelled_type arg.value_type) args) h in (parameter_spelled arg both.0, each_parameter args both.1)

    pub parameters_spelled : (args : List Arg) → list_all (λ arg. is_spelled_type arg.value_type) args ≡ true
        → Gives N forms.Parameters (list_of (parameter scope) args) (part.Args (map (renamed_arg number_in) args))
    parameters_spelled args h = list_spelled N parameters_form (parameter scope) args (each_parameter args h)

    pub results_spelled : (ts : List ValueType) → list_all is_spelled_type ts ≡ true → Gives N forms.Results (results_pieces ts) (part.Types ts)
    unfolding made results_pieces to_type several_pieces
    results_spelled [] h = by_row N 0 refl refl (end_row N refl)
    results_spelled (t ∷ []) h = by_row N 1 refl refl (then_token N keyword.the-arrow (λ p i. last_is N (by_row N {n = forms.ResultTypes} {P = λ p. p ≡ part.Types (t ∷ [])} 0 refl refl
        (last_is N (type_spelled N t (and_parts (is_spelled_type t) true h).0) refl)) refl))
    results_spelled (t ∷ next ∷ ts) h = by_row N 1 refl refl (then_token N keyword.the-arrow (λ p i. last_is N (by_row N {n = forms.ResultTypes} {P = λ p. p ≡ part.Types (t ∷ next ∷ ts)} 1 refl refl
        (then_token N keyword.the-open (λ p i. then_is N (types_spelled N (t ∷ next ∷ ts) h) (then_token N keyword.the-close (λ p i. end_row N refl))))) refl))
