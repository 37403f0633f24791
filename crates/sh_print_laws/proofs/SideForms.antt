-- The right side of each kind of operation, and operations with the names that they define.
use Rattle.std.proofs.Common.{◌≡◌, ◌∙◌, ℕ, Bool, true, false, not, List, [], ◌∷◌, ◌++◌, map, Option, Some, None, refl, ap, sym, subst, if◌then◌else◌}
use Rattle.std.specs.Prelude.{IsTrue, MatchOption, ⊤}
use Rattle.std.specs.List.{AllByRecursion, list_all}
use Rattle.std.specs.Option.{option_map_or}
use Rattle.sh_alike.specs.Renamed.{no_place, renamed_kind, renamed_op}
use Rattle.sh_base.specs.declared.places.Place.{Place}
use Rattle.sh_build.specs.Meaning.{defining, made, operands_of}
use Rattle.sh_build.specs.declared.parts.Part.{Part}
use Rattle.sh_build.specs.declared.parts.Part.TheVariants as part
use Rattle.sh_grammar.specs.Lexemes.{Lexeme}
use Rattle.sh_grammar.specs.declared.forms.Form.{Form}
use Rattle.sh_grammar.specs.declared.forms.Form.TheVariants as forms
use Rattle.sh_ir.specs.Classes.{is_return}
use Rattle.sh_ir.specs.Formed.{Captures, asks_where_allowed, is_numbered, is_on_index, is_spelled_type}
use Rattle.sh_ir.specs.Parts.{op_of}
use Rattle.sh_ir.specs.Regions.{is_among, own_names}
use Rattle.sh_ir.specs.Written.{written_by}
use Rattle.sh_ir.specs.declared.bodies.Body.{Body}
use Rattle.sh_ir.specs.declared.bodies.BodyOp.{BodyOp}
use Rattle.sh_ir.specs.declared.linalg_ops.Generic as declared_generic
use Rattle.sh_ir.specs.declared.linalg_ops.Reduce as declared_reduce
use Rattle.sh_ir.specs.declared.operations.Op.{Op}
use Rattle.sh_ir.specs.declared.operations.OpKind.{OpKind}
use Rattle.sh_ir.specs.declared.operations.Return as declared_return
use Rattle.sh_ir.specs.declared.operations.OpKind.TheVariants as op_kind
use Rattle.sh_ir.specs.declared.types.ValueType.{ValueType}
use Rattle.sh_ir.specs.declared.types.ValueType.TheVariants as type
use Rattle.sh_names.specs.Names.{Owned}
use Rattle.sh_print.specs.Layout.{Piece}
use Rattle.sh_print.specs.Tokens.{are_none, defined, kind_pieces, op_pieces, return_pieces, typed_values}
use Rattle.sh_print.specs.Values.{Scope}
use Rattle.sh_print_laws.specs.ReadsBack.{IsWritten, is_simple}
use Rattle.sh_print_laws.proofs.Between.{Between, outside_spot}
use Rattle.sh_print_laws.proofs.DenseForms.{not_true}
use Rattle.sh_print_laws.proofs.Keywords as keyword
use Rattle.sh_print_laws.proofs.KindForms.{first, kind_spelled}
use Rattle.sh_print_laws.proofs.LoopForms.{Amid, IsSide, LoopFits, RegionNames, base, generic_spelled, reader, reader_base, reader_of, reduce_spelled}
use Rattle.sh_print_laws.proofs.MapForms.{SmallMap, maps_spelled}
use Rattle.sh_print_laws.proofs.OperationForms.{kind_kept, map_same}
use Rattle.sh_print_laws.proofs.PlainForms.{types_spelled}
use Rattle.sh_print_laws.proofs.Renumbered.{maps_same}
use Rattle.sh_print_laws.proofs.Rows.{FormTo, by_row, by_row_entered, end_row, last_is, row_to_end, then_form, then_is, then_line_end, then_token, then_value}
use Rattle.sh_print_laws.proofs.Standing.{Standing, naming, num_by}
use Rattle.sh_print_laws.proofs.Tests.{all_parts, and_parts}
use Rattle.sh_print_laws.proofs.ValueForms.{values_spelled}
use Rattle.sh_print_laws.proofs.Walks.{State, enter}

-- What is known of an operation.
pub record OpFits (scope : Scope) (k : OpKind) (xs : List ℕ) (t : ValueType) : Type 0 where
  pub written : IsWritten k xs t
  pub captures : Captures (written_by k) xs
  pub regions : MatchOption (written_by k).body ⊤ (λ body. RegionNames scope body)
  pub indices : IsTrue (asks_where_allowed (written_by k))
  pub small : AllByRecursion SmallMap (written_by k).maps
  pub numbered : IsTrue (list_all is_numbered (written_by k).maps)

pub form_so : {num : State → Lexeme → ℕ} {From To : State → Type 0} {n : Form} {ps : List Piece} {P Q : Part → Type 0}
    → ((p : Part) → P p → Q p) → FormTo num From To n ps P → FormTo num From To n ps Q
form_so so f ts σ are h = let r = f ts σ are h in
    record { i = r.i; body = r.body; below = r.below; is = r.is; spells = r.spells; takes = r.takes; value = so _ r.value; holds = r.holds }

no_indices : (ops : List BodyOp) → list_all (λ x. not (is_on_index x.kind)) ops ≡ true → AllByRecursion (λ x. is_on_index x.kind ≡ false) ops
no_indices [] h = tt
no_indices (x ∷ ops) h = let both = and_parts (not (is_on_index x.kind)) (list_all (λ x. not (is_on_index x.kind)) ops) h in (not_true (is_on_index x.kind) both.0, no_indices ops both.1)

-- the kinds of operations that define a value
data KindView : OpKind → Type 0 where
  a_simple : {k : OpKind} → is_simple k ≡ true → KindView k
  a_reduce : (x : declared_reduce.Reduce) → KindView (op_kind.Reduce x)
  a_generic : (x : declared_generic.Generic) → KindView (op_kind.Generic x)

view : (k : OpKind) → is_return k ≡ false → KindView k
view (op_kind.Return x) h = absurd (let e : true ≡ false = h in cc)
view (op_kind.Reduce x) h = a_reduce x
view (op_kind.Generic x) h = a_generic x
view _ h = a_simple refl

-- names that no region of the operation defines
abbrev pub AreOutside : OpKind → List ℕ → Type 0
AreOutside k names = MatchOption (written_by k).body ⊤ (λ body. AllByRecursion (λ id. is_among (own_names body) id ≡ false) names)

module _ (v : Owned → ℕ) (apart : (x y : Owned) → x.unit ≡ y.unit → v x ≡ v y → x ≡ y) (fit : List ℕ → Bool) (unit op : ℕ) (scope : Scope) where
  abbrev IsRight : OpKind → List ℕ → ValueType → Part → Type 0
  IsRight k xs t p = IsSide v apart fit unit op scope k xs t p

  amid_outside : (σ : State) → Standing (outside_spot fit unit op) σ → Amid v apart fit unit op scope σ
  amid_outside σ h = record { spot = outside_spot fit unit op; stands = h; of_fit = refl; of_at = refl; of_func = refl }

  simple_side : (k : OpKind) (xs : List ℕ) (t : ValueType) → is_simple k ≡ true → IsWritten k xs t
      → FormTo (num_by v) (Standing (outside_spot fit unit op)) (Amid v apart fit unit op scope) forms.RightSide (kind_pieces scope k xs t) (IsRight k xs t)
  simple_side k xs t simple w ts σ are h =
      let r = kind_spelled (naming v (outside_spot fit unit op) refl) scope k xs t simple w ts σ are h in
      record {
        i = r.i;
        body = r.body;
        below = r.below;
        is = r.is;
        spells = r.spells;
        takes = r.takes;
        value = (k, r.value, λ numbered. kind_kept (λ id. id) k simple ∙ sym (kind_kept (reader_of v apart fit unit op scope k) k simple));
        holds = amid_outside _ r.holds;
      }

  side_by_view : (k : OpKind) (xs : List ℕ) (t : ValueType) → KindView k → OpFits scope k xs t
      → FormTo (num_by v) (Standing (outside_spot fit unit op)) (Amid v apart fit unit op scope) forms.RightSide (kind_pieces scope k xs t) (IsRight k xs t)
  unfolding kind_pieces
  side_by_view k xs t (a_simple simple) f = simple_side k xs t simple f.written
  side_by_view _ xs t (a_reduce x) f =
      let types = all_parts is_spelled_type (x.ins_outs.ins_types ++ x.ins_outs.outs_types) [] f.written.types in
      let sides = all_parts is_spelled_type x.ins_outs.ins_types x.ins_outs.outs_types types.0 in
      let fits : LoopFits v apart fit unit op scope x.body x.ins_outs xs = record { names = f.regions; count = f.written.operands; captures = f.captures; ins_types = sides.0; outs_types = sides.1 } in
      subst (λ u. FormTo (num_by v) (Standing (outside_spot fit unit op)) (Amid v apart fit unit op scope) forms.RightSide (kind_pieces scope (op_kind.Reduce x) xs u) (IsRight (op_kind.Reduce x) xs u)) (sym f.written.result)
      (reduce_spelled v apart fit unit op scope x xs fits (no_indices x.body.ops f.indices) f.written.numbers)
  side_by_view _ xs t (a_generic x) f =
      let types = all_parts is_spelled_type (x.ins_outs.ins_types ++ x.ins_outs.outs_types) (t ∷ []) f.written.types in
      let sides = all_parts is_spelled_type x.ins_outs.ins_types x.ins_outs.outs_types types.0 in
      let fits : LoopFits v apart fit unit op scope x.body x.ins_outs xs = record { names = f.regions; count = f.written.operands; captures = f.captures; ins_types = sides.0; outs_types = sides.1 } in
      generic_spelled v apart fit unit op scope x xs t fits (first is_spelled_type t [] types.1)
      (form_so (λ p m. (m.0, m.1, λ g. maps_same v apart (outside_spot fit unit op) refl x.indexing_maps m.0 m.2 f.small f.numbered g)) (maps_spelled v (outside_spot fit unit op) refl x.indexing_maps f.small))

  pub right_side_spelled : (k : OpKind) (xs : List ℕ) (t : ValueType) → is_return k ≡ false → OpFits scope k xs t
      → FormTo (num_by v) (Standing (outside_spot fit unit op)) (Amid v apart fit unit op scope) forms.RightSide (kind_pieces scope k xs t) (IsRight k xs t)
  right_side_spelled k xs t other f = side_by_view k xs t (view k other) f

  -- ## Operations

  abbrev number_of : ℕ → ℕ
  number_of id = base v apart fit unit op scope id

  outside_read : (o : Option Body) → MatchOption o ⊤ (λ body. RegionNames scope body) → (xs : List ℕ) → MatchOption o ⊤ (λ body. AllByRecursion (λ id. is_among (own_names body) id ≡ false) xs)
      → map (option_map_or (λ body. reader v apart fit unit op scope body) o number_of) xs ≡ map number_of xs
  outside_read None regions xs h = refl
  outside_read (Some body) regions [] h = refl
  outside_read (Some body) regions (x ∷ xs) h = rw (reader_base v apart fit unit op scope body regions x h.0, outside_read (Some body) regions xs h.1) refl

  -- the operation is read so
  abbrev pub IsRead : Op → Part → Type 0
  IsRead x p = (read : Op) × (p ≡ part.Op read) × (IsTrue (list_all is_numbered (written_by read.kind).maps) → renamed_op (λ id. id) read ≡ renamed_op (reader_of v apart fit unit op scope x.kind) x)

  same_operation : (k read : OpKind) (xs : List ℕ) (d : ℕ) (t : ValueType) (place at : Place) → MatchOption (written_by k).body ⊤ (λ body. RegionNames scope body) → AreOutside k (d ∷ xs)
      → renamed_kind (λ id. id) read ≡ renamed_kind (reader_of v apart fit unit op scope k) k
      → renamed_op (λ id. id) (op_of read (map number_of xs) (Some (number_of d)) t at) ≡ renamed_op (reader_of v apart fit unit op scope k) (op_of k xs (Some d) t place)
  same_operation k read xs d t place at regions out same =
      let ids = outside_read (written_by k).body regions (d ∷ xs) out in
      let first : reader_of v apart fit unit op scope k d ≡ number_of d = cc in
      let rest : map (reader_of v apart fit unit op scope k) xs ≡ map number_of xs = cc in
      rw (same, first, rest, map_same (map number_of xs)) refl

  pub operation_row : (k : OpKind) (xs : List ℕ) (d : ℕ) (t : ValueType) (place : Place) → is_return k ≡ false → OpFits scope k xs t → AreOutside k (d ∷ xs)
      → FormTo (num_by v) (λ σ. Standing (outside_spot fit unit op) (enter forms.Operation σ)) (Between fit unit) forms.Operation
      (op_pieces scope (op_of k xs (Some d) t place)) (IsRead (op_of k xs (Some d) t place))
  unfolding made op_pieces defined
  operation_row k xs d t place other fits out =
      let N = naming v (outside_spot fit unit op) refl in
      by_row_entered 0 refl (λ σ h. h) (then_value N (λ p. then_token N keyword.the-equals (λ q i.
      then_form N (right_side_spelled k xs t other fits) (λ r side. then_line_end N (row_to_end (λ σ h. record { spot = h.spot; stands = h.stands; of_fit = h.of_fit; of_at = h.of_at; of_func = h.of_func })
      (end_row N (
        op_of side.0 (map number_of xs) (Some (number_of d)) t p,
        ap (defining (record { id = number_of d; place = p })) side.1,
        λ numbered. same_operation k side.0 xs d t place p fits.regions out (side.2 numbered),
      )))))))

  -- ## The return

  returned_row : (xs : List ℕ) (types : List ValueType) → IsTrue (list_all is_spelled_type types)
      → FormTo (num_by v) (Standing (outside_spot fit unit op)) (Standing (outside_spot fit unit op)) forms.Returned (if are_none xs types then [] else typed_values scope xs types)
      (λ p. p ≡ operands_of (map number_of xs) types)
  unfolding made typed_values
  returned_row [] [] h = let N = naming v (outside_spot fit unit op) refl in by_row N 0 refl refl (end_row N refl)
  returned_row [] (t ∷ types) h = let N = naming v (outside_spot fit unit op) refl in
      by_row N 1 refl refl (then_is N (values_spelled N scope []) (then_token N keyword.the-colon (λ p i. last_is N (types_spelled N (t ∷ types) h) refl)))
  returned_row (x ∷ xs) types h = let N = naming v (outside_spot fit unit op) refl in
      by_row N 1 refl refl (then_is N (values_spelled N scope (x ∷ xs)) (then_token N keyword.the-colon (λ p i. last_is N (types_spelled N types h) refl)))

  pub return_row : (x : declared_return.Return) (xs : List ℕ) (place : Place) → IsTrue (list_all is_spelled_type x.operand_types)
      → FormTo (num_by v) (λ σ. Standing (outside_spot fit unit op) (enter forms.Return σ)) (Standing (outside_spot fit unit op)) forms.Return
      (op_pieces scope (op_of (op_kind.Return x) xs None type.Nothing place)) (IsRead (op_of (op_kind.Return x) xs None type.Nothing place))
  unfolding made op_pieces defined kind_pieces return_pieces
  return_row x xs place h =
      let N = naming v (outside_spot fit unit op) refl in
      by_row_entered 0 refl (λ σ h. h) (then_token N keyword.the-return (λ p i. then_is N (returned_row xs x.operand_types h) (then_line_end N
      (end_row N (op_of (op_kind.Return x) (map number_of xs) None type.Nothing p, refl, λ numbered. ap (λ ys. op_of (op_kind.Return x) ys None type.Nothing no_place) (map_same (map number_of xs)))))))
