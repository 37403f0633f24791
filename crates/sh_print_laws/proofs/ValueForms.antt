-- Names of values, with the types written behind them.
use Rattle.std.proofs.Common.{◌≡◌, ◌+◌, ℕ, zero, suc, List, [], ◌∷◌, ◌++◌, map, take, drop, length, refl, ap, arith}
use Rattle.std.specs.Prelude.{IsTrue}
use Rattle.std.specs.List.{list_all}
use Rattle.sh_build.specs.Meaning.{ins_outs_of, made, operands_of}
use Rattle.sh_build.specs.declared.parts.Part.TheVariants as part
use Rattle.sh_grammar.specs.declared.forms.Form.TheVariants as forms
use Rattle.sh_ir.specs.Formed.{is_spelled_type}
use Rattle.sh_ir.specs.declared.linalg_ops.InsOuts.{InsOuts}
use Rattle.sh_grammar.specs.Lexemes.{Lexeme}
use Rattle.sh_print.specs.Spellings.{rest_of_list}
use Rattle.sh_print.specs.Tokens.{ins, ins_values, operands_pieces, outs, outs_values, typed_values, value_in, values}
use Rattle.sh_print.specs.Values.{Scope, name_in, name_text}
use Rattle.sh_print.specs.declared.names.Name.{Name}
use Rattle.sh_print_laws.proofs.Keywords as keyword
use Rattle.sh_print_laws.proofs.PlainForms.{types_spelled}
use Rattle.sh_print_laws.proofs.Walks.{State}
use Rattle.sh_print_laws.proofs.Rows.{Gives, Naming, by_row, end_row, last_is, then_in_2, then_is, then_token, then_value}

module _ {numbered : State → Lexeme → ℕ} (N : Naming numbered) where
  -- the number of a name
  abbrev pub id_of : Name → ℕ
  id_of name = N.number (name_text name)

  -- the numbers of a function's names
  abbrev pub ids_in : Scope → List ℕ → List ℕ
  ids_in scope ids = map (λ id. id_of (name_in scope id)) ids

  more_values : (scope : Scope) (ids : List ℕ) → Gives N forms.MoreValues (rest_of_list (value_in scope) ids) (part.Ids (ids_in scope ids))
  unfolding made value_in
  more_values scope [] = by_row N 0 refl refl (end_row N refl)
  more_values scope (id ∷ ids) = by_row N 1 refl refl (then_token N keyword.the-comma (λ p i. then_value N (λ p. last_is N (more_values scope ids) refl)))

  pub values_spelled : (scope : Scope) (ids : List ℕ) → Gives N forms.Values (values scope ids) (part.Ids (ids_in scope ids))
  unfolding made values value_in
  values_spelled scope [] = by_row N 0 refl refl (end_row N refl)
  values_spelled scope (id ∷ ids) = by_row N 1 refl refl (then_value N (λ p. last_is N (more_values scope ids) refl))

  pub ins_spelled : (scope : Scope) (x : InsOuts) (operands : List ℕ) → IsTrue (list_all is_spelled_type x.ins_types)
      → Gives N forms.Ins (ins scope x operands) (operands_of (ids_in scope (ins_values x operands)) x.ins_types)
  unfolding made ins operands_pieces typed_values
  ins_spelled scope x operands h = by_row N 0 refl refl (then_token N keyword.the-ins (λ p i. then_token N keyword.the-open (λ p i.
      then_in_2 N (values_spelled scope (ins_values x operands)) _ _ (then_token N keyword.the-colon (λ p i.
      then_is N (types_spelled N x.ins_types h) (then_token N keyword.the-close (λ p i. end_row N refl)))))))

  pub outs_spelled : (scope : Scope) (x : InsOuts) (operands : List ℕ) → IsTrue (list_all is_spelled_type x.outs_types)
      → Gives N forms.Outs (outs scope x operands) (operands_of (ids_in scope (outs_values x operands)) x.outs_types)
  unfolding made outs operands_pieces typed_values
  outs_spelled scope x operands h = by_row N 0 refl refl (then_token N keyword.the-outs (λ p i. then_token N keyword.the-open (λ p i.
      then_in_2 N (values_spelled scope (outs_values x operands)) _ _ (then_token N keyword.the-colon (λ p i.
      then_is N (types_spelled N x.outs_types h) (then_token N keyword.the-close (λ p i. end_row N refl)))))))

-- ## As many operands as are written

module _ (f : ℕ → ℕ) where
  taken : (n m : ℕ) (xs : List ℕ) → length xs ≡ n + m → length (map f (take n xs)) ≡ n
  taken zero m xs h = refl
  taken (suc n) m [] h = absurd (omega arith)
  taken (suc n) m (x ∷ xs) h = ap suc (taken n m xs (omega arith))

  -- the values of `ins` and of `outs`, behind which there may be others
  pub all_values : (n m : ℕ) (xs : List ℕ) → length xs ≡ n + m → map f (take n xs) ++ map f (take m (drop n xs)) ++ [] ≡ map f xs
  all_values zero zero [] h = refl
  all_values zero zero (x ∷ xs) h = absurd (omega arith)
  all_values zero (suc m) [] h = refl
  all_values zero (suc m) (x ∷ xs) h = ap (λ ys. f x ∷ ys) (all_values zero m xs (omega arith))
  all_values (suc n) m [] h = absurd (omega arith)
  all_values (suc n) m (x ∷ xs) h = ap (λ ys. f x ∷ ys) (all_values n m xs (omega arith))

  dropped : (n m : ℕ) (xs : List ℕ) → length xs ≡ n + m → length (map f (take m (drop n xs))) ≡ m
  dropped zero zero xs h = refl
  dropped zero (suc m) [] h = absurd (omega arith)
  dropped zero (suc m) (x ∷ xs) h = ap suc (dropped zero m xs (omega arith))
  dropped (suc n) m [] h = absurd (omega arith)
  dropped (suc n) m (x ∷ xs) h = dropped n m xs (omega arith)

  pub ins_outs_same : (x : InsOuts) (xs : List ℕ) → length xs ≡ x.ins_count + x.outs_count
      → ins_outs_of (record { values = map f (ins_values x xs); types = x.ins_types }) (record { values = map f (outs_values x xs); types = x.outs_types }) ≡ x
  ins_outs_same x xs h = rw (taken x.ins_count x.outs_count xs h, dropped x.ins_count x.outs_count xs h) refl
