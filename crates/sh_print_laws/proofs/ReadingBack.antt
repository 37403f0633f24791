-- Printed pieces are read back by any numbers of names that go by their texts.
use Rattle.std.proofs.Common.{◌≡◌, ◌∙◌, ℕ, true, List, [], ◌∷◌, map, refl, ap, sym}
use Rattle.std.specs.Prelude.{IsTrue}
use Rattle.std.proofs.lemmas.List.{append-nil}
use Rattle.sh_build.specs.Meaning.{made, side}
use Rattle.sh_build.specs.declared.parts.Part.{Part}
use Rattle.sh_build.specs.declared.parts.Part.TheVariants as part
use Rattle.sh_grammar.specs.Grammar.Spells.{is_form, is_nothing}
use Rattle.sh_grammar.specs.Grammar.Trees.{form, nothing}
use Rattle.sh_grammar.specs.Grammar.{tokens}
use Rattle.sh_grammar.specs.Lexemes.{Lexeme}
use Rattle.sh_grammar.specs.declared.forms.Form.{Form}
use Rattle.sh_grammar.specs.declared.forms.Form.TheVariants as forms
use Rattle.sh_ir.specs.Formed.{is_spelled_type}
use Rattle.sh_ir.specs.declared.operations.OpKind.{OpKind}
use Rattle.sh_ir.specs.declared.types.ValueType.{ValueType}
use Rattle.sh_parse.specs.Reads.{leaves, parts_of}
use Rattle.sh_print.specs.Layout.{Piece}
use Rattle.sh_print.specs.Spellings.{type_pieces}
use Rattle.sh_print.specs.Tokens.{kind_pieces}
use Rattle.sh_print.specs.Values.{Scope, name_in, name_text}
use Rattle.sh_print_laws.specs.ReadsBack.{IsWritten, ReadBack, StandFor, is_simple}
use Rattle.sh_print_laws.proofs.KindForms.{kind_spelled}
use Rattle.sh_print_laws.proofs.PlainForms.{type_spelled}
use Rattle.sh_print_laws.proofs.Rows.{Gives, Made, Naming}
use Rattle.sh_print_laws.proofs.Walks.{by_text, enter, parts_at, parts_by_text, start}

-- each name has the number of its text, at every state
abbrev pub texts_numbered : (number : List ℕ → ℕ) → Naming (by_text number)
texts_numbered number = record {
  Holds = λ σ. Unit {0};
  number = number;
  enters = λ n σ plain h. tt;
  steps = λ t σ h. tt;
  named = λ text place σ h. refl;
}

pub stand_for : (number : List ℕ → ℕ) {n : Form} (ts : List Lexeme) {P : Part → Type 0} (it : Made (texts_numbered number) n start ts P) (p : Part)
    → made n it.i (parts_at (by_text number) (enter n start) it.below) ≡ p → StandFor ts number n p
stand_for number {n = n} ts it p is = record {
  trees = form n it.i it.below nothing;
  spells = is_form it.is it.spells is_nothing;
  takes = append-nil (tokens it.below) ∙ it.takes;
  stands =
      ap (λ us. parts_of (leaves [] us (map (λ t. number t.text) us)) (form n it.i it.below nothing)) (sym (append-nil (tokens it.below) ∙ it.takes))
      ∙ parts_by_text number (form n it.i it.below nothing) start
      ∙ ap (λ q. q ∷ []) is;
}

read_back : (number : List ℕ → ℕ) (n : Form) (ps : List Piece) (p : Part) → Gives (texts_numbered number) n ps p → ReadBack ps number n p
read_back number n ps p gives ts are = let it = gives ts start are tt in stand_for number ts it p it.value

pub types_read : (number : List ℕ → ℕ) (t : ValueType) → IsTrue (is_spelled_type t) → ReadBack (type_pieces t) number forms.ValueType (part.Type t)
types_read number t h = read_back number forms.ValueType (type_pieces t) (part.Type t) (type_spelled (texts_numbered number) t h)

pub kinds_read : (number : List ℕ → ℕ) (scope : Scope) (k : OpKind) (xs : List ℕ) (t : ValueType) → is_simple k ≡ true → IsWritten k xs t
    → ReadBack (kind_pieces scope k xs t) number forms.RightSide (side k (map (λ id. number (name_text (name_in scope id))) xs) t)
kinds_read number scope k xs t simple w =
    read_back number forms.RightSide (kind_pieces scope k xs t) (side k (map (λ id. number (name_text (name_in scope id))) xs) t)
    (kind_spelled (texts_numbered number) scope k xs t simple w)
