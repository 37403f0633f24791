-- What clap's walk makes of one word of a table.
use Rattle.std.proofs.Common.{◌≡◌, ◌∙◌, ◌&&◌, ◌||◌, not, Bool, true, false, refl, sym, ap, List, [], ◌∷◌, ◌++◌, Option, Some, None, is_some, map, codes, option_map}
use Rattle.std.specs.List.{find, list_all}
use Rattle.std.specs.Option.{option_map_or}
use Rattle.std.proofs.lemmas.Bool.{and_parts, not-true, or_parts}
use Rattle.std.proofs.lemmas.Bool.Decides.{same_from_decides}
use Rattle.std.proofs.lemmas.List.{append-nil}
use Rattle.std.proofs.lemmas.Slice.Eq.{bytes_eq-Decides}
use Rattle.clap.proofs.WalkLemmas.{find-map}
use Rattle.std.specs.Str.{bytes_eq}
use Rattle.clap.specs.Lexer.{long_of}
use Rattle.clap.specs.Walk.{Held, Row, Rule, Walk, arg_by_long, at_row, has_long, has_row, more_values, used, walk_from, walked, with_values, without, takes_values}
use Rattle.clap.specs.Simple.{Shape, filled}
use Rattle.clap.specs.Takes.{turn_passes, use_passes}
use Rattle.clap.specs.declared.parser.matches.ValueSource.TheVariants.{CommandLine}
use Rattle.clap.specs.declared.builder.value_parser.Reading.TheVariants as reading
use Rattle.sh_words.specs.Words.{Text, name_of, value_of}
use Rattle.sh_words.specs.Commands.{Entry, raw_rule, named_by, fits_entry, is_shaped}
use Rattle.sh_words.proofs.Finds.{found_in, found_passes}
use Rattle.sh_words.proofs.Names.{long_is, more_than_dashes}

-- where the walk stands between two words
abbrev pub held_at : List Row → Held
held_at rows = record { rows = rows; pending = None; skip = 0 }

abbrev pub at : List Row → Walk
at rows = walk_from (held_at rows)

abbrev pub text_or_true : Option Text → Text
text_or_true None = codes "true"
text_or_true (Some v) = v

abbrev pub row_for : Text → Option Text → Row
row_for id value = record { id = id; values = text_or_true value ∷ []; count = None; source = Some CommandLine; reading = reading.AsWritten }

abbrev pub rule_for : Entry → Rule
rule_for e = filled (raw_rule e)

abbrev pub values_with : Option Text → List Text
values_with None = []
values_with (Some v) = v ∷ []

-- the word gives the argument a its values
pub record Gives (c : List Rule) (w : Text) (a : Rule) (value : Option Text) : Type 0 where
  pub name : Text
  pub alone : bytes_eq w (45 ∷ 45 ∷ []) ≡ false
  pub long : long_of w ≡ Some (name, value)
  pub found : arg_by_long c name ≡ Some a
  pub takes : takes_values a ≡ is_some value

pub and_true : (b : Bool) → (b && true) ≡ b
and_true true = refl
and_true false = refl

pub or_false : (b : Bool) → (b || false) ≡ b
or_false true = refl
or_false false = refl

pub walks : (c : List Rule) (w : Text) (a : Rule) (value : Option Text) (rows : List Row) → Gives c w a value
    → walked c [] (at rows) w ≡ at (used a (values_with value) rows)
unfolding walked
walks c w a None rows g = rw (g.alone, g.long, g.found, g.takes) refl
walks c w a (Some v) rows g = rw (g.alone, g.long, g.found, g.takes) refl

pub turns : (s : Shape) (w : Text) (a : Rule) (value : Option Text) (rows : List Row) → Gives s.rules w a value
    → turn_passes s [] (at rows) w ≡ use_passes s.args_override_self a (values_with value) rows
turns s w a None rows g = rw (g.alone, g.long, g.found, g.takes) (and_true _)
turns s w a (Some v) rows g = rw (g.alone, g.long, g.found, g.takes) (and_true _)

pub bytes_eq_comm : (a b : Text) → bytes_eq a b ≡ bytes_eq b a
bytes_eq_comm a b =
    let back = bytes_eq-Decides b a in
    same_from_decides _ _ (bytes_eq-Decides a b) (λ e. sym (back.0 e), λ e. back.1 (sym e))

-- ---- rows

-- the id has no row, so one is added
pub at_new : (id : Text) (change : Row → List Row) (missing rows : List Row) → has_row id rows ≡ false → at_row id change missing rows ≡ rows ++ missing
at_new id change missing [] none = refl
at_new id change missing (r ∷ rs) none =
    let parts = or_parts (bytes_eq r.id id) (has_row id rs) none in
    rw parts.0 (ap (λ more. r ∷ more) (at_new id change missing rs parts.1))

with_new : (id : Text) (v : Text) (rows : List Row) → has_row id rows ≡ false
    → with_values id reading.AsWritten CommandLine (v ∷ []) (without id rows) ≡ rows ++ row_for id (Some v) ∷ []
with_new id v rows none =
    let left : without id rows ≡ rows = at_new id (λ _. []) [] rows none ∙ append-nil rows in
    ap (with_values id reading.AsWritten CommandLine (v ∷ [])) left ∙ at_new id (more_values CommandLine (v ∷ [])) _ rows none

pub used_new : (e : Entry) (value : Option Text) (rows : List Row) → is_some value ≡ e.1 → has_row e.0 rows ≡ false
    → used (rule_for e) (values_with value) rows ≡ rows ++ row_for e.0 value ∷ []
used_new (id, true) None rows fits none = cc
used_new (id, false) None rows fits none = with_new id (codes "true") rows none
used_new (id, true) (Some v) rows fits none = with_new id v rows none
used_new (id, false) (Some v) rows fits none = cc

pub use_passes_new : (e : Entry) (value : Option Text) (rows : List Row) → is_some value ≡ e.1 → has_row e.0 rows ≡ false
    → use_passes false (rule_for e) (values_with value) rows ≡ true
use_passes_new (id, true) None rows fits none = cc
use_passes_new (id, false) None rows fits none = rw none refl
use_passes_new (id, true) (Some v) rows fits none = rw none refl
use_passes_new (id, false) (Some v) rows fits none = cc

-- ---- the entry of a word

pub record Of (t : List Entry) (w : Text) (e : Entry) : Type 0 where
  pub name : name_of w ≡ 45 ∷ 45 ∷ e.0
  pub first : find (named_by w) t ≡ Some e
  pub fits : is_some (value_of w) ≡ e.1

-- an id is not empty
abbrev pub is_text : Text → Bool
is_text [] = false
is_text (x ∷ xs) = true

abbrev pub are_texts : List Entry → Bool
are_texts t = list_all (λ e. is_text e.0) t

entry_fits : (w : Text) (e : Entry) → fits_entry w e ≡ true → is_some (value_of w) ≡ e.1
entry_fits w (id, true) h = h
entry_fits w (id, false) h = not-true _ h

pub of_shaped : (t : List Entry) (w : Text) → is_shaped t w ≡ true → (e : Entry) × Of t w e
of_shaped t w h = go (find (named_by w) t) refl
  where
    go : (o : Option Entry) → find (named_by w) t ≡ o → (e : Entry) × Of t w e
    go None e = let bad : false ≡ true = sym (ap (λ o. option_map_or (fits_entry w) o false) e) ∙ h in cc
    go (Some x) e = (
      x,
      record {
        name = (bytes_eq-Decides (name_of w) (45 ∷ 45 ∷ x.0)).0 (found_passes (named_by w) t x e);
        first = e;
        fits = entry_fits w x (sym (ap (λ o. option_map_or (fits_entry w) o false) e) ∙ h);
      },
    )

takes_as : (e : Entry) → takes_values (rule_for e) ≡ e.1
takes_as (id, true) = refl
takes_as (id, false) = refl

pub gives : (t : List Entry) (w : Text) (e : Entry) → are_texts t ≡ true → Of t w e → Gives (map rule_for t) w (rule_for e) (value_of w)
gives t w (id, takes) texts of = go id of (found_in (named_by w) (λ e. is_text e.0) t (id, takes) of.first texts)
  where
    go : (n : Text) → Of t w (n, takes) → is_text n ≡ true → Gives (map rule_for t) w (rule_for (n, takes)) (value_of w)
    go [] of nonempty = cc
    go (x ∷ xs) of nonempty =
        let e : Entry = (x ∷ xs, takes) in
        let same : find (λ (a : Entry). not (is_some (rule_for a).index) && (bytes_eq a.0 (x ∷ xs) || false)) t ≡ Some e =
        ap (λ (p : Entry → Bool). find p t) (λ i a. (or_false (bytes_eq a.0 (x ∷ xs)) ∙ bytes_eq_comm a.0 (x ∷ xs) ∙ ap (λ (n : Text). bytes_eq n (45 ∷ 45 ∷ a.0)) (sym of.name)) i) ∙ of.first in
        record {
          name = x ∷ xs;
          alone = more_than_dashes w x xs of.name;
          long = long_is w x xs of.name;
          found = sym (find-map (λ (a : Rule). not (is_some a.index) && has_long a (x ∷ xs)) rule_for t) ∙ ap (option_map rule_for) same;
          takes = takes_as e ∙ sym of.fits;
        }
