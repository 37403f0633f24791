-- What the rows after the walk say of a name.
use Rattle.std.proofs.Common.{◌≡◌, ◌∙◌, ◌&&◌, ◌||◌, not, Bool, cond, true, false, refl, sym, ap, ap₂, List, [], ◌∷◌, ◌++◌, Option, Some, None, is_some, map, codes, option_map, drop, fold}
use Rattle.std.specs.List.{find, list_all, list_any}
use Rattle.std.specs.Option.{option_or}
use Rattle.std.specs.Prelude.{option_and_then, slice_get}
use Rattle.std.specs.Str.{bytes_eq}
use Rattle.std.proofs.lemmas.Bool.{and_parts, and_from, not-true, not_from_false, or_parts, true≢false}
use Rattle.std.proofs.lemmas.List.{append-nil}
use Rattle.std.proofs.lemmas.List.Folds.{find-append}
use Rattle.std.proofs.lemmas.Slice.Eq.{bytes_eq-Decides}
use Rattle.clap.proofs.WalkLemmas.{find-map}
use Rattle.clap.specs.Walk.{Row, first_of, has_row, more_values, one_of, row_text, with_default}
use Rattle.clap.specs.declared.parser.matches.ValueSource.TheVariants.{DefaultValue}
use Rattle.clap.specs.declared.builder.value_parser.Reading.TheVariants as reading
use Rattle.sh_words.specs.Words.{Text, has_name, is_given, name_of, value_in, value_of}
use Rattle.sh_words.specs.Commands.{Entry, is_shaped, named_by}
use Rattle.sh_words.proofs.Finds.{find_none, found_fails, found_in, found_passes, some_found}
use Rattle.sh_words.proofs.Steps.{at_new, of_shaped, rule_for, text_or_true}
use Rattle.sh_words.proofs.Walked.{id_is, id_of, made, name_is}

abbrev has_id : Text → Row → Bool
has_id id r = bytes_eq r.id id

-- ---- defaults

abbrev default_row : Text → Row
default_row id = record { id = id; values = codes "false" ∷ []; count = None; source = Some DefaultValue; reading = reading.AsWritten }

-- an argument adds its default at the end, or nothing
abbrev added : Entry → List Row → List Row
added e rows = cond (e.1 || has_row e.0 rows) [] (default_row e.0 ∷ [])

default_added : (e : Entry) (rows : List Row) → with_default rows (rule_for e) ≡ rows ++ added e rows
default_added (id, true) rows = go (has_row id rows)
  where
    go : (b : Bool) → cond b rows rows ≡ rows ++ []
    go true = sym (append-nil rows)
    go false = sym (append-nil rows)
default_added (id, false) rows = go (has_row id rows) refl
  where
    go : (b : Bool) → has_row id rows ≡ b → with_default rows (rule_for (id, false)) ≡ rows ++ cond b [] (default_row id ∷ [])
    go true e = rw e (sym (append-nil rows))
    go false e = rw e (at_new id (more_values DefaultValue (codes "false" ∷ [])) (default_row id ∷ []) rows e)

kept : (t : List Entry) (id : Text) (rows : List Row) (r : Row) → find (has_id id) rows ≡ Some r
    → find (has_id id) (fold with_default rows (map rule_for t)) ≡ Some r
kept [] id rows r e = e
kept (a ∷ rest) id rows r e =
    kept rest id (with_default rows (rule_for a)) r
    (ap (find (has_id id)) (default_added a rows) ∙ find-append (has_id id) rows (added a rows) ∙ ap (λ o. option_or o (find (has_id id) (added a rows))) e)

-- the argument is a flag of this id
abbrev pub is_flag_of : Text → Entry → Bool
is_flag_of id e = not e.1 && bytes_eq e.0 id

abbrev pub is_option_of : Text → Entry → Bool
is_option_of id e = e.1 && bytes_eq e.0 id

-- another argument leaves the id as it was
passes_by : (id : Text) (e : Entry) (rows : List Row) → is_flag_of id e ≡ false → find (has_id id) rows ≡ None
    → find (has_id id) (with_default rows (rule_for e)) ≡ None
passes_by id e rows other none =
    ap (find (has_id id)) (default_added e rows) ∙ find-append (has_id id) rows (added e rows) ∙ ap (λ o. option_or o (find (has_id id) (added e rows))) none
    ∙ go e other (has_row e.0 rows)
  where
    go : (a : Entry) → is_flag_of id a ≡ false → (b : Bool) → find (has_id id) (cond (a.1 || b) [] (default_row a.0 ∷ [])) ≡ None
    go (x, true) e b = refl
    go (x, false) e true = refl
    go (x, false) e false = rw e refl

no_default : (t : List Entry) (id : Text) (rows : List Row) → list_any (is_flag_of id) t ≡ false → find (has_id id) rows ≡ None
    → find (has_id id) (fold with_default rows (map rule_for t)) ≡ None
no_default [] id rows other none = none
no_default (e ∷ rest) id rows other none =
    let parts = or_parts (is_flag_of id e) (list_any (is_flag_of id) rest) other in
    no_default rest id (with_default rows (rule_for e)) parts.1 (passes_by id e rows parts.0 none)

found_row : (id : Text) (rows : List Row) → find (has_id id) rows ≡ None → has_row id rows ≡ false
found_row id [] none = refl
found_row id (r ∷ rs) none = go (has_id id r) refl (found_row id rs)
  where
    go : (b : Bool) → has_id id r ≡ b → (find (has_id id) rs ≡ None → has_row id rs ≡ false) → has_row id (r ∷ rs) ≡ false
    go true e later = let bad : Some r ≡ None = sym (rw e refl) ∙ none in cc
    go false e later = rw e (later (sym (rw e refl) ∙ none))

flag_default : (t : List Entry) (id : Text) (rows : List Row) → list_any (is_flag_of id) t ≡ true → find (has_id id) rows ≡ None
    → find (has_id id) (fold with_default rows (map rule_for t)) ≡ Some (default_row id)
flag_default [] id rows there none = cc
flag_default (e ∷ rest) id rows there none = go (is_flag_of id e) refl (flag_default rest id (with_default rows (rule_for e)))
  where
    here : (a : Entry) → is_flag_of id a ≡ true → find (has_id id) (with_default rows (rule_for a)) ≡ Some (default_row id)
    here (x, true) h = cc
    here (x, false) h =
        let same : x ≡ id = (bytes_eq-Decides x id).0 h in
        let absent : has_row x rows ≡ false = ap (λ i. has_row i rows) same ∙ found_row id rows none in
        ap (find (has_id id)) (default_added (x, false) rows ∙ ap (λ b. rows ++ cond b [] (default_row x ∷ [])) absent)
        ∙ find-append (has_id id) rows (default_row x ∷ []) ∙ ap (λ o. option_or o (find (has_id id) (default_row x ∷ []))) none
        ∙ rw h (ap (λ i. Some (default_row i)) same)

    go : (b : Bool) → is_flag_of id e ≡ b
        → (list_any (is_flag_of id) rest ≡ true → find (has_id id) (with_default rows (rule_for e)) ≡ None
        → find (has_id id) (fold with_default (with_default rows (rule_for e)) (map rule_for rest)) ≡ Some (default_row id))
        → find (has_id id) (fold with_default (with_default rows (rule_for e)) (map rule_for rest)) ≡ Some (default_row id)
    go true h later = kept rest id (with_default rows (rule_for e)) (default_row id) (here e h)
    go false h later = later (sym (ap (λ b. b || list_any (is_flag_of id) rest) h) ∙ there) (passes_by id e rows h none)

-- ---- the words

word_found : (t : List Entry) (id : Text) (words : List Text) → list_all (is_shaped t) words ≡ true
    → find (λ w. bytes_eq (id_of w) id) words ≡ find (has_name (45 ∷ 45 ∷ id)) words
word_found t id [] all = refl
word_found t id (w ∷ ws) all =
    let shapes = and_parts (is_shaped t w) (list_all (is_shaped t) ws) all in
    let test : bytes_eq (id_of w) id ≡ has_name (45 ∷ 45 ∷ id) w =
    ap (λ (n : Text). bytes_eq n (45 ∷ 45 ∷ id)) (sym (name_is t w shapes.0)) in
    ap₂ (λ (b : Bool) (o : Option Text). cond b (Some w) o) test (word_found t id ws shapes.1)

row_found : (t : List Entry) (id : Text) (words : List Text) → list_all (is_shaped t) words ≡ true
    → find (has_id id) (map made words) ≡ option_map made (find (has_name (45 ∷ 45 ∷ id)) words)
row_found t id words all = sym (find-map (has_id id) made words) ∙ ap (option_map made) (word_found t id words all)

-- whether a word of this id takes a value
shape_found : (t : List Entry) (id w : Text) → is_shaped t w ≡ true → has_name (45 ∷ 45 ∷ id) w ≡ true
    → (e : Entry) × (e.0 ≡ id) × (find (named_by w) t ≡ Some e) × (is_some (value_of w) ≡ e.1)
shape_found t id w shaped named =
    let found = of_shaped t w shaped in
    let full : name_of w ≡ 45 ∷ 45 ∷ id = (bytes_eq-Decides (name_of w) (45 ∷ 45 ∷ id)).0 named in
    (found.0, id_is t w found.0 found.1 ∙ ap (drop 2) full, found.1.first, found.1.fits)

flag_value : (t : List Entry) (id w : Text) → list_any (is_option_of id) t ≡ false → is_shaped t w ≡ true → has_name (45 ∷ 45 ∷ id) w ≡ true → value_of w ≡ None
flag_value t id w none shaped named = go (shape_found t id w shaped named)
  where
    is_none : (o : Option Text) → is_some o ≡ false → o ≡ None
    is_none None e = refl
    is_none (Some v) e = cc

    go : ((e : Entry) × (e.0 ≡ id) × (find (named_by w) t ≡ Some e) × (is_some (value_of w) ≡ e.1)) → value_of w ≡ None
    go ((x, true), same, first, fits) =
        absurd (true≢false (sym ((bytes_eq-Decides x id).1 same) ∙ found_fails (named_by w) (is_option_of id) t (x, true) first none))
    go ((x, false), same, first, fits) = is_none (value_of w) fits

option_value : (t : List Entry) (id w : Text) → list_any (is_flag_of id) t ≡ false → is_shaped t w ≡ true → has_name (45 ∷ 45 ∷ id) w ≡ true
    → Some (text_or_true (value_of w)) ≡ value_of w
option_value t id w none shaped named = go (shape_found t id w shaped named)
  where
    is_value : (o : Option Text) → is_some o ≡ true → Some (text_or_true o) ≡ o
    is_value None e = cc
    is_value (Some v) e = refl

    go : ((e : Entry) × (e.0 ≡ id) × (find (named_by w) t ≡ Some e) × (is_some (value_of w) ≡ e.1)) → Some (text_or_true (value_of w)) ≡ value_of w
    go ((x, false), same, first, fits) =
        absurd (true≢false (sym ((bytes_eq-Decides x id).1 same) ∙ found_fails (named_by w) (is_flag_of id) t (x, false) first none))
    go ((x, true), same, first, fits) = is_value (value_of w) fits

-- ---- what the getters read

module _ (t : List Entry) (id : Text) (words : List Text) (all : list_all (is_shaped t) words ≡ true) where
  -- an option has the value that its word gives
  pub option_read : list_any (is_flag_of id) t ≡ false → first_of id (fold with_default (map made words) (map rule_for t)) ≡ value_in (45 ∷ 45 ∷ id) words
  option_read none = go (find (has_name (45 ∷ 45 ∷ id)) words) refl
    where
      go : (o : Option Text) → find (has_name (45 ∷ 45 ∷ id)) words ≡ o
          → first_of id (fold with_default (map made words) (map rule_for t)) ≡ value_in (45 ∷ 45 ∷ id) words
      go None e =
          ap (option_and_then (λ (r : Row). slice_get r.values 0)) (no_default t id (map made words) none (row_found t id words all ∙ ap (option_map made) e))
          ∙ sym (ap (option_and_then value_of) e)
      go (Some w) e =
          ap (option_and_then (λ (r : Row). slice_get r.values 0)) (kept t id (map made words) (made w) (row_found t id words all ∙ ap (option_map made) e))
          ∙ option_value t id w none (found_in (has_name (45 ∷ 45 ∷ id)) (is_shaped t) words w e all) (found_passes (has_name (45 ∷ 45 ∷ id)) words w e)
          ∙ sym (ap (option_and_then value_of) e)

  -- a flag reads true just where its word is there
  pub flag_read : list_any (is_flag_of id) t ≡ true → list_any (is_option_of id) t ≡ false
      → one_of id (fold with_default (map made words) (map rule_for t)) ≡ Some (cond (is_given (45 ∷ 45 ∷ id) words) (codes "true") (codes "false"))
  flag_read there none = go (find (has_name (45 ∷ 45 ∷ id)) words) refl
    where
      go : (o : Option Text) → find (has_name (45 ∷ 45 ∷ id)) words ≡ o
          → one_of id (fold with_default (map made words) (map rule_for t)) ≡ Some (cond (is_given (45 ∷ 45 ∷ id) words) (codes "true") (codes "false"))
      go None e =
          ap (option_and_then row_text) (flag_default t id (map made words) there (row_found t id words all ∙ ap (option_map made) e))
          ∙ ap (λ b. Some (cond b (codes "true") (codes "false"))) (sym (ap is_some e) ∙ some_found (has_name (45 ∷ 45 ∷ id)) words)
      go (Some w) e =
          ap (option_and_then row_text) (kept t id (map made words) (made w) (row_found t id words all ∙ ap (option_map made) e))
          ∙ ap (λ v. Some (text_or_true v)) (flag_value t id w none (found_in (has_name (45 ∷ 45 ∷ id)) (is_shaped t) words w e all) (found_passes (has_name (45 ∷ 45 ∷ id)) words w e))
          ∙ ap (λ b. Some (cond b (codes "true") (codes "false"))) (sym (ap is_some e) ∙ some_found (has_name (45 ∷ 45 ∷ id)) words)
