-- clap's walk over all the words of a table.
use Rattle.std.proofs.Common.{◌≡◌, ◌∙◌, not, Bool, true, false, refl, sym, ap, ap₂, subst, List, [], ◌∷◌, ◌++◌, map, drop, append_assoc, fold}
use Rattle.std.specs.List.{list_all}
use Rattle.std.specs.Str.{bytes_eq}
use Rattle.std.proofs.lemmas.Bool.{and_parts, and_from, not-true, not_from_false, or_parts}
use Rattle.std.proofs.lemmas.List.{append-nil}
use Rattle.clap.specs.Walk.{Row, Rule, has_row, walked}
use Rattle.clap.specs.Simple.{Shape}
use Rattle.clap.specs.Takes.{turn_passes, use_passes, walk_passes}
use Rattle.sh_words.specs.Words.{Text, has_name, is_given, name_of, value_of, names_once}
use Rattle.sh_words.specs.Commands.{Entry, is_shaped}
use Rattle.sh_words.proofs.Steps.{Gives, Of, are_texts, at, bytes_eq_comm, gives, of_shaped, row_for, rule_for, turns, used_new, use_passes_new, values_with, walks}

abbrev pub id_of : Text → Text
id_of w = drop 2 (name_of w)

-- the row that a word makes
abbrev pub made : Text → Row
made w = row_for (id_of w) (value_of w)

abbrev pub is_new : List Row → Text → Bool
is_new rows w = not (has_row (id_of w) rows)

has_row_push : (id : Text) (rows : List Row) (r : Row) → has_row id rows ≡ false → bytes_eq r.id id ≡ false → has_row id (rows ++ r ∷ []) ≡ false
has_row_push id [] r none other = rw other refl
has_row_push id (x ∷ xs) r none other =
    let parts = or_parts (bytes_eq x.id id) (has_row id xs) none in
    rw parts.0 (has_row_push id xs r parts.1 other)

pub id_is : (t : List Entry) (w : Text) (e : Entry) → Of t w e → e.0 ≡ id_of w
id_is t w e of = sym (ap (drop 2) of.name)

pub name_is : (t : List Entry) (w : Text) → is_shaped t w ≡ true → name_of w ≡ 45 ∷ 45 ∷ id_of w
name_is t w shaped =
    let found = of_shaped t w shaped in
    found.1.name ∙ ap (λ (n : Text). 45 ∷ 45 ∷ n) (id_is t w found.0 found.1)

-- words of other names stay new
still_new : (t : List Entry) (w : Text) (rows : List Row) (ws : List Text) → is_shaped t w ≡ true → list_all (is_shaped t) ws ≡ true
    → list_all (is_new rows) ws ≡ true → is_given (name_of w) ws ≡ false → list_all (is_new (rows ++ made w ∷ [])) ws ≡ true
still_new t w rows [] shaped all fresh apart = refl
still_new t w rows (x ∷ xs) shaped all fresh apart =
    let shapes = and_parts (is_shaped t x) (list_all (is_shaped t) xs) all in
    let news = and_parts (is_new rows x) (list_all (is_new rows) xs) fresh in
    let names = or_parts (has_name (name_of w) x) (is_given (name_of w) xs) apart in
    let other : bytes_eq (id_of w) (id_of x) ≡ false =
    bytes_eq_comm (id_of w) (id_of x) ∙ sym (ap₂ bytes_eq (name_is t x shapes.0) (name_is t w shaped)) ∙ names.0 in
    and_from _ _ (not_from_false _ (has_row_push (id_of x) rows (made w) (not-true _ news.0) other)) (still_new t w rows xs shaped shapes.1 news.1 names.1)

module _ (t : List Entry) (texts : are_texts t ≡ true) where
  one_step : (w : Text) (rows : List Row) → is_shaped t w ≡ true → has_row (id_of w) rows ≡ false
      → walked (map rule_for t) [] (at rows) w ≡ at (rows ++ made w ∷ [])
  one_step w rows shaped none =
      let found = of_shaped t w shaped in
      let e = found.0 in
      let same = id_is t w e found.1 in
      walks (map rule_for t) w (rule_for e) (value_of w) rows (gives t w e texts found.1)
      ∙ ap at (used_new e (value_of w) rows found.1.fits (ap (λ id. has_row id rows) same ∙ none) ∙ ap (λ id. rows ++ row_for id (value_of w) ∷ []) same)

  one_passes : (s : Shape) (w : Text) (rows : List Row) → s.rules ≡ map rule_for t → s.args_override_self ≡ false → is_shaped t w ≡ true
      → has_row (id_of w) rows ≡ false → turn_passes s [] (at rows) w ≡ true
  one_passes s w rows rules again shaped none =
      let found = of_shaped t w shaped in
      let e = found.0 in
      let same = id_is t w e found.1 in
      let P : List Rule → Type 0 = λ c. Gives c w (rule_for e) (value_of w) in
      turns s w (rule_for e) (value_of w) rows (subst P (sym rules) (gives t w e texts found.1))
      ∙ ap (λ b. use_passes b (rule_for e) (values_with (value_of w)) rows) again
      ∙ use_passes_new e (value_of w) rows found.1.fits (ap (λ id. has_row id rows) same ∙ none)

  -- the walk leaves one row for each word
  pub walk_all : (rows : List Row) (words : List Text) → list_all (is_shaped t) words ≡ true → list_all (is_new rows) words ≡ true → names_once words ≡ true
      → fold (walked (map rule_for t) []) (at rows) words ≡ at (rows ++ map made words)
  walk_all rows [] all fresh once = ap at (sym (append-nil rows))
  walk_all rows (w ∷ ws) all fresh once =
      let shapes = and_parts (is_shaped t w) (list_all (is_shaped t) ws) all in
      let news = and_parts (is_new rows w) (list_all (is_new rows) ws) fresh in
      let names = and_parts (not (is_given (name_of w) ws)) (names_once ws) once in
      ap (λ z. fold (walked (map rule_for t) []) z ws) (one_step w rows shapes.0 (not-true _ news.0))
      ∙ walk_all (rows ++ made w ∷ []) ws shapes.1 (still_new t w rows ws shapes.0 shapes.1 news.1 (not-true _ names.0)) names.1
      ∙ ap at (append_assoc rows (made w ∷ []) (map made ws))

  -- and each word passes
  pub pass_all : (s : Shape) (rows : List Row) (words : List Text) → s.rules ≡ map rule_for t → s.args_override_self ≡ false
      → list_all (is_shaped t) words ≡ true → list_all (is_new rows) words ≡ true → names_once words ≡ true → walk_passes s [] (at rows) words ≡ true
  unfolding walk_passes
  pass_all s rows [] rules again all fresh once = refl
  pass_all s rows (w ∷ ws) rules again all fresh once =
      let shapes = and_parts (is_shaped t w) (list_all (is_shaped t) ws) all in
      let news = and_parts (is_new rows w) (list_all (is_new rows) ws) fresh in
      let names = and_parts (not (is_given (name_of w) ws)) (names_once ws) once in
      and_from _ _ (one_passes s w rows rules again shapes.0 (not-true _ news.0))
      (ap (λ z. walk_passes s [] z ws) (ap (λ c. walked c [] (at rows) w) rules ∙ one_step w rows shapes.0 (not-true _ news.0))
      ∙ pass_all s (rows ++ made w ∷ []) ws rules again shapes.1 (still_new t w rows ws shapes.0 shapes.1 news.1 (not-true _ names.0)) names.1)
