-- clap takes the accepted words of each tool, and its matches are what the words say.
use Rattle.std.proofs.Common.{◌≡◌, ◌∙◌, ◌&&◌, not, Bool, cond, true, false, refl, sym, ap, List, [], ◌∷◌, Option, Some, None, is_some, map, codes, option_map, fold}
use Rattle.std.specs.List.{find, list_all, list_any}
use Rattle.std.specs.Option.{option_map_or}
use Rattle.std.specs.Str.{bytes_eq}
use Rattle.std.proofs.lemmas.Bool.{and_parts, and_from, or_parts, true≢false}
use Rattle.std.specs.Prelude.{option_and_then}
use Rattle.std.proofs.lemmas.Slice.Eq.{bytes_eq-Decides}
use Rattle.clap.specs.declared.parser.matches.Found.{Found}
use Rattle.clap.specs.Matches.{first_value, one_text}
use Rattle.clap.specs.Walk.{Row, Rule, Walk, first_of, finished, nothing_held, one_of, rows_of, walked, with_default}
use Rattle.clap.specs.Simple.{Shape, built, is_simple, matches_of}
use Rattle.clap.specs.Takes.{default_passes, is_valid, level_passes, settle_passes, takes}
use Rattle.clap.proofs.TakesLemmas.{leaf_takes}
use Rattle.clap.proofs.WalkLemmas.{find-map, first_value-rows, one_text-rows}
use Rattle.clap.proofs.OnLiterals.{clap_on_literals}
use Rattle.sh_words.specs.declared.options.Tool.{Tool}
use Rattle.sh_words.specs.declared.options.Tool.TheVariants as tool
use Rattle.sh_words.specs.declared.acceptance.Form.{Form}
use Rattle.sh_words.specs.declared.acceptance.Form.TheVariants as form
use Rattle.sh_words.specs.Words.{Text, has_name, name_of, names_once, value_of, value_in, is_given}
use Rattle.sh_words.specs.Commands.{Entry, entries, entry_of, fits_entry, is_shaped, named_by, tool_app}
use Rattle.sh_words.specs.Tables.{accepts, agree, fits, form_named, forms, is_word, takes_value}
use Rattle.sh_words.proofs.Finds.{find_none}
use Rattle.sh_words.proofs.Steps.{are_texts, at, held_at, rule_for}
use Rattle.sh_words.proofs.Walked.{is_new, made, pass_all, walk_all}
use Rattle.sh_words.proofs.Found.{flag_read, is_flag_of, is_option_of, option_read}

-- nothing is there before the first word
all_new : (words : List Text) → list_all (is_new []) words ≡ true
all_new [] = refl
all_new (w ∷ ws) = all_new ws

-- ---- one level, whose arguments are those of a table

pub record Plain (s : Shape) (t : List Entry) : Type 0 where
  pub rules : s.rules ≡ map rule_for t
  pub again : s.args_override_self ≡ false
  pub texts : are_texts t ≡ true
  pub after : (rows : List Row) → (list_all default_passes s.rules && is_valid s rows false) ≡ true

pub level_takes : (s : Shape) (t : List Entry) (words : List Text) → Plain s t → list_all (is_shaped t) words ≡ true → names_once words ≡ true
    → level_passes s [] nothing_held words false ≡ true
level_takes s t words p all once =
    let left = λ (w : Walk). settle_passes s.rules s.args_override_self w.held && (list_all default_passes s.rules && is_valid s (finished s.rules w.held) false) in
    and_from _ _ (pass_all t p.texts s [] words p.rules p.again all (all_new words) once)
    (ap left (walked_to) ∙ p.after (finished s.rules (held_at (map made words))))
  where
    walked_to : fold (walked s.rules []) (at []) words ≡ at (map made words)
    walked_to = ap (λ (c : List Rule). fold (walked c []) (at []) words) p.rules ∙ walk_all t p.texts [] words all (all_new words) once

-- ---- the words of a tool

fit : (f : Form) (value : Option Text) → fits f value ≡ true → cond (takes_value f) (is_some value) (not (is_some value)) ≡ true
fit form.Flag None e = refl
fit form.Flag (Some v) e = cc
fit f None e = e
fit form.Traversal (Some v) e = refl
fit form.Order (Some v) e = refl
fit form.Turns (Some v) e = refl
fit form.Decimal (Some v) e = refl
fit form.Size (Some v) e = refl

shaped : (w : Text) (fs : List (Text × Form)) → option_map_or (λ f. fits f (value_of w)) (option_map (λ f. f.1) (find (λ f. bytes_eq (name_of w) (45 ∷ 45 ∷ f.0)) fs)) false ≡ true
    → is_shaped (map entry_of fs) w ≡ true
shaped w fs h = ap (λ o. option_map_or (fits_entry w) o false) (sym (find-map (named_by w) entry_of fs)) ∙ go (find (λ f. bytes_eq (name_of w) (45 ∷ 45 ∷ f.0)) fs) h
  where
    go : (o : Option (Text × Form)) → option_map_or (λ f. fits f (value_of w)) (option_map (λ f. f.1) o) false ≡ true → option_map_or (fits_entry w) (option_map entry_of o) false ≡ true
    go None e = cc
    go (Some f) e = fit f.1 (value_of w) e

all_shaped : (t : Tool) (words : List Text) → list_all (is_word t) words ≡ true → list_all (is_shaped (entries t)) words ≡ true
all_shaped t [] e = refl
all_shaped t (w ∷ ws) e =
    let parts = and_parts (is_word t w) (list_all (is_word t) ws) e in
    and_from _ _ (shaped w (forms t) parts.0) (all_shaped t ws parts.1)

plain : (t : Tool) → Plain (built (tool_app t)).top (entries t)
plain tool.Opt = record { rules = refl; again = refl; texts = refl; after = λ rows. refl }
plain tool.Run = record { rules = refl; again = refl; texts = refl; after = λ rows. refl }

pub simple_app : (t : Tool) → is_simple (tool_app t) ≡ true
unfolding clap_on_literals
simple_app tool.Opt = refl
simple_app tool.Run = refl

pub record Words (t : Tool) (words : List Text) : Type 0 where
  pub all : list_all (is_word t) words ≡ true
  pub once : names_once words ≡ true
  pub agreed : agree words ≡ true

pub words_of : (t : Tool) (words : List Text) → accepts t words ≡ true → Words t words
words_of t words e =
    let p = and_parts (list_all (is_word t) words) (names_once words && agree words) e in
    let q = and_parts (names_once words) (agree words) p.1 in
    record { all = p.0; once = q.0; agreed = q.1 }

-- clap fails on accepted words for want of memory alone
pub takes_accepted : (t : Tool) (words : List Text) → accepts t words ≡ true → takes (tool_app t) words ≡ true
takes_accepted t words e =
    let p = words_of t words e in
    go t (level_takes (built (tool_app t)).top (entries t) words (plain t) (all_shaped t words p.all) p.once)
  where
    go : (k : Tool) → level_passes (built (tool_app k)).top [] nothing_held words false ≡ true → takes (tool_app k) words ≡ true
    go tool.Opt h = leaf_takes (built (tool_app tool.Opt)) nothing_held words refl h
    go tool.Run h = leaf_takes (built (tool_app tool.Run)) nothing_held words refl h

-- ---- what clap's matches say

pub rows_accepted : (t : Tool) (words : List Text) → accepts t words ≡ true
    → matches_of (tool_app t) words ≡ fold with_default (map made words) (map rule_for (entries t))
rows_accepted t words e =
    let p = words_of t words e in
    go t (walk_all (entries t) (plain t).texts [] words (all_shaped t words p.all) (all_new words) p.once)
  where
    go : (k : Tool) → fold (walked (map rule_for (entries k)) []) (at []) words ≡ at (map made words)
        → matches_of (tool_app k) words ≡ fold with_default (map made words) (map rule_for (entries k))
    go tool.Opt h = ap (λ (w : Walk). finished (map rule_for (entries tool.Opt)) w.held) h
    go tool.Run h = ap (λ (w : Walk). finished (map rule_for (entries tool.Run)) w.held) h

-- what the getters read, where the matches are clap's for the words
module _ (t : Tool) (id : Text) (words : List Text) (accepted : accepts t words ≡ true) (f : Found) (rows : rows_of f ≡ matches_of (tool_app t) words) where
  pub flag_text : list_any (is_flag_of id) (entries t) ≡ true → list_any (is_option_of id) (entries t) ≡ false
      → one_text f id ≡ Some (cond (is_given (45 ∷ 45 ∷ id) words) (codes "true") (codes "false"))
  flag_text there none =
      one_text-rows f id ∙ ap (one_of id) (rows ∙ rows_accepted t words accepted)
      ∙ flag_read (entries t) id words (all_shaped t words (words_of t words accepted).all) there none

  pub option_text : list_any (is_flag_of id) (entries t) ≡ false → first_value f id ≡ value_in (45 ∷ 45 ∷ id) words
  option_text none =
      first_value-rows f id ∙ ap (first_of id) (rows ∙ rows_accepted t words accepted)
      ∙ option_read (entries t) id words (all_shaped t words (words_of t words accepted).all) none

-- what a flag's getter gives
pub flag_is : (given : Bool) (r : Bool) (o : Option Text) → o ≡ Some (cond given (codes "true") (codes "false"))
    → (o ≡ Some (codes "true") → r ≡ true) → (o ≡ Some (codes "false") → r ≡ false) → r ≡ given
flag_is true r o e on off = on e
flag_is false r o e on off = off e

-- ---- names of the other tool

abbrev pub is_of : Text → Text × Form → Bool
is_of name f = bytes_eq name (45 ∷ 45 ∷ f.0)

not_named : (t : Tool) (name w : Text) → list_any (is_of name) (forms t) ≡ false → is_word t w ≡ true → has_name name w ≡ false
not_named t name w none word = go (has_name name w) refl
  where
    go : (b : Bool) → has_name name w ≡ b → has_name name w ≡ false
    go false e = e
    go true e =
        let same : name_of w ≡ name = (bytes_eq-Decides (name_of w) name).0 e in
        let nothing : form_named t (name_of w) ≡ None = ap (form_named t) same ∙ ap (option_map (λ (f : Text × Form). f.1)) (find_none (is_of name) (forms t) none) in
        absurd (true≢false (sym word ∙ ap (λ o. option_map_or (λ f. fits f (value_of w)) o false) nothing))

pub not_given : (t : Tool) (name : Text) (words : List Text) → list_any (is_of name) (forms t) ≡ false → list_all (is_word t) words ≡ true → is_given name words ≡ false
not_given t name [] none all = refl
not_given t name (w ∷ ws) none all =
    let parts = and_parts (is_word t w) (list_all (is_word t) ws) all in
    rw (not_named t name w none parts.0) (not_given t name ws none parts.1)

pub no_value : (t : Tool) (name : Text) (words : List Text) → list_any (is_of name) (forms t) ≡ false → list_all (is_word t) words ≡ true → value_in name words ≡ None
no_value t name words none all = ap (option_and_then value_of) (find_none (has_name name) words (not_given t name words none all))
