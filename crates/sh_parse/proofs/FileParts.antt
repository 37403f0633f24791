-- What a file stands for is what is made from its steps.
use Rattle.std.proofs.Common.{◌≡◌, ℕ, zero, suc, ◌+◌, List, [], ◌∷◌, ◌++◌, Bool, true, false, nat_eq, map, length, take, drop, slice_get, Some, refl, sym, ◌∙◌, ap, subst, append_assoc, length-append, arith, if◌then◌else◌}
use Rattle.std.specs.List.{prefix_len}
use Rattle.std.proofs.lemmas.List.{append-nil}
use Rattle.std.proofs.lemmas.Option.{same_Some}
use Rattle.sh_build.specs.Building.{AreSized, parts_by}
use Rattle.sh_build.specs.Meaning.{made}
use Rattle.sh_build.specs.Readings.{aliases_in}
use Rattle.sh_build.specs.Rows.{first_part}
use Rattle.sh_build.specs.declared.parts.Part.{Part}
use Rattle.sh_build.specs.declared.parts.Part.TheVariants as part
use Rattle.sh_grammar.specs.Grammar.{IsAlternative, Spells, is_nothing, is_token, is_form, Trees, nothing, token, form, events, size, tokens}
use Rattle.sh_grammar.specs.Language.{IsFile, language, the_text}
use Rattle.sh_grammar.specs.Lexemes.{Lexeme, lexemes, words}
use Rattle.sh_grammar.specs.declared.forms.Form.{Form}
use Rattle.sh_grammar.specs.declared.forms.Form.TheVariants.{File, Aliases, Contents, Alias, Hash, Map, Names, MoreNames, Name}
use Rattle.sh_grammar.specs.declared.symbols.Event.{Event}
use Rattle.sh_grammar.specs.declared.symbols.Event.TheVariants.{Took, Opened}
use Rattle.sh_grammar.specs.declared.symbols.Symbol.{Symbol}
use Rattle.sh_grammar.specs.declared.symbols.Symbol.TheVariants.{Class, Part as PartOf}
use Rattle.sh_ir.specs.declared.modules.Module.{Module}
use Rattle.sh_lex.specs.declared.tokens.Token.{Token}
use Rattle.sh_names.specs.Tables.{tooks}
use Rattle.sh_parse.specs.Answers.{IsFileBy, aliases_by, head_in, is_before, part_by}
use Rattle.sh_parse.specs.Reads.{aliases_of, file_parts, leaves, parts_of}
use Rattle.sh_parse.proofs.Backwards.{parts_by-parts_of, parts_counted}
use Rattle.sh_parse.proofs.RowSteps.{tooks_append}

-- ## The aliases hold no contents

-- the forms that stand among aliases
data IsHead : Form → Type 0 where
  aliases : IsHead Aliases
  alias : IsHead Alias
  hash : IsHead Hash
  map_form : IsHead Map
  names : IsHead Names
  more_names : IsHead MoreNames
  name : IsHead Name

AllHeads : List Symbol → Type 0
AllHeads [] = Unit {0}
AllHeads (Class c ∷ α) = AllHeads α
AllHeads (PartOf n ∷ α) = IsHead n × AllHeads α

by_words : (texts : List (List ℕ)) (i : ℕ) (body : List Symbol)
    → slice_get (map (λ text. the_text text ∷ []) texts) i ≡ Some body → AllHeads body
unfolding AllHeads
by_words [] i body e = cc
by_words (text ∷ texts) zero body e = subst AllHeads (same_Some (the_text text ∷ []) body e) tt
by_words (text ∷ texts) (suc i) body e = by_words texts i body e

heads_within : {n : Form} → IsHead n → (i : ℕ) (body : List Symbol) → IsAlternative language n i body → AllHeads body
unfolding AllHeads
heads_within aliases zero body e = subst AllHeads (same_Some _ body e) tt
heads_within aliases (suc zero) body e = subst AllHeads (same_Some _ body e) (alias, (aliases, tt))
heads_within aliases (suc (suc i)) body e = cc
heads_within alias zero body e = subst AllHeads (same_Some _ body e) (hash, (map_form, tt))
heads_within alias (suc i) body e = cc
heads_within hash zero body e = subst AllHeads (same_Some _ body e) tt
heads_within hash (suc zero) body e = subst AllHeads (same_Some _ body e) tt
heads_within hash (suc (suc i)) body e = cc
heads_within map_form zero body e = subst AllHeads (same_Some _ body e) (names, (names, tt))
heads_within map_form (suc i) body e = cc
heads_within names zero body e = subst AllHeads (same_Some _ body e) tt
heads_within names (suc zero) body e = subst AllHeads (same_Some _ body e) (name, (more_names, tt))
heads_within names (suc (suc i)) body e = cc
heads_within more_names zero body e = subst AllHeads (same_Some _ body e) tt
heads_within more_names (suc zero) body e = subst AllHeads (same_Some _ body e) (name, (more_names, tt))
heads_within more_names (suc (suc i)) body e = cc
heads_within name zero body e = subst AllHeads (same_Some _ body e) tt
heads_within name (suc i) body e = by_words words i body e

pub AllBefore : List Event → Type 0
AllBefore [] = Unit {0}
AllBefore (e ∷ es) = (is_before e ≡ true) × AllBefore es

before_append : (es fs : List Event) → AllBefore es → AllBefore fs → AllBefore (es ++ fs)
unfolding AllBefore
before_append [] fs h k = k
before_append (e ∷ es) fs h k = (h.0, before_append es fs h.1 k)

head_before : {n : Form} → IsHead n → (i k : ℕ) → is_before (Opened n i k) ≡ true
head_before aliases i k = refl
head_before alias i k = refl
head_before hash i k = refl
head_before map_form i k = refl
head_before names i k = refl
head_before more_names i k = refl
head_before name i k = refl

spelled_before : {α : List Symbol} {f : Trees} → Spells language α f → AllHeads α → AllBefore (events f)
unfolding AllHeads AllBefore
spelled_before is_nothing h = tt
spelled_before (is_token k s) h = (refl, spelled_before s h)
spelled_before (is_form {n = n} {i = i} {body = body} {below = below} {behind = behind} at s t) h =
    (head_before h.0 i (size below), before_append (events below) (events behind) (spelled_before s (heads_within h.0 i body at)) (spelled_before t h.1))

one_plus : (n : ℕ) → 1 + n ≡ suc n
one_plus n = omega arith

-- the front up to the contents
front_before : (es fs : List Event) (i k : ℕ) → AllBefore es
    → take (prefix_len is_before (es ++ Opened Contents i k ∷ fs)) (es ++ Opened Contents i k ∷ fs) ≡ es
unfolding AllBefore
front_before [] fs i k h = refl
front_before (e ∷ es) fs i k h =
    rw (h.0, one_plus (prefix_len is_before (es ++ Opened Contents i k ∷ fs)))
    (ap (λ xs. e ∷ xs) (front_before es fs i k h.1))

-- ## The shape of a file

pub record Shape (f : Trees) : Type 0 where
  pub i : ℕ
  pub j : ℕ
  pub k : ℕ
  pub heads : Trees
  pub inner : Trees
  pub behind : Trees
  pub is : f ≡ form File i (form Aliases j heads (form Contents k inner nothing)) behind
  pub before : AllBefore (events heads)

two : {f : Trees} → Spells language (PartOf Aliases ∷ PartOf Contents ∷ []) f → (i : ℕ) (behind : Trees) → Shape (form File i f behind)
unfolding AllBefore
two (is_form {i = j} {body = body} {below = heads} at s (is_form {i = k} {below = inner} at' s' is_nothing)) i behind = record {
  i = i;
  j = j;
  k = k;
  heads = heads;
  inner = inner;
  behind = behind;
  is = refl;
  before = spelled_before s (heads_within aliases j body at);
}

shaped : {α : List Symbol} {f : Trees} → Spells language (PartOf File ∷ α) f → Shape f
shaped (is_form {i = zero} {body = body} {below = below} {behind = behind} at s t) =
    two (subst (λ row. Spells language row below) (sym (same_Some _ body at)) s) zero behind
shaped (is_form {i = suc i} at s t) = cc

pub shape_of : (ts : List Lexeme) (f : Trees) → IsFile ts f → Shape f
shape_of ts f file = shaped file.0

-- the steps before the contents are those of the aliases
head_of : (f : Trees) (s : Shape f) → head_in (events f) ≡ events (form Aliases s.j s.heads nothing)
unfolding AllBefore
head_of f s =
    let all : drop 1 (events f) ≡ (Opened Aliases s.j (size s.heads) ∷ events s.heads) ++ Opened Contents s.k (size s.inner) ∷ ((events s.inner ++ []) ++ events s.behind) =
    ap (λ x. drop 1 (events x)) s.is
    ∙ ap (λ x. Opened Aliases s.j (size s.heads) ∷ x) (append_assoc (events s.heads) (Opened Contents s.k (size s.inner) ∷ (events s.inner ++ [])) (events s.behind)) in
    ap (λ es. take (prefix_len is_before es) es) all
    ∙ front_before (Opened Aliases s.j (size s.heads) ∷ events s.heads) ((events s.inner ++ []) ++ events s.behind) s.k (size s.inner) (refl, s.before)
    ∙ ap (λ x. Opened Aliases s.j (size s.heads) ∷ x) (sym (append-nil (events s.heads)))

-- ## What it stands for

-- the parts that are made from all steps
all_made : (f : Trees) (ls : List Part) → parts_by (events f) ls [] ≡ parts_of ls f
all_made f ls =
    ap (λ es. parts_by es ls []) (sym (append-nil (events f))) ∙ parts_by-parts_of f [] ls [] ∙ append-nil (parts_of ls f)

same_aliases : (ts : List Lexeme) (ids : List ℕ) (f : Trees) (s : Shape f) → aliases_by ts ids (events f) ≡ aliases_of (leaves [] ts ids) f
same_aliases ts ids f s =
    ap (λ es. aliases_in (first_part (parts_by es (leaves [] ts ids) []))) (head_of f s)
    ∙ ap (λ ps. aliases_in (first_part ps)) (all_made (form Aliases s.j s.heads nothing) (leaves [] ts ids))
    ∙ ap (aliases_of (leaves [] ts ids)) (sym s.is)

pub file_made : (ts us : List Lexeme) (ids : List ℕ) (f : Trees) → IsFile us f → part_by ts ids (events f) ≡ first_part (file_parts ts ids f)
file_made ts us ids f file =
    ap (λ al. first_part (parts_by (events f) (leaves al ts ids) [])) (same_aliases ts ids f (shape_of us f file))
    ∙ ap first_part (all_made f (leaves (aliases_of (leaves [] ts ids) f) ts ids))

pub tooks_tokens : (f : Trees) → tooks (events f) ≡ length (tokens f)
tooks_tokens nothing = refl
tooks_tokens (token t behind) = ap suc (tooks_tokens behind)
tooks_tokens (form n i below behind) =
    tooks_append (events below) (events behind)
    ∙ ap (λ n. n + tooks (events behind)) (tooks_tokens below) ∙ ap (λ n. length (tokens below) + n) (tooks_tokens behind)
    ∙ sym (length-append (tokens below) (tokens behind))

-- ## It is a module

pub record IsModule (p : Part) : Type 0 where
  pub it : Module
  pub is : p ≡ part.Module it

other : (b : Bool) (n : ℕ) → (n ≡ 5 → ⊥) → (n ≡ 1 → ⊥) → n ≡ (if b then 5 else 1) → ⊥
other true n five one e = five e
other false n five one e = one e

more : (b : Bool) (n : ℕ) → suc (suc (suc (suc (suc (suc n))))) ≡ (if b then 5 else 1) → ⊥
more true n e = omega arith
more false n e = omega arith

contents_module : (k : ℕ) (xs : List Part) → length xs ≡ (if nat_eq k 0 then 5 else 1) → IsModule (made Contents k xs)
unfolding made
contents_module k xs e = by (nat_eq k 0) xs e
  where
    by : (b : Bool) (xs : List Part) → length xs ≡ (if b then 5 else 1) → IsModule (made Contents k xs)
    by b [] e = absurd (other b 0 (λ h. omega arith) (λ h. omega arith) e)
    by b (x ∷ []) e = record { it = _; is = refl }
    by b (x ∷ y ∷ []) e = absurd (other b 2 (λ h. omega arith) (λ h. omega arith) e)
    by b (x ∷ y ∷ z ∷ []) e = absurd (other b 3 (λ h. omega arith) (λ h. omega arith) e)
    by b (x ∷ y ∷ z ∷ u ∷ []) e = absurd (other b 4 (λ h. omega arith) (λ h. omega arith) e)
    by b (x ∷ y ∷ z ∷ u ∷ v ∷ []) e = record { it = _; is = refl }
    by b (x ∷ y ∷ z ∷ u ∷ v ∷ w ∷ xs) e = absurd (more b (length xs) e)

sized_tail : (es fs : List Event) → AreSized (es ++ fs) → AreSized fs
sized_tail [] fs h = h
sized_tail (Took ∷ es) fs h = sized_tail es fs h
sized_tail (Opened n i k ∷ es) fs h = sized_tail es fs h.1

inner_sized : (f : Trees) (s : Shape f) → AreSized (events f) → size s.inner ≡ (if nat_eq s.k 0 then 5 else 1)
inner_sized f s sized =
    let all : AreSized (events (form File s.i (form Aliases s.j s.heads (form Contents s.k s.inner nothing)) s.behind)) =
    subst (λ x. AreSized (events x)) s.is sized in
    let rest : AreSized (events s.heads ++ ((Opened Contents s.k (size s.inner) ∷ (events s.inner ++ [])) ++ events s.behind)) =
    subst AreSized (append_assoc (events s.heads) (Opened Contents s.k (size s.inner) ∷ (events s.inner ++ [])) (events s.behind)) all.1.1 in
    (sized_tail (events s.heads) ((Opened Contents s.k (size s.inner) ∷ (events s.inner ++ [])) ++ events s.behind) rest).0

pub stands_for_module : (ts us : List Lexeme) (ids : List ℕ) (f : Trees) → IsFile us f → AreSized (events f)
    → IsModule (part_by ts ids (events f))
unfolding made
stands_for_module ts us ids f file sized =
    let s = shape_of us f file in
    let ls = leaves (aliases_of (leaves [] ts ids) f) ts ids in
    let contents = contents_module s.k (parts_of (drop (length (tokens s.heads)) ls) s.inner)
    (parts_counted (drop (length (tokens s.heads)) ls) s.inner ∙ inner_sized f s sized) in
    record {
      it = contents.it;
      is =
          file_made ts us ids f file
          ∙ ap (λ x. first_part (parts_of ls x)) s.is
          ∙ contents.is;
    }

-- ## Files by their steps

length_lexemes : (text : List ℕ) (ts : List Token) → length (lexemes text ts) ≡ length ts
length_lexemes text [] = refl
length_lexemes text (t ∷ ts) = ap suc (length_lexemes text ts)

pub by_tooks : (text : List ℕ) (ts : List Token) (es : List Event) → IsFileBy (lexemes text ts) es → tooks es ≡ length ts
by_tooks text ts es h =
    ap tooks (sym h.takes) ∙ tooks_tokens h.trees ∙ ap length h.file.1 ∙ length_lexemes text ts

pub by_sized : ((ts : List Lexeme) (f : Trees) → IsFile ts f → AreSized (events f)) → (ts : List Lexeme) (es : List Event) → IsFileBy ts es
    → AreSized es
by_sized law ts es h = subst AreSized h.takes (law ts h.trees h.file)

pub by_module : ((ts : List Lexeme) (f : Trees) → IsFile ts f → AreSized (events f)) → (ts : List Lexeme) (ids : List ℕ) (es : List Event)
    → IsFileBy ts es → IsModule (part_by ts ids es)
by_module law ts ids es h =
    subst (λ x. IsModule (part_by ts ids x)) h.takes (stands_for_module ts ts ids h.trees h.file (law ts h.trees h.file))
