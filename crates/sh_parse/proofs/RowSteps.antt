-- Rows of parts, as they are made from the last step to the first.
use Rattle.std.proofs.Common.{◌≡◌, ◌≤◌, ℕ, zero, suc, ◌+◌, List, [], ◌∷◌, ◌++◌, length, take, drop, refl, sym, ◌∙◌, ap, subst, append_assoc, length-append, arith}
use Rattle.std.specs.Prelude.{Result, Ok, Err, IfOk, IsOk}
use Rattle.sh_base.specs.declared.memory.Mem.{Mem}
use Rattle.sh_build.specs.Building.{AreSized, made_of, parts_by}
use Rattle.sh_build.specs.Sizes.{size_of}
use Rattle.sh_build.specs.declared.parts.Alias.{Alias}
use Rattle.sh_build.specs.declared.parts.Part.{Part}
use Rattle.sh_grammar.specs.Lexemes.{lexeme_of, lexemes}
use Rattle.sh_grammar.specs.declared.forms.Form.{Form}
use Rattle.sh_grammar.specs.declared.symbols.Event.{Event}
use Rattle.sh_grammar.specs.declared.symbols.Event.TheVariants.{Took, Opened}
use Rattle.sh_lex.specs.declared.tokens.Token.{Token}
use Rattle.sh_names.specs.Tables.{AreWithin, tooks}
use Rattle.sh_parse.specs.Leaves.{AreMapsOf, IsRowTo}
use Rattle.sh_parse.specs.Reads.{leaf, leaves}
use Rattle.sh_parse.specs.declared.maps.Maps.{Maps}

pub tooks_append : (es fs : List Event) → tooks (es ++ fs) ≡ tooks es + tooks fs
tooks_append [] fs = omega arith
tooks_append (Took ∷ es) fs = let e = tooks_append es fs in omega arith
tooks_append (Opened n i k ∷ es) fs = tooks_append es fs

sized_last : (es fs : List Event) (n : Form) (i k : ℕ) → AreSized (es ++ Opened n i k ∷ fs) → k ≡ size_of n i
sized_last [] fs n i k h = h.0
sized_last (Took ∷ es) fs n i k h = sized_last es fs n i k h
sized_last (Opened m j l ∷ es) fs n i k h = sized_last es fs n i k h.1

pub within_front : (text : List ℕ) (ts us : List Token) → AreWithin text (ts ++ us) → AreWithin text ts
within_front text [] us h = tt
within_front text (t ∷ ts) us h = (h.0, within_front text ts us h.1)

within_last : (text : List ℕ) (ts : List Token) (t : Token) → AreWithin text (ts ++ t ∷ [])
    → (t.start ≤ t.end) × (t.end ≤ length text)
within_last text [] t h = h.0
within_last text (u ∷ ts) t h = within_last text ts t h.1

pub lexemes_append : (text : List ℕ) (ts us : List Token) → lexemes text (ts ++ us) ≡ lexemes text ts ++ lexemes text us
lexemes_append text [] us = refl
lexemes_append text (t ∷ ts) us = ap (λ ls. lexeme_of text t ∷ ls) (lexemes_append text ts us)

some_left : (es : List Event) (ts : List Token) → tooks (es ++ Took ∷ []) ≡ length ts → length ts ≡ 0 → ⊥
some_left es ts e f = let g = tooks_append es (Took ∷ []) in omega arith

module _ (text : List ℕ) (tokens : List Token) (ids : List ℕ) (maps : Maps) (events : List Event) (row : List Part)
    (es : List Event) (ts : List Token) (ns : List ℕ) (h : IsRowTo text tokens ids maps events row es ts ns) where
  -- all steps are taken
  pub row_made : length es ≡ 0 → (aliases : List Alias) → AreMapsOf maps aliases
      → row ≡ parts_by events (leaves aliases (lexemes text tokens) ids) []
  row_made none aliases known =
      ended es ts ns none h.counted h.paired h.steps h.lexed h.named
    where
      ended : (xs : List Event) (us : List Token) (ms : List ℕ) → length xs ≡ 0 → tooks xs ≡ length us → length ms ≡ length us
          → xs ++ h.behind ≡ events → lexemes text us ++ h.later ≡ lexemes text tokens → ms ++ h.numbers ≡ ids
          → row ≡ parts_by events (leaves aliases (lexemes text tokens) ids) []
      ended (x ∷ xs) us ms e f g a b d = cc
      ended [] (u ∷ us) ms e f g a b d = cc
      ended [] [] (m ∷ ms) e f g a b d = cc
      ended [] [] [] e f g a b d = h.made aliases known ∙ rw (a, b, d) refl

  module _ (front : List Event) (ev : Event) (e : es ≡ front ++ ev ∷ []) where
    all : front ++ (ev ∷ h.behind) ≡ events
    all = sym (append_assoc front (ev ∷ []) h.behind) ∙ ap (λ xs. xs ++ h.behind) (sym e) ∙ h.steps

    pub its_size : (n : Form) (i k : ℕ) → ev ≡ Opened n i k → AreSized events → k ≡ size_of n i
    its_size n i k is sized =
        sized_last front h.behind n i k (subst AreSized (sym (ap (λ x. front ++ (x ∷ h.behind)) (sym is) ∙ all)) sized)

    pub row_opened : (n : Form) (i k : ℕ) (new : List Part) → ev ≡ Opened n i k → new ≡ made_of (Opened n i k) row
        → IsRowTo text tokens ids maps events new front ts ns
    row_opened n i k new is made = record {
      behind = Opened n i k ∷ h.behind;
      later = h.later;
      numbers = h.numbers;
      steps = ap (λ x. front ++ (x ∷ h.behind)) (sym is) ∙ all;
      lexed = h.lexed;
      named = h.named;
      counted =
          let a = tooks_append front (Opened n i k ∷ []) in
          let b : tooks es ≡ tooks (front ++ Opened n i k ∷ []) = ap tooks e ∙ ap (λ x. tooks (front ++ x ∷ [])) is in
          let d = h.counted in
          omega arith;
      paired = h.paired;
      within = h.within;
      made = λ aliases known. made ∙ ap (made_of (Opened n i k)) (h.made aliases known);
    }

    module _ (took : ev ≡ Took) where
      count : tooks es ≡ tooks front + 1
      count = ap tooks e ∙ ap (λ x. tooks (front ++ x ∷ [])) took ∙ tooks_append front (Took ∷ [])

      pub token_left : length ts ≡ 0 → ⊥
      token_left none = let a = count in let b = h.counted in omega arith

      pub number_left : length ns ≡ 0 → ⊥
      number_left none = let a = count in let b = h.counted in let d = h.paired in omega arith

      module _ (before : List Token) (t : Token) (earlier : List ℕ) (id : ℕ) (f : ts ≡ before ++ t ∷ []) (g : ns ≡ earlier ++ id ∷ []) where
        pub its_span : (t.start ≤ t.end) × (t.end ≤ length text)
        its_span = within_last text before t (subst (AreWithin text) f h.within)

        pub row_took : (part : Part) (new : List Part) → new ≡ part ∷ row
            → ((aliases : List Alias) → AreMapsOf maps aliases → part ≡ leaf aliases (lexeme_of text t) id)
            → IsRowTo text tokens ids maps events new front before earlier
        row_took part new put stands = record {
          behind = Took ∷ h.behind;
          later = lexeme_of text t ∷ h.later;
          numbers = id ∷ h.numbers;
          steps = ap (λ x. front ++ (x ∷ h.behind)) (sym took) ∙ all;
          lexed =
              sym (append_assoc (lexemes text before) (lexeme_of text t ∷ []) h.later)
              ∙ ap (λ xs. xs ++ h.later) (sym (lexemes_append text before (t ∷ [])) ∙ ap (lexemes text) (sym f)) ∙ h.lexed;
          named = sym (append_assoc earlier (id ∷ []) h.numbers) ∙ ap (λ xs. xs ++ h.numbers) (sym g) ∙ h.named;
          counted =
              let a = count in let b = h.counted in let d = ap length f in let i = length-append before (t ∷ []) in
              omega arith;
          paired =
              let a = h.paired in let b = ap length g in let d = length-append earlier (id ∷ []) in
              let i = ap length f in let j = length-append before (t ∷ []) in
              omega arith;
          within = within_front text before (t ∷ []) (subst (AreWithin text) f h.within);
          made = λ aliases known.
              put ∙ ap (λ p. p ∷ row) (stands aliases known)
              ∙ ap (λ r. leaf aliases (lexeme_of text t) id ∷ r) (h.made aliases known);
        }

pub record Put (P Q : Part → Type 0) : Type 0 where
  pub part : Part
  pub put : P part
  pub stands : Q part

pub part_put : {P Q : Part → Type 0} (r : Result Part Mem) → IsOk r → IfOk r P → IfOk r Q → Put P Q
part_put (Ok part) ok p q = record { part = part; put = p; stands = q }
part_put (Err e) ok p q = cc

-- ## Fronts

sized_front : (n : ℕ) (es : List Event) → AreSized es → AreSized (take n es)
sized_front zero es h = tt
sized_front (suc n) [] h = tt
sized_front (suc n) (Took ∷ es) h = sized_front n es h
sized_front (suc n) (Opened m i k ∷ es) h = (h.0, sized_front n es h.1)

pub head_sized : (n : ℕ) (es : List Event) → AreSized es → AreSized (take n (drop 1 es))
head_sized zero [] h = tt
head_sized (suc n) [] h = tt
head_sized n (Took ∷ es) h = sized_front n es h
head_sized n (Opened m i k ∷ es) h = sized_front n es h.1

tooks_front : (n : ℕ) (es : List Event) → tooks (take n es) ≤ tooks es
tooks_front zero es = omega arith
tooks_front (suc n) [] = omega arith
tooks_front (suc n) (Took ∷ es) = let h = tooks_front n es in omega arith
tooks_front (suc n) (Opened m i k ∷ es) = tooks_front n es

pub head_tooks : (n : ℕ) (es : List Event) → tooks (take n (drop 1 es)) ≤ tooks es
head_tooks zero es = omega arith
head_tooks (suc n) [] = omega arith
head_tooks (suc n) (Took ∷ es) = let h = tooks_front (suc n) es in omega arith
head_tooks (suc n) (Opened m i k ∷ es) = tooks_front (suc n) es

pub within_taken : (text : List ℕ) (n : ℕ) (ts : List Token) → AreWithin text ts → AreWithin text (take n ts)
within_taken text zero ts h = tt
within_taken text (suc n) [] h = tt
within_taken text (suc n) (t ∷ ts) h = (h.0, within_taken text n ts h.1)

-- the parts of some steps hold no more than their tokens
pub parts_front : (text : List ℕ) (aliases : List Alias) (es : List Event) (ts : List Token) (ns : List ℕ) (ps : List Part)
    → parts_by es (leaves aliases (lexemes text (take (tooks es) ts)) (take (tooks es) ns)) ps
    ≡ parts_by es (leaves aliases (lexemes text ts) ns) ps
parts_front text aliases [] ts ns ps = refl
parts_front text aliases (Took ∷ es) [] ns ps = refl
parts_front text aliases (Took ∷ es) (t ∷ ts) [] ps = refl
parts_front text aliases (Took ∷ es) (t ∷ ts) (n ∷ ns) ps =
    ap (λ r. leaf aliases (lexeme_of text t) n ∷ r) (parts_front text aliases es ts ns ps)
parts_front text aliases (Opened m i k ∷ es) ts ns ps = ap (made_of (Opened m i k)) (parts_front text aliases es ts ns ps)
