-- Where a text is refused, computed: the machine of the grammar, run over tokens, and what its stops mean.
use Rattle.std.proofs.Common.{◌≡◌, ◌∙◌, ℕ, zero, suc, Bool, true, false, cond, nat_eq, List, [], ◌∷◌, ◌++◌, length, take, Option, Some, None, refl, ap, sym, subst, inl, inr, arith, append_assoc}
use Rattle.std.specs.Prelude.{slice_get}
use Rattle.std.proofs.lemmas.Bool.{eqb-false, eqb-true}
use Rattle.sh_base.specs.declared.rules.Rule.{Rule}
use Rattle.sh_base.specs.declared.rules.Rule.TheVariants.{P1}
use Rattle.sh_grammar.specs.Answer.{HasCode}
use Rattle.sh_grammar.specs.Grammar.{after, events}
use Rattle.sh_grammar.specs.Laid.{the_choices, the_rows}
use Rattle.sh_grammar.specs.Language.{language, text_of_file}
use Rattle.sh_grammar.specs.LeftOut.{rule_of}
use Rattle.sh_grammar.specs.Lexemes.{Lexeme, class_of}
use Rattle.sh_grammar.specs.Machine.{IsApt, IsMoved, IsOpened, IsStuck}
use Rattle.sh_grammar.specs.Predictive.{choice, may_begin_operation}
use Rattle.sh_grammar.specs.Views.{pieces}
use Rattle.sh_grammar.specs.declared.forms.Form.TheVariants.{File}
use Rattle.sh_grammar.specs.declared.symbols.Event.{Event}
use Rattle.sh_grammar.specs.declared.symbols.Event.TheVariants.{Took, Opened}
use Rattle.sh_grammar.specs.declared.symbols.Symbol.{Symbol}
use Rattle.sh_grammar.specs.declared.symbols.Symbol.TheVariants.{Class, Part}
use Rattle.sh_grammar.proofs.Answered.{known, moved_none, refuses_here}
use Rattle.sh_grammar.proofs.Ends.{apt_spellable, some_run}
use Rattle.sh_grammar.proofs.Facts.{the_facts}
use Rattle.sh_grammar.proofs.Fitting.{IsPredictive}
use Rattle.sh_grammar.proofs.Fronts.{front_of}
use Rattle.sh_grammar.proofs.Leftmost.{run_of, trees_of}
use Rattle.sh_grammar.proofs.Served.{language_served}
use Rattle.sh_grammar.proofs.Stack.{apt_opened}
use Rattle.sh_grammar.proofs.Steps.{moves_class, moves_more, opens_more, opens_none, stuck_class, stuck_empty, stuck_form}
use Rattle.sh_names.specs.Names.{keep_rules, mentions}
use Rattle.sh_parse.specs.Reads.{IsNamed, IsRefusedAt}
use Rattle.sh_parse_tests.specs.Texts.{the_table}

-- what a token does: it is taken, and this is left to read by these steps, or nothing goes on from it
pub data Went : Type 0 where
  went : List Symbol → List Event → Went
  stuck : Went
  tired : Went

-- the first number bounds the steps
unfoldable pub advance : ℕ → Lexeme → List Symbol → List Event → Went
advance zero t β cs = tired
advance (suc k) t [] cs = stuck
advance (suc k) t (Class c ∷ β) cs = cond (nat_eq (class_of t) c) (went β (cs ++ Took ∷ [])) stuck
advance (suc k) t (Part n ∷ β) cs = elim (choice the_table n (class_of t)) [
  | zero ↦ stuck
  | suc i ↦ elim (slice_get (language n) i) [
    | None ↦ stuck
    | Some body ↦ advance k t (body ++ β) (cs ++ Opened n i (length body) ∷ [])
  ]
]

abbrev Moved : List Lexeme → List Symbol → List Event → Type 0
Moved us β cs = IsMoved language the_facts text_of_file us [] β cs

abbrev IsSo : List Symbol → Lexeme → List Event → Went → Type 0
IsSo α t old (went β cs) = IsMoved language the_facts α (t ∷ []) old β cs
IsSo α t old stuck = IsStuck language α t
IsSo α t old tired = Unit {0}

predicts : IsPredictive language the_table the_facts
unfolding the_table
predicts = known language (pieces the_choices the_rows) the_facts File language_served

so : (k : ℕ) (α : List Symbol) (t : Lexeme) (old : List Event) (β : List Symbol) (cs : List Event)
    → IsOpened language the_facts α t old β cs → IsSo α t old (advance k t β cs)
unfolding advance
so zero α t old β cs o = tt
so (suc k) α t old [] cs o = stuck_empty language α t o.taken o.opens
so (suc k) α t old (Class c ∷ β) cs o = by_test (nat_eq (class_of t) c) (eqb-true (class_of t) c) (eqb-false (class_of t) c)
  where
    by_test : (b : Bool) → (b ≡ true → class_of t ≡ c) → (b ≡ false → class_of t ≡ c → ⊥)
        → IsSo α t old (cond b (went β (cs ++ Took ∷ [])) stuck)
    by_test true same other = record {
      taken = o.taken ++ Took ∷ [];
      all = ap (λ es. es ++ Took ∷ []) o.all ∙ append_assoc old o.taken (Took ∷ []);
      moves = moves_class language α t o.taken c β o.opens (same refl);
      apt = o.apt.1;
    }
    by_test false same other = stuck_class language α t o.taken c β o.opens (other refl)
so (suc k) α t old (Part n ∷ β) cs o = by_choice (choice the_table n (class_of t)) refl
    (λ i body. so k α t old (body ++ β) (cs ++ Opened n i (length body) ∷ []))
  where
    by_body : (i : ℕ) → choice the_table n (class_of t) ≡ suc i → (o : Option (List Symbol)) → slice_get (language n) i ≡ o
        → ((body : List Symbol) → IsOpened language the_facts α t old (body ++ β) (cs ++ Opened n i (length body) ∷ [])
        → IsSo α t old (advance k t (body ++ β) (cs ++ Opened n i (length body) ∷ [])))
        → IsSo α t old (elim o [ None ↦ stuck | Some body ↦ advance k t (body ++ β) (cs ++ Opened n i (length body) ∷ []) ])
    by_body i chosen None at rest = stuck_form predicts α t o.taken n β o.opens o.apt
        (λ j body there other.
        let same : suc j ≡ suc i = sym other ∙ chosen in
        let none : slice_get (language n) j ≡ None = let e : j ≡ i = omega arith in subst (λ m. slice_get (language n) m ≡ None) (sym e) at in
        cc)
    by_body i chosen (Some body) at rest = rest body (record {
      taken = o.taken ++ Opened n i (length body) ∷ [];
      all = ap (λ es. es ++ Opened n i (length body) ∷ []) o.all ∙ append_assoc old o.taken (Opened n i (length body) ∷ []);
      opens = opens_more predicts α t o.taken n i body β o.opens o.apt at chosen;
      apt = apt_opened predicts n i body β at o.apt;
    })

    by_choice : (c : ℕ) → choice the_table n (class_of t) ≡ c
        → ((i : ℕ) (body : List Symbol) → IsOpened language the_facts α t old (body ++ β) (cs ++ Opened n i (length body) ∷ [])
        → IsSo α t old (advance k t (body ++ β) (cs ++ Opened n i (length body) ∷ [])))
        → IsSo α t old (elim c [
          | zero ↦ stuck
          | suc i ↦ elim (slice_get (language n) i) [
            | None ↦ stuck
            | Some body ↦ advance k t (body ++ β) (cs ++ Opened n i (length body) ∷ [])
          ]
        ])
    by_choice zero chosen rest = stuck_form predicts α t o.taken n β o.opens o.apt (λ i body at other. let no : 0 ≡ suc i = sym chosen ∙ other in cc)
    by_choice (suc i) chosen rest = by_body i chosen (slice_get (language n) i) refl (rest i)

-- ## From token to token

abbrev pub go_on : (List Symbol → List Event → Went) → Went → Went
go_on next (went β cs) = next β cs
go_on next stuck = stuck
go_on next tired = tired

-- all of these tokens are taken
unfoldable pub run : List Lexeme → List Symbol → List Event → Went
run [] β cs = went β cs
run (t ∷ ts) β cs = go_on (λ γ ds. run ts γ ds) (advance 40 t β cs)

ran : List Lexeme → List Lexeme → Went → Type 0
ran us ts (went β cs) = Moved (us ++ ts) β cs
ran us ts stuck = Unit {0}
ran us ts tired = Unit {0}

opened_none : (β : List Symbol) (t : Lexeme) (cs : List Event) → IsApt the_facts β → IsOpened language the_facts β t cs β cs
opened_none β t cs apt = record { taken = []; all = nothing_more cs; opens = opens_none language β t; apt = apt }
  where
    nothing_more : (es : List Event) → es ≡ es ++ []
    nothing_more [] = refl
    nothing_more (e ∷ es) = ap (λ ds. e ∷ ds) (nothing_more es)

one_more : (us : List Lexeme) (t : Lexeme) (β γ : List Symbol) (cs ds : List Event) → Moved us β cs
    → IsMoved language the_facts β (t ∷ []) cs γ ds → Moved (us ++ t ∷ []) γ ds
one_more us t β γ cs ds m n = record {
  taken = m.taken ++ n.taken;
  all = n.all ∙ ap (λ xs. xs ++ n.taken) m.all;
  moves = moves_more language text_of_file β γ us (t ∷ []) m.taken n.taken m.moves n.moves;
  apt = n.apt;
}

runs : (us ts : List Lexeme) (β : List Symbol) (cs : List Event) → Moved us β cs → ran us ts (run ts β cs)
unfolding run ran
runs us [] β cs m = subst (λ vs. Moved vs β cs) (nothing_more us) m
  where
    nothing_more : (vs : List Lexeme) → vs ≡ vs ++ []
    nothing_more [] = refl
    nothing_more (v ∷ vs) = ap (λ ws. v ∷ ws) (nothing_more vs)
runs us (t ∷ ts) β cs m = by_step (advance 40 t β cs) (so 40 β t cs β cs (opened_none β t cs m.apt)) (λ γ ds n. runs (us ++ t ∷ []) ts γ ds n)
  where
    by_step : (w : Went) → IsSo β t cs w → ((γ : List Symbol) (ds : List Event) → Moved (us ++ t ∷ []) γ ds → ran (us ++ t ∷ []) ts (run ts γ ds))
        → ran us (t ∷ ts) (go_on (λ γ ds. run ts γ ds) w)
    by_step (went γ ds) is rest = all_taken (run ts γ ds) (rest γ ds (one_more us t β γ cs ds m is))
      where
        all_taken : (w : Went) → ran (us ++ t ∷ []) ts w → ran us (t ∷ ts) w
        all_taken (went β cs) h = subst (λ vs. Moved vs β cs) (append_assoc us (t ∷ []) ts) h
        all_taken stuck h = tt
        all_taken tired h = tt
    by_step stuck is rest = tt
    by_step tired is rest = tt

-- what the machine comes to over these tokens
unfoldable pub stack_behind : List Lexeme → List Symbol
stack_behind ts = elim (run ts text_of_file []) [ went β cs ↦ β | stuck ↦ [] | tired ↦ [] ]

unfoldable pub steps_over : List Lexeme → List Event
steps_over ts = elim (run ts text_of_file []) [ went β cs ↦ cs | stuck ↦ [] | tired ↦ [] ]

unfoldable pub is_taken : List Lexeme → Bool
is_taken ts = elim (run ts text_of_file []) [ went β cs ↦ true | stuck ↦ false | tired ↦ false ]

unfoldable pub is_stuck : Lexeme → List Symbol → Bool
is_stuck t β = elim (advance 40 t β []) [ went γ ds ↦ false | stuck ↦ true | tired ↦ false ]

moved_over : (ts : List Lexeme) → is_taken ts ≡ true → Moved ts (stack_behind ts) (steps_over ts)
unfolding stack_behind steps_over is_taken ran
moved_over ts h = by_went (run ts text_of_file []) h
    (runs [] ts text_of_file [] (moved_none language (pieces the_choices the_rows) the_facts File language_served text_of_file refl))
  where
    by_went : (w : Went) → elim w [ went β cs ↦ true | stuck ↦ false | tired ↦ false ] ≡ true → ran [] ts w
        → Moved ts (elim w [ went β cs ↦ β | stuck ↦ [] | tired ↦ [] ]) (elim w [ went β cs ↦ cs | stuck ↦ [] | tired ↦ [] ])
    by_went (went β cs) h m = m
    by_went stuck h m = cc
    by_went tired h m = cc

stuck_at : (t : Lexeme) (β : List Symbol) → IsApt the_facts β → is_stuck t β ≡ true → IsStuck language β t
unfolding is_stuck
stuck_at t β apt h = by_went (advance 40 t β []) h (so 40 β t [] β [] (opened_none β t [] apt))
  where
    by_went : (w : Went) → elim w [ went γ ds ↦ false | stuck ↦ true | tired ↦ false ] ≡ true → IsSo β t [] w → IsStuck language β t
    by_went (went γ ds) h m = cc
    by_went stuck h m = m
    by_went tired h m = cc

-- ## Refusals

-- these tokens are a front, whose names keep the rules or don't
pub named : (ts : List Lexeme) (kept : Bool) → is_taken ts ≡ true → keep_rules (mentions (steps_over ts) ts) ≡ kept → IsNamed ts kept
named ts kept h k =
    let m = moved_over ts h in
    let r = some_run predicts (stack_behind ts) (apt_spellable the_facts (stack_behind ts) m.apt) in
    let t = trees_of (m.moves.forward r.ts r.cs r.run) in
    record {
      front = front_of t.spells ts r.ts t.tokens_are;
      steps = steps_over ts;
      begins = record {
        spent = λ more. ap (λ es. after (length ts) (es ++ more)) m.all ∙ m.moves.spent more;
        common = λ more f p.
            let b = m.moves.back more (events f) (rw p.1 at (run_of p.0)) in
            (b.0, b.2 ∙ ap (λ es. es ++ b.0) (sym m.all));
      };
      keep = k;
    }

-- the grammar refuses the token
pub refused_there : (ts : List Lexeme) (i : ℕ) (t : Lexeme) (rule : Rule) → slice_get ts i ≡ Some t → is_taken (take i ts) ≡ true
    → keep_rules (mentions (steps_over (take i ts)) (take i ts)) ≡ true → is_stuck t (stack_behind (take i ts)) ≡ true
    → rule ≡ rule_of (may_begin_operation the_facts (stack_behind (take i ts))) t → IsRefusedAt ts i t rule
refused_there ts i t rule at taken kept stops code =
    let m = moved_over (take i ts) taken in
    let r = refuses_here language (pieces the_choices the_rows) the_facts File language_served ts i t (stack_behind (take i ts)) (steps_over (take i ts)) rule
    at m (stuck_at t (stack_behind (take i ts)) m.apt stops) code in
    let same : r.token ≡ t = cc (r.at, at) in
    record {
      at = at;
      before = named (take i ts) true taken kept;
      wrong = inl (r.first, subst (λ u. HasCode language text_of_file (take i ts) u rule) same r.code);
    }

-- the token breaks a rule on names
pub name_refused : (ts : List Lexeme) (i : ℕ) (t : Lexeme) → slice_get ts i ≡ Some t → is_taken (take i ts) ≡ true
    → keep_rules (mentions (steps_over (take i ts)) (take i ts)) ≡ true → is_taken (take (suc i) ts) ≡ true
    → keep_rules (mentions (steps_over (take (suc i) ts)) (take (suc i) ts)) ≡ false → IsRefusedAt ts i t P1
name_refused ts i t at taken kept also broken = record {
  at = at;
  before = named (take i ts) true taken kept;
  wrong = inr (named (take (suc i) ts) false also broken, refl);
}
