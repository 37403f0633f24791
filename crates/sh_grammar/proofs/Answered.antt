-- From the moves of the machine to its answer.
use Rattle.std.proofs.Common.{◌≡◌, ℕ, zero, suc, ◌<◌, Bool, true, false, cond, nat_eq, List, [], ◌∷◌, ◌++◌, length, take, drop, refl, sym, ◌∙◌, ap, subst, append_assoc, inl, inr, Some}
use Rattle.std.specs.Prelude.{slice_get, get_or, option_map}
use Rattle.std.proofs.lemmas.Option.{slice_get-map, slice_get-get_or}
use Rattle.sh_lex.specs.declared.tokens.Token.{Token}
use Rattle.std.proofs.lemmas.List.{append-nil}
use Rattle.std.proofs.lemmas.Bool.{eqb-true, eq-eqb}
use Rattle.sh_base.specs.declared.rules.Rule.{Rule}
use Rattle.sh_grammar.specs.declared.forms.Form.{Form}
use Rattle.sh_grammar.specs.declared.symbols.Symbol.{Symbol}
use Rattle.sh_grammar.specs.declared.symbols.Event.{Event}
use Rattle.sh_grammar.specs.declared.symbols.Symbol.TheVariants.{Class, Part}
use Rattle.sh_grammar.specs.Lexemes.{Lexeme, class_of, lexeme_of, lexemes}
use Rattle.sh_grammar.specs.Forms.{number, all_forms}
use Rattle.sh_grammar.specs.Grammar.{Grammar, IsAlternative, Trees, Spells, is_nothing, is_token, is_form, Reads, Front, tokens, events, after}
use Rattle.sh_grammar.specs.Predictive.{Table, Facts, facts_of, has, each, lacks, may_begin_operation, is_predictive, serves}
use Rattle.sh_grammar.specs.Machine.{Runs, ends, IsApt, HasClass, IsMoved, IsStuck, whole}
use Rattle.sh_grammar.specs.LeftOut.{rule_of}
use Rattle.sh_grammar.specs.Answer.{Accepts, Refuses}
use Rattle.sh_grammar.proofs.Booleans.{and_both, or_either, each_at}
use Rattle.sh_grammar.proofs.Numbered.{form_at}
use Rattle.sh_grammar.proofs.Fitting.{IsPredictive, predictive_test}
use Rattle.sh_grammar.proofs.Leftmost.{run_of, trees_of, TreesOf, one_tree}
use Rattle.sh_grammar.proofs.Stack.{wants_more}
use Rattle.sh_grammar.proofs.Steps.{moves_none, moves_more}
use Rattle.sh_grammar.proofs.Ends.{apt_spellable, some_run}
use Rattle.sh_grammar.proofs.Due.{due_here, due_there}
use Rattle.sh_grammar.proofs.Fronts.{front_of, goes_on}
use Rattle.sh_grammar.proofs.Lexed.{Closed}

take_one_more : (ts : List Lexeme) (i : ℕ) (t : Lexeme) → slice_get ts i ≡ Some t → take (suc i) ts ≡ take i ts ++ t ∷ []
take_one_more [] i t at = cc
take_one_more (u ∷ ts) zero t at = let same : u ≡ t = cc in ap (λ x. x ∷ []) same
take_one_more (u ∷ ts) (suc i) t at = ap (λ xs. u ∷ xs) (take_one_more ts i t at)

take_then_drop : (i : ℕ) (ts : List Lexeme) → take i ts ++ drop i ts ≡ ts
take_then_drop zero ts = refl
take_then_drop (suc i) [] = refl
take_then_drop (suc i) (t ∷ ts) = ap (λ xs. t ∷ xs) (take_then_drop i ts)

take_whole : (ts : List Lexeme) → take (length ts) ts ≡ ts
take_whole [] = refl
take_whole (t ∷ ts) = ap (λ xs. t ∷ xs) (take_whole ts)

some_wanted : (fs : List Facts) (s : Symbol) (α : List Symbol) → IsApt fs (s ∷ α) → HasClass (s ∷ α)
some_wanted fs (Class c) α apt = tt
some_wanted fs (Part n) α apt = apt.1

nothing_left : {g : Grammar} {ds : List Event} → Runs g [] [] ds → ds ≡ []
nothing_left ends = refl

only_itself : (ds : List ℕ) (e c : ℕ) → has ds e ≡ true → has (e ∷ []) c ≡ true → has ds c ≡ true
only_itself ds e c h k = elim (or_either _ _ k) [
  | inl same ↦ let P : ℕ → Type 0 = λ x. has ds x ≡ true in subst P (eqb-true e c same) h
  | inr other ↦ cc
]

-- no token is of this class
AllLack : ℕ → List Lexeme → Type 0
AllLack c [] = Unit {0}
AllLack c (t ∷ ts) = (class_of t ≡ c → ⊥) × AllLack c ts

lack_append : (c : ℕ) (ts us : List Lexeme) → AllLack c ts → AllLack c us → AllLack c (ts ++ us)
unfolding AllLack
lack_append c [] us h k = k
lack_append c (t ∷ ts) us h k = (h.0, lack_append c ts us h.1 k)

cond_true : (b c : Bool) → cond b false c ≡ true → (b ≡ false) × (c ≡ true)
cond_true true c e = cc
cond_true false c e = (refl, e)

other_class : (c d : ℕ) → nat_eq c d ≡ false → d ≡ c → ⊥
other_class c d e same = let yes_same : nat_eq c d ≡ true = eq-eqb c d (sym same) in cc

spelled_lacks : {g : Grammar} (c : ℕ) → ((n : Form) (i : ℕ) (body : List Symbol) → IsAlternative g n i body → lacks c body ≡ true)
    → {α : List Symbol} {f : Trees} → Spells g α f → lacks c α ≡ true → AllLack c (tokens f)
unfolding AllLack
spelled_lacks c lacking is_nothing h = tt
spelled_lacks c lacking (is_token {c = d} {t = t} e s) h =
    let a = cond_true _ _ h in (λ same. other_class c d a.0 (sym e ∙ same), spelled_lacks c lacking s a.1)
spelled_lacks c lacking (is_form {n = n} {i = i} {body = body} {below = below} {behind = behind} at s t) h =
    lack_append c (tokens below) (tokens behind) (spelled_lacks c lacking s (lacking n i body at)) (spelled_lacks c lacking t h)

-- where only the last token is of a class, nothing is behind it
last_is : (c : ℕ) (xs us more : List Lexeme) (t e : Lexeme) → AllLack c xs → class_of t ≡ c → us ++ t ∷ more ≡ xs ++ e ∷ [] → more ≡ []
unfolding AllLack
last_is c [] [] more t e h k same = cc
last_is c [] (u ∷ []) more t e h k same = cc
last_is c [] (u ∷ v ∷ us) more t e h k same = cc
last_is c (x ∷ xs) [] more t e h k same = let this : t ≡ x = cc in absurd (h.0 (ap class_of (sym this) ∙ k))
last_is c (x ∷ xs) (u ∷ us) more t e h k same =
    let tail : us ++ t ∷ more ≡ xs ++ e ∷ [] = cc in last_is c xs us more t e h.1 k tail

record Parted (c : ℕ) (ts : List Lexeme) : Type 0 where
  front : List Lexeme
  last : Lexeme
  is : ts ≡ front ++ last ∷ []
  lacking : AllLack c front

parted : {g : Grammar} (start : Form) (c : ℕ) → ((n : Form) (i : ℕ) (body : List Symbol) → IsAlternative g n i body → lacks c body ≡ true)
    → {f : Trees} → Spells g (whole start c) f → Parted c (tokens f)
parted start c lacking (is_form {n = n} {i = i} {body = body} {below = below} at s (is_token {t = t} e is_nothing)) = record {
  front = tokens below;
  last = t;
  is = refl;
  lacking = spelled_lacks c lacking s (lacking n i body at);
}

-- the lexeme at a number
lexeme_at : (text : List ℕ) (ts : List Token) (i : ℕ) (d : Token) → i < length ts → slice_get (lexemes text ts) i ≡ Some (lexeme_of text (get_or ts i d))
lexeme_at text ts i d h =
    slice_get-map (lexeme_of text) ts i ∙ ap (option_map (lexeme_of text)) (slice_get-get_or ts i d h)

length-lexemes : (text : List ℕ) (ts : List Token) → length (lexemes text ts) ≡ length ts
length-lexemes text [] = refl
length-lexemes text (t ∷ ts) = ap suc (length-lexemes text ts)

-- a step back
pub kept : (old more new : List Event) (n : ℕ) → n ≡ length old → new ≡ old ++ more → take n new ≡ old
kept old more new n is e = rw (is, e) (take_front old more)
  where
    take_front : (xs ys : List Event) → take (length xs) (xs ++ ys) ≡ xs
    take_front [] ys = refl
    take_front (x ∷ xs) ys = ap (λ zs. x ∷ zs) (take_front xs ys)

module _ (g : Grammar) (table : Table) (fs : List Facts) (start : Form) (serving : serves g table fs start 10 ≡ true) where
  pub predictive : is_predictive g table fs ≡ true
  predictive = (and_both _ _ (and_both _ _ (and_both _ _ serving).0).0).0

  pub known : IsPredictive g table fs
  known = predictive_test g table fs predictive

  lacking : (n : Form) (i : ℕ) (body : List Symbol) → IsAlternative g n i body → lacks 10 body ≡ true
  lacking n i body at =
      each_at (lacks 10) (g n) i body
      (each_at (λ m. each (lacks 10) (g m)) all_forms (number n) n (and_both _ _ serving).1 (form_at n)) at

  pub whole_apt : IsApt fs (whole start 10)
  whole_apt =
      (λ c h. only_itself (facts_of fs start).follow 10 c (and_both _ _ (and_both _ _ (and_both _ _ serving).0).0).1 h, tt, ((and_both _ _ (and_both _ _ serving).0).1, tt))

  pub moved_none : (stack : List Symbol) → stack ≡ whole start 10 → IsMoved g fs (whole start 10) [] [] stack []
  moved_none stack e = rw e (record { taken = []; all = refl; moves = moves_none g (whole start 10); apt = whole_apt })

  pub moved_more : (ts : List Lexeme) (i : ℕ) (t : Lexeme) (β γ : List Symbol) (cs ds : List Event) → slice_get ts i ≡ Some t
      → IsMoved g fs (whole start 10) (take i ts) [] β cs → IsMoved g fs β (t ∷ []) cs γ ds
      → IsMoved g fs (whole start 10) (take (suc i) ts) [] γ ds
  moved_more ts i t β γ cs ds at m n = record {
    taken = m.taken ++ n.taken;
    all = n.all ∙ ap (λ xs. xs ++ n.taken) m.all;
    moves = rw (take_one_more ts i t at) (moves_more g (whole start 10) β γ (take i ts) (t ∷ []) m.taken n.taken m.moves n.moves);
    apt = n.apt;
  }

  front_here : (us : List Lexeme) (β : List Symbol) (cs : List Event) → IsMoved g fs (whole start 10) us [] β cs → Front g (whole start 10) us
  front_here us β cs m =
      let r = some_run known β (apt_spellable fs β m.apt) in
      let t = trees_of (m.moves.forward r.ts r.cs r.run) in
      front_of t.spells us r.ts t.tokens_are

  pub refuses_here : (ts : List Lexeme) (i : ℕ) (t : Lexeme) (β : List Symbol) (cs : List Event) (rule : Rule) → slice_get ts i ≡ Some t
      → IsMoved g fs (whole start 10) (take i ts) [] β cs → IsStuck g β t → rule ≡ rule_of (may_begin_operation fs β) t
      → Refuses g (whole start 10) ts i rule cs
  refuses_here ts i t β cs rule at m stuck code = record {
    token = t;
    at = at;
    front = front_here (take i ts) β cs m;
    first = λ p. let more = goes_on known p (apt_spellable fs (whole start 10) whole_apt) in unreadable more.more more.trees more.reads;
    unread = λ f p. unreadable (drop (suc i) ts) f (p.0, p.1 ∙ sym (take_then_drop (suc i) ts));
    code = record {
      due = may_begin_operation fs β;
      where_due = (λ h. due_here known m.moves m.apt h, λ h. due_there known m.moves h);
      code = code;
    };
    begins = record {
      spent = λ more. ap (λ es. after (length (take i ts)) (es ++ more)) m.all ∙ m.moves.spent more;
      common = λ more f p.
          let b = m.moves.back more (events f) (rw p.1 at (run_of p.0)) in
          (b.0, b.2 ∙ ap (λ es. es ++ b.0) (sym m.all));
    };
  }
    where
      unreadable : (more : List Lexeme) (f : Trees) → Reads g (whole start 10) (take (suc i) ts ++ more) f → ⊥
      unreadable more f p =
          let same : tokens f ≡ take i ts ++ (t ∷ more) =
          p.1 ∙ ap (λ xs. xs ++ more) (take_one_more ts i t at) ∙ append_assoc (take i ts) (t ∷ []) more in
          let b = m.moves.back (t ∷ more) (events f) (rw same at (run_of p.0)) in
          stuck more b.0 b.1

  -- behind the last token the stack is empty
  emptied : (ts : List Lexeme) (β : List Symbol) (cs : List Event) → Closed ts → IsMoved g fs (whole start 10) ts [] β cs → β ≡ []
  emptied ts [] cs closed m = refl
  emptied ts (s ∷ β) cs closed m =
      let r = some_run known (s ∷ β) (apt_spellable fs (s ∷ β) m.apt) in
      let t = trees_of (m.moves.forward r.ts r.cs r.run) in
      let p = parted start 10 lacking t.spells in
      let same : closed.front ++ closed.last ∷ r.ts ≡ p.front ++ p.last ∷ [] =
      sym (append_assoc closed.front (closed.last ∷ []) r.ts) ∙ ap (λ xs. xs ++ r.ts) (sym closed.is) ∙ sym t.tokens_are ∙ p.is in
      let none : r.ts ≡ [] = last_is 10 p.front closed.front r.ts closed.last p.last p.lacking closed.ends same in
      let run : Runs g (s ∷ β) [] r.cs = rw none at r.run in
      absurd (wants_more (some_wanted fs s β m.apt) run)

  pub accepts_end : (ts : List Lexeme) (i : ℕ) (β : List Symbol) (cs : List Event) → i ≡ length ts → Closed ts
      → IsMoved g fs (whole start 10) (take i ts) [] β cs → Accepts g (whole start 10) ts cs
  accepts_end ts i β cs is closed m = record {
    trees = t.trees;
    reads = (t.spells, t.tokens_are ∙ append-nil ts);
    takes = t.events_are ∙ append-nil moved.taken ∙ sym moved.all;
    only = λ f p.
        let b = moved.moves.back [] (events f) (rw (p.1 ∙ sym (append-nil ts)) at (run_of p.0)) in
        let same : events f ≡ events t.trees =
        b.2 ∙ ap (λ xs. moved.taken ++ xs) (nothing_left b.1) ∙ sym t.events_are in
        let also : tokens f ≡ tokens t.trees = p.1 ∙ sym (append-nil ts) ∙ sym t.tokens_are in
        (one_tree p.0 t.spells [] [] [] [] (ap (λ xs. xs ++ []) also) (ap (λ xs. xs ++ []) same)).0;
  }
    where
      all : IsMoved g fs (whole start 10) ts [] β cs
      all = rw (ap (λ n. take n ts) is ∙ take_whole ts) at m

      moved : IsMoved g fs (whole start 10) ts [] [] cs
      moved = rw (emptied ts β cs closed all) at all

      t : TreesOf g (whole start 10) (ts ++ []) (moved.taken ++ [])
      t = trees_of (moved.moves.forward [] [] ends)

  -- the same, over the tokens of a text
  pub moved_on : (text : List ℕ) (ts : List Token) (i j : ℕ) (d : Token) (β γ : List Symbol) (cs ds : List Event) → j ≡ suc i → i < length ts
      → IsMoved g fs (whole start 10) (take i (lexemes text ts)) [] β cs → IsMoved g fs β (lexeme_of text (get_or ts i d) ∷ []) cs γ ds
      → IsMoved g fs (whole start 10) (take j (lexemes text ts)) [] γ ds
  moved_on text ts i j d β γ cs ds is h m n =
      rw is (moved_more (lexemes text ts) i (lexeme_of text (get_or ts i d)) β γ cs ds (lexeme_at text ts i d h) m n)

  pub refused : (text : List ℕ) (ts : List Token) (i : ℕ) (d : Token) (β : List Symbol) (cs ds : List Event) (rule : Rule) (due : Bool) → i < length ts
      → IsMoved g fs (whole start 10) (take i (lexemes text ts)) [] β cs → IsStuck g β (lexeme_of text (get_or ts i d))
      → due ≡ may_begin_operation fs β → rule ≡ rule_of due (lexeme_of text (get_or ts i d)) → ds ≡ cs
      → Refuses g (whole start 10) (lexemes text ts) i rule ds
  refused text ts i d β cs ds rule due h m stuck due_is code same =
      rw same (refuses_here (lexemes text ts) i (lexeme_of text (get_or ts i d)) β cs rule (lexeme_at text ts i d h) m stuck (rw due_is at code))

  pub accepted : (text : List ℕ) (ts : List Token) (i : ℕ) (β : List Symbol) (cs : List Event) → i ≡ length ts → Closed (lexemes text ts)
      → IsMoved g fs (whole start 10) (take i (lexemes text ts)) [] β cs → Accepts g (whole start 10) (lexemes text ts) cs
  accepted text ts i β cs is closed m = accepts_end (lexemes text ts) i β cs (is ∙ sym (length-lexemes text ts)) closed m
