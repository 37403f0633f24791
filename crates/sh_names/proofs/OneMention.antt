-- The pass over names: one mention more.
use Rattle.std.proofs.Common.{◌≡◌, ℕ, ◌+◌, List, [], ◌∷◌, ◌++◌, Bool, true, false, ◌&&◌, flat_map, length, reverse, refl, sym, ◌∙◌, ap, append_assoc, length-append}
use Rattle.std.specs.List.{list_any}
use Rattle.std.proofs.lemmas.List.{append-nil, reverse-append}
use Rattle.sh_names.specs.Names.{Mention, Owned, all_keep, distinct, first_number, keep_rules, keeps_rules, names_behind, names_by_role, names_of, number_among, numbers_among, numbers_of, same_owned}
use Rattle.sh_names.specs.Tables.{AreKept, AreThere, all_names, with_name, with_names}
use Rattle.sh_names.specs.declared.rules.Rules.{Rules}
use Rattle.sh_names.proofs.Distinct.{more_names}
use Rattle.sh_names.proofs.Numbered.{number_stays, there_added, there_stays}

and_assoc : (a b c : Bool) → (a && (b && c)) ≡ (a && b && c)
and_assoc true b c = refl
and_assoc false b c = refl

keep_behind : (before ms : List Mention) (m : Mention)
    → all_keep before (ms ++ m ∷ []) ≡ (all_keep before ms && keeps_rules m.role m.text (reverse ms ++ before))
keep_behind before [] m = last (keeps_rules m.role m.text before)
  where
    last : (b : Bool) → (b && true) ≡ b
    last true = refl
    last false = refl
keep_behind before (k ∷ ms) m =
    ap (λ b. keeps_rules k.role k.text before && b) (keep_behind (k ∷ before) ms m
    ∙ ap (λ ls. all_keep (k ∷ before) ms && keeps_rules m.role m.text ls)
    (sym (append_assoc (reverse ms) (k ∷ []) before) ∙ ap (λ ls. ls ++ before) (sym (reverse-append (k ∷ []) ms))))
    ∙ and_assoc (keeps_rules k.role k.text before) (all_keep (k ∷ before) ms)
    (keeps_rules m.role m.text (reverse (k ∷ ms) ++ before))

-- the rules, behind one mention more
pub keep_more : (ms : List Mention) (m : Mention)
    → keep_rules (ms ++ m ∷ []) ≡ (keep_rules ms && keeps_rules m.role m.text (reverse ms))
keep_more ms m =
    keep_behind [] ms m ∙ ap (λ ls. keep_rules ms && keeps_rules m.role m.text ls) (append-nil (reverse ms))

names_more : (before ms : List Mention) (m : Mention)
    → names_behind before (ms ++ m ∷ []) ≡ names_behind before ms ++ names_by_role m.role (before ++ ms) m ∷ []
names_more before [] m = ap (λ ls. names_by_role m.role ls m ∷ []) (sym (append-nil before))
names_more before (k ∷ ms) m =
    ap (λ ns. names_by_role k.role before k ∷ ns) (names_more (before ++ k ∷ []) ms m
    ∙ ap (λ ls. names_behind (before ++ k ∷ []) ms ++ names_by_role m.role ls m ∷ []) (append_assoc before (k ∷ []) ms))

flat_more : (xss : List (List Owned)) (xs : List Owned) → flat_map (λ names. names) (xss ++ xs ∷ []) ≡ flat_map (λ names. names) xss ++ xs
flat_more [] xs = append-nil xs
flat_more (ys ∷ xss) xs = ap (λ zs. ys ++ zs) (flat_more xss xs) ∙ sym (append_assoc ys (flat_map (λ names. names) xss) xs)

-- all names, behind one mention more
pub all_more : (ms : List Mention) (m : Mention)
    → distinct (all_names (ms ++ m ∷ [])) ≡ with_names (distinct (all_names ms)) (names_by_role m.role ms m)
all_more ms m =
    ap (λ ns. distinct (flat_map (λ names. names) ns)) (names_more [] ms m)
    ∙ ap distinct (flat_more (names_of ms) (names_by_role m.role ms m))
    ∙ more_names (all_names ms) (names_by_role m.role ms m)

stays : (x : Owned) (names more : List Owned) → list_any (same_owned x) names ≡ true
    → (number_among (with_names names more) x ≡ number_among names x) × (list_any (same_owned x) (with_names names more) ≡ true)
stays x names [] h = (refl, h)
stays x names (y ∷ more) h =
    let rest = stays x (with_name names y) more (there_stays x y names h) in
    (rest.0 ∙ number_stays x y names h, rest.1)

there_more : (names more : List Owned) (tokens : List (List Owned)) → AreThere names tokens → AreThere (with_names names more) tokens
there_more names more [] h = tt
there_more names more ([] ∷ tokens) h = there_more names more tokens h
there_more names more ((x ∷ xs) ∷ tokens) h = ((stays x names more h.0).1, there_more names more tokens h.1)

there_last : (names : List Owned) (tokens : List (List Owned)) (new : List Owned) → AreThere names tokens → AreThere names (new ∷ [])
    → AreThere names (tokens ++ new ∷ [])
there_last names [] new h k = k
there_last names ([] ∷ tokens) new h k = there_last names tokens new h k
there_last names ((x ∷ xs) ∷ tokens) new h k = (h.0, there_last names tokens new h.1 k)

there_new : (names new : List Owned) → AreThere (with_names names new) (new ∷ [])
there_new names [] = tt
there_new names (x ∷ xs) = ((stays x (with_name names x) xs (there_added x names)).1, tt)

numbers_stay : (names more : List Owned) (tokens : List (List Owned)) → AreThere names tokens
    → numbers_among (with_names names more) tokens ≡ numbers_among names tokens
numbers_stay names more [] h = refl
numbers_stay names more ([] ∷ tokens) h = ap (λ ns. 0 ∷ ns) (numbers_stay names more tokens h)
numbers_stay names more ((x ∷ xs) ∷ tokens) h =
    ap (λ n. n ∷ numbers_among (with_names names more) tokens) (stays x names more h.0).0
    ∙ ap (λ ns. number_among names x ∷ ns) (numbers_stay names more tokens h.1)

numbers_push : (names : List Owned) (tokens : List (List Owned)) (new : List Owned)
    → numbers_among names (tokens ++ new ∷ []) ≡ numbers_among names tokens ++ first_number names new ∷ []
numbers_push names [] new = refl
numbers_push names (ns ∷ tokens) new = ap (λ ks. first_number names ns ∷ ks) (numbers_push names tokens new)

-- the names of the tokens stay there, and their numbers
module _ (ms : List Mention) (m : Mention) (known : AreThere (distinct (all_names ms)) (names_of ms)) where
  pub is_there : AreThere (distinct (all_names (ms ++ m ∷ []))) (names_of (ms ++ m ∷ []))
  is_there =
      rw (all_more ms m, names_more [] ms m)
      (there_last (with_names (distinct (all_names ms)) (names_by_role m.role ms m)) (names_of ms) (names_by_role m.role ms m)
      (there_more (distinct (all_names ms)) (names_by_role m.role ms m) (names_of ms) known)
      (there_new (distinct (all_names ms)) (names_by_role m.role ms m)))

  pub numbers_more : (id : ℕ) → id ≡ first_number (distinct (all_names (ms ++ m ∷ []))) (names_by_role m.role ms m)
      → numbers_of (names_of (ms ++ m ∷ [])) ≡ numbers_of (names_of ms) ++ id ∷ []
  numbers_more id is =
      ap (numbers_among (distinct (all_names (ms ++ m ∷ [])))) (names_more [] ms m)
      ∙ numbers_push (distinct (all_names (ms ++ m ∷ []))) (names_of ms) (names_by_role m.role ms m)
      ∙ ap (λ k. numbers_among (distinct (all_names (ms ++ m ∷ []))) (names_of ms) ++ k ∷ []) (sym is)
      ∙ ap (λ ks. ks ++ id ∷ [])
      (ap (λ names. numbers_among names (names_of ms)) (all_more ms m)
      ∙ numbers_stay (distinct (all_names ms)) (names_by_role m.role ms m) (names_of ms) known)

pub both_kept : (ms : List Mention) (m : Mention) → keep_rules ms ≡ true → keeps_rules m.role m.text (reverse ms) ≡ true
    → keep_rules (ms ++ m ∷ []) ≡ true
both_kept ms m e f = keep_more ms m ∙ rw (e, f) refl

pub one_broken : (ms : List Mention) (m : Mention) → keep_rules ms ≡ true → keeps_rules m.role m.text (reverse ms) ≡ false
    → keep_rules (ms ++ m ∷ []) ≡ false
one_broken ms m e f = keep_more ms m ∙ rw (e, f) refl

pub known_more : (r : Rules) (ms : List Mention) (m : Mention) → AreKept r (m ∷ reverse ms) → AreKept r (reverse (ms ++ m ∷ []))
known_more r ms m known = rw (reverse-append ms (m ∷ [])) known

pub length_more : (id : ℕ) (old new : List ℕ) (ms : List Mention) (m : Mention) → new ≡ old ++ id ∷ [] → length old ≡ length ms
    → length new ≡ length (ms ++ m ∷ [])
length_more id old new ms m e f =
    ap length e ∙ length-append old (id ∷ []) ∙ ap (λ n. n + 1) f ∙ sym (length-append ms (m ∷ []))
