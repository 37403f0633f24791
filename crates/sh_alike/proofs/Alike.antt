-- That modules are alike is reflexive, symmetric and transitive.
use Rattle.std.proofs.Common.{◌≡◌, ◌∙◌, ℕ, Bool, true, false, cond, nat_eq, List, [], ◌∷◌, map, refl, ap, sym, subst}
use Rattle.std.specs.Prelude.{◌||◌}
use Rattle.std.specs.List.{AllByRecursion}
use Rattle.std.proofs.lemmas.Bool.{eqb-true, eq-eqb}
use Rattle.sh_ir.specs.Regions.{is_among}
use Rattle.sh_ir.specs.declared.functions.Func.{Func}
use Rattle.sh_ir.specs.declared.modules.Module.{Module}
use Rattle.sh_alike.specs.Alike.{AreAlike, AreAlikeEach, AreAlikeFuncs, KeepsApart, names_in_use}
use Rattle.sh_alike.specs.Renamed.{renamed_func}
use Rattle.sh_alike.proofs.Renaming.{func_agree, func_twice, names_renamed}

-- ## Names among others

among_head : (x : ℕ) (xs : List ℕ) → is_among (x ∷ xs) x ≡ true
among_head x xs = rw (eq-eqb x x refl) refl

among_behind : (x a : ℕ) (xs : List ℕ) → is_among xs a ≡ true → is_among (x ∷ xs) a ≡ true
among_behind x a xs h = elim (nat_eq a x) as (λ (t : Bool). (t || is_among xs a) ≡ true) [ true ↦ refl | false ↦ h ]

-- a name that is renamed
record IsRenamed (r : ℕ → ℕ) (names : List ℕ) (a : ℕ) : Type 0 where
  pub from : ℕ
  pub among : is_among names from ≡ true
  pub to : r from ≡ a

one_renamed : (r : ℕ → ℕ) (x : ℕ) (xs : List ℕ) (a : ℕ) (t : Bool) → nat_eq a (r x) ≡ t
    → (is_among (map r xs) a ≡ true → IsRenamed r xs a) → (t || is_among (map r xs) a) ≡ true → IsRenamed r (x ∷ xs) a
one_renamed r x xs a true e rest h = record { from = x; among = among_head x xs; to = sym (eqb-true a (r x) e) }
one_renamed r x xs a false e rest h = let it = rest h in
    record { from = it.from; among = among_behind x it.from xs it.among; to = it.to }

renamed_from : (r : ℕ → ℕ) (names : List ℕ) (a : ℕ) → is_among (map r names) a ≡ true → IsRenamed r names a
renamed_from r [] a h = absurd (let e : false ≡ true = h in cc)
renamed_from r (x ∷ xs) a h = one_renamed r x xs a (nat_eq a (r x)) refl (renamed_from r xs a) h

one_mapped : (r : ℕ → ℕ) (y : ℕ) (ys : List ℕ) (x : ℕ) (t : Bool) → nat_eq x y ≡ t
    → (is_among ys x ≡ true → is_among (map r ys) (r x) ≡ true) → (t || is_among ys x) ≡ true → is_among (map r (y ∷ ys)) (r x) ≡ true
one_mapped r y ys x true e rest h = rw (eq-eqb (r x) (r y) (ap r (eqb-true x y e))) refl
one_mapped r y ys x false e rest h = among_behind (r y) (r x) (map r ys) (rest h)

mapped : (r : ℕ → ℕ) (xs : List ℕ) (x : ℕ) → is_among xs x ≡ true → is_among (map r xs) (r x) ≡ true
mapped r [] x h = absurd (let e : false ≡ true = h in cc)
mapped r (y ∷ ys) x h = one_mapped r y ys x (nat_eq x y) refl (mapped r ys x) h

-- ## Back again

-- the first of these names that is renamed so
abbrev back : (ℕ → ℕ) → List ℕ → ℕ → ℕ
back r [] y = y
back r (x ∷ xs) y = cond (nat_eq (r x) y) x (back r xs y)

-- another name than this one is renamed to this one's: it is among the others
not_first : (r : ℕ → ℕ) (x : ℕ) (xs : List ℕ) (a : ℕ) (t : Bool) → nat_eq a x ≡ t → (t || is_among xs a) ≡ true
    → nat_eq (r x) (r a) ≡ false → is_among xs a ≡ true
not_first r x xs a true e h other =
    let same : nat_eq (r x) (r a) ≡ true = eq-eqb _ _ (ap r (sym (eqb-true a x e))) in absurd (let no : true ≡ false = sym same ∙ other in cc)
not_first r x xs a false e h other = h

one_back : (r : ℕ → ℕ) (x : ℕ) (xs : List ℕ) (a : ℕ) (t : Bool) → nat_eq (r x) (r a) ≡ t → is_among (x ∷ xs) a ≡ true → KeepsApart r (x ∷ xs)
    → (is_among xs a ≡ true → back r xs (r a) ≡ a) → cond t x (back r xs (r a)) ≡ a
one_back r x xs a true e h apart rest = apart x a (among_head x xs) h (eqb-true _ _ e)
one_back r x xs a false e h apart rest = rest (not_first r x xs a (nat_eq a x) refl h e)

back_is : (r : ℕ → ℕ) (xs : List ℕ) (a : ℕ) → is_among xs a ≡ true → KeepsApart r xs → back r xs (r a) ≡ a
back_is r [] a h apart = absurd (let e : false ≡ true = h in cc)
back_is r (x ∷ xs) a h apart =
    one_back r x xs a (nat_eq (r x) (r a)) refl h apart
    (λ g. back_is r xs a g (λ b c in_b in_c same. apart b c (among_behind x b xs in_b) (among_behind x c xs in_c) same))

-- what holds of each name among these holds of all
all_among : (P : ℕ → Type 0) (names : List ℕ) → ((a : ℕ) → is_among names a ≡ true → P a) → AllByRecursion P names
all_among P [] all = tt
all_among P (x ∷ xs) all = (all x (among_head x xs), all_among P xs (λ a h. all a (among_behind x a xs h)))

-- ## Functions

pub reflexive_func : (f : Func) → AreAlikeFuncs f f
reflexive_func f = record { renaming = λ id. id; apart = λ a b in_a in_b same. same; same = refl }

-- what is renamed is renamed as the function that is alike
placeless_renamed : (f g : Func) (h : AreAlikeFuncs f g) (s : ℕ → ℕ)
    → renamed_func (λ id. s (h.renaming id)) f ≡ renamed_func s g
placeless_renamed f g h s =
    sym (func_twice h.renaming s f) ∙ ap (renamed_func s) h.same ∙ func_twice (λ id. id) s g

map_id : (xs : List ℕ) → map (λ id. id) xs ≡ xs
map_id [] = refl
map_id (x ∷ xs) = ap (λ more. x ∷ more) (map_id xs)

names_alike : (f g : Func) (h : AreAlikeFuncs f g) → names_in_use g ≡ map h.renaming (names_in_use f)
names_alike f g h =
    sym (map_id (names_in_use g)) ∙ sym (names_renamed (λ id. id) g) ∙ ap names_in_use (sym h.same) ∙ names_renamed h.renaming f

pub transitive_func : (f g k : Func) → AreAlikeFuncs f g → AreAlikeFuncs g k → AreAlikeFuncs f k
transitive_func f g k a b = record {
  renaming = λ id. b.renaming (a.renaming id);
  apart = λ x y in_x in_y same. a.apart x y in_x in_y (b.apart (a.renaming x) (a.renaming y) (there x in_x) (there y in_y) same);
  same = placeless_renamed f g a b.renaming ∙ b.same;
}
  where
    there : (x : ℕ) → is_among (names_in_use f) x ≡ true → is_among (names_in_use g) (a.renaming x) ≡ true
    there x h = subst (λ names. is_among names (a.renaming x) ≡ true) (sym (names_alike f g a)) (mapped a.renaming (names_in_use f) x h)

pub symmetric_func : (f g : Func) → AreAlikeFuncs f g → AreAlikeFuncs g f
symmetric_func f g h = record {
  renaming = s;
  apart = λ x y in_x in_y same. apart_back (from x in_x) (from y in_y) same;
  same =
      sym (placeless_renamed f g h s)
      ∙ func_agree (λ id. s (h.renaming id)) (λ id. id) f
      (all_among (λ a. s (h.renaming a) ≡ a) (names_in_use f) (λ a in_a. back_is h.renaming (names_in_use f) a in_a h.apart));
}
  where
    s : ℕ → ℕ
    s y = back h.renaming (names_in_use f) y

    from : (x : ℕ) → is_among (names_in_use g) x ≡ true → IsRenamed h.renaming (names_in_use f) x
    from x in_x = renamed_from h.renaming (names_in_use f) x (subst (λ names. is_among names x ≡ true) (names_alike f g h) in_x)

    kept : {x : ℕ} (a : IsRenamed h.renaming (names_in_use f) x) → s x ≡ a.from
    kept a = ap s (sym a.to) ∙ back_is h.renaming (names_in_use f) a.from a.among h.apart

    apart_back : {x y : ℕ} (a : IsRenamed h.renaming (names_in_use f) x) (b : IsRenamed h.renaming (names_in_use f) y) → s x ≡ s y → x ≡ y
    apart_back a b same = sym a.to ∙ ap h.renaming (sym (kept a) ∙ same ∙ kept b) ∙ b.to

-- ## Modules

each_reflexive : (fs : List Func) → AreAlikeEach fs fs
each_reflexive [] = tt
each_reflexive (f ∷ fs) = (reflexive_func f, each_reflexive fs)

each_symmetric : (fs gs : List Func) → AreAlikeEach fs gs → AreAlikeEach gs fs
each_symmetric [] [] h = tt
each_symmetric [] (g ∷ gs) h = absurd h
each_symmetric (f ∷ fs) [] h = absurd h
each_symmetric (f ∷ fs) (g ∷ gs) h = (symmetric_func f g h.0, each_symmetric fs gs h.1)

each_transitive : (fs gs ks : List Func) → AreAlikeEach fs gs → AreAlikeEach gs ks → AreAlikeEach fs ks
each_transitive [] [] ks a b = b
each_transitive [] (g ∷ gs) ks a b = absurd a
each_transitive (f ∷ fs) [] ks a b = absurd a
each_transitive (f ∷ fs) (g ∷ gs) [] a b = absurd b
each_transitive (f ∷ fs) (g ∷ gs) (k ∷ ks) a b = (transitive_func f g k a.0 b.0, each_transitive fs gs ks a.1 b.1)

pub reflexive : (m : Module) → AreAlike m m
reflexive m = record { name = refl; grids = refl; funcs = each_reflexive m.funcs; calls = refl }

pub symmetric : (m n : Module) → AreAlike m n → AreAlike n m
symmetric m n h = record {
  name = sym h.name;
  grids = sym h.grids;
  funcs = each_symmetric m.funcs n.funcs h.funcs;
  calls = sym h.calls;
}

pub transitive : (l m n : Module) → AreAlike l m → AreAlike m n → AreAlike l n
transitive l m n a b = record {
  name = a.name ∙ b.name;
  grids = a.grids ∙ b.grids;
  funcs = each_transitive l.funcs m.funcs n.funcs a.funcs b.funcs;
  calls = a.calls ∙ b.calls;
}
