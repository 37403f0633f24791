-- The last place of a name, one name more.
use Rattle.std.proofs.Common.{◌≡◌, ◌≢◌, ℕ, zero, suc, ◌+◌, ◌<◌, ◌≤◌, Bool, true, false, List, [], ◌∷◌, ◌++◌, map, length, get_or, take, Option, Some, None, refl, ap, ap₂, sym, ◌∙◌, arith, add-one}
use Rattle.std.specs.Prelude.{cond}
use Rattle.std.proofs.lemmas.List.{length-map, length-take}
use Rattle.sh_pieces.specs.Instructions.{is_name, last_place}
use Rattle.sh_pieces.proofs.Names.{name_itself, name_other, place_push}

somes-more : (names : List ℕ) (i d : ℕ) → i < length names → map (λ n. Some n) (take (i + 1) names) ≡ map (λ n. Some n) (take i names) ++ Some (get_or names i d) ∷ []
somes-more names i d l = ap (λ n. map (λ k. Some k) (take n names)) (add-one i) ∙ go names i l
  where
    go : (names : List ℕ) (i : ℕ) → i < length names → map (λ n. Some n) (take (suc i) names) ≡ map (λ n. Some n) (take i names) ++ Some (get_or names i d) ∷ []
    go [] i l = absurd (omega (arith, l))
    go (n ∷ names) zero l = refl
    go (n ∷ names) (suc i) l = ap (λ xs. Some n ∷ xs) (go names i (omega (arith, l)))

pub name_here : (names : List ℕ) (i d name : ℕ) → i < length names → get_or names i d ≡ name → Some i ≡ last_place (map (λ n. Some n) (take (i + 1) names)) name
name_here names i d name l e =
    sym (ap (λ ns. last_place ns name) (somes-more names i d l)
    ∙ place_push (map (λ n. Some n) (take i names)) (Some (get_or names i d)) name
    ∙ ap₂ (λ b k. cond b (Some k) (last_place (map (λ n. Some n) (take i names)) name)) (ap (λ a. is_name (Some a) name) e ∙ name_itself name)
    (length-map (take i names) (λ n. Some n) ∙ length-take i names ∙ omega (arith, l)))

pub name_not_here : (names : List ℕ) (i d name : ℕ) (found : Option ℕ) → i < length names → get_or names i d ≢ name → found ≡ last_place (map (λ n. Some n) (take i names)) name
    → found ≡ last_place (map (λ n. Some n) (take (i + 1) names)) name
name_not_here names i d name found l e h =
    h
    ∙ sym (ap (λ ns. last_place ns name) (somes-more names i d l)
    ∙ place_push (map (λ n. Some n) (take i names)) (Some (get_or names i d)) name
    ∙ ap (λ b. cond b (Some (length (map (λ n. Some n) (take i names)))) (last_place (map (λ n. Some n) (take i names)) name)) (name_other (get_or names i d) name e))
