use Rattle.std.proofs.Common.{◌≡◌, ◌∙◌, ◌+◌, ◌-◌, ◌<◌, ◌&&◌, not, ℕ, ap, ap₂, sym, map, string_bytes, Global, List, ◌∷◌, take, drop, length, length-drop, get_or, add-one, drop-cons, suc}
use Rattle.std.proofs.Math.Seq.{take-length}
use Rattle.sh_words.specs.Words.{Text, is_given, name_of, names_once}
use Rattle.sh_words.proofs.acceptance.have_names_once.Goals as goal

-- the word at i is of another name than those after it, and those are of different names
once_at : {X : Type 0} (f : X → Text) (xs : List X) (i : ℕ) (x : X) (name : Text) → i < length xs → x ≡ get_or xs i x → name ≡ name_of (f x)
    → names_once (map f (drop i xs)) ≡ (not (is_given name (map f (take (length xs - (i + 1)) (drop (i + 1) xs)))) && names_once (map f (drop (i + 1) xs)))
once_at f xs i x name lt at is =
    ap (λ l. names_once (map f l)) (drop-cons xs i x lt ∙ ap (λ y. y ∷ drop (suc i) xs) (sym at))
    ∙ ap₂ (λ (n : Text) (k : ℕ). not (is_given n (map f (drop k xs))) && names_once (map f (drop k xs))) (sym is) (sym (add-one i))
    ∙ ap (λ ys. not (is_given name (map f ys)) && names_once (map f (drop (i + 1) xs))) (sym (rest xs (i + 1)))
  where
    -- the slice from i on is what is left
    rest : {Y : Type 0} (ys : List Y) (k : ℕ) → take (length ys - k) (drop k ys) ≡ drop k ys
    rest ys k = ap (λ n. take n (drop k ys)) (sym (length-drop k ys)) ∙ take-length (drop k ys)

pub returns-then-is_in : goal.returns-then-is_in
returns-then-is_in c =
    sym (c.loop-i.invariant
    ∙ once_at (string_bytes {Z = Global}) c.args.words.now c.loop-i.i c.index-words-i.result c.parts.result.0.now c.loop-i-test.true c.index-words-i.is
    (c.parts.ensures.name ∙ ap name_of c.as_str.ensures.value)
    ∙ ap (λ b. not b && names_once (map (string_bytes {Z = Global}) (drop (c.loop-i.i + 1) c.args.words.now))) (sym c.is_in.ensures ∙ c.if-is_in.true))

pub loop-i-preserved : goal.loop-i-preserved
loop-i-preserved c =
    c.loop-i.invariant
    ∙ once_at (string_bytes {Z = Global}) c.args.words.now c.loop-i.i c.index-words-i.result c.parts.result.0.now c.loop-i-test.true c.index-words-i.is
    (c.parts.ensures.name ∙ ap name_of c.as_str.ensures.value)
    ∙ ap (λ b. not b && names_once (map (string_bytes {Z = Global}) (drop (c.loop-i.i + 1) c.args.words.now))) (sym c.is_in.ensures ∙ c.if-is_in.false)
