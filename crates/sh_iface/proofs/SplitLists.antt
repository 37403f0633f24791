-- The splits of all loops are those of each.
use Rattle.std.proofs.Common.{◌≡◌, ℕ, zero, suc, ◌<◌, ◌≤◌, List, [], ◌∷◌, length, None, refl, ap, sym, ◌∙◌, arith}
use Rattle.std.specs.List.{AllByRecursion}
use Rattle.std.specs.Prelude.{get_or}
use Rattle.sh_iface.specs.LoopNest.{HasNoWindows, IsPlainNest, Loop, LoopNest, NestValue, value_at}
use Rattle.sh_iface.specs.Splits.{OptionValue}
use Rattle.sh_iface.specs.Valid.{AreSplits, MayBeSplit}

pub all_at : {X : Type 0} (P : X → Type 0) (xs : List X) (d : X) (i : ℕ) → AllByRecursion P xs → i < length xs → P (get_or xs i d)
all_at P [] d i h l = absurd (omega arith)
all_at P (x ∷ xs) d zero h l = h.0
all_at P (x ∷ xs) d (suc i) h l = all_at P xs d i h.1 (omega arith)

pub splits_counted : (g : List ℕ) (loops : List Loop) (o : OptionValue) → AreSplits g loops o → length o ≡ length loops
splits_counted g [] [] h = refl
splits_counted g [] (x ∷ o) h = absurd h
splits_counted g (loop ∷ loops) [] h = absurd h
splits_counted g (loop ∷ loops) (x ∷ o) h = ap suc (splits_counted g loops o h.1)

pub split_in : (g : List ℕ) (loops : List Loop) (o : OptionValue) (d : Loop) (l : ℕ) → AreSplits g loops o → l < length loops → MayBeSplit g (get_or loops l d) (get_or o l None)
split_in g [] o d l h le = absurd (omega arith)
split_in g (loop ∷ loops) [] d l h le = absurd h
split_in g (loop ∷ loops) (x ∷ o) d zero h le = h.0
split_in g (loop ∷ loops) (x ∷ o) d (suc l) h le = split_in g loops o d l h.1 (omega arith)

pub splits_of : (g : List ℕ) (loops : List Loop) (o : OptionValue) (d : Loop) → length o ≡ length loops → ((l : ℕ) → l < length loops → MayBeSplit g (get_or loops l d) (get_or o l None)) → AreSplits g loops o
splits_of g [] [] d e h = tt
splits_of g [] (x ∷ o) d e h = absurd (omega arith)
splits_of g (loop ∷ loops) [] d e h = absurd (omega arith)
splits_of g (loop ∷ loops) (x ∷ o) d e h = (h 0 (omega arith), splits_of g loops o d (omega arith) (λ l le. h (suc l) (omega arith)))

-- what holds below a number and at it holds up to it
pub up_to : (P : ℕ → Type 0) (k i : ℕ) → ((j : ℕ) → j < k → P j) → P k → i ≤ k → P i
up_to P zero zero h p le = p
up_to P zero (suc i) h p le = absurd (omega arith)
up_to P (suc k) zero h p le = h 0 (omega arith)
up_to P (suc k) (suc i) h p le = up_to (λ n. P (suc n)) k i (λ j l. h (suc j) (omega arith)) p (omega arith)

plain_get : (values : List NestValue) (d : NestValue) (v : ℕ) → AllByRecursion HasNoWindows values → HasNoWindows d → HasNoWindows (get_or values v d)
plain_get [] d v h p = p
plain_get (x ∷ values) d zero h p = h.0
plain_get (x ∷ values) d (suc v) h p = plain_get values d v h.1 p

-- no value of a plain nest is read through a window
pub plain_at : (nest : LoopNest) (v : ℕ) → IsPlainNest nest → HasNoWindows (value_at nest v)
plain_at nest v h = plain_get nest.operands nest.result v h.0 h.1

got : {X : Type 0} (xs : List X) (i : ℕ) (x d : X) → i < length xs → x ≡ get_or xs i x → get_or xs i d ≡ x
got [] i x d l e = absurd (omega arith)
got (y ∷ xs) zero x d l e = sym e
got (y ∷ xs) (suc i) x d l e = got xs i x d (omega arith) e

-- an element that is read of the same list
pub read_at : {X : Type 0} (xs items : List X) (i : ℕ) (x d : X) → items ≡ xs → i < length items → x ≡ get_or items i x → get_or xs i d ≡ x
read_at {X} xs items i x d same l e = sym (ap (λ (zs : List X). get_or zs i d) same) ∙ got items i x d l e
