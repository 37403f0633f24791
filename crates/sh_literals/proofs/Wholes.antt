-- All of some values, where each is one: what stands in front of what is left.
use Rattle.std.proofs.Common.{◌≡◌, ℕ, suc, ◌+◌, ◌*◌, ◌<◌, arith, List, [], ◌∷◌, ◌++◌, Option, Some, None, option_map, map, refl, append_assoc}
use Rattle.sh_literals.specs.LiteralCells.{all_of, paired}
use Rattle.std.specs.List.{All}

joined : {Y : Type 0} (y : Y) (front : List Y) (ys : Option (List Y))
    → option_map (λ ys. front ++ ys) (option_map (λ ys. y ∷ ys) ys) ≡ option_map (λ ys. (front ++ y ∷ []) ++ ys) ys
joined y front None = refl
joined y front (Some ys) = rw append_assoc refl

-- one value more stands in front
pub one_more : {X Y : Type 0} (f : X → Option Y) (x : X) (y : Y) (front : List Y) (xs : List X) → f x ≡ Some y
    → option_map (λ ys. front ++ ys) (all_of (map f (x ∷ xs))) ≡ option_map (λ ys. (front ++ y ∷ []) ++ ys) (all_of (map f xs))
one_more f x y front xs e = rw e (joined y front (all_of (map f xs)))

-- a value that isn't one: then there are none
pub none_more : {X Y : Type 0} (f : X → Option Y) (x : X) (front : List Y) (xs : List X) → f x ≡ None
    → option_map (λ ys. front ++ ys) (all_of (map f (x ∷ xs))) ≡ None
none_more f x front xs e = rw e refl

-- what stands in front of the values that are left, where these are
abbrev pub joined_to : {Y : Type 0} → List Y → Option (List Y) → Option (List Y)
joined_to front None = None
joined_to front (Some ys) = Some (front ++ ys)

pair_joined : (front : List ℕ) (byte : ℕ) (bytes : Option (List ℕ))
    → joined_to (front ++ byte ∷ []) bytes ≡ joined_to front (option_map (λ bytes. byte ∷ bytes) bytes)
pair_joined front byte None = refl
pair_joined front byte (Some bytes) = rw append_assoc refl

-- two digits more
pub one_pair : (front : List ℕ) (high low : ℕ) (rest : List ℕ)
    → joined_to (front ++ (high * 16 + low) ∷ []) (paired rest) ≡ joined_to front (paired (high ∷ low ∷ rest))
one_pair front high low rest = pair_joined front (high * 16 + low) (paired rest)

-- none yet
pub no_front : (values : Option (List ℕ)) → joined_to [] values ≡ values
no_front None = refl
no_front (Some values) = refl

-- what holds of all digits holds of those behind the first two
pub behind_two : (high low : ℕ) (rest : List ℕ) → All (λ digit. digit < 16) (high ∷ low ∷ rest)
    → All (λ digit. digit < 16) rest
behind_two high low rest all = λ k d h. all (suc (suc k)) d (omega arith)
