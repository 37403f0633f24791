-- What the members of a group give, one after the other.
use Rattle.std.proofs.Common.{◌≡◌, ℕ, ◌-◌, List, [], ◌∷◌, map, Option, ap, refl, ◌∙◌, arith}
use Rattle.std.specs.List.{range_with_len}
use Rattle.sh_collectives.proofs.PlaceRows.{from_place}
use Rattle.sh_grid.specs.Grid.{group_of, group_size_of, member_of}
use Rattle.sh_turns.specs.Program.{all_there}

map_twice : {X Y Z : Type 0} (f : Y → Z) (g : X → Y) (xs : List X) → map f (map g xs) ≡ map (λ x. f (g x)) xs
map_twice f g [] = refl
map_twice f g (x ∷ xs) = ap (λ zs. f (g x) ∷ zs) (map_twice f g xs)

pub of_group : {V : Type 0} (f : ℕ → Option V) (s axes : List ℕ) (device : ℕ)
    → all_there (map f (group_of s axes device)) ≡ from_place (λ p. f (member_of s axes device p)) (group_size_of s axes) 0
unfolding group_of
of_group f s axes device =
    let n = group_size_of s axes in
    let whole : n ≡ n - 0 = omega arith in
    ap all_there (map_twice f (member_of s axes device) (range_with_len 0 n))
    ∙ ap (λ k. all_there (map (λ p. f (member_of s axes device p)) (range_with_len 0 k))) whole
