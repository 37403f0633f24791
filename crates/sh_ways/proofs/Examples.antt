-- A small graph, by computation: from 0 to 3 at once, over 1 or over 2.
use Rattle.std.proofs.Common.{zero, suc, ◌≡◌, ℕ, List, [], ◌∷◌, arith, refl}
use Rattle.sh_ways.specs.Graph.{Graph, HasWay, total}

abbrev moves_at : ℕ → List ℕ
moves_at zero = 0 ∷ 1 ∷ 2 ∷ []
moves_at (suc zero) = 3 ∷ []
moves_at (suc (suc zero)) = 4 ∷ []
moves_at _ = []

abbrev cost_of : ℕ → ℕ
cost_of zero = 9
cost_of (suc zero) = 2
cost_of (suc (suc zero)) = 1
cost_of (suc (suc (suc zero))) = 3
cost_of _ = 4

abbrev end_of : ℕ → ℕ
end_of (suc zero) = 1
end_of (suc (suc zero)) = 2
end_of _ = 3

abbrev diamond : Graph ℕ ℕ
diamond = record { moves = moves_at; cost = λ _ m. cost_of m; to = λ _ m. end_of m }

over_one : HasWay diamond 0 3 5
over_one = record {
  way = 1 ∷ 3 ∷ [];
  leads = ((1, omega arith, refl), ((0, omega arith, refl), refl));
  sum = refl;
}

over_two : HasWay diamond 0 3 5
over_two = record {
  way = 2 ∷ 4 ∷ [];
  leads = ((2, omega arith, refl), ((0, omega arith, refl), refl));
  sum = refl;
}

at_once : total diamond 0 (0 ∷ []) ≡ 9
at_once = refl
