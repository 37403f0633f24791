use Rattle.std.proofs.Common.{◌≡◌, map, true, take}
use Rattle.std.specs.List.{list_all}
use Rattle.sh_words.specs.Values.{is_decimal, signed_value}
use Rattle.sh_words.proofs.values.numbers.Given as goal

abbrev pub invariant-loop-piece : goal.invariant-loop-piece
invariant-loop-piece l =
    (list_all (λ s. is_decimal s.now) (take l.piece-index l.piece-items) ≡ true)
    × (l.all ≡ map (λ s. signed_value s.now) (take l.piece-index l.piece-items))
