use Rattle.std.proofs.Common.{◌≡◌, drop, map}
use Rattle.std.specs.List.{list_all}
use Rattle.sh_sem.specs.Pieces.{is_like}
use Rattle.sh_collectives.proofs.members.are_like.Given as goal

abbrev pub invariant-loop-other : goal.invariant-loop-other
invariant-loop-other l =
    list_all (is_like l.axis l.first) (map (λ s. s.now) (drop l.other-index l.others)) ≡ list_all (is_like l.axis l.first) (map (λ s. s.now) l.others)
