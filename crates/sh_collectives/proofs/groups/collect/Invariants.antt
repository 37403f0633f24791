use Rattle.std.proofs.Common.{◌≡◌, length, map}
use Rattle.sh_collectives.proofs.PlaceRows.{from_place, so_far}
use Rattle.sh_sem.specs.Collected.{collected}
use Rattle.sh_collectives.proofs.groups.collect.Given as goal

abbrev pub invariant-loop-place : goal.invariant-loop-place
invariant-loop-place l =
    so_far l.results (from_place (collected l.op l.g.extents (map (λ t. t.now) l.ts)) (length l.ts) l.place)
    ≡ from_place (collected l.op l.g.extents (map (λ t. t.now) l.ts)) (length l.ts) 0
