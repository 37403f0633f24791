use Rattle.std.proofs.Common.{◌+◌, length, map, ap, sym, ◌∙◌}
use Rattle.sh_collectives.proofs.PlaceRows.{adds, from_place, so_far}
use Rattle.sh_sem.specs.Collected.{collected}
use Rattle.sh_collectives.proofs.groups.collect.Goals as goal

pub collect_at-requires-clause-small : goal.collect_at-requires-clause-small
collect_at-requires-clause-small c = c.requires.small c.loop-place.place c.loop-place-test.true

pub loop-place-preserved : goal.loop-place-preserved
loop-place-preserved c =
    let f = collected c.args.op.now c.args.g.now.extents (map (λ t. t.now) c.args.ts.now) in
    let n = length c.args.ts.now in
    ap (λ xs. so_far xs (from_place f n (c.loop-place.place + 1))) c.in_ok-push-in-Some.ensures.ok
    ∙ adds f n c.loop-place.place c.loop-place.results c.in-Some.t _ c.loop-place-test.true (sym c.in_ok-t.ensures ∙ c.in-Some.is) c.loop-place.invariant
