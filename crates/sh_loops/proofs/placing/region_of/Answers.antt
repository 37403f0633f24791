use Rattle.std.proofs.Common.{Some, map, ap, ◌∙◌}
use Rattle.sh_pieces.specs.Instructions.{last_place}
use Rattle.sh_loops.proofs.PlacedLaws.{region_stands}
use Rattle.sh_loops.proofs.placing.region_of.Goals as goal

pub returns-clause-body : goal.returns-clause-body
returns-clause-body c =
    region_stands _ _ _ c.args.captured.now c.args.body.now c.as_slice.result.now _ _ c.as_slice.ensures c.in_ok-names.ensures c.in_ok-steps.ensures
    (c.last_place-yields.ensures ∙ ap (λ ns. last_place (map (λ n. Some n) ns) c.args.body.now.yields) c.as_slice-2.ensures.value)
