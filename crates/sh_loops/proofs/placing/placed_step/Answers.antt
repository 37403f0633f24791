use Rattle.std.proofs.Common.{Some, map, ap, ◌∙◌}
use Rattle.sh_pieces.specs.Instructions.{last_place}
use Rattle.sh_loops.proofs.placing.placed_step.Goals as goal

pub returns : goal.returns
returns c = record {
  sources = c.in_ok-sources.ensures ∙ ap (map (last_place (map (λ n. Some n) c.args.names.now))) c.as_slice.ensures;
  gives = c.work_of.ensures.gives;
  takes = c.work_of.ensures.takes;
}
