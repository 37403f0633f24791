use Rattle.std.proofs.Common.{◌≡◌, rules, length}
use Rattle.std.proofs.lemmas.List.Elements.{All-from_recursion}
use Rattle.sh_plan.specs.Moves.{IsNamed, candidates}
use Rattle.sh_plan.proofs.CandidateSteps.{all_named}
use Rattle.sh_plan.proofs.candidates.allowed_moves.Goals as goal

pub allowed_of-requires-clause-named : goal.allowed_of-requires-clause-named
allowed_of-requires-clause-named c =
    let axes = length c.args.s.now.grid.extents in
    let rank = length c.args.s.now.dimensions in
    let listed : c.as_slice.result.now ≡ candidates (length c.args.s.now.grid.extents) (length c.args.s.now.dimensions) = search rules in
    rw listed (All-from_recursion (IsNamed (length c.args.s.now.grid.extents) (length c.args.s.now.dimensions)) (candidates (length c.args.s.now.grid.extents) (length c.args.s.now.dimensions))
    (all_named (length c.args.s.now.grid.extents) (length c.args.s.now.dimensions)))
