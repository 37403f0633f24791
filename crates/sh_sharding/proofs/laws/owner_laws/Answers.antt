use Rattle.sh_sharding.proofs.OwnerLaws.{one_owner, all_sizes_sum}
use Rattle.sh_sharding.proofs.laws.owner_laws.Goals as goal

pub returns-clause-owner : goal.returns-clause-owner
returns-clause-owner c = λ device i l h. one_owner c.args.s.now device i c.whole-whole.ensures.admitted l h

pub returns-clause-sizes : goal.returns-clause-sizes
returns-clause-sizes c = all_sizes_sum c.args.s.now.grid.extents c.args.s.now.dimensions c.whole-whole.ensures.admitted.dimensions
