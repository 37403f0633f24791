use Rattle.std.proofs.Common.{sym, ◌∙◌}
use Rattle.std.proofs.lemmas.Bool.{leb-true}
use Rattle.sh_base.specs.Shape.{max_cells}
use Rattle.sh_sharding.specs.Sharding.{counted_cells}
use Rattle.sh_collectives.proofs.SizeLaws.{extents_small}
use Rattle.sh_collectives.proofs.sizes.small_shape.Goals as goal

pub shape_with-requires-clause-small : goal.shape_with-requires-clause-small
shape_with-requires-clause-small c = extents_small c.args.sizes.now (leb-true (counted_cells c.args.sizes.now) max_cells (sym c.is_small.ensures ∙ c.if-is_small.true))
