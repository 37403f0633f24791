use Rattle.std.proofs.Common.{arith}
use Rattle.sh_sharding.specs.Views.{mark_in}
use Rattle.sh_sharding.proofs.ViewLaws.{part_rises, size_is}
use Rattle.sh_sharding.proofs.offsets.part_size.Goals as goal

pub overflow_sub-result : goal.overflow_sub-result
overflow_sub-result c =
    let rises = part_rises c.args.extent c.args.parts c.args.mark c.args.part c.requires.dividing c.requires.part in
    omega (arith, c.offset.ensures.value, c.offset-2.ensures.value)

pub returns-clause-value : goal.returns-clause-value
returns-clause-value c =
    size_is c.args.extent c.args.parts c.args.part c.offset-2.result c.offset.result (mark_in c.args.extent c.args.parts c.args.mark) c.offset-2.ensures.value c.offset.ensures.value
