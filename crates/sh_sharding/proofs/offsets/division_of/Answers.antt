use Rattle.sh_sharding.proofs.PartLaws.{is_seen}
use Rattle.sh_sharding.proofs.offsets.division_of.Goals as goal

pub returns : goal.returns
returns c = is_seen c.args.g.now.extents c.args.d.now c.group_size.result c.mark_view.result c.requires.divided c.requires.normal c.group_size.ensures.value c.group_size.ensures.some c.group_size.ensures.few c.mark_view.ensures
