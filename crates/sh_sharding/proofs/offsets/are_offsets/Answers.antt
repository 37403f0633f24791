use Rattle.sh_sharding.specs.Views.{offsets_in}
use Rattle.sh_sharding.proofs.Cases.{not_both}
use Rattle.sh_sharding.proofs.ViewLaws.{offsets_rise}
use Rattle.sh_sharding.proofs.offsets.are_offsets.Goals as goal

pub returns-then-not-is_rising : goal.returns-then-not-is_rising
returns-then-not-is_rising c = (
  λ t. absurd (cc),
  λ h. absurd (not_both c.is_rising.result (c.is_rising.ensures.1 (offsets_rise c.args.extent c.args.parts (offsets_in c.args.listing) c.loop-at.at h c.loop-at-test.true)) c.if-not-is_rising.true),
)
