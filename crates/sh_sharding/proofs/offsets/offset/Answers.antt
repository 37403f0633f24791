use Rattle.std.proofs.Common.{subst}
use Rattle.sh_sharding.specs.Views.{HasOrder, offsets_in}
use Rattle.sh_sharding.proofs.MarkLaws.{offsets_between}
use Rattle.sh_sharding.proofs.ViewLaws.{balanced-within, found_some, listed_value}
use Rattle.sh_sharding.proofs.offsets.offset.Goals as goal

pub unwrap-requires : goal.unwrap-requires
unwrap-requires c =
    let order = subst (HasOrder c.args.extent c.args.parts) c.in-Listed.is c.requires.dividing.order in
    found_some c.listed_offset.result _ _ _ c.listed_offset.ensures (offsets_between c.args.extent c.args.parts (offsets_in c.in-Listed.listing) c.args.part order c.requires.part)

pub returns-in-Balanced-clause-within : goal.returns-in-Balanced-clause-within
returns-in-Balanced-clause-within c = rw c.balanced_offset.ensures (balanced-within c.args.extent c.args.parts c.args.part)

pub returns-in-Listed-clause-value : goal.returns-in-Listed-clause-value
returns-in-Listed-clause-value c =
    let order = subst (HasOrder c.args.extent c.args.parts) c.in-Listed.is c.requires.dividing.order in
    let found = rw c.unwrap.ensures at c.listed_offset.ensures in
    rw c.in-Listed.is (listed_value c.args.extent c.args.parts c.args.part c.unwrap.result (offsets_in c.in-Listed.listing) order c.requires.part found.0)
