use Rattle.std.proofs.Common.{refl}
use Rattle.sh_parse.proofs.Tables.{later_more}
use Rattle.sh_parse.proofs.maps.Maps.new.Goals as goal

pub loop-alias-preserved : goal.loop-alias-preserved
loop-alias-preserved c =
    later_more c.loop-alias.maps _ c.args.aliases.now c.loop-alias.rest.now c.in-Some.front.now c.in-Some.alias.now c.as_slice.result _
    c.in-Some.ensures.cases.0 c.as_slice.ensures refl c.in_ok-insert.ensures.entries c.loop-alias.invariant
