use Rattle.std.proofs.Common.{nat_eq, ◌∙◌}
use Rattle.std.specs.List.{position_or_len}
use Rattle.sh_ir.specs.Numbers.{as_naturals}
use Rattle.sh_loops.proofs.ListedLaws.{one_placed}
use Rattle.sh_loops.proofs.loops.places.Goals as goal

pub loop-number-preserved : goal.loop-number-preserved
loop-number-preserved c =
    one_placed (λ n. position_or_len (nat_eq n) (as_naturals c.args.written.now)) c.loop-number.found.items c.push.new.self.items c.loop-number.number c.place_of.result
    c.loop-number.invariant c.place_of.ensures.value c.in_ok-push.ensures.items
