use Rattle.std.proofs.Common.{◌≡◌, List, length, ap₂, arith, ◌∙◌}
use Rattle.std.specs.Prelude.{nat_le}
use Rattle.std.specs.List.{list_all}
use Rattle.sh_turns.specs.World.{finished}
use Rattle.sh_world.specs.declared.states.State.{State}
use Rattle.sh_world.specs.Machine.{program_of}
use Rattle.sh_world.proofs.SoundLaws.{over_where_all}
use Rattle.sh_world.proofs.StartLaws.{after_any}
use Rattle.sh_world.proofs.worlds.World.finished.Goals as goal

pub returns : goal.returns
returns c =
    let size : c.len.result ≡ length c.self.inside.script.instructions.items = omega (arith, c.len.ensures) in
    let here : c.are_over.result ≡ list_all (λ (t : State). nat_le (length c.self.inside.script.instructions.items) t.next) c.self.inside.states.items =
    c.are_over.ensures ∙ ap₂ (λ n (ts : List State). list_all (λ (t : State). nat_le n t.next) ts) size c.as_slice.ensures.value in
    after_any c.args.self.now (λ w. c.are_over.result ≡ finished (program_of c.args.self.now.source) w)
    (rw (← c.self.view_is) (here ∙ over_where_all c.self.inside.script c.self.inside.states.items c.self.invariant))
