use Rattle.std.proofs.Common.{ap, ◌+◌, ◌++◌, ◌∷◌, []}
use Rattle.sh_world.proofs.StateLaws.{posts_kept}
use Rattle.sh_world.proofs.states.State.append.Goals as goal

pub returns-clause-ok : goal.returns-clause-ok
returns-clause-ok c =
    let s = c.args.self.now in
    rw c.in_ok-push.ensures.items (ap (λ ps. record { values = s.values.items ++ c.args.t ∷ []; next = s.next + 1; waits = s.waits; posts = ps }) (posts_kept s.values.items c.args.t s.posts.items c.requires.posted))
