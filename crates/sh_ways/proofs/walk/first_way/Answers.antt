use Rattle.std.proofs.Common.{◌≡◌, [], ◌∷◌, append-nil, sym, ◌∙◌, get_or}
use Rattle.sh_ways.specs.Rows.{edges_at}
use Rattle.sh_ways.proofs.Passes.{edges_at-row}
use Rattle.sh_ways.proofs.Walks.{some_tight, Taken, pushed_way, taken, tight_is_some}
use Rattle.sh_ways.proofs.walk.first_way.Given as given
use Rattle.sh_ways.proofs.walk.first_way.Goals as goal

pub unwrap-edge-requires : goal.unwrap-edge-requires
unwrap-edge-requires g c =
    let row : edges_at c.args.rows.now c.loop-at.at ≡ c.deref.result.now = edges_at-row c.args.rows.now c.loop-at.at c.index-rows-at.result c.loop-at.invariant.within c.index-rows-at.is ∙ sym c.deref.ensures.value in
    let some = some_tight c.args.rows.now c.args.goal c.args.d.now c.loop-at.at c.requires.range c.requires.dists c.loop-at.invariant.within c.loop-at-test.true in
    tight_is_some c.first_tight.result c.deref.result.now c.args.d.now (get_or c.args.d.now c.loop-at.at 0) c.first_tight.ensures.none some.0 (rw row at some.1) some.2

now_taken : (g : given.Over) (c : goal.In_ok-push g) → Taken c.args.rows.now c.args.goal c.args.d.now c.loop-at.at c.unwrap-edge.result
now_taken g c =
    let row : edges_at c.args.rows.now c.loop-at.at ≡ c.deref.result.now = edges_at-row c.args.rows.now c.loop-at.at c.index-rows-at.result c.loop-at.invariant.within c.index-rows-at.is ∙ sym c.deref.ensures.value in
    taken c.args.rows.now c.args.goal c.args.d.now c.loop-at.at c.unwrap-edge.result c.deref.result.now c.first_tight.result
    c.requires.range c.requires.costs c.requires.dists c.loop-at.invariant.within c.loop-at-test.true row c.unwrap-edge.ensures c.first_tight.ensures.found

pub loop-at-smaller : goal.loop-at-smaller
loop-at-smaller g c = (now_taken g c).nearer

pub loop-at-preserved : goal.loop-at-preserved
loop-at-preserved g c = record {
  within = (now_taken g c).within;
  begins = λ rest plan. pushed_way c.args.rows.now c.args.from c.args.goal c.loop-at.way.items c.push.new.self.items c.unwrap-edge.result rest c.in_ok-push.ensures.items
      (c.loop-at.invariant.begins (c.unwrap-edge.result ∷ rest) ((now_taken g c).plan rest plan));
}

pub returns : goal.returns
returns g c = record { plan = rw (append-nil c.loop-at.way.items) at (c.loop-at.invariant.begins [] c.loop-at-test.false) }
