use Rattle.std.proofs.Common.{◌≡◌, ◌<◌, ◌∙◌, ◌++◌, ◌∷◌, [], arith, length, length-append}
use Rattle.std.proofs.lemmas.List.{length-map}
use Rattle.sh_sharding.specs.Sharding.{ShardingValue}
use Rattle.sh_plan.proofs.EdgeRows.{all_rows, row_more}
use Rattle.sh_plan.proofs.Numbers.{one_number}
use Rattle.sh_plan.specs.States.{keys_in}
use Rattle.sh_plan.proofs.exploring.reached.Goals as goal

pub reached-preserved : goal.reached-preserved
reached-preserved c =
    let at : c.len-in-reached-2.result ≡ length c.reached.rows.items = c.len-in-reached-2.ensures ∙ c.reached.rows.ok.0 in
    let long = length-map c.reached.states.known.items (λ (s : ShardingValue). s.dimensions) in
    let long_then = length-map c.row_of.new.states.known.items (λ (s : ShardingValue). s.dimensions) in
    let less : length c.reached.rows.items < length (keys_in c.reached.states) = omega (arith, c.reached.rows.ok.0) in
    let pushed : c.push.new.self.items ≡ c.reached.rows.items ++ c.in_ok-row.row ∷ [] = c.in_ok-push.ensures.items in
    let keeps = c.in_ok-row.ensures.keeps in
    record {
      states = c.in_ok-row.ensures.states;
      long = rw pushed (rw (length-append c.reached.rows.items (c.in_ok-row.row ∷ [])) (omega (arith, keeps.longer)));
      source = keeps.keeps c.in_ok-start.start c.args.from.now.dimensions c.reached.invariant.source;
      target = keeps.keeps c.in_ok-goal.goal c.args.to.now.dimensions c.reached.invariant.target;
      rows = row_more c.args.to.now (keys_in c.reached.states) (keys_in c.row_of.new.states) c.reached.rows.items c.push.new.self.items c.in_ok-row.row keeps less
          c.reached.invariant.rows pushed (rw (← at) c.in_ok-row.ensures.row);
    }

pub returns : goal.returns
returns c =
    let all : length c.reached.rows.items ≡ length c.reached.states.known.items = omega (arith, c.reached.rows.ok.0, c.reached.invariant.long) in
    let long = length-map c.reached.states.known.items (λ (s : ShardingValue). s.dimensions) in
    let states = c.reached.invariant.states in
    record {
      each = states.each;
      source = c.reached.invariant.source;
      target = c.reached.invariant.target;
      once = one_number c.args.to.now c.reached.states states;
      apart = rw states.codes at states.once;
      numbering = all_rows c.args.to.now (keys_in c.reached.states) c.reached.rows.items (omega (arith, all, long)) c.reached.invariant.rows;
    }
