use Rattle.sh_plan.proofs.TableSteps.{is_table}
use Rattle.sh_plan.proofs.tables.table_of.Goals as goal

pub returns : goal.returns
returns c =
    rw c.from_vec.ensures (is_table c.args.g.now c.args.states.now c.args.numbers.now c.in_ok-entries.entries.items c.sort_entries.new.entries.items c.requires.on c.in_ok-entries.ensures.states c.in_ok-entries.ensures.numbers
    c.sort_entries.ensures.same c.in_ok-sort_entries.ensures.sorted)
