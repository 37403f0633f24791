use Rattle.std.proofs.Common.{ℕ, List, [], map, get_or, Option, ap, sym, subst, ◌∙◌}
use Rattle.std.specs.Prelude.{◌<◌, IsSome}
use Rattle.sh_base.specs.Shape.{cell_count}
use Rattle.sh_turns.specs.Program.{all_there}
use Rattle.sh_ir.specs.declared.functions.Arg.{Arg}
use Rattle.sh_pieces.specs.Runs.{argument_under}
use Rattle.sh_sem.specs.Returned.{returned}
use Rattle.sh_sem.specs.Steps.{device_function}
use Rattle.sh_lockstep.specs.Locks.{AreRows, IsStep}
use Rattle.sh_lockstep.specs.Tables.{values_in}
use Rattle.sh_lockstep.specs.declared.lock.Lock.{Lock}
use Rattle.sh_lockstep.proofs.Locked.{all_done, behind_none, behind_one, ends_all, ends_here, instruction_at, results_there}
use Rattle.sh_lockstep.proofs.lock.run.Goals as goal

pub loop-at-init : goal.loop-at-init
loop-at-init c =
    behind_none c.args.f.now c.args.g.now.extents c.args.args.now c.requires.can (values_in c.in_ok-table.table)
    (λ d name l. c.in_ok-table.ensures d name l
    ∙ ap (λ (ps : List Arg). argument_under (map (λ a. a.id) ps) (get_or c.args.args.now d []) name) c.as_slice.ensures)

pub advance-requires : goal.advance-requires
advance-requires c =
    let at = instruction_at c.args.ops.now (device_function c.args.f.now).instructions c.loop-at.at c.index-ops-at.result c.requires.ops c.loop-at-test.true c.index-ops-at.is in
    record {
      list = c.requires.can.lists c.loop-at.at c.index-ops-at.result.now at;
      axes = c.requires.can.axes c.loop-at.at c.index-ops-at.result.now at;
      can = c.requires.can.can c.loop-at.at c.index-ops-at.result.now (values_in c.loop-at.table) at c.loop-at.invariant;
    }

pub returns-in-Some : goal.returns-in-Some
returns-in-Some c =
    let op = c.index-ops-at.result.now in
    let at = instruction_at c.args.ops.now (device_function c.args.f.now).instructions c.loop-at.at c.index-ops-at.result c.requires.ops c.loop-at-test.true c.index-ops-at.is in
    ends_here c.args.f.now c.args.g.now.extents c.args.args.now c.requires.can c.loop-at.at op at (values_in c.loop-at.table) c.loop-at.invariant c.in-Some.end
    (subst (λ (end : Option Lock). IsStep c.args.g.now.extents op c.loop-at.at end (values_in c.loop-at.table) (values_in c.advance.new.table)) c.in-Some.is c.in_ok-end.ensures)

pub loop-at-preserved : goal.loop-at-preserved
loop-at-preserved c =
    let op = c.index-ops-at.result.now in
    let at = instruction_at c.args.ops.now (device_function c.args.f.now).instructions c.loop-at.at c.index-ops-at.result c.requires.ops c.loop-at-test.true c.index-ops-at.is in
    behind_one c.args.f.now c.args.g.now.extents c.args.args.now c.requires.can c.loop-at.at op at (values_in c.loop-at.table) c.loop-at.invariant (values_in c.advance.new.table)
    (subst (λ (end : Option Lock). IsStep c.args.g.now.extents op c.loop-at.at end (values_in c.loop-at.table) (values_in c.advance.new.table)) c.in_default.is c.in_ok-end.ensures)

pub results-requires : goal.results-requires
results-requires c =
    let all = all_done c.args.ops.now (device_function c.args.f.now).instructions c.loop-at.at c.requires.ops c.loop-at.invariant.within c.loop-at-test.false in
    subst (λ (names : List ℕ). (d : ℕ) → d < cell_count c.args.g.now.extents → IsSome (all_there (map (values_in c.loop-at.table d) names)))
    (sym (c.returned-names.ensures ∙ ap returned c.as_slice-2.ensures))
    (results_there c.args.f.now c.args.g.now.extents c.args.args.now c.requires.can (values_in c.loop-at.table) c.loop-at.at all c.loop-at.invariant)

pub returns : goal.returns
returns c =
    let all = all_done c.args.ops.now (device_function c.args.f.now).instructions c.loop-at.at c.requires.ops c.loop-at.invariant.within c.loop-at-test.false in
    ends_all c.args.f.now c.args.g.now.extents c.args.args.now c.requires.can (values_in c.loop-at.table) c.loop-at.at all c.loop-at.invariant c.in_ok-results.field-0
    (subst (λ (names : List ℕ). AreRows (values_in c.loop-at.table) names (cell_count c.args.g.now.extents) c.in_ok-results.field-0)
    (c.returned-names.ensures ∙ ap returned c.as_slice-2.ensures) c.in_ok-results.ensures)
