use Rattle.std.specs.Prelude.{get_or}
use Rattle.std.proofs.lemmas.List.{get_or_default}
use Rattle.sh_verify.proofs.NameLaws.{seen_again, seen_more}
use Rattle.sh_verify.proofs.argument_names.are_distinct_names.Goals as goal

pub returns-then-not-branch : goal.returns-then-not-branch
returns-then-not-branch c =
    let names = c.args.names.now in
    let name = get_or names c.loop-name.name-index 0 in
    seen_again c.loop-name.seen.keys names c.loop-name.name-index name c.in_ok-insert.field-0 c.loop-name.invariant
    c.loop-name-test.true (get_or_default names c.loop-name.name-index 0 name c.loop-name-test.true)
    c.in_ok-insert.ensures.added c.if-not-branch.true

pub loop-name-preserved : goal.loop-name-preserved
loop-name-preserved c =
    let names = c.args.names.now in
    let name = get_or names c.loop-name.name-index 0 in
    seen_more c.loop-name.seen.keys c.insert.new.self.keys names c.loop-name.name-index name c.in_ok-insert.field-0
    c.loop-name.invariant c.loop-name-test.true (get_or_default names c.loop-name.name-index 0 name c.loop-name-test.true)
    c.in_ok-insert.ensures.added c.in_ok-insert.ensures.keys c.if-not-branch.false
