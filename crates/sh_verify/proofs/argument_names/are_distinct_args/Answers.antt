use Rattle.sh_verify.proofs.NameLaws.{id_read, id_within, ids, seen_again, seen_more}
use Rattle.sh_verify.proofs.argument_names.are_distinct_args.Goals as goal

pub returns-then-not-branch : goal.returns-then-not-branch
returns-then-not-branch c =
    let args = c.args.args.now in
    seen_again c.loop-arg.seen.keys (ids args) c.loop-arg.arg-index c.arg-item.result.id c.in_ok-insert.field-0 c.loop-arg.invariant
    (id_within args c.loop-arg.arg-index c.loop-arg-test.true) (id_read args c.loop-arg.arg-index c.arg-item.result c.loop-arg-test.true c.arg-item.is)
    c.in_ok-insert.ensures.added c.if-not-branch.true

pub loop-arg-preserved : goal.loop-arg-preserved
loop-arg-preserved c =
    let args = c.args.args.now in
    seen_more c.loop-arg.seen.keys c.insert.new.self.keys (ids args) c.loop-arg.arg-index c.arg-item.result.id c.in_ok-insert.field-0
    c.loop-arg.invariant (id_within args c.loop-arg.arg-index c.loop-arg-test.true)
    (id_read args c.loop-arg.arg-index c.arg-item.result c.loop-arg-test.true c.arg-item.is)
    c.in_ok-insert.ensures.added c.in_ok-insert.ensures.keys c.if-not-branch.false
