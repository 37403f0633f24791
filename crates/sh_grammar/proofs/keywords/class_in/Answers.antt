use Rattle.std.proofs.Common.{◌+◌, ◌∙◌, sym, arith}
use Rattle.sh_grammar.proofs.Words.{class_next}
use Rattle.sh_grammar.proofs.keywords.class_in.Goals as goal

pub loop-i-preserved : goal.loop-i-preserved
loop-i-preserved c =
    c.loop-i.invariant
    ∙ class_next c.args.texts.now c.args.classes.now c.loop-i.i (c.loop-i.i + 1) _ c.args.text.now c.args.other
    c.loop-i-test.true c.requires (omega arith) (rw c.as_bytes.ensures.value at (sym c.eq.ensures ∙ c.if-eq.false))
