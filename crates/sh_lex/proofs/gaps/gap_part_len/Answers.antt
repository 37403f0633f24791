use Rattle.std.proofs.Common.{arith, sym, ◌∙◌}
use Rattle.sh_lex.proofs.GapLemmas.{comment_part, blank_part}
use Rattle.sh_lex.proofs.gaps.gap_part_len.Goals as goal

pub returns-then-starts_with-clause-part : goal.returns-then-starts_with-clause-part
returns-then-starts_with-clause-part c = λ some.
    rw c.run_len.ensures.value ((comment_part c.args.rest.now (sym c.starts_with.ensures.value ∙ c.if-starts_with.true)).1)

pub returns-then-starts_with-clause-none : goal.returns-then-starts_with-clause-none
returns-then-starts_with-clause-none c = λ none.
    absurd (omega (arith, (comment_part c.args.rest.now (sym c.starts_with.ensures.value ∙ c.if-starts_with.true)).0))

pub returns-in-Some-clause-part : goal.returns-in-Some-clause-part
returns-in-Some-clause-part c = λ some.
    blank_part c.args.rest.now c.in-Some.byte.now c.in-Some.ensures.value (sym c.is_blank.ensures ∙ c.if-is_blank.true)
