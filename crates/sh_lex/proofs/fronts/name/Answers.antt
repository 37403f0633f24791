use Rattle.std.proofs.Common.{sym, ◌∙◌}
use Rattle.sh_lex.proofs.FrontLemmas.{name_front, name_fault}
use Rattle.sh_lex.proofs.fronts.name.Goals as goal

pub returns-then-len-eq0 : goal.returns-then-len-eq0
returns-then-len-eq0 c =
    let len = rw (c.class_of.ensures, c.split_at.ensures.back) at c.run_len-len.ensures.value in
    name_fault c.args.kind c.args.rest.now c.args.place c.requires (sym len ∙ c.if-len-eq0.true)

pub returns : goal.returns
returns c =
    let len = rw (c.class_of.ensures, c.split_at.ensures.back) at c.run_len-len.ensures.value in
    name_front c.args.kind c.args.rest.now c.args.place c.run_len-len.result c.requires len (rw (← c.split_at.ensures.back) c.run_len-len.ensures.within) c.if-len-eq0.false
