use Rattle.std.proofs.Common.{sym, ◌∙◌}
use Rattle.sh_lex.proofs.FrontLemmas.{number_front, dim_front}
use Rattle.sh_lex.proofs.fronts.number.Goals as goal

pub returns-then-starts_with : goal.returns-then-starts_with
returns-then-starts_with c =
    let narrow = rw c.split_at.ensures.front at (c.is_narrow.ensures.0 c.if-not-is_narrow.false) in
    let closed = rw c.split_at.ensures.back at (sym c.starts_with.ensures.value ∙ c.if-starts_with.true) in
    dim_front c.args.rest.now c.args.place c.run_len-len.result c.requires c.run_len-len.ensures.value narrow closed

pub returns : goal.returns
returns c =
    let narrow = rw c.split_at.ensures.front at (c.is_narrow.ensures.0 c.if-not-is_narrow.false) in
    let open_end = rw c.split_at.ensures.back at (sym c.starts_with.ensures.value ∙ c.if-starts_with.false) in
    number_front c.args.rest.now c.args.place c.run_len-len.result c.requires c.run_len-len.ensures.value c.run_len-len.ensures.within narrow open_end
