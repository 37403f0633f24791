use Rattle.std.proofs.Common.{◌≡◌, nat_eq, [], ◌∷◌, drop, sym, ◌∙◌}
use Rattle.std.specs.List.{prefix_len, starts_with}
use Rattle.sh_lex.specs.Tokens.{is_string_byte}
use Rattle.sh_lex.proofs.FrontLemmas.{string_front, string_fault}
use Rattle.sh_lex.proofs.fronts.string.Goals as goal
use Rattle.sh_lex.proofs.fronts.string.Goals.{After-starts_with}

len_is : (c : After-starts_with) → c.run_len-len.result ≡ prefix_len is_string_byte (drop 1 c.args.rest.now)
len_is c = rw c.split_at.ensures.back at c.run_len-len.ensures.value

closed_is : (c : After-starts_with) → c.starts_with.result ≡ starts_with nat_eq (drop c.run_len-len.result (drop 1 c.args.rest.now)) (34 ∷ [])
closed_is c = rw (c.split_at-2.ensures.back, c.split_at.ensures.back) at c.starts_with.ensures.value

pub returns-then-not-starts_with : goal.returns-then-not-starts_with
returns-then-not-starts_with c =
    let so_far = (goal.at.returns-then-not-starts_with c).After-starts_with in
    string_fault c.args.rest.now c.args.place c.run_len-len.result c.requires (len_is so_far) (sym (closed_is so_far) ∙ c.if-not-starts_with.true)

pub returns : goal.returns
returns c =
    let so_far = (goal.at.returns c).After-starts_with in
    string_front c.args.rest.now c.args.place c.run_len-len.result c.requires (len_is so_far) (sym (closed_is so_far) ∙ c.if-not-starts_with.false)
