use Rattle.std.proofs.Common.{◌≡◌, ◌+◌, ◌-◌, take, drop, length, arith}
use Rattle.std.proofs.lemmas.Grind.{common_steps}
use Rattle.sh_cli.proofs.Decimals.{split_parts, split_found}
use Rattle.sh_cli.proofs.vector_sum.split_at_byte.Goals as goal

pub returns-in_err-end : goal.returns-in_err-end
returns-in_err-end c = λ before after none e. absurd (split_found c.args.byte c.args.text.now before after none e c.in_err-end.ensures.at)

pub returns : goal.returns
returns c =
    let whole : take (length c.args.text.now - (c.in_ok-end.end + 1)) (drop (c.in_ok-end.end + 1) c.args.text.now) ≡ drop (c.in_ok-end.end + 1) c.args.text.now = grind (arith, common_steps) in
    λ before after none e. let parts = split_parts c.args.byte c.in_ok-end.end c.args.text.now before after none e c.in_ok-end.ensures.at in (parts.0, rw whole parts.1)
