use mathlib.Core.Path.{◌∙◌, ap, sym}
use Rattle.std.proofs.Common.{◌≤◌, length, nat_eq, arith}
use Rattle.std.specs.Prelude.{Some, option_map, ℕ}
use Rattle.std.specs.List.{position_or_len, range_with_len}
use Rattle.std.proofs.lemmas.List.FromFn.{length-range_with_len}
use Rattle.std.proofs.lemmas.Option.{slice_get_past, slice_get-map}
use Rattle.sh_ir.specs.Numbers.{as_naturals}
use Rattle.sh_verify.proofs.LoopLaws.{got_below}
use Rattle.sh_verify.proofs.loop_maps.place_below.Goals as goal

pub returns-then-at-rank : goal.returns-then-at-rank
returns-then-at-rank c =
    let place = λ (n : ℕ). position_or_len (nat_eq n) (as_naturals c.args.written.now) in
    ap (λ k. Some k) c.place_of.ensures
    ∙ sym (slice_get-map place (range_with_len 0 c.args.rank) c.args.at
    ∙ ap (option_map place) (got_below c.args.rank c.args.at c.if-at-rank.true))

pub returns-else-at-rank : goal.returns-else-at-rank
returns-else-at-rank c =
    let place = λ (n : ℕ). position_or_len (nat_eq n) (as_naturals c.args.written.now) in
    let past : length (range_with_len 0 c.args.rank) ≤ c.args.at = omega (arith, length-range_with_len 0 c.args.rank) in
    sym (slice_get-map place (range_with_len 0 c.args.rank) c.args.at
    ∙ ap (option_map place) (slice_get_past (range_with_len 0 c.args.rank) c.args.at past))
