use mathlib.Core.Path.{sym}
use Rattle.std.proofs.Common.{◌≡◌, length, arith}
use Rattle.std.specs.List.{range_with_len}
use Rattle.std.proofs.lemmas.List.FromFn.{length-range_with_len}
use Rattle.sh_verify.proofs.LoopLaws.{uneven}
use Rattle.sh_verify.proofs.maps.count_up.Goals as goal

pub returns-then-names-bound : goal.returns-then-names-bound
returns-then-names-bound c =
    sym (uneven c.args.names.now (range_with_len 0 c.args.bound) (λ same.
    let count : length (range_with_len 0 c.args.bound) ≡ c.args.bound = length-range_with_len 0 c.args.bound in
    c.if-names-bound.true (omega arith)))
