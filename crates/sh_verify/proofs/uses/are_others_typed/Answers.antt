use mathlib.Core.Path.{◌∙◌, ap}
use Rattle.std.proofs.Common.{◌&&◌, ◌++◌, drop, length}
use Rattle.sh_ir.specs.Typing.{are_of_types}
use Rattle.sh_verify.specs.OperandLists.{sharding_if}
use Rattle.sh_verify.proofs.LoopLaws.{typed_both}
use Rattle.sh_verify.proofs.uses.are_others_typed.Goals as goal

pub returns-then-are_of_types : goal.returns-then-are_of_types
returns-then-are_of_types c =
    let values = c.args.context.now.values in
    let first = c.args.types.second.now in
    let more = c.args.types.third.now ++ sharding_if c.args.types.sharding in
    c.are_last_typed.ensures
    ∙ (ap (are_of_types values more) c.other_names-others.ensures
    ∙ (ap (λ b. b && are_of_types values more (drop (length first) c.args.names.now)) c.if-are_of_types.ensures
    ∙ typed_both values first more c.args.names.now))

pub returns-else-are_of_types : goal.returns-else-are_of_types
returns-else-are_of_types c =
    let values = c.args.context.now.values in
    let first = c.args.types.second.now in
    let more = c.args.types.third.now ++ sharding_if c.args.types.sharding in
    c.if-are_of_types.false
    ∙ (ap (λ b. b && are_of_types values more (drop (length first) c.args.names.now)) c.if-are_of_types.ensures
    ∙ typed_both values first more c.args.names.now)
