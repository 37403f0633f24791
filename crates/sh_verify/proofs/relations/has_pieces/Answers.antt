use mathlib.Core.Path.{◌∙◌, ap}
use Rattle.std.proofs.Common.{◌<◌, ◌%◌, nat_eq, arith}
use Rattle.sh_verify.specs.Lists.{above_extents}
use Rattle.sh_verify.specs.Relations.{members_of}
use Rattle.sh_verify.proofs.RelationLaws.{cut_remainder}
use Rattle.sh_verify.proofs.relations.has_pieces.Goals as goal

pub returns : goal.returns
returns c =
    let from : c.args.from < above_extents = omega arith in
    c.is_divided.ensures
    ∙ ap (λ k. nat_eq k 0) (ap (λ k. c.args.from % k) c.members.ensures ∙ cut_remainder c.args.from (members_of c.args.group) from)
