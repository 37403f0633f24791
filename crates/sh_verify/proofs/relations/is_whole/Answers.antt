use mathlib.Core.Path.{◌∙◌, ap}
use Rattle.std.proofs.Common.{◌<◌, ◌*◌, nat_eq, arith}
use Rattle.sh_verify.specs.Lists.{above_extents}
use Rattle.sh_verify.specs.Relations.{members_of}
use Rattle.sh_verify.proofs.RelationLaws.{cut_product}
use Rattle.sh_verify.proofs.relations.is_whole.Goals as goal

pub returns : goal.returns
returns c =
    let from : c.args.from < above_extents = omega arith in
    let to : c.args.to < above_extents = omega arith in
    c.is_product.ensures
    ∙ (ap (λ k. nat_eq (c.args.from * k) c.args.to) c.members.ensures ∙ cut_product c.args.from (members_of c.args.group) c.args.to from to)
