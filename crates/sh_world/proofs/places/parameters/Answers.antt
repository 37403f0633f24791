use Rattle.std.proofs.Common.{Some, ap, ◌∙◌, get_or, refl}
use Rattle.sh_ir.specs.declared.functions.Arg.{Arg}
use Rattle.sh_world.specs.Scripts.{with_place}
use Rattle.sh_world.proofs.PlaceLaws.{parameters_more}
use Rattle.sh_world.proofs.places.parameters.Goals as goal

pub loop-at-preserved : goal.loop-at-preserved
loop-at-preserved c =
    let a : Arg = get_or c.args.params.now c.loop-at.at c.index-params-at.result in
    c.in_ok-define.ensures ∙ ap (with_place (Some a.id) c.loop-at.at) c.loop-at.invariant
    ∙ parameters_more c.args.params.now c.loop-at.at a c.index-params-at.result c.loop-at-test.true refl
