use Rattle.std.proofs.Common.{map, ◌∙◌}
use Rattle.sh_collectives.proofs.JoiningLaws.{is_joined, joined_made}
use Rattle.sh_collectives.proofs.joining.join.Goals as goal

pub joined_cells-requires-clause-alike : goal.joined_cells-requires-clause-alike
joined_cells-requires-clause-alike c = (is_joined c.args.axis c.args.width (map (λ t. t.now) c.args.ts.now) c.args.joined c.requires.operands c.requires.axes c.requires.shape).can

pub joined_cells-requires-clause-shape : goal.joined_cells-requires-clause-shape
joined_cells-requires-clause-shape c = (is_joined c.args.axis c.args.width (map (λ t. t.now) c.args.ts.now) c.args.joined c.requires.operands c.requires.axes c.requires.shape).shape

pub build-requires-clause-counted : goal.build-requires-clause-counted
build-requires-clause-counted c =
    (joined_made c.args.axis c.args.width (map (λ t. t.now) c.args.ts.now) c.args.joined c.in_ok-cells.cells.items c.requires.operands c.requires.axes c.requires.shape c.in_ok-cells.ensures).counted

pub build-requires-clause-fitting : goal.build-requires-clause-fitting
build-requires-clause-fitting c =
    (joined_made c.args.axis c.args.width (map (λ t. t.now) c.args.ts.now) c.args.joined c.in_ok-cells.cells.items c.requires.operands c.requires.axes c.requires.shape c.in_ok-cells.ensures).fitting

pub returns : goal.returns
returns c =
    c.build.ensures
    ∙ (joined_made c.args.axis c.args.width (map (λ t. t.now) c.args.ts.now) c.args.joined c.in_ok-cells.cells.items c.requires.operands c.requires.axes c.requires.shape c.in_ok-cells.ensures).value
