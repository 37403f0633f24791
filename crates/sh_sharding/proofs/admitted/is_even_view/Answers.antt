use Rattle.std.proofs.Common.{ap, sym, ◌∙◌}
use Rattle.sh_grid.specs.Grid.{group_size_of}
use Rattle.sh_sharding.proofs.Cases.{empty_list, some_list}
use Rattle.sh_sharding.proofs.EvenLaws.{even_view_split, even_view_whole}
use Rattle.sh_sharding.proofs.admitted.is_even_view.Goals as goal

pub returns-then-not-is_empty : goal.returns-then-not-is_empty
returns-then-not-is_empty c =
    let g = c.args.g.now.extents in
    let v = c.args.view.now in
    let parts = c.size_along.ensures.value ∙ ap (group_size_of g) c.as_slice-axes.ensures.value in
    even_view_split g v c.size_along.result c.is_balanced_view.result c.is_even_division.result (λ e. some_list c.as_slice-axes.result.now c.is_empty.result c.if-not-is_empty.true c.is_empty.ensures (c.as_slice-axes.ensures.value ∙ e)) parts
    c.is_balanced_view.ensures c.is_even_division.ensures

pub returns-else-not-is_empty : goal.returns-else-not-is_empty
returns-else-not-is_empty c =
    let none = empty_list c.as_slice-axes.result.now c.is_empty.result c.if-not-is_empty.false c.is_empty.ensures in
    even_view_whole c.args.g.now.extents c.args.view.now c.is_empty.result (sym c.as_slice-axes.ensures.value ∙ none) c.if-not-is_empty.false
