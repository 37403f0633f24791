use Rattle.std.proofs.Common.{ap, sym, ◌∙◌}
use Rattle.sh_sharding.specs.Sharding.{is_even, parts_of}
use Rattle.sh_sharding.proofs.EvenLaws.{even_split, even_whole}
use Rattle.sh_sharding.proofs.reading.is_even.Goals as goal

pub returns-then-is_split_dimension : goal.returns-then-is_split_dimension
returns-then-is_split_dimension c =
    let g = c.args.s.now.grid.extents in
    let read = c.dimension-d.ensures.value in
    let parts = c.part_count.ensures.value ∙ ap (parts_of g) (sym read) in
    even_split g c.dimension-d.result.now c.part_count.result c.is_balanced_mark.result c.is_even_division.result (sym c.is_split_dimension.ensures ∙ c.if-is_split_dimension.true) parts c.is_balanced_mark.ensures c.is_even_division.ensures
    ∙ ap (is_even g) read

pub returns-else-is_split_dimension : goal.returns-else-is_split_dimension
returns-else-is_split_dimension c =
    let g = c.args.s.now.grid.extents in
    c.if-is_split_dimension.false ∙ sym (even_whole g c.dimension-d.result.now (sym c.is_split_dimension.ensures ∙ c.if-is_split_dimension.false)) ∙ ap (is_even g) c.dimension-d.ensures.value
