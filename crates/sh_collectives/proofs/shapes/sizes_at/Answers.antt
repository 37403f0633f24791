use Rattle.std.proofs.Common.{map, ap, sym, ◌∙◌, arith, Some, option_and_then}
use Rattle.std.proofs.lemmas.List.{length-map}
use Rattle.sh_collectives.specs.declared.ways.Way.TheVariants as way
use Rattle.sh_sem.specs.Collected.{scattered_shape, exchanged_shape}
use Rattle.sh_sem.specs.Pieces.{common_shape}
use Rattle.sh_collectives.proofs.WayLaws.{gives_gather, gives_reduce, gives_scatter, gives_exchange, gives_shift, has_dim}
use Rattle.sh_collectives.proofs.shapes.sizes_at.Goals as goal

pub gathered-requires-clause-axes : goal.gathered-requires-clause-axes
gathered-requires-clause-axes c = has_dim c.args.way.now (way.Gather c.in-Gather.axis) (map (λ s. s.now) c.args.shapes.now) 0 c.in-Gather.is (omega arith) c.requires.works.dims

pub scattered-requires-clause-axes : goal.scattered-requires-clause-axes
scattered-requires-clause-axes c = has_dim c.args.way.now (way.Scatter c.in-Scatter.field-0 c.in-Scatter.axis) (map (λ s. s.now) c.args.shapes.now) 0 c.in-Scatter.is (omega arith) c.requires.works.dims

pub exchanged-requires-clause-split : goal.exchanged-requires-clause-split
exchanged-requires-clause-split c = has_dim c.args.way.now (way.Exchange c.in-Exchange.split c.in-Exchange.concat) (map (λ s. s.now) c.args.shapes.now) 0 c.in-Exchange.is (omega arith) c.requires.works.dims

pub exchanged-requires-clause-concat : goal.exchanged-requires-clause-concat
exchanged-requires-clause-concat c = has_dim c.args.way.now (way.Exchange c.in-Exchange.split c.in-Exchange.concat) (map (λ s. s.now) c.args.shapes.now) 1 c.in-Exchange.is (omega arith) c.requires.works.dims

pub returns-in-Gather-clause-value : goal.returns-in-Gather-clause-value
returns-in-Gather-clause-value c = gives_gather c.args.way.now c.args.place (map (λ s. s.now) c.args.shapes.now) _ c.in-Gather.axis c.in-Gather.is c.gathered.ensures.value

pub returns-in-Reduce-clause-value : goal.returns-in-Reduce-clause-value
returns-in-Reduce-clause-value c = gives_reduce c.args.way.now c.args.place (map (λ s. s.now) c.args.shapes.now) _ c.in-Reduce.field-0 c.in-Reduce.is c.reduced.ensures.value

pub returns-in-Scatter-clause-value : goal.returns-in-Scatter-clause-value
returns-in-Scatter-clause-value c =
    gives_scatter c.args.way.now c.args.place (map (λ s. s.now) c.args.shapes.now) _ c.in-Scatter.field-0 c.in-Scatter.axis c.in-Scatter.is
    (c.scattered.ensures.value c.args.place
    ∙ ap (λ n. option_and_then (scattered_shape c.in-Scatter.axis n c.args.place) (common_shape (map (λ s. s.now) c.args.shapes.now))) (sym (length-map c.args.shapes.now (λ s. s.now))))

pub returns-in-Exchange-clause-value : goal.returns-in-Exchange-clause-value
returns-in-Exchange-clause-value c =
    gives_exchange c.args.way.now c.args.place (map (λ s. s.now) c.args.shapes.now) _ c.in-Exchange.split c.in-Exchange.concat c.in-Exchange.is
    (c.exchanged.ensures.value c.args.place
    ∙ ap (λ n. option_and_then (exchanged_shape c.in-Exchange.split c.in-Exchange.concat n c.args.place) (common_shape (map (λ s. s.now) c.args.shapes.now))) (sym (length-map c.args.shapes.now (λ s. s.now))))

pub returns-in-Shift-clause-value : goal.returns-in-Shift-clause-value
returns-in-Shift-clause-value c =
    gives_shift c.args.way.now c.args.place (map (λ s. s.now) c.args.shapes.now) _ c.in-Shift.x c.in-Shift.is (ap (λ s. Some s) c.sizes_of.ensures.value ∙ c.moved.ensures)
