use Rattle.std.proofs.Common.{◌<◌, map, ◌∙◌, length, arith}
use Rattle.std.proofs.lemmas.List.{length-map}
use Rattle.std.proofs.lemmas.Result.{IfOk-weaker}
use Rattle.sh_collectives.specs.declared.ways.Way.TheVariants as way
use Rattle.sh_tensor.specs.Tensor.{TensorValue}
use Rattle.sh_collectives.proofs.GroupLaws.{All-of_map}
use Rattle.sh_collectives.proofs.ValueLaws.{of_gather, of_reduce, of_scatter, of_exchange, of_shift, value_gather, value_reduce, value_scatter, value_exchange, value_shift}
use Rattle.sh_collectives.proofs.WayLaws.{has_dim}
use Rattle.sh_collectives.proofs.results.value_at.Goals as goal

pub join-requires-clause-axes : goal.join-requires-clause-axes
join-requires-clause-axes c =
    All-of_map (λ s. c.in-Gather.axis < length s) (λ (t : TensorValue). t.shape) (map (λ t. t.now) c.args.ts.now)
    (has_dim c.args.way.now (way.Gather c.in-Gather.axis) (map (λ (t : TensorValue). t.shape) (map (λ t. t.now) c.args.ts.now)) 0 c.in-Gather.is (omega arith) c.requires.works.dims)

pub join-requires-clause-shape : goal.join-requires-clause-shape
join-requires-clause-shape c = of_gather c.args.way.now c.args.place (map (λ (t : TensorValue). t.shape) (map (λ t. t.now) c.args.ts.now)) c.args.shape c.requires.shape c.in-Gather.axis c.in-Gather.is

pub returns-in-Gather : goal.returns-in-Gather
returns-in-Gather c =
    IfOk-weaker c.join.result _ _ (λ out h. h ∙ value_gather c.args.way.now c.args.place (map (λ t. t.now) c.args.ts.now) c.args.shape c.args.width c.in-Gather.axis c.in-Gather.is) c.join.ensures

pub combine-requires-clause-common : goal.combine-requires-clause-common
combine-requires-clause-common c = of_reduce c.args.way.now c.args.place (map (λ (t : TensorValue). t.shape) (map (λ t. t.now) c.args.ts.now)) c.args.shape c.requires.shape c.in-Reduce.kind c.in-Reduce.is

pub returns-in-Reduce : goal.returns-in-Reduce
returns-in-Reduce c =
    IfOk-weaker c.combine.result _ _ (λ out h. h ∙ value_reduce c.args.way.now c.args.place (map (λ t. t.now) c.args.ts.now) c.args.shape c.args.width c.in-Reduce.kind c.in-Reduce.is) c.combine.ensures

pub scatter-requires-clause-axes : goal.scatter-requires-clause-axes
scatter-requires-clause-axes c =
    All-of_map (λ s. c.in-Scatter.axis < length s) (λ (t : TensorValue). t.shape) (map (λ t. t.now) c.args.ts.now)
    (has_dim c.args.way.now (way.Scatter c.in-Scatter.kind c.in-Scatter.axis) (map (λ (t : TensorValue). t.shape) (map (λ t. t.now) c.args.ts.now)) 0 c.in-Scatter.is (omega arith) c.requires.works.dims)

pub scatter-requires-clause-shape : goal.scatter-requires-clause-shape
scatter-requires-clause-shape c = of_scatter c.args.way.now c.args.place (map (λ (t : TensorValue). t.shape) (map (λ t. t.now) c.args.ts.now)) c.args.shape c.requires.shape c.in-Scatter.kind c.in-Scatter.axis (length c.args.ts.now) c.in-Scatter.is (length-map (map (λ t. t.now) c.args.ts.now) (λ (t : TensorValue). t.shape) ∙ length-map c.args.ts.now (λ t. t.now))

pub returns-in-Scatter : goal.returns-in-Scatter
returns-in-Scatter c =
    IfOk-weaker c.scatter.result _ _ (λ out h. h ∙ value_scatter c.args.way.now c.args.place (map (λ t. t.now) c.args.ts.now) c.args.shape c.args.width c.in-Scatter.kind c.in-Scatter.axis c.in-Scatter.is) c.scatter.ensures

pub exchange-requires-clause-split : goal.exchange-requires-clause-split
exchange-requires-clause-split c =
    All-of_map (λ s. c.in-Exchange.split < length s) (λ (t : TensorValue). t.shape) (map (λ t. t.now) c.args.ts.now)
    (has_dim c.args.way.now (way.Exchange c.in-Exchange.split c.in-Exchange.concat) (map (λ (t : TensorValue). t.shape) (map (λ t. t.now) c.args.ts.now)) 0 c.in-Exchange.is (omega arith) c.requires.works.dims)

pub exchange-requires-clause-concat : goal.exchange-requires-clause-concat
exchange-requires-clause-concat c =
    All-of_map (λ s. c.in-Exchange.concat < length s) (λ (t : TensorValue). t.shape) (map (λ t. t.now) c.args.ts.now)
    (has_dim c.args.way.now (way.Exchange c.in-Exchange.split c.in-Exchange.concat) (map (λ (t : TensorValue). t.shape) (map (λ t. t.now) c.args.ts.now)) 1 c.in-Exchange.is (omega arith) c.requires.works.dims)

pub exchange-requires-clause-shape : goal.exchange-requires-clause-shape
exchange-requires-clause-shape c = of_exchange c.args.way.now c.args.place (map (λ (t : TensorValue). t.shape) (map (λ t. t.now) c.args.ts.now)) c.args.shape c.requires.shape c.in-Exchange.split c.in-Exchange.concat (length c.args.ts.now) c.in-Exchange.is (length-map (map (λ t. t.now) c.args.ts.now) (λ (t : TensorValue). t.shape) ∙ length-map c.args.ts.now (λ t. t.now))

pub returns-in-Exchange : goal.returns-in-Exchange
returns-in-Exchange c =
    IfOk-weaker c.exchange.result _ _ (λ out h. h ∙ value_exchange c.args.way.now c.args.place (map (λ t. t.now) c.args.ts.now) c.args.shape c.args.width c.in-Exchange.split c.in-Exchange.concat c.in-Exchange.is) c.exchange.ensures

pub take_shifted-requires-clause-shape : goal.take_shifted-requires-clause-shape
take_shifted-requires-clause-shape c = of_shift c.args.way.now c.args.place (map (λ (t : TensorValue). t.shape) (map (λ t. t.now) c.args.ts.now)) c.args.shape c.requires.shape c.in-Shift.x c.in-Shift.is

pub returns-in-Shift : goal.returns-in-Shift
returns-in-Shift c =
    IfOk-weaker c.take_shifted.result _ _ (λ out h. h ∙ value_shift c.args.way.now c.args.place (map (λ t. t.now) c.args.ts.now) c.args.shape c.args.width c.in-Shift.x c.in-Shift.is) c.take_shifted.ensures
