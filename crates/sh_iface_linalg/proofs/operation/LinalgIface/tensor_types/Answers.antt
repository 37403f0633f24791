use Rattle.std.proofs.Common.{ap, arith, map, ◌∙◌}
use Rattle.sh_nest_laws.specs.LoopSplits.{Operand}
use Rattle.sh_iface.specs.Elements.{tensor_of}
use Rattle.sh_iface_linalg.specs.Ifaces.{structured_in, value_in}
use Rattle.sh_iface_linalg.specs.Structured.{local_loop, tensor_ins}
use Rattle.sh_iface_linalg.proofs.NestLaws.{taken_next}
use Rattle.sh_iface_linalg.proofs.operation.LinalgIface.tensor_types.Goals as goal

pub loop-v-preserved : goal.loop-v-preserved
loop-v-preserved c =
    let e = structured_in c.args.self.now in
    let n = c.tensor_inputs-v-end.ensures.value in
    let lt = c.loop-v-test.true in
    taken_next (λ (x : Operand). tensor_of (map (local_loop e.extents c.args.g.now c.args.o.now) x.dims) x.width) (tensor_ins e) c.loop-v.v e.out c.loop-v.types c.push.new.self c.in_ok-local_type.field-0
    (omega (arith, n, lt)) c.loop-v.invariant
    (c.in_ok-local_type.ensures ∙ ap (λ k. tensor_of (map (local_loop e.extents c.args.g.now c.args.o.now) (value_in e k).dims) (value_in e k).width) c.from.ensures)
    c.in_ok-push.ensures.ok
