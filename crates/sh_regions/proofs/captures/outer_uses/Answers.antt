use Rattle.std.proofs.Common.{◌+◌, ◌++◌, ap, sym, ◌∙◌, drop}
use Rattle.sh_ir.specs.Regions.{outer_uses, outside}
use Rattle.sh_regions.proofs.Members.{next_op, one_op, uses_same}
use Rattle.sh_regions.proofs.captures.outer_uses.Goals as goal

pub loop-op-init : goal.loop-op-init
loop-op-init c =
    ap (λ uses. uses ++ outer_uses c.in_ok-own.own.keys c.args.ops.now c.args.yields) c.new-uses.ensures.items
    ∙ uses_same c.in_ok-own.own.keys c.args.args.now c.args.ops.now c.args.yields c.in_ok-own.ensures

pub loop-op-preserved : goal.loop-op-preserved
loop-op-preserved c =
    let pushed = c.in_ok-push_outside.ensures in
    one_op c.loop-op.own.keys c.insert.new.self.keys c.op-item.result (drop (c.loop-op.op-index + 1) c.args.ops.now)
    c.args.yields c.loop-op.uses.items c.push_outside.new.uses.items
    (pushed ∙ ap (λ names. c.loop-op.uses.items ++ outside c.loop-op.own.keys names) c.as_slice.ensures)
    c.in_ok-insert.ensures.keys
    ∙ ap (λ ops. c.loop-op.uses.items ++ outer_uses c.loop-op.own.keys ops c.args.yields)
    (sym (next_op c.args.ops.now c.loop-op.op-index c.op-item.result c.loop-op-test.true c.op-item.is))
    ∙ c.loop-op.invariant
