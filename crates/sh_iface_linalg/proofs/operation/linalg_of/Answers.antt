use Rattle.std.proofs.Common.{map}
use Rattle.sh_ir.specs.Shapes.{extent_of}
use Rattle.sh_iface_linalg.specs.Reading.{meant}
use Rattle.sh_iface_linalg.proofs.ReadOff.{meant_named, read_in_order, read_interface}
use Rattle.sh_iface_linalg.proofs.operation.linalg_of.Goals as goal

pub invariant_of-result : goal.invariant_of-result
invariant_of-result c =
    record {
      structured =
          read_in_order c.args.op.now c.requires (meant c.in_ok-found.found.kind) (meant_named c.in_ok-found.found.kind) c.in_ok-found.found.ins_outs.now c.in_ok-found.ensures
          (map extent_of c.dims_of.result.now) c.last_extent.result c.width_at.result c.width_at-2.result c.width_of.result c.as_slice-ins.result.now
          c.as_slice-ins.ensures c.dims_of.ensures c.last_extent.ensures c.width_at.ensures c.width_at-2.ensures c.width_of.ensures;
    }

pub returns : goal.returns
returns c =
    read_interface c.args.op.now c.requires (meant c.in_ok-found.found.kind) (meant_named c.in_ok-found.found.kind) c.in_ok-found.found.ins_outs.now c.in_ok-found.ensures
    (map extent_of c.dims_of.result.now) c.last_extent.result c.width_at.result c.width_at-2.result c.width_of.result c.as_slice-ins.result.now
    c.as_slice-ins.ensures c.dims_of.ensures c.last_extent.ensures c.width_at.ensures c.width_at-2.ensures c.width_of.ensures
