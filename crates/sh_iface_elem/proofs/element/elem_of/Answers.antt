use Rattle.std.proofs.Common.{refl}
use Rattle.sh_iface.proofs.ElementOf.{element_interface}
use Rattle.sh_iface_elem.specs.ElementOf.{element_by}
use Rattle.sh_iface_elem.proofs.ReadLaws.{element_is}
use Rattle.sh_iface_elem.proofs.element.elem_of.Goals as goal

pub invariant_of-result : goal.invariant_of-result
invariant_of-result c =
    record {
      element =
          (element_is c.args.op.now c.in_ok-kind.kind c.width_of.result c.dims_of.result.now c.args.op.now.place c.requires c.in_ok-kind.ensures c.width_of.ensures c.dims_of.ensures refl).element;
    }

pub returns : goal.returns
returns c =
    element_interface c.args.op.now (element_by c.in_ok-kind.kind c.width_of.result c.dims_of.result.now c.args.op.now.place)
    (element_is c.args.op.now c.in_ok-kind.kind c.width_of.result c.dims_of.result.now c.args.op.now.place c.requires c.in_ok-kind.ensures c.width_of.ensures c.dims_of.ensures refl)
