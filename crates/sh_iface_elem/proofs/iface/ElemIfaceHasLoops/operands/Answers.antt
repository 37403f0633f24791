use Rattle.std.proofs.Common.{◌∙◌, sym}
use Rattle.sh_iface_elem.specs.ElementOf.{element_by}
use Rattle.sh_iface_elem.proofs.NestLaws.{operands_counted}
use Rattle.sh_iface_elem.proofs.iface.ElemIfaceHasLoops.operands.Goals as goal

pub returns : goal.returns
returns c = c.from.ensures ∙ c.operand_count.ensures c.args.self.now.width ∙ sym (operands_counted (element_by c.args.self.now.kind c.args.self.now.width c.args.self.now.dims.now c.args.self.now.place))
