use Rattle.std.proofs.Common.{◌∙◌, sym}
use Rattle.std.proofs.lemmas.List.{length-map}
use Rattle.sh_ir.specs.Shapes.{extent_of}
use Rattle.sh_iface_elem.specs.ElementOf.{element_by}
use Rattle.sh_iface_elem.proofs.NestLaws.{dims_counted}
use Rattle.sh_iface_elem.proofs.iface.ElemIfaceHasLoops.rank.Goals as goal

pub returns : goal.returns
returns c = sym (dims_counted (element_by c.args.self.now.kind c.args.self.now.width c.args.self.now.dims.now c.args.self.now.place) c.args._v ∙ length-map c.args.self.now.dims.now extent_of)
