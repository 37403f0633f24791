use Rattle.std.proofs.Common.{◌∙◌, sym}
use Rattle.std.proofs.lemmas.List.{length-map}
use Rattle.sh_ir.specs.Shapes.{extent_of}
use Rattle.sh_iface_elem.specs.ElementOf.{element_by}
use Rattle.sh_iface_elem.proofs.NestLaws.{loops_counted}
use Rattle.sh_iface_elem.proofs.iface.ElemIfaceHasLoops.loop_count.Goals as goal

pub returns : goal.returns
returns c = sym (loops_counted (element_by c.args.self.now.kind c.args.self.now.width c.args.self.now.dims.now c.args.self.now.place) ∙ length-map c.args.self.now.dims.now extent_of)
