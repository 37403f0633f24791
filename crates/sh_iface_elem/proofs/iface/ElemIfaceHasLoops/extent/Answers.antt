use Rattle.std.proofs.Common.{◌≡◌, ◌∙◌, ap, arith, length, map, sym}
use Rattle.std.proofs.lemmas.List.{length-map}
use Rattle.std.proofs.lemmas.List.{get_or-map}
use Rattle.sh_ir.specs.Shapes.{extent_of}
use Rattle.sh_ir.specs.declared.types.Dim.TheVariants.{Known}
use Rattle.sh_iface_elem.specs.ElementOf.{element_by}
use Rattle.sh_iface.specs.LoopNest.{NestDim}
use Rattle.sh_iface_elem.proofs.NestLaws.{dim_below, dim_is}
use Rattle.sh_iface_elem.proofs.iface.ElemIfaceHasLoops.extent.Goals as goal

pub offset_bounds-self-dim : goal.offset_bounds-self-dim
offset_bounds-self-dim c =
    let e = (element_by c.args.self.now.kind c.args.self.now.width c.args.self.now.dims.now c.args.self.now.place) in
    let below = dim_below e c.args._v c.args.dim c.requires.dim in
    let short = c.args.self.now.element.short in
    omega (arith, below, short)

pub bounds-self-dim : goal.bounds-self-dim
bounds-self-dim c =
    let e = (element_by c.args.self.now.kind c.args.self.now.width c.args.self.now.dims.now c.args.self.now.place) in
    let below = dim_below e c.args._v c.args.dim c.requires.dim in
    let count : length (map extent_of c.args.self.now.dims.now) ≡ length c.args.self.now.dims.now = length-map c.args.self.now.dims.now extent_of in
    omega (arith, below, count)

pub returns : goal.returns
returns c =
    let e = (element_by c.args.self.now.kind c.args.self.now.width c.args.self.now.dims.now c.args.self.now.place) in
    let below = dim_below e c.args._v c.args.dim c.requires.dim in
    let count : length (map extent_of c.args.self.now.dims.now) ≡ length c.args.self.now.dims.now = length-map c.args.self.now.dims.now extent_of in
    c.extent_of.ensures
    ∙ sym (get_or-map extent_of c.args.self.now.dims.now c.args.dim (Known 0) 0 (omega (arith, below, count)))
    ∙ ap (λ (d : NestDim). d.extent) (sym (dim_is e c.args._v c.args.dim below))
