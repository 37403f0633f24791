use Rattle.std.proofs.Common.{map, ap, ◌∙◌}
use Rattle.std.proofs.lemmas.Result.{IfOk-weaker}
use Rattle.sh_ir.specs.Classes.{class_of}
use Rattle.sh_sem.specs.Given.{alone, gives_collapse, gives_constant, gives_expansion, gives_insertion, gives_slice, gives_undefined}
use Rattle.sh_eval.proofs.EvaluationLaws.{collapse_gives, constant_gives, default_gives, empty_gives, expansion_gives, insertion_gives, slice_gives}
use Rattle.sh_eval.proofs.SizeRules.{shape_as, shape_none}
use Rattle.sh_eval.proofs.extents.layout_extents.Goals as goal

pub returns-in-Constant : goal.returns-in-Constant
returns-in-Constant c =
    λ element structured convolution device.
    IfOk-weaker c.constant_extents.result _ _
    (λ out p. p ∙ shape_as c.args.op.now (λ d. gives_constant c.in-Constant.x) c.dims_of-dims.result.now (map (λ t. t.shape) (map (λ t. t.now) c.args.ts.now)) (constant_gives c.args.op.now alone c.in-Constant.x c.in-Constant.is) c.dims_of-dims.ensures)
    c.constant_extents.ensures

pub returns-in-Empty : goal.returns-in-Empty
returns-in-Empty c =
    λ element structured convolution device.
    IfOk-weaker c.empty_extents.result _ _
    (λ out p. p ∙ shape_as c.args.op.now (λ d. gives_undefined d) c.dims_of-dims.result.now (map (λ t. t.shape) (map (λ t. t.now) c.args.ts.now)) (empty_gives c.args.op.now alone c.in-Empty.is) c.dims_of-dims.ensures)
    c.empty_extents.ensures

pub returns-in-ExtractSlice : goal.returns-in-ExtractSlice
returns-in-ExtractSlice c =
    λ element structured convolution device.
    IfOk-weaker c.slice_extents.result _ _
    (λ out p. p ∙ shape_as c.args.op.now (λ d. gives_slice c.in-ExtractSlice.x) c.dims_of-dims.result.now (map (λ t. t.shape) (map (λ t. t.now) c.args.ts.now)) (slice_gives c.args.op.now alone c.in-ExtractSlice.x c.in-ExtractSlice.is) c.dims_of-dims.ensures)
    c.slice_extents.ensures

pub returns-in-InsertSlice : goal.returns-in-InsertSlice
returns-in-InsertSlice c =
    λ element structured convolution device.
    IfOk-weaker c.insertion_extents.result _ _
    (λ out p. p ∙ shape_as c.args.op.now (λ d. gives_insertion c.in-InsertSlice.x d) c.dims_of-dims.result.now (map (λ t. t.shape) (map (λ t. t.now) c.args.ts.now)) (insertion_gives c.args.op.now alone c.in-InsertSlice.x c.in-InsertSlice.is) c.dims_of-dims.ensures)
    c.insertion_extents.ensures

pub returns-in-CollapseShape : goal.returns-in-CollapseShape
returns-in-CollapseShape c =
    λ element structured convolution device.
    IfOk-weaker c.collapsed_extents.result _ _
    (λ out p. p ∙ shape_as c.args.op.now (λ d. gives_collapse c.in-CollapseShape.x) c.dims_of-dims.result.now (map (λ t. t.shape) (map (λ t. t.now) c.args.ts.now)) (collapse_gives c.args.op.now alone c.in-CollapseShape.x c.in-CollapseShape.is) c.dims_of-dims.ensures)
    c.collapsed_extents.ensures

pub returns-in-ExpandShape : goal.returns-in-ExpandShape
returns-in-ExpandShape c =
    λ element structured convolution device.
    IfOk-weaker c.expanded_extents.result _ _
    (λ out p. p ∙ shape_as c.args.op.now (λ d. gives_expansion c.in-ExpandShape.x d) c.dims_of-dims.result.now (map (λ t. t.shape) (map (λ t. t.now) c.args.ts.now)) (expansion_gives c.args.op.now alone c.in-ExpandShape.x c.in-ExpandShape.is) c.dims_of-dims.ensures)
    c.expanded_extents.ensures

pub returns-in_default : goal.returns-in_default
returns-in_default c =
    λ element structured convolution device.
    shape_none c.args.op.now (map (λ t. t.shape) (map (λ t. t.now) c.args.ts.now))
    (default_gives c.args.op.now.kind c.args.op.now.operands c.args.op.now.result alone c.in_default.not-Constant c.in_default.not-Empty c.in_default.not-ExtractSlice c.in_default.not-InsertSlice c.in_default.not-CollapseShape c.in_default.not-ExpandShape
    (λ x e. device (ap class_of e)) (λ x e. device (ap class_of e)) (λ x e. device (ap class_of e)) (λ x e. device (ap class_of e)) element structured convolution)
