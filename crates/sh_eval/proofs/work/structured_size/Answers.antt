use Rattle.std.proofs.Common.{None, Some, map, ap₂, sym, ◌∙◌}
use Rattle.sh_ir.specs.Agreement.{dims_of}
use Rattle.sh_sem.specs.Given.{alone}
use Rattle.sh_sem.specs.Types.{have_extents}
use Rattle.sh_eval.proofs.SizeRules.{known_missing, known_there, nest_loops, nest_of, nest_sized}
use Rattle.sh_eval.proofs.work.structured_size.Goals as goal

pub nest_size-requires-clause-few : goal.nest_size-requires-clause-few
nest_size-requires-clause-few c = (nest_of c.args.op.now.kind c.args.op.now.operands c.args.op.now.result (map (λ t. t.now) c.args.ts.now) c.requires.class c.requires.fits).fits.few

pub nest_size-requires-clause-loops : goal.nest_size-requires-clause-loops
nest_size-requires-clause-loops c =
    nest_loops c.args.op.now.kind c.args.op.now.operands c.args.op.now.result (map (λ t. t.now) c.args.ts.now) (nest_of c.args.op.now.kind c.args.op.now.operands c.args.op.now.result (map (λ t. t.now) c.args.ts.now) c.requires.class c.requires.fits)

pub returns-then-has_extents : goal.returns-then-has_extents
returns-then-has_extents c =
    known_there (dims_of c.args.op.now.result) c.in-Some.size c.has_extents.result (c.has_extents.ensures ∙ ap₂ have_extents c.dims_of.ensures c.extents.ensures.value) c.if-has_extents.true
    ∙ nest_sized c.args.op.now (map (λ t. t.shape) (map (λ t. t.now) c.args.ts.now)) (Some c.in-Some.size) ((nest_of c.args.op.now.kind c.args.op.now.operands c.args.op.now.result (map (λ t. t.now) c.args.ts.now) c.requires.class c.requires.fits).gives alone)
    (sym c.in-Some.is ∙ c.in_ok-size.ensures)

pub returns-else-has_extents : goal.returns-else-has_extents
returns-else-has_extents c =
    known_missing (dims_of c.args.op.now.result) c.in-Some.size c.has_extents.result (c.has_extents.ensures ∙ ap₂ have_extents c.dims_of.ensures c.extents.ensures.value) c.if-has_extents.false
    ∙ nest_sized c.args.op.now (map (λ t. t.shape) (map (λ t. t.now) c.args.ts.now)) (Some c.in-Some.size) ((nest_of c.args.op.now.kind c.args.op.now.operands c.args.op.now.result (map (λ t. t.now) c.args.ts.now) c.requires.class c.requires.fits).gives alone)
    (sym c.in-Some.is ∙ c.in_ok-size.ensures)

pub returns-in-None : goal.returns-in-None
returns-in-None c =
    nest_sized c.args.op.now (map (λ t. t.shape) (map (λ t. t.now) c.args.ts.now)) None ((nest_of c.args.op.now.kind c.args.op.now.operands c.args.op.now.result (map (λ t. t.now) c.args.ts.now) c.requires.class c.requires.fits).gives alone)
    (sym c.in-None.is ∙ c.in_ok-size.ensures)
