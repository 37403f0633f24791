use Rattle.std.proofs.Common.{map, ap, sym, ◌∙◌}
use Rattle.std.specs.Prelude.{option_and_then}
use Rattle.std.proofs.lemmas.Result.{IfOk-weaker}
use Rattle.sh_loops.specs.Structured.{value_by}
use Rattle.sh_sem.specs.Given.{gives_nest}
use Rattle.sh_loops.proofs.StructuredLaws.{no_structure, of_structure}
use Rattle.sh_loops.proofs.structures.structured_op.Goals as goal

pub fold_op-requires : goal.fold_op-requires
fold_op-requires c =
    of_structure c.args.kind.now c.in-Some.loops c.args.operands.now c.args.width (map (λ t. t.now) c.args.ins.now) (sym c.in-Some.is ∙ c.in_ok-loops.ensures) c.requires.fits

pub returns-in-None : goal.returns-in-None
returns-in-None c = no_structure c.args.kind.now _ (sym c.in-None.is ∙ c.in_ok-loops.ensures)

pub returns-in-Some : goal.returns-in-Some
returns-in-Some c =
    let h = of_structure c.args.kind.now c.in-Some.loops c.args.operands.now c.args.width (map (λ t. t.now) c.args.ins.now) (sym c.in-Some.is ∙ c.in_ok-loops.ensures) c.requires.fits in
    IfOk-weaker c.fold_op.result _ _
    (λ out p. p ∙ sym (ap (option_and_then (λ s. value_by (gives_nest c.args.operands.now s) c.args.width (map (λ t. t.now) c.args.ins.now))) h.kind_is))
    (c.fold_op.ensures h.structure h.kind_is)
