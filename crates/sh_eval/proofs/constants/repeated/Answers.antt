use Rattle.std.proofs.Common.{Some, ap, sym, ◌∙◌}
use Rattle.sh_loops.proofs.CellLaws.{repeated_by}
use Rattle.sh_eval.proofs.constants.repeated.Goals as goal

pub returns : goal.returns
returns c =
    ap (λ x. Some x) (c.from_vec.ensures ∙ c.in_ok-vec.ensures.items_if_clones_equal (λ y same. same))
    ∙ sym (repeated_by c.args.cell c.args.count)
