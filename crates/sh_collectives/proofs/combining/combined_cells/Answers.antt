use Rattle.std.proofs.Common.{ℕ, ◌++◌, [], ◌∷◌, map, ap₂, sym, ◌∙◌, subst, arith}
use Rattle.std.specs.List.{All}
use Rattle.std.proofs.lemmas.List.Elements.{All-append, All-cons, All-nil}
use Rattle.std.proofs.lemmas.List.FromFn.{map-range_with_len_more}
use Rattle.sh_base.specs.Cells.{IsCellOf}
use Rattle.sh_base.specs.declared.numbers.Cell.{Cell}
use Rattle.sh_sem.specs.Collected.{combined}
use Rattle.sh_collectives.proofs.CombiningLaws.{numbered}
use Rattle.sh_collectives.proofs.combining.combined_cells.Goals as goal

pub loop-number-preserved : goal.loop-number-preserved
loop-number-preserved c =
    let f : ℕ → Cell = λ k. combined c.args.kind c.args.width (numbered k (map (λ t. t.now) c.args.ts.now)) in
    record {
      value =
          c.in_ok-push.ensures.items
          ∙ ap₂ (λ xs x. xs ++ x ∷ []) c.loop-number.invariant.value c.combined_cell.ensures.value
          ∙ sym (map-range_with_len_more f 0 c.loop-number.number c.loop-number.number (omega arith));
      within =
          subst (All (IsCellOf c.args.width)) (sym c.in_ok-push.ensures.items)
          (All-append (IsCellOf c.args.width) c.loop-number.cells.items (c.combined_cell.result ∷ []) c.loop-number.invariant.within
          (All-cons (IsCellOf c.args.width) c.combined_cell.result [] c.combined_cell.ensures.within (All-nil (IsCellOf c.args.width))));
    }
