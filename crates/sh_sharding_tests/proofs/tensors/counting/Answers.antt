use Rattle.std.proofs.Common.{rules, [], ◌∷◌, ◌++◌, ap, sym, ◌∙◌, arith}
use Rattle.std.proofs.lemmas.List.FromFn.{map-range_with_len_more}
use Rattle.sh_base.specs.declared.numbers.Cell.TheVariants.{Val}
use Rattle.sh_sharding_tests.proofs.tensors.counting.Goals as goal

pub loop-number-preserved : goal.loop-number-preserved
loop-number-preserved c = record {
  value =
      c.in_ok-push.ensures.items
      ∙ ap (λ xs. xs ++ Val c.loop-number.number ∷ []) c.loop-number.invariant.value
      ∙ sym (map-range_with_len_more (λ x. Val x) 0 c.loop-number.number c.loop-number.number (omega arith));
  counted = search rules;
  fitting = search rules;
}
