use mathlib.Core.Path.{◌∙◌, ap, sym, subst}
use Rattle.std.proofs.Common.{◌≡◌, ◌≤◌, ◌+◌, List, [], ◌∷◌, drop, length, arith}
use Rattle.std.specs.Prelude.{get_or}
use Rattle.std.proofs.lemmas.List.{drop_all}
use Rattle.sh_base.specs.declared.numbers.Width.TheVariants.{I1}
use Rattle.sh_ir.specs.declared.types.ValueType.TheVariants.{Scalar}
use Rattle.sh_ir.specs.RegionRules.{with_block}
use Rattle.sh_ir.specs.Scope.{Value, plain_value}
use Rattle.sh_verify.specs.OwnValues.{HasOwn}
use Rattle.sh_verify.proofs.LeastLaws.{default_drop}
use Rattle.sh_verify.proofs.own_values.block_values.Goals as goal

pub returns-then-at-widths : goal.returns-then-at-widths
returns-then-at-widths c =
    let own = c.loop-at.invariant.0 in
    let past : length c.args.widths.now ≤ c.loop-at.at = omega arith in
    let all : own ≡ with_block [] c.args.names.now c.args.widths.now =
    sym (ap (λ ws. with_block own (drop c.loop-at.at c.args.names.now) ws) (drop_all c.loop-at.at c.args.widths.now past)
    ∙ ap (λ ns. with_block own ns []) (default_drop c.args.names.now c.loop-at.at 0 c.loop-at-test.true))
    ∙ c.loop-at.invariant.2 in
    subst (λ (o : List Value). HasOwn c.loop-at.own.entries o) all c.loop-at.invariant.1

pub loop-at-preserved : goal.loop-at-preserved
loop-at-preserved c =
    let own = c.loop-at.invariant.0 in (
      plain_value (get_or c.args.names.now c.loop-at.at 0) (Scalar (get_or c.args.widths.now c.loop-at.at I1)) ∷ own,
      c.in_ok-define_own.ensures own c.loop-at.invariant.1,
      sym (ap (λ ws. with_block own (drop c.loop-at.at c.args.names.now) ws) (default_drop c.args.widths.now c.loop-at.at I1 c.if-at-widths.false)
          ∙ ap (λ ns. with_block own ns (get_or c.args.widths.now c.loop-at.at I1 ∷ drop (c.loop-at.at + 1) c.args.widths.now)) (default_drop c.args.names.now c.loop-at.at 0 c.loop-at-test.true))
          ∙ c.loop-at.invariant.2,
    )
