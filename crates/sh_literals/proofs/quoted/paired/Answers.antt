use Rattle.std.proofs.Common.{◌≡◌, ◌<◌, ◌∷◌, ap, sym, subst, ◌∙◌}
use Rattle.std.specs.List.{All}
use Rattle.sh_literals.specs.LiteralCells.{paired}
use Rattle.sh_literals.proofs.Wholes.{behind_two, joined_to, one_pair}
use Rattle.sh_literals.proofs.quoted.paired.Goals as goal

pub loop-high-preserved : goal.loop-high-preserved
loop-high-preserved c =
    let rest : c.loop-high.rest.now ≡ c.in-Some.high.now ∷ c.in-Some-split_first.low.now ∷ c.in-Some-split_first.behind.now =
    c.in-Some.ensures.cases.0 ∙ ap (λ more. c.in-Some.high.now ∷ more) c.in-Some-split_first.ensures.cases.0 in
    record {
      values =
          ap (λ bytes. joined_to bytes (paired c.in-Some-split_first.behind.now)) c.in_ok-push.ensures.items
          ∙ one_pair c.loop-high.bytes.items c.in-Some.high.now c.in-Some-split_first.low.now c.in-Some-split_first.behind.now
          ∙ ap (λ digits. joined_to c.loop-high.bytes.items (paired digits)) (sym rest)
          ∙ c.loop-high.invariant.values;
      within =
          behind_two c.in-Some.high.now c.in-Some-split_first.low.now c.in-Some-split_first.behind.now
          (subst (All (λ digit. digit < 16)) rest c.loop-high.invariant.within);
    }
