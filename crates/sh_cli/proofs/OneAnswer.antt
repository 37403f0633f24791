-- Words and a text have one answer at most.
use mathlib.Core.Path.{◌∙◌, ap, sym, refl}
use mathlib.Core.Bool.{true≢false}
use Rattle.std.proofs.Common.{◌≡◌, ◌≢◌, ℕ, List, [], Bool, true, false, ap₂, subst}
use Rattle.sh_base.specs.declared.places.Refusal.{Refusal}
use Rattle.sh_admission.specs.Faults.{IsRefused as IsNotAdmitted}
use Rattle.sh_admission.specs.Faults.IsRefused.{for_fault, for_grid}
use Rattle.sh_ir.specs.declared.modules.Module.{Module}
use Rattle.sh_ir.specs.Faults.{limit_faults}
use Rattle.sh_parse.specs.Reads.{Reads}
use Rattle.sh_parse.proofs.OneReading.{same_module}
use Rattle.sh_print.specs.Tokens as print
use Rattle.sh_verify.specs.Least.{IsLeast, StandsIn, by_place}
use Rattle.sh_verify.specs.Verified.{IsLeastFault}
use Rattle.sh_words.specs.Meaning.{AreOptionsOf}
use Rattle.sh_words.specs.declared.options.Options.{Options}
use Rattle.sh_words.specs.declared.options.Tool.{Tool}
use Rattle.sh_words.specs.declared.options.Tool.TheVariants.{Opt, Run}
use Rattle.sh_cli.specs.Answer.{IsAnswer, IsNoText, IsPartitioning, IsPrinting, IsSound, IsTurnedDown, asks_unbuilt, has_call}
use Rattle.sh_cli.specs.Answer.IsAnswer.{not_accepted, not_built, partitioning, printing}
use Rattle.sh_cli.specs.Answer.IsPartitioning.{partitions, unbuilt}
use Rattle.sh_cli.specs.Answer.IsPrinting.{no_module, no_text, prints}
use Rattle.sh_cli.specs.Answer.IsTurnedDown.{by_admission, by_rule, over_limit, with_call}
use Rattle.sh_cli.specs.VectorSum.{IsDivisible, IsVectorSum, partitioned_text}
use Rattle.sh_cli.specs.declared.status.Passed.TheVariants.{At}
use Rattle.sh_cli.specs.declared.status.Status.{Status}
use Rattle.sh_cli.specs.declared.status.Status.TheVariants.{Admission, Limit, Success, Text, Unbuilt, Usage, Verify}
use Rattle.sh_cli.proofs.Begins.{one_sum}
use Rattle.sh_cli.proofs.Level.{one_least}
use Rattle.sh_cli.proofs.OneText.{not_read, one_fault}
use Rattle.sh_cli.proofs.RulesKept.{no_fault}

-- two statuses, and two texts for the output, are one
abbrev pub AreOne : Status → Status → List ℕ → List ℕ → Type 0
AreOne status other output written = (status ≡ other) × (output ≡ written)

contrary : (b : Bool) → b ≡ true → b ≡ false → ⊥
contrary b is isnt = true≢false (sym is ∙ isnt)

-- ---- a module

module _ (m : Module) where
  one_limit : (r s : Refusal) → IsLeast by_place (limit_faults m) r → IsLeast by_place (limit_faults m) s → r ≡ s
  one_limit r s a b = one_least r s (a.first s b.there) (b.first r a.there)

  one_rule : (r s : Refusal) → IsLeastFault m r → IsLeastFault m s → r ≡ s
  one_rule r s a b = one_least r s (a.first s b.there) (b.first r a.there)

  one_admission : (r s : Refusal) → IsNotAdmitted m false r → IsNotAdmitted m false s → r ≡ s
  one_admission r s (for_fault a) (for_fault b) = one_least r s (a.first s b.there) (b.first r a.there)
  one_admission r s (for_grid asked a) _ = absurd (true≢false (sym asked))
  one_admission r s (for_fault a) (for_grid asked b) = absurd (true≢false (sym asked))

  -- within the limits none is passed
  not_over : (r : Refusal) → limit_faults m ≡ [] → IsLeast by_place (limit_faults m) r → ⊥
  not_over r within least = subst (λ rs. StandsIn rs r) within least.there

  sound_by_rule : (r : Refusal) → IsSound m → IsLeastFault m r → ⊥
  sound_by_rule r sound least = no_fault m sound.verified r least.there

  one_cause : (status other : Status) → IsTurnedDown m status → IsTurnedDown m other → status ≡ other
  one_cause _ _ (over_limit r a) (over_limit s b) = ap (λ x. Limit (At x)) (one_limit r s a b)
  one_cause _ _ (over_limit r a) (with_call within has) = absurd (not_over r within a)
  one_cause _ _ (over_limit r a) (by_rule s within none b) = absurd (not_over r within a)
  one_cause _ _ (over_limit r a) (by_admission s sound b) = absurd (not_over r sound.within a)
  one_cause _ _ (with_call within has) (over_limit s b) = absurd (not_over s within b)
  one_cause _ _ (with_call within has) (with_call _ _) = refl
  one_cause _ _ (with_call within has) (by_rule s _ none b) = absurd (contrary (has_call m) has none)
  one_cause _ _ (with_call within has) (by_admission s sound b) = absurd (contrary (has_call m) has sound.no_call)
  one_cause _ _ (by_rule r within none a) (over_limit s b) = absurd (not_over s within b)
  one_cause _ _ (by_rule r within none a) (with_call _ has) = absurd (contrary (has_call m) has none)
  one_cause _ _ (by_rule r within none a) (by_rule s _ _ b) = ap (λ x. Verify x) (one_rule r s a b)
  one_cause _ _ (by_rule r within none a) (by_admission s sound b) = absurd (sound_by_rule r sound a)
  one_cause _ _ (by_admission r sound a) (over_limit s b) = absurd (not_over s sound.within b)
  one_cause _ _ (by_admission r sound a) (with_call _ has) = absurd (contrary (has_call m) has sound.no_call)
  one_cause _ _ (by_admission r sound a) (by_rule s _ _ b) = absurd (sound_by_rule s sound b)
  one_cause _ _ (by_admission r sound a) (by_admission s _ b) = ap (λ x. Admission x) (one_admission r s a b)

  -- a module that is printed isn't turned down
  not_turned_down : (status : Status) → IsSound m → ((r : Refusal) → ¬ (IsNotAdmitted m false r)) → IsTurnedDown m status → ⊥
  not_turned_down _ sound admitted (over_limit r a) = not_over r sound.within a
  not_turned_down _ sound admitted (with_call within has) = contrary (has_call m) has sound.no_call
  not_turned_down _ sound admitted (by_rule r within none a) = sound_by_rule r sound a
  not_turned_down _ sound admitted (by_admission r _ a) = admitted r a

-- ---- a text

module _ (text : List ℕ) where
  one_printing : (status other : Status) (output written : List ℕ) → IsPrinting text status output → IsPrinting text other written
      → AreOne status other output written
  one_printing _ _ _ _ (no_text r a) (no_text s b) = (ap (λ x. Text x) (one_fault text r s a b), refl)
  one_printing _ _ _ _ (no_text r a) (no_module n _ read b) = absurd (not_read text r n a read)
  one_printing _ _ _ _ (no_text r a) (prints n read sound admitted) = absurd (not_read text r n a read)
  one_printing _ _ _ _ (no_module m _ read a) (no_text s b) = absurd (not_read text s m b read)
  one_printing _ _ _ _ (no_module m status read a) (no_module n other also b) =
      (one_cause m status other a (subst (λ x. IsTurnedDown x other) (same_module text n m also read) b), refl)
  one_printing _ _ _ _ (no_module m status read a) (prints n also sound admitted) =
      absurd (not_turned_down n status sound admitted (subst (λ x. IsTurnedDown x status) (same_module text m n read also) a))
  one_printing _ _ _ _ (prints m read sound admitted) (no_text s b) = absurd (not_read text s m b read)
  one_printing _ _ _ _ (prints m read sound admitted) (no_module n other also b) =
      absurd (not_turned_down m other sound admitted (subst (λ x. IsTurnedDown x other) (same_module text n m also read) b))
  one_printing _ _ _ _ (prints m read sound admitted) (prints n also _ _) = (refl, ap print.text_of (same_module text m n read also))

  one_partitioning : (status other : Status) (output written : List ℕ) → IsPartitioning text status output → IsPartitioning text other written
      → AreOne status other output written
  one_partitioning _ _ _ _ (partitions n d is divisible) (partitions k e also _) =
      let same = one_sum text n d k e is also in
      (refl, ap₂ partitioned_text same.0 same.1)
  one_partitioning _ _ _ _ (partitions n d is divisible) (unbuilt none) = absurd (none n d is divisible)
  one_partitioning _ _ _ _ (unbuilt none) (partitions n d is divisible) = absurd (none n d is divisible)
  one_partitioning _ _ _ _ (unbuilt none) (unbuilt _) = (refl, refl)

-- ---- the words

same_asked : (tool : Tool) (words : List (List ℕ)) (o p : Options) → AreOptionsOf tool words o → AreOptionsOf tool words p
    → asks_unbuilt tool o ≡ asks_unbuilt tool p
same_asked Opt words o p a b =
    rw (a.propagate, a.simplify, a.halo_to_shift, b.propagate, b.simplify, b.halo_to_shift) refl
same_asked Run words o p a b = refl

same_partition : (tool : Tool) (words : List (List ℕ)) (o p : Options) → AreOptionsOf tool words o → AreOptionsOf tool words p
    → o.partition ≡ p.partition
same_partition tool words o p a b = a.partition ∙ sym b.partition

module _ (tool : Tool) (words : List (List ℕ)) (text : List ℕ) where
  pub one_answer_at : (status other : Status) (output written : List ℕ) → IsAnswer tool words text status output
      → IsAnswer tool words text other written → AreOne status other output written
  one_answer_at _ _ _ _ (not_accepted none) (not_accepted _) = (refl, refl)
  one_answer_at _ _ _ _ (not_accepted none) (not_built p b _) = absurd (true≢false (sym b.accepted ∙ none))
  one_answer_at _ _ _ _ (not_accepted none) (partitioning p _ _ b _ _ _) = absurd (true≢false (sym b.accepted ∙ none))
  one_answer_at _ _ _ _ (not_accepted none) (printing p _ _ b _ _ _) = absurd (true≢false (sym b.accepted ∙ none))
  one_answer_at _ _ _ _ (not_built o a _) (not_accepted none) = absurd (true≢false (sym a.accepted ∙ none))
  one_answer_at _ _ _ _ (not_built o a asked) (not_built p b _) = (refl, refl)
  one_answer_at _ _ _ _ (not_built o a asked) (partitioning p _ _ b unasked _ _) =
      absurd (true≢false (sym asked ∙ same_asked tool words o p a b ∙ unasked))
  one_answer_at _ _ _ _ (not_built o a asked) (printing p _ _ b unasked _ _) =
      absurd (true≢false (sym asked ∙ same_asked tool words o p a b ∙ unasked))
  one_answer_at _ _ _ _ (partitioning o _ _ a _ _ _) (not_accepted none) = absurd (true≢false (sym a.accepted ∙ none))
  one_answer_at _ _ _ _ (partitioning o _ _ a unasked _ _) (not_built p b asked) =
      absurd (true≢false (sym asked ∙ same_asked tool words p o b a ∙ unasked))
  one_answer_at _ _ _ _ (partitioning o status output a _ _ is) (partitioning p other written b _ _ also) =
      one_partitioning text status other output written is also
  one_answer_at _ _ _ _ (partitioning o _ _ a _ given _) (printing p _ _ b _ absent _) =
      absurd (true≢false (sym given ∙ same_partition tool words o p a b ∙ absent))
  one_answer_at _ _ _ _ (printing o _ _ a _ _ _) (not_accepted none) = absurd (true≢false (sym a.accepted ∙ none))
  one_answer_at _ _ _ _ (printing o _ _ a unasked _ _) (not_built p b asked) =
      absurd (true≢false (sym asked ∙ same_asked tool words p o b a ∙ unasked))
  one_answer_at _ _ _ _ (printing o _ _ a _ absent _) (partitioning p _ _ b _ given _) =
      absurd (true≢false (sym given ∙ same_partition tool words p o b a ∙ absent))
  one_answer_at _ _ _ _ (printing o status output a _ _ is) (printing p other written b _ _ also) =
      one_printing text status other output written is also
