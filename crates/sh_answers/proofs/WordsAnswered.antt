-- Words and a text are never without an answer.
use mathlib.Core.Path.{refl}
use Rattle.std.proofs.Common.{◌≡◌, ℕ, List, Bool, true, false}
use Rattle.std.specs.Prelude.{codes, option_and_then}
use Rattle.sh_words.specs.Meaning.{AreOptionsOf, generate_from, order_from}
use Rattle.sh_words.specs.Tables.{accepts}
use Rattle.sh_words.specs.Values.{traversal_of}
use Rattle.sh_words.specs.Words.{is_given, value_in}
use Rattle.sh_words.specs.declared.options.Options.{Options}
use Rattle.sh_words.specs.declared.options.Tool.{Tool}
use Rattle.sh_cli.specs.Answer.{IsAnswer, asks_unbuilt}
use Rattle.sh_cli.specs.Answer.IsAnswer.{not_accepted, not_built, partitioning, printing}
use Rattle.sh_answers.proofs.TextsAnswered.{HasAnswer, partitioning_answered, printing_answered}

-- the options that words give
options_of : List (List ℕ) → Options
options_of words = record {
  propagate = option_and_then traversal_of (value_in (codes "--propagate") words);
  partition = is_given (codes "--partition") words;
  simplify = is_given (codes "--simplify") words;
  halo_to_shift = is_given (codes "--halo-to-shift") words;
  order = order_from (value_in (codes "--turns") words) (value_in (codes "--order") words);
  trace = is_given (codes "--trace") words;
  device = is_given (codes "--device") words;
  generate = generate_from (value_in (codes "--generate") words) (value_in (codes "--size") words);
}

are_options : (tool : Tool) (words : List (List ℕ)) → accepts tool words ≡ true → AreOptionsOf tool words (options_of words)
unfolding options_of
are_options tool words accepted = record {
  accepted = accepted;
  propagate = refl;
  partition = refl;
  simplify = refl;
  halo_to_shift = refl;
  order = refl;
  trace = refl;
  device = refl;
  generate = refl;
}

module _ (tool : Tool) (words : List (List ℕ)) (text : List ℕ) where
  built : accepts tool words ≡ true → asks_unbuilt tool (options_of words) ≡ false → ¬ (¬ (HasAnswer (IsAnswer tool words text)))
  built accepted unasked none = by ((options_of words).partition) refl
    where
      by : (b : Bool) → (options_of words).partition ≡ b → ⊥
      by true given = partitioning_answered text (λ a.
          none (a.0, a.1, partitioning (options_of words) a.0 a.1 (are_options tool words accepted) unasked given a.2))
      by false absent = printing_answered text (λ a.
          none (a.0, a.1, printing (options_of words) a.0 a.1 (are_options tool words accepted) unasked absent a.2))

  accepted_answered : accepts tool words ≡ true → ¬ (¬ (HasAnswer (IsAnswer tool words text)))
  accepted_answered accepted none = by (asks_unbuilt tool (options_of words)) refl
    where
      by : (b : Bool) → asks_unbuilt tool (options_of words) ≡ b → ⊥
      by true asked = none (_, _, not_built (options_of words) (are_options tool words accepted) asked)
      by false unasked = built accepted unasked none

  pub answered : ¬ (¬ (HasAnswer (IsAnswer tool words text)))
  answered none = by (accepts tool words) refl
    where
      by : (b : Bool) → accepts tool words ≡ b → ⊥
      by true accepted = accepted_answered accepted none
      by false refused = none (_, _, not_accepted refused)
