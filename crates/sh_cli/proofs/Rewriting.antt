-- From what a text is rewritten to to the answer of the program, and to the headline.
use mathlib.Core.Path.{refl}
use Rattle.std.proofs.Common.{◌≡◌, List, ℕ, [], Bool, true, false, Option, Some, None, IfSome}
use Rattle.std.proofs.KnownBytes.{Keeps-refl}
use Rattle.std.specs.Io.KnownBytes.{Appends, Keeps}
use Rattle.sh_words.specs.Meaning.{AreOptionsOf}
use Rattle.sh_words.specs.declared.options.Options.{Options}
use Rattle.sh_words.specs.declared.options.Tool.{Tool}
use Rattle.sh_cli.specs.Answer.{IsAnswer, IsPartitioning, asks_unbuilt}
use Rattle.sh_cli.specs.Answer.IsAnswer.{partitioning, printing}
use Rattle.sh_cli.specs.Answer.IsPartitioning.{partitions, unbuilt}
use Rattle.sh_cli.specs.Ending.{IsRewriting, Writes}
use Rattle.sh_cli.specs.Headline.{Rewrites}
use Rattle.sh_cli.specs.VectorSum.{partitioned_text}
use Rattle.sh_cli.specs.declared.status.Passed.TheVariants.{At, Input}
use Rattle.sh_cli.specs.declared.status.Status.{Status}
use Rattle.sh_cli.specs.declared.status.Status.TheVariants.{Success, Usage, Text, Verify, Admission, Read, Write, Limit, Memory, Unbuilt}
use Rattle.sh_cli.proofs.SumHeadline.{sum_rewrites}

-- what is written for a partition is the text rewritten
pub partition_rewrites : (text output : List ℕ) (old new : Option (List ℕ)) (status : Status) → status ≡ Success
    → IsPartitioning text status output → Appends old new output → Rewrites (Some text) old new
partition_rewrites text _ old new _ e (partitions extent devices is divisible) appends =
    sum_rewrites text (partitioned_text extent devices) extent devices old new is divisible refl appends
partition_rewrites text _ old new _ e (unbuilt none) appends = absurd (cc)

-- what a text is rewritten to is the answer
pub rewriting_answers : (tool : Tool) (words : List (List ℕ)) (text : List ℕ) (o : Options) → AreOptionsOf tool words o
    → asks_unbuilt tool o ≡ false → (b : Bool) → o.partition ≡ b → (status : Status) (output : List ℕ)
    → IsRewriting b text status output → IsAnswer tool words text status output
rewriting_answers tool words text o are unasked true e status output is = partitioning o status output are unasked e is
rewriting_answers tool words text o are unasked false e status output is = printing o status output are unasked e is

-- what is written by one answer is written by another that it gives
writes_by : (P Q : Status → List ℕ → Type 0) → ((status : Status) (output : List ℕ) → P status output → Q status output)
    → (status : Status) (old new : Option (List ℕ)) → Writes P status old new → Writes Q status old new
writes_by P Q gives Success old new (output, is, appends) = (output, gives Success output is, appends)
writes_by P Q gives Usage old new (is, kept) = (gives Usage [] is, kept)
writes_by P Q gives (Text r) old new (is, kept) = (gives (Text r) [] is, kept)
writes_by P Q gives (Verify r) old new (is, kept) = (gives (Verify r) [] is, kept)
writes_by P Q gives (Admission r) old new (is, kept) = (gives (Admission r) [] is, kept)
writes_by P Q gives Read old new kept = kept
writes_by P Q gives Write old new (output, is, appends) = (output, gives Success output is, appends)
writes_by P Q gives (Limit Input) old new kept = kept
writes_by P Q gives (Limit (At r)) old new (is, kept) = (gives (Limit (At r)) [] is, kept)
writes_by P Q gives Memory old new kept = kept
writes_by P Q gives Unbuilt old new (is, kept) = (gives Unbuilt [] is, kept)

pub answers_by : (P Q : List ℕ → Status → List ℕ → Type 0)
    → ((text : List ℕ) (status : Status) (output : List ℕ) → P text status output → Q text status output)
    → (left : Option (List ℕ)) (status : Status) (old new : Option (List ℕ))
    → IfSome left (λ text. Writes (P text) status old new) → IfSome left (λ text. Writes (Q text) status old new)
answers_by P Q gives None status old new wrote = tt
answers_by P Q gives (Some text) status old new wrote = writes_by (P text) (Q text) (gives text) status old new wrote

-- an answer without a text for the output, where nothing was written
pub answers_nothing : (P : List ℕ → Type 0) → ((text : List ℕ) → P text) → (left out : Option (List ℕ))
    → IfSome left (λ text. P text × Keeps out out)
answers_nothing P fact None out = tt
answers_nothing P fact (Some text) out = (fact text, Keeps-refl out)
