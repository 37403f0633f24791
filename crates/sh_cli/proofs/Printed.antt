-- A sound and admitted module is printed by `shard-opt` without words.
use mathlib.Core.Path.{refl}
use Rattle.std.proofs.Common.{◌≡◌, List, ℕ, [], false, None}
use Rattle.sh_base.specs.declared.orders.Order.TheVariants.{Round}
use Rattle.sh_base.specs.declared.places.Refusal.{Refusal}
use Rattle.sh_admission.specs.Faults.{IsRefused as IsNotAdmitted}
use Rattle.sh_ir.specs.declared.modules.Module.{Module}
use Rattle.sh_parse.specs.Reads.{Reads}
use Rattle.sh_print.specs.Tokens as print
use Rattle.sh_words.specs.Meaning.{AreOptionsOf}
use Rattle.sh_words.specs.declared.options.Options.{Options}
use Rattle.sh_words.specs.declared.options.Tool.TheVariants.{Opt}
use Rattle.sh_cli.specs.Answer.{IsAnswer, IsSound}
use Rattle.sh_cli.specs.Answer.IsAnswer.{printing}
use Rattle.sh_cli.specs.Answer.IsPrinting.{prints}
use Rattle.sh_cli.specs.declared.status.Status.TheVariants.{Success}

-- the options of no word
no_words : Options
no_words = record {
  propagate = None;
  partition = false;
  simplify = false;
  halo_to_shift = false;
  order = Round;
  trace = false;
  device = false;
  generate = None;
}

are_none : AreOptionsOf Opt [] no_words
unfolding no_words
are_none = record {
  accepted = refl;
  propagate = refl;
  partition = refl;
  simplify = refl;
  halo_to_shift = refl;
  order = refl;
  trace = refl;
  device = refl;
  generate = refl;
}

pub is_printed : (text : List ℕ) (m : Module) → Reads text m → IsSound m → ((r : Refusal) → ¬ (IsNotAdmitted m false r))
    → IsAnswer Opt [] text Success (print.text_of m)
unfolding no_words
is_printed text m read sound admitted =
    printing no_words Success (print.text_of m) are_none refl refl (prints m read sound admitted)
