use Rattle.std.proofs.Common.{◌∙◌, ap₂}
use Rattle.clap.specs.Words.{with_rule}
use Rattle.sh_words.proofs.commands.opt_command.Goals as goal

pub returns : goal.returns
returns c =
    c.in_ok-command.ensures.shape c.flag-3.ensures.local
    ∙ ap₂ with_rule (c.in_ok-arg-3.ensures.shape c.flag-2.ensures.local
    ∙ ap₂ with_rule (c.in_ok-arg-2.ensures.shape c.flag.ensures.local
    ∙ ap₂ with_rule (c.in_ok-arg.ensures.shape c.option.ensures.local
    ∙ ap₂ with_rule c.bare_command.ensures c.option.ensures.rule) c.flag.ensures.rule) c.flag-2.ensures.rule) c.flag-3.ensures.rule
