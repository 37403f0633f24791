use Rattle.std.proofs.Common.{◌∙◌, List, Global, ap, ap₂, refl, sym, codes, map, string_bytes}
use Rattle.std.specs.Prelude.{option_and_then}
use Rattle.clap.specs.Words.{found_of}
use Rattle.sh_words.specs.declared.options.Tool.TheVariants as tool
use Rattle.sh_words.specs.Words.{Text, is_given, value_in}
use Rattle.sh_words.specs.Values.{traversal_of}
use Rattle.sh_words.specs.Meaning.{generate_from, order_from}
use Rattle.sh_words.proofs.Taken.{flag_is, flag_text, no_value, not_given, option_text, words_of}
use Rattle.sh_words.proofs.reading.opt_options.Goals as goal
use Rattle.sh_words.proofs.reading.opt_options.Goals.{in-Some, in-None}

pub returns : goal.returns
returns c accepted =
    let words : List Text = map (string_bytes {Z = Global}) c.args.words.now in
    let found = found_of c.in-Ok.matches in
    let rows = c.in-Ok.ensures.rows in
    let all = (words_of tool.Opt words accepted).all in
    let value = option_text tool.Opt (codes "propagate") words accepted found rows refl in
    record {
      accepted = accepted;
      propagate = elim c.match-get_str.branch [
        | in-Some w ↦ w.propagate-is ∙ w.traversal-propagate.ensures ∙ ap (option_and_then traversal_of) (w.in-Some.ensures ∙ value)
        | in-None w ↦ w.propagate-is ∙ ap (option_and_then traversal_of) (w.in-None.ensures ∙ value)
      ];
      partition = flag_is (is_given (codes "--partition") words) c.get_flag.result _ (flag_text tool.Opt (codes "partition") words accepted found rows refl refl) c.get_flag.ensures.value c.get_flag.ensures.other;
      simplify = flag_is (is_given (codes "--simplify") words) c.get_flag-2.result _ (flag_text tool.Opt (codes "simplify") words accepted found rows refl refl) c.get_flag-2.ensures.value c.get_flag-2.ensures.other;
      halo_to_shift = flag_is (is_given (codes "--halo-to-shift") words) c.get_flag-3.result _ (flag_text tool.Opt (codes "halo-to-shift") words accepted found rows refl refl) c.get_flag-3.ensures.value c.get_flag-3.ensures.other;
      order = sym (ap₂ order_from (no_value tool.Opt (codes "--turns") words refl all) (no_value tool.Opt (codes "--order") words refl all));
      trace = sym (not_given tool.Opt (codes "--trace") words refl all);
      device = sym (not_given tool.Opt (codes "--device") words refl all);
      generate = ap (λ o. generate_from o (value_in (codes "--size") words)) (sym (no_value tool.Opt (codes "--generate") words refl all));
    }
