use Rattle.std.proofs.Common.{◌∙◌, List, Global, ap, ap₂, refl, sym, codes, map, string_bytes}
use Rattle.std.specs.Prelude.{option_and_then}
use Rattle.clap.specs.Words.{found_of}
use Rattle.sh_words.specs.declared.options.Tool.TheVariants as tool
use Rattle.sh_words.specs.Words.{Text, is_given}
use Rattle.sh_words.specs.Values.{traversal_of}
use Rattle.sh_words.specs.Meaning.{generate_from, order_from}
use Rattle.sh_words.proofs.Taken.{flag_is, flag_text, no_value, not_given, option_text, words_of}
use Rattle.sh_words.proofs.reading.run_options.Goals as goal

pub returns : goal.returns
returns c accepted =
    let words : List Text = map (string_bytes {Z = Global}) c.args.words.now in
    let found = found_of c.in-Ok.matches in
    let rows = c.in-Ok.ensures.rows in
    let all = (words_of tool.Run words accepted).all in
    let turns = option_text tool.Run (codes "turns") words accepted found rows refl in
    let named = option_text tool.Run (codes "order") words accepted found rows refl in
    let number = option_text tool.Run (codes "generate") words accepted found rows refl in
    let size = option_text tool.Run (codes "size") words accepted found rows refl in
    record {
      accepted = accepted;
      propagate = ap (option_and_then traversal_of) (sym (no_value tool.Run (codes "--propagate") words refl all));
      partition = sym (not_given tool.Run (codes "--partition") words refl all);
      simplify = sym (not_given tool.Run (codes "--simplify") words refl all);
      halo_to_shift = sym (not_given tool.Run (codes "--halo-to-shift") words refl all);
      order = c.in_ok-order.ensures ∙ ap₂ order_from turns named;
      trace = flag_is (is_given (codes "--trace") words) c.get_flag.result _ (flag_text tool.Run (codes "trace") words accepted found rows refl refl) c.get_flag.ensures.value c.get_flag.ensures.other;
      device = flag_is (is_given (codes "--device") words) c.get_flag-2.result _ (flag_text tool.Run (codes "device") words accepted found rows refl refl) c.get_flag-2.ensures.value c.get_flag-2.ensures.other;
      generate = c.generate.ensures ∙ ap₂ generate_from number size;
    }
