use Rattle.std.proofs.Common.{◌∷◌, ◌++◌, [], ap, sym, ◌∙◌}
use Rattle.sh_names.specs.Names.{first_number, names_by_role}
use Rattle.sh_names.specs.Tables.{mention, with_names}
use Rattle.sh_names.proofs.OneMention.{all_more, both_kept, is_there, known_more, length_more, numbers_more}
use Rattle.sh_names.proofs.passing.Pass.take.Goals as goal

pub returns-clause-passing : goal.returns-clause-passing
returns-clause-passing c = λ ms p kept.
    let m = mention c.args.role c.args.text.now c.args.scope in
    let more = c.in_ok-id.ensures in
    let names = more.names ms p.definers ∙ ap (λ ns. with_names ns (names_by_role m.role ms m)) p.names ∙ sym (all_more ms m) in
    let id = more.number ms p.definers ∙ ap (λ ns. first_number ns (names_by_role m.role ms m)) names in
    record {
      numbering = more.numbering;
      names = names;
      definers = more.definers ms p.definers;
      known = known_more c.keep.new.self ms m (c.in_ok-keep.ensures.known _ p.known);
      keep = both_kept ms m p.keep (sym (c.in_ok-keep.ensures.kept _ p.known) ∙ c.if-not-branch.false);
      are_there = is_there ms m p.are_there;
      count = length_more _ _ _ ms m c.in_ok-push.ensures.items p.count;
      ids = c.in_ok-push.ensures.items ∙ ap (λ ids. ids ++ c.in_ok-id.id ∷ []) p.ids ∙ sym (numbers_more ms m p.are_there c.in_ok-id.id id);
    }
