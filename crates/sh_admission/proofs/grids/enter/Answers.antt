use Rattle.std.proofs.Common.{◌∙◌, sym}
use Rattle.indexmap.proofs.CallerLemmas.{insert_entry-new}
use Rattle.sh_admission.proofs.PlaceLaws.{none_when, places_entered, places_kept}
use Rattle.sh_admission.proofs.grids.enter.Goals as goal

pub returns-in_ok-insert : goal.returns-in_ok-insert
returns-in_ok-insert c = λ names long has.
    places_entered _ _ c.args.name c.args.at names
    (c.in_ok-insert.ensures.entries
    ∙ insert_entry-new _ c.args.places.now c.args.name c.args.at (none_when _ (sym c.contains_key.ensures ∙ c.if-not-contains_key.true)))
    long has

pub returns-else-not-contains_key : goal.returns-else-not-contains_key
returns-else-not-contains_key c = λ names long has.
    places_kept c.args.places.now.entries c.args.name.now names (sym c.contains_key.ensures ∙ c.if-not-contains_key.false) has
