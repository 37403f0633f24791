use Rattle.std.proofs.Common.{◌∙◌, ap, sym, map}
use Rattle.sh_names.specs.Tables.{owned_of}
use Rattle.sh_names.proofs.Numbered.{alike, keys_keyed, known_keyed, numbering_more, place_keyed}
use Rattle.sh_names.proofs.numbering.Numbering.place.Goals as goal

pub returns-in_ok-add-clause-names : goal.returns-in_ok-add-clause-names
returns-in_ok-add-clause-names c =
    ap (λ s. map owned_of s.keys) c.in_ok-add.ensures.names
    ∙ keys_keyed _ alike c.args.name c.args.self.now.names.keys c.insert_full.new.self.keys c.in_ok-at.ensures.keys

pub returns-in_ok-add-clause-numbering : goal.returns-in_ok-add-clause-numbering
returns-in_ok-add-clause-numbering c =
    numbering_more c.args.self.now c.add.new.self (owned_of c.args.name) c.requires
    (ap (λ s. map owned_of s.keys) c.in_ok-add.ensures.names
    ∙ keys_keyed _ alike c.args.name c.args.self.now.names.keys c.insert_full.new.self.keys c.in_ok-at.ensures.keys)
    (sym c.if-is_new.true ∙ known_keyed _ alike c.args.name c.args.self.now.names.keys c.in_ok-at.is_new c.in_ok-at.ensures.added)
    c.in_ok-add.ensures.numbers c.in_ok-add.ensures.counts

pub returns-in_ok-add-clause-place : goal.returns-in_ok-add-clause-place
returns-in_ok-add-clause-place c =
    c.in_ok-at.ensures.index ∙ place_keyed _ alike c.args.name c.args.self.now.names.keys

pub returns-else-is_new-clause-names : goal.returns-else-is_new-clause-names
returns-else-is_new-clause-names c =
    keys_keyed _ alike c.args.name c.args.self.now.names.keys c.insert_full.new.self.keys c.in_ok-at.ensures.keys

pub returns-else-is_new-clause-place : goal.returns-else-is_new-clause-place
returns-else-is_new-clause-place c =
    c.in_ok-at.ensures.index ∙ place_keyed _ alike c.args.name c.args.self.now.names.keys
