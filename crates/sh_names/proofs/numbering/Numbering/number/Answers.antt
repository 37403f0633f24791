use Rattle.std.proofs.Common.{◌∙◌, arith}
use Rattle.sh_names.specs.Tables.{names_in, owned_of}
use Rattle.sh_names.proofs.Numbered.{number_counts, place_counts}
use Rattle.sh_names.proofs.numbering.Numbering.number.Goals as goal

pub index-requires : goal.index-requires
index-requires c =
    let below = place_counts c.place.new.self (owned_of c.args.name) (names_in c.args.self.now) c.in_ok-at.ensures.numbering c.in_ok-at.ensures.names
    c.in_ok-at.at c.in_ok-at.ensures.place in
    let counted = c.place.new.self.numbers.ok.0 in
    omega arith

pub returns-clause-number : goal.returns-clause-number
returns-clause-number c =
    c.index.ensures
    ∙ number_counts c.place.new.self (owned_of c.args.name) (names_in c.args.self.now) c.in_ok-at.ensures.numbering c.in_ok-at.ensures.names
    c.in_ok-at.at c.in_ok-at.ensures.place _
