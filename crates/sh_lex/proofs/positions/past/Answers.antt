use Rattle.std.proofs.Common.{ap, ◌∙◌, arith}
use Rattle.sh_lex.proofs.PlaceLemmas.{column-le, place_past_all-at}
use Rattle.sh_lex.proofs.positions.past.Goals as goal

pub place_past_all-requires-clause-column : goal.place_past_all-requires-clause-column
place_past_all-requires-clause-column c =
    omega (arith, column-le c.args.text.now c.args.from.offset c.requires.at.within, ap (λ p. p.column) c.requires.at.place)

pub returns-clause-at : goal.returns-clause-at
returns-clause-at c =
    let place = rw (c.split_at-2.ensures.front, c.split_at.ensures.back, c.requires.at.place) at c.place_past_all.ensures in
    record {
      within = omega arith;
      place = place ∙ place_past_all-at c.args.text.now c.args.from.offset c.args.len;
    }
