use Rattle.std.proofs.Common.{◌≡◌, ℕ, refl, ◌∙◌, ap, arith, Bor, Some, None}
use Rattle.std.specs.Prelude.{Option, unwrap_or, option_map, option_copied}
use Rattle.sh_grammar.proofs.Pieces.{get_of_piece, piece_past}
use Rattle.sh_grammar.proofs.table.Table.choice.Goals as goal

copied_map : (o : Option (Bor ℕ)) → option_copied o ≡ option_map (λ x. x.now) o
copied_map None = refl
copied_map (Some x) = refl

pub returns-then-self-index : goal.returns-then-self-index
returns-then-self-index c = rw (← c.number-index.ensures, piece_past c.args.self.now.choices.now c.args.self.now.rows.now c.number-index.result (omega arith))

pub returns : goal.returns
returns c =
    rw (← c.number-index.ensures, get_of_piece _ c.number-index.result _ c.piece-row.ensures.piece)
    (c.unwrap_or.ensures ∙ ap (λ o. unwrap_or o 0) (c.copied.ensures ∙ copied_map c.get.result) ∙ c.get.ensures.lookup.4 (omega arith) 0)
