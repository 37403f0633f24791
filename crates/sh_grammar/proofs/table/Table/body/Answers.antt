use Rattle.std.proofs.Common.{◌+◌, get_or, arith, refl, inl, inr}
use Rattle.sh_grammar.proofs.Pieces.{body_there, body_gone, body_past_form}
use Rattle.sh_grammar.proofs.table.Table.body.Goals as goal
use Rattle.sh_grammar.proofs.table.Table.body.Goals.{then-self-index-2-via-then-self-index-2, then-self-index-2-via-else-self-index-2+then-self-at}

pub returns-then-self-index-clause-none : goal.returns-then-self-index-clause-none
returns-then-self-index-clause-none c =
    rw (← c.number-index.ensures)
    (body_past_form c.args.self.now.symbols.now c.args.self.now.starts.now c.args.self.now.firsts.now c.number-index.result c.args.alternative (omega arith))

pub returns-then-self-index-2-clause-none : goal.returns-then-self-index-2-clause-none
returns-then-self-index-2-clause-none c =
    rw (← c.number-index.ensures)
    (body_gone c.args.self.now.symbols.now c.args.self.now.starts.now c.args.self.now.firsts.now c.number-index.result (c.number-index.result + 1) c.args.alternative
    (get_or c.args.self.now.firsts.now c.number-index.result 0 + c.args.alternative)
    (omega arith) (omega arith) refl
    (elim c.then-self-index-2.branch [ then-self-index-2-via-then-self-index-2 w ↦ inl (omega arith) | then-self-index-2-via-else-self-index-2+then-self-at w ↦ inr (omega arith) ]))

pub returns-clause-some : goal.returns-clause-some
returns-clause-some c =
    rw (← c.number-index.ensures)
    (body_there c.args.self.now.symbols.now c.args.self.now.starts.now c.args.self.now.firsts.now c.number-index.result (c.number-index.result + 1) c.args.alternative
    (get_or c.args.self.now.firsts.now c.number-index.result 0 + c.args.alternative) c.piece.result.now
    (omega arith) (omega arith) refl (omega arith) c.piece.ensures.piece)
