use Rattle.std.proofs.Common.{map, get_or, ap, sym, ◌∙◌}
use Rattle.sh_eval.proofs.KindLaws.{piece_alone}
use Rattle.sh_eval.proofs.LayoutLaws.{no_value, one_value, values_long}
use Rattle.sh_sem.specs.Given.{gives_piece}
use Rattle.sh_sem.specs.Pieces.{equal_piece}
use Rattle.sh_eval.proofs.evaluation.equal_piece_op.Goals as goal

pub returns-then-ts-ne1 : goal.returns-then-ts-ne1
returns-then-ts-ne1 c =
    no_value (gives_piece c.args.axis (equal_piece c.args.seat.size c.args.seat.place)) c.args.dims.now c.args.width (map (λ t. t.now) c.args.ts.now)
    (piece_alone c.args.axis (equal_piece c.args.seat.size c.args.seat.place) (map (λ t. t.now) c.args.ts.now) (λ e. c.if-ts-ne1.true (sym (values_long (λ t. t.now) c.args.ts.now) ∙ e)))

pub piece_op-requires-clause-alone : goal.piece_op-requires-clause-alone
piece_op-requires-clause-alone c = one_value (λ t. t.now) c.args.ts.now c.index-ts-0.result c.if-ts-ne1.false c.index-ts-0.is

pub returns : goal.returns
returns c =
    c.piece_op.ensures (equal_piece c.args.seat.size c.args.seat.place)
    (c.equal_piece-piece.ensures
    ∙ ap (equal_piece c.args.seat.size c.args.seat.place) (c.entry_at-extent.ensures ∙ ap (λ s. get_or s c.args.axis 0) (c.extents.ensures.value ∙ c.shape.ensures.value))) c.requires.few
