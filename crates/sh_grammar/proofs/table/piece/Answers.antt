use Rattle.std.proofs.Common.{◌+◌, length, arith}
use Rattle.sh_grammar.proofs.Pieces.{rise_next, slice_piece}
use Rattle.sh_grammar.proofs.table.piece.Goals as goal

pub offset_bounds-items-cuts : goal.offset_bounds-items-cuts
offset_bounds-items-cuts g c =
    let facts = rise_next (length c.args.items.now) c.args.cuts.now c.args.at (c.args.at + 1) c.requires.rise (omega arith) c.requires.within in
    omega (arith, facts)

pub slice_bounds-result-count : goal.slice_bounds-result-count
slice_bounds-result-count g c =
    (rise_next (length c.args.items.now) c.args.cuts.now c.args.at (c.args.at + 1) c.requires.rise (omega arith) c.requires.within).0

pub slice_bounds-result-start : goal.slice_bounds-result-start
slice_bounds-result-start g c =
    let facts = rise_next (length c.args.items.now) c.args.cuts.now c.args.at (c.args.at + 1) c.requires.rise (omega arith) c.requires.within in
    omega (arith, facts)

pub slice_bounds-result-end : goal.slice_bounds-result-end
slice_bounds-result-end g c =
    let facts = rise_next (length c.args.items.now) c.args.cuts.now c.args.at (c.args.at + 1) c.requires.rise (omega arith) c.requires.within in
    omega (arith, facts)

pub returns-clause-piece : goal.returns-clause-piece
returns-clause-piece g c = slice_piece c.args.items.now c.args.cuts.now c.args.at (c.args.at + 1) (omega arith) c.requires.within
