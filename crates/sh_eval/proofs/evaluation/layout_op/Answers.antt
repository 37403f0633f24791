use Rattle.std.proofs.Common.{map, ◌∙◌}
use Rattle.std.proofs.lemmas.Result.{IfOk-weaker}
use Rattle.sh_eval.specs.Evaluations.{gives_taken, seat_in}
use Rattle.sh_eval.proofs.EvaluationLaws.{collapse_gives, collapse_width, constant_fits_kind, constant_gives, default_gives, default_value, empty_gives, equal_piece_gives, equal_piece_width, expansion_gives, expansion_width, few_as, insertion_gives, insertion_width, join_gives, join_width, padding_gives, padding_width, rank_as, slice_gives, slice_width, taken_gives, taken_width, value_as}
use Rattle.sh_sem.specs.Given.{gives_collapse, gives_constant, gives_expansion, gives_insertion, gives_join, gives_padding, gives_piece, gives_slice, gives_undefined}
use Rattle.sh_sem.specs.Pieces.{equal_piece as piece_of_equal}
use Rattle.sh_eval.proofs.evaluation.layout_op.Goals as goal

pub constant_op-requires-clause-rank : goal.constant_op-requires-clause-rank
constant_op-requires-clause-rank c = rank_as c.args.op.now.result c.dims_of-dims.result.now c.dims_of-dims.ensures c.requires.rank

pub constant_op-requires-clause-fitting : goal.constant_op-requires-clause-fitting
constant_op-requires-clause-fitting c = constant_fits_kind c.args.op.now (map (λ t. t.now) c.args.ts.now) c.in-Constant.x c.width_of-width.result c.in-Constant.is c.width_of-width.ensures c.requires.fits

pub constant_op-requires-clause-few : goal.constant_op-requires-clause-few
constant_op-requires-clause-few c = few_as c.args.op.now (seat_in c.args.seat) (map (λ t. t.now) c.args.ts.now) (λ d. gives_constant c.in-Constant.x) c.dims_of-dims.result.now (constant_gives c.args.op.now (seat_in c.args.seat) c.in-Constant.x c.in-Constant.is) c.dims_of-dims.ensures c.requires.few

pub returns-in-Constant : goal.returns-in-Constant
returns-in-Constant c =
    λ element structured convolution.
    IfOk-weaker c.constant_op.result _ _
    (λ out p. p ∙ value_as c.args.op.now (seat_in c.args.seat) (map (λ t. t.now) c.args.ts.now) (λ d. gives_constant c.in-Constant.x) c.dims_of-dims.result.now c.width_of-width.result (constant_gives c.args.op.now (seat_in c.args.seat) c.in-Constant.x c.in-Constant.is) c.dims_of-dims.ensures c.width_of-width.ensures)
    c.constant_op.ensures

pub empty_op-requires-clause-rank : goal.empty_op-requires-clause-rank
empty_op-requires-clause-rank c = rank_as c.args.op.now.result c.dims_of-dims.result.now c.dims_of-dims.ensures c.requires.rank

pub empty_op-requires-clause-few : goal.empty_op-requires-clause-few
empty_op-requires-clause-few c = few_as c.args.op.now (seat_in c.args.seat) (map (λ t. t.now) c.args.ts.now) (λ d. gives_undefined d) c.dims_of-dims.result.now (empty_gives c.args.op.now (seat_in c.args.seat) c.in-Empty.is) c.dims_of-dims.ensures c.requires.few

pub returns-in-Empty : goal.returns-in-Empty
returns-in-Empty c =
    λ element structured convolution.
    IfOk-weaker c.empty_op.result _ _
    (λ out p. p ∙ value_as c.args.op.now (seat_in c.args.seat) (map (λ t. t.now) c.args.ts.now) (λ d. gives_undefined d) c.dims_of-dims.result.now c.width_of-width.result (empty_gives c.args.op.now (seat_in c.args.seat) c.in-Empty.is) c.dims_of-dims.ensures c.width_of-width.ensures)
    c.empty_op.ensures

pub extract_op-requires-clause-rank : goal.extract_op-requires-clause-rank
extract_op-requires-clause-rank c = rank_as c.args.op.now.result c.dims_of-dims.result.now c.dims_of-dims.ensures c.requires.rank

pub extract_op-requires-clause-widths : goal.extract_op-requires-clause-widths
extract_op-requires-clause-widths c = slice_width c.args.op.now (map (λ t. t.now) c.args.ts.now) c.in-ExtractSlice.x c.width_of-width.result c.in-ExtractSlice.is c.width_of-width.ensures c.requires.fits

pub extract_op-requires-clause-few : goal.extract_op-requires-clause-few
extract_op-requires-clause-few c = few_as c.args.op.now (seat_in c.args.seat) (map (λ t. t.now) c.args.ts.now) (λ d. gives_slice c.in-ExtractSlice.x) c.dims_of-dims.result.now (slice_gives c.args.op.now (seat_in c.args.seat) c.in-ExtractSlice.x c.in-ExtractSlice.is) c.dims_of-dims.ensures c.requires.few

pub returns-in-ExtractSlice : goal.returns-in-ExtractSlice
returns-in-ExtractSlice c =
    λ element structured convolution.
    IfOk-weaker c.extract_op.result _ _
    (λ out p. p ∙ value_as c.args.op.now (seat_in c.args.seat) (map (λ t. t.now) c.args.ts.now) (λ d. gives_slice c.in-ExtractSlice.x) c.dims_of-dims.result.now c.width_of-width.result (slice_gives c.args.op.now (seat_in c.args.seat) c.in-ExtractSlice.x c.in-ExtractSlice.is) c.dims_of-dims.ensures c.width_of-width.ensures)
    c.extract_op.ensures

pub insert_op-requires-clause-rank : goal.insert_op-requires-clause-rank
insert_op-requires-clause-rank c = rank_as c.args.op.now.result c.dims_of-dims.result.now c.dims_of-dims.ensures c.requires.rank

pub insert_op-requires-clause-widths : goal.insert_op-requires-clause-widths
insert_op-requires-clause-widths c = insertion_width c.args.op.now (map (λ t. t.now) c.args.ts.now) c.in-InsertSlice.x c.width_of-width.result c.in-InsertSlice.is c.width_of-width.ensures c.requires.fits

pub insert_op-requires-clause-few : goal.insert_op-requires-clause-few
insert_op-requires-clause-few c = few_as c.args.op.now (seat_in c.args.seat) (map (λ t. t.now) c.args.ts.now) (λ d. gives_insertion c.in-InsertSlice.x d) c.dims_of-dims.result.now (insertion_gives c.args.op.now (seat_in c.args.seat) c.in-InsertSlice.x c.in-InsertSlice.is) c.dims_of-dims.ensures c.requires.few

pub returns-in-InsertSlice : goal.returns-in-InsertSlice
returns-in-InsertSlice c =
    λ element structured convolution.
    IfOk-weaker c.insert_op.result _ _
    (λ out p. p ∙ value_as c.args.op.now (seat_in c.args.seat) (map (λ t. t.now) c.args.ts.now) (λ d. gives_insertion c.in-InsertSlice.x d) c.dims_of-dims.result.now c.width_of-width.result (insertion_gives c.args.op.now (seat_in c.args.seat) c.in-InsertSlice.x c.in-InsertSlice.is) c.dims_of-dims.ensures c.width_of-width.ensures)
    c.insert_op.ensures

pub collapse_op-requires-clause-rank : goal.collapse_op-requires-clause-rank
collapse_op-requires-clause-rank c = rank_as c.args.op.now.result c.dims_of-dims.result.now c.dims_of-dims.ensures c.requires.rank

pub collapse_op-requires-clause-widths : goal.collapse_op-requires-clause-widths
collapse_op-requires-clause-widths c = collapse_width c.args.op.now (map (λ t. t.now) c.args.ts.now) c.in-CollapseShape.x c.width_of-width.result c.in-CollapseShape.is c.width_of-width.ensures c.requires.fits

pub collapse_op-requires-clause-few : goal.collapse_op-requires-clause-few
collapse_op-requires-clause-few c = few_as c.args.op.now (seat_in c.args.seat) (map (λ t. t.now) c.args.ts.now) (λ d. gives_collapse c.in-CollapseShape.x) c.dims_of-dims.result.now (collapse_gives c.args.op.now (seat_in c.args.seat) c.in-CollapseShape.x c.in-CollapseShape.is) c.dims_of-dims.ensures c.requires.few

pub returns-in-CollapseShape : goal.returns-in-CollapseShape
returns-in-CollapseShape c =
    λ element structured convolution.
    IfOk-weaker c.collapse_op.result _ _
    (λ out p. p ∙ value_as c.args.op.now (seat_in c.args.seat) (map (λ t. t.now) c.args.ts.now) (λ d. gives_collapse c.in-CollapseShape.x) c.dims_of-dims.result.now c.width_of-width.result (collapse_gives c.args.op.now (seat_in c.args.seat) c.in-CollapseShape.x c.in-CollapseShape.is) c.dims_of-dims.ensures c.width_of-width.ensures)
    c.collapse_op.ensures

pub expand_op-requires-clause-rank : goal.expand_op-requires-clause-rank
expand_op-requires-clause-rank c = rank_as c.args.op.now.result c.dims_of-dims.result.now c.dims_of-dims.ensures c.requires.rank

pub expand_op-requires-clause-widths : goal.expand_op-requires-clause-widths
expand_op-requires-clause-widths c = expansion_width c.args.op.now (map (λ t. t.now) c.args.ts.now) c.in-ExpandShape.x c.width_of-width.result c.in-ExpandShape.is c.width_of-width.ensures c.requires.fits

pub expand_op-requires-clause-few : goal.expand_op-requires-clause-few
expand_op-requires-clause-few c = few_as c.args.op.now (seat_in c.args.seat) (map (λ t. t.now) c.args.ts.now) (λ d. gives_expansion c.in-ExpandShape.x d) c.dims_of-dims.result.now (expansion_gives c.args.op.now (seat_in c.args.seat) c.in-ExpandShape.x c.in-ExpandShape.is) c.dims_of-dims.ensures c.requires.few

pub returns-in-ExpandShape : goal.returns-in-ExpandShape
returns-in-ExpandShape c =
    λ element structured convolution.
    IfOk-weaker c.expand_op.result _ _
    (λ out p. p ∙ value_as c.args.op.now (seat_in c.args.seat) (map (λ t. t.now) c.args.ts.now) (λ d. gives_expansion c.in-ExpandShape.x d) c.dims_of-dims.result.now c.width_of-width.result (expansion_gives c.args.op.now (seat_in c.args.seat) c.in-ExpandShape.x c.in-ExpandShape.is) c.dims_of-dims.ensures c.width_of-width.ensures)
    c.expand_op.ensures

pub equal_piece_op-requires-clause-rank : goal.equal_piece_op-requires-clause-rank
equal_piece_op-requires-clause-rank c = rank_as c.args.op.now.result c.dims_of-dims.result.now c.dims_of-dims.ensures c.requires.rank

pub equal_piece_op-requires-clause-widths : goal.equal_piece_op-requires-clause-widths
equal_piece_op-requires-clause-widths c = equal_piece_width c.args.op.now (map (λ t. t.now) c.args.ts.now) c.in-AllSlice.x c.width_of-width.result c.in-AllSlice.is c.width_of-width.ensures c.requires.fits

pub equal_piece_op-requires-clause-few : goal.equal_piece_op-requires-clause-few
equal_piece_op-requires-clause-few c = few_as c.args.op.now (seat_in c.args.seat) (map (λ t. t.now) c.args.ts.now) (λ d. gives_piece c.in-AllSlice.x.slice_axis (piece_of_equal c.args.seat.size c.args.seat.place)) c.dims_of-dims.result.now (equal_piece_gives c.args.op.now (seat_in c.args.seat) c.in-AllSlice.x c.in-AllSlice.is) c.dims_of-dims.ensures c.requires.few

pub returns-in-AllSlice : goal.returns-in-AllSlice
returns-in-AllSlice c =
    λ element structured convolution.
    IfOk-weaker c.equal_piece_op.result _ _
    (λ out p. p ∙ value_as c.args.op.now (seat_in c.args.seat) (map (λ t. t.now) c.args.ts.now) (λ d. gives_piece c.in-AllSlice.x.slice_axis (piece_of_equal c.args.seat.size c.args.seat.place)) c.dims_of-dims.result.now c.width_of-width.result (equal_piece_gives c.args.op.now (seat_in c.args.seat) c.in-AllSlice.x c.in-AllSlice.is) c.dims_of-dims.ensures c.width_of-width.ensures)
    c.equal_piece_op.ensures

pub listed_piece_op-requires-clause-rank : goal.listed_piece_op-requires-clause-rank
listed_piece_op-requires-clause-rank c = rank_as c.args.op.now.result c.dims_of-dims.result.now c.dims_of-dims.ensures c.requires.rank

pub listed_piece_op-requires-clause-widths : goal.listed_piece_op-requires-clause-widths
listed_piece_op-requires-clause-widths c = taken_width c.args.op.now (map (λ t. t.now) c.args.ts.now) c.in-Take.x c.width_of-width.result c.in-Take.is c.width_of-width.ensures c.requires.fits

pub listed_piece_op-requires-clause-few : goal.listed_piece_op-requires-clause-few
listed_piece_op-requires-clause-few c = few_as c.args.op.now (seat_in c.args.seat) (map (λ t. t.now) c.args.ts.now) (λ d. gives_taken c.in-Take.x (seat_in c.args.seat)) c.dims_of-dims.result.now (taken_gives c.args.op.now (seat_in c.args.seat) c.in-Take.x c.in-Take.is) c.dims_of-dims.ensures c.requires.few

pub returns-in-Take : goal.returns-in-Take
returns-in-Take c =
    λ element structured convolution.
    IfOk-weaker c.listed_piece_op.result _ _
    (λ out p. p ∙ value_as c.args.op.now (seat_in c.args.seat) (map (λ t. t.now) c.args.ts.now) (λ d. gives_taken c.in-Take.x (seat_in c.args.seat)) c.dims_of-dims.result.now c.width_of-width.result (taken_gives c.args.op.now (seat_in c.args.seat) c.in-Take.x c.in-Take.is) c.dims_of-dims.ensures c.width_of-width.ensures)
    c.listed_piece_op.ensures

pub pad_op-requires-clause-rank : goal.pad_op-requires-clause-rank
pad_op-requires-clause-rank c = rank_as c.args.op.now.result c.dims_of-dims.result.now c.dims_of-dims.ensures c.requires.rank

pub pad_op-requires-clause-widths : goal.pad_op-requires-clause-widths
pad_op-requires-clause-widths c = padding_width c.args.op.now (map (λ t. t.now) c.args.ts.now) c.in-Pad.x c.width_of-width.result c.in-Pad.is c.width_of-width.ensures c.requires.fits

pub pad_op-requires-clause-few : goal.pad_op-requires-clause-few
pad_op-requires-clause-few c = few_as c.args.op.now (seat_in c.args.seat) (map (λ t. t.now) c.args.ts.now) (λ d. gives_padding c.in-Pad.x) c.dims_of-dims.result.now (padding_gives c.args.op.now (seat_in c.args.seat) c.in-Pad.x c.in-Pad.is) c.dims_of-dims.ensures c.requires.few

pub returns-in-Pad : goal.returns-in-Pad
returns-in-Pad c =
    λ element structured convolution.
    IfOk-weaker c.pad_op.result _ _
    (λ out p. p ∙ value_as c.args.op.now (seat_in c.args.seat) (map (λ t. t.now) c.args.ts.now) (λ d. gives_padding c.in-Pad.x) c.dims_of-dims.result.now c.width_of-width.result (padding_gives c.args.op.now (seat_in c.args.seat) c.in-Pad.x c.in-Pad.is) c.dims_of-dims.ensures c.width_of-width.ensures)
    c.pad_op.ensures

pub join_op-requires-clause-rank : goal.join_op-requires-clause-rank
join_op-requires-clause-rank c = rank_as c.args.op.now.result c.dims_of-dims.result.now c.dims_of-dims.ensures c.requires.rank

pub join_op-requires-clause-widths : goal.join_op-requires-clause-widths
join_op-requires-clause-widths c = join_width c.args.op.now (map (λ t. t.now) c.args.ts.now) c.in-Join.x c.width_of-width.result c.in-Join.is c.width_of-width.ensures c.requires.fits

pub join_op-requires-clause-few : goal.join_op-requires-clause-few
join_op-requires-clause-few c = few_as c.args.op.now (seat_in c.args.seat) (map (λ t. t.now) c.args.ts.now) (λ d. gives_join c.in-Join.x.axis) c.dims_of-dims.result.now (join_gives c.args.op.now (seat_in c.args.seat) c.in-Join.x c.in-Join.is) c.dims_of-dims.ensures c.requires.few

pub returns-in-Join : goal.returns-in-Join
returns-in-Join c =
    λ element structured convolution.
    IfOk-weaker c.join_op.result _ _
    (λ out p. p ∙ value_as c.args.op.now (seat_in c.args.seat) (map (λ t. t.now) c.args.ts.now) (λ d. gives_join c.in-Join.x.axis) c.dims_of-dims.result.now c.width_of-width.result (join_gives c.args.op.now (seat_in c.args.seat) c.in-Join.x c.in-Join.is) c.dims_of-dims.ensures c.width_of-width.ensures)
    c.join_op.ensures

pub returns-in_default : goal.returns-in_default
returns-in_default c =
    λ element structured convolution.
    default_value c.args.op.now (seat_in c.args.seat) (map (λ t. t.now) c.args.ts.now)
    (default_gives c.args.op.now.kind c.args.op.now.operands c.args.op.now.result (seat_in c.args.seat) c.in_default.not-Constant c.in_default.not-Empty c.in_default.not-ExtractSlice c.in_default.not-InsertSlice c.in_default.not-CollapseShape c.in_default.not-ExpandShape c.in_default.not-AllSlice c.in_default.not-Take c.in_default.not-Pad c.in_default.not-Join element structured convolution)
