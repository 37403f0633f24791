use Rattle.std.proofs.Common.{◌≡◌, ◌∙◌, ap, subst, get_or, Some, None}
use Rattle.std.specs.Prelude.{option_map}
use Rattle.std.proofs.lemmas.Result.{IfOk-weaker}
use Rattle.sh_sem.specs.Pieces.{Piece, equal_piece}
use Rattle.sh_tensor.specs.Tensor.{slice_of}
use Rattle.sh_collectives.proofs.PartLaws.{piece_some, piece_none, piece_fits}
use Rattle.sh_collectives.proofs.parts.piece.Goals as goal

pub slice-requires-clause-within : goal.slice-requires-clause-within
slice-requires-clause-within c =
    let fits = piece_fits c.args.members c.args.place (get_or c.args.t.now.shape c.args.axis 0) c.in-Some.size c.requires.place
    (subst (λ s. option_map (λ (x : Piece). x.size) (equal_piece c.args.members c.args.place (get_or s c.args.axis 0)) ≡ Some c.in-Some.size)
    (c.extents.ensures.value ∙ c.shape.ensures.value) (c.piece_size.ensures c.args.place ∙ c.in-Some.is)) in
    rw c.start_of.ensures fits

pub returns-in-Some : goal.returns-in-Some
returns-in-Some c =
    let size : option_map (λ (x : Piece). x.size) (equal_piece c.args.members c.args.place (get_or c.args.t.now.shape c.args.axis 0)) ≡ Some c.in-Some.size =
    subst (λ s. option_map (λ (x : Piece). x.size) (equal_piece c.args.members c.args.place (get_or s c.args.axis 0)) ≡ Some c.in-Some.size)
    (c.extents.ensures.value ∙ c.shape.ensures.value) (c.piece_size.ensures c.args.place ∙ c.in-Some.is) in
    IfOk-weaker c.slice.result _ _ (λ part h. h ∙ ap (λ start. slice_of c.args.t.now c.args.axis start c.in-Some.size) c.start_of.ensures ∙ piece_some c.args.axis c.args.members c.args.place c.args.t.now c.in-Some.size size) c.slice.ensures

pub returns-in-None : goal.returns-in-None
returns-in-None c =
    let none : option_map (λ (x : Piece). x.size) (equal_piece c.args.members c.args.place (get_or c.args.t.now.shape c.args.axis 0)) ≡ None =
    subst (λ s. option_map (λ (x : Piece). x.size) (equal_piece c.args.members c.args.place (get_or s c.args.axis 0)) ≡ None)
    (c.extents.ensures.value ∙ c.shape.ensures.value) (c.piece_size.ensures c.args.place ∙ c.in-None.is) in
    IfOk-weaker c.copy.result _ _ (λ part h. h ∙ piece_none c.args.axis c.args.members c.args.place c.args.t.now none) c.copy.ensures

pub start_of-requires : goal.start_of-requires
start_of-requires c =
    piece_fits c.args.members c.args.place (get_or c.extents.result.now c.args.axis 0) c.in-Some.size c.requires.place (c.piece_size.ensures c.args.place ∙ c.in-Some.is)
