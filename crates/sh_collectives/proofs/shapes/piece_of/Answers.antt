use Rattle.std.proofs.Common.{◌≡◌, ◌∙◌, subst, get_or, Some, None}
use Rattle.std.specs.Prelude.{option_map}
use Rattle.sh_sem.specs.Pieces.{equal_piece}
use Rattle.sh_collectives.proofs.GroupLaws.{no_piece, is_piece}
use Rattle.sh_collectives.proofs.shapes.piece_of.Goals as goal

pub returns-in-Some-clause-value : goal.returns-in-Some-clause-value
returns-in-Some-clause-value c p =
    is_piece c.args.axis c.args.s.now c.sizes_with.result.items (equal_piece c.args.members p (get_or c.args.s.now c.args.axis 0)) c.in-Some.size
    (subst (λ e. option_map (λ x. x.size) (equal_piece c.args.members p (get_or e c.args.axis 0)) ≡ Some c.in-Some.size) c.extents.ensures.value (c.piece_size.ensures p ∙ c.in-Some.is)) c.sizes_with.ensures.value

pub returns-in-None-clause-value : goal.returns-in-None-clause-value
returns-in-None-clause-value c p =
    no_piece c.args.axis c.args.s.now (equal_piece c.args.members p (get_or c.args.s.now c.args.axis 0))
    (subst (λ e. option_map (λ x. x.size) (equal_piece c.args.members p (get_or e c.args.axis 0)) ≡ None) c.extents.ensures.value (c.piece_size.ensures p ∙ c.in-None.is))
