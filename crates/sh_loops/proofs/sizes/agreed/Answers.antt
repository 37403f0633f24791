use Rattle.std.proofs.Common.{map, ap, sym, ◌∙◌}
use Rattle.sh_loops.specs.Sizes.{all_with_room}
use Rattle.sh_loops.proofs.RoomLaws.{no_room, not_ranked, with_all_room}
use Rattle.sh_loops.proofs.sizes.agreed.Goals as goal

pub returns-then-not-is_ranked : goal.returns-then-not-is_ranked
returns-then-not-is_ranked c =
    not_ranked c.args.maps.now (map (λ t. t.now) c.args.operands.now) c.args.loops
    (λ ranked. absurd (let yes = c.is_ranked.ensures.1 ranked in let no = c.if-not-is_ranked.true in cc))

pub returns-then-not-all_have_room : goal.returns-then-not-all_have_room
returns-then-not-all_have_room c =
    no_room c.args.maps.now (map (λ t. t.now) c.args.operands.now) c.args.loops c.extents-found.result c.all_have_room.result
    (c.is_ranked.ensures.0 c.if-not-is_ranked.false) c.requires.follow c.extents-found.ensures
    (c.all_have_room.ensures ∙ ap (λ E. all_with_room E c.args.maps.now (map (λ t. t.now) c.args.operands.now)) c.extents.ensures.value)
    c.if-not-all_have_room.true

pub returns : goal.returns
returns c =
    with_all_room c.args.maps.now (map (λ t. t.now) c.args.operands.now) c.args.loops c.extents-found.result c.all_have_room.result
    (c.is_ranked.ensures.0 c.if-not-is_ranked.false) c.requires.follow c.extents-found.ensures
    (c.all_have_room.ensures ∙ ap (λ E. all_with_room E c.args.maps.now (map (λ t. t.now) c.args.operands.now)) c.extents.ensures.value)
    c.if-not-all_have_room.false
