use Rattle.std.proofs.Common.{◌≡◌, ◌≢◌, [], false, map, arith, ap, sym, subst, ◌∙◌}
use Rattle.sh_sharding.specs.AxisLists.{natural}
use Rattle.sh_sharding.specs.OffsetLists.{mark_of, AreOffsets}
use Rattle.sh_sharding.specs.Views.{scaled}
use Rattle.sh_sharding.specs.declared.shardings.Mark.TheVariants.{Offsets}
use Rattle.sh_sharding.proofs.Cases.{empty_list, some_list, not_both}
use Rattle.sh_sharding.proofs.MarkLaws.{mark_of-none, normal_mark-other, offsets_fit}
use Rattle.sh_sharding.proofs.ViewLaws.{scaled-one, mark_of-listed}
use Rattle.sh_sharding.proofs.offset_lists.mark_for.Goals as goal
use Rattle.sh_sharding.proofs.offset_lists.mark_for.Goals.{After-is_empty}

pub returns-then-is_empty : goal.returns-then-is_empty
returns-then-is_empty c =
    let none = empty_list c.args.offsets.now c.is_empty.result c.if-is_empty.true c.is_empty.ensures in
    sym (ap (λ os. mark_of c.args.extent c.args.parts (map natural os)) none ∙ mark_of-none c.args.extent c.args.parts)

some : (c : After-is_empty) → c.is_empty.result ≡ false → c.args.offsets.now ≢ []
some c listed = some_list c.args.offsets.now c.is_empty.result listed c.is_empty.ensures

pub is_balanced-requires : goal.is_balanced-requires
is_balanced-requires c =
    let listed = some (goal.at.is_balanced-requires c).After-is_empty c.if-is_empty.false in
    record { some = c.requires.some; few = c.requires.few; order = subst (AreOffsets c.args.extent c.args.parts) (sym (scaled-one c.args.offsets.now)) (c.requires.offsets listed) }

pub returns-then-is_balanced : goal.returns-then-is_balanced
returns-then-is_balanced c =
    let listed = some (goal.at.returns-then-is_balanced c).After-is_empty c.if-is_empty.false in
    sym (c.is_balanced.ensures.0 c.if-is_balanced.true) ∙ mark_of-listed c.args.extent c.args.parts c.args.offsets.now listed

pub naturals-requires : goal.naturals-requires
naturals-requires c =
    offsets_fit c.args.extent c.args.parts 18446744073709551616 c.args.offsets.now
    (c.requires.offsets (some (goal.at.naturals-requires c).After-is_empty c.if-is_empty.false)) (omega arith)

pub returns : goal.returns
returns c =
    let listed = some (goal.at.returns c).After-is_empty c.if-is_empty.false in
    let os = map natural (map (scaled 1) c.args.offsets.now) in
    ap Offsets (c.from_vec.ensures ∙ c.in_ok-naturals.ensures ∙ sym (ap (map natural) (scaled-one c.args.offsets.now)))
    ∙ sym (normal_mark-other c.args.extent c.args.parts os (λ e. not_both c.is_balanced.result (c.is_balanced.ensures.1 e) c.if-is_balanced.false))
    ∙ mark_of-listed c.args.extent c.args.parts c.args.offsets.now listed
