use Rattle.sh_base.specs.Shape.{max_cells}
use Rattle.std.proofs.Common.{◌≡◌, ◌+◌, set, get_or, arith, ◌∙◌, ap, ap₂}
use Rattle.sh_sharding.specs.Windows.{undefined_of}
use Rattle.sh_sharding.proofs.WindowLaws.{padded_of-none, pad_join, fewer_cells}
use Rattle.sh_sharding.proofs.padding.padded.Goals as goal

pub returns-then-before-extent : goal.returns-then-before-extent
returns-then-before-extent c =
    let same = ap (λ z. get_or z c.args.axis 0) (c.extents.ensures.value ∙ c.shape.ensures.value) in
    let none : c.args.before + get_or c.args.t.shape c.args.axis 0 + c.args.after ≡ get_or c.args.t.shape c.args.axis 0 = rw (← same) c.if-before-extent.true in
    padded_of-none c.args.t c.args.axis c.args.before c.args.after c.shape.ensures.whole c.requires.axis none

pub undefined-requires : goal.undefined-requires
undefined-requires c =
    rw (c.with_extent.ensures, c.shape-2.ensures.value)
    (fewer_cells c.args.t.shape c.args.axis c.args.before (c.args.before + get_or c.args.t.shape c.args.axis 0 + c.args.after) max_cells c.requires.axis (omega arith) c.requires.small)

pub undefined-requires-2 : goal.undefined-requires-2
undefined-requires-2 c =
    rw (c.with_extent-2.ensures, c.shape-3.ensures.value)
    (fewer_cells c.args.t.shape c.args.axis c.args.after (c.args.before + get_or c.args.t.shape c.args.axis 0 + c.args.after) max_cells c.requires.axis (omega arith) c.requires.small)

pub concat-requires-clause-alike : goal.concat-requires-clause-alike
concat-requires-clause-alike c =
    let first = c.in_ok-first.ensures ∙ ap₂ undefined_of (c.with_extent.ensures ∙ ap (λ s. set s c.args.axis c.args.before) c.shape-2.ensures.value) c.width-width.ensures in
    let last = c.in_ok-last.ensures ∙ ap₂ undefined_of (c.with_extent-2.ensures ∙ ap (λ s. set s c.args.axis c.args.after) c.shape-3.ensures.value) c.width-width.ensures in
    (pad_join c.args.t c.args.axis c.args.before c.args.after c.in_ok-first.first c.in_ok-last.last c.in_ok-parts.parts.items c.requires.axis first last c.in_ok-parts.ensures.items).alike

pub concat-requires-clause-small : goal.concat-requires-clause-small
concat-requires-clause-small c =
    let first = c.in_ok-first.ensures ∙ ap₂ undefined_of (c.with_extent.ensures ∙ ap (λ s. set s c.args.axis c.args.before) c.shape-2.ensures.value) c.width-width.ensures in
    let last = c.in_ok-last.ensures ∙ ap₂ undefined_of (c.with_extent-2.ensures ∙ ap (λ s. set s c.args.axis c.args.after) c.shape-3.ensures.value) c.width-width.ensures in
    rw (pad_join c.args.t c.args.axis c.args.before c.args.after c.in_ok-first.first c.in_ok-last.last c.in_ok-parts.parts.items c.requires.axis first last c.in_ok-parts.ensures.items).shape
    c.requires.small

pub returns : goal.returns
returns c =
    let first = c.in_ok-first.ensures ∙ ap₂ undefined_of (c.with_extent.ensures ∙ ap (λ s. set s c.args.axis c.args.before) c.shape-2.ensures.value) c.width-width.ensures in
    let last = c.in_ok-last.ensures ∙ ap₂ undefined_of (c.with_extent-2.ensures ∙ ap (λ s. set s c.args.axis c.args.after) c.shape-3.ensures.value) c.width-width.ensures in
    rw (← (pad_join c.args.t c.args.axis c.args.before c.args.after c.in_ok-first.first c.in_ok-last.last c.in_ok-parts.parts.items c.requires.axis first last c.in_ok-parts.ensures.items).value)
    c.concat.ensures
