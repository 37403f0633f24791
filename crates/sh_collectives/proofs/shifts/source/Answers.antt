use Rattle.std.proofs.Common.{◌<◌, sym, arith, subst, length}
use Rattle.std.specs.Prelude.{IfSome}
use Rattle.sh_base.proofs.IndexLaws.{IsIndexOf-entry, IsIndexOf-long, IsIndexOf-set_entry}
use Rattle.sh_collectives.proofs.ShiftLaws.{extent_le}
use Rattle.sh_collectives.proofs.shifts.source.Goals as goal

pub shifted-requires-clause-within : goal.shifted-requires-clause-within
shifted-requires-clause-within c =
    let below : c.in-Some.along < length c.args.x.now.extents = subst (λ o. IfSome o (λ along. along < length c.args.x.now.extents)) c.in-Some.is c.requires.along in
    rw (c.extents-2.ensures.value, c.extents.ensures.value) (IsIndexOf-entry c.args.x.now.extents c.unflat-coordinates.result c.in-Some.along c.unflat-coordinates.ensures.within below)

pub shifted-requires-clause-few : goal.shifted-requires-clause-few
shifted-requires-clause-few c =
    let below : c.in-Some.along < length c.args.x.now.extents = subst (λ o. IfSome o (λ along. along < length c.args.x.now.extents)) c.in-Some.is c.requires.along in
    let least = extent_le c.args.x.now.extents c.in-Some.along below (omega (arith, c.requires.place)) in
    rw c.extents.ensures.value (omega (arith, least, c.requires.few))

pub with_extent-requires : goal.with_extent-requires
with_extent-requires c =
    let below : c.in-Some.along < length c.args.x.now.extents = subst (λ o. IfSome o (λ along. along < length c.args.x.now.extents)) c.in-Some.is c.requires.along in
    IsIndexOf-long c.args.x.now.extents c.unflat-coordinates.result c.in-Some.along c.unflat-coordinates.ensures.within below

pub flat-requires-clause-within : goal.flat-requires-clause-within
flat-requires-clause-within c =
    rw c.with_extent.ensures
    (IsIndexOf-set_entry c.args.x.now.extents c.unflat-coordinates.result c.in-Some.along c.in-Some-shifted.other c.unflat-coordinates.ensures.within
    (rw (sym c.extents.ensures.value) c.in-Some-shifted.ensures.within))
