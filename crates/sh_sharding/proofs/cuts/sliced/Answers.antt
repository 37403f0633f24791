use Rattle.std.proofs.Common.{◌≡◌, ap, ◌∙◌, get_or}
use Rattle.sh_sharding.proofs.WindowLaws.{slice_of-all}
use Rattle.sh_sharding.proofs.cuts.sliced.Goals as goal

pub returns-then-size-extents : goal.returns-then-size-extents
returns-then-size-extents c =
    let all : c.args.size ≡ get_or c.args.t.now.shape c.args.axis 0 = c.if-size-extents.true ∙ ap (λ z. get_or z c.args.axis 0) (c.extents.ensures.value ∙ c.shape.ensures.value) in
    slice_of-all c.args.t.now c.args.axis c.args.start c.args.size c.shape.ensures.whole c.requires.within all
