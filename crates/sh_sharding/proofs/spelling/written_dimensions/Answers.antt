use Rattle.std.proofs.Common.{◌∙◌, ap, min, max, length}
use Rattle.sh_sharding.proofs.NormalLaws.{written_front}
use Rattle.sh_sharding.proofs.spelling.written_dimensions.Goals as goal

pub returns : goal.returns
returns c =
    written_front c.args.dimensions.now c.min.result
    (c.min.ensures ∙ ap (λ n. min n (length c.args.dimensions.now)) (c.max.ensures ∙ ap (λ xs. max (length xs) 1) c.up_to_last_split-split.ensures))
