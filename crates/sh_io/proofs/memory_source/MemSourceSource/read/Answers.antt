use Rattle.std.proofs.Common.{◌≡◌, ◌+◌, length, take, drop, arith, ◌∙◌}
use Rattle.std.proofs.lemmas.Grind.{common_steps}
use Rattle.sh_io.proofs.Pieces.{piece_read, nothing_left}
use Rattle.sh_io.proofs.memory_source.MemSourceSource.read.Goals as goal

pub returns-clause-bytes : goal.returns-clause-bytes
returns-clause-bytes c =
    let rest : c.args.self.now.rest ≡ drop c.self.inside.position c.self.inside.bytes.items = cc in
    let piece : c.copy_from_slice.new.self ≡ take c.min-count.result (drop c.self.inside.position c.self.inside.bytes.items) = grind (arith, common_steps) in
    let len : length c.copy_from_slice.new.self ≡ c.min-count.result = grind (arith, common_steps) in (
      rest ∙ piece_read _ _ _ _ _ len piece,
      λ zero some. nothing_left c.self.inside.bytes.items (c.self.inside.position + c.min-count.result) (grind (arith, common_steps)),
    )
