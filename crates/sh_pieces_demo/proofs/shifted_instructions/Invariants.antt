use Rattle.std.proofs.Common.{◌≡◌, map, take}
use Rattle.sh_pieces_demo.specs.Plain.{shifted_by}
use Rattle.sh_pieces_demo.proofs.shifted_instructions.Given as goal

abbrev pub invariant-loop-instruction : goal.invariant-loop-instruction
invariant-loop-instruction l = l.all.items ≡ map (shifted_by l.offset) (take l.instruction-index l.instructions)
