use Rattle.sh_pieces_demo.proofs.Running.{IsRunning}
use Rattle.sh_pieces_demo.specs.Plain.{function_of}
use Rattle.sh_pieces_demo.proofs.run.Given as goal

abbrev pub invariant-loop-instruction : goal.invariant-loop-instruction
invariant-loop-instruction l = IsRunning (function_of l.function) l.arguments l.instruction-index l.names.items l.values.items
