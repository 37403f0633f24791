use Rattle.std.proofs.Common.{◌≡◌, ◌++◌, map}
use Rattle.sh_grammar.proofs.machine.push_body.Given as goal

abbrev pub invariant-loop-symbol : goal.invariant-loop-symbol
invariant-loop-symbol l = l.stack.items ≡ l.fn.stack.items ++ map (λ r. r.now) l.yielded
