use Rattle.std.proofs.Common.{◌≡◌, drop, nat_eq, length, map}
use Rattle.std.specs.Prelude.{◌&&◌}
use Rattle.std.specs.List.{list_any, starts_with}
use Rattle.sh_grammar.specs.LeftOut.{integer_beginnings, are_digits}
use Rattle.sh_grammar.proofs.left_out.is_integer_type.Given as goal

abbrev pub invariant-loop-begin : goal.invariant-loop-begin
invariant-loop-begin l =
    list_any (λ begin. starts_with nat_eq l.word begin && are_digits (drop (length begin) l.word)) integer_beginnings
    ≡ list_any (λ begin. starts_with nat_eq l.word begin && are_digits (drop (length begin) l.word)) (map (λ w. w.now) (drop l.begin-index l.begin-items))
