use Rattle.std.proofs.Common.{◌≡◌, drop, map, nat_eq}
use Rattle.std.specs.List.{list_any, starts_with}
use Rattle.sh_grammar.proofs.left_out.begins_with_one.Given as goal

abbrev pub invariant-loop-begin : goal.invariant-loop-begin
invariant-loop-begin l =
    list_any (starts_with nat_eq l.text) (map (λ w. w.now) l.beginnings)
    ≡ list_any (starts_with nat_eq l.text) (map (λ w. w.now) (drop l.begin-index l.beginnings))
