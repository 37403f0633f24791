use Rattle.std.proofs.Common.{◌≡◌, drop, map}
use Rattle.sh_grammar.specs.LeftOut.{is_among}
use Rattle.sh_grammar.proofs.left_out.is_among.Given as goal

abbrev pub invariant-loop-other : goal.invariant-loop-other
invariant-loop-other l = is_among (map (λ w. w.now) l.texts) l.text ≡ is_among (map (λ w. w.now) (drop l.other-index l.texts)) l.text
