use Rattle.std.proofs.Common.{◌≡◌, map, drop}
use Rattle.sh_grammar.specs.Lexemes.{class_in}
use Rattle.sh_grammar.specs.Views.{spelled}
use Rattle.sh_grammar.proofs.keywords.class_in.Given as goal

abbrev pub invariant-loop-i : goal.invariant-loop-i
invariant-loop-i l =
    class_in (spelled (map (λ w. w.now) l.texts) l.classes) l.text l.other
    ≡ class_in (spelled (map (λ w. w.now) (drop l.i l.texts)) (drop l.i l.classes)) l.text l.other
