-- A function under names that are so much greater is the same under other names.
use Rattle.std.proofs.Common.{◌≡◌, ℕ, ◌+◌, List, [], ◌∷◌, map, Option, refl, sym, subst, arith}
use Rattle.sh_pieces.specs.Renaming.{StayApart, AreRenamed}
use Rattle.sh_pieces_demo.specs.declared.Function.{Function}
use Rattle.sh_pieces_demo.specs.declared.Subtract.{Subtract}
use Rattle.sh_pieces_demo.specs.Plain.{plain, shifted_by, IsShifted}

are_shifted : (offset : ℕ) (is : List Subtract) → AreRenamed plain (λ name. name + offset) is (map (shifted_by offset) is)
are_shifted offset [] = tt
are_shifted offset (i ∷ is) =
    (record { same_class = refl; operands = refl; defines = refl; members = λ c. refl; local = λ c values. refl; collect = λ c operands. refl }, are_shifted offset is)

stay_apart : (offset : ℕ) (ns : List (Option ℕ)) → StayApart (λ name. name + offset) ns
stay_apart offset [] = tt
stay_apart offset (n ∷ ns) = (λ name other is same. omega (arith, same), stay_apart offset ns)

pub is_shifted : (offset : ℕ) (f g : Function) → g.parameters.items ≡ map (λ name. name + offset) f.parameters.items → g.instructions.items ≡ map (shifted_by offset) f.instructions.items
    → g.results.items ≡ map (λ name. name + offset) f.results.items → IsShifted offset f g
is_shifted offset f g parameters instructions results = record {
  parameters = parameters;
  instructions = subst (λ js. AreRenamed plain (λ name. name + offset) f.instructions.items js) (sym instructions) (are_shifted offset f.instructions.items);
  results = results;
  apart = stay_apart offset _;
}
