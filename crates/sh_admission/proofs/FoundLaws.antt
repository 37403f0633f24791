-- A loop over a list keeps the least of the faults of the items so far.
use mathlib.Core.Path.{◌∙◌, ap, sym, refl}
use Rattle.std.proofs.Common.{◌≡◌, ℕ, ◌+◌, ◌<◌, List, [], ◌∷◌, ◌++◌, length, take, subst}
use Rattle.std.proofs.lemmas.List.{append-nil, take_more}
use Rattle.std.proofs.lemmas.List.Elements.{All-tail}
use Rattle.std.specs.List.{All}
use Rattle.std.specs.Prelude.{Option, Some, None, get_or}
use Rattle.std.specs.Option.{option_map_or}
use Rattle.sh_base.specs.declared.places.Refusal.{Refusal}
use Rattle.sh_ir.specs.declared.functions.Carry.{Carry}
use Rattle.sh_ir.specs.declared.functions.Cut.{Cut}
use Rattle.sh_ir.specs.declared.functions.Func.{Func}
use Rattle.sh_ir.specs.declared.modules.GridItem.{GridItem}
use Rattle.sh_ir.specs.Formed.{cuts_in}
use Rattle.sh_admission.specs.Found.{AreAll, AreFuncFaults, OfCut, OfNote}
use Rattle.sh_admission.specs.Least.{by_place, least_of}
use Rattle.sh_admission.proofs.FaultLists.{all_both, one_more}
use Rattle.sh_admission.proofs.LeastLaws.{least_of_both}

-- the least of what was found before and of the faults of these items
abbrev pub IsFound : {X : Type 0} → (X → List Refusal → Type 0) → List X → Option Refusal → Option Refusal → Type 0
IsFound Of xs least found = (faults : List Refusal) × AreAll Of xs faults × (found ≡ least_of by_place least faults)

pub found_next : {X : Type 0} (Of : X → List Refusal → Type 0) (xs : List X) (i : ℕ) (x : X) (least found next : Option Refusal) (own : List Refusal)
    → i < length xs → x ≡ get_or xs i x → IsFound Of (take i xs) least found → Of x own
    → next ≡ least_of by_place found own → IsFound Of (take (i + 1) xs) least next
found_next Of xs i x least found next own within read (faults, all, is) of now =
    let more : take (i + 1) xs ≡ take i xs ++ x ∷ [] =
    take_more xs i x within ∙ ap (λ y. take i xs ++ y ∷ []) (sym read) in (
      faults ++ own,
      subst (λ l. AreAll Of l (faults ++ own)) (sym more) (one_more Of (take i xs) faults x own all of),
      now ∙ (ap (λ l. least_of by_place l own) is ∙ sym (least_of_both by_place least faults own)),
    )

-- ---- a function

all_behind : {X : Type 0} (P : X → Type 0) (xs ys : List X) → All P (xs ++ ys) → All P ys
all_behind P [] ys all = all
all_behind P (x ∷ xs) ys all = all_behind P xs ys (All-tail P x (xs ++ ys) all)

-- what is known of all cuts is known of those of the results
pub of_results : (P : Cut → Type 0) (f : Func) (carry : Carry) → f.carry ≡ Some carry → All P (cuts_in f) → All P carry.results
of_results P f carry some all =
    all_behind P carry.args carry.results (subst (λ c. All P (option_map_or (λ c. c.args ++ c.results) c [])) some all)

-- the least of what was found before and of the faults of a function
abbrev pub IsFoundIn : List GridItem → Func → Option Refusal → Option Refusal → Type 0
IsFoundIn grids f least found = (faults : List Refusal) × AreFuncFaults grids f faults × (found ≡ least_of by_place least faults)

pub without_cuts : (grids : List GridItem) (f : Func) (least noted : Option Refusal) → f.carry ≡ None
    → IsFound (OfNote grids f.ops) f.ops least noted → IsFoundIn grids f least noted
without_cuts grids f least noted none (faults, all, is) = (
  faults,
  (
    faults,
    [],
    all,
    subst (λ carry. AreAll (OfCut grids f.place) (option_map_or (λ c. c.args ++ c.results) carry []) []) (sym none) refl,
    sym (append-nil faults),
  ),
  is,
)

pub with_cuts : (grids : List GridItem) (f : Func) (carry : Carry) (least noted between found : Option Refusal) → f.carry ≡ Some carry
    → IsFound (OfNote grids f.ops) f.ops least noted → IsFound (OfCut grids f.place) carry.args noted between
    → IsFound (OfCut grids f.place) carry.results between found → IsFoundIn grids f least found
with_cuts grids f carry least noted between found some (notes, all, is) (first, firsts, first_is) (second, seconds, second_is) = (
  notes ++ (first ++ second),
  (
    notes,
    first ++ second,
    all,
    subst (λ c. AreAll (OfCut grids f.place) (option_map_or (λ c. c.args ++ c.results) c []) (first ++ second)) (sym some)
        (all_both (OfCut grids f.place) carry.args carry.results first second firsts seconds),
    refl,
  ),
  second_is ∙ (ap (λ l. least_of by_place l second) first_is
      ∙ (sym (least_of_both by_place noted first second)
      ∙ (ap (λ l. least_of by_place l (first ++ second)) is ∙ sym (least_of_both by_place least notes (first ++ second))))),
)
