-- What the source function of the one form means, and the program that its device function is.
use Rattle.std.proofs.Common.{◌≡◌, ℕ, suc, ◌*◌, ◌<◌, List, [], ◌∷◌, Some, refl, ap, sym, ◌∙◌}
use Rattle.std.proofs.lemmas.Option.{same_Some}
use Rattle.sh_ir.specs.declared.operations.Op.{Op}
use Rattle.sh_ir.specs.Classes.{class_of}
use Rattle.sh_tensor.specs.Tensor.{TensorValue}
use Rattle.sh_pieces.specs.Instructions.{gives}
use Rattle.sh_pieces.specs.Laws.{IsByNames}
use Rattle.sh_pieces.specs.Right.{IsDoneWith, RunsRight}
use Rattle.sh_pieces.specs.Runs.{RunsToRows, argument_under, at_start}
use Rattle.sh_pieces.proofs.Bridge.{by_names}
use Rattle.sh_sem.specs.Given.{alone}
use Rattle.sh_sem.specs.Meaning.{Values, after_class, evaluated, evaluated_from, means, results_of, value_in, with_own, with_value}
use Rattle.sh_sem.specs.Steps.{device_function, device_program, steps_on}
use Rattle.sh_sem.proofs.Groups.{has_groups}
use Rattle.sh_turns.specs.Program.{Program}
use Rattle.sh_cli.specs.Modules.{source_func, device_func, noted, place_at, returning}
use Rattle.sh_cli.proofs.SumCut.{total, addition, given_sum}

-- the values before the addition
abbrev values_before : TensorValue → TensorValue → Values
values_before x y = with_value (Some 4) y (with_value (Some 3) x (argument_under (0 ∷ 1 ∷ []) (x ∷ y ∷ [])))

-- the source function adds its arguments
pub source_means : (extent : ℕ) (x y : TensorValue) → x.shape ≡ extent ∷ [] → y.shape ≡ extent ∷ [] → means (source_func extent) (x ∷ y ∷ []) ≡ Some (total (extent ∷ []) x y ∷ [])
unfolding means evaluated
source_means extent x y left right =
    let op : Op = addition 5 3 4 extent (place_at 7 5) in
    let added : value_in op (values_before x y) ≡ Some (total (extent ∷ []) x y) = given_sum 5 3 4 extent (place_at 7 5) alone x y left right in
    ap results_of (goes_on 3 op (noted 6 5 extent 8 ∷ returning 6 extent (place_at 9 5) ∷ []) (6 ∷ []) (values_before x y) _ (ap (with_own op (values_before x y)) added))
  where
    goes_on : (k : ℕ) (op : Op) (ops : List Op) (names : List ℕ) (values after : Values) → after_class (class_of op.kind) op values ≡ Some after
        → evaluated_from k (op ∷ ops) names values ≡ evaluated_from (suc k) ops names after
    goes_on k op ops names values after e = rw (e, evaluated_from) refl

-- its results
pub result_is : (extent : ℕ) (x y : TensorValue) (results : List TensorValue) → x.shape ≡ extent ∷ [] → y.shape ≡ extent ∷ [] → means (source_func extent) (x ∷ y ∷ []) ≡ Some results → results ≡ total (extent ∷ []) x y ∷ []
result_is extent x y results left right meant = same_Some _ _ (sym meant ∙ source_means extent x y left right)

-- ---- the device function

module _ (extent local devices : ℕ) (first second : ℕ → TensorValue) where
  abbrev pub parts : ℕ → List TensorValue
  parts c = first c ∷ second c ∷ []

  abbrev pub sum_program : Program TensorValue
  sum_program = device_program (device_func extent local) (devices ∷ []) parts

  -- the parts are vectors of the local extent, and these are their sums
  pub record AreSums (sum : ℕ → TensorValue) : Type 0 where
    pub left : (c : ℕ) → c < devices * 1 → (first c).shape ≡ local ∷ []
    pub right : (c : ℕ) → c < devices * 1 → (second c).shape ≡ local ∷ []
    pub sums : (c : ℕ) → c < devices * 1 → total (local ∷ []) (first c) (second c) ≡ sum c

  module _ (sum : ℕ → TensorValue) (are : AreSums sum) where
    -- the only instruction adds the parts
    gives_sum : (c : ℕ) → c < devices * 1 → gives (steps_on (devices ∷ [])) (addition 2 0 1 local (place_at 5 5)) (at_start (0 ∷ 1 ∷ []) parts) c ≡ Some (sum c)
    unfolding steps_on
    gives_sum c below =
        given_sum 2 0 1 local (place_at 5 5) _ (first c) (second c) (are.left c below) (are.right c below)
        ∙ ap (λ t. Some t) (are.sums c below)

    runs_to_sums : RunsToRows (steps_on (devices ∷ [])) (device_function (device_func extent local)) parts (λ c. sum c ∷ [])
    unfolding device_function steps_on
    runs_to_sums = ((λ c below. rw (gives_sum c below) refl, tt), λ c below. rw (gives_sum c below) refl)

    named : IsByNames (steps_on (devices ∷ [])) (device_function (device_func extent local)) parts sum_program
    unfolding device_program device_function
    named = by_names (steps_on (devices ∷ [])) (device_function (device_func extent local)) parts (has_groups (devices ∷ [])) (λ c below. refl)

    -- in step all devices end with their sums
    pub steps_to_sums : IsDoneWith sum_program (λ c. sum c ∷ [])
    steps_to_sums = named.results (λ c. sum c ∷ []) runs_to_sums

    -- and so does every run
    pub runs_right : RunsRight sum_program (λ c. sum c ∷ [])
    runs_right = named.right (λ c. sum c ∷ []) steps_to_sums
