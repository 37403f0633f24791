-- A function that runs by its names, one instruction at a time.
use Rattle.std.proofs.Common.{ap₂, ◌≡◌, ◌≢◌, ℕ, zero, suc, ◌+◌, ◌<◌, ◌≤◌, true, cond, List, [], ◌∷◌, ◌++◌, map, take, length, get_or, Option, Some, None, refl, sym, ap, ◌∙◌, subst, arith}
use Rattle.std.specs.Prelude.{slice_get, is_some, IsSome, IfSome}
use Rattle.std.proofs.lemmas.List.{take_more, take_all, map_push, length-map, length_push, length-take-le}
use Rattle.sh_turns.specs.Program.{all_there}
use Rattle.sh_pieces.specs.Laws.{IsByNames}
use Rattle.sh_pieces.specs.Right.{RunsRight}
use Rattle.sh_pieces.specs.Instructions.{HasGroups, DeviceFunction, program_by_names, is_name, last_place, value_under, local_by, gives}
use Rattle.sh_pieces.specs.Runs.{argument_under, at_start, state_after, state_before, Runs}
use Rattle.sh_pieces.proofs.Names.{name_itself, name_other, place_push, value_push}
use Rattle.sh_pieces.proofs.Lists.{runs_append, state_next, take_next, give_where_runs}
use Rattle.sh_pieces_demo.specs.declared.Subtract.{Subtract}
use Rattle.sh_pieces_demo.specs.Plain.{plain, IsOutcome}

-- the last place among one name more
place_more : (ns : List ℕ) (i name : ℕ) → i < length ns
    → last_place (map (λ n. Some n) (take (i + 1) ns)) name ≡ cond (is_name (Some (get_or ns i 0)) name) (Some i) (last_place (map (λ n. Some n) (take i ns)) name)
place_more ns i name lt =
    let size : length (map (λ n. Some n) (take i ns)) ≡ i = length-map (take i ns) (λ n. Some n) ∙ length-take-le i ns (omega (arith, lt)) in
    ap (λ ms. last_place (map (λ n. Some n) ms) name) (take_more ns i 0 lt)
    ∙ ap (λ ms. last_place ms name) (map_push (λ n. Some n) (take i ns) (get_or ns i 0))
    ∙ place_push (map (λ n. Some n) (take i ns)) (Some (get_or ns i 0)) name
    ∙ ap (λ k. cond (is_name (Some (get_or ns i 0)) name) (Some k) (last_place (map (λ n. Some n) (take i ns)) name)) size

pub place_here : (ns : List ℕ) (i name : ℕ) → i < length ns → get_or ns i 0 ≡ name → Some i ≡ last_place (map (λ n. Some n) (take (i + 1) ns)) name
place_here ns i name lt is =
    let test : is_name (Some (get_or ns i 0)) name ≡ true = subst (λ n. is_name (Some (get_or ns i 0)) n ≡ true) is (name_itself (get_or ns i 0)) in
    sym (place_more ns i name lt ∙ ap (λ b. cond b (Some i) (last_place (map (λ n. Some n) (take i ns)) name)) test)

pub place_before : (ns : List ℕ) (i name : ℕ) → i < length ns → get_or ns i 0 ≢ name → last_place (map (λ n. Some n) (take i ns)) name ≡ last_place (map (λ n. Some n) (take (i + 1) ns)) name
place_before ns i name lt other =
    sym (place_more ns i name lt ∙ ap (λ b. cond b (Some i) (last_place (map (λ n. Some n) (take i ns)) name)) (name_other (get_or ns i 0) name other))

-- the first k instructions have run, and these values stand under these names
pub record IsRunning (f : DeviceFunction Subtract) (arguments : List ℕ) (k : ℕ) (names values : List ℕ) : Type 0 where
  pub size : length names ≡ length values
  pub runs : Runs plain (take k f.instructions) (at_start f.parameters (λ c. arguments))
  pub agree : (name : ℕ) → argument_under names values name ≡ state_before plain f (λ c. arguments) k 0 name

module _ (f : DeviceFunction Subtract) (arguments : List ℕ) where
  pub starts : (names values : List ℕ) → length arguments ≡ length f.parameters → names ≡ f.parameters → values ≡ arguments → IsRunning f arguments 0 names values
  starts names values size same same' =
      subst (λ ns. IsRunning f arguments 0 ns values) (sym same)
      (subst (λ vs. IsRunning f arguments 0 f.parameters vs) (sym same') (record { size = sym size; runs = tt; agree = λ name. refl }))

  on_one : (P : ℕ → Type 0) → P 0 → (c : ℕ) → c < 1 → P c
  on_one P first zero lt = first
  on_one P first (suc c) lt = absurd (omega arith)

  module _ (k : ℕ) (names values : List ℕ) (is : IsRunning f arguments k names values) where
    -- an instruction gives by these values what it gives by the definition
    same_given : (i : Subtract) → gives plain i (λ c. argument_under names values) 0 ≡ gives plain i (state_before plain f (λ c. arguments) k) 0
    same_given i = λ d. local_by plain i 0 (λ name. is.agree name d)

    -- where one gives nothing the function doesn't run
    pub stuck : (i : Subtract) → slice_get f.instructions k ≡ Some i → gives plain i (λ c. argument_under names values) 0 ≡ None → IsOutcome f arguments None
    stuck i here none row run =
        let some = give_where_runs plain f.instructions (at_start f.parameters (λ c. arguments)) run.0 k 0 i here (omega arith) in
        let same : IsSome {T = ℕ} None = subst (λ (o : Option ℕ). IsSome o) (sym (same_given i) ∙ none) some in
        cc

    -- where it gives a value, that stands under its name
    pub runs_more : (i : Subtract) (v : ℕ) (names' values' : List ℕ) → slice_get f.instructions k ≡ Some i → gives plain i (λ c. argument_under names values) 0 ≡ Some v
        → names' ≡ names ++ i.defines ∷ [] → values' ≡ values ++ v ∷ [] → IsRunning f arguments (k + 1) names' values'
    runs_more i v names' values' here given more more' =
        let start = at_start f.parameters (λ c. arguments) in
        let one : suc k ≡ k + 1 = omega arith in
        let gave : gives plain i (state_before plain f (λ c. arguments) k) 0 ≡ Some v = sym (same_given i) ∙ given in
        subst (λ n. IsRunning f arguments n names' values') one
        (record {
          size = ap length more ∙ length_push names i.defines ∙ ap (λ n. n + 1) is.size ∙ sym (ap length more' ∙ length_push values v);
          runs = subst (λ l. Runs plain l start) (sym (take_next plain f.instructions k i here))
              (runs_append plain (take k f.instructions) (i ∷ []) start is.runs (on_one (λ c. IsSome (gives plain i (state_before plain f (λ c. arguments) k) c)) (ap is_some gave), tt));
          agree = λ name.
              ap₂ (λ ns vs. argument_under ns vs name) more more'
              ∙ ap₂ (λ ns vs. value_under ns vs name) (map_push (λ n. Some n) names i.defines) (map_push (λ u. Some u) values v)
              ∙ value_push (map (λ n. Some n) names) (map (λ u. Some u) values) (Some i.defines) (Some v) name (length-map names (λ n. Some n) ∙ is.size ∙ sym (length-map values (λ u. Some u)))
              ∙ ap₂ (λ a b. cond (is_name (Some i.defines) name) a b) (sym gave) (is.agree name)
              ∙ sym (ap (λ s. s 0 name) (state_next plain f.instructions k i start here));
        })

    -- where all have run the results are the values of their names
    pub ends : length f.instructions ≤ k → (o : Option (List ℕ)) → o ≡ all_there (map (argument_under names values) f.results) → IsOutcome f arguments o
    ends all o e = go o (e ∙ ap (λ named. all_there (map named f.results)) (λ d name. agree name d))
      where
        whole : take k f.instructions ≡ f.instructions
        whole = take_all k f.instructions all

        agree : (name : ℕ) → argument_under names values name ≡ state_after plain f.instructions (at_start f.parameters (λ c. arguments)) 0 name
        agree name = is.agree name ∙ ap (λ l. state_after plain l (at_start f.parameters (λ c. arguments)) 0 name) whole

        go : (o : Option (List ℕ)) → o ≡ all_there (map (state_after plain f.instructions (at_start f.parameters (λ c. arguments)) 0) f.results) → IsOutcome f arguments o
        go None e = λ row run. let bad : None ≡ Some row = e ∙ run.1 0 (omega arith) in cc
        go (Some row) e = (
          subst (λ l. Runs plain l (at_start f.parameters (λ c. arguments))) whole is.runs,
          on_one (λ c. all_there (map (state_after plain f.instructions (at_start f.parameters (λ c. arguments)) c) f.results) ≡ Some row) (sym e),
        )

pub groups : HasGroups plain
groups = record { inside = λ i c device b. cc; empty = λ i c b. refl }

-- results by names are results by turns, where the law of both is given
pub right_by_turns : (f : DeviceFunction Subtract) (arguments : List ℕ) → IsByNames plain f (λ c. arguments) (program_by_names plain f (λ c. arguments))
    → (o : Option (List ℕ)) → IsOutcome f arguments o → IfSome o (λ row. RunsRight (program_by_names plain f (λ c. arguments)) (λ c. row))
right_by_turns f arguments law None is = tt
right_by_turns f arguments law (Some row) is = law.right (λ c. row) (law.results (λ c. row) is)
