-- Laws of lists of instructions: they append, keep the names that they don't define, and don't ask for values that they don't
-- read.
use Rattle.std.proofs.Common.{ap₂, ◌≡◌, ℕ, zero, suc, ◌+◌, ◌<◌, ◌≤◌, Bool, true, false, cond, List, [], ◌∷◌, ◌++◌, map, take, length, Option, Some, None, refl, sym, ap, ◌∙◌, subst, inl, inr, arith}
use Rattle.std.specs.Prelude.{slice_get, option_and_then, is_some, IsSome, All}
use Rattle.std.proofs.lemmas.Bool.{cases_Bool}
use Rattle.std.proofs.lemmas.List.Elements.{All-head, All-tail}
use Rattle.std.proofs.lemmas.Option.{same_Some}
use Rattle.sh_turns.specs.Program.{all_there}
use Rattle.sh_pieces.specs.Instructions.{Semantics, HasGroups, State, is_name, operand_by, local_by, collected_by, gives}
use Rattle.sh_pieces.specs.Runs.{next_state, state_after, Runs, RunsTo, DefinesFrom, AreNumbered, ReadsOnly, AgreeOn, IsWithin}
use Rattle.sh_pieces.proofs.Names.{name_other, first_there}

map_where : {X Y : Type 0} (P : X → Type 0) (f g : X → Y) → ((x : X) → P x → f x ≡ g x) → (xs : List X) → All P xs → map f xs ≡ map g xs
map_where P f g same [] all = refl
map_where P f g same (x ∷ xs) all = ap₂ (λ y ys. y ∷ ys) (same x (All-head P x xs all)) (map_where P f g same xs (All-tail P x xs all))

-- what is given of values that are all there is given where there are more
then_more : {X V W : Type 0} (F : List V → Option W) (P : X → Type 0) (f g : X → Option V) → ((x : X) (v : V) → P x → f x ≡ Some v → g x ≡ Some v) → (xs : List X) → All P xs → (w : W)
    → option_and_then F (all_there (map f xs)) ≡ Some w → option_and_then F (all_there (map g xs)) ≡ Some w
then_more {X} {V} {W} F P f g more xs all w h = go (all_there (map f xs)) refl h
  where
    there_more : (xs : List X) → All P xs → (vs : List V) → all_there (map f xs) ≡ Some vs → all_there (map g xs) ≡ Some vs
    there_more [] all vs h = h
    there_more (x ∷ xs) all vs h =
        let first = first_there (f x) (map f xs) vs h in
        rw (more x first.first (All-head P x xs all) first.here, there_more xs (All-tail P x xs all) first.rest first.others) (ap (λ l. Some l) (sym first.whole))

    go : (o : Option (List V)) → all_there (map f xs) ≡ o → option_and_then F o ≡ Some w → option_and_then F (all_there (map g xs)) ≡ Some w
    go None e h = cc
    go (Some vs) e h = rw (there_more xs all vs e) h

module _ {V I : Type 0} (sem : Semantics V I) where
  -- ---- appending

  pub state_append : (is js : List I) (s : State V) → state_after sem (is ++ js) s ≡ state_after sem js (state_after sem is s)
  state_append [] js s = refl
  state_append (i ∷ is) js s = state_append is js (next_state sem i s)

  pub runs_append : (is js : List I) (s : State V) → Runs sem is s → Runs sem js (state_after sem is s) → Runs sem (is ++ js) s
  runs_append [] js s first rest = rest
  runs_append (i ∷ is) js s first rest = (first.0, runs_append is js (next_state sem i s) first.1 rest)

  pub runs_parts : (is js : List I) (s : State V) → Runs sem (is ++ js) s → Runs sem is s × Runs sem js (state_after sem is s)
  runs_parts [] js s run = (tt, run)
  runs_parts (i ∷ is) js s run = let rest = runs_parts is js (next_state sem i s) run.1 in ((run.0, rest.0), rest.1)

  -- one list runs to where the other goes on
  pub runs_then : (is js : List I) (s : State V) (Mid After : State V → Type 0)
      → RunsTo sem is s Mid → ((t : State V) → Mid t → RunsTo sem js t After) → RunsTo sem (is ++ js) s After
  runs_then is js s Mid After run more =
      let rest = more (state_after sem is s) run.1 in
      (runs_append is js s run.0 rest.0, subst After (sym (state_append is js s)) rest.1)

  -- ---- what stays

  -- the value of a name that no instruction defines
  pub keeps_name : (is : List I) (s : State V) (c name base : ℕ) → DefinesFrom sem base is → name < base → state_after sem is s c name ≡ s c name
  keeps_name [] s c name base from lt = refl
  keeps_name (i ∷ is) s c name base from lt =
      keeps_name is (next_state sem i s) c name base from.1 lt
      ∙ ap (λ b. cond b (gives sem i s c) (s c name)) (other (sem.defines i) from.0)
    where
      other : (o : Option ℕ) → ((n : ℕ) → o ≡ Some n → base ≤ n) → is_name o name ≡ false
      other None above = refl
      other (Some n) above = name_other n name (λ e. absurd (omega (arith, above n refl, e, lt)))

  pub numbered_from : (is : List I) (n base : ℕ) → base ≤ n → AreNumbered sem n is → DefinesFrom sem base is
  numbered_from [] n base le are = tt
  numbered_from (i ∷ is) n base le are =
      (λ name e. let same : n ≡ name = same_Some n name (sym are.0 ∙ e) in omega (arith, same, le), numbered_from is (suc n) base (omega (arith, le)) are.1)

  pub from_lower : (is : List I) (base lower : ℕ) → lower ≤ base → DefinesFrom sem base is → DefinesFrom sem lower is
  from_lower [] base lower le from = tt
  from_lower (i ∷ is) base lower le from = (λ name e. let above = from.0 name e in omega (arith, above, le), from_lower is base lower le from.1)

  pub from_append : (is js : List I) (base : ℕ) → DefinesFrom sem base is → DefinesFrom sem base js → DefinesFrom sem base (is ++ js)
  from_append [] js base first rest = rest
  from_append (i ∷ is) js base first rest = (first.0, from_append is js base first.1 rest)

  pub numbered_append : (is js : List I) (n : ℕ) → AreNumbered sem n is → AreNumbered sem (n + length is) js → AreNumbered sem n (is ++ js)
  numbered_append [] js n first rest = let same : n + 0 ≡ n = omega arith in subst (λ m. AreNumbered sem m js) same rest
  numbered_append (i ∷ is) js n first rest =
      let same : n + suc (length is) ≡ suc n + length is = omega arith in
      (first.0, numbered_append is js (suc n) first.1 (subst (λ m. AreNumbered sem m js) same rest))

  -- ---- one instruction after the other

  -- the first k instructions, and the next
  pub take_next : (is : List I) (k : ℕ) (i : I) → slice_get is k ≡ Some i → take (suc k) is ≡ take k is ++ i ∷ []
  take_next [] k i h = cc
  take_next (j ∷ is) zero i h = ap (λ x. x ∷ []) (same_Some j i h)
  take_next (j ∷ is) (suc k) i h = ap (λ l. j ∷ l) (take_next is k i h)

  pub state_next : (is : List I) (k : ℕ) (i : I) (s : State V) → slice_get is k ≡ Some i
      → state_after sem (take (suc k) is) s ≡ next_state sem i (state_after sem (take k is) s)
  state_next is k i s here = ap (λ l. state_after sem l s) (take_next is k i here) ∙ state_append (take k is) (i ∷ []) s

  -- a list runs where each instruction gives a value on each device, after those before it
  abbrev pub GiveAll : List I → State V → Type 0
  GiveAll is s = (k c : ℕ) (i : I) → slice_get is k ≡ Some i → c < sem.devices → IsSome (gives sem i (state_after sem (take k is) s) c)

  pub give_where_runs : (is : List I) (s : State V) → Runs sem is s → GiveAll is s
  give_where_runs [] s run k c i here device = cc
  give_where_runs (j ∷ is) s run zero c i here device = subst (λ x. IsSome (gives sem x s c)) (same_Some j i here) (run.0 c device)
  give_where_runs (j ∷ is) s run (suc k) c i here device = give_where_runs is (next_state sem j s) run.1 k c i here device

  pub runs_where_give : (is : List I) (s : State V) → GiveAll is s → Runs sem is s
  runs_where_give [] s give = tt
  runs_where_give (i ∷ is) s give =
      (λ c device. give 0 c i refl device, runs_where_give is (next_state sem i s) (λ k c j here device. give (suc k) c j here device))

  -- ---- what isn't read, and more values

  module _ (groups : HasGroups sem) where
    -- an instruction gives the same where its operands have the same values
    pub gives_alike : (i : I) (s t : State V) (P : ℕ → Type 0) → All P (sem.operands i) → ((c name : ℕ) → c < sem.devices → P name → s c name ≡ t c name) → (c : ℕ) → c < sem.devices → gives sem i s c ≡ gives sem i t c
    gives_alike i s t P reads same c device =
        elim (cases_Bool (sem.is_collective i)) [
          | inl b ↦
              rw b (ap (λ os. option_and_then (sem.collect i c) (all_there os))
              (map_where (λ m. m < sem.devices) (λ m. operand_by sem i (s m)) (λ m. operand_by sem i (t m)) first (sem.members i c) (groups.inside i c device b)))
          | inr b ↦ rw b (ap (λ os. option_and_then (sem.local i c) (all_there os)) (map_where P (s c) (t c) (λ name is. same c name device is) (sem.operands i) reads))
        ]
      where
        first : (m : ℕ) → m < sem.devices → operand_by sem i (s m) ≡ operand_by sem i (t m)
        first m lt = go (sem.operands i) reads
          where
            go : (xs : List ℕ) → All P xs → option_and_then (s m) (slice_get xs 0) ≡ option_and_then (t m) (slice_get xs 0)
            go [] all = refl
            go (x ∷ xs) all = same m x lt (All-head P x xs all)

    next_alike : (i : I) (s t : State V) (test : ℕ → Bool) → All (λ name. test name ≡ true) (sem.operands i) → AgreeOn sem test s t → AgreeOn sem test (next_state sem i s) (next_state sem i t)
    next_alike i s t test reads same c name device passes =
        ap₂ (λ a b. cond (is_name (sem.defines i) name) a b) (gives_alike i s t (λ name. test name ≡ true) reads same c device) (same c name device passes)

    -- values that aren't read don't matter
    pub same_where_read : (is : List I) (s t : State V) (test : ℕ → Bool) → ReadsOnly sem test is → AgreeOn sem test s t → AgreeOn sem test (state_after sem is s) (state_after sem is t)
    same_where_read [] s t test reads same = same
    same_where_read (i ∷ is) s t test reads same = same_where_read is (next_state sem i s) (next_state sem i t) test reads.1 (next_alike i s t test reads.0 same)

    pub runs_where_read : (is : List I) (s t : State V) (test : ℕ → Bool) → ReadsOnly sem test is → AgreeOn sem test s t → Runs sem is s → Runs sem is t
    runs_where_read [] s t test reads same run = tt
    runs_where_read (i ∷ is) s t test reads same run = (
      λ c device. subst (λ (o : Option V). IsSome o) (gives_alike i s t (λ name. test name ≡ true) reads.0 same c device) (run.0 c device),
      runs_where_read is (next_state sem i s) (next_state sem i t) test reads.1 (next_alike i s t test reads.0 same) run.1,
    )

    -- where there are more values an instruction gives what it gave
    gives_more : (i : I) (s t : State V) → IsWithin sem s t → (c : ℕ) (v : V) → c < sem.devices → gives sem i s c ≡ Some v → gives sem i t c ≡ Some v
    gives_more i s t within c v device h =
        elim (cases_Bool (sem.is_collective i)) [
          | inl b ↦
              let h' : collected_by sem i c s ≡ Some v = rw b at h in
              rw b (then_more (sem.collect i c) (λ m. m < sem.devices) (λ m. operand_by sem i (s m)) (λ m. operand_by sem i (t m)) (λ m u lt e. operand_more m lt u (slice_get (sem.operands i) 0) e) (sem.members i c) (groups.inside i c device b) v h')
          | inr b ↦
              let h' : local_by sem i c (s c) ≡ Some v = rw b at h in
              rw b (then_more (sem.local i c) (λ name. Unit {0}) (s c) (t c) (λ name u is e. within c name u device e) (sem.operands i) (λ k d lt. tt) v h')
        ]
      where
        operand_more : (m : ℕ) → m < sem.devices → (u : V) (o : Option ℕ) → option_and_then (s m) o ≡ Some u → option_and_then (t m) o ≡ Some u
        operand_more m lt u None e = cc
        operand_more m lt u (Some name) e = within m name u lt e

    next_more : (i : I) (s t : State V) → IsWithin sem s t → IsWithin sem (next_state sem i s) (next_state sem i t)
    next_more i s t within c name v device h =
        elim (cases_Bool (is_name (sem.defines i) name)) [
          | inl b ↦ let h' : gives sem i s c ≡ Some v = rw b at h in rw b (gives_more i s t within c v device h')
          | inr b ↦ let h' : s c name ≡ Some v = rw b at h in rw b (within c name v device h')
        ]

    pub within_after : (is : List I) (s t : State V) → IsWithin sem s t → IsWithin sem (state_after sem is s) (state_after sem is t)
    within_after [] s t within = within
    within_after (i ∷ is) s t within = within_after is (next_state sem i s) (next_state sem i t) (next_more i s t within)

    pub runs_within : (is : List I) (s t : State V) → IsWithin sem s t → Runs sem is s → Runs sem is t
    runs_within [] s t within run = tt
    runs_within (i ∷ is) s t within run =
        (λ c device. some c device (gives sem i s c) refl (run.0 c device), runs_within is (next_state sem i s) (next_state sem i t) (next_more i s t within) run.1)
      where
        some : (c : ℕ) → c < sem.devices → (o : Option V) → gives sem i s c ≡ o → IsSome o → IsSome (gives sem i t c)
        some c device None e h = cc
        some c device (Some v) e h = ap is_some (gives_more i s t within c v device e)
