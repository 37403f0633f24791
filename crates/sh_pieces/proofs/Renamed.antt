-- Instructions under other names do the same, and a function under other names is the same program.
use Rattle.std.proofs.Common.{ap₂, ◌≡◌, ℕ, zero, suc, false, cond, List, [], ◌∷◌, ◌++◌, map, take, length, Option, Some, None, refl, sym, ap, ◌∙◌, subst, inl, inr, arith}
use Rattle.std.specs.Prelude.{slice_get, option_map, option_and_then, unwrap_or, filter_map, IsSome, if◌then◌else◌}
use Rattle.std.specs.Option.{option_or}
use Rattle.std.specs.List.{cons_option}
use Rattle.std.proofs.lemmas.Bool.{cases_eq}
use Rattle.std.proofs.lemmas.List.{map-append, take_all}
use Rattle.sh_turns.specs.Program.{all_there}
use Rattle.sh_pieces.specs.Instructions.{Semantics, DeviceFunction, State, is_name, last_place, value_under, operand_by, local_by, collected_by, gives, at_instruction, names_before, program_by_names}
use Rattle.sh_pieces.specs.Runs.{next_state, state_after, Runs}
use Rattle.sh_pieces.specs.Renaming.{renamed_back, StayApart, IsRenamed, AreRenamed, IsRenamedFunction}
use Rattle.sh_pieces.proofs.Names.{name_itself, name_other}

-- ---- names

same_name : (r : ℕ → ℕ) (n : Option ℕ) (x : ℕ) → ((name other : ℕ) → n ≡ Some name → r other ≡ r name → other ≡ name) → is_name (option_map r n) (r x) ≡ is_name n x
same_name r None x apart = refl
same_name r (Some a) x apart =
    elim (cases_eq a x) [
      | inl e ↦ subst (λ y. is_name (Some (r a)) (r y) ≡ is_name (Some a) y) e (name_itself (r a) ∙ sym (name_itself a))
      | inr ne ↦ name_other (r a) (r x) (λ e. ne (sym (apart a x refl (sym e)))) ∙ sym (name_other a x ne)
    ]

same_place : (r : ℕ → ℕ) (ns : List (Option ℕ)) (x : ℕ) → StayApart r ns → last_place (map (option_map r) ns) (r x) ≡ last_place ns x
same_place r [] x apart = refl
same_place r (n ∷ ns) x apart =
    ap₂ (λ o b. option_or (option_map (λ k. suc k) o) (if b then Some 0 else None)) (same_place r ns x apart.1) (same_name r n x apart.0)

pub map_map : {X Y Z : Type 0} (f : Y → Z) (g : X → Y) (xs : List X) → map f (map g xs) ≡ map (λ x. f (g x)) xs
map_map f g [] = refl
map_map f g (x ∷ xs) = ap (λ ys. f (g x) ∷ ys) (map_map f g xs)

first_of_map : {V : Type 0} (r : ℕ → ℕ) (named : ℕ → Option V) (xs : List ℕ) → option_and_then named (slice_get (map r xs) 0) ≡ option_and_then (λ x. named (r x)) (slice_get xs 0)
first_of_map r named [] = refl
first_of_map r named (x ∷ xs) = refl

module _ {V I : Type 0} (sem : Semantics V I) (r : ℕ → ℕ) where
  -- ---- values by name

  same_operand : (i j : I) → IsRenamed sem r i j → (named : ℕ → Option V) → operand_by sem j named ≡ operand_by sem i (λ x. named (r x))
  same_operand i j is named = ap (λ xs. option_and_then named (slice_get xs 0)) is.operands ∙ first_of_map r named (sem.operands i)

  same_local : (i j : I) → IsRenamed sem r i j → (c : ℕ) (named : ℕ → Option V) → local_by sem j c named ≡ local_by sem i c (λ x. named (r x))
  same_local i j is c named =
      ap (λ xs. option_and_then (sem.local j c) (all_there (map named xs))) is.operands
      ∙ ap (λ vs. option_and_then (sem.local j c) (all_there vs)) (map_map named r (sem.operands i))
      ∙ (λ d. option_and_then (λ vs. is.local c vs d) (all_there (map (λ x. named (r x)) (sem.operands i))))

  same_collected : (i j : I) → IsRenamed sem r i j → (c : ℕ) (s : State V) → collected_by sem j c s ≡ collected_by sem i c (renamed_back r s)
  same_collected i j is c s = λ d.
      option_and_then (λ vs. is.collect c vs d) (all_there (map (λ m. same_operand i j is (s m) d) (is.members c d)))

  -- a renamed instruction gives the same
  pub same_gives : (i j : I) → IsRenamed sem r i j → (c : ℕ) (s : State V) → gives sem j s c ≡ gives sem i (renamed_back r s) c
  same_gives i j is c s = λ d. cond (is.same_class d) (same_collected i j is c s d) (same_local i j is c (s c) d)

  next_renamed : (i j : I) → IsRenamed sem r i j → ((name other : ℕ) → sem.defines i ≡ Some name → r other ≡ r name → other ≡ name) → (s : State V)
      → next_state sem i (renamed_back r s) ≡ renamed_back r (next_state sem j s)
  next_renamed i j is apart s = λ d c x. same c x d
    where
      same : (c x : ℕ) → next_state sem i (renamed_back r s) c x ≡ next_state sem j s c (r x)
      same c x =
          ap₂ (λ b o. cond b o (s c (r x)))
          (sym (ap (λ n. is_name n (r x)) is.defines ∙ same_name r (sem.defines i) x apart))
          (sym (same_gives i j is c s))

  -- the values under the old names are those under the new ones
  pub state_renamed : (is js : List I) → AreRenamed sem r is js → StayApart r (map sem.defines is) → (s : State V)
      → state_after sem is (renamed_back r s) ≡ renamed_back r (state_after sem js s)
  state_renamed [] [] are apart s = refl
  state_renamed [] (j ∷ js) are apart s = absurd are
  state_renamed (i ∷ is) [] are apart s = absurd are
  state_renamed (i ∷ is) (j ∷ js) are apart s =
      ap (state_after sem is) (next_renamed i j are.0 apart.0 s) ∙ state_renamed is js are.1 apart.1 (next_state sem j s)

  pub runs_renamed : (is js : List I) → AreRenamed sem r is js → StayApart r (map sem.defines is) → (s : State V) → Runs sem is (renamed_back r s) → Runs sem js s
  runs_renamed [] [] are apart s run = tt
  runs_renamed [] (j ∷ js) are apart s run = absurd are
  runs_renamed (i ∷ is) [] are apart s run = absurd are
  runs_renamed (i ∷ is) (j ∷ js) are apart s run = (
    λ c device. subst (λ (o : Option V). IsSome o) (sym (same_gives i j are.0 c s)) (run.0 c device),
    runs_renamed is js are.1 apart.1 (next_state sem j s) (subst (Runs sem is) (next_renamed i j are.0 apart.0 s) run.1),
  )

  pub runs_renamed_back : (is js : List I) → AreRenamed sem r is js → StayApart r (map sem.defines is) → (s : State V) → Runs sem js s → Runs sem is (renamed_back r s)
  runs_renamed_back [] [] are apart s run = tt
  runs_renamed_back [] (j ∷ js) are apart s run = absurd are
  runs_renamed_back (i ∷ is) [] are apart s run = absurd are
  runs_renamed_back (i ∷ is) (j ∷ js) are apart s run = (
    λ c device. subst (λ (o : Option V). IsSome o) (same_gives i j are.0 c s) (run.0 c device),
    subst (Runs sem is) (sym (next_renamed i j are.0 apart.0 s)) (runs_renamed_back is js are.1 apart.1 (next_state sem j s) run.1),
  )

  -- ---- functions

  length-renamed : (is js : List I) → AreRenamed sem r is js → length js ≡ length is
  length-renamed [] [] are = refl
  length-renamed [] (j ∷ js) are = absurd are
  length-renamed (i ∷ is) [] are = absurd are
  length-renamed (i ∷ is) (j ∷ js) are = ap suc (length-renamed is js are.1)

  same_defines : (is js : List I) (k : ℕ) → AreRenamed sem r is js → map sem.defines (take k js) ≡ map (option_map r) (map sem.defines (take k is))
  same_defines is js zero are = refl
  same_defines [] [] (suc k) are = refl
  same_defines [] (j ∷ js) (suc k) are = absurd are
  same_defines (i ∷ is) [] (suc k) are = absurd are
  same_defines (i ∷ is) (j ∷ js) (suc k) are = ap₂ (λ x xs. x ∷ xs) are.0.defines (same_defines is js k are.1)

  -- what is so of the instructions with one number
  same_at : {X : Type 0} (F G : I → X) → ((i j : I) → IsRenamed sem r i j → G j ≡ F i) → (is js : List I) → AreRenamed sem r is js → (k : ℕ) → option_map G (slice_get js k) ≡ option_map F (slice_get is k)
  same_at F G same [] [] are k = refl
  same_at F G same [] (j ∷ js) are k = absurd are
  same_at F G same (i ∷ is) [] are k = absurd are
  same_at F G same (i ∷ is) (j ∷ js) are zero = ap (λ x. Some x) (same i j are.0)
  same_at F G same (i ∷ is) (j ∷ js) are (suc k) = same_at F G same is js are.1 k

  -- names that stay apart do so in a front of the list
  apart_take : (ns : List (Option ℕ)) (is : List I) (k : ℕ) → StayApart r (ns ++ map sem.defines is) → StayApart r (ns ++ map sem.defines (take k is))
  apart_take (n ∷ ns) is k apart = (apart.0, apart_take ns is k apart.1)
  apart_take [] is zero apart = tt
  apart_take [] [] (suc k) apart = tt
  apart_take [] (i ∷ is) (suc k) apart = (apart.0, apart_take [] is k apart.1)

  module _ (f g : DeviceFunction I) (is : IsRenamedFunction sem r f g) where
    same_instruction : {X : Type 0} (default : X) (F G : I → X) → ((i j : I) → IsRenamed sem r i j → G j ≡ F i) → (k : ℕ) → at_instruction g default G k ≡ at_instruction f default F k
    unfolding at_instruction
    same_instruction default F G same k = ap (λ o. unwrap_or o default) (same_at F G same f.instructions g.instructions is.instructions k)

    same_names : (k : ℕ) → names_before sem g k ≡ map (option_map r) (names_before sem f k)
    same_names k =
        ap₂ (λ xs ys. xs ++ ys)
        (ap (map (λ name. Some name)) is.parameters ∙ map_map (λ name. Some name) r f.parameters ∙ sym (map_map (option_map r) (λ name. Some name) f.parameters))
        (same_defines f.instructions g.instructions k is.instructions)
        ∙ sym (map-append (option_map r) (map (λ name. Some name) f.parameters) (map sem.defines (take k f.instructions)))

    apart_before : (k : ℕ) → StayApart r (names_before sem f k)
    apart_before k =
        apart_take (map (λ name. Some name) f.parameters) f.instructions k
        (subst (λ l. StayApart r (map (λ name. Some name) f.parameters ++ map sem.defines l)) (take_all (length f.instructions) f.instructions (omega arith)) is.apart)

    place_is : (k x : ℕ) → last_place (names_before sem g k) (r x) ≡ last_place (names_before sem f k) x
    place_is k x = ap (λ ns. last_place ns (r x)) (same_names k) ∙ same_place r (names_before sem f k) x (apart_before k)

    value_is : (k : ℕ) (values : List (Option V)) → (λ x. value_under (names_before sem g k) values (r x)) ≡ value_under (names_before sem f k) values
    value_is k values = λ d x. option_and_then (λ place. unwrap_or (slice_get values place) None) (place_is k x d)

    places_are : (k : ℕ) (xs : List ℕ) → filter_map (last_place (names_before sem g k)) (map r xs) ≡ filter_map (last_place (names_before sem f k)) xs
    places_are k [] = refl
    places_are k (x ∷ xs) = ap₂ (λ o ys. cons_option o ys) (place_is k x) (places_are k xs)

    size_is : length g.instructions ≡ length f.instructions
    size_is = length-renamed f.instructions g.instructions is.instructions

    results_are : filter_map (last_place (names_before sem g (length g.instructions))) g.results ≡ filter_map (last_place (names_before sem f (length f.instructions))) f.results
    results_are =
        ap₂ (λ n xs. filter_map (last_place (names_before sem g n)) xs) size_is is.results ∙ places_are (length f.instructions) f.results

    operand_is : (k : ℕ) (values : List (Option V))
        → at_instruction g None (λ i. operand_by sem i (value_under (names_before sem g k) values)) k
        ≡ at_instruction f None (λ i. operand_by sem i (value_under (names_before sem f k) values)) k
    operand_is k values =
        same_instruction None (λ i. operand_by sem i (value_under (names_before sem f k) values)) (λ i. operand_by sem i (value_under (names_before sem g k) values))
        (λ i j same. same_operand i j same (value_under (names_before sem g k) values) ∙ ap (operand_by sem i) (value_is k values)) k

    local_is : (k c : ℕ) (values : List (Option V))
        → at_instruction g None (λ i. local_by sem i c (value_under (names_before sem g k) values)) k
        ≡ at_instruction f None (λ i. local_by sem i c (value_under (names_before sem f k) values)) k
    local_is k c values =
        same_instruction None (λ i. local_by sem i c (value_under (names_before sem f k) values)) (λ i. local_by sem i c (value_under (names_before sem g k) values))
        (λ i j same. same_local i j same c (value_under (names_before sem g k) values) ∙ ap (local_by sem i c) (value_is k values)) k

    -- under other names a function is the same program
    pub same_program : (arguments : ℕ → List V) → program_by_names sem g arguments ≡ program_by_names sem f arguments
    same_program arguments = λ d.
        record {
          devices = sem.devices;
          size = size_is d;
          arguments = arguments;
          is_collective = λ k. same_instruction false sem.is_collective sem.is_collective (λ i j same. same.same_class) k d;
          members = λ k c. same_instruction [] (λ i. sem.members i c) (λ i. sem.members i c) (λ i j same. same.members c) k d;
          operand = λ k c values. operand_is k values d;
          local = λ k c values. local_is k c values d;
          collect = λ k c operands. same_instruction None (λ i. sem.collect i c operands) (λ i. sem.collect i c operands) (λ i j same. same.collect c operands) k d;
          results = results_are d;
        }
