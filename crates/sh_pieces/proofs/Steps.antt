-- Promises compose: reshards and steps follow one another, a note is a reshard, an operation is its local part, and a function
-- that is a step for its source is done with the cuts of the results.
use Rattle.std.proofs.Common.{◌≡◌, ℕ, ◌+◌, ◌-◌, ◌<◌, ◌≤◌, List, [], ◌∷◌, ◌++◌, map, length, Option, Some, refl, sym, ap, ◌∙◌, subst, arith}
use Rattle.std.specs.List.{range_with_len}
use Rattle.std.proofs.lemmas.List.{length-append, length-map}
use Rattle.std.proofs.lemmas.List.FromFn.{length-range_with_len}
use Rattle.std.proofs.lemmas.Option.{same_Some}
use Rattle.sh_turns.specs.Program.{all_there}
use Rattle.sh_pieces.specs.Instructions.{Semantics, HasGroups, State, program_by_names}
use Rattle.sh_pieces.specs.Runs.{argument_under, at_start, state_after, RunsTo, HasRows, DefinesFrom, AreNumbered}
use Rattle.sh_pieces.specs.Renaming.{renamed_back, AreRenamed}
use Rattle.sh_pieces.specs.Right.{IsDoneWith}
use Rattle.sh_pieces.specs.Promises.{Splitting, Wholes, Placed, Placing, splits_of, names_of, with_entry, placed_arguments, IsOperation, noted, part_name, cuts, AllFit, HasCuts, IsReshard, IsLocalPart, Holds, IsStep}
use Rattle.sh_pieces.proofs.Names.{first_there, rows_at_start}
use Rattle.sh_pieces.proofs.Lists.{runs_then, keeps_name, from_lower, from_append, numbered_append}
use Rattle.sh_pieces.proofs.Renamed.{map_map, state_renamed, runs_renamed}
use Rattle.sh_pieces.proofs.Bridge.{done_with_rows}
use Rattle.sh_pieces.proofs.Parts.{part_value, part_operands, numbered_apart, renamed_from, length-fits, length-cuts, ArePlaced, are_placed, holds_more, holds_at_start}

module _ {V I T S : Type 0} (sem : Semantics V I) (splitting : Splitting V T S) where
  -- ---- reshards

  -- no instruction reshards a value to what it is
  pub reshard_none : (split : S) (value next : ℕ) → value < next → IsReshard sem splitting split split value next value next []
  reshard_none split value next below = record { new = tt; rises = omega arith; below = below; fits = λ t fits. fits; runs = λ t s fits has. (tt, has) }

  pub reshard_then : (a b c : S) (value mid last first next next' : ℕ) (is js : List I) → IsReshard sem splitting a b value first mid next is → IsReshard sem splitting b c mid next last next' js
      → IsReshard sem splitting a c value first last next' (is ++ js)
  reshard_then a b c value mid last first next next' is js one two = record {
    new = from_append sem is js first one.new (from_lower sem js next first one.rises two.new);
    rises = omega (arith, one.rises, two.rises);
    below = two.below;
    fits = λ t fits. two.fits t (one.fits t fits);
    runs = λ t s fits has.
        runs_then sem is js s (HasCuts sem splitting mid b t) (HasCuts sem splitting last c t) (one.runs t s fits has) (λ s' h. two.runs t s' (one.fits t fits) h);
  }

  -- ---- local parts

  -- A local part in two: instructions that give something of each device's own, and those that make the cut of the result of
  -- it, as a combination over the group of the device.
  pub part_then : (whole : List T → Option T) (implied : List S) (result : S) (is js : List I) (Mid : List T → T → State V → Type 0)
      → 0 < length js → AreNumbered sem (length implied) is → AreNumbered sem (length implied + length is) js
      → ((ts : List T) (t : T) → AllFit splitting implied ts → whole ts ≡ Some t → splitting.Fits result t)
      → ((ts : List T) (t : T) (s : State V) → AllFit splitting implied ts → whole ts ≡ Some t → HasRows sem (range_with_len 0 (length implied)) (cuts splitting implied ts) s → RunsTo sem is s (Mid ts t))
      → ((ts : List T) (t : T) (s : State V) → AllFit splitting implied ts → whole ts ≡ Some t → Mid ts t s → RunsTo sem js s (HasCuts sem splitting (length implied + length is + length js - 1) result t))
      → IsLocalPart sem splitting whole implied result (is ++ js)
  part_then whole implied result is js Mid some one two fits first rest = record {
    some = omega (arith, some, length-append is js);
    numbered = numbered_append sem is js (length implied) one two;
    fits = fits;
    runs = λ ts t s ok gives has.
        let last : length implied + length is + length js - 1 ≡ length implied + length (is ++ js) - 1 = omega (arith, length-append is js) in
        subst (λ n. RunsTo sem (is ++ js) s (HasCuts sem splitting n result t)) last
        (runs_then sem is js s (Mid ts t) (HasCuts sem splitting (length implied + length is + length js - 1) result t) (first ts t s ok gives has) (λ s' h. rest ts t s' ok gives h));
  }

  -- a local part whose result is resharded
  pub part_reshard : (whole : List T → Option T) (implied : List S) (mid result : S) (next : ℕ) (is js : List I) → IsLocalPart sem splitting whole implied mid is
      → 0 < length js → AreNumbered sem (length implied + length is) js
      → IsReshard sem splitting mid result (length implied + length is - 1) (length implied + length is) (length implied + length is + length js - 1) next js
      → IsLocalPart sem splitting whole implied result (is ++ js)
  part_reshard whole implied mid result next is js part some numbered law =
      part_then whole implied result is js (λ ts t. HasCuts sem splitting (length implied + length is - 1) mid t) some part.numbered numbered
      (λ ts t ok gives. law.fits t (part.fits ts t ok gives))
      part.runs
      (λ ts t s ok gives has. law.runs t s (part.fits ts t ok gives) has)

  -- ---- steps

  -- the source goes on by one step, and then by another
  pub step_then : (A B : Wholes T → Wholes T → Type 0) (a b c : Placing S) (n n' n'' : ℕ) (is js : List I) → IsStep sem splitting A a b n n' is → IsStep sem splitting B b c n' n'' js
      → IsStep sem splitting (λ w w''. (w' : Wholes T) × A w w' × B w' w'') a c n n'' (is ++ js)
  step_then A B a b c n n' n'' is js one two = record {
    rises = omega (arith, one.rises, two.rises);
    runs = λ w w'' s source holds.
        runs_then sem is js s (Holds sem splitting b n' source.0) (Holds sem splitting c n'' w'') (one.runs w source.0 s source.1 holds) (λ s' h. two.runs source.0 w'' s' source.2 h);
  }

  -- where the source gives no value there is nothing to do
  pub step_none : (Source : Wholes T → Wholes T → Type 0) (placing : Placing S) (next : ℕ) → ((w w' : Wholes T) → Source w w' → (x : ℕ) → w' x ≡ w x) → IsStep sem splitting Source placing placing next next []
  step_none Source placing next same = record { rises = omega arith; runs = λ w w' s source holds. (tt, λ x p t place whole. holds x p t place (sym (same w w' source x) ∙ whole)) }

  -- a step for one source is one for another that does no more
  pub step_of : (A B : Wholes T → Wholes T → Type 0) (a b : Placing S) (n n' : ℕ) (is : List I) → ((w w' : Wholes T) → B w w' → A w w') → IsStep sem splitting A a b n n' is → IsStep sem splitting B a b n n' is
  step_of A B a b n n' is from step = record { rises = step.rises; runs = λ w w' s source holds. step.runs w w' s (from w w' source) holds }

  -- a step says where values are by what they are placed as
  pub step_placed : (Source : Wholes T → Wholes T → Type 0) (a a' b b' : Placing S) (n n' : ℕ) (is : List I) → ((x : ℕ) → a x ≡ a' x) → ((x : ℕ) → b x ≡ b' x)
      → IsStep sem splitting Source a b n n' is → IsStep sem splitting Source a' b' n n' is
  step_placed Source a a' b b' n n' is before after step =
      subst (λ a. IsStep sem splitting Source a b' n n' is) (λ d x. before x d) (subst (λ b. IsStep sem splitting Source a b n n' is) (λ d x. after x d) step)

  -- instructions that leave one value more leave those that were there
  step_adds : (whole : List T → Option T) (operands : List ℕ) (x : ℕ) (placing : Placing S) (p : Placed S) (next next' : ℕ) (is : List I) → next ≤ next' → p.name < next' → DefinesFrom sem next is
      → ((w w' : Wholes T) (s : State V) (op : IsOperation whole operands x w w') → Holds sem splitting placing next w s → splitting.Fits p.split op.given × RunsTo sem is s (HasCuts sem splitting p.name p.split op.given))
      → IsStep sem splitting (IsOperation whole operands x) placing (with_entry x p placing) next next' is
  step_adds whole operands x placing p next next' is rises below new gives = record {
    rises = rises;
    runs = λ w w' s op holds.
        let given = gives w w' s op holds in (
          given.1.0,
          holds_more sem splitting placing next next' w w' s (state_after sem is s) x p op.given rises op.defines holds
              (λ c name device lt. keeps_name sem is s c name next new lt)
              (record { below = below; fits = given.0; cuts = given.1.1 }),
        );
  }

  -- a note of the source is a reshard
  pub note_step : (placing : Placing S) (next next' value x last : ℕ) (p : Placed S) (to : S) (is : List I) → placing value ≡ Some p → IsReshard sem splitting p.split to p.name next last next' is
      → IsStep sem splitting (IsOperation noted (value ∷ []) x) placing (with_entry x (record { split = to; name = last }) placing) next next' is
  note_step placing next next' value x last p to is place law =
      step_adds noted (value ∷ []) x placing (record { split = to; name = last }) next next' is law.rises law.below law.new (λ w w' s op holds.
      let first = first_there (w value) [] op.read op.reads in
      let one : op.read ≡ first.first ∷ [] = first.whole ∙ ap (λ l. first.first ∷ l) (sym (same_Some [] first.rest first.others)) in
      let given : Some first.first ≡ Some op.given = sym (ap noted one) ∙ op.gives in
      let is = holds value p op.given place (first.here ∙ given) in
      (law.fits op.given is.fits, law.runs op.given s is.fits is.cuts))

  -- ---- an operation is its local part

  module _ (whole : List T → Option T) (result : S) (part new : List I) (placing : Placing S) (next x : ℕ) (xs : List ℕ) (ps : List (Placed S)) (law : IsLocalPart sem splitting whole (splits_of ps) result part)
      (are : all_there (map placing xs) ≡ Some ps) (renamed : AreRenamed sem (part_name (names_of ps) next) part new) where
    abbrev n : ℕ
    n = length (splits_of ps)

    count : length (names_of ps) ≡ n
    count = length-map ps (λ p. p.name) ∙ sym (length-map ps (λ p. p.split))

    last_name : part_name (names_of ps) next (n + length part - 1) ≡ next + length part - 1
    last_name = let value = part_value (names_of ps) next (n + length part - 1) (omega (arith, count, law.some)) in omega (arith, value, count, law.some)

    ran : (ts : List T) (t : T) (s : State V) → whole ts ≡ Some t → ArePlaced sem splitting next ps ts s → RunsTo sem new s (HasCuts sem splitting (next + length part - 1) result t)
    ran ts t s gives placed =
        let apart = numbered_apart (names_of ps) next placed.below sem part n (omega (arith, count)) law.numbered in
        let run = law.runs ts t (renamed_back (part_name (names_of ps) next) s) placed.fits gives operands in (
          runs_renamed sem (part_name (names_of ps) next) part new renamed apart s run.0,
          λ c device.
              ap (state_after sem new s c) (sym last_name)
              ∙ sym (λ d. state_renamed sem (part_name (names_of ps) next) part new renamed apart s d c (n + length part - 1))
              ∙ run.1 c device,
        )
      where
        names : map (part_name (names_of ps) next) (range_with_len 0 n) ≡ names_of ps
        names = ap (λ m. map (part_name (names_of ps) next) (range_with_len 0 m)) (sym count) ∙ part_operands (names_of ps) next

        operands : HasRows sem (range_with_len 0 n) (cuts splitting (splits_of ps) ts) (renamed_back (part_name (names_of ps) next) s)
        operands c device =
            ap all_there (sym (map_map (s c) (part_name (names_of ps) next) (range_with_len 0 n)) ∙ ap (map (s c)) names) ∙ placed.rows c device

    operation : IsStep sem splitting (IsOperation whole xs x) placing (with_entry x (record { split = result; name = next + length part - 1 }) placing) next (next + length part) new
    operation =
        step_adds whole xs x placing (record { split = result; name = next + length part - 1 }) next (next + length part) new
        (omega arith) (omega (arith, law.some)) (renamed_from (names_of ps) next sem part new n (omega (arith, count)) law.numbered renamed)
        (λ w w' s op holds.
        let placed = are_placed sem splitting placing next w s holds xs ps op.read are op.reads in
        (law.fits op.read op.given placed.fits op.gives, ran op.read op.given s op.gives placed))

  -- an operation of the source is its local part, under the names of its operands and new ones
  pub operation_step : (whole : List T → Option T) (implied : List S) (result : S) (part new : List I) (placing : Placing S) (next x : ℕ) (xs : List ℕ) (ps : List (Placed S))
      → IsLocalPart sem splitting whole implied result part → all_there (map placing xs) ≡ Some ps → splits_of ps ≡ implied → AreRenamed sem (part_name (names_of ps) next) part new
      → IsStep sem splitting (IsOperation whole xs x) placing (with_entry x (record { split = result; name = next + length part - 1 }) placing) next (next + length part) new
  operation_step whole implied result part new placing next x xs ps law are same renamed =
      operation whole result part new placing next x xs ps (subst (λ ss. IsLocalPart sem splitting whole ss result part) (sym same) law) are renamed

  -- ---- what promises say of the machine of turns

  -- a reshard of the cuts of a value is done with its other cuts
  pub reshard_done : HasGroups sem → (from to : S) (last next : ℕ) (is : List I) → IsReshard sem splitting from to 0 1 last next is → (t : T) → splitting.Fits from t
      → IsDoneWith (program_by_names sem (record { parameters = 0 ∷ []; instructions = is; results = last ∷ [] }) (λ c. splitting.cut from t c ∷ [])) (λ c. splitting.cut to t c ∷ [])
  reshard_done groups from to last next is law t fits =
      let run = law.runs t (at_start (0 ∷ []) (λ c. splitting.cut from t c ∷ [])) fits (λ c device. refl) in
      done_with_rows sem (record { parameters = 0 ∷ []; instructions = is; results = last ∷ [] }) (λ c. splitting.cut from t c ∷ []) groups
      (λ c device. refl) (λ c. splitting.cut to t c ∷ []) (run.0, λ c device. rw (run.1 c device) refl)

  -- a local part on the cuts of the operands is done with the cut of the result
  pub part_done : HasGroups sem → (whole : List T → Option T) (implied : List S) (result : S) (part : List I) → IsLocalPart sem splitting whole implied result part
      → (ts : List T) (t : T) → AllFit splitting implied ts → whole ts ≡ Some t
      → IsDoneWith (program_by_names sem (record { parameters = range_with_len 0 (length implied); instructions = part; results = (length implied + length part - 1) ∷ [] }) (cuts splitting implied ts)) (λ c. splitting.cut result t c ∷ [])
  part_done groups whole implied result part law ts t fits gives =
      let parameters = range_with_len 0 (length implied) in
      let start = at_start parameters (cuts splitting implied ts) in
      let counted : (c : ℕ) → length (cuts splitting implied ts c) ≡ length implied = λ c. length-cuts splitting implied ts c (length-fits splitting implied ts fits) in
      let run = law.runs ts t start fits gives (λ c device. rows_at_start (length implied) (cuts splitting implied ts c) (counted c)) in
      done_with_rows sem (record { parameters = parameters; instructions = part; results = (length implied + length part - 1) ∷ [] }) (cuts splitting implied ts) groups
      (λ c device. counted c ∙ sym (length-range_with_len 0 (length implied))) (λ c. splitting.cut result t c ∷ []) (run.0, λ c device. rw (run.1 c device) refl)

  -- ---- functions

  -- A function that is a step from the arguments of its source to its results is, on the cuts of the arguments, done in step
  -- with the cuts of the results.
  pub done_with_cuts : HasGroups sem → (Source : Wholes T → Wholes T → Type 0) (parameters xs : List ℕ) (ss : List S) (placing : Placing S) (next : ℕ) (is : List I) (ps : List (Placed S))
      → IsStep sem splitting Source (placed_arguments parameters ss) placing (length ss) next is → all_there (map placing xs) ≡ Some ps
      → (args results : List T) (w : Wholes T) → AllFit splitting ss args → Source (argument_under parameters args) w → all_there (map w xs) ≡ Some results
      → IsDoneWith (program_by_names sem (record { parameters = range_with_len 0 (length ss); instructions = is; results = names_of ps }) (cuts splitting ss args)) (cuts splitting (splits_of ps) results)
  done_with_cuts groups Source parameters xs ss placing next is ps step are args results w fits source back =
      let run = step.runs (argument_under parameters args) w (at_start (range_with_len 0 (length ss)) (cuts splitting ss args)) source (holds_at_start sem splitting parameters ss args fits) in
      done_with_rows sem (record { parameters = range_with_len 0 (length ss); instructions = is; results = names_of ps }) (cuts splitting ss args) groups
      (λ c device. length-cuts splitting ss args c (length-fits splitting ss args fits) ∙ sym (length-range_with_len 0 (length ss)))
      (cuts splitting (splits_of ps) results)
      (run.0, (are_placed sem splitting placing next w (state_after sem is (at_start (range_with_len 0 (length ss)) (cuts splitting ss args))) run.1 xs ps results are back).rows)
