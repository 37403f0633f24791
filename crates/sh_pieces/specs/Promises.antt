-- What pieces of a device program promise: a reshard, the local part of an operation, and a step of
-- a whole function.
use Rattle.std.specs.Prelude.{◌≡◌, ℕ, ◌+◌, ◌-◌, ◌<◌, ◌≤◌, ◌==◌, List, [], ◌∷◌, map, length, slice_get, Option, Some, None, option_map, option_and_then, unwrap_or, if◌then◌else◌}
use Rattle.std.specs.List.{range_with_len}
use Rattle.sh_turns.specs.Program.{all_there}
use Rattle.sh_pieces.specs.Instructions.{Semantics, State, last_place}
use Rattle.sh_pieces.specs.Runs.{RunsTo, HasRows, DefinesFrom, AreNumbered}

-- ---- whole values and their cuts

-- How whole values of type T are split among devices, each way of type S
pub record Splitting (V T S : Type 0) : Type 1 where
  -- the part of a whole value that a device has
  pub cut : S → T → ℕ → V
  -- this is a way to split this value: one of its shape, say
  pub Fits : S → T → Type 0

module _ {V T S : Type 0} (splitting : Splitting V T S) where
  -- the cuts of these values on a device, each value split its own way
  abbrev pub cuts : List S → List T → ℕ → List V
  cuts [] ts c = []
  cuts (s ∷ ss) [] c = []
  cuts (s ∷ ss) (t ∷ ts) c = splitting.cut s t c ∷ cuts ss ts c

  -- there is one way for each value, and it fits
  abbrev pub AllFit : List S → List T → Type 0
  AllFit [] [] = Unit {0}
  AllFit [] (t ∷ ts) = ⊥
  AllFit (s ∷ ss) [] = ⊥
  AllFit (s ∷ ss) (t ∷ ts) = splitting.Fits s t × AllFit ss ts

-- ---- the source

-- whole values by their names in the source
abbrev pub Wholes : Type 0 → Type 0
Wholes T = ℕ → Option T

-- one more entry
abbrev pub with_entry : {X : Type 0} → ℕ → X → (ℕ → Option X) → ℕ → Option X
with_entry name x entries other = if name == other then Some x else entries other

-- An operation of the source takes the values of its operands' names and gives that of the name x:
-- the whole values before it, and after it
pub record IsOperation {T : Type 0} (whole : List T → Option T) (operands : List ℕ) (x : ℕ)
    (before after : Wholes T) : Type 0 where
  pub read : List T
  pub given : T
  pub reads : all_there (map before operands) ≡ Some read
  pub gives : whole read ≡ Some given
  pub defines : (y : ℕ) → after y ≡ with_entry x given before y

-- what a note gives: its operand
abbrev pub noted : {T : Type 0} → List T → Option T
noted [] = None
noted (t ∷ []) = Some t
noted (t ∷ u ∷ ts) = None

-- ---- where values are

-- how a value is split, and the name that its parts have on the devices
pub record Placed (S : Type 0) : Type 0 where
  pub split : S
  pub name : ℕ

abbrev pub splits_of : {S : Type 0} → List (Placed S) → List S
splits_of = map (λ p. p.split)

abbrev pub names_of : {S : Type 0} → List (Placed S) → List ℕ
names_of = map (λ p. p.name)

-- where values of the source are, by their names in the source
abbrev pub Placing : Type 0 → Type 0
Placing S = ℕ → Option (Placed S)

-- the arguments of the source, split so, in the order of its parameters under the names 0, 1, ..
abbrev pub placed_arguments : {S : Type 0} → List ℕ → List S → Placing S
placed_arguments parameters splits x =
    option_and_then (λ k. option_map (λ s. record { split = s; name = k }) (slice_get splits k))
    (last_place (map (λ name. Some name) parameters) x)

-- The names of a local part in its function: first those of its operands, and for its values those
-- from `base` on
abbrev pub part_name : List ℕ → ℕ → ℕ → ℕ
part_name operands base name =
    unwrap_or (slice_get operands name) (base + (name - length operands))

module _ {V I T S : Type 0} (sem : Semantics V I) (splitting : Splitting V T S) where
  -- under this name every device has its cut of the whole
  abbrev pub HasCuts : ℕ → S → T → State V → Type 0
  HasCuts name split t s =
      (c : ℕ) → c < sem.devices → s c name ≡ Some (splitting.cut split t c)

  -- a value is where it is said to be: split in a way that fits, under a name in use
  pub record IsPlaced (next : ℕ) (p : Placed S) (t : T) (s : State V) : Type 0 where
    pub below : p.name < next
    pub fits : splitting.Fits p.split t
    pub cuts : HasCuts p.name p.split t s

  -- so is each value of the source that is placed
  abbrev pub Holds : Placing S → ℕ → Wholes T → State V → Type 0
  Holds placing next wholes s =
      (x : ℕ) (p : Placed S) (t : T) → placing x ≡ Some p → wholes x ≡ Some t → IsPlaced next p t s

  -- ---- promises

  -- A reshard takes a value that is split one way and gives the same value split another way. The
  -- names below `first` are in use before it, those below `next` after it
  pub record IsReshard (from to : S) (value first last next : ℕ) (is : List I) : Type 0 where
    pub new : DefinesFrom sem first is
    pub rises : first ≤ next
    pub below : last < next
    pub fits : (t : T) → splitting.Fits from t → splitting.Fits to t
    pub runs : (t : T) (s : State V) → splitting.Fits from t → HasCuts value from t s
        → RunsTo sem is s (HasCuts last to t)

  -- The local part of an operation makes the cut of its result from the cuts of its operands,
  -- wherever the operation isn't stuck on whole operands. The operands are named 0, 1, .., and then
  -- come its values, of which the last is the result. It may have collectives: where each device
  -- has a part of a sum, the parts are combined over its group
  pub record IsLocalPart (whole : List T → Option T) (implied : List S) (result : S)
      (part : List I) : Type 0 where
    pub some : 0 < length part
    pub numbered : AreNumbered sem (length implied) part
    pub fits : (ts : List T) (t : T) → AllFit splitting implied ts → whole ts ≡ Some t
        → splitting.Fits result t
    pub runs : (ts : List T) (t : T) (s : State V) → AllFit splitting implied ts → whole ts ≡ Some t
        → HasRows sem (range_with_len 0 (length implied)) (cuts splitting implied ts) s
        → RunsTo sem part s (HasCuts (length implied + length part - 1) result t)

  -- Instructions for a step of the source: whatever its whole values are, devices that have the
  -- cuts of those before it get the cuts of those after it
  pub record IsStep (Source : Wholes T → Wholes T → Type 0) (placing placing' : Placing S)
      (next next' : ℕ) (is : List I) : Type 0 where
    pub rises : next ≤ next'
    pub runs : (w w' : Wholes T) (s : State V) → Source w w' → Holds placing next w s
        → RunsTo sem is s (Holds placing' next' w')
