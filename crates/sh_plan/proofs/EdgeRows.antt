-- The rows of edges of numbered states, as a search makes them.
use Rattle.std.proofs.Common.{zero, suc, ◌≡◌, ◌∙◌, ℕ, ◌+◌, ◌<◌, Bool, true, false, cond, List, [], ◌∷◌, ◌++◌, take, length, map, set, get_or, All, Some, ap, sym, refl, arith, inl, inr, length-append}
use Rattle.std.specs.Prelude.{Vec, slice_get, filter}
use Rattle.std.specs.Global.{Global}
use Rattle.std.specs.List.{AllByRecursion, AllZip}
use Rattle.std.proofs.lemmas.Bool.{cases_lt}
use Rattle.std.proofs.lemmas.List.{take_more}
use Rattle.std.proofs.lemmas.List.Elements.{All-from_recursion}
use Rattle.std.proofs.lemmas.Option.{slice_get_within, slice_get-get_or, get_or_from_slice_get}
use Rattle.sh_sharding.specs.declared.shardings.Dimension.{Dimension}
use Rattle.sh_sharding.specs.Made.{IsState}
use Rattle.sh_sharding.specs.Sharding.{ShardingValue, unsplit, whole_of}
use Rattle.sh_ways.specs.declared.search.Edge.{Edge}
use Rattle.sh_ways.specs.Rows.{IsEdgeOf, IsNumbering, edges_at}
use Rattle.sh_plan.specs.declared.moves.Move.{Move}
use Rattle.sh_plan.specs.declared.moves.Move.TheVariants.{M1, M2, M3, M4, M5}
use Rattle.sh_plan.specs.Costs.{cost_between, reshards}
use Rattle.sh_plan.specs.Moves.{IsNamedAt, IsStep, after, at, candidates, last_axis, may_be, moved, moves_at, moves_from, with_axis, without_last}
use Rattle.sh_plan.specs.States.{AreEdges, IsNumber, IsRowOf, IsStateTo, KeepsNumbers, keys_of, towards}
use Rattle.sh_plan.proofs.CandidateSteps.{all_named}
use Rattle.sh_plan.proofs.Numbers.{image}
use Rattle.sh_plan.proofs.SplitSteps.{extent_at}
use Rattle.sh_plan.proofs.States.{map_set}

-- ---- moves of states

extents_kept : (ts ds : List Dimension) (m : Move) → map (λ d. d.extent) ds ≡ map (λ d. d.extent) ts → map (λ d. d.extent) (after ts ds m) ≡ map (λ d. d.extent) ds
unfolding after
extents_kept ts ds (M1 d) same = map_set (λ x. x.extent) ds d (without_last (at ds d)) refl
extents_kept ts ds (M2 d a) same = map_set (λ x. x.extent) ds d (with_axis (at ds d) a) refl
extents_kept ts ds (M3 d e) same =
    let first : map (λ x. x.extent) (set ds d (without_last (at ds d))) ≡ map (λ x. x.extent) ds = map_set (λ x. x.extent) ds d (without_last (at ds d)) refl in
    let there : (at ds e).extent ≡ (at (set ds d (without_last (at ds d))) e).extent =
    extent_at ds e ∙ ap (λ (ns : List ℕ). get_or ns e 0) (sym first) ∙ sym (extent_at (set ds d (without_last (at ds d))) e) in
    map_set (λ x. x.extent) (set ds d (without_last (at ds d))) e (with_axis (at ds e) (last_axis (at ds d))) there ∙ first
extents_kept ts ds (M4 d) same = map_set (λ x. x.extent) ds d (unsplit (at ds d).extent) refl
extents_kept ts ds (M5 d) same =
    let there : (at ts d).extent ≡ (at ds d).extent = extent_at ts d ∙ ap (λ (ns : List ℕ). get_or ns d 0) (sym same) ∙ sym (extent_at ds d) in
    map_set (λ x. x.extent) ds d (at ts d) there

-- a move leads from a state to a state
pub moved_to : (to s next : ShardingValue) (m : Move) → IsStateTo to s → next ≡ moved s to m → IsState next → IsStateTo to next
moved_to to s next m is e state = record {
  state = state;
  grid = ap (λ (x : ShardingValue). x.grid) e ∙ is.grid;
  whole = ap whole_of e ∙ extents_kept to.dimensions s.dimensions m is.whole ∙ is.whole;
}

-- a move that is made is a step
pub is_step : (to s next : ShardingValue) (m : Move) → IsStateTo to s → IsStateTo to next → next.dimensions ≡ after to.dimensions s.dimensions m → IsNamedAt s m → may_be s to m ≡ true →
    IsStep s next m
is_step to s next m is then made named allowed = record {
  to = to;
  named = named;
  allowed = allowed;
  grid = then.grid ∙ sym is.grid;
  whole = then.whole ∙ sym is.whole;
  made = made;
}

-- the edge of a move
pub is_edge : (to s next : ShardingValue) (m : Move) (cost n : ℕ) (keys : List (List Dimension)) → IsStateTo to s → next ≡ moved s to m →
    cost ≡ cost_between s.grid.extents s.dimensions next.dimensions → IsNumber keys next.dimensions n →
    IsEdgeOf (towards to) keys s.dimensions (record { by = m; cost = cost; to = n }) m
unfolding reshards
is_edge to s next m cost n keys is e cost_is named =
    let dims : next.dimensions ≡ after to.dimensions s.dimensions m = ap (λ (x : ShardingValue). x.dimensions) e in
    record {
      by = refl;
      cost = cost_is ∙ ap (λ g. cost_between g.extents s.dimensions next.dimensions) is.grid ∙ ap (cost_between to.grid.extents s.dimensions) dims;
      to = named ∙ ap Some dims;
    }

-- the moves of a state are named, and may be made
chosen : {X : Type 0} (P : X → Type 0) (b : Bool) (x : X) (xs : List X) → (b ≡ true → P x) → AllByRecursion P xs → AllByRecursion P (cond b (x ∷ xs) xs)
chosen P true x xs h all = (h refl, all)
chosen P false x xs h all = all

filter_all : {X : Type 0} (P : X → Type 0) (p : X → Bool) (xs : List X) → AllByRecursion P xs → AllByRecursion P (filter p xs)
filter_all P p [] all = tt
filter_all P p (x ∷ xs) all = chosen P (p x) x (filter p xs) (λ _. all.0) (filter_all P p xs all.1)

filter_passes : {X : Type 0} (p : X → Bool) (xs : List X) → AllByRecursion (λ x. p x ≡ true) (filter p xs)
filter_passes p [] = tt
filter_passes p (x ∷ xs) = chosen (λ y. p y ≡ true) (p x) x (filter p xs) (λ e. e) (filter_passes p xs)

pub are_named : (s to : ShardingValue) (ms : List Move) → ms ≡ moves_from s to → All (IsNamedAt s) ms
unfolding moves_at
are_named s to ms e =
    rw e (All-from_recursion (IsNamedAt s) (moves_from s to) (filter_all (IsNamedAt s) (may_be s to) (candidates (length s.grid.extents) (length s.dimensions))
    (all_named (length s.grid.extents) (length s.dimensions))))

pub are_allowed : (s to : ShardingValue) (ms : List Move) → ms ≡ moves_from s to → All (λ m. may_be s to m ≡ true) ms
unfolding moves_at
are_allowed s to ms e =
    rw e (All-from_recursion (λ m. may_be s to m ≡ true) (moves_from s to) (filter_passes (may_be s to) (candidates (length s.grid.extents) (length s.dimensions))))

pub moves_are : (s to : ShardingValue) (ms : List Move) → IsStateTo to s → ms ≡ moves_from s to → ms ≡ (towards to).moves s.dimensions
unfolding reshards
moves_are s to ms is e = e ∙ ap (λ g. moves_at g.extents to.dimensions s.dimensions) is.grid

-- ---- rows that grow

zip_weaker : {A B : Type 0} (R Q : A → B → Type 0) → ((x : A) (y : B) → R x y → Q x y) → (xs : List A) (ys : List B) → AllZip R xs ys → AllZip Q xs ys
zip_weaker R Q f [] [] h = h
zip_weaker R Q f [] (y ∷ ys) h = absurd h
zip_weaker R Q f (x ∷ xs) [] h = absurd h
zip_weaker R Q f (x ∷ xs) (y ∷ ys) h = (f x y h.0, zip_weaker R Q f xs ys h.1)

zip_push : {A B : Type 0} (R : A → B → Type 0) (xs : List A) (ys : List B) (x : A) (y : B) → AllZip R xs ys → R x y → AllZip R (xs ++ x ∷ []) (ys ++ y ∷ [])
zip_push R [] [] x y h r = (r, h)
zip_push R [] (b ∷ ys) x y h r = absurd h
zip_push R (a ∷ xs) [] x y h r = absurd h
zip_push R (a ∷ xs) (b ∷ ys) x y h r = (h.0, zip_push R xs ys x y h.1 r)

-- edges lead to the same states where these keep their numbers
pub edges_kept : (to : ShardingValue) (old new : List (List Dimension)) → KeepsNumbers old new → (ds : List Dimension) (es : List (Edge Move)) (ms : List Move) →
    AreEdges to old ds es ms → AreEdges to new ds es ms
edges_kept to old new k ds es ms h =
    zip_weaker (IsEdgeOf (towards to) old ds) (IsEdgeOf (towards to) new ds)
    (λ e m s. record { by = s.by; cost = s.cost; to = k.keeps e.to ((towards to).to ds m) s.to }) es ms h

-- one more edge for one more move
pub edge_more : (to : ShardingValue) (old new : List (List Dimension)) (ds : List Dimension) (row now : List (Edge Move)) (ms : List Move) (at : ℕ) (d : Move) (e : Edge Move) →
    KeepsNumbers old new → at < length ms → AreEdges to old ds row (take at ms) → now ≡ row ++ e ∷ [] →
    IsEdgeOf (towards to) new ds e (get_or ms at d) → AreEdges to new ds now (take (at + 1) ms)
edge_more to old new ds row now ms at d e k within h now_is s =
    let grown : take (at + 1) ms ≡ take at ms ++ get_or ms at d ∷ [] = take_more ms at d within in
    rw (now_is, grown) (zip_push (IsEdgeOf (towards to) new ds) row (take at ms) e (get_or ms at d) (edges_kept to old new k ds row (take at ms) h) s)

slice_get-kept : {X : Type 0} (xs ys : List X) (i : ℕ) → i < length xs → slice_get (xs ++ ys) i ≡ slice_get xs i
slice_get-kept [] ys i h = absurd (omega arith)
slice_get-kept (x ∷ xs) ys zero h = refl
slice_get-kept (x ∷ xs) ys (suc i) h = slice_get-kept xs ys i (omega arith)

slice_get-last : {X : Type 0} (xs : List X) (y : X) → slice_get (xs ++ y ∷ []) (length xs) ≡ Some y
slice_get-last [] y = refl
slice_get-last (x ∷ xs) y = slice_get-last xs y

edges_at-append : (rows : List (Vec (Edge Move) Global)) (row : Vec (Edge Move) Global) (i : ℕ) → i < length rows → edges_at (rows ++ row ∷ []) i ≡ edges_at rows i
edges_at-append rows row i h = rw (slice_get-kept rows (row ∷ []) i h) refl

edges_at-last : (rows : List (Vec (Edge Move) Global)) (row : Vec (Edge Move) Global) → edges_at (rows ++ row ∷ []) (length rows) ≡ row.items
edges_at-last rows row = rw (slice_get-last rows row) refl

-- the first states have their rows
abbrev pub HaveRows : ShardingValue → List (List Dimension) → List (Vec (Edge Move) Global) → Type 0
HaveRows to keys rows =
    (i : ℕ) (ds : List Dimension) → i < length rows → slice_get keys i ≡ Some ds → AreEdges to keys ds (edges_at rows i) ((towards to).moves ds)

-- a number stood for the same before, where it is old
numbered_before : (old new : List (List Dimension)) → KeepsNumbers old new → (i : ℕ) (ds : List Dimension) → i < length old → slice_get new i ≡ Some ds → slice_get old i ≡ Some ds
numbered_before old new k i ds h e =
    let was : slice_get old i ≡ Some (get_or old i ds) = slice_get-get_or old i ds h in
    let now : slice_get new i ≡ Some (get_or old i ds) = k.keeps i (get_or old i ds) was in
    cc

-- one more row for one more state
pub row_more : (to : ShardingValue) (old new : List (List Dimension)) (rows now : List (Vec (Edge Move) Global)) (row : Vec (Edge Move) Global) → KeepsNumbers old new →
    length rows < length old → HaveRows to old rows → now ≡ rows ++ row ∷ [] →
    ((ds : List Dimension) → slice_get old (length rows) ≡ Some ds → AreEdges to new ds row.items ((towards to).moves ds)) → HaveRows to new now
row_more to old new rows now row k long fits now_is last i ds within at =
    let grown : length now ≡ length rows + 1 = rw now_is (length-append rows (row ∷ [])) in
    let was : slice_get old i ≡ Some ds = numbered_before old new k i ds (omega arith) at in
    elim (cases_lt i (length rows)) [
      | inl less ↦ rw now_is (rw (edges_at-append rows row i less) (edges_kept to old new k ds (edges_at rows i) ((towards to).moves ds) (fits i ds less was)))
      | inr more ↦
          let is : i ≡ length rows = omega arith in
          let here : slice_get old (length rows) ≡ Some ds = rw is at was in
          rw now_is (rw is (rw (edges_at-last rows row) (last ds here)))
    ]

pub all_rows : (to : ShardingValue) (keys : List (List Dimension)) (rows : List (Vec (Edge Move) Global)) → length rows ≡ length keys → HaveRows to keys rows → IsNumbering (towards to) keys rows
all_rows to keys rows same have = record {
  same = same;
  fits = λ i ds at. have i ds (let within = slice_get_within keys i ds at in omega (arith, within, same)) at;
}

-- the row of the state with a number
pub own_row : (to s : ShardingValue) (known : List ShardingValue) (new : List (List Dimension)) (at : ℕ) (row : List (Edge Move)) → s ≡ get_or known at s →
    AreEdges to new s.dimensions row ((towards to).moves s.dimensions) → IsRowOf to (keys_of known) new at row
own_row to s known new at row is edges = λ ds there.
    let x = image (λ (y : ShardingValue). y.dimensions) known at ds there in
    let same : s ≡ x.this = is ∙ get_or_from_slice_get known at x.this s x.at in
    let dims : s.dimensions ≡ ds = ap (λ (y : ShardingValue). y.dimensions) same ∙ x.value in
    rw (← dims) edges
