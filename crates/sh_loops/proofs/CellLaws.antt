-- Cells that are there one by one, and all of them.
use Rattle.std.proofs.Common.{◌≡◌, ℕ, zero, suc, ◌+◌, ◌<◌, ◌≤◌, Bool, true, false, List, [], ◌∷◌, ◌++◌, map, length, get_or, Option, Some, None, refl, ap, ap₂, sym, ◌∙◌, arith, subst, inl, inr, add-one}
use Rattle.std.specs.Prelude.{All, IfSome, ◌⊎◌, ◌||◌, ◌≢◌, replicate, slice_get, take, is_none, unwrap_or, option_map, option_and_then, if◌then◌else◌}
use Rattle.std.specs.List.{list_any, range_with_len}
use Rattle.std.proofs.lemmas.Bool.{cases_eq}
use Rattle.std.proofs.lemmas.List.FromFn.{fill_by_all, get_or-map-range_with_len, length-map-range_with_len, map-range_with_len_more}
use Rattle.std.proofs.lemmas.List.{length-replicate, get_or-replicate, length-take, get_or-take}
use Rattle.std.proofs.lemmas.Option.{same_Some, slice_get-get_or, slice_get_cases}
use Rattle.sh_base.specs.declared.numbers.Cell.{Cell}
use Rattle.sh_base.specs.declared.numbers.Cell.TheVariants.{Undef}
use Rattle.sh_base.specs.declared.numbers.Width.{Width}
use Rattle.sh_base.specs.Cells.{IsCellOf}
use Rattle.sh_ir.specs.declared.arith_ops.Contents.{Contents}
use Rattle.sh_ir.specs.declared.arith_ops.Contents.TheVariants.{Held, Broken}
use Rattle.sh_base.specs.Shape.{cell_count, unflat_of}
use Rattle.sh_tensor.specs.Tensor.{build, cells_of}
use Rattle.sh_turns.specs.Program.{all_there}
use Rattle.sh_sem.specs.Given.{built_of}
use Rattle.sh_sem.specs.Scalars.{constant_cell, held_cell}
use Rattle.sh_loops.specs.Cells.{HoldsCellsOf, cells_by}

-- ---- lists

moved : {X : Type 0} (v : X) (o : Option X) (a : Option (List X))
    → option_map (λ ws. v ∷ ws) (option_and_then (λ a. option_map (λ b. a ++ b ∷ []) o) a)
    ≡ option_and_then (λ a. option_map (λ b. a ++ b ∷ []) o) (option_map (λ ws. v ∷ ws) a)
moved v o None = refl
moved v None (Some a) = refl
moved v (Some b) (Some a) = refl

all_one : {X : Type 0} (xs : List (Option X)) (o : Option X)
    → all_there (xs ++ o ∷ []) ≡ option_and_then (λ a. option_map (λ b. a ++ b ∷ []) o) (all_there xs)
all_one [] None = refl
all_one [] (Some b) = refl
all_one (None ∷ xs) o = refl
all_one (Some v ∷ xs) o = ap (option_map (λ ws. v ∷ ws)) (all_one xs o) ∙ moved v o (all_there xs)

longer : {X : Type 0} (v : X) (o : Option (List X)) (n : ℕ) (ys : List X) → ((zs : List X) → o ≡ Some zs → length zs ≡ n)
    → option_map (λ ws. v ∷ ws) o ≡ Some ys → length ys ≡ suc n
longer v None n ys rec h = absurd (cc)
longer v (Some zs) n ys rec h = ap length (sym (same_Some (v ∷ zs) ys h)) ∙ ap suc (rec zs refl)

all_length : {X : Type 0} (xs : List (Option X)) (ys : List X) → all_there xs ≡ Some ys → length ys ≡ length xs
all_length [] ys h = ap length (sym (same_Some [] ys h))
all_length (None ∷ xs) ys h = absurd (cc)
all_length (Some v ∷ xs) ys h = longer v (all_there xs) (length xs) ys (λ zs e. all_length xs zs e) h

all_some : {X : Type 0} (xs : List X) → all_there (map (λ x. Some x) xs) ≡ Some xs
all_some [] = refl
all_some (x ∷ xs) = ap (option_map (λ ws. x ∷ ws)) (all_some xs)

get_or-some : {X : Type 0} (xs : List X) (k : ℕ) (d : X) → get_or (map (λ x. Some x) xs) k (Some d) ≡ Some (get_or xs k d)
get_or-some [] k d = refl
get_or-some (x ∷ xs) zero d = refl
get_or-some (x ∷ xs) (suc k) d = get_or-some xs k d

length-some : {X : Type 0} (xs : List X) → length (map (λ x. Some x) xs) ≡ length xs
length-some [] = refl
length-some (x ∷ xs) = ap suc (length-some xs)

read_next : {X : Type 0} (v : X) (o : Option (List X)) (ys : List X) (d : X) (k : ℕ) (x : Option X) → ((zs : List X) → o ≡ Some zs → x ≡ Some (get_or zs k d))
    → option_map (λ ws. v ∷ ws) o ≡ Some ys → x ≡ Some (get_or ys (suc k) d)
read_next v None ys d k x rec h = absurd (cc)
read_next v (Some zs) ys d k x rec h = rec zs refl ∙ ap (λ l. Some (get_or l (suc k) d)) (same_Some (v ∷ zs) ys h)

read_first : {X : Type 0} (v : X) (o : Option (List X)) (ys : List X) (d : X) → option_map (λ ws. v ∷ ws) o ≡ Some ys → Some v ≡ Some (get_or ys 0 d)
read_first v None ys d h = absurd (cc)
read_first v (Some zs) ys d h = ap (λ l. Some (get_or l 0 d)) (same_Some (v ∷ zs) ys h)

all_read : {X : Type 0} (xs : List (Option X)) (ys : List X) (k : ℕ) (d : X) → all_there xs ≡ Some ys → k < length xs → get_or xs k None ≡ Some (get_or ys k d)
all_read [] ys k d h l = absurd (omega (arith, l))
all_read (None ∷ xs) ys k d h l = absurd (cc)
all_read (Some v ∷ xs) ys zero d h l = read_first v (all_there xs) ys d h
all_read (Some v ∷ xs) ys (suc k) d h l = read_next v (all_there xs) ys d k (get_or xs k None) (λ zs e. all_read xs zs k d e (omega (arith, l))) h

-- ---- cells by their numbers

pub cells_by-next : (f : ℕ → Option Cell) (n : ℕ)
    → cells_by f (n + 1) ≡ option_and_then (λ a. option_map (λ b. a ++ b ∷ []) (f n)) (cells_by f n)
unfolding cells_by
cells_by-next f n = ap all_there (map-range_with_len_more f 0 n n (omega arith)) ∙ all_one (map f (range_with_len 0 n)) (f n)

-- one cell more
pub one_more : (f : ℕ → Option Cell) (n : ℕ) (cells : List Cell) (c : Cell) → cells_by f n ≡ Some cells → f n ≡ Some c
    → cells_by f (n + 1) ≡ Some (cells ++ c ∷ [])
one_more f n cells c h e =
    cells_by-next f n ∙ ap₂ (λ o all. option_and_then (λ a. option_map (λ b. a ++ b ∷ []) o) all) e h

none_next : (o : Option Cell) (all : Option (List Cell)) → all ≡ None → option_and_then (λ a. option_map (λ b. a ++ b ∷ []) o) all ≡ None
none_next o all e = rw e refl

none_here : (o : Option Cell) (all : Option (List Cell)) → o ≡ None → option_and_then (λ a. option_map (λ b. a ++ b ∷ []) o) all ≡ None
none_here o None e = refl
none_here o (Some a) e = rw e refl

-- one that is stuck
pub stuck_by : (f : ℕ → Option Cell) (n k : ℕ) → k < n → f k ≡ None → cells_by f n ≡ None
stuck_by f zero k l e = absurd (omega arith)
stuck_by f (suc n) k l e =
    ap (cells_by f) (sym (add-one n)) ∙ cells_by-next f n
    ∙ elim (cases_eq k n) [
      | inl same ↦ none_here (f n) (cells_by f n) (ap f (sym same) ∙ e)
      | inr other ↦ none_next (f n) (cells_by f n) (stuck_by f n k (omega (arith, l, other)) e)
    ]

pub length-cells_by : (f : ℕ → Option Cell) (n : ℕ) (cells : List Cell) → cells_by f n ≡ Some cells → length cells ≡ n
unfolding cells_by
length-cells_by f n cells h = all_length (map f (range_with_len 0 n)) cells h ∙ length-map-range_with_len f 0 n

-- cells each of which is there
pub made_by : (f : ℕ → Option Cell) (n : ℕ) (cells : List Cell) → length cells ≡ n
    → ((k : ℕ) → k < n → f k ≡ Some (get_or cells k Undef)) → cells_by f n ≡ Some cells
unfolding cells_by
made_by f n cells counted h =
    ap all_there (sym (fill_by_all f (map (λ c. Some c) cells) n (Some Undef) (length-some cells ∙ counted) (λ k l. get_or-some cells k Undef ∙ sym (h k l))))
    ∙ all_some cells

from_none : (f : ℕ → Option Cell) → cells_by f 0 ≡ Some []
unfolding cells_by
from_none f = refl

pub cells_by-same : (f g : ℕ → Option Cell) (n : ℕ) → ((k : ℕ) → k < n → f k ≡ g k) → cells_by f n ≡ cells_by g n
cells_by-same f g zero h = from_none f ∙ sym (from_none g)
cells_by-same f g (suc n) h =
    ap (cells_by f) (sym (add-one n)) ∙ cells_by-next f n
    ∙ ap₂ (λ o all. option_and_then (λ a. option_map (λ b. a ++ b ∷ []) o) all) (h n (omega arith)) (cells_by-same f g n (λ k l. h k (omega (arith, l))))
    ∙ sym (cells_by-next g n) ∙ ap (cells_by g) (add-one n)

-- ---- tensors of cells

any_stuck : (f : ℕ → Option Cell) (ks : List ℕ)
    → (if list_any (λ k. is_none (f k)) ks then None else Some (map (λ k. unwrap_or (f k) Undef) ks)) ≡ all_there (map f ks)
any_stuck f [] = refl
any_stuck f (k ∷ ks) = go (f k) (list_any (λ j. is_none (f j)) ks) (any_stuck f ks)
  where
    go : (o : Option Cell) (b : Bool) → (if b then None else Some (map (λ j. unwrap_or (f j) Undef) ks)) ≡ all_there (map f ks)
        → (if is_none o || b then None else Some (unwrap_or o Undef ∷ map (λ j. unwrap_or (f j) Undef) ks)) ≡ all_there (o ∷ map f ks)
    go None b h = refl
    go (Some c) true h = ap (option_map (λ cs. c ∷ cs)) h
    go (Some c) false h = ap (option_map (λ cs. c ∷ cs)) h

pub built_by : (shape : List ℕ) (w : Width) (cell : List ℕ → Option Cell)
    → built_of shape w cell ≡ option_map (λ cs. record { shape = shape; width = w; cells = cs }) (cells_by (λ k. cell (unflat_of shape k)) (cell_count shape))
unfolding built_of cells_by cells_of
built_by shape w cell =
    go (list_any (λ k. is_none (cell (unflat_of shape k))) (range_with_len 0 (cell_count shape)))
    ∙ ap (option_map (λ cs. record { shape = shape; width = w; cells = cs })) (any_stuck (λ k. cell (unflat_of shape k)) (range_with_len 0 (cell_count shape)))
  where
    go : (b : Bool) → (if b then None else Some (build shape w (λ i. unwrap_or (cell i) Undef)))
        ≡ option_map (λ cs. record { shape = shape; width = w; cells = cs })
        (if b then None else Some (map (λ k. unwrap_or (cell (unflat_of shape k)) Undef) (range_with_len 0 (cell_count shape))))
    go true = refl
    go false = refl

-- ---- the forms in which literals hold them

pub repeated_by : (c : Cell) (n : ℕ) → cells_by (λ k. Some c) n ≡ Some (replicate n c)
repeated_by c n = made_by (λ k. Some c) n (replicate n c) (length-replicate n c) (λ k l. ap (λ x. Some x) (sym (get_or-replicate n k c Undef l)))

pub front_by : (cells : List Cell) (n : ℕ) → n ≤ length cells → cells_by (slice_get cells) n ≡ Some (take n cells)
front_by cells n l =
    made_by (slice_get cells) n (take n cells) (length-take n cells ∙ omega (arith, l))
    (λ k m. slice_get-get_or cells k Undef (omega (arith, l, m)) ∙ ap (λ x. Some x) (sym (get_or-take n cells k Undef m)))

-- too few
pub few_by : (cells : List Cell) (n : ℕ) → length cells < n → cells_by (slice_get cells) n ≡ None
few_by cells n l = stuck_by (slice_get cells) n (length cells) l (past cells)
  where
    past : (cells : List Cell) → slice_get cells (length cells) ≡ None
    past [] = refl
    past (c ∷ cells) = past cells

-- one cell that is held fills the tensor
pub one_held : (cells : List Cell) (n : ℕ) → length cells ≡ 1 → cells_by (held_cell cells) n ≡ cells_by (λ k. Some (get_or cells 0 Undef)) n
one_held [] n l = absurd (omega (arith, l))
one_held (c ∷ []) n l = refl
one_held (c ∷ d ∷ cells) n l = absurd (omega (arith, l))

pub more_held : (cells : List Cell) (n : ℕ) → length cells ≢ 1 → cells_by (held_cell cells) n ≡ cells_by (slice_get cells) n
more_held [] n l = refl
more_held (c ∷ []) n l = absurd (l refl)
more_held (c ∷ d ∷ cells) n l = refl

-- a broken literal
pub none_by : (n : ℕ) → n ≢ 0 → cells_by (λ k. None) n ≡ None
none_by n some = stuck_by (λ k. None) n 0 (omega (arith, some)) refl

pub from_none_by : (f : ℕ → Option Cell) (n : ℕ) → n ≡ 0 → cells_by f n ≡ Some []
from_none_by f n e = ap (cells_by f) e ∙ from_none f

-- the steps of a loop over cells that pushes what a function gives
pub none_so_far : (f : ℕ → Option Cell) (cells : List Cell) → cells ≡ [] → cells_by f 0 ≡ Some cells
none_so_far f cells e = from_none f ∙ ap (λ x. Some x) (sym e)

pub one_pushed : (f : ℕ → Option Cell) (n : ℕ) (cells new : List Cell) (c : Cell) → cells_by f n ≡ Some cells → Some c ≡ f n → new ≡ cells ++ c ∷ []
    → cells_by f (n + 1) ≡ Some new
one_pushed f n cells new c h e pushed = one_more f n cells c h (sym e) ∙ ap (λ x. Some x) (sym pushed)

-- ---- the width of cells

pub read_by : (f : ℕ → Option Cell) (n k : ℕ) (cells : List Cell) (d : Cell) → cells_by f n ≡ Some cells → k < n → f k ≡ Some (get_or cells k d)
unfolding cells_by
read_by f n k cells d h l =
    sym (get_or-map-range_with_len f 0 n k k None l (omega arith))
    ∙ all_read (map f (range_with_len 0 n)) cells k d h (rw (length-map-range_with_len f 0 n) l)

pub fitting_by : (f : ℕ → Option Cell) (n : ℕ) (w : Width) (cells : Option (List Cell)) → cells ≡ cells_by f n
    → ((k : ℕ) (c : Cell) → f k ≡ Some c → IsCellOf w c) → IfSome cells (All (IsCellOf w))
fitting_by f n w None e h = tt
fitting_by f n w (Some cs) e h = λ k d l. h k (get_or cs k d) (read_by f n k cs d (sym e) (rw (← length-cells_by f n cs (sym e)) l))

held_fits : (w : Width) (cells : List Cell) (k : ℕ) (c : Cell) → All (IsCellOf w) cells → held_cell cells k ≡ Some c → IsCellOf w c
held_fits w [] k c fits h = absurd (cc)
held_fits w (a ∷ []) k c fits h = subst (IsCellOf w) (same_Some a c h) (fits 0 a (omega arith))
held_fits w (a ∷ b ∷ cells) k c fits h = found (slice_get_cases (a ∷ b ∷ cells) k).1
  where
    found : ((x : Cell) × (k < length (a ∷ b ∷ cells)) × (slice_get (a ∷ b ∷ cells) k ≡ Some x) × (get_or (a ∷ b ∷ cells) k x ≡ x)) ⊎ ((length (a ∷ b ∷ cells) ≤ k) × (slice_get (a ∷ b ∷ cells) k ≡ None)) → IsCellOf w c
    found (inl (x, l, is, read)) = subst (IsCellOf w) (read ∙ same_Some x c (sym is ∙ h)) (fits k x l)
    found (inr (l, none)) = absurd (cc)

pub constant_fits : (w : Width) (contents : Contents) (k : ℕ) (c : Cell) → HoldsCellsOf w contents → constant_cell contents k ≡ Some c → IsCellOf w c
constant_fits w Broken k c fits h = absurd (cc)
constant_fits w (Held cells) k c fits h = held_fits w cells k c fits h

pub undefined_fits : (w : Width) (c : Cell) → Some Undef ≡ Some c → IsCellOf w c
undefined_fits w c e = subst (IsCellOf w) (same_Some Undef c e) tt
