-- Groups of devices along a list of axes: a place and its member, and that each device has one group.
use Rattle.std.proofs.Common.{◌≡◌, ◌≢◌, ◌↔◌, ℕ, ◌+◌, ◌*◌, ◌<◌, List, [], ◌∷◌, ◌++◌, length, get_or, set, refl, ap, ap₂, sym, ◌∙◌, arith, subst, inl, inr}
use Rattle.std.specs.List.{fold}
use Rattle.std.proofs.lemmas.Bool.{cases_eq}
use Rattle.std.proofs.lemmas.List.{get_or-set_same, get_or-set_other, length-set, length-map, map-append, ext_get_or}
use Rattle.std.proofs.lemmas.List.Sums.{fold-append}
use Rattle.std.proofs.lemmas.List.FromFn.{length-map-range_with_len, get_or-map-range_with_len}
use Rattle.sh_base.specs.Shape.{cell_count, IsIndexOf, flat_of, unflat_of}
use Rattle.sh_base.proofs.ShapeLaws.{flat_of-below, unflat_of-within, flat_of-unflat_of, unflat_of-flat_of}
use Rattle.sh_base.proofs.IndexLaws.{length-unflat_of, IsIndexOf-entry, IsIndexOf-set_entry}
use Rattle.sh_grid.specs.Grid.{IsNoneOf, AreAxesOf, on_axes, place_in, AgreeOutside, group_size_of, with_entries, member_of, group_of, AreApart, PlacesJoin, PlacesStay, AxesJoin}

-- ---- entries on a list of axes

pub on_axes-nil : (xs : List ℕ) → on_axes [] xs ≡ []
unfolding on_axes
on_axes-nil xs = refl

pub on_axes-cons : (a : ℕ) (axes xs : List ℕ) → on_axes (a ∷ axes) xs ≡ get_or xs a 0 ∷ on_axes axes xs
unfolding on_axes
on_axes-cons a axes xs = refl

pub length-on_axes : (axes xs : List ℕ) → length (on_axes axes xs) ≡ length axes
unfolding on_axes
length-on_axes axes xs = length-map axes (λ a. get_or xs a 0)

pub IsIndexOf-on_axes : (s i axes : List ℕ) → IsIndexOf s i → AreAxesOf (length s) axes → IsIndexOf (on_axes axes s) (on_axes axes i)
unfolding on_axes
IsIndexOf-on_axes s i [] h m = tt
IsIndexOf-on_axes s i (a ∷ axes) h m = (IsIndexOf-entry s i a h m.0, IsIndexOf-on_axes s i axes h m.2)

pub on_axes-set_other : (axes xs : List ℕ) (a v : ℕ) → IsNoneOf a axes → on_axes axes (set xs a v) ≡ on_axes axes xs
unfolding on_axes
on_axes-set_other [] xs a v h = refl
on_axes-set_other (b ∷ axes) xs a v h =
    let other : b ≢ a = λ e. h.0 (sym e) in
    ap₂ ◌∷◌ (get_or-set_other xs a b v 0 other) (on_axes-set_other axes xs a v h.1)

-- ---- an index with entries on a list of axes

pub IsIndexOf-with_entries : (s axes qs i : List ℕ) → IsIndexOf s i → IsIndexOf (on_axes axes s) qs → IsIndexOf s (with_entries axes qs i)
unfolding on_axes
IsIndexOf-with_entries s [] qs i h l = h
IsIndexOf-with_entries s (a ∷ axes) [] i h l = h
IsIndexOf-with_entries s (a ∷ axes) (q ∷ qs) i h l = IsIndexOf-with_entries s axes qs (set i a q) (IsIndexOf-set_entry s i a q h l.0) l.1

with_entries-other : (axes qs i : List ℕ) (b : ℕ) → IsNoneOf b axes → get_or (with_entries axes qs i) b 0 ≡ get_or i b 0
with_entries-other [] qs i b h = refl
with_entries-other (a ∷ axes) [] i b h = refl
with_entries-other (a ∷ axes) (q ∷ qs) i b h = with_entries-other axes qs (set i a q) b h.1 ∙ get_or-set_other i a b q 0 h.0

on_axes-with_entries : (s axes qs i : List ℕ) → IsIndexOf (on_axes axes s) qs → length i ≡ length s → AreAxesOf (length s) axes
    → on_axes axes (with_entries axes qs i) ≡ qs
unfolding on_axes
on_axes-with_entries s [] [] i h e m = refl
on_axes-with_entries s [] (q ∷ qs) i h e m = absurd h
on_axes-with_entries s (a ∷ axes) [] i h e m = absurd h
on_axes-with_entries s (a ∷ axes) (q ∷ qs) i h e m =
    let there : a < length i = rw e m.0 in
    let long : length (set i a q) ≡ length s = length-set i a q ∙ e in
    ap₂ ◌∷◌ (with_entries-other axes qs (set i a q) a m.1 ∙ get_or-set_same i a q 0 there)
    (on_axes-with_entries s axes qs (set i a q) h.1 long m.2)

-- an index with the entries of another that is equal outside the list is the other
with_entries-same : (axes i j : List ℕ) → length i ≡ length j → AreAxesOf (length i) axes
    → ((b : ℕ) → IsNoneOf b axes → get_or i b 0 ≡ get_or j b 0) → with_entries axes (on_axes axes j) i ≡ j
unfolding on_axes
with_entries-same [] i j e m h = ext_get_or 0 i j e (λ k l. h k tt)
with_entries-same (a ∷ axes) i j e m h =
    let v = get_or j a 0 in
    let long : length (set i a v) ≡ length i = length-set i a v in
    with_entries-same axes (set i a v) j (long ∙ e) (subst (λ n. AreAxesOf n axes) (sym long) m.2)
    (λ b none. elim (cases_eq b a) [
      | inl same ↦ ap (λ c. get_or (set i a v) c 0) same ∙ get_or-set_same i a v 0 m.0 ∙ ap (λ c. get_or j c 0) (sym same)
      | inr other ↦ get_or-set_other i a b v 0 other ∙ h b (other, none)
    ])

-- ---- places

fold_is_flat : (s i axes : List ℕ) (start : ℕ)
    → fold (λ place a. place * get_or s a 0 + get_or i a 0) start axes ≡ start * cell_count (on_axes axes s) + flat_of (on_axes axes s) (on_axes axes i)
unfolding on_axes
fold_is_flat s i [] start = omega arith
fold_is_flat s i (a ∷ axes) start = let rec = fold_is_flat s i axes (start * get_or s a 0 + get_or i a 0) in rw rec (omega arith)

-- the place is the row-major number of the listed coordinates
pub place_in-flat_of : (s axes : List ℕ) (d : ℕ) → place_in s axes d ≡ flat_of (on_axes axes s) (on_axes axes (unflat_of s d))
unfolding place_in
place_in-flat_of s axes d = let e = fold_is_flat s (unflat_of s d) axes 0 in rw e (omega arith)

pub place_in-below : (s axes : List ℕ) (d : ℕ) → d < cell_count s → AreAxesOf (length s) axes → place_in s axes d < group_size_of s axes
unfolding group_size_of
place_in-below s axes d h m =
    rw (place_in-flat_of s axes d)
    (flat_of-below (on_axes axes s) (on_axes axes (unflat_of s d)) (IsIndexOf-on_axes s (unflat_of s d) axes (unflat_of-within s d h) m))

-- ---- members

member_index : (s axes : List ℕ) (d place : ℕ) → d < cell_count s → place < group_size_of s axes
    → IsIndexOf s (with_entries axes (unflat_of (on_axes axes s) place) (unflat_of s d))
unfolding group_size_of
member_index s axes d place h l =
    IsIndexOf-with_entries s axes (unflat_of (on_axes axes s) place) (unflat_of s d) (unflat_of-within s d h) (unflat_of-within (on_axes axes s) place l)

pub member_of-below : (s axes : List ℕ) (d place : ℕ) → d < cell_count s → place < group_size_of s axes → member_of s axes d place < cell_count s
unfolding member_of
member_of-below s axes d place h l =
    flat_of-below s (with_entries axes (unflat_of (on_axes axes s) place) (unflat_of s d)) (member_index s axes d place h l)

pub unflat_of-member_of : (s axes : List ℕ) (d place : ℕ) → d < cell_count s → place < group_size_of s axes
    → unflat_of s (member_of s axes d place) ≡ with_entries axes (unflat_of (on_axes axes s) place) (unflat_of s d)
unfolding member_of
unflat_of-member_of s axes d place h l =
    unflat_of-flat_of s (with_entries axes (unflat_of (on_axes axes s) place) (unflat_of s d)) (member_index s axes d place h l)

-- the member at a place has that place
pub place_in-member_of : (s axes : List ℕ) (d place : ℕ) → d < cell_count s → place < group_size_of s axes → AreAxesOf (length s) axes
    → place_in s axes (member_of s axes d place) ≡ place
unfolding group_size_of
place_in-member_of s axes d place h l m =
    place_in-flat_of s axes (member_of s axes d place)
    ∙ ap (λ i. flat_of (on_axes axes s) (on_axes axes i)) (unflat_of-member_of s axes d place h l)
    ∙ ap (flat_of (on_axes axes s)) (on_axes-with_entries s axes (unflat_of (on_axes axes s) place) (unflat_of s d) (unflat_of-within (on_axes axes s) place l) (length-unflat_of s d) m)
    ∙ flat_of-unflat_of (on_axes axes s) place l

-- each member agrees with the device outside the list
pub member_of-agrees : (s axes : List ℕ) (d place : ℕ) → d < cell_count s → place < group_size_of s axes → AgreeOutside s axes d (member_of s axes d place)
unfolding AgreeOutside
member_of-agrees s axes d place h l a none =
    sym (ap (λ i. get_or i a 0) (unflat_of-member_of s axes d place h l) ∙ with_entries-other axes (unflat_of (on_axes axes s) place) (unflat_of s d) a none)

-- each device of the group is met, at its place
pub member_of-place_in : (s axes : List ℕ) (d e : ℕ) → e < cell_count s → AreAxesOf (length s) axes → AgreeOutside s axes d e → member_of s axes d (place_in s axes e) ≡ e
unfolding member_of AgreeOutside
member_of-place_in s axes d e h m agree =
    let i = unflat_of s d in
    let j = unflat_of s e in
    let entries : unflat_of (on_axes axes s) (place_in s axes e) ≡ on_axes axes j =
    ap (unflat_of (on_axes axes s)) (place_in-flat_of s axes e)
    ∙ unflat_of-flat_of (on_axes axes s) (on_axes axes j) (IsIndexOf-on_axes s j axes (unflat_of-within s e h) m) in
    let same_length : length i ≡ length j = length-unflat_of s d ∙ sym (length-unflat_of s e) in
    ap (λ qs. flat_of s (with_entries axes qs i)) entries
    ∙ ap (flat_of s) (with_entries-same axes i j same_length (subst (λ n. AreAxesOf n axes) (sym (length-unflat_of s d)) m) agree)
    ∙ flat_of-unflat_of s e h

-- ---- groups

pub AgreeOutside-refl : (s axes : List ℕ) (c : ℕ) → AgreeOutside s axes c c
unfolding AgreeOutside
AgreeOutside-refl s axes c a none = refl

pub AgreeOutside-sym : (s axes : List ℕ) (c d : ℕ) → AgreeOutside s axes c d → AgreeOutside s axes d c
unfolding AgreeOutside
AgreeOutside-sym s axes c d h a none = sym (h a none)

pub AgreeOutside-trans : (s axes : List ℕ) (c d e : ℕ) → AgreeOutside s axes c d → AgreeOutside s axes d e → AgreeOutside s axes c e
unfolding AgreeOutside
AgreeOutside-trans s axes c d e h k a none = h a none ∙ k a none

-- devices of one group have the same member at each place
pub member_of-same : (s axes : List ℕ) (c d place : ℕ) → c < cell_count s → d < cell_count s → AreAxesOf (length s) axes → AgreeOutside s axes c d → place < group_size_of s axes
    → member_of s axes c place ≡ member_of s axes d place
member_of-same s axes c d place hc hd m agree l =
    let e = member_of s axes d place in
    let reached : AgreeOutside s axes c e = AgreeOutside-trans s axes c d e agree (member_of-agrees s axes d place hd l) in
    sym (ap (member_of s axes c) (place_in-member_of s axes d place hd l m))
    ∙ member_of-place_in s axes c e (member_of-below s axes d place hd l) m reached

pub length-group_of : (s axes : List ℕ) (d : ℕ) → length (group_of s axes d) ≡ group_size_of s axes
unfolding group_of
length-group_of s axes d = length-map-range_with_len (λ place. member_of s axes d place) 0 (group_size_of s axes)

pub get_or-group_of : (s axes : List ℕ) (d place default : ℕ) → place < group_size_of s axes → get_or (group_of s axes d) place default ≡ member_of s axes d place
unfolding group_of
get_or-group_of s axes d place default l =
    get_or-map-range_with_len (λ place. member_of s axes d place) 0 (group_size_of s axes) place place default l (omega arith)

-- a device stands in its group, at its place
pub group_of-own : (s axes : List ℕ) (d default : ℕ) → d < cell_count s → AreAxesOf (length s) axes → get_or (group_of s axes d) (place_in s axes d) default ≡ d
group_of-own s axes d default h m =
    get_or-group_of s axes d (place_in s axes d) default (place_in-below s axes d h m) ∙ member_of-place_in s axes d d h m (AgreeOutside-refl s axes d)

-- devices that agree outside the list have one group
pub group_of-same : (s axes : List ℕ) (c d : ℕ) → c < cell_count s → d < cell_count s → AreAxesOf (length s) axes → AgreeOutside s axes c d → group_of s axes c ≡ group_of s axes d
group_of-same s axes c d hc hd m agree =
    ext_get_or 0 (group_of s axes c) (group_of s axes d) (length-group_of s axes c ∙ sym (length-group_of s axes d))
    (λ place l.
    let lt : place < group_size_of s axes = rw (← length-group_of s axes c) l in
    get_or-group_of s axes c place 0 lt ∙ member_of-same s axes c d place hc hd m agree lt ∙ sym (get_or-group_of s axes d place 0 lt))

-- a device that stands in two groups, at any places, makes them one
pub group_of-met : (s axes : List ℕ) (c d p q : ℕ) → c < cell_count s → d < cell_count s → AreAxesOf (length s) axes → p < group_size_of s axes → q < group_size_of s axes
    → member_of s axes c p ≡ member_of s axes d q → group_of s axes c ≡ group_of s axes d
group_of-met s axes c d p q hc hd m lp lq e =
    let from : AgreeOutside s axes c (member_of s axes d q) = subst (AgreeOutside s axes c) e (member_of-agrees s axes c p hc lp) in
    let back = AgreeOutside-sym s axes d (member_of s axes d q) (member_of-agrees s axes d q hd lq) in
    group_of-same s axes c d hc hd m (AgreeOutside-trans s axes c (member_of s axes d q) d from back)

-- a group along no axis is the device alone
pub group_of-nil : (s : List ℕ) (d : ℕ) → d < cell_count s → group_of s [] d ≡ d ∷ []
unfolding group_of member_of group_size_of on_axes
group_of-nil s d h = ap (λ c. c ∷ []) (flat_of-unflat_of s d h)

-- ---- lists of axes, one after the other

pub on_axes-append : (xs ys i : List ℕ) → on_axes (xs ++ ys) i ≡ on_axes xs i ++ on_axes ys i
unfolding on_axes
on_axes-append xs ys i = map-append (λ a. get_or i a 0) xs ys

pub places_join : (s : List ℕ) → PlacesJoin s
unfolding place_in group_size_of
places_join s outer inner d =
    let f : ℕ → ℕ → ℕ = λ place a. place * get_or s a 0 + get_or (unflat_of s d) a 0 in
    let own = fold_is_flat s (unflat_of s d) inner 0 in
    fold-append f 0 outer inner ∙ fold_is_flat s (unflat_of s d) inner (fold f 0 outer) ∙ rw own (omega arith)

on_axes-stay : (s axes others : List ℕ) (c d : ℕ) → AreApart axes others → AgreeOutside s others c d
    → on_axes axes (unflat_of s c) ≡ on_axes axes (unflat_of s d)
unfolding on_axes AgreeOutside
on_axes-stay s [] others c d apart agree = refl
on_axes-stay s (a ∷ axes) others c d apart agree = ap₂ ◌∷◌ (agree a apart.0) (on_axes-stay s axes others c d apart.1 agree)

pub places_stay : (s : List ℕ) → PlacesStay s
places_stay s axes others c d apart agree =
    place_in-flat_of s axes c ∙ ap (flat_of (on_axes axes s)) (on_axes-stay s axes others c d apart agree) ∙ sym (place_in-flat_of s axes d)

is_none_of-append : (a : ℕ) (xs ys : List ℕ) → IsNoneOf a (xs ++ ys) ↔ (IsNoneOf a xs × IsNoneOf a ys)
is_none_of-append a [] ys = (λ h. (tt, h), λ h. h.1)
is_none_of-append a (x ∷ xs) ys =
    let rec = is_none_of-append a xs ys in
    (λ h. ((h.0, (rec.0 h.1).0), (rec.0 h.1).1), λ h. (h.0.0, rec.1 (h.0.1, h.1)))

pub axes_join : (rank : ℕ) → AxesJoin rank
axes_join rank [] inner = (λ h. (tt, tt, h), λ h. h.2)
axes_join rank (a ∷ outer) inner =
    let rec = axes_join rank outer inner in
    let none = is_none_of-append a outer inner in (
      λ h. ((h.0, (none.0 h.1).0, (rec.0 h.2).0), ((none.0 h.1).1, (rec.0 h.2).1), (rec.0 h.2).2),
      λ h. (h.0.0, none.1 (h.0.1, h.1.0), rec.1 (h.0.2, h.1.1, h.2)),
    )
