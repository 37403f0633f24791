-- What options must differ from that begin so.
use Rattle.std.proofs.Common.{◌≡◌, ◌≢◌, ℕ, zero, suc, ◌+◌, ◌≤◌, ◌<◌, List, [], ◌∷◌, ◌++◌, length, map, get_or, take, drop, Bool, true, false, refl, ap, sym, ◌∙◌, subst, inl, inr, arith}
use Rattle.std.proofs.lemmas.Bool.{cases_Bool}
use Rattle.std.proofs.lemmas.List.{length-map, take_all}
use Rattle.std.proofs.lemmas.List.Sums.{count_by_more_no, count_by_more_yes}
use Rattle.std.proofs.lemmas.List.Elements.{All-cons, All-contains, All-nil, Contains-append_left, Contains-append_right}
use Rattle.std.specs.List.{All, Contains, count_by, list_any}
use Rattle.std.specs.Prelude.{Option, Some, None, not, ◌&&◌, slice_get, unwrap_or, ◌||◌, if◌then◌else◌}
use Rattle.sh_grid.specs.Grid.{GridValue}
use Rattle.sh_iface.specs.declared.options.Follow.{Follow}
use Rattle.sh_iface.specs.declared.options.How.{How}
use Rattle.sh_iface.specs.declared.options.How.TheVariants.{Same, Scale, Window}
use Rattle.sh_iface.specs.declared.options.Split.{Split}
use Rattle.sh_iface.specs.LoopNest.{LoopNest, NestDim, dim_at, loop_extents, shape_of, value_at}
use Rattle.sh_iface.specs.Splits.{OptionValue, can_window, divided, divided_as, followed, implied_of, split_at}
use Rattle.sh_iface.specs.Valid.{HaveOwnAxes, IsApartFrom, IsApartFromAll}
use Rattle.sh_sharding.specs.declared.shardings.Dimension.{Dimension}
use Rattle.sh_sharding.specs.Normal.{division_of, normal_form}
use Rattle.sh_sharding.specs.Sharding.{dimension_of, is_split, is_split_by, unsplit}
use Rattle.sh_sharding.proofs.NormalLaws.{none_split, some_split}
use Rattle.sh_choose.specs.declared.chosen.Known.{Known}
use Rattle.sh_choose.specs.declared.chosen.Weight.{Weight}
use Rattle.sh_choose.specs.Bounds.{FollowsOtherAxes, HasOtherAxes, IsSplitOtherwise}
use Rattle.sh_choose.specs.Least.{IsKnown}
use Rattle.sh_choose.specs.Weights.{IsLess, differing, differs, is_of, is_same, weight_of}
use Rattle.sh_choose.proofs.SameLaws.{same_shown}

-- ---- axes of two splits

none_apart : (x : Option Split) → IsApartFromAll [] x
none_apart None = tt
none_apart (Some s) = λ k d l. absurd (omega arith)

one_apart : (P : Option Split → Type 0) (x : Option Split) → P x → All P (x ∷ [])
one_apart P x p = All-cons P x [] p (All-nil P)

first_pair : (x : Option Split) (others : OptionValue) (last : Option Split) → Contains others last → IsApartFromAll others x → HaveOwnAxes (x ∷ last ∷ [])
first_pair None others last c h = (tt, (none_apart last, tt))
first_pair (Some s) others last c h =
    (one_apart (IsApartFrom s.axes) last (All-contains (IsApartFrom s.axes) others last h c), (none_apart last, tt))

last_there : (earlier : OptionValue) (last : Option Split) (rest : OptionValue) → Contains ((earlier ++ last ∷ []) ++ rest) last
last_there earlier last rest =
    Contains-append_left (earlier ++ last ∷ []) rest last (Contains-append_right earlier (last ∷ []) last (0, omega arith, refl))

-- the last loop so far and an earlier one
pub own_pair : (earlier : OptionValue) (last : Option Split) (rest : OptionValue) (i : ℕ) (d : Option Split) → i < length earlier → HaveOwnAxes ((earlier ++ last ∷ []) ++ rest) → HaveOwnAxes (get_or earlier i d ∷ last ∷ [])
own_pair [] last rest i d l h = absurd (omega arith)
own_pair (x ∷ earlier) last rest zero d l h = first_pair x ((earlier ++ last ∷ []) ++ rest) last (last_there earlier last rest) h.0
own_pair (x ∷ earlier) last rest (suc i) d l h = own_pair earlier last rest i d (omega arith) h.1

-- ---- axes of a dimension that follows a loop

no_axes_split : (axes : List ℕ) → is_split_by axes ≡ true → [] ≢ axes
no_axes_split [] h e = cc
no_axes_split (a ∷ axes) h e = cc

window_otherwise : (b : Bool) (a c : Dimension) (axes : List ℕ) → a.axes ≢ axes → c.axes ≢ axes → (if b then a else c).axes ≢ axes
window_otherwise true a c axes h k = h
window_otherwise false a c axes h k = k

divided_otherwise : (g shape : List ℕ) (at extent : ℕ) (split : Split) (places : ℕ) (how : How) (axes : List ℕ) → split.axes ≢ axes → [] ≢ axes → (divided_as g shape at extent split places how).axes ≢ axes
divided_otherwise g shape at extent split places Same axes h k = h
divided_otherwise g shape at extent split places (Scale factor) axes h k = h
divided_otherwise g shape at extent split places (Window kernel) axes h k =
    window_otherwise (can_window g shape at places split extent kernel) _ _ axes h k

-- how the loop divides it that it follows
abbrev divided_by : List ℕ → List ℕ → List ℕ → ℕ → ℕ → Follow → Option Split → Dimension
divided_by g loops shape at extent f x =
    elim x [
      | None ↦ unsplit extent
      | Some split ↦ divided_as g shape at extent split (unwrap_or (slice_get loops f.loop_index) 0) f.how
    ]

divided_by-otherwise : (g loops shape : List ℕ) (at extent : ℕ) (f : Follow) (x : Option Split) (axes : List ℕ) → HasOtherAxes axes (Some x) → [] ≢ axes → (divided_by g loops shape at extent f x).axes ≢ axes
divided_by-otherwise g loops shape at extent f None axes h k = k
divided_by-otherwise g loops shape at extent f (Some split) axes h k =
    divided_otherwise g shape at extent split (unwrap_or (slice_get loops f.loop_index) 0) f.how axes h k

front_there : (o rest : OptionValue) (l : ℕ) (x : Option Split) → slice_get o l ≡ Some x → split_at (o ++ rest) l ≡ x
front_there [] rest l x e = absurd (cc)
front_there (y ∷ o) rest zero x e = ap (λ q. unwrap_or q None) e
front_there (y ∷ o) rest (suc l) x e = front_there o rest l x e

at_loop : (g loops shape : List ℕ) (o rest : OptionValue) (at extent : ℕ) (f : Follow) (axes : List ℕ) (q : Option (Option Split)) → slice_get o f.loop_index ≡ q → HasOtherAxes axes q → [] ≢ axes → (followed g loops (o ++ rest) shape at extent (Some f)).axes ≢ axes
at_loop g loops shape o rest at extent f axes None e h k = absurd h
at_loop g loops shape o rest at extent f axes (Some x) e h k =
    subst (λ y. (divided_by g loops shape at extent f y).axes ≢ axes) (sym (front_there o rest f.loop_index x e))
    (divided_by-otherwise g loops shape at extent f x axes h k)

followed_otherwise : (g loops shape : List ℕ) (o rest : OptionValue) (axes : List ℕ) (x : Option Follow) → FollowsOtherAxes o axes x → [] ≢ axes → (at extent : ℕ) → (followed g loops (o ++ rest) shape at extent x).axes ≢ axes
followed_otherwise g loops shape o rest axes None h k at extent = k
followed_otherwise g loops shape o rest axes (Some f) h k at extent =
    at_loop g loops shape o rest at extent f axes (slice_get o f.loop_index) refl h k

divided_axes : (g loops : List ℕ) (o : OptionValue) (shape : List ℕ) (at : ℕ) (dims : List NestDim) (i : ℕ) (d : NestDim) (axes : List ℕ) → i < length dims → ((at extent : ℕ) → (followed g loops o shape at extent (get_or dims i d).follow).axes ≢ axes) → (get_or (divided g loops o shape at dims) i (unsplit 0)).axes ≢ axes
divided_axes g loops o shape at [] i d axes l h = absurd (omega arith)
divided_axes g loops o shape at (x ∷ dims) zero d axes l h = h at x.extent
divided_axes g loops o shape at (x ∷ dims) (suc i) d axes l h = divided_axes g loops o shape (suc at) dims i d axes (omega arith) h

-- ---- the same shardings split the same dimensions

or_right : (a b : Bool) → b ≡ true → (a || b) ≡ true
or_right true b h = refl
or_right false b h = h

any_split : (ds : List Dimension) (i : ℕ) → is_split (get_or ds i (unsplit 0)) ≡ true → list_any is_split ds ≡ true
any_split [] i h = absurd (cc)
any_split (d ∷ ds) zero h = ap (λ b. b || list_any is_split ds) h
any_split (d ∷ ds) (suc i) h = or_right (is_split d) (list_any is_split ds) (any_split ds i h)

same_at : (d x : Dimension) (ds es : List Dimension) (i : ℕ) → d.axes ≡ x.axes → ((j : ℕ) → is_split (get_or ds j (unsplit 0)) ≡ true → (get_or es j (unsplit 0)).axes ≡ (get_or ds j (unsplit 0)).axes) → is_split (get_or (d ∷ ds) i (unsplit 0)) ≡ true → (get_or (x ∷ es) i (unsplit 0)).axes ≡ (get_or (d ∷ ds) i (unsplit 0)).axes
same_at d x ds es zero e rec h = sym e
same_at d x ds es (suc i) e rec h = rec i h

same_axes : (ds es : List Dimension) (i : ℕ) → normal_form ds ≡ normal_form es → is_split (get_or ds i (unsplit 0)) ≡ true → (get_or es i (unsplit 0)).axes ≡ (get_or ds i (unsplit 0)).axes
same_axes [] es i e h = absurd (cc)
same_axes (d ∷ ds) [] i e h =
    let left : division_of d ∷ normal_form ds ≡ [] = sym (ap (map division_of) (some_split d ds (any_split (d ∷ ds) i h))) ∙ e in
    absurd (cc)
same_axes (d ∷ ds) (x ∷ es) i e h = elim (cases_Bool (list_any is_split (x ∷ es))) [
  | inl other ↦
      let both : division_of d ∷ normal_form ds ≡ division_of x ∷ normal_form es = sym (ap (map division_of) (some_split d ds (any_split (d ∷ ds) i h))) ∙ e ∙ ap (map division_of) (some_split x es other) in
      same_at d x ds es i (ap (λ zs. (get_or zs 0 (division_of d)).axes) both) (λ j k. same_axes ds es j (ap (drop 1) both) k) h
  | inr none ↦
      let both : division_of d ∷ normal_form ds ≡ [] = sym (ap (map division_of) (some_split d ds (any_split (d ∷ ds) i h))) ∙ e ∙ ap (map division_of) (none_split (x ∷ es) none) in
      absurd (cc)
]

-- ---- a known sharding

differs_from : (nest : LoopNest) (g : GridValue) (o : OptionValue) (k : Known) (dim : ℕ) → k.sharding.grid ≡ g → is_split (dimension_of k.sharding dim) ≡ true → (get_or (divided g.extents (loop_extents nest) o (shape_of (value_at nest k.v)) 0 (value_at nest k.v).dims) dim (unsplit 0)).axes ≢ (dimension_of k.sharding dim).axes → differs nest g o k ≡ true
unfolding differs implied_of
differs_from nest g o k dim grid split h =
    let implied = implied_of g nest o (value_at nest k.v) in
    elim (cases_Bool (is_same k.sharding implied)) [
      | inl t ↦ absurd (h (same_axes k.sharding.dimensions implied.dimensions dim ((same_shown k.sharding implied grid).0 t).form split))
      | inr f ↦ ap not f
    ]

pub split_otherwise : (nest : LoopNest) (g : GridValue) (o rest : OptionValue) (k : Known) (dim : ℕ) → IsKnown nest g k → dim < length k.sharding.dimensions → IsSplitOtherwise nest o k dim → differs nest g (o ++ rest) k ≡ true
split_otherwise nest g o rest k dim known l s =
    let value = value_at nest k.v in
    let axes = (dimension_of k.sharding dim).axes in
    let there : dim < length value.dims = omega (arith, l, length-map k.sharding.dimensions (λ d. d.extent), length-map value.dims (λ d. d.extent), ap length known.shape) in
    differs_from nest g (o ++ rest) k dim known.grid s.split
    (divided_axes g.extents (loop_extents nest) (o ++ rest) (shape_of value) 0 value.dims dim (record { extent = 0; follow = None }) axes there
    (followed_otherwise g.extents (loop_extents nest) (shape_of value) o rest axes (dim_at value dim).follow s.otherwise (no_axes_split axes s.split)))

-- ---- how many

pub count_more : {X : Type 0} (p : X → Bool) (xs : List X) (i count : ℕ) (x : X) → i < length xs → x ≡ get_or xs i x → p x ≡ true → count ≤ count_by p (take i xs) → count + 1 ≤ count_by p (take (i + 1) xs)
count_more p xs i count x l e h k =
    omega (arith, k, count_by_more_yes p xs i x l (sym (ap p e) ∙ h))

-- by the answer of a test
pub count_after : {X : Type 0} (p : X → Bool) (xs : List X) (i count next : ℕ) (x : X) (b : Bool) → i < length xs → x ≡ get_or xs i x → b ≡ p x → count ≡ count_by p (take i xs) → (b ≡ true → next ≡ count + 1) → (b ≡ false → next ≡ count) → next ≡ count_by p (take (i + 1) xs)
count_after p xs i count next x b l e h k yes_more no_more = elim (cases_Bool b) [
  | inl t ↦ omega (arith, k, yes_more t, count_by_more_yes p xs i x l (sym (ap p e) ∙ sym h ∙ t))
  | inr f ↦ omega (arith, k, no_more f, count_by_more_no p xs i x l (sym (ap p e) ∙ sym h ∙ f))
]

pub count_grows : {X : Type 0} (p : X → Bool) (xs : List X) (i count : ℕ) (x : X) → i < length xs → count ≤ count_by p (take i xs) → count ≤ count_by p (take (i + 1) xs)
count_grows p xs i count x l k = elim (cases_Bool (p (get_or xs i x))) [
  | inl t ↦ omega (arith, k, count_by_more_yes p xs i x l t)
  | inr f ↦ omega (arith, k, count_by_more_no p xs i x l f)
]

pub least_count : (nest : LoopNest) (g : GridValue) (o : OptionValue) (user : Bool) (known : List Known) (n count : ℕ) → length known ≤ n → count ≤ count_by (λ k. is_of user k && differs nest g o k) (take n known) → count ≤ differing nest g o user known
unfolding differing
least_count nest g o user known n count l h =
    subst (λ ks. count ≤ count_by (λ k. is_of user k && differs nest g o k) ks) (take_all n known l) h

-- ---- weights

pub past_weight : (nest : LoopNest) (g : GridValue) (known : List Known) (o : OptionValue) (best : Weight) (user other : ℕ) → ((w : Weight) → user ≤ w.user_differ → other ≤ w.other_differ → IsLess best w) → user ≤ differing nest g o true known → other ≤ differing nest g o false known → IsLess best (weight_of nest g known o)
unfolding weight_of
past_weight nest g known o best user other h u v = h (weight_of nest g known o) u v
