-- The region of an operation of a verified function is in order.
use Rattle.std.proofs.Common.{◌≡◌, ℕ, zero, suc, ◌<◌, Bool, true, false, List, [], ◌∷◌, ◌++◌, map, length, Option, Some, None, refl, ap, ap₂, sym, ◌∙◌, arith, subst, append_assoc, inl, inr, ◌⊎◌}
use Rattle.std.proofs.lemmas.Bool.{cases_Bool}
use Rattle.std.proofs.lemmas.Bool.Decides.{nat_tests}
use Rattle.std.proofs.lemmas.List.{append-nil, length-append, length-map}
use Rattle.std.proofs.lemmas.Option.{same_Some}
use Rattle.std.specs.List.{AllByRecursion, list_all}
use Rattle.std.specs.Cmp.Lexicographic.{pointwise}
use Rattle.std.specs.Option.{option_map_or, option_or}
use Rattle.std.specs.Prelude.{◌&&◌, ◌||◌, filter, is_some, nat_eq, not, if◌then◌else◌, option_and_then, option_map, slice_get, unwrap_or}
use Rattle.sh_base.specs.declared.numbers.Width.{Width}
use Rattle.sh_base.specs.Cells.{bits_of}
use Rattle.sh_base.specs.declared.places.Refusal.{Refusal}
use Rattle.sh_base.specs.declared.rules.Rule.{Rule}
use Rattle.sh_base.specs.declared.rules.Rule.TheVariants.{L2, L4, V1, V2, V5}
use Rattle.sh_ir.specs.declared.bodies.Body.{Body}
use Rattle.sh_ir.specs.declared.bodies.BodyKind.{BodyKind}
use Rattle.sh_ir.specs.declared.bodies.BodyKind.TheVariants.{Constant, Binary, Compare, Select, Cast, Index, IndexCast}
use Rattle.sh_ir.specs.declared.bodies.BodyOp.{BodyOp}
use Rattle.sh_ir.specs.declared.types.ValueType.{ValueType}
use Rattle.sh_ir.specs.declared.types.ValueType.TheVariants.{Scalar}
use Rattle.sh_ir.specs.Agreement.{cell_bits, same_type}
use Rattle.sh_ir.specs.Formed.{OperandsFit, ResultFits, has_no_index, is_block, is_on_index, is_scalar}
use Rattle.sh_ir.specs.RegionRules.{are_typed, block_of, body_number_fits, body_typing, is_outer_of, is_scalar_op, is_there, is_typed, keeps_at_yield, keeps_in_region, last_bits, own_after, region_fits, stand_for, stands_for, with_block}
use Rattle.sh_ir.specs.Rules.{body_faults, faults_at, refusal_at}
use Rattle.sh_ir.specs.Written.{written_in_body}
use Rattle.sh_ir.proofs.KeptLaws.{left_empty, right_empty}
use Rattle.sh_ir.specs.Numbers.{are_distinct}
use Rattle.sh_ir.specs.Regions.{are_disjoint, captured_by, first_occurrences, is_among, outer_uses, outside, own_names}
use Rattle.sh_ir.specs.Scope.{Value, plain_value, value_named}
use Rattle.sh_pieces.specs.Instructions.{is_name, last_place}
use Rattle.sh_pieces.proofs.Names.{place_below, place_push}
use Rattle.sh_sem.specs.Region.{all_names, first_names}
use Rattle.sh_sem.specs.Scalars.{width_of}
use Rattle.sh_iface_linalg.specs.Bodies.{AreDifferent, AreSoundOps, AreTypedAt, IsRegion, IsSoundOp, IsSpelledOp, Region, has_own_type, is_none_of, is_typed_at, scalar_types, width_among, width_used, widths_used}
use Rattle.sh_iface_linalg.specs.BodyCells.{AreScalars, one_width, scalar_is, scalar_same, typing_scalars}
use Rattle.sh_iface_linalg.specs.BodyNames.{somes, somes_joined}
use Rattle.sh_iface_linalg.specs.KindOfBody.{place_holds}
use Rattle.sh_iface_linalg.specs.Rules.{both, type_itself}

-- ---- lists of names

either_among : (a b : Bool) → (a || b) ≡ true → (a ≡ true) ⊎ (b ≡ true)
either_among true b e = inl refl
either_among false b e = inr e

right_too : (a b : Bool) → b ≡ true → (a || b) ≡ true
right_too true b e = refl
right_too false b e = e

among_joined : (xs ys : List ℕ) (x : ℕ) → (is_among xs x ≡ true) ⊎ (is_among ys x ≡ true) → is_among (xs ++ ys) x ≡ true
among_joined [] ys x (inl e) = absurd (cc)
among_joined [] ys x (inr e) = e
among_joined (y ∷ xs) ys x (inl e) = elim (either_among (nat_eq x y) (is_among xs x) e) [ inl a ↦ rw a refl | inr b ↦ right_too (nat_eq x y) (is_among (xs ++ ys) x) (among_joined xs ys x (inl b)) ]
among_joined (y ∷ xs) ys x (inr e) = right_too (nat_eq x y) (is_among (xs ++ ys) x) (among_joined xs ys x (inr e))

-- what passes a test stays among those that do
among_filtered : (test : ℕ → Bool) (xs : List ℕ) (x : ℕ) → is_among xs x ≡ true → test x ≡ true → is_among (filter test xs) x ≡ true
among_filtered test [] x e t = absurd (cc)
among_filtered test (y ∷ xs) x e t =
    elim (cases_Bool (nat_eq x y)) [
      | inl a ↦
          let same : x ≡ y = grind (arith, nat_tests) in
          let passes : test y ≡ true = subst (λ z. test z ≡ true) same t in
          ap (λ (b : Bool). is_among (if b then y ∷ filter test xs else filter test xs) x) passes ∙ ap (λ (b : Bool). b || is_among (filter test xs) x) a
      | inr a ↦
          let rest = among_filtered test xs x (sym (ap (λ (b : Bool). b || is_among xs x) a) ∙ e) t in
          go (test y) rest
    ]
  where
    go : (b : Bool) → is_among (filter test xs) x ≡ true → is_among (if b then y ∷ filter test xs else filter test xs) x ≡ true
    go true rest = right_too (nat_eq x y) (is_among (filter test xs) x) rest
    go false rest = rest

among_once : (xs : List ℕ) (x : ℕ) → is_among xs x ≡ true → is_among (first_occurrences xs) x ≡ true
among_once [] x e = absurd (cc)
among_once (y ∷ xs) x e =
    elim (cases_Bool (nat_eq x y)) [
      | inl a ↦ rw a refl
      | inr a ↦
          let rest = among_once xs x (sym (ap (λ (b : Bool). b || is_among xs x) a) ∙ e) in
          let other : not (nat_eq y x) ≡ true = let f : nat_eq y x ≡ false = grind (arith, nat_tests) in rw f refl in
          right_too (nat_eq x y) (is_among (filter (λ z. not (nat_eq y z)) (first_occurrences xs)) x) (among_filtered (λ z. not (nat_eq y z)) (first_occurrences xs) x rest other)
    ]

among_outside : (own xs : List ℕ) (x : ℕ) → is_among xs x ≡ true → is_among own x ≡ false → is_among (outside own xs) x ≡ true
among_outside own xs x e none = among_filtered (λ name. not (is_among own name)) xs x e (rw none refl)

-- each once
none_filtered : (test : ℕ → Bool) (xs : List ℕ) (x : ℕ) → is_none_of x xs ≡ true → is_none_of x (filter test xs) ≡ true
none_filtered test [] x e = refl
none_filtered test (y ∷ xs) x e =
    elim (cases_Bool (nat_eq x y)) [
      | inl a ↦ let f : false ≡ true = sym (ap (λ (b : Bool). if b then false else is_none_of x xs) a) ∙ e in absurd (cc)
      | inr a ↦ go (test y) a (none_filtered test xs x (sym (ap (λ (b : Bool). if b then false else is_none_of x xs) a) ∙ e))
    ]
  where
    go : (b : Bool) → nat_eq x y ≡ false → is_none_of x (filter test xs) ≡ true → is_none_of x (if b then y ∷ filter test xs else filter test xs) ≡ true
    go true a rest = rw a rest
    go false a rest = rest

none_without : (xs : List ℕ) (x : ℕ) → is_none_of x (filter (λ z. not (nat_eq x z)) xs) ≡ true
none_without [] x = refl
none_without (y ∷ xs) x = go (nat_eq x y) refl (none_without xs x)
  where
    go : (b : Bool) → nat_eq x y ≡ b → is_none_of x (filter (λ z. not (nat_eq x z)) xs) ≡ true → is_none_of x (if not b then y ∷ filter (λ z. not (nat_eq x z)) xs else filter (λ z. not (nat_eq x z)) xs) ≡ true
    go true a rest = rest
    go false a rest = rw a rest

different_filtered : (test : ℕ → Bool) (xs : List ℕ) → AreDifferent xs → AreDifferent (filter test xs)
different_filtered test [] h = tt
different_filtered test (y ∷ xs) h = go (test y) (none_filtered test xs y h.0) (different_filtered test xs h.1)
  where
    go : (b : Bool) → is_none_of y (filter test xs) ≡ true → AreDifferent (filter test xs) → AreDifferent (if b then y ∷ filter test xs else filter test xs)
    go true none rest = (none, rest)
    go false none rest = rest

once_different : (xs : List ℕ) → AreDifferent (first_occurrences xs)
once_different [] = tt
once_different (x ∷ xs) = (none_without (first_occurrences xs) x, different_filtered (λ z. not (nat_eq x z)) (first_occurrences xs) (once_different xs))

not_among : (names : List ℕ) (x : ℕ) → is_among names x ≡ false → is_none_of x names ≡ true
not_among [] x e = refl
not_among (y ∷ names) x e =
    elim (cases_Bool (nat_eq x y)) [
      | inl a ↦ let f : true ≡ false = sym (ap (λ (b : Bool). b || is_among names x) a) ∙ e in absurd (cc)
      | inr a ↦ rw a (not_among names x (sym (ap (λ (b : Bool). b || is_among names x) a) ∙ e))
    ]

none_joined : (xs ys : List ℕ) (x : ℕ) → is_none_of x xs ≡ true → is_none_of x ys ≡ true → is_none_of x (xs ++ ys) ≡ true
none_joined [] ys x a b = b
none_joined (y ∷ xs) ys x a b =
    elim (cases_Bool (nat_eq x y)) [
      | inl t ↦ let f : false ≡ true = sym (ap (λ (c : Bool). if c then false else is_none_of x xs) t) ∙ a in absurd (cc)
      | inr t ↦ rw t (none_joined xs ys x (sym (ap (λ (c : Bool). if c then false else is_none_of x xs) t) ∙ a) b)
    ]

different_joined : (xs ys : List ℕ) → AreDifferent xs → AreDifferent ys → AllByRecursion (λ x. is_none_of x ys ≡ true) xs → AreDifferent (xs ++ ys)
different_joined [] ys a b apart = b
different_joined (x ∷ xs) ys a b apart = (none_joined xs ys x a.0 apart.0, different_joined xs ys a.1 b apart.1)

distinct_different : (xs : List ℕ) → are_distinct xs ≡ true → AreDifferent xs
distinct_different [] e = tt
distinct_different (x ∷ xs) e = let parts = both (not (is_among xs x)) (are_distinct xs) e in (not_among xs x (is_not (is_among xs x) parts.0), distinct_different xs parts.1)
  where
    is_not : (b : Bool) → not b ≡ true → b ≡ false
    is_not true e = absurd (cc)
    is_not false e = refl

apart_all : (xs ys : List ℕ) → are_disjoint xs ys ≡ true → AllByRecursion (λ x. is_none_of x ys ≡ true) xs
apart_all [] ys e = tt
apart_all (x ∷ xs) ys e = let parts = both (not (is_among ys x)) (are_disjoint xs ys) e in (not_among ys x (is_not (is_among ys x) parts.0), apart_all xs ys parts.1)
  where
    is_not : (b : Bool) → not b ≡ true → b ≡ false
    is_not true e = absurd (cc)
    is_not false e = refl

-- ---- what stands at places

record StandsAt (names : List (Option ℕ)) (types : List ValueType) (x : ℕ) (t : ValueType) : Type 0 where
  place : ℕ
  at : last_place names x ≡ Some place
  there : slice_get types place ≡ Some t

typed_at : (names : List (Option ℕ)) (types : List ValueType) (x : ℕ) (u t : ValueType) → StandsAt names types x u → same_type u t ≡ true → is_typed_at types names t x ≡ true
typed_at names types x u t h same =
    ap (λ o. option_map_or (λ v. same_type v t) (option_and_then (slice_get types) o) false) h.at ∙ ap (λ o. option_map_or (λ v. same_type v t) o false) h.there ∙ same

got_before : {X : Type 0} (xs : List X) (y : X) (k : ℕ) → k < length xs → slice_get (xs ++ y ∷ []) k ≡ slice_get xs k
got_before [] y k lt = absurd (omega arith)
got_before (x ∷ xs) y zero lt = refl
got_before (x ∷ xs) y (suc k) lt = got_before xs y k (omega (arith, lt))

got_end : {X : Type 0} (xs : List X) (y : X) → slice_get (xs ++ y ∷ []) (length xs) ≡ Some y
got_end [] y = refl
got_end (x ∷ xs) y = got_end xs y

-- one name more
stands_before : (names : List (Option ℕ)) (types : List ValueType) (d x : ℕ) (t u : ValueType) → length names ≡ length types → nat_eq d x ≡ false → StandsAt names types x u → StandsAt (names ++ Some d ∷ []) (types ++ t ∷ []) x u
stands_before names types d x t u long other h = record {
  place = h.place;
  at = place_push names (Some d) x ∙ ap (λ (b : Bool). if b then Some (length names) else last_place names x) other ∙ h.at;
  there = (let lt = place_below names x h.place h.at in got_before types t h.place (omega (arith, lt, long))) ∙ h.there;
}

stands_new : (names : List (Option ℕ)) (types : List ValueType) (d x : ℕ) (t : ValueType) → length names ≡ length types → nat_eq d x ≡ true → StandsAt (names ++ Some d ∷ []) (types ++ t ∷ []) x t
stands_new names types d x t long same = record {
  place = length names;
  at = place_push names (Some d) x ∙ ap (λ (b : Bool). if b then Some (length names) else last_place names x) same;
  there = ap (slice_get (types ++ t ∷ [])) long ∙ got_end types t;
}

-- ---- names that a region uses of its function

filtered_passes : (test : ℕ → Bool) (xs : List ℕ) (x : ℕ) → is_among (filter test xs) x ≡ true → (is_among xs x ≡ true) × (test x ≡ true)
filtered_passes test [] x e = absurd (cc)
filtered_passes test (y ∷ xs) x e = go (test y) refl (filtered_passes test xs x) e
  where
    go : (b : Bool) → test y ≡ b → (is_among (filter test xs) x ≡ true → (is_among xs x ≡ true) × (test x ≡ true)) → is_among (if b then y ∷ filter test xs else filter test xs) x ≡ true → (is_among (y ∷ xs) x ≡ true) × (test x ≡ true)
    go true passes more e =
        elim (cases_Bool (nat_eq x y)) [
          | inl a ↦ let same : x ≡ y = grind (arith, nat_tests) in (rw a refl, subst (λ z. test z ≡ true) (sym same) passes)
          | inr a ↦
              let rest = more (sym (ap (λ (b : Bool). b || is_among (filter test xs) x) a) ∙ e) in
              (right_too (nat_eq x y) (is_among xs x) rest.0, rest.1)
        ]
    go false passes more e = let rest = more e in (right_too (nat_eq x y) (is_among xs x) rest.0, rest.1)

among_either : (xs ys : List ℕ) (x : ℕ) → is_among (xs ++ ys) x ≡ true → (is_among xs x ≡ true) ⊎ (is_among ys x ≡ true)
among_either [] ys x e = inr e
among_either (y ∷ xs) ys x e =
    elim (either_among (nat_eq x y) (is_among (xs ++ ys) x) e) [
      | inl a ↦ inl (rw a refl)
      | inr b ↦ elim (among_either xs ys x b) [ inl c ↦ inl (right_too (nat_eq x y) (is_among xs x) c) | inr c ↦ inr c ]
    ]

is_not_true : (b : Bool) → not b ≡ true → b ≡ false
is_not_true true e = absurd (cc)
is_not_true false e = refl

outer_not_own : (names : List ℕ) (ops : List BodyOp) (yields x : ℕ) → is_among (outer_uses names ops yields) x ≡ true → is_among names x ≡ false
outer_not_own names [] yields x e = is_not_true _ (filtered_passes (λ name. not (is_among names name)) (yields ∷ []) x e).1
outer_not_own names (op ∷ ops) yields x e =
    elim (among_either (outside names op.operands) (outer_uses (op.defines ∷ names) ops yields) x e) [
      | inl a ↦ is_not_true _ (filtered_passes (λ name. not (is_among names name)) op.operands x a).1
      | inr b ↦ behind (nat_eq x op.defines) (outer_not_own (op.defines ∷ names) ops yields x b)
    ]
  where
    behind : (b : Bool) → (b || is_among names x) ≡ false → is_among names x ≡ false
    behind true e = absurd (cc)
    behind false e = e

-- ---- one operation

passes : (b : Bool) (r : Refusal) → (if b then [] else r ∷ []) ≡ [] → b ≡ true
passes true r e = refl
passes false r e = absurd (cc)

arity : (kind : BodyKind) (operands : List ℕ) (result : ValueType) → OperandsFit (written_in_body kind) operands → length operands ≡ length (body_typing kind result)
unfolding body_typing
arity (Constant x) operands result h = omega (arith, h)
arity (Binary op) operands result h = omega (arith, h)
arity (Compare x) operands result h = omega (arith, h)
arity (Select x) operands result h = omega (arith, h)
arity (Cast x) operands result h = omega (arith, h)
arity (Index x) operands result h = omega (arith, h)
arity IndexCast operands result h = omega (arith, h)

own_type : (kind : BodyKind) (result : ValueType) → ResultFits (written_in_body kind).result result → has_own_type kind result ≡ true
own_type (Constant x) result h = subst (λ t. same_type result t ≡ true) h (type_itself result)
own_type (Binary op) result h = refl
own_type (Compare x) result h = subst (λ t. same_type result t ≡ true) h (type_itself result)
own_type (Select x) result h = refl
own_type (Cast x) result h = refl
own_type (Index x) result h = refl
own_type IndexCast result h = refl

without_loops : (kind : BodyKind) (loops : ℕ) → is_on_index kind ≡ false → body_number_fits loops kind ≡ true → body_number_fits 0 kind ≡ true
unfolding body_number_fits
without_loops (Constant x) loops free h = h
without_loops (Binary op) loops free h = refl
without_loops (Compare x) loops free h = refl
without_loops (Select x) loops free h = refl
without_loops (Cast x) loops free h = refl
without_loops (Index x) loops free h = absurd (cc)
without_loops IndexCast loops free h = refl

less_fresh : (d : ℕ) (names ds : List ℕ) → AllByRecursion (λ e. is_among (d ∷ names) e ≡ false) ds → AllByRecursion (λ e. is_among names e ≡ false) ds
less_fresh d names [] h = tt
less_fresh d names (e ∷ ds) h = (behind (nat_eq e d) (is_among names e) h.0, less_fresh d names ds h.1)
  where
    behind : (a b : Bool) → (a || b) ≡ false → b ≡ false
    behind true b h = absurd (cc)
    behind false b h = h

first_different : (d : ℕ) (names ds : List ℕ) → AllByRecursion (λ e. is_among (d ∷ names) e ≡ false) ds → is_none_of d ds ≡ true
first_different d names [] h = refl
first_different d names (e ∷ ds) h =
    let other : nat_eq e d ≡ false = front (nat_eq e d) (is_among names e) h.0 in
    let test : nat_eq d e ≡ false = grind (arith, nat_tests) in
    rw test (first_different d names ds h.1)
  where
    front : (a b : Bool) → (a || b) ≡ false → a ≡ false
    front true b h = absurd (cc)
    front false b h = refl

args_apart : (args ds : List ℕ) → AllByRecursion (λ d. is_among args d ≡ false) ds → AllByRecursion (λ a. is_none_of a ds ≡ true) args
args_apart [] ds h = tt
args_apart (a ∷ args) ds h = (first_different a args ds h, args_apart args ds (less_fresh a args ds h))

module _ (outer : List Value) where
  abbrev OwnAre : List Value → List ℕ → Type 0
  OwnAre own names = (x : ℕ) → is_some (value_named own x) ≡ is_among names x

  none_of_own : (own : List Value) (names : List ℕ) (x : ℕ) → OwnAre own names → is_among names x ≡ false → value_named own x ≡ None
  none_of_own own names x are e = go (value_named own x) (are x ∙ e)
    where
      go : (o : Option Value) → is_some o ≡ false → o ≡ None
      go None h = refl
      go (Some v) h = absurd (cc)

  -- a name that isn't the region's own stands for the function's value
  outer_type : (own : List Value) (x : ℕ) (v : Value) (t : ValueType) → value_named outer x ≡ Some v → value_named own x ≡ None → stands_for outer own t x ≡ true → same_type v.value_type t ≡ true
  outer_type own x v t at none stands =
      let first : is_outer_of outer t x ≡ true = subst (λ o. option_map_or (λ v. same_type v.value_type t) o (is_outer_of outer t x) ≡ true) none stands in
      (both v.is_constant (same_type v.value_type t) (subst (λ o. option_map_or (λ v. v.is_constant && same_type v.value_type t) o true ≡ true) at first)).1

  outer_width : (own : List Value) (x : ℕ) (v : Value) (t : ValueType) → is_scalar t ≡ true → value_named outer x ≡ Some v → value_named own x ≡ None → stands_for outer own t x ≡ true → v.value_type ≡ t
  outer_width own x v t scalar at none stands =
      let is = scalar_is t scalar in
      scalar_same v.value_type (width_of t) (subst (λ u. same_type v.value_type u ≡ true) is (outer_type own x v t at none stands)) ∙ sym is

  among_is : (own : List Value) (x : ℕ) (v : Value) (ts : List ValueType) (ns : List ℕ) (u : Width) → value_named outer x ≡ Some v → value_named own x ≡ None → AreScalars ts → stand_for outer own ts ns ≡ true → width_among x ts ns ≡ Some u
      → u ≡ width_of v.value_type
  among_is own x v [] ns u at none scalars stand e = absurd (cc)
  among_is own x v (t ∷ ts) [] u at none scalars stand e = absurd (cc)
  among_is own x v (t ∷ ts) (n ∷ ns) u at none scalars stand e =
      let parts = both (stands_for outer own t n) (stand_for outer own ts ns) stand in
      elim (cases_Bool (nat_eq n x)) [
        | inl a ↦
            let same : n ≡ x = grind (arith, nat_tests) in
            let here = outer_width own x v t scalars.0 at none (subst (λ m. stands_for outer own t m ≡ true) same parts.0) in
            sym (same_Some (width_of t) u (sym (ap (λ (b : Bool). if b then Some (width_of t) else width_among x ts ns) a) ∙ e)) ∙ ap width_of (sym here)
        | inr a ↦ among_is own x v ts ns u at none scalars.1 parts.1 (sym (ap (λ (b : Bool). if b then Some (width_of t) else width_among x ts ns) a) ∙ e)
      ]

  not_there : (x : ℕ) (ts : List ValueType) (ns : List ℕ) → length ns ≡ length ts → width_among x ts ns ≡ None → is_among ns x ≡ false
  not_there x [] [] long e = refl
  not_there x [] (n ∷ ns) long e = absurd (omega (arith, long))
  not_there x (t ∷ ts) [] long e = absurd (omega (arith, long))
  not_there x (t ∷ ts) (n ∷ ns) long e =
      elim (cases_Bool (nat_eq n x)) [
        | inl a ↦ let f : Some (width_of t) ≡ None = sym (ap (λ (b : Bool). if b then Some (width_of t) else width_among x ts ns) a) ∙ e in absurd (cc)
        | inr a ↦
            let rest = not_there x ts ns (omega (arith, long)) (sym (ap (λ (b : Bool). if b then Some (width_of t) else width_among x ts ns) a) ∙ e) in
            let other : nat_eq x n ≡ false = grind (arith, nat_tests) in
            rw other rest
      ]

  own_more : (own : List Value) (names : List ℕ) (d : ℕ) (t : ValueType) → OwnAre own names → OwnAre (plain_value d t ∷ own) (d ∷ names)
  own_more own names d t are x =
      elim (cases_Bool (nat_eq d x)) [
        | inl a ↦ let b : nat_eq x d ≡ true = grind (arith, nat_tests) in rw (a, b) refl
        | inr a ↦ let b : nat_eq x d ≡ false = grind (arith, nat_tests) in rw (a, b) (are x)
      ]

  abbrev AreCounted : List BodyOp → Type 0
  AreCounted ops = AllByRecursion (λ (op : BodyOp). (length op.operands ≡ length (body_typing op.kind op.result)) × AreScalars (body_typing op.kind op.result)) ops

  -- the width at which a name is used first is that of the function's value
  width_is : (own : List Value) (names : List ℕ) (ops : List BodyOp) (yields : ℕ) (w : Width) (x : ℕ) (v : Value) → value_named outer x ≡ Some v → is_among (outer_uses names ops yields) x ≡ true → OwnAre own names
      → are_typed outer own ops yields w ≡ true → AreCounted ops → width_used x ops w ≡ width_of v.value_type
  width_is own names [] yields w x v at among are typed counted =
      let here = filtered_passes (λ name. not (is_among names name)) (yields ∷ []) x among in
      let none = none_of_own own names x are (is_not_true _ here.1) in
      let same : x ≡ yields = let t : nat_eq x yields ≡ true = only (nat_eq x yields) here.0 in grind (arith, nat_tests) in
      sym (ap width_of (outer_width own x v (Scalar w) refl at none (subst (λ n. stands_for outer own (Scalar w) n ≡ true) (sym same) typed)))
    where
      only : (b : Bool) → (b || false) ≡ true → b ≡ true
      only true e = refl
      only false e = absurd (cc)
  width_is own names (op ∷ ops) yields w x v at among are typed counted =
      let parts = both (is_typed outer own op) (are_typed outer (own_after own op) ops yields w) typed in
      let stand = (both (is_scalar_op op.kind op.result) (stand_for outer own (body_typing op.kind op.result) op.operands) parts.0).1 in
      let none = none_of_own own names x are (outer_not_own names (op ∷ ops) yields x among) in
      go (width_among x (body_typing op.kind op.result) op.operands) refl (λ u e. among_is own x v (body_typing op.kind op.result) op.operands u at none counted.0.1 stand e)
      (λ e.
      let unused = not_there x (body_typing op.kind op.result) op.operands counted.0.0 e in
      elim (among_either (outside names op.operands) (outer_uses (op.defines ∷ names) ops yields) x among) [
        | inl a ↦ let f : true ≡ false = sym (filtered_passes (λ name. not (is_among names name)) op.operands x a).0 ∙ unused in absurd (cc)
        | inr b ↦ width_is (own_after own op) (op.defines ∷ names) ops yields w x v at b (own_more own names op.defines op.result are) parts.1 counted.1
      ])
    where
      go : (o : Option Width) → width_among x (body_typing op.kind op.result) op.operands ≡ o → ((u : Width) → width_among x (body_typing op.kind op.result) op.operands ≡ Some u → u ≡ width_of v.value_type)
          → (width_among x (body_typing op.kind op.result) op.operands ≡ None → width_used x ops w ≡ width_of v.value_type) → unwrap_or o (width_used x ops w) ≡ width_of v.value_type
      go None e first rest = rest e
      go (Some u) e first rest = first u e

  -- ---- what is known along the operations

  module _ (C : List ℕ) (W : ℕ → Width) (fits : (x : ℕ) (v : Value) → is_among C x ≡ true → value_named outer x ≡ Some v → W x ≡ width_of v.value_type) where
    record Along (own : List Value) (names : List ℕ) (places : List (Option ℕ)) (types : List ValueType) : Type 0 where
      own_are : OwnAre own names
      long : length places ≡ length types
      own_stand : (x : ℕ) (v : Value) → value_named own x ≡ Some v → StandsAt places types x v.value_type
      captured_stand : (x : ℕ) → is_among C x ≡ true → value_named own x ≡ None → StandsAt places types x (Scalar (W x))

    along_push : (own : List Value) (names : List ℕ) (places : List (Option ℕ)) (types : List ValueType) (d : ℕ) (t : ValueType) → Along own names places types → Along (plain_value d t ∷ own) (d ∷ names) (places ++ Some d ∷ []) (types ++ t ∷ [])
    along_push own names places types d t a = record {
      own_are = own_more own names d t a.own_are;
      long = let n = length-append places (Some d ∷ []) in let m = length-append types (t ∷ []) in let l = a.long in omega (arith, n, m, l);
      own_stand = λ x v e. own_now x v (nat_eq d x) refl e;
      captured_stand = λ x c e. captured_now x c (nat_eq d x) refl e;
    }
      where
        own_now : (x : ℕ) (v : Value) (b : Bool) → nat_eq d x ≡ b → (if b then Some (plain_value d t) else value_named own x) ≡ Some v → StandsAt (places ++ Some d ∷ []) (types ++ t ∷ []) x v.value_type
        own_now x v true b e = subst (λ (u : Value). StandsAt (places ++ Some d ∷ []) (types ++ t ∷ []) x u.value_type) (same_Some (plain_value d t) v e) (stands_new places types d x t a.long b)
        own_now x v false b e = stands_before places types d x t v.value_type a.long b (a.own_stand x v e)

        captured_now : (x : ℕ) → is_among C x ≡ true → (b : Bool) → nat_eq d x ≡ b → (if b then Some (plain_value d t) else value_named own x) ≡ None → StandsAt (places ++ Some d ∷ []) (types ++ t ∷ []) x (Scalar (W x))
        captured_now x c true b e = absurd (cc)
        captured_now x c false b e = stands_before places types d x t (Scalar (W x)) a.long b (a.captured_stand x c e)

    -- an operand of a scalar type
    operand_typed : (own : List Value) (names : List ℕ) (places : List (Option ℕ)) (types : List ValueType) (t : ValueType) (n : ℕ) → Along own names places types → is_scalar t ≡ true → stands_for outer own t n ≡ true → is_there outer own n ≡ true
        → (is_among names n ≡ false → is_among C n ≡ true) → is_typed_at types places t n ≡ true
    operand_typed own names places types t n a scalar stands there member = go (value_named own n) refl
      where
        free : (v : Value) → value_named own n ≡ None → value_named outer n ≡ Some v → is_typed_at types places t n ≡ true
        free v none at =
            let c = member (sym (a.own_are n) ∙ ap (λ (o : Option Value). is_some o) none) in
            let width = fits n v c at in
            let is = outer_width own n v t scalar at none stands in
            let same : Scalar (W n) ≡ t = ap (λ u. Scalar u) (width ∙ ap width_of is) ∙ sym (scalar_is t scalar) in
            typed_at places types n (Scalar (W n)) t (a.captured_stand n c none) (subst (λ u. same_type u t ≡ true) (sym same) (type_itself t))

        outer_or_not : (o : Option Value) → value_named outer n ≡ o → value_named own n ≡ None → is_typed_at types places t n ≡ true
        outer_or_not None e none =
            let f : (is_some (value_named own n) || is_some (value_named outer n)) ≡ false = rw (none, e) refl in
            let g : true ≡ false = sym there ∙ f in absurd (cc)
        outer_or_not (Some v) e none = free v none e

        go : (o : Option Value) → value_named own n ≡ o → is_typed_at types places t n ≡ true
        go None e = outer_or_not (value_named outer n) refl e
        go (Some v) e =
            typed_at places types n v.value_type t (a.own_stand n v e) (subst (λ o. option_map_or (λ v. same_type v.value_type t) o (is_outer_of outer t n) ≡ true) e stands)

    operands_typed : (own : List Value) (names : List ℕ) (places : List (Option ℕ)) (types ts : List ValueType) (ns : List ℕ) → Along own names places types → AreScalars ts → length ns ≡ length ts → stand_for outer own ts ns ≡ true → list_all (is_there outer own) ns ≡ true
        → ((x : ℕ) → is_among ns x ≡ true → is_among names x ≡ false → is_among C x ≡ true) → AreTypedAt types places ts ns
    operands_typed own names places types [] [] a scalars long stand there member = tt
    operands_typed own names places types [] (n ∷ ns) a scalars long stand there member = absurd (omega (arith, long))
    operands_typed own names places types (t ∷ ts) [] a scalars long stand there member = absurd (omega (arith, long))
    operands_typed own names places types (t ∷ ts) (n ∷ ns) a scalars long stand there member =
        let s = both (stands_for outer own t n) (stand_for outer own ts ns) stand in
        let h = both (is_there outer own n) (list_all (is_there outer own) ns) there in (
          operand_typed own names places types t n a scalars.0 s.0 h.0 (λ e. member n (let own_test : nat_eq n n ≡ true = grind (arith, nat_tests) in rw own_test refl) e),
          operands_typed own names places types ts ns a scalars.1 (omega (arith, long)) s.1 h.1 (λ x e none. member x (right_too (nat_eq x n) (is_among ns x) e) none),
        )

    -- from these operations on
    record SoundFrom (names : List ℕ) (places : List (Option ℕ)) (types : List ValueType) (ops : List BodyOp) (yields : ℕ) (w : Width) : Type 0 where
      ops_sound : AreSoundOps types places ops
      yields_typed : is_typed_at (types ++ map (λ op. op.result) ops) (places ++ map (λ op. Some op.defines) ops) (Scalar w) yields ≡ true
      fresh : AllByRecursion (λ d. is_among names d ≡ false) (map (λ (op : BodyOp). op.defines) ops)
      different : AreDifferent (map (λ (op : BodyOp). op.defines) ops)

    module _ (loops : ℕ) (body : Body) where
      abbrev Faultless : List Value → List BodyOp → Type 0
      Faultless own ops = (rule : Rule) → body_faults (rule ∷ []) loops outer own ops body ≡ []

      here_kept : (own : List Value) (op : BodyOp) (ops : List BodyOp) → Faultless own (op ∷ ops) → (rule : Rule) → keeps_in_region rule loops outer own op ≡ true
      here_kept own op ops f rule = passes (keeps_in_region rule loops outer own op) (refusal_at op.place rule) (left_empty _ _ (f rule))

      rest_kept : (own : List Value) (op : BodyOp) (ops : List BodyOp) → Faultless own (op ∷ ops) → Faultless (own_after own op) ops
      rest_kept own op ops f rule = right_empty (faults_at op.place (rule ∷ []) (λ rule. keeps_in_region rule loops outer own op)) _ (f rule)

      sound_op : (own : List Value) (names : List ℕ) (places : List (Option ℕ)) (types : List ValueType) (op : BodyOp) → Along own names places types → ((rule : Rule) → keeps_in_region rule loops outer own op ≡ true) → is_typed outer own op ≡ true
          → IsSpelledOp op → is_on_index op.kind ≡ false → ((x : ℕ) → is_among op.operands x ≡ true → is_among names x ≡ false → is_among C x ≡ true) → IsSoundOp types places op
      unfolding keeps_in_region
      sound_op own names places types op a kept typed spelled free member =
          let parts = both (is_scalar_op op.kind op.result) (stand_for outer own (body_typing op.kind op.result) op.operands) typed in
          record {
            scalar = parts.0;
            operands = operands_typed own names places types (body_typing op.kind op.result) op.operands a (typing_scalars op.kind op.result parts.0 free) (arity op.kind op.operands op.result spelled.counted) parts.1 (kept V1) member;
            own = own_type op.kind op.result spelled.result;
            held = spelled.held;
            sound = without_loops op.kind loops free (kept V5);
            free = free;
            dims = kept L2;
            cells = kept L4;
          }

      defines_fresh : (own : List Value) (names : List ℕ) (op : BodyOp) → OwnAre own names → keeps_in_region V2 loops outer own op ≡ true → is_among names op.defines ≡ false
      unfolding keeps_in_region
      defines_fresh own names op are kept = sym (are op.defines) ∙ is_not_true _ kept

      yield_there : (own : List Value) → Faultless own [] → is_there outer own body.yields ≡ true
      unfolding keeps_at_yield
      yield_there own f = passes (keeps_at_yield V1 outer own body.yields) (refusal_at body.place V1) (f V1)

      sound_from : (own : List Value) (names : List ℕ) (places : List (Option ℕ)) (types : List ValueType) (ops : List BodyOp) (w : Width) → Along own names places types → Faultless own ops → are_typed outer own ops body.yields w ≡ true
          → AllByRecursion IsSpelledOp ops → AllByRecursion (λ (op : BodyOp). is_on_index op.kind ≡ false) ops → ((x : ℕ) → is_among (outer_uses names ops body.yields) x ≡ true → is_among C x ≡ true) → SoundFrom names places types ops body.yields w
      sound_from own names places types [] w a f typed spelled free member = record {
        ops_sound = tt;
        yields_typed =
            subst (λ ts. is_typed_at ts (places ++ []) (Scalar w) body.yields ≡ true) (sym (append-nil types))
            (subst (λ ns. is_typed_at types ns (Scalar w) body.yields ≡ true) (sym (append-nil places))
            (operand_typed own names places types (Scalar w) body.yields a refl typed (yield_there own f)
            (λ none. member body.yields (among_outside names (body.yields ∷ []) body.yields (let own_test : nat_eq body.yields body.yields ≡ true = grind (arith, nat_tests) in rw own_test refl) none))));
        fresh = tt;
        different = tt;
      }
      sound_from own names places types (op ∷ ops) w a f typed spelled free member =
          let parts = both (is_typed outer own op) (are_typed outer (own_after own op) ops body.yields w) typed in
          let kept = here_kept own op ops f in
          let rest = sound_from (own_after own op) (op.defines ∷ names) (places ++ Some op.defines ∷ []) (types ++ op.result ∷ []) ops w (along_push own names places types op.defines op.result a) (rest_kept own op ops f) parts.1 spelled.1 free.1
          (λ x e. member x (among_joined (outside names op.operands) (outer_uses (op.defines ∷ names) ops body.yields) x (inr e))) in
          record {
            ops_sound = (
              sound_op own names places types op a kept parts.0 spelled.0 free.0 (λ x e none. member x (among_joined (outside names op.operands) (outer_uses (op.defines ∷ names) ops body.yields) x (inl (among_outside names op.operands x e none)))),
              rest.ops_sound,
            );
            yields_typed =
                subst (λ ts. is_typed_at ts (places ++ map (λ op. Some op.defines) (op ∷ ops)) (Scalar w) body.yields ≡ true) (append_assoc types (op.result ∷ []) (map (λ op. op.result) ops))
                (subst (λ ns. is_typed_at ((types ++ op.result ∷ []) ++ map (λ op. op.result) ops) ns (Scalar w) body.yields ≡ true) (append_assoc places (Some op.defines ∷ []) (map (λ op. Some op.defines) ops)) rest.yields_typed);
            fresh = (defines_fresh own names op a.own_are (kept V2), less_fresh op.defines names (map (λ (op : BodyOp). op.defines) ops) rest.fresh);
            different = (first_different op.defines names (map (λ (op : BodyOp). op.defines) ops) rest.fresh, rest.different);
          }

-- ---- the whole region

module _ (outer : List Value) (loops : ℕ) (body : Body) where
  abbrev C : List ℕ
  C = captured_by body

  abbrev W : ℕ → Width
  W x = width_used x body.ops body.width

  abbrev pub region_of : Region
  region_of = record { captured = captured_by body; body = body }

  block_are : (own : List Value) (names args : List ℕ) (widths : List Width) → OwnAre outer own names → length args ≡ length widths → (x : ℕ) → is_some (value_named (with_block own args widths) x) ≡ (is_among args x || is_among names x)
  block_are own names [] [] are long x = are x
  block_are own names [] (w ∷ widths) are long x = absurd (omega (arith, long))
  block_are own names (n ∷ args) [] are long x = absurd (omega (arith, long))
  block_are own names (n ∷ args) (w ∷ widths) are long x =
      block_are (plain_value n (Scalar w) ∷ own) (n ∷ names) args widths (own_more outer own names n (Scalar w) are) (omega (arith, long)) x ∙ turned (is_among args x) (nat_eq x n) (is_among names x)
    where
      turned : (a b c : Bool) → (a || (b || c)) ≡ ((b || a) || c)
      turned true true c = refl
      turned true false c = refl
      turned false true c = refl
      turned false false c = refl

  captured_at : (captured : List ℕ) (x : ℕ) → is_among captured x ≡ true → StandsAt (somes captured) (scalar_types (map W captured)) x (Scalar (W x))
  captured_at captured x e = go (last_place (somes captured) x) refl
    where
      there : (names : List ℕ) (k : ℕ) → slice_get (somes names) k ≡ Some (Some x) → slice_get (scalar_types (map W names)) k ≡ Some (Scalar (W x))
      there [] k e = absurd (cc)
      there (n ∷ names) zero e = ap (λ m. Some (Scalar (W m))) (same_Some n x (same_Some (Some n) (Some x) e))
      there (n ∷ names) (suc k) e = there names k e

      placed : (names : List ℕ) → is_among names x ≡ true → last_place (somes names) x ≡ None → ⊥
      placed [] e none = absurd (cc)
      placed (n ∷ names) e none = found (last_place (somes names) x) (placed names) (nat_eq x n) refl e none
        where
          found : (o : Option ℕ) → (is_among names x ≡ true → o ≡ None → ⊥) → (b : Bool) → nat_eq x n ≡ b → (b || is_among names x) ≡ true → option_or (option_map (λ k. suc k) o) (if is_name (Some n) x then Some 0 else None) ≡ None → ⊥
          found (Some k) more b t e none = absurd (cc)
          found None more true t e none =
              let own : is_name (Some n) x ≡ true = grind (arith, nat_tests) in
              let f : true ≡ false = ap (λ (o : Option ℕ). is_some o) (sym (ap (λ (b : Bool). if b then Some 0 else None) own) ∙ none) in absurd (cc)
          found None more false t e none = more e refl

      go : (o : Option ℕ) → last_place (somes captured) x ≡ o → StandsAt (somes captured) (scalar_types (map W captured)) x (Scalar (W x))
      go None at = absurd (placed captured e at)
      go (Some k) at = record { place = k; at = at; there = there captured k (place_holds (somes captured) x k at) }

  module _ (fits : (x : ℕ) (v : Value) → is_among C x ≡ true → value_named outer x ≡ Some v → W x ≡ width_of v.value_type) where
    record AlongSome (own : List Value) (places : List (Option ℕ)) (types : List ValueType) : Type 0 where
      names : List ℕ
      along : Along outer C W fits own names places types

    along_block : (own : List Value) (names : List ℕ) (places : List (Option ℕ)) (types : List ValueType) (args : List ℕ) (widths : List Width) → length args ≡ length widths → Along outer C W fits own names places types
        → AlongSome (with_block own args widths) (places ++ somes args) (types ++ scalar_types widths)
    along_block own names places types [] [] long a = record { names = names; along = subst (λ ns. Along outer C W fits own names ns (types ++ [])) (sym (append-nil places)) (subst (λ ts. Along outer C W fits own names places ts) (sym (append-nil types)) a) }
    along_block own names places types [] (w ∷ widths) long a = absurd (omega (arith, long))
    along_block own names places types (n ∷ args) [] long a = absurd (omega (arith, long))
    along_block own names places types (n ∷ args) (w ∷ widths) long a =
        let rest = along_block (plain_value n (Scalar w) ∷ own) (n ∷ names) (places ++ Some n ∷ []) (types ++ Scalar w ∷ []) args widths (omega (arith, long)) (along_push outer C W fits own names places types n (Scalar w) a) in
        subst (λ ts. AlongSome (with_block own (n ∷ args) (w ∷ widths)) (places ++ somes (n ∷ args)) ts) (append_assoc types (Scalar w ∷ []) (scalar_types widths))
        (subst (λ ns. AlongSome (with_block own (n ∷ args) (w ∷ widths)) ns ((types ++ Scalar w ∷ []) ++ scalar_types widths)) (append_assoc places (Some n ∷ []) (somes args)) rest)

    along_start : Along outer C W fits [] [] (somes C) (scalar_types (map W C))
    along_start = record {
      own_are = λ x. refl;
      long = length-map C (λ n. Some n) ∙ sym (length-map (map W C) (λ w. Scalar w) ∙ length-map C W);
      own_stand = λ x v e. absurd (cc);
      captured_stand = λ x e none. captured_at C x e;
    }

    along_first : length body.args ≡ length body.widths → Along outer C W fits (block_of body) body.args (somes C ++ somes body.args) (scalar_types (map W C) ++ scalar_types body.widths)
    along_first long =
        let some = along_block [] [] (somes C) (scalar_types (map W C)) body.args body.widths long along_start in
        record {
          own_are = λ x. block_are [] [] body.args body.widths (λ y. refl) long x ∙ or_false (is_among body.args x);
          long = some.along.long;
          own_stand = some.along.own_stand;
          captured_stand = some.along.captured_stand;
        }
      where
        or_false : (b : Bool) → (b || false) ≡ b
        or_false true = refl
        or_false false = refl

-- ---- widths

block_widths : (widths : List Width) (types : List ValueType) → AllByRecursion (λ t. cell_bits t ≡ bits_of (width_of t)) types → pointwise (λ w t. nat_eq (bits_of w) (cell_bits t)) widths types ≡ true → widths ≡ map width_of types
block_widths [] [] cells h = refl
block_widths [] (t ∷ types) cells h = absurd (cc)
block_widths (w ∷ widths) [] cells h = absurd (cc)
block_widths (w ∷ widths) (t ∷ types) cells h =
    let parts = both (nat_eq (bits_of w) (cell_bits t)) (pointwise (λ w t. nat_eq (bits_of w) (cell_bits t)) widths types) h in
    ap₂ ◌∷◌ (one_width w (width_of t) (subst (λ n. nat_eq (bits_of w) n ≡ true) cells.0 parts.0)) (block_widths widths types cells.1 parts.1)

last_bits_is : (types : List ValueType) (t : ValueType) → last_bits (types ++ t ∷ []) ≡ cell_bits t
last_bits_is [] t = refl
last_bits_is (u ∷ []) t = refl
last_bits_is (u ∷ v ∷ types) t = last_bits_is (v ∷ types) t

mapped_both : (xs : List ValueType) (t : ValueType) → map width_of (xs ++ t ∷ []) ≡ map width_of xs ++ width_of t ∷ []
mapped_both [] t = refl
mapped_both (x ∷ xs) t = ap (λ ws. width_of x ∷ ws) (mapped_both xs t)

all_free : (ops : List BodyOp) → list_all (λ (op : BodyOp). not (is_on_index op.kind)) ops ≡ true → AllByRecursion (λ (op : BodyOp). is_on_index op.kind ≡ false) ops
all_free [] h = tt
all_free (op ∷ ops) h = let parts = both (not (is_on_index op.kind)) (list_all (λ (op : BodyOp). not (is_on_index op.kind)) ops) h in (is_not_true (is_on_index op.kind) parts.0, all_free ops parts.1)

types_both : (xs ys : List Width) → scalar_types (xs ++ ys) ≡ scalar_types xs ++ scalar_types ys
types_both [] ys = refl
types_both (x ∷ xs) ys = ap (λ ts. Scalar x ∷ ts) (types_both xs ys)

all_counted : (outer own : List Value) (ops : List BodyOp) (yields : ℕ) (w : Width) → are_typed outer own ops yields w ≡ true → AllByRecursion IsSpelledOp ops → AllByRecursion (λ (op : BodyOp). is_on_index op.kind ≡ false) ops → AreCounted outer ops
all_counted outer own [] yields w typed spelled free = tt
all_counted outer own (op ∷ ops) yields w typed spelled free =
    let parts = both (is_typed outer own op) (are_typed outer (own_after own op) ops yields w) typed in
    let scalar = (both (is_scalar_op op.kind op.result) (stand_for outer own (body_typing op.kind op.result) op.operands) parts.0).0 in
    ((arity op.kind op.operands op.result spelled.0.counted, typing_scalars op.kind op.result scalar free.0), all_counted outer (own_after own op) ops yields w parts.1 spelled.1 free.1)

-- what is among those that stand once is among all
once_among : (xs : List ℕ) (x : ℕ) → is_among (first_occurrences xs) x ≡ true → is_among xs x ≡ true
once_among [] x e = absurd (cc)
once_among (y ∷ xs) x e =
    elim (either_among (nat_eq x y) (is_among (filter (λ z. not (nat_eq y z)) (first_occurrences xs)) x) e) [
      | inl a ↦ rw a refl
      | inr b ↦ right_too (nat_eq x y) (is_among xs x) (once_among xs x (filtered_passes (λ z. not (nat_eq y z)) (first_occurrences xs) x b).0)
    ]

-- By the rules that the operation keeps its region is in order.
pub region_read : (outer : List Value) (loops : ℕ) (body : Body) (ts : List ValueType) (t : ValueType) → region_fits outer (ts ++ t ∷ []) body ≡ true → ((rule : Rule) → body_faults (rule ∷ []) loops outer (block_of body) body.ops body ≡ [])
    → is_block body ≡ true → are_distinct body.args ≡ true → are_disjoint (captured_by body) (own_names body) ≡ true → AllByRecursion IsSpelledOp body.ops → has_no_index body ≡ true
    → AllByRecursion (λ t. cell_bits t ≡ bits_of (width_of t)) (ts ++ t ∷ []) → cell_bits t ≡ bits_of (width_of t)
    → IsRegion (record { captured = captured_by body; body = body }) (widths_used (record { captured = captured_by body; body = body })) (map width_of ts) (width_of t)
unfolding region_fits
region_read outer loops body ts t fits faults block args apart spelled no_index cells own_cells =
    let first = both (pointwise (λ w t. nat_eq (bits_of w) (cell_bits t)) body.widths (ts ++ t ∷ [])) _ fits in
    let second = both (nat_eq (bits_of body.width) (last_bits (ts ++ t ∷ []))) _ first.1 in
    let free = all_free body.ops no_index in
    let long : length body.args ≡ length body.widths = grind (arith, nat_tests) in
    let names_are : (x : ℕ) → is_some (value_named (block_of body) x) ≡ is_among body.args x =
    λ x. block_are outer loops body [] [] body.args body.widths (λ y. refl) long x ∙ or_false (is_among body.args x) in
    let width_fits : (x : ℕ) (v : Value) → is_among (captured_by body) x ≡ true → value_named outer x ≡ Some v → width_used x body.ops body.width ≡ width_of v.value_type =
    λ x v e at. width_is outer (block_of body) body.args body.ops body.yields body.width x v at (once_among (outer_uses body.args body.ops body.yields) x e) names_are second.1
    (all_counted outer (block_of body) body.ops body.yields body.width second.1 spelled free) in
    let along = along_first outer loops body width_fits long in
    let sound = sound_from outer (captured_by body) (λ x. width_used x body.ops body.width) width_fits loops body (block_of body) body.args _ _ body.ops body.width along faults second.1 spelled free
    (λ x e. among_once (outer_uses body.args body.ops body.yields) x e) in
    let places : somes (captured_by body) ++ somes body.args ≡ first_names (captured_by body) body = sym (somes_joined (captured_by body) body.args) in
    let types = sym (types_both (map (λ x. width_used x body.ops body.width) (captured_by body)) body.widths) in
    let width : body.width ≡ width_of t = one_width body.width (width_of t) (subst (λ n. nat_eq (bits_of body.width) n ≡ true) (last_bits_is ts t ∙ own_cells) second.0) in
    record {
      scalars_counted = sym (length-map (captured_by body) (λ x. width_used x body.ops body.width));
      block_counted = long;
      block = block_widths body.widths (ts ++ t ∷ []) cells first.0 ∙ mapped_both ts t;
      width = width;
      ops = subst (λ ts. AreSoundOps ts (first_names (captured_by body) body) body.ops) types (subst (λ ns. AreSoundOps (scalar_types (map (λ x. width_used x body.ops body.width) (captured_by body)) ++ scalar_types body.widths) ns body.ops) places sound.ops_sound);
      yields =
          subst (λ w. is_typed_at (scalar_types (map (λ x. width_used x body.ops body.width) (captured_by body) ++ body.widths) ++ map (λ op. op.result) body.ops) (all_names (captured_by body) body) (Scalar w) body.yields ≡ true) width
          (subst (λ ts. is_typed_at (ts ++ map (λ op. op.result) body.ops) (all_names (captured_by body) body) (Scalar body.width) body.yields ≡ true) types
          (subst (λ ns. is_typed_at ((scalar_types (map (λ x. width_used x body.ops body.width) (captured_by body)) ++ scalar_types body.widths) ++ map (λ op. op.result) body.ops) (ns ++ map (λ op. Some op.defines) body.ops) (Scalar body.width) body.yields ≡ true) places sound.yields_typed));
      different =
          subst AreDifferent (sym (append_assoc (captured_by body) body.args (map (λ (op : BodyOp). op.defines) body.ops)))
          (different_joined (captured_by body) (own_names body) (once_different (outer_uses body.args body.ops body.yields))
          (different_joined body.args (map (λ (op : BodyOp). op.defines) body.ops) (distinct_different body.args args) sound.different (args_apart body.args (map (λ (op : BodyOp). op.defines) body.ops) sound.fresh))
          (apart_all (captured_by body) (own_names body) apart));
    }
  where
    or_false : (b : Bool) → (b || false) ≡ b
    or_false true = refl
    or_false false = refl
