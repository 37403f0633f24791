-- Each instruction of a verified function in device form has its operands among the names before it, and stands along axes of the grid.
use Rattle.std.proofs.Common.{◌≡◌, ◌≢◌, ℕ, zero, suc, ◌<◌, Bool, true, false, cond, List, [], ◌∷◌, ◌++◌, map, length, take, Option, Some, None, refl, ap, ap₂, sym, ◌∙◌, subst, arith, append_assoc}
use Rattle.std.proofs.lemmas.Bool.Decides.{nat_tests}
use Rattle.std.proofs.lemmas.List.{append-nil, length-map, take_all}
use Rattle.std.proofs.lemmas.Option.{none-some, same_Some}
use Rattle.std.specs.List.{list_all}
use Rattle.std.specs.Option.{option_map_or}
use Rattle.std.specs.Prelude.{◌&&◌, ℤ, IsSome, filter, flat_map, if◌then◌else◌, is_some, nat_eq, nat_lt, not, option_map, slice_get}
use Rattle.sh_grid.specs.Grid.{AreAxesOf, IsNoneOf}
use Rattle.sh_ir.specs.declared.functions.Arg.{Arg}
use Rattle.sh_ir.specs.declared.functions.Func.{Func}
use Rattle.sh_ir.specs.declared.modules.GridItem.{GridItem}
use Rattle.sh_ir.specs.declared.operations.Op.{Op}
use Rattle.sh_ir.specs.declared.operations.OpKind.{OpKind}
use Rattle.sh_ir.specs.declared.operations.OpKind.TheVariants.{Constant, Binary, Compare, Select, Cast, Empty, ExtractSlice, InsertSlice, CollapseShape, ExpandShape, Fill, Matmul, BatchMatmul, Matvec, Vecmat, Dot, Conv1d, Conv2d, Transpose, Broadcast, Reduce, Generic, Sharding, Shard, AllGather, AllSlice, AllReduce, ReduceScatter, AllToAll, Shift, UpdateHalo, Take, Pad, Join, Call, Return}
use Rattle.sh_ir.specs.declared.shard_ops.GridAxes.{GridAxes}
use Rattle.sh_ir.specs.declared.shard_ops.UpdateHalo as declared_halo
use Rattle.sh_ir.specs.declared.types.ValueType.{ValueType}
use Rattle.sh_ir.specs.Attributes.{along_fits, axes_fit, halos_fit, numbers_fit}
use Rattle.sh_ir.specs.Classes.{class_of, is_return}
use Rattle.sh_ir.specs.Formed.{OperandsFit, captured_in, ends_in_return}
use Rattle.sh_ir.specs.Numbers.{are_axes_below, are_distinct, as_natural, as_naturals, is_below}
use Rattle.sh_ir.specs.Regions.{is_among}
use Rattle.sh_ir.specs.Rules.{is_in_form, is_of_device}
use Rattle.sh_ir.specs.Scope.{Scope, Value, grid_item, is_defined, plain_value, same_text, scope_after, scope_of, value_named, value_of, with_args}
use Rattle.sh_ir.specs.Written.{written_by}
use Rattle.sh_ir.proofs.KeptLaws.{scope_behind}
use Rattle.sh_pieces.specs.Instructions.{last_place}
use Rattle.sh_pieces.specs.Runs.{ResultsAreKnown}
use Rattle.sh_pieces.proofs.Names.{place_push}
use Rattle.sh_sem.specs.Returned.{returned}
use Rattle.sh_sem.specs.Steps.{axes_of, device_function, is_collective_class, steps_on}
use Rattle.sh_sharding.proofs.Cases.{and_left, and_right}
use Rattle.sh_turns.specs.Program.{all_there}
use Rattle.sh_collectives.specs.DeviceForms.{AreInOrder, IsOfDevice, IsVerifiedFunc}
use Rattle.sh_collectives.specs.VerifiedOps.{IsOfVerifiedOp}
use Rattle.sh_collectives.proofs.CapturedLaws.{all_joined, are_parted, captured_usable, is_usable}
use Rattle.sh_collectives.proofs.MemberLaws.{at_place, of_test}
use Rattle.sh_collectives.proofs.RuleLaws.{never, is_not, neither_left, neither_right, sound}
use Rattle.sh_collectives.proofs.VerifiedLaws.{device_behind, grids_behind, verified_op}

-- ---- instructions by their places among the operations

abbrev pub instructions_in : List Op → List Op
instructions_in ops = filter (λ op. not (is_return op.kind)) ops

pub record IsPlacedOp (ops : List Op) (k : ℕ) (op : Op) : Type 0 where
  pub stands : slice_get ops k ≡ Some op
  pub before : take k (instructions_in ops) ≡ take k ops
  pub other : not (is_return op.kind) ≡ true

-- all operations but the last are instructions
pub placed : (ops : List Op) (k : ℕ) (op : Op) → ends_in_return ops ≡ true → slice_get (instructions_in ops) k ≡ Some op
    → IsPlacedOp ops k op
placed [] k op last h = absurd (cc)
placed (x ∷ []) k op last h =
    let e : is_return x.kind ≡ true = last in
    absurd (none-some op (rw e at h))
placed (x ∷ y ∷ ops) zero op last h =
    let e : not (is_return x.kind) ≡ true = and_left (not (is_return x.kind)) (ends_in_return (y ∷ ops)) last in
    let here : Some x ≡ Some op = rw e at h in
    record { stands = here; before = refl; other = subst (λ (o : Op). not (is_return o.kind) ≡ true) (same_Some x op here) e }
placed (x ∷ y ∷ ops) (suc k) op last h =
    let e : not (is_return x.kind) ≡ true = and_left (not (is_return x.kind)) (ends_in_return (y ∷ ops)) last in
    let rest = placed (y ∷ ops) k op (and_right (not (is_return x.kind)) (ends_in_return (y ∷ ops)) last) (rw e at h) in
    record { stands = rest.stands; before = rw e (ap (λ os. x ∷ os) rest.before); other = rest.other }

pub record IsReturnOf (ops : List Op) : Type 0 where
  pub op : Op
  pub stands : slice_get ops (length (instructions_in ops)) ≡ Some op
  pub before : take (length (instructions_in ops)) ops ≡ instructions_in ops
  pub gives : returned ops ≡ op.operands

-- and the last is the return
pub return_of : (ops : List Op) → ends_in_return ops ≡ true → IsReturnOf ops
return_of [] last = absurd (cc)
return_of (x ∷ []) last =
    let e : is_return x.kind ≡ true = last in
    record { op = x; stands = rw e refl; before = rw e refl; gives = rw e refl }
return_of (x ∷ y ∷ ops) last =
    behind x (y ∷ ops) (is_not (is_return x.kind) (and_left (not (is_return x.kind)) (ends_in_return (y ∷ ops)) last))
    (return_of (y ∷ ops) (and_right (not (is_return x.kind)) (ends_in_return (y ∷ ops)) last))
  where
    behind : (x : Op) (ops : List Op) → is_return x.kind ≡ false → IsReturnOf ops → IsReturnOf (x ∷ ops)
    behind x ops other rest = record {
      op = rest.op;
      stands = rw other rest.stands;
      before = rw other (ap (λ os. x ∷ os) rest.before);
      gives = rw other rest.gives;
    }

-- ---- the values of a scope are among the names

abbrev pub AreNamed : List Value → List (Option ℕ) → Type 0
AreNamed values names = (name : ℕ) → is_defined values name ≡ true → IsSome (last_place names name)

named_more : (values : List Value) (names : List (Option ℕ)) (v : Value) → AreNamed values names → AreNamed (v ∷ values) (names ++ Some v.name ∷ [])
named_more values names v rest name h = subst (λ o. IsSome o) (sym (place_push names (Some v.name) name)) (go (nat_eq v.name name) h)
  where
    go : (b : Bool) → is_some (if b then Some v else value_named values name) ≡ true
        → IsSome (cond b (Some (length names)) (last_place names name))
    go true e = refl
    go false e = rest name e

named_same : (values : List Value) (names : List (Option ℕ)) → AreNamed values names → AreNamed values (names ++ None ∷ [])
named_same values names rest name h = subst (λ o. IsSome o) (sym (place_push names None name)) (rest name h)

named_args : (args : List Arg) (values : List Value) (names : List (Option ℕ)) → AreNamed values names
    → AreNamed (with_args values args) (names ++ map (λ a. Some a.id) args)
named_args [] values names h = subst (AreNamed values) (sym (append-nil names)) h
named_args (a ∷ args) values names h =
    subst (AreNamed (with_args values (a ∷ args))) (append_assoc names (Some a.id ∷ []) (map (λ b. Some b.id) args))
    (named_args args (plain_value a.id a.value_type ∷ values) (names ++ Some a.id ∷ []) (named_more values names (plain_value a.id a.value_type) h))

named_after : (values : List Value) (names : List (Option ℕ)) (op : Op) (defines : Option ℕ) → AreNamed values names
    → AreNamed (option_map_or (λ name. value_of op name ∷ values) defines values) (names ++ defines ∷ [])
named_after values names op None h = named_same values names h
named_after values names op (Some n) h = named_more values names (value_of op n) h

pub named_behind : (ops : List Op) (scope : Scope) (names : List (Option ℕ)) → AreNamed scope.values names
    → AreNamed (scope_behind scope ops).values (names ++ map (λ op. op.defines) ops)
named_behind [] scope names h = subst (AreNamed scope.values) (sym (append-nil names)) h
named_behind (op ∷ ops) scope names h =
    subst (AreNamed (scope_behind scope (op ∷ ops)).values) (append_assoc names (op.defines ∷ []) (map (λ o. o.defines) ops))
    (named_behind ops (scope_after scope op) (names ++ op.defines ∷ []) (named_after scope.values names op op.defines h))

pub names_of : (args : List Arg) → map (λ (a : Arg). Some a.id) args ≡ map (λ name. Some name) (map (λ (a : Arg). a.id) args)
names_of [] = refl
names_of (a ∷ args) = ap (λ ns. Some a.id ∷ ns) (names_of args)

-- so of a function, behind operations of it
pub names_there : (scope : Scope) (args : List Arg) (ops : List Op) → scope.values ≡ with_args [] args
    → AreNamed (scope_behind scope ops).values (map (λ name. Some name) (map (λ a. a.id) args) ++ map (λ op. op.defines) ops)
names_there scope args ops is =
    let none : AreNamed [] [] = λ name h. absurd (cc) in
    subst (λ ns. AreNamed (scope_behind scope ops).values (ns ++ map (λ op. op.defines) ops)) (names_of args)
    (named_behind ops scope (map (λ a. Some a.id) args) (subst (λ vs. AreNamed vs (map (λ a. Some a.id) args)) (sym is) (named_args args [] [] none)))

-- ---- operands

one_known : (o : Option ℕ) (os : List (Option ℕ)) → IsSome o → IsSome (all_there os) → IsSome (all_there (o ∷ os))
one_known None os h rest = absurd (cc)
one_known (Some k) os h rest = go (all_there os) rest
  where
    go : (p : Option (List ℕ)) → IsSome p → IsSome (option_map (λ ks. k ∷ ks) p)
    go None r = absurd (cc)
    go (Some ks) r = refl

all_known : (values : List Value) (names : List (Option ℕ)) (ns : List ℕ) → AreNamed values names → list_all (is_defined values) ns ≡ true
    → IsSome (all_there (map (last_place names) ns))
all_known values names [] named h = refl
all_known values names (n ∷ ns) named h =
    one_known (last_place names n) (map (last_place names) ns) (named n (and_left (is_defined values n) (list_all (is_defined values) ns) h))
    (all_known values names ns named (and_right (is_defined values n) (list_all (is_defined values) ns) h))

usable_defined : (values : List Value) (names : List ℕ) → list_all (is_usable values) names ≡ true → list_all (is_defined values) names ≡ true
usable_defined values [] h = refl
usable_defined values (n ∷ names) h =
    let here = one (value_named values n) (and_left (is_usable values n) (list_all (is_usable values) names) h) in
    let rest = usable_defined values names (and_right (is_usable values n) (list_all (is_usable values) names) h) in
    rw (here, rest) refl
  where
    one : (o : Option Value) → option_map_or (λ v. v.is_constant) o false ≡ true → is_some o ≡ true
    one None e = absurd (cc)
    one (Some v) e = refl

-- all operands are defined before, those that a region uses too
pub operands_defined : (scope : Scope) (op : Op) → IsOfVerifiedOp scope op → list_all (is_defined scope.values) op.operands ≡ true
operands_defined scope op v = go (written_by op.kind).operands refl (sound scope op v).there
  where
    go : (o : Option ℕ) → (written_by op.kind).operands ≡ o
        → list_all (is_defined scope.values) (option_map_or (λ count. take count op.operands) o op.operands) ≡ true
        → list_all (is_defined scope.values) op.operands ≡ true
    go None e h = h
    go (Some n) e h =
        let p = are_parted (written_by op.kind) n op.operands e v.counted v.captures in
        subst (λ names. list_all (is_defined scope.values) names ≡ true) p.all
        (all_joined (is_defined scope.values) (take n op.operands) (captured_in (written_by op.kind)) h
        (usable_defined scope.values (captured_in (written_by op.kind)) (captured_usable scope op v)))

has_operand : (kind : OpKind) (operands : List ℕ) → is_collective_class (class_of kind) ≡ true → OperandsFit (written_by kind) operands
    → 0 < length operands
has_operand (AllGather x) operands is fits = omega (arith, fits)
has_operand (AllReduce x) operands is fits = omega (arith, fits)
has_operand (ReduceScatter x) operands is fits = omega (arith, fits)
has_operand (AllToAll x) operands is fits = omega (arith, fits)
has_operand (Shift x) operands is fits = omega (arith, fits)
has_operand (UpdateHalo x) operands is fits = omega (arith, fits)
has_operand (Constant x) operands is fits = absurd (never is)
has_operand (Binary x) operands is fits = absurd (never is)
has_operand (Compare x) operands is fits = absurd (never is)
has_operand (Select x) operands is fits = absurd (never is)
has_operand (Cast x) operands is fits = absurd (never is)
has_operand Empty operands is fits = absurd (never is)
has_operand (ExtractSlice x) operands is fits = absurd (never is)
has_operand (InsertSlice x) operands is fits = absurd (never is)
has_operand (CollapseShape x) operands is fits = absurd (never is)
has_operand (ExpandShape x) operands is fits = absurd (never is)
has_operand (Fill x) operands is fits = absurd (never is)
has_operand (Matmul x) operands is fits = absurd (never is)
has_operand (BatchMatmul x) operands is fits = absurd (never is)
has_operand (Matvec x) operands is fits = absurd (never is)
has_operand (Vecmat x) operands is fits = absurd (never is)
has_operand (Dot x) operands is fits = absurd (never is)
has_operand (Conv1d x) operands is fits = absurd (never is)
has_operand (Conv2d x) operands is fits = absurd (never is)
has_operand (Transpose x) operands is fits = absurd (never is)
has_operand (Broadcast x) operands is fits = absurd (never is)
has_operand (Reduce x) operands is fits = absurd (never is)
has_operand (Generic x) operands is fits = absurd (never is)
has_operand (Sharding x) operands is fits = absurd (never is)
has_operand (Shard x) operands is fits = absurd (never is)
has_operand (AllSlice x) operands is fits = absurd (never is)
has_operand (Take x) operands is fits = absurd (never is)
has_operand (Pad x) operands is fits = absurd (never is)
has_operand (Join x) operands is fits = absurd (never is)
has_operand (Call x) operands is fits = absurd (never is)
has_operand (Return x) operands is fits = absurd (never is)

-- ---- axes

none_among : (a : ℕ) (ns : List ℕ) → is_among ns a ≡ false → IsNoneOf a ns
none_among a [] h = tt
none_among a (b ∷ ns) h =
    let other : nat_eq a b ≡ false = neither_left (nat_eq a b) (is_among ns a) h in
    let apart : a ≢ b = λ e. cc_apart a b other e in
    (apart, none_among a ns (neither_right (nat_eq a b) (is_among ns a) h))
  where
    cc_apart : (a b : ℕ) → nat_eq a b ≡ false → a ≡ b → ⊥
    cc_apart a b other e = grind (arith, nat_tests)

axes_by : (n : ℕ) (zs : List ℤ) → list_all (is_below n) zs ≡ true → are_distinct (as_naturals zs) ≡ true → AreAxesOf n (as_naturals zs)
axes_by n [] below distinct = tt
axes_by n (z ∷ zs) below distinct =
    let here = and_right _ (nat_lt (as_natural z) n) (and_left (is_below n z) (list_all (is_below n) zs) below) in
    let lt : as_natural z < n = grind (arith, nat_tests) in (
      lt,
      none_among (as_natural z) (as_naturals zs)
          (is_not (is_among (as_naturals zs) (as_natural z)) (and_left (not (is_among (as_naturals zs) (as_natural z))) (are_distinct (as_naturals zs)) distinct)),
      axes_by n zs (and_right (is_below n z) (list_all (is_below n) zs) below)
          (and_right (not (is_among (as_naturals zs) (as_natural z))) (are_distinct (as_naturals zs)) distinct),
    )

pub axes_below : (n : ℕ) (zs : List ℤ) → are_axes_below n zs ≡ true → AreAxesOf n (as_naturals zs)
axes_below n zs h =
    axes_by n zs (and_left (list_all (is_below n) zs) (are_distinct (as_naturals zs)) h)
    (and_right (list_all (is_below n) zs) (are_distinct (as_naturals zs)) h)

naturals_both : (xs ys : List ℤ) → as_naturals (xs ++ ys) ≡ as_naturals xs ++ as_naturals ys
naturals_both [] ys = refl
naturals_both (x ∷ xs) ys = ap (λ ns. as_natural x ∷ ns) (naturals_both xs ys)

naturals_all : (lists : List (List ℤ)) → as_naturals (flat_map (λ axes. axes) lists) ≡ flat_map as_naturals lists
naturals_all [] = refl
naturals_all (xs ∷ lists) = naturals_both xs (flat_map (λ axes. axes) lists) ∙ ap (λ ns. as_naturals xs ++ ns) (naturals_all lists)

one_text : (s t : List ℕ) → same_text s t ≡ true → s ≡ t
one_text [] [] h = refl
one_text [] (b ∷ t) h = absurd (cc)
one_text (a ∷ s) [] h = absurd (cc)
one_text (a ∷ s) (b ∷ t) h =
    let here : nat_eq a b ≡ true = and_left (nat_eq a b) (same_text s t) h in
    let same : a ≡ b = grind (arith, nat_tests) in
    ap₂ ◌∷◌ same (one_text s t (and_right (nat_eq a b) (same_text s t) h))

-- a scope of device form, on a grid of these extents
pub record IsDeviceScope (scope : Scope) (grid : List ℕ) : Type 0 where
  pub name : List ℕ
  pub device : scope.device ≡ Some name
  pub item : GridItem
  pub named : grid_item scope.grids name ≡ Some item
  pub extents : grid ≡ as_naturals item.extents

module _ (scope : Scope) (grid : List ℕ) (d : IsDeviceScope scope grid) where
  item_there : (name : List ℕ) → same_text d.name name ≡ true → grid_item scope.grids name ≡ Some d.item
  item_there name h = subst (λ n. grid_item scope.grids n ≡ Some d.item) (one_text d.name name h) d.named

  axes_written : (name : List ℕ) (axes : List ℤ) → same_text d.name name ≡ true
      → option_map_or (λ g. are_axes_below (length g.extents) axes) (grid_item scope.grids name) true ≡ true
      → AreAxesOf (length grid) (as_naturals axes)
  axes_written name axes on h =
      let fit : are_axes_below (length d.item.extents) axes ≡ true = subst
      (λ o. option_map_or (λ (g : GridItem). are_axes_below (length g.extents) axes) o true ≡ true) (item_there name on) h in
      let long : length d.item.extents ≡ length grid = sym (ap length d.extents ∙ length-map d.item.extents as_natural) in
      axes_below (length grid) axes (subst (λ n. are_axes_below n axes ≡ true) long fit)

  axes_at : (on : GridAxes) → same_text d.name on.grid ≡ true → axes_fit scope on ≡ true → AreAxesOf (length grid) (as_naturals on.grid_axes)
  unfolding axes_fit
  axes_at on here h = axes_written on.grid on.grid_axes here h

  axes_of_halos : (x : declared_halo.UpdateHalo) (rank : ℕ) → same_text d.name x.grid ≡ true → halos_fit scope x rank ≡ true
      → AreAxesOf (length grid) (flat_map as_naturals x.split_axes)
  unfolding halos_fit
  axes_of_halos x rank here h =
      subst (AreAxesOf (length grid)) (naturals_all x.split_axes)
      (axes_written x.grid (flat_map (λ axes. axes) x.split_axes) here (and_right _ _ (and_right _ _ h)))

  pub axes_of_kind : (kind : OpKind) (result : ValueType) → list_all (same_text d.name) (written_by kind).grids ≡ true
      → numbers_fit scope kind result ≡ true → AreAxesOf (length grid) (axes_of kind)
  unfolding numbers_fit along_fits
  axes_of_kind (AllGather x) result g h = axes_at x.on (and_left _ _ g) (and_left _ _ h)
  axes_of_kind (AllSlice x) result g h = axes_at x.on (and_left _ _ g) (and_left _ _ h)
  axes_of_kind (AllReduce x) result g h = axes_at x.on (and_left _ _ g) h
  axes_of_kind (ReduceScatter x) result g h = axes_at x.on (and_left _ _ g) (and_left _ _ h)
  axes_of_kind (AllToAll x) result g h = axes_at x.on (and_left _ _ g) (and_left _ _ (and_left _ _ h))
  axes_of_kind (Shift x) result g h = axes_at x.on (and_left _ _ g) (and_left _ _ h)
  axes_of_kind (UpdateHalo x) result g h = axes_of_halos x _ (and_left _ _ g) h
  axes_of_kind (Take x) result g h = axes_at x.on (and_left _ _ g) (and_left _ _ (and_left _ _ h))
  axes_of_kind (Constant x) result g h = tt
  axes_of_kind (Binary x) result g h = tt
  axes_of_kind (Compare x) result g h = tt
  axes_of_kind (Select x) result g h = tt
  axes_of_kind (Cast x) result g h = tt
  axes_of_kind Empty result g h = tt
  axes_of_kind (ExtractSlice x) result g h = tt
  axes_of_kind (InsertSlice x) result g h = tt
  axes_of_kind (CollapseShape x) result g h = tt
  axes_of_kind (ExpandShape x) result g h = tt
  axes_of_kind (Fill x) result g h = tt
  axes_of_kind (Matmul x) result g h = tt
  axes_of_kind (BatchMatmul x) result g h = tt
  axes_of_kind (Matvec x) result g h = tt
  axes_of_kind (Vecmat x) result g h = tt
  axes_of_kind (Dot x) result g h = tt
  axes_of_kind (Conv1d x) result g h = tt
  axes_of_kind (Conv2d x) result g h = tt
  axes_of_kind (Transpose x) result g h = tt
  axes_of_kind (Broadcast x) result g h = tt
  axes_of_kind (Reduce x) result g h = tt
  axes_of_kind (Generic x) result g h = tt
  axes_of_kind (Sharding x) result g h = tt
  axes_of_kind (Shard x) result g h = tt
  axes_of_kind (Pad x) result g h = tt
  axes_of_kind (Join x) result g h = tt
  axes_of_kind (Call x) result g h = tt
  axes_of_kind (Return x) result g h = tt

  pub record IsDeviceOp (op : Op) : Type 0 where
    pub device : is_of_device (class_of op.kind) ≡ true
    pub grids : list_all (same_text d.name) (written_by op.kind).grids ≡ true

  in_device : (a b : Bool) (F : List ℕ → Bool) (device : Option (List ℕ)) → device ≡ Some d.name → (a && option_map_or F device b) ≡ true
      → F d.name ≡ true
  in_device a b F device is h = subst (λ o. option_map_or F o b ≡ true) is (and_right a (option_map_or F device b) h)

  -- an operation of device form, which names the grid
  pub device_op : (op : Op) → IsOfVerifiedOp scope op → IsDeviceOp op
  unfolding is_in_form
  device_op op v =
      let form = in_device _ _ (λ name. is_of_device (class_of op.kind) && list_all (same_text name) (written_by op.kind).grids) scope.device d.device
      (sound scope op v).form in
      record { device = and_left _ _ form; grids = and_right _ _ form }

-- ---- the scope behind operations of a function in device form

pub scope_there : (f : Func) (grid : List ℕ) (d : IsOfDevice f grid) (ops : List Op) → IsDeviceScope (scope_behind (scope_of d.verified.whole f) ops) grid
scope_there f grid d ops =
    let start = scope_of d.verified.whole f in
    record {
      name = d.carry.grid;
      device = device_behind start ops ∙ ap (λ o. option_map_or (λ carry. Some carry.grid) o None) d.carried;
      item = d.item;
      named = subst (λ grids. grid_item grids d.carry.grid ≡ Some d.item) (sym (grids_behind start ops)) d.named;
      extents = d.extents;
    }

pub return_last : (f : Func) → IsVerifiedFunc f → ends_in_return f.ops ≡ true
return_last f h =
    at_place (λ (g : Func). ends_in_return g.ops ≡ true) h.whole.funcs h.place f
    (of_test (λ (g : Func). ends_in_return g.ops) h.whole.funcs h.formed.returns) h.stands

module _ (f : Func) (grid : List ℕ) (d : IsOfDevice f grid) where
  -- the operands of an operation are among the names before it
  known_at : (k : ℕ) (op : Op) → slice_get f.ops k ≡ Some op
      → IsSome (all_there (map (last_place (map (λ name. Some name) (map (λ a. a.id) f.args) ++ map (λ o. o.defines) (take k f.ops))) op.operands))
  known_at k op stands =
      let scope = scope_behind (scope_of d.verified.whole f) (take k f.ops) in
      all_known scope.values (map (λ name. Some name) (map (λ a. a.id) f.args) ++ map (λ o. o.defines) (take k f.ops)) op.operands
      (names_there (scope_of d.verified.whole f) f.args (take k f.ops) refl)
      (operands_defined scope op (verified_op f d.verified k op stands))

  pub in_order : AreInOrder f grid
  unfolding device_function steps_on
  in_order k op h =
      let p = placed f.ops k op (return_last f d.verified) h in
      let scope = scope_behind (scope_of d.verified.whole f) (take k f.ops) in
      let v = verified_op f d.verified k op p.stands in
      let at = scope_there f grid d (take k f.ops) in
      record {
        known = subst (λ ops. IsSome (all_there (map (last_place (map (λ name. Some name) (map (λ a. a.id) f.args) ++ map (λ o. o.defines) ops)) op.operands)))
            (sym p.before) (known_at k op p.stands);
        some = λ is. has_operand op.kind op.operands is v.counted;
        axes = axes_of_kind scope grid at op.kind op.result (device_op scope grid at op v).grids (sound scope op v).numbers;
      }

  tail_known : (j : ℕ) (os : List (Option ℕ)) → IsSome (all_there (Some j ∷ os)) → IsSome (all_there os)
  tail_known j os h = go (all_there os) refl h
    where
      go : (p : Option (List ℕ)) → all_there os ≡ p → IsSome (option_map (λ ks. j ∷ ks) p) → IsSome (all_there os)
      go None is r = absurd (cc)
      go (Some ks) is r = subst (λ o. IsSome o) (sym is) refl

  one_of_known : (names : List (Option ℕ)) (ns : List ℕ) (k name : ℕ) → IsSome (all_there (map (last_place names) ns)) → slice_get ns k ≡ Some name
      → IsSome (last_place names name)
  one_of_known names [] k name h e = absurd (none-some name e)
  one_of_known names (n ∷ ns) k name h e = go (last_place names n) refl h k e (λ i r at. one_of_known names ns i name r at)
    where
      go : (o : Option ℕ) → last_place names n ≡ o → IsSome (all_there (o ∷ map (last_place names) ns)) → (k : ℕ) → slice_get (n ∷ ns) k ≡ Some name
          → ((i : ℕ) → IsSome (all_there (map (last_place names) ns)) → slice_get ns i ≡ Some name → IsSome (last_place names name))
          → IsSome (last_place names name)
      go None is r k at rest = absurd (cc)
      go (Some j) is r zero at rest = subst (λ m. IsSome (last_place names m)) (same_Some n name at) (subst (λ o. IsSome o) (sym is) refl)
      go (Some j) is r (suc k) at rest = rest k (tail_known j (map (last_place names) ns) r) at

  -- what is returned is among all names
  pub results_known : ResultsAreKnown (steps_on grid) (device_function f)
  unfolding device_function steps_on
  results_known k name h =
      let r = return_of f.ops (return_last f d.verified) in
      let all = instructions_in f.ops in
      let known = known_at (length all) r.op r.stands in
      let names : List (Option ℕ) = map (λ name. Some name) (map (λ a. a.id) f.args) ++ map (λ o. o.defines) all in
      one_of_known (map (λ n. Some n) (map (λ a. a.id) f.args) ++ map (λ o. o.defines) (take (length all) all)) r.op.operands k name
      (subst (λ ops. IsSome (all_there (map (last_place (map (λ n. Some n) (map (λ a. a.id) f.args) ++ map (λ o. o.defines) ops)) r.op.operands)))
      (r.before ∙ sym (take_all (length all) all (omega arith))) known)
      (subst (λ ns. slice_get ns k ≡ Some name) r.gives h)
