-- How the loops of a structured operation are divided under a valid option, and its values with them.
use Rattle.std.proofs.Common.{◌≡◌, ℕ, zero, suc, ◌+◌, ◌<◌, ◌≤◌, Bool, true, false, List, [], ◌∷◌, ◌++◌, map, length, Option, Some, None, refl, ap, ap₂, sym, ◌∙◌, arith, subst, inl, inr, ◌⊎◌}
use Rattle.std.proofs.lemmas.Bool.{cases_Bool}
use Rattle.std.specs.List.{AllByRecursion, range_with_len}
use Rattle.std.specs.Prelude.{get_or, is_some, slice_get, unwrap_or, ◌&&◌, ◌||◌, if◌then◌else◌}
use Rattle.sh_base.specs.declared.operations.Kind.{Kind}
use Rattle.sh_grid.specs.Grid.{AreAxesOf, GridValue}
use Rattle.sh_nest_laws.specs.LoopSplits.{AreSplit, IsLoop, SplitsParallel, IsOperand, Operand, names, sharding_on, split_by}
use Rattle.sh_sharding.specs.declared.shardings.Dimension.{Dimension}
use Rattle.sh_sharding.specs.Sharding.{IsDimension, IsSharding, parts_of, unsplit}
use Rattle.sh_sharding.specs.LocalTypes.{local_dims}
use Rattle.sh_sharding.proofs.MadeLaws.{in_order}
use Rattle.sh_sharding.proofs.MarkLaws.{balanced_divided}
use Rattle.sh_sharding.proofs.PartLaws.{axes_of-each}
use Rattle.sh_sharding.proofs.ViewAdmissionLaws.{group_size_of-none}
use Rattle.sh_iface.specs.declared.options.How.TheVariants.{Same}
use Rattle.sh_iface.specs.declared.options.Split.{Split}
use Rattle.sh_iface.specs.Elements.{tensor_of}
use Rattle.sh_iface.specs.LoopNest.{Loop, LoopNest, NestValue, loop_extents, shape_of, value_at}
use Rattle.sh_iface.specs.Meaning.{local_type}
use Rattle.sh_iface.specs.Splits.{OptionValue, divided, divided_as, implied_of, scaled_dimension, split_at, split_of}
use Rattle.sh_iface.specs.Table.{follows}
use Rattle.sh_iface.specs.Valid.{IsValid, MayBeSplit}
use Rattle.sh_iface.proofs.SplitLists.{split_in, splits_counted}
use Rattle.sh_iface_linalg.specs.Structured.{Form, IsFollowing, IsStructured, Structured, combining_kind, first_rank, inputs_at, is_fill, kind_of_form, splits_reduction, local_loop, loop_by, loop_division, structured_nest, tensor_ins, value_by}
use Rattle.sh_iface_linalg.specs.Structured.{fill, matmul, batch_matmul, matvec, vecmat, dot, transpose, broadcast, reduce, generic}
use Rattle.sh_iface_linalg.specs.Nests.{named_all, plain_of}
use Rattle.sh_iface_linalg.specs.Loops.{either_way, map_twice, all_then, all_unmapped, loops_counted, of_named}

-- ---- values

dims_divided : (g : GridValue) (extents loops : List ℕ) (o : OptionValue) (shape : List ℕ) (at : ℕ) (dims : List ℕ)
    → divided g.extents loops o shape at (map (λ l. follows Same l (get_or extents l 0)) dims) ≡ map (loop_division extents g o) dims
dims_divided g extents loops o shape at [] = refl
dims_divided g extents loops o shape at (l ∷ dims) = ap (λ ds. loop_division extents g o l ∷ ds) (dims_divided g extents loops o shape (suc at) dims)

-- how a loop of this extent is divided by its split
abbrev pub divided_by : List ℕ → ℕ → Option Split → Dimension
divided_by g extent None = unsplit extent
divided_by g extent (Some split) = scaled_dimension g extent split 1

abbrev divided_elim : List ℕ → List ℕ → ℕ → Option Split → Dimension
divided_elim g extents l x = elim x [ None ↦ unsplit (get_or extents l 0) | Some split ↦ divided_as g [] 0 (get_or extents l 0) split (unwrap_or (slice_get extents l) 0) Same ]

-- A value is split as its loops are.
pub implied_is : (g : GridValue) (nest : LoopNest) (o : OptionValue) (extents : List ℕ) (x : Operand)
    → implied_of g nest o (value_by extents x) ≡ sharding_on g (loop_division extents g o) x.dims
unfolding implied_of
implied_is g nest o extents x =
    ap (λ ds. record { grid = g; dimensions = ds }) (dims_divided g extents (loop_extents nest) o (shape_of (value_by extents x)) 0 x.dims)

pub split_is : (g : GridValue) (nest : LoopNest) (o : OptionValue) (extents : List ℕ) (x : Operand)
    → split_of g nest o (value_by extents x) ≡ split_by g (loop_division extents g o) x
split_is g nest o extents x = ap (λ s. record { sharding = s; width = x.width }) (implied_is g nest o extents x)

pub splits_are : (g : GridValue) (nest : LoopNest) (o : OptionValue) (extents : List ℕ) (xs : List Operand)
    → map (split_of g nest o) (map (value_by extents) xs) ≡ map (split_by g (loop_division extents g o)) xs
splits_are g nest o extents [] = refl
splits_are g nest o extents (x ∷ xs) = ap₂ ◌∷◌ (split_is g nest o extents x) (splits_are g nest o extents xs)

-- ---- types

pub dims_local : (g : GridValue) (o : OptionValue) (extents dims : List ℕ) → local_dims (sharding_on g (loop_division extents g o) dims) ≡ map (local_loop extents g o) dims
dims_local g o extents dims = map_twice _ (loop_division extents g o) dims

pub type_is : (g : GridValue) (nest : LoopNest) (o : OptionValue) (extents : List ℕ) (x : Operand)
    → local_type (split_of g nest o (value_by extents x)) ≡ tensor_of (map (local_loop extents g o) x.dims) x.width
unfolding local_type
type_is g nest o extents x =
    ap local_type (split_is g nest o extents x) ∙ ap (λ dims. tensor_of dims x.width) (dims_local g o extents x.dims)

-- ---- valid options

whole_loop : (g : List ℕ) (n : ℕ) → IsLoop g (unsplit n)
unfolding parts_of
whole_loop g n = record {
  axes = tt;
  dimension = record {
    divided = let one = group_size_of-none g [] refl in rw one (balanced_divided n 1 (omega arith));
    normal = tt;
    low = λ i le. omega arith;
    high = λ i le. omega arith;
    unsplit = λ e. refl;
  };
  low = refl;
  high = refl;
}

loops_admitted : (g : GridValue) (D : ℕ → Dimension) (dims : List ℕ) → IsSharding (sharding_on g D dims)
    → AllByRecursion (λ l. AreAxesOf (length g.extents) (D l).axes × IsDimension g.extents (D l)) dims
loops_admitted g D dims ok =
    both dims (all_unmapped (λ (d : Dimension). AreAxesOf (length g.extents) d.axes) D dims (axes_of-each (length g.extents) (map D dims) ok.axes)) (all_unmapped (IsDimension g.extents) D dims ok.dimensions)
  where
    both : (dims : List ℕ) → AllByRecursion (λ l. AreAxesOf (length g.extents) (D l).axes) dims → AllByRecursion (λ l. IsDimension g.extents (D l)) dims
        → AllByRecursion (λ l. AreAxesOf (length g.extents) (D l).axes × IsDimension g.extents (D l)) dims
    both [] a b = tt
    both (l ∷ dims) a b = ((a.0, b.0), both dims a.1 b.1)

below_or_not : (l n : ℕ) → (l < n) ⊎ (n ≤ l)
below_or_not l zero = inr (omega arith)
below_or_not zero (suc n) = inl (omega arith)
below_or_not (suc l) (suc n) =
    elim (below_or_not l n) [
      | inl lt ↦ inl (omega (arith, lt))
      | inr le ↦ inr (omega (arith, le))
    ]

made_get : {X : Type 0} (f : ℕ → X) (b n l : ℕ) (d : X) → l < n → get_or (map f (range_with_len b n)) l d ≡ f (b + l)
made_get f b zero l d lt = absurd (omega arith)
made_get f b (suc n) zero d lt = let z : b ≡ b + 0 = omega arith in ap f z
made_get f b (suc n) (suc l) d lt = made_get f (b + 1) n l d (omega (arith, lt)) ∙ (let z : b + 1 + l ≡ b + suc l = omega arith in ap f z)

got_split : (o : OptionValue) (l : ℕ) → get_or o l None ≡ split_at o l
got_split [] l = refl
got_split (x ∷ o) zero = refl
got_split (x ∷ o) (suc l) = got_split o l

-- a loop with a kind that is split
counts : (loops : List Loop) (o : OptionValue) (l : ℕ) (d : Loop) → l < length loops → is_some (get_or loops l d).kind ≡ true → is_some (get_or o l None) ≡ true → splits_reduction loops o ≡ true
counts [] o l d lt kind some = absurd (omega arith)
counts (loop ∷ loops) [] l d lt kind some = absurd (cc)
counts (loop ∷ loops) (x ∷ o) zero d lt kind some = rw (kind, some) refl
counts (loop ∷ loops) (x ∷ o) (suc l) d lt kind some = either_way (is_some loop.kind && is_some x) (splits_reduction loops o) (counts loops o l d (omega (arith, lt)) kind some)

module _ (e : Structured) (is : IsStructured e) (g : GridValue) (o : OptionValue) (valid : IsValid (structured_nest e) g o) where
  abbrev pub D : ℕ → Dimension
  D = loop_division e.extents g o

  -- the option's split of a loop
  none_past : (l : ℕ) → length e.extents ≤ l → split_at o l ≡ None
  none_past l past = let n = splits_counted g.extents (structured_nest e).loops o valid.splits in let m = loops_counted e is in beyond o l (omega (arith, n, m, past))
    where
      beyond : (o : OptionValue) (l : ℕ) → length o ≤ l → split_at o l ≡ None
      beyond [] l past = refl
      beyond (x ∷ o) zero past = absurd (omega arith)
      beyond (x ∷ o) (suc l) past = beyond o l (omega (arith, past))

  pub division_is : (l : ℕ) → D l ≡ divided_by g.extents (get_or e.extents l 0) (split_at o l)
  division_is l = go (split_at o l)
    where
      go : (x : Option Split) → divided_elim g.extents e.extents l x ≡ divided_by g.extents (get_or e.extents l 0) x
      go None = refl
      go (Some split) = refl

  pub unsplit_is : (l : ℕ) → split_at o l ≡ None → D l ≡ unsplit (get_or e.extents l 0)
  unsplit_is l none = division_is l ∙ ap (divided_by g.extents (get_or e.extents l 0)) none

  -- ---- each value's sharding is admitted

  admitted_at : (v : ℕ) (x : Operand) → v ≤ length (structured_nest e).operands → value_at (structured_nest e) v ≡ value_by e.extents x → IsSharding (sharding_on g D x.dims)
  admitted_at v x le same =
      subst IsSharding (implied_is g (structured_nest e) o e.extents x)
      (subst (λ value. IsSharding (implied_of g (structured_nest e) o value)) same (valid.admitted v le))

  -- the operands from number `v` on are these
  admitted_from : (v : ℕ) (xs : List Operand) → ((i : ℕ) (x : Operand) → slice_get xs i ≡ Some x → (v + i ≤ length (structured_nest e).operands) × (value_at (structured_nest e) (v + i) ≡ value_by e.extents x))
      → AllByRecursion (λ x. IsSharding (sharding_on g D x.dims)) xs
  admitted_from v [] h = tt
  admitted_from v (x ∷ xs) h = (
    admitted_at (v + 0) x (h 0 x refl).0 (h 0 x refl).1,
    admitted_from (suc v) xs (λ i y at.
        let z : v + suc i ≡ suc v + i = omega arith in
        subst (λ k. (k ≤ length (structured_nest e).operands) × (value_at (structured_nest e) k ≡ value_by e.extents y)) z (h (suc i) y at)),
  )

  operand_at : (xs : List Operand) (result : NestValue) (i : ℕ) (x : Operand) → slice_get xs i ≡ Some x
      → (0 + i ≤ length (map (value_by e.extents) xs)) × (get_or (map (value_by e.extents) xs) (0 + i) result ≡ value_by e.extents x)
  operand_at xs result i x at = let z : i ≡ 0 + i = omega arith in subst (λ k. (k ≤ length (map (value_by e.extents) xs)) × (get_or (map (value_by e.extents) xs) k result ≡ value_by e.extents x)) z (go xs i at)
    where
      go : (xs : List Operand) (i : ℕ) → slice_get xs i ≡ Some x → (i ≤ length (map (value_by e.extents) xs)) × (get_or (map (value_by e.extents) xs) i result ≡ value_by e.extents x)
      go [] i at = absurd (cc)
      go (y ∷ xs) zero at = (omega arith, ap (λ (z : Option Operand). value_by e.extents (unwrap_or z x)) at)
      go (y ∷ xs) (suc i) at = let rest = go xs i at in (let le = rest.0 in omega (arith, le), rest.1)

  tensors_admitted : AllByRecursion (λ x. IsSharding (sharding_on g D x.dims)) (tensor_ins e ++ e.out ∷ [])
  unfolding structured_nest
  tensors_admitted = admitted_from 0 (tensor_ins e ++ e.out ∷ []) (λ i x at. operand_at (tensor_ins e ++ e.out ∷ []) (value_by e.extents e.out) i x at)

  -- a scalar input of a fill has no dimensions
  pub no_dims : (ins : List Operand) (f r : ℕ) (form : Form) → is_fill form ≡ true → inputs_at form f r ≡ map (λ x. x.dims) ins → AllByRecursion (λ (x : Operand). x.dims ≡ []) ins
  no_dims [] f r form filling h = tt
  no_dims (x ∷ []) f r fill filling h = (sym (ap (λ (xs : List (List ℕ)). get_or xs 0 []) h), tt)
  no_dims (x ∷ y ∷ ins) f r fill filling h = absurd (cc)
  no_dims (x ∷ ins) f r matmul filling h = absurd (cc)
  no_dims (x ∷ ins) f r batch_matmul filling h = absurd (cc)
  no_dims (x ∷ ins) f r matvec filling h = absurd (cc)
  no_dims (x ∷ ins) f r vecmat filling h = absurd (cc)
  no_dims (x ∷ ins) f r dot filling h = absurd (cc)
  no_dims (x ∷ ins) f r (transpose p) filling h = absurd (cc)
  no_dims (x ∷ ins) f r (broadcast d) filling h = absurd (cc)
  no_dims (x ∷ ins) f r (reduce n d b) filling h = absurd (cc)
  no_dims (x ∷ ins) f r (generic maps its b) filling h = absurd (cc)

  last_of : (P : Operand → Type 0) (xs : List Operand) (x : Operand) → AllByRecursion P (xs ++ x ∷ []) → P x
  last_of P [] x h = h.0
  last_of P (y ∷ xs) x h = last_of P xs x h.1

  front_of : (P : Operand → Type 0) (xs : List Operand) (x : Operand) → AllByRecursion P (xs ++ x ∷ []) → AllByRecursion P xs
  front_of P [] x h = tt
  front_of P (y ∷ xs) x h = (h.0, front_of P xs x h.1)

  pub out_admitted : IsSharding (sharding_on g D e.out.dims)
  out_admitted = last_of (λ x. IsSharding (sharding_on g D x.dims)) (tensor_ins e) e.out tensors_admitted

  -- a scalar on the grid
  pub scalar_admitted : IsSharding (sharding_on g D [])
  scalar_admitted = (in_order (sharding_on g D []) (record { grid = out_admitted.grid; axes = tt; dimensions = tt; short = omega arith; small = omega arith })).sharding

  pub ins_admitted : AllByRecursion (λ x. IsSharding (sharding_on g D x.dims)) e.ins
  ins_admitted =
      elim (cases_Bool (is_fill e.form)) [
        | inl b ↦ all_then _ _ e.ins (λ x none. subst (λ dims. IsSharding (sharding_on g D dims)) (sym none) scalar_admitted) (no_dims e.ins (first_rank e.ins) (length e.out.dims) e.form b is.inputs)
        | inr b ↦
            let same : tensor_ins e ≡ e.ins = ap (λ (t : Bool). if t then [] else e.ins) b in
            subst (AllByRecursion (λ x. IsSharding (sharding_on g D x.dims))) same (front_of (λ x. IsSharding (sharding_on g D x.dims)) (tensor_ins e) e.out tensors_admitted)
      ]

  -- ---- each loop is divided in order

  pub is_loop : (l : ℕ) → IsLoop g.extents (D l)
  is_loop l =
      elim (below_or_not l (length e.extents)) [
        | inl lt ↦
            let admitted = of_named (λ k. AreAxesOf (length g.extents) (D k).axes × IsDimension g.extents (D k)) e.ins e.out l
            (all_then _ _ e.ins (λ x ok. loops_admitted g D x.dims ok) ins_admitted) (loops_admitted g D e.out.dims out_admitted) (is.named l lt) in
            let plain = plain_loop (split_at o l) in
            let same = division_is l in
            record {
              axes = admitted.0;
              dimension = admitted.1;
              low = ap (λ (d : Dimension). d.low) same ∙ plain.0;
              high = ap (λ (d : Dimension). d.high) same ∙ plain.1;
            }
        | inr past ↦ subst (IsLoop g.extents) (sym (unsplit_is l (none_past l past))) (whole_loop g.extents (get_or e.extents l 0))
      ]
    where
      plain_loop : (x : Option Split) → ((divided_by g.extents (get_or e.extents l 0) x).low ≡ 0) × ((divided_by g.extents (get_or e.extents l 0) x).high ≡ 0)
      plain_loop None = (refl, refl)
      plain_loop (Some split) = (refl, refl)

  pub are_split : AreSplit g D (plain_of e)
  are_split = record {
    loop = is_loop;
    inputs = both e.ins is.ins ins_admitted;
    output = record { below = is.out.below; admitted = out_admitted };
    once = is.once;
    named = λ l lt. named_all e.ins e.out l (is.named l lt);
  }
    where
      both : (ins : List Operand) → AllByRecursion (IsFollowing e.extents) ins → AllByRecursion (λ x. IsSharding (sharding_on g D x.dims)) ins → AllByRecursion (IsOperand g D (length e.extents)) ins
      both [] a b = tt
      both (x ∷ ins) a b = (record { below = a.0.below; admitted = b.0 }, both ins a.1 b.1)

  -- ---- a reduction loop

  loop_got : (l : ℕ) (d : Loop) → l < length e.extents → get_or (structured_nest e).loops l d ≡ loop_by e l
  unfolding structured_nest
  loop_got l d lt = made_get (loop_by e) 0 (length e.extents) l d lt ∙ (let z : 0 + l ≡ l = omega arith in ap (loop_by e) z)

  -- the option's split of a loop is one that the loop may have
  pub may_split : (l : ℕ) → l < length e.extents → MayBeSplit g.extents (loop_by e l) (split_at o l)
  may_split l lt =
      let n = loops_counted e in
      let d : Loop = record { extent = 0; splittable = false; kind = None } in
      subst (MayBeSplit g.extents (loop_by e l)) (got_split o l)
      (subst (λ loop. MayBeSplit g.extents loop (get_or o l None)) (loop_got l d lt) (split_in g.extents (structured_nest e).loops o d l valid.splits (omega (arith, n, lt))))

  split_counts : (l : ℕ) (split : Split) → l < length e.extents → split_at o l ≡ Some split → names e.out.dims l ≡ false → (kind : is_some (kind_of_form e.form) ≡ true) → splits_reduction (structured_nest e).loops o ≡ true
  split_counts l split lt at reduced kind =
      let n = loops_counted e in
      let d : Loop = record { extent = 0; splittable = false; kind = None } in
      counts (structured_nest e).loops o l d (omega (arith, n, lt))
      (ap (λ (loop : Loop). is_some loop.kind) (loop_got l d lt) ∙ ap (λ (b : Bool). is_some (if b then None else kind_of_form e.form)) reduced ∙ kind)
      (ap (λ (x : Option Split). is_some x) (got_split o l ∙ at))

  -- Where nothing is combined, no reduction loop is split.
  pub splits_parallel : combining_kind e o ≡ None → SplitsParallel D (plain_of e)
  unfolding combining_kind
  splits_parallel none l reduced = go (split_at o l) refl
    where
      unkinded : (k : Option Kind) → (if splits_reduction (structured_nest e).loops o then k else None) ≡ None → splits_reduction (structured_nest e).loops o ≡ true → is_some k ≡ true → ⊥
      unkinded k nothing all some = absurd (clash k (sym (ap (λ (b : Bool). if b then k else None) all) ∙ nothing) some)
        where
          clash : (k : Option Kind) → k ≡ None → is_some k ≡ true → ⊥
          clash None same some = absurd (cc)
          clash (Some x) same some = absurd (cc)

      allowed : (split : Split) → l < length e.extents → split_at o l ≡ Some split → is_some (kind_of_form e.form) ≡ true
      allowed split lt at =
          let may : MayBeSplit g.extents (loop_by e l) (Some split) = subst (MayBeSplit g.extents (loop_by e l)) at (may_split l lt) in
          subst (λ (t : Bool). (t || is_some (if t then None else kind_of_form e.form)) ≡ true) reduced may.0

      go : (x : Option Split) → split_at o l ≡ x → (D l).axes ≡ []
      go None at = ap (λ (d : Dimension). d.axes) (unsplit_is l at)
      go (Some split) at =
          elim (below_or_not l (length e.extents)) [
            | inl lt ↦ absurd (unkinded (kind_of_form e.form) none (split_counts l split lt at reduced (allowed split lt at)) (allowed split lt at))
            | inr past ↦ absurd (clash at (none_past l past))
          ]
        where
          clash : split_at o l ≡ Some split → split_at o l ≡ None → ⊥
          clash a b = absurd (cc)
