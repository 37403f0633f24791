-- Dimensions that follow loops of their own numbers, and how they are divided.
use Rattle.std.proofs.Common.{ap₂, ◌≡◌, ℕ, zero, suc, ◌+◌, ◌<◌, ◌≤◌, Bool, true, false, List, [], ◌∷◌, length, map, get_or, Option, Some, None, refl, ap, sym, ◌∙◌, arith}
use Rattle.std.proofs.lemmas.Option.{same_Some, unwrap_or-slice_get}
use Rattle.std.specs.List.{AllByRecursion}
use Rattle.std.specs.Prelude.{if◌then◌else◌, slice_get}
use Rattle.sh_base.specs.declared.numbers.Width.{Width}
use Rattle.sh_base.specs.Shape.{max_cells}
use Rattle.sh_sharding.specs.declared.shardings.Dimension.{Dimension}
use Rattle.sh_sharding.specs.Sharding.{unsplit}
use Rattle.sh_iface.specs.declared.options.How.TheVariants.{Same}
use Rattle.sh_iface.specs.declared.options.Split.{Split}
use Rattle.sh_iface.specs.Lawful.{FollowsBelow}
use Rattle.sh_iface.specs.LoopNest.{HasNoWindows, IsPlainFollow, Loop, NestDim}
use Rattle.sh_iface.specs.Splits.{OptionValue, divided, followed, scaled_dimension, split_at}
use Rattle.sh_iface.specs.Table.{always, each_follows, follows, follows_none, loops_where, parallel, some_follow}
use Rattle.sh_iface.specs.Valid.{AreSplits, MayBeSplit}
use Rattle.sh_iface.proofs.SplitLists.{split_in}

-- ---- dimensions

-- where all follow, each does
pub always_follow : (at : ℕ) (shape : List ℕ) → some_follow always at shape ≡ each_follows at shape
always_follow at [] = refl
always_follow at (n ∷ shape) = ap (λ ds. follows Same at n ∷ ds) (always_follow (suc at) shape)

abbrev pub may_follow : Bool → ℕ → ℕ → NestDim
may_follow b at n = if b then follows Same at n else follows_none n

extent_of_dim : (b : Bool) (at n : ℕ) → (may_follow b at n).extent ≡ n
extent_of_dim true at n = refl
extent_of_dim false at n = refl

below_dim : (b : Bool) (at n count : ℕ) → at < count → FollowsBelow count (may_follow b at n).follow
below_dim true at n count l = l
below_dim false at n count l = tt

plain_dim : (b : Bool) (at n : ℕ) → IsPlainFollow (may_follow b at n).follow
plain_dim true at n = tt
plain_dim false at n = tt

module _ (test : ℕ → Bool) where
  pub length_some : (at : ℕ) (shape : List ℕ) → length (some_follow test at shape) ≡ length shape
  length_some at [] = refl
  length_some at (n ∷ shape) = ap suc (length_some (suc at) shape)

  pub extents_some : (at : ℕ) (shape : List ℕ) → map (λ (d : NestDim). d.extent) (some_follow test at shape) ≡ shape
  extents_some at [] = refl
  extents_some at (n ∷ shape) = ap₂ ◌∷◌ (extent_of_dim (test at) at n) (extents_some (suc at) shape)

  pub below_some : (at count : ℕ) (shape : List ℕ) → at + length shape ≤ count → AllByRecursion (λ d. FollowsBelow count d.follow) (some_follow test at shape)
  below_some at count [] h = tt
  below_some at count (n ∷ shape) h = (below_dim (test at) at n count (omega (arith, h)), below_some (suc at) count shape (omega (arith, h)))

  pub plain_some : (at : ℕ) (shape : List ℕ) (w : Width) → HasNoWindows (record { dims = some_follow test at shape; width = w })
  plain_some at [] w = tt
  plain_some at (n ∷ shape) w = (plain_dim (test at) at n, plain_some (suc at) shape w)

  -- ---- loops

  pub length_loops : (at : ℕ) (shape : List ℕ) → length (loops_where test at shape) ≡ length shape
  length_loops at [] = refl
  length_loops at (n ∷ shape) = ap suc (length_loops (suc at) shape)

  pub small_loops : (at : ℕ) (shape : List ℕ) → AllByRecursion (λ (d : Dimension). d.extent ≤ max_cells) (map unsplit shape) → AllByRecursion (λ (l : Loop). l.extent ≤ max_cells) (loops_where test at shape)
  small_loops at [] h = tt
  small_loops at (n ∷ shape) h = (h.0, small_loops (suc at) shape h.1)

  -- a loop, and the dimension that follows it
  pub record IsLoopOf (shape : List ℕ) (at l : ℕ) (loop : Loop) : Type 0 where
    pub extent : ℕ
    pub is : loop ≡ parallel (test (at + l)) extent
    pub follows_it : slice_get (each_follows at shape) l ≡ Some (follows Same (at + l) extent)

  pub loop_of : (shape : List ℕ) (at l : ℕ) (loop : Loop) → slice_get (loops_where test at shape) l ≡ Some loop → IsLoopOf shape at l loop
  loop_of [] at l loop e = absurd (cc)
  loop_of (n ∷ shape) at zero loop e =
      let here : at ≡ at + 0 = omega arith in
      record {
        extent = n;
        is = sym (same_Some (parallel (test at) n) loop e) ∙ ap (λ l. parallel (test l) n) here;
        follows_it = ap (λ l. Some (follows Same l n)) here;
      }
  loop_of (n ∷ shape) at (suc l) loop e =
      let rest = loop_of shape (suc at) l loop e in
      let here : suc at + l ≡ at + suc l = omega arith in
      record {
        extent = rest.extent;
        is = rest.is ∙ ap (λ l. parallel (test l) rest.extent) here;
        follows_it = rest.follows_it ∙ ap (λ l. Some (follows Same l rest.extent)) here;
      }

  pub loop_in : (at : ℕ) (shape : List ℕ) (l : ℕ) (d : Loop) → l < length shape → get_or (loops_where test at shape) l d ≡ parallel (test (at + l)) (get_or shape l 0)
  loop_in at [] l d le = absurd (omega arith)
  loop_in at (n ∷ shape) zero d le = let here : at ≡ at + 0 = omega arith in ap (λ k. parallel (test k) n) here
  loop_in at (n ∷ shape) (suc l) d le = let here : suc at + l ≡ at + suc l = omega arith in loop_in (suc at) shape l d (omega arith) ∙ ap (λ k. parallel (test k) (get_or shape l 0)) here

  pub dim_in : (at : ℕ) (shape : List ℕ) (i : ℕ) (d : NestDim) → i < length shape → get_or (some_follow test at shape) i d ≡ may_follow (test (at + i)) (at + i) (get_or shape i 0)
  dim_in at [] i d le = absurd (omega arith)
  dim_in at (n ∷ shape) zero d le = let here : at ≡ at + 0 = omega arith in ap (λ k. may_follow (test k) k n) here
  dim_in at (n ∷ shape) (suc i) d le = let here : suc at + i ≡ at + suc i = omega arith in dim_in (suc at) shape i d (omega arith) ∙ ap (λ k. may_follow (test k) k (get_or shape i 0)) here

-- ---- how they are divided

abbrev pub part_by : List ℕ → ℕ → Bool → Option Split → Dimension
part_by g n false x = unsplit n
part_by g n true None = unsplit n
part_by g n true (Some split) = scaled_dimension g n split 1

module _ (g loops : List ℕ) (o : OptionValue) (all : List ℕ) where
  abbrev pub parts : (ℕ → Bool) → ℕ → List ℕ → List Dimension
  parts test at [] = []
  parts test at (n ∷ shape) = part_by g n (test at) (split_at o at) ∷ parts test (suc at) shape

  one_part : (b : Bool) (at n : ℕ) → followed g loops o all at (may_follow b at n).extent (may_follow b at n).follow ≡ part_by g n b (split_at o at)
  one_part false at n = refl
  one_part true at n = go (split_at o at)
    where
      go : (x : Option Split) → elim x [ None ↦ unsplit n | Some split ↦ scaled_dimension g n split 1 ] ≡ part_by g n true x
      go None = refl
      go (Some split) = refl

  pub parts_are : (test : ℕ → Bool) (at : ℕ) (shape : List ℕ) → divided g loops o all at (some_follow test at shape) ≡ parts test at shape
  parts_are test at [] = refl
  parts_are test at (n ∷ shape) = ap₂ ◌∷◌ (one_part (test at) at n) (parts_are test (suc at) shape)

-- a loop that is split is splittable
splittable_at : (g : List ℕ) (loop : Loop) (x : Option Split) (split : Split) → MayBeSplit g loop x → x ≡ Some split → loop.splittable ≡ true
splittable_at g loop (Some s) split h e = h.0
splittable_at g loop None split h e = absurd (cc)

pub split_test : (g : List ℕ) (test : ℕ → Bool) (shape : List ℕ) (o : OptionValue) (l : ℕ) (split : Split) → AreSplits g (loops_where test 0 shape) o → l < length shape → split_at o l ≡ Some split → test l ≡ true
split_test g test shape o l split h below e =
    let none : Loop = record { extent = 0; splittable = false; kind = None } in
    let count = length_loops test 0 shape in
    let may = split_in g (loops_where test 0 shape) o none l h (omega (arith, count, below)) in
    let is = loop_in test 0 shape l none below in
    let same : get_or o l None ≡ Some split = sym (unwrap_or-slice_get o l None) ∙ e in
    let zero_first : 0 + l ≡ l = omega arith in
    ap test (sym zero_first) ∙ sym (ap (λ (x : Loop). x.splittable) is) ∙ splittable_at g (get_or (loops_where test 0 shape) l none) (get_or o l None) split may same
