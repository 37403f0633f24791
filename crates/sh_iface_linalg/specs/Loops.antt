-- The loops of a structured operation are in order: each may be split only where a dimension follows it.
use Rattle.std.proofs.Common.{◌≡◌, ℕ, zero, suc, ◌+◌, ◌<◌, ◌≤◌, Bool, true, false, ◌==◌, List, [], ◌∷◌, ◌++◌, map, length, Some, None, refl, ap, sym, ◌∙◌, arith, subst, inl, inr}
use Rattle.std.proofs.lemmas.Bool.{cases_Bool}
use Rattle.std.proofs.lemmas.List.{length-map}
use Rattle.std.proofs.lemmas.Option.{same_Some}
use Rattle.std.specs.List.{AllByRecursion, range_with_len}
use Rattle.std.specs.Prelude.{◌||◌, get_or, is_some, slice_get, if◌then◌else◌}
use Rattle.sh_base.specs.Shape.{max_cells}
use Rattle.sh_nest_laws.specs.LoopSplits.{Operand, names}
use Rattle.sh_sharding.specs.declared.shardings.Dimension.{Dimension}
use Rattle.sh_sharding.specs.Sharding.{counted_cells, unsplit}
use Rattle.sh_sharding.proofs.PartLaws.{extents_few}
use Rattle.sh_nest_laws.proofs.Literally.{test_same}
use Rattle.sh_iface.specs.declared.options.How.TheVariants.{Same}
use Rattle.sh_iface.specs.Lawful.{FollowsBelow, IsFollowed, IsNest, IsNestValue}
use Rattle.sh_iface.specs.LoopNest.{HasNoWindows, IsPlainNest, Loop, NestDim, NestValue}
use Rattle.sh_iface.specs.Table.{follows}
use Rattle.sh_iface_linalg.specs.Structured.{Form, IsFollowing, IsStructured, Structured, is_fill, is_named, kind_of_form, loop_by, shape_by, structured_nest, tensor_ins, value_by}
use Rattle.sh_iface_linalg.specs.Structured.{fill, matmul, batch_matmul, matvec, vecmat, dot, transpose, broadcast, reduce, generic}

-- ---- lists

pub either : (a b : Bool) → (a || b) ≡ true → (a ≡ true → ⊥) → b ≡ true
either true b h none = absurd (none refl)
either false b h none = h

pub either_way : (a b : Bool) → b ≡ true → (a || b) ≡ true
either_way true b h = refl
either_way false b h = h

-- what is at a number of a list made by the numbers of a range
pub made_at : {X : Type 0} (f : ℕ → X) (b n l : ℕ) (x : X) → slice_get (map f (range_with_len b n)) l ≡ Some x → x ≡ f (b + l)
made_at f b zero l x e = absurd (cc)
made_at f b (suc n) zero x e = sym (same_Some (f b) x e) ∙ (let z : b ≡ b + 0 = omega arith in ap f z)
made_at f b (suc n) (suc l) x e = made_at f (b + 1) n l x e ∙ (let z : b + 1 + l ≡ b + suc l = omega arith in ap f z)

pub made_first : {X : Type 0} (f : ℕ → X) (n l : ℕ) (x : X) → slice_get (map f (range_with_len 0 n)) l ≡ Some x → x ≡ f l
made_first f n l x e = made_at f 0 n l x e ∙ (let z : 0 + l ≡ l = omega arith in ap f z)

pub made_all : {X : Type 0} (P : X → Type 0) (f : ℕ → X) (b n : ℕ) → ((l : ℕ) → l < n → P (f (b + l))) → AllByRecursion P (map f (range_with_len b n))
made_all P f b zero h = tt
made_all P f b (suc n) h = (
  let z : b + 0 ≡ b = omega arith in subst (λ k. P (f k)) z (h 0 (omega arith)),
  made_all P f (b + 1) n (λ l le. let z : b + suc l ≡ b + 1 + l = omega arith in subst (λ k. P (f k)) z (h (suc l) (omega arith))),
)

pub got_all : {X : Type 0} (P : X → Type 0) (xs : List X) (d : X) (i : ℕ) → AllByRecursion P xs → P d → P (get_or xs i d)
got_all P [] d i h p = p
got_all P (x ∷ xs) d zero h p = h.0
got_all P (x ∷ xs) d (suc i) h p = got_all P xs d i h.1 p

pub all_mapped : {X Y : Type 0} (P : Y → Type 0) (f : X → Y) (xs : List X) → AllByRecursion (λ x. P (f x)) xs → AllByRecursion P (map f xs)
all_mapped P f [] h = tt
all_mapped P f (x ∷ xs) h = (h.0, all_mapped P f xs h.1)

pub all_unmapped : {X Y : Type 0} (P : Y → Type 0) (f : X → Y) (xs : List X) → AllByRecursion P (map f xs) → AllByRecursion (λ x. P (f x)) xs
all_unmapped P f [] h = tt
all_unmapped P f (x ∷ xs) h = (h.0, all_unmapped P f xs h.1)

pub all_then : {X : Type 0} (P Q : X → Type 0) (xs : List X) → ((x : X) → P x → Q x) → AllByRecursion P xs → AllByRecursion Q xs
all_then P Q [] f h = tt
all_then P Q (x ∷ xs) f h = (f x h.0, all_then P Q xs f h.1)

pub all_joined : {X : Type 0} (P : X → Type 0) (xs : List X) (x : X) → AllByRecursion P xs → P x → AllByRecursion P (xs ++ x ∷ [])
all_joined P [] x h p = (p, tt)
all_joined P (y ∷ xs) x h p = (h.0, all_joined P xs x h.1 p)

pub map_twice : {X Y Z : Type 0} (f : Y → Z) (h : X → Y) (xs : List X) → map f (map h xs) ≡ map (λ x. f (h x)) xs
map_twice f h [] = refl
map_twice f h (x ∷ xs) = ap (λ ys. f (h x) ∷ ys) (map_twice f h xs)

pub length-range : (b n : ℕ) → length (range_with_len b n) ≡ n
length-range b zero = refl
length-range b (suc n) = ap suc (length-range (b + 1) n)

-- what holds of each loop that is listed
pub of_listed : (P : ℕ → Type 0) (dims : List ℕ) (l : ℕ) → AllByRecursion P dims → names dims l ≡ true → P l
of_listed P [] l h e = absurd (cc)
of_listed P (k ∷ dims) l h e =
    elim (cases_Bool (k == l)) [
      | inl b ↦ subst P (test_same k l b) h.0
      | inr b ↦ of_listed P dims l h.1 (either (k == l) (names dims l) e (λ t. absurd (cc)))
    ]

-- and of each that an input or the output follows
pub of_named : (P : ℕ → Type 0) (ins : List Operand) (out : Operand) (l : ℕ) → AllByRecursion (λ x. AllByRecursion P x.dims) ins → AllByRecursion P out.dims → is_named ins out l ≡ true → P l
of_named P [] out l h o e = of_listed P out.dims l o e
of_named P (x ∷ ins) out l h o e =
    elim (cases_Bool (names x.dims l)) [
      | inl b ↦ of_listed P x.dims l h.0 b
      | inr b ↦ of_named P ins out l h.1 o (either (names x.dims l) (is_named ins out l) e (λ t. absurd (cc)))
    ]

-- ---- extents

extents-whole : (shape : List ℕ) → map (λ (d : Dimension). d.extent) (map unsplit shape) ≡ shape
extents-whole [] = refl
extents-whole (n ∷ shape) = ap (λ ns. n ∷ ns) (extents-whole shape)

small_dims : (extents dims : List ℕ) → AllByRecursion (λ (d : Dimension). d.extent ≤ max_cells) (map unsplit (shape_by extents dims)) → AllByRecursion (λ l. get_or extents l 0 ≤ max_cells) dims
small_dims extents [] h = tt
small_dims extents (l ∷ dims) h = (h.0, small_dims extents dims h.1)

pub small_extents : (extents : List ℕ) (x : Operand) → IsFollowing extents x → AllByRecursion (λ l. get_or extents l 0 ≤ max_cells) x.dims
small_extents extents x is =
    small_dims extents x.dims (extents_few (map unsplit (shape_by extents x.dims)) max_cells (subst (λ ns. counted_cells ns ≤ max_cells) (sym (extents-whole (shape_by extents x.dims))) is.small))

-- ---- values

shape_is : (extents dims : List ℕ) → map (λ (d : NestDim). d.extent) (map (λ l. follows Same l (get_or extents l 0)) dims) ≡ shape_by extents dims
shape_is extents [] = refl
shape_is extents (l ∷ dims) = ap (λ ns. get_or extents l 0 ∷ ns) (shape_is extents dims)

follows_below : (count : ℕ) (extents dims : List ℕ) → AllByRecursion (λ l. l < count) dims → AllByRecursion (λ (d : NestDim). FollowsBelow count d.follow) (map (λ l. follows Same l (get_or extents l 0)) dims)
follows_below count extents [] h = tt
follows_below count extents (l ∷ dims) h = (h.0, follows_below count extents dims h.1)

is_value : (extents : List ℕ) (count : ℕ) (x : Operand) → count ≡ length extents → IsFollowing extents x → IsNestValue count (value_by extents x)
is_value extents count x same is =
    let long : length (map (λ l. follows Same l (get_or extents l 0)) x.dims) ≡ length x.dims = length-map x.dims (λ l. follows Same l (get_or extents l 0)) in
    let short = is.short in
    record {
      short = omega (arith, long, short);
      small = subst (λ ns. counted_cells ns ≤ max_cells) (sym (shape_is extents x.dims)) is.small;
      below = follows_below count extents x.dims (subst (λ n. AllByRecursion (λ l. l < n) x.dims) (sym same) is.below);
    }

-- the inputs that are tensors
pub tensors_of : (P : Operand → Type 0) (e : Structured) → AllByRecursion P e.ins → AllByRecursion P (tensor_ins e)
tensors_of P e h = go (is_fill e.form)
  where
    go : (b : Bool) → AllByRecursion P (if b then [] else e.ins)
    go true = tt
    go false = h

-- ---- what follows a loop

record IsListed (extents dims : List ℕ) (l : ℕ) : Type 0 where
  dim : ℕ
  at : slice_get (map (λ k. follows Same k (get_or extents k 0)) dims) dim ≡ Some (follows Same l (get_or extents l 0))

listed : (extents dims : List ℕ) (l : ℕ) → names dims l ≡ true → IsListed extents dims l
listed extents [] l e = absurd (cc)
listed extents (k ∷ dims) l e =
    elim (cases_Bool (k == l)) [
      | inl b ↦ record { dim = 0; at = ap (λ j. Some (follows Same j (get_or extents j 0))) (test_same k l b) }
      | inr b ↦
          let rest = listed extents dims l (either (k == l) (names dims l) e (λ t. absurd (cc))) in
          record { dim = suc rest.dim; at = rest.at }
    ]

record IsFound (extents : List ℕ) (values : List NestValue) (result : NestValue) (l : ℕ) : Type 0 where
  value : ℕ
  there : value ≤ length values
  dim : ℕ
  at : slice_get (get_or values value result).dims dim ≡ Some (follows Same l (get_or extents l 0))

found : (extents : List ℕ) (ins : List Operand) (out : Operand) (result : NestValue) (l : ℕ) → is_named ins out l ≡ true → IsFound extents (map (value_by extents) (ins ++ out ∷ [])) result l
found extents [] out result l e = let here = listed extents out.dims l e in record { value = 0; there = omega arith; dim = here.dim; at = here.at }
found extents (x ∷ ins) out result l e =
    elim (cases_Bool (names x.dims l)) [
      | inl b ↦ let here = listed extents x.dims l b in record { value = 0; there = omega arith; dim = here.dim; at = here.at }
      | inr b ↦
          let rest = found extents ins out result l (either (names x.dims l) (is_named ins out l) e (λ t. absurd (cc))) in
          let there = rest.there in
          record { value = suc rest.value; there = omega (arith, there); dim = rest.dim; at = rest.at }
    ]

-- ---- a loop that may be split is followed by a tensor

named_still : (ins : List Operand) (out : Operand) (l : ℕ) → names out.dims l ≡ true → is_named ins out l ≡ true
named_still [] out l e = e
named_still (x ∷ ins) out l e = either_way (names x.dims l) (is_named ins out l) (named_still ins out l e)

pub has_kind : (form : Form) → is_some (kind_of_form form) ≡ true → is_fill form ≡ false
has_kind fill h = absurd (cc)
has_kind matmul h = refl
has_kind batch_matmul h = refl
has_kind matvec h = refl
has_kind vecmat h = refl
has_kind dot h = refl
has_kind (transpose p) h = absurd (cc)
has_kind (broadcast d) h = absurd (cc)
has_kind (reduce n d r) h = refl
has_kind (generic maps its r) h = refl

tensor_named : (e : Structured) → IsStructured e → (l : ℕ) → l < length e.extents → (loop_by e l).splittable ≡ true → is_named (tensor_ins e) e.out l ≡ true
tensor_named e is l lt may =
    elim (cases_Bool (names e.out.dims l)) [
      | inl b ↦ named_still (tensor_ins e) e.out l b
      | inr b ↦
          let kind : is_some (kind_of_form e.form) ≡ true = subst (λ (t : Bool). (t || is_some (if t then None else kind_of_form e.form)) ≡ true) b may in
          subst (λ (t : Bool). is_named (if t then [] else e.ins) e.out l ≡ true) (sym (has_kind e.form kind)) (is.named l lt)
    ]

module _ (e : Structured) (is : IsStructured e) where
  pub loops_counted : length (structured_nest e).loops ≡ length e.extents
  unfolding structured_nest
  loops_counted = length-map (range_with_len 0 (length e.extents)) (loop_by e) ∙ length-range 0 (length e.extents)

  loop_small : (l : ℕ) → l < length e.extents → get_or e.extents l 0 ≤ max_cells
  loop_small l lt = of_named (λ k. get_or e.extents k 0 ≤ max_cells) e.ins e.out l (all_then _ _ e.ins (λ x h. small_extents e.extents x h) is.ins) (small_extents e.extents e.out is.out) (is.named l lt)

  followed_loop : (l : ℕ) (loop : Loop) → slice_get (structured_nest e).loops l ≡ Some loop → loop.splittable ≡ true → l < length e.extents → IsFollowed (structured_nest e) l
  unfolding structured_nest
  followed_loop l loop at may lt =
      let same : loop ≡ loop_by e l = made_first (loop_by e) (length e.extents) l loop at in
      let it = found e.extents (tensor_ins e) e.out (value_by e.extents e.out) l (tensor_named e is l lt (sym (ap (λ (x : Loop). x.splittable) same) ∙ may)) in
      record {
        value = it.value;
        there = it.there;
        dim = it.dim;
        found = follows Same l (get_or e.extents l 0);
        at = it.at;
        follows = refl;
        extent = λ other h. ap (λ (x : Loop). x.extent) (made_first (loop_by e) (length e.extents) l other h);
      }

  below_loops : (l : ℕ) (loop : Loop) → slice_get (structured_nest e).loops l ≡ Some loop → l < length (structured_nest e).loops
  below_loops l loop at = go (structured_nest e).loops l at
    where
      go : (loops : List Loop) (l : ℕ) → slice_get loops l ≡ Some loop → l < length loops
      go [] l at = absurd (cc)
      go (x ∷ loops) zero at = omega arith
      go (x ∷ loops) (suc l) at = let rest = go loops l at in omega (arith, rest)

  pub nest_in_order : IsNest (structured_nest e)
  unfolding structured_nest
  nest_in_order =
      let count = loops_counted in
      let few = is.few in
      record {
        few = omega (arith, count, few);
        small = made_all (λ (loop : Loop). loop.extent ≤ max_cells) (loop_by e) 0 (length e.extents) (λ l lt. loop_small (0 + l) (omega (arith, lt)));
        values = λ v le.
            got_all (IsNestValue (length (structured_nest e).loops)) (map (value_by e.extents) (tensor_ins e ++ e.out ∷ [])) (value_by e.extents e.out) v
            (all_mapped (IsNestValue (length (structured_nest e).loops)) (value_by e.extents) (tensor_ins e ++ e.out ∷ [])
            (all_joined _ (tensor_ins e) e.out (tensors_of _ e (all_then _ _ e.ins (λ x h. is_value e.extents (length (structured_nest e).loops) x count h) is.ins)) (is_value e.extents (length (structured_nest e).loops) e.out count is.out)))
            (is_value e.extents (length (structured_nest e).loops) e.out count is.out);
        splittable = λ l loop at may. let le = below_loops l loop at in followed_loop l loop at may (omega (arith, le, count));
      }

-- ---- none is read through a window

plain_dims : (extents dims : List ℕ) (w : _) → HasNoWindows (record { dims = map (λ l. follows Same l (get_or extents l 0)) dims; width = w })
plain_dims extents [] w = tt
plain_dims extents (l ∷ dims) w = (tt, plain_dims extents dims w)

pub plain_value : (extents : List ℕ) (x : Operand) → HasNoWindows (value_by extents x)
plain_value extents x = plain_dims extents x.dims x.width

pub plain_nest : (e : Structured) → IsPlainNest (structured_nest e)
unfolding structured_nest
plain_nest e = (all_mapped HasNoWindows (value_by e.extents) (tensor_ins e ++ e.out ∷ []) (each (tensor_ins e ++ e.out ∷ [])), plain_value e.extents e.out)
  where
    each : (xs : List Operand) → AllByRecursion (λ x. HasNoWindows (value_by e.extents x)) xs
    each [] = tt
    each (x ∷ xs) = (plain_value e.extents x, each xs)
