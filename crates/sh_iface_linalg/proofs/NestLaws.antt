-- What the loop nest of a structured operation says of each loop and each dimension.
use Rattle.std.proofs.Common.{◌≡◌, ℕ, zero, suc, ◌+◌, ◌-◌, ◌<◌, ◌≤◌, Bool, true, false, ◌==◌, List, [], ◌∷◌, ◌++◌, map, take, drop, length, Option, Some, None, refl, ap, ap₂, sym, ◌∙◌, arith, subst, inl, inr}
use Rattle.std.proofs.lemmas.Bool.{cases_Bool}
use Rattle.std.proofs.lemmas.Bool.Decides.{nat_tests}
use Rattle.std.proofs.lemmas.List.{get_or_past, length-append, length-map}
use Rattle.std.specs.List.{AllByRecursion, position_or_len, range_with_len}
use Rattle.std.specs.Prelude.{◌&&◌, ◌||◌, get_or, is_some, nat_eq, nat_lt, slice_get, unwrap_or, if◌then◌else◌}
use Rattle.sh_base.specs.declared.operations.Kind.{Kind}
use Rattle.sh_grid.specs.Grid.{GridValue}
use Rattle.sh_ir.specs.declared.operations.Op.{Op}
use Rattle.sh_ir.specs.declared.types.Dim.{Dim}
use Rattle.sh_ir.specs.declared.types.ValueType.{ValueType}
use Rattle.sh_ir.specs.Loops.{places_in}
use Rattle.sh_nest_laws.specs.LoopSplits.{Operand, names}
use Rattle.sh_sharding.specs.LocalTypes.{local_dims}
use Rattle.sh_sharding.specs.Sharding.{ShardingValue}
use Rattle.sh_iface.specs.declared.options.How.TheVariants.{Same}
use Rattle.sh_iface.specs.declared.options.Split.{Split}
use Rattle.sh_iface.specs.Elements.{tensor_of}
use Rattle.sh_iface.specs.LoopNest.{HasNoWindows, Loop, NestValue, dim_at, loop_at, value_at}
use Rattle.sh_iface.specs.Splits.{OptionValue, implied_of, split_at}
use Rattle.sh_iface.specs.Table.{follows}
use Rattle.sh_iface_linalg.specs.Divisions.{dims_local, implied_is}
use Rattle.sh_iface_linalg.specs.Ifaces.{value_in}
use Rattle.sh_iface_linalg.specs.Loops.{got_all, length-range, plain_value as plain_of_value, tensors_of}
use Rattle.sh_iface_linalg.specs.Structured.{IsFollowing, IsStructured, Structured, combining_kind, fill_op, kind_of_form, local_loop, loop_by, neutral_op, op_by, operands_in, part_by, part_names, reducing_names, reducing_ops, splits_reduction, structured_nest, structured_part, tensor_ins, value_by}

-- ---- lists

got_made : {X : Type 0} (f : ℕ → X) (b n l : ℕ) (d : X) → l < n → get_or (map f (range_with_len b n)) l d ≡ f (b + l)
got_made f b zero l d lt = absurd (omega arith)
got_made f b (suc n) zero d lt = let z : b ≡ b + 0 = omega arith in ap f z
got_made f b (suc n) (suc l) d lt = got_made f (b + 1) n l d (omega (arith, lt)) ∙ (let z : b + 1 + l ≡ b + suc l = omega arith in ap f z)

got_joined : {X Y : Type 0} (f : X → Y) (xs : List X) (x : X) (v : ℕ) → get_or (map f (xs ++ x ∷ [])) v (f x) ≡ f (get_or xs v x)
got_joined f [] x zero = refl
got_joined f [] x (suc v) = refl
got_joined f (y ∷ xs) x zero = refl
got_joined f (y ∷ xs) x (suc v) = got_joined f xs x v

pub got_mapped : {X Y : Type 0} (f : X → Y) (xs : List X) (i : ℕ) (x : X) (y : Y) → i < length xs → get_or (map f xs) i y ≡ f (get_or xs i x)
got_mapped f [] i x y lt = absurd (omega arith)
got_mapped f (z ∷ xs) zero x y lt = refl
got_mapped f (z ∷ xs) (suc i) x y lt = got_mapped f xs i x y (omega (arith, lt))

pub got_range : (n i : ℕ) → i < n → get_or (range_with_len 0 n) i 0 ≡ i
got_range n i lt = go 0 n i lt ∙ (let z : 0 + i ≡ i = omega arith in z)
  where
    go : (b n i : ℕ) → i < n → get_or (range_with_len b n) i 0 ≡ b + i
    go b zero i lt = absurd (omega arith)
    go b (suc n) zero lt = omega arith
    go b (suc n) (suc i) lt = go (b + 1) n i (omega (arith, lt)) ∙ (let z : b + 1 + i ≡ b + suc i = omega arith in z)

pub names_range : (n l : ℕ) → names (range_with_len 0 n) l ≡ nat_lt l n
names_range n l =
    elim (cases_Bool (nat_lt l n)) [
      | inl b ↦ here 0 n (grind (arith, nat_tests)) (grind (arith, nat_tests)) ∙ sym b
      | inr b ↦ past 0 n (grind (arith, nat_tests)) ∙ sym b
    ]
  where
    here : (b n : ℕ) → b ≤ l → l < b + n → names (range_with_len b n) l ≡ true
    here b zero low high = absurd (omega (arith, low, high))
    here b (suc n) low high =
        elim (cases_Bool (b == l)) [
          | inl e ↦ ap (λ t. t || names (range_with_len (b + 1) n) l) e
          | inr e ↦
              ap (λ t. t || names (range_with_len (b + 1) n) l) e
              ∙ (let other : (b ≡ l) → ⊥ = grind (arith, nat_tests) in here (b + 1) n (omega (arith, low, other)) (omega (arith, high)))
        ]

    past : (b n : ℕ) → b + n ≤ l → names (range_with_len b n) l ≡ false
    past b zero le = refl
    past b (suc n) le =
        let other : (b == l) ≡ false = grind (arith, nat_tests) in
        ap (λ t. t || names (range_with_len (b + 1) n) l) other ∙ past (b + 1) n (omega (arith, le))

pub taken_next : {X Y : Type 0} (f : X → Y) (xs : List X) (i : ℕ) (x : X) (ys zs : List Y) (y : Y) → i < length xs → ys ≡ map f (take i xs) → y ≡ f (get_or xs i x) → zs ≡ ys ++ y ∷ [] → zs ≡ map f (take (i + 1) xs)
taken_next f xs i x ys zs y lt so_far one made = made ∙ ap₂ (λ a b. a ++ b ∷ []) so_far one ∙ go xs i lt
  where
    go : (xs : List _) (i : ℕ) → i < length xs → map f (take i xs) ++ f (get_or xs i x) ∷ [] ≡ map f (take (i + 1) xs)
    go [] i lt = absurd (omega arith)
    go (z ∷ xs) zero lt = refl
    go (z ∷ xs) (suc i) lt =
        let more : suc i + 1 ≡ suc (i + 1) = omega arith in
        ap (λ ys. f z ∷ ys) (go xs i (omega (arith, lt))) ∙ ap (λ n. map f (take n (z ∷ xs))) (sym more)

-- ---- the nest

module _ (e : Structured) where
  pub operands_counted : length (structured_nest e).operands ≡ length (tensor_ins e) + 1
  unfolding structured_nest
  operands_counted = length-map (tensor_ins e ++ e.out ∷ []) (value_by e.extents) ∙ length-append (tensor_ins e) (e.out ∷ [])

  pub nest_loops_counted : length (structured_nest e).loops ≡ length e.extents
  unfolding structured_nest
  nest_loops_counted = length-map (range_with_len 0 (length e.extents)) (loop_by e) ∙ length-range 0 (length e.extents)

  pub loop_is : (l : ℕ) → l < length (structured_nest e).loops → loop_at (structured_nest e) l ≡ loop_by e l
  unfolding structured_nest
  loop_is l lt = let n = nest_loops_counted in got_made (loop_by e) 0 (length e.extents) l (record { extent = 0; splittable = false; kind = None }) (omega (arith, lt, n)) ∙ (let z : 0 + l ≡ l = omega arith in ap (loop_by e) z)

  pub value_is : (v : ℕ) → value_at (structured_nest e) v ≡ value_by e.extents (value_in e v)
  unfolding structured_nest
  value_is v = got_joined (value_by e.extents) (tensor_ins e) e.out v

  pub dims_counted : (v : ℕ) → length (value_at (structured_nest e) v).dims ≡ length (value_in e v).dims
  dims_counted v = ap (λ (x : NestValue). length x.dims) (value_is v) ∙ length-map (value_in e v).dims (λ l. follows Same l (get_or e.extents l 0))

  pub dim_is : (v i : ℕ) → i < length (value_in e v).dims → dim_at (value_at (structured_nest e) v) i ≡ follows Same (get_or (value_in e v).dims i 0) (get_or e.extents (get_or (value_in e v).dims i 0) 0)
  dim_is v i lt =
      ap (λ (x : NestValue). dim_at x i) (value_is v)
      ∙ got_mapped (λ l. follows Same l (get_or e.extents l 0)) (value_in e v).dims i 0 (record { extent = 0; follow = None }) lt

  pub dim_below : (v i : ℕ) → i < length (value_at (structured_nest e) v).dims → i < length (value_in e v).dims
  dim_below v i lt = let n = dims_counted v in omega (arith, lt, n)

  pub plain_at : (v : ℕ) → HasNoWindows (value_at (structured_nest e) v)
  plain_at v = subst HasNoWindows (sym (value_is v)) (plain_of_value e.extents (value_in e v))

  pub loop_below : IsStructured e → (v i : ℕ) → i < length (value_in e v).dims → get_or (value_in e v).dims i 0 < length e.extents
  loop_below is v i lt =
      let following : IsFollowing e.extents (value_in e v) = got_all (IsFollowing e.extents) (tensor_ins e) e.out v (tensors_of (IsFollowing e.extents) e is.ins) is.out in
      go (value_in e v).dims i following.below lt
    where
      go : (dims : List ℕ) (i : ℕ) → AllByRecursion (λ l. l < length e.extents) dims → i < length dims → get_or dims i 0 < length e.extents
      go [] i h lt = absurd (omega arith)
      go (l ∷ dims) zero h lt = h.0
      go (l ∷ dims) (suc i) h lt = go dims i h.1 (omega (arith, lt))

  -- the local type of a value
  pub type_of : (g : GridValue) (o : OptionValue) (v : ℕ) (s : ShardingValue) (t : ValueType) → s ≡ implied_of g (structured_nest e) o (value_at (structured_nest e) v) → t ≡ tensor_of (local_dims s) (value_in e v).width
      → t ≡ tensor_of (map (local_loop e.extents g o) (value_in e v).dims) (value_in e v).width
  type_of g o v s t split made =
      made
      ∙ ap (λ (x : ShardingValue). tensor_of (local_dims x) (value_in e v).width) (split ∙ ap (implied_of g (structured_nest e) o) (value_is v) ∙ implied_is g (structured_nest e) o e.extents (value_in e v))
      ∙ ap (λ ds. tensor_of ds (value_in e v).width) (dims_local g o e.extents (value_in e v).dims)

-- ---- reduction loops that are split

dropped : (n : ℕ) → drop {A = Option Split} n [] ≡ []
dropped zero = refl
dropped (suc n) = refl

one_more : (loops : List Loop) (o : OptionValue) (l : ℕ) (d : Loop) → l < length loops
    → splits_reduction (drop l loops) (drop l o) ≡ ((is_some (get_or loops l d).kind && is_some (split_at o l)) || splits_reduction (drop (l + 1) loops) (drop (l + 1) o))
one_more [] o l d lt = absurd (omega arith)
one_more (loop ∷ loops) [] zero d lt = sym (none_split loops (is_some loop.kind))
  where
    none_split : (loops : List Loop) (b : Bool) → ((b && false) || splits_reduction loops []) ≡ false
    none_split [] true = refl
    none_split [] false = refl
    none_split (x ∷ loops) true = refl
    none_split (x ∷ loops) false = refl
one_more (loop ∷ loops) (x ∷ o) zero d lt = refl
one_more (loop ∷ loops) [] (suc l) d lt =
    let next : suc l + 1 ≡ suc (l + 1) = omega arith in
    ap (splits_reduction (drop l loops)) (sym (dropped l)) ∙ one_more loops [] l d (omega (arith, lt))
    ∙ ap₂ (λ xs ys. (is_some (get_or loops l d).kind && false) || splits_reduction xs ys) (ap (λ n. drop n (loop ∷ loops)) (sym next)) (dropped (l + 1) ∙ sym (dropped (suc l + 1)))
one_more (loop ∷ loops) (x ∷ o) (suc l) d lt =
    let next : suc l + 1 ≡ suc (l + 1) = omega arith in
    one_more loops o l d (omega (arith, lt))
    ∙ ap (λ n. (is_some (get_or loops l d).kind && is_some (split_at o l)) || splits_reduction (drop n (loop ∷ loops)) (drop n (x ∷ o))) (sym next)

none_left : (loops : List Loop) (o : OptionValue) (l : ℕ) → length loops ≤ l → splits_reduction (drop l loops) (drop l o) ≡ false
none_left [] o zero le = refl
none_left [] o (suc l) le = refl
none_left (loop ∷ loops) o zero le = absurd (omega (arith, le))
none_left (loop ∷ loops) [] (suc l) le = ap (splits_reduction (drop l loops)) (sym (dropped l)) ∙ none_left loops [] l (omega (arith, le))
none_left (loop ∷ loops) (x ∷ o) (suc l) le = none_left loops o l (omega (arith, le))

-- ---- whether a loop may be split

pub may_split : (t : Bool) (k : Option Kind) → (t || is_some (if t then None else k)) ≡ (t || is_some k)
may_split true k = refl
may_split false k = refl

module _ (e : Structured) (n : ℕ) (dims : e.out.dims ≡ range_with_len 0 n) where
  splittable_is : (l : ℕ) → (loop_by e l).splittable ≡ (nat_lt l n || is_some (kind_of_form e.form))
  splittable_is l =
      ap (λ t. t || is_some (if t then None else kind_of_form e.form)) (ap (λ ds. names ds l) dims ∙ names_range n l)
      ∙ may_split (nat_lt l n) (kind_of_form e.form)

  pub parallel_split : (l : ℕ) → l < n → true ≡ (loop_by e l).splittable
  parallel_split l lt = let test : nat_lt l n ≡ true = grind (arith, nat_tests) in sym (splittable_is l ∙ ap (λ t. t || is_some (kind_of_form e.form)) test)

  pub reduced_split : (l : ℕ) → n ≤ l → is_some (kind_of_form e.form) ≡ (loop_by e l).splittable
  reduced_split l le = let test : nat_lt l n ≡ false = grind (arith, nat_tests) in sym (splittable_is l ∙ ap (λ t. t || is_some (kind_of_form e.form)) test)

-- the loop of a dimension of the result
pub result_loop : (e : Structured) (n : ℕ) → e.out.dims ≡ range_with_len 0 n → (v i : ℕ) → length (tensor_ins e) ≤ v → i < length (value_in e v).dims → i ≡ get_or (value_in e v).dims i 0
result_loop e n dims v i past lt =
    let same : value_in e v ≡ e.out = get_or_past (tensor_ins e) v e.out past in
    let all : (value_in e v).dims ≡ range_with_len 0 n = ap (λ (x : Operand). x.dims) same ∙ dims in
    let count : length (value_in e v).dims ≡ n = ap length all ∙ length-range 0 n in
    sym (ap (λ ds. get_or ds i 0) all ∙ got_range n i (omega (arith, lt, count)))

-- ---- whether a loop that is reduced is split

module _ (e : Structured) (o : OptionValue) where
  abbrev loops : List Loop
  loops = (structured_nest e).loops

  here_is : (l : ℕ) (b : Bool) → l < length e.extents → b ≡ (is_some (loop_by e l).kind && is_some (split_at o l))
      → splits_reduction (drop l loops) (drop l o) ≡ (b || splits_reduction (drop (l + 1) loops) (drop (l + 1) o))
  here_is l b lt is =
      let n = nest_loops_counted e in
      let d : Loop = record { extent = 0; splittable = false; kind = None } in
      one_more loops o l d (omega (arith, n, lt))
      ∙ ap (λ t. t || splits_reduction (drop (l + 1) loops) (drop (l + 1) o))
      (ap (λ (loop : Loop). is_some loop.kind && is_some (split_at o l)) (loop_is e l (omega (arith, n, lt))) ∙ sym is)

  pub found_split : (l : ℕ) (b whole : Bool) → l < length e.extents → b ≡ (is_some (loop_by e l).kind && is_some (split_at o l)) → b ≡ true → splits_reduction (drop l loops) (drop l o) ≡ whole → true ≡ whole
  found_split l b whole lt is set so_far = sym (here_is l b lt is ∙ ap (λ t. t || splits_reduction (drop (l + 1) loops) (drop (l + 1) o)) set) ∙ so_far

  pub next_split : (l : ℕ) (b whole : Bool) → l < length e.extents → b ≡ (is_some (loop_by e l).kind && is_some (split_at o l)) → b ≡ false → splits_reduction (drop l loops) (drop l o) ≡ whole
      → splits_reduction (drop (l + 1) loops) (drop (l + 1) o) ≡ whole
  next_split l b whole lt is unset so_far = sym (here_is l b lt is ∙ ap (λ t. t || splits_reduction (drop (l + 1) loops) (drop (l + 1) o)) unset) ∙ so_far

  pub end_split : (l : ℕ) (whole : Bool) → length e.extents ≤ l → splits_reduction (drop l loops) (drop l o) ≡ whole → false ≡ whole
  end_split l whole le so_far = let n = nest_loops_counted e in sym (none_left loops o l (omega (arith, n, le))) ∙ so_far

  pub kind_where : (b : Bool) (k : Option Kind) → b ≡ splits_reduction loops o → b ≡ true → k ≡ kind_of_form e.form → k ≡ combining_kind e o
  unfolding combining_kind
  kind_where b k is set same = same ∙ sym (ap (λ t. if t then kind_of_form e.form else None) (sym is ∙ set))

  pub none_where : (b : Bool) → b ≡ splits_reduction loops o → b ≡ false → None ≡ combining_kind e o
  unfolding combining_kind
  none_where b is unset = sym (ap (λ t. if t then kind_of_form e.form else None) (sym is ∙ unset))

-- ---- the local part

pub reducing_named : (e : Structured) (inputs count from outs : ℕ) (ns ms ks : List ℕ) → inputs ≡ length e.ins → from ≡ inputs + 1 → count ≡ operands_in e → ns ≡ range_with_len 0 inputs → ms ≡ ns ++ outs ∷ [] → ks ≡ ms ++ range_with_len from (count - from)
    → ks ≡ reducing_names e outs
reducing_named e inputs count from outs ns ms ks same next all first second third =
    let left : count - from ≡ length e.captured = omega (arith, same, next, all) in
    third ∙ ap₂ (λ xs n. xs ++ range_with_len from n) (second ∙ ap (λ xs. xs ++ outs ∷ []) first) left
    ∙ joined (range_with_len 0 inputs) (range_with_len from (length e.captured))
    ∙ ap₂ (λ n m. range_with_len 0 n ++ outs ∷ range_with_len m (length e.captured)) same (next ∙ ap (λ n. n + 1) same)
  where
    joined : (xs ys : List ℕ) → (xs ++ outs ∷ []) ++ ys ≡ xs ++ outs ∷ ys
    joined [] ys = refl
    joined (x ∷ xs) ys = ap (λ zs. x ∷ zs) (joined xs ys)

pub reducing_made : (e : Structured) (dim : ℕ → Dim) (k : Kind) (scalar outs name : ℕ) (ns : List ℕ) (old a b d : List Op) → scalar ≡ operands_in e → outs ≡ scalar + 1 → name ≡ outs + 1 → ns ≡ reducing_names e outs
    → a ≡ old ++ neutral_op e dim k scalar ∷ [] → b ≡ a ++ fill_op e dim (length e.ins) scalar ∷ [] → d ≡ b ++ op_by e dim ns name ∷ [] → d ≡ old ++ reducing_ops e dim k
reducing_made e dim k scalar outs name ns old a b d same next last names_are first second third =
    third
    ∙ ap₂ (λ xs ms. xs ++ op_by e dim ms name ∷ []) (second ∙ ap (λ xs. xs ++ fill_op e dim (length e.ins) scalar ∷ []) first) names_are
    ∙ joined3 old (neutral_op e dim k scalar) (fill_op e dim (length e.ins) scalar) (op_by e dim (reducing_names e outs) name)
    ∙ (let two : outs ≡ suc scalar = omega (arith, next) in let three : name ≡ suc (suc scalar) = omega (arith, next, last) in
    ap₂ (λ m n. old ++ neutral_op e dim k scalar ∷ fill_op e dim (length e.ins) scalar ∷ op_by e dim (reducing_names e m) n ∷ []) two three)
    ∙ ap (λ n. old ++ neutral_op e dim k n ∷ fill_op e dim (length e.ins) n ∷ op_by e dim (reducing_names e (suc n)) (suc (suc n)) ∷ []) same
  where
    joined3 : (xs : List Op) (x y z : Op) → ((xs ++ x ∷ []) ++ y ∷ []) ++ z ∷ [] ≡ xs ++ x ∷ y ∷ z ∷ []
    joined3 [] x y z = refl
    joined3 (w ∷ xs) x y z = ap (λ ws. w ∷ ws) (joined3 xs x y z)

pub alone_made : (e : Structured) (dim : ℕ → Dim) (name : ℕ) (ns : List ℕ) (old a : List Op) → name ≡ operands_in e → ns ≡ part_names e → a ≡ old ++ op_by e dim ns name ∷ [] → a ≡ old ++ op_by e dim (part_names e) (operands_in e) ∷ []
alone_made e dim name ns old a same names_are made = made ∙ ap₂ (λ xs m. old ++ op_by e dim xs m ∷ []) names_are same

pub part_made : (e : Structured) (g : GridValue) (o : OptionValue) (k : Option Kind) (old ops : List Op) → old ≡ [] → k ≡ combining_kind e o → ops ≡ old ++ (part_by e (local_loop e.extents g o) k).ops
    → record { ops = ops; combine = k } ≡ structured_part e g o
unfolding structured_part
part_made e g o k old ops none kind made =
    ap (λ xs. record { ops = xs; combine = k }) (made ∙ ap (λ xs. xs ++ (part_by e (local_loop e.extents g o) k).ops) none) ∙ whole k ∙ ap (part_by e (local_loop e.extents g o)) kind
  where
    whole : (k : Option Kind) → record { ops = (part_by e (local_loop e.extents g o) k).ops; combine = k } ≡ part_by e (local_loop e.extents g o) k
    whole None = refl
    whole (Some k) = refl

-- ---- loops of inputs

pub places_counted : (rank : ℕ) (ns : List ℕ) → length (places_in rank ns) ≡ rank
places_counted rank ns = length-map (range_with_len 0 rank) (λ n. position_or_len (nat_eq n) ns) ∙ length-range 0 rank

pub places_at : (rank : ℕ) (ns : List ℕ) (i : ℕ) → i < length (places_in rank ns) → get_or (places_in rank ns) i 0 ≡ position_or_len (nat_eq i) ns
places_at rank ns i lt =
    let n : length (places_in rank ns) ≡ rank = places_counted rank ns in
    let m = length-range 0 rank in
    got_mapped (λ n. position_or_len (nat_eq n) ns) (range_with_len 0 rank) i 0 0 (omega (arith, lt, n, m))
    ∙ ap (λ k. position_or_len (nat_eq k) ns) (got_range rank i (omega (arith, lt, n)))

pub got_where : (xs : List ℕ) (i : ℕ) (found : Option ℕ) → found ≡ slice_get xs i → unwrap_or found 0 ≡ get_or xs i 0
got_where xs i found is = ap (λ x. unwrap_or x 0) is ∙ go xs i
  where
    go : (xs : List ℕ) (i : ℕ) → unwrap_or (slice_get xs i) 0 ≡ get_or xs i 0
    go [] i = refl
    go (x ∷ xs) zero = refl
    go (x ∷ xs) (suc i) = go xs i
