-- The region of an operation of a verified function fits the widths of its scalars, its inputs and its output.
use Rattle.std.proofs.Common.{◌≡◌, ℕ, zero, suc, ◌+◌, ◌<◌, Bool, true, false, List, [], ◌∷◌, ◌++◌, map, length, get_or, drop, Option, Some, None, refl, ap, ap₂, sym, ◌∙◌, arith, subst, append_assoc}
use Rattle.std.proofs.lemmas.Bool.Decides.{nat_tests}
use Rattle.std.proofs.lemmas.List.{append-nil, length-append, length-map}
use Rattle.std.proofs.lemmas.Option.{none-some, same_Some}
use Rattle.std.specs.Cmp.Lexicographic.{pointwise}
use Rattle.std.specs.List.{AllByRecursion, list_all}
use Rattle.std.specs.Option.{option_map_or, option_or}
use Rattle.std.specs.Prelude.{◌&&◌, if◌then◌else◌, nat_eq, option_map, slice_get}
use Rattle.sh_base.specs.Cells.{bits_of}
use Rattle.sh_base.specs.declared.numbers.Width.{Width}
use Rattle.sh_base.specs.declared.numbers.Width.TheVariants.{I1, I64}
use Rattle.sh_ir.specs.declared.bodies.Body.{Body}
use Rattle.sh_ir.specs.declared.bodies.BodyKind.{BodyKind}
use Rattle.sh_ir.specs.declared.bodies.BodyKind.TheVariants.{Constant, Binary, Compare, Select, Cast, Index, IndexCast}
use Rattle.sh_ir.specs.declared.bodies.BodyOp.{BodyOp}
use Rattle.sh_ir.specs.declared.types.ValueType.{ValueType}
use Rattle.sh_ir.specs.declared.types.ValueType.TheVariants as value_type
use Rattle.sh_ir.specs.Agreement.{cell_bits, same_type}
use Rattle.sh_ir.specs.Formed.{ResultFits, is_scalar}
use Rattle.sh_ir.specs.Literals.{is_held}
use Rattle.sh_ir.specs.RegionRules.{are_typed, block_of, body_typing, is_scalar_op, is_typed, last_bits, own_after, region_fits, stand_for, stands_for, with_block}
use Rattle.sh_ir.specs.Scope.{Value, plain_value, value_named}
use Rattle.sh_ir.specs.Written.{test_type, written_in_body}
use Rattle.sh_loops.specs.Cells.{HoldsCellsOf}
use Rattle.sh_loops.specs.Placing.{AreSourcesOf, FitOps, FitsBody, FitsRegion, IsSourceOf, width_given, widths_after}
use Rattle.sh_loops.proofs.InsideLaws.{both_left, both_right}
use Rattle.sh_pieces.specs.Instructions.{is_name, last_place}
use Rattle.sh_pieces.proofs.Names.{place_below, place_push}
use Rattle.sh_sem.specs.Region.{first_names, placed, placed_ops}
use Rattle.sh_sem.specs.Scalars.{width_of}
use Rattle.sh_eval.specs.Sources.{has_value}
use Rattle.sh_collectives.specs.VerifiedOps.{HaveScalarConstants, IsBody, IsBodyOp}
use Rattle.sh_collectives.proofs.CapturedLaws.{body_arity, is_usable}
use Rattle.sh_eval.proofs.CapturedTypes.{scalar_value, type_named}
use Rattle.sh_eval.proofs.KindFits.{can_cast, constant_held}
use Rattle.sh_eval.proofs.TypeLaws.{bits_are, equal_numbers, one_type, one_width}

-- ---- the widths of values in a region

abbrev pub region_width : ValueType → Width
region_width (value_type.Tensor t) = t.width
region_width (value_type.Scalar w) = w
region_width value_type.Nothing = I1
region_width value_type.Sharding = I1
region_width value_type.Index = I64

scalar_width : (t : ValueType) → is_scalar t ≡ true → region_width t ≡ width_of t
scalar_width (value_type.Scalar w) h = refl
scalar_width (value_type.Tensor t) h = absurd (cc)
scalar_width value_type.Nothing h = absurd (cc)
scalar_width value_type.Sharding h = absurd (cc)
scalar_width value_type.Index h = absurd (cc)

test_scalar : (t : ValueType) → is_scalar t ≡ true → region_width (test_type t) ≡ I1
test_scalar (value_type.Scalar w) h = refl
test_scalar (value_type.Tensor t) h = absurd (cc)
test_scalar value_type.Nothing h = absurd (cc)
test_scalar value_type.Sharding h = absurd (cc)
test_scalar value_type.Index h = absurd (cc)

-- of the value that a name stands for: the region's own, else the function's
abbrev width_named : Option Value → Option Value → Option Width
width_named own outer = option_map_or (λ v. Some (region_width v.value_type)) own (option_map (λ v. region_width v.value_type) outer)

abbrev is_of : Option Value → Option Value → ValueType → Bool
is_of own outer t =
    option_map_or (λ v. same_type v.value_type t) own (option_map_or (λ v. v.is_constant && same_type v.value_type t) outer true)

named_width : (own outer : Option Value) (t : ValueType) (w : Width) → is_of own outer t ≡ true → width_named own outer ≡ Some w
    → w ≡ region_width t
named_width (Some v) outer t w same e = sym (same_Some (region_width v.value_type) w e) ∙ ap region_width (one_type v.value_type t same)
named_width None (Some v) t w same e =
    sym (same_Some (region_width v.value_type) w e) ∙ ap region_width
    (one_type v.value_type t (both_right v.is_constant (same_type v.value_type t) same))
named_width None None t w same e = absurd (none-some w e)

read_width : (widths : List Width) (k : ℕ) (w : Width) → ((v : Width) → slice_get widths k ≡ Some v → v ≡ w) → get_or widths k w ≡ w
read_width [] k w h = refl
read_width (v ∷ widths) zero w h = h v refl
read_width (v ∷ widths) (suc k) w h = read_width widths k w h

module _ (outer : List Value) where
  -- at the place of each name stands the width of its value
  abbrev pub Reads : List Value → List (Option ℕ) → List Width → Type 0
  Reads own names widths =
      (name k : ℕ) → last_place names name ≡ Some k → slice_get widths k ≡ width_named (value_named own name) (value_named outer name)

  -- so an operand that stands for a type is read at its width
  source_fits : (own : List Value) (names : List (Option ℕ)) (widths : List Width) (t : ValueType) (name : ℕ) → Reads own names widths
      → stands_for outer own t name ≡ true
      → IsSourceOf widths (region_width t) (last_place names name)
  source_fits own names widths t name reads stands k e =
      read_width widths k (region_width t) (λ v is. named_width (value_named own name) (value_named outer name) t v stands
      (sym (reads name k e) ∙ is))

  -- operands of types of one width
  sources_fit : (own : List Value) (names : List (Option ℕ)) (widths : List Width) (w : Width) (types : List ValueType) (operands : List ℕ)
      → Reads own names widths
      → AllByRecursion (λ t. region_width t ≡ w) types → length operands ≡ length types → stand_for outer own types operands ≡ true
      → AreSourcesOf widths w (map (last_place names) operands)
  sources_fit own names widths w [] [] reads same long stand = tt
  sources_fit own names widths w [] (n ∷ operands) reads same long stand = absurd (omega (arith, long))
  sources_fit own names widths w (t ∷ types) [] reads same long stand = absurd (omega (arith, long))
  sources_fit own names widths w (t ∷ types) (n ∷ operands) reads same long stand =
      let shorter : length operands ≡ length types = let all : suc (length operands) ≡ suc (length types) = long in omega (arith, all) in (
        subst (λ v. IsSourceOf widths v (last_place names n)) same.0
            (source_fits own names widths t n reads (both_left (stands_for outer own t n) (stand_for outer own types operands) stand)),
        sources_fit own names widths w types operands reads same.1 shorter
            (both_right (stands_for outer own t n) (stand_for outer own types operands) stand),
      )

  sources_behind : (own : List Value) (names : List (Option ℕ)) (widths : List Width) (w : Width) (t : ValueType) (types : List ValueType)
      (operands : List ℕ) → Reads own names widths
      → AllByRecursion (λ t. region_width t ≡ w) types → length operands ≡ suc (length types)
      → stand_for outer own (t ∷ types) operands ≡ true → AreSourcesOf widths w (drop 1 (map (last_place names) operands))
  sources_behind own names widths w t types [] reads same long stand = absurd (omega (arith, long))
  sources_behind own names widths w t types (n ∷ operands) reads same long stand =
      sources_fit own names widths w types operands reads same
      (let all : suc (length operands) ≡ suc (length types) = long in omega (arith, all))
      (both_right (stands_for outer own t n) (stand_for outer own types operands) stand)

  -- ---- one value more

  get_front : (widths : List Width) (w : Width) (k : ℕ) → k < length widths → slice_get (widths ++ w ∷ []) k ≡ slice_get widths k
  get_front [] w k l = absurd (omega (arith, l))
  get_front (v ∷ widths) w zero l = refl
  get_front (v ∷ widths) w (suc k) l = get_front widths w k (omega (arith, l))

  get_last : (widths : List Width) (w : Width) → slice_get (widths ++ w ∷ []) (length widths) ≡ Some w
  get_last [] w = refl
  get_last (v ∷ widths) w = get_last widths w

  -- a value is defined
  reads_more : (own : List Value) (names : List (Option ℕ)) (widths : List Width) (n : ℕ) (t : ValueType) (w : Width) → w ≡ region_width t
      → length names ≡ length widths → Reads own names widths
      → Reads (plain_value n t ∷ own) (names ++ Some n ∷ []) (widths ++ w ∷ [])
  reads_more own names widths n t w is long reads name k e = go (nat_eq n name) (sym (place_push names (Some n) name) ∙ e)
    where
      go : (b : Bool) → (if b then Some (length names) else last_place names name) ≡ Some k
          → slice_get (widths ++ w ∷ []) k ≡ width_named (if b then Some (plain_value n t) else value_named own name)
          (value_named outer name)
      go true h = ap (slice_get (widths ++ w ∷ [])) (sym (same_Some (length names) k h) ∙ long) ∙ get_last widths w ∙ ap (λ v. Some v) is
      go false h = get_front widths w k (let l = place_below names name k h in omega (arith, l, long)) ∙ reads name k h

  longer : (names : List (Option ℕ)) (widths : List Width) (n : ℕ) (w : Width) → length names ≡ length widths
      → length (names ++ Some n ∷ []) ≡ length (widths ++ w ∷ [])
  longer names widths n w sizes =
      let a = length-append names (Some n ∷ []) in
      let b = length-append widths (w ∷ []) in
      a ∙ ap (λ k. k + 1) sizes ∙ sym b

  -- the block arguments are defined
  reads_block : (own : List Value) (names : List (Option ℕ)) (widths : List Width) (args : List ℕ) (ws : List Width)
      → length args ≡ length ws → length names ≡ length widths → Reads own names widths
      → Reads (with_block own args ws) (names ++ map (λ n. Some n) args) (widths ++ ws)
  reads_block own names widths [] [] long sizes reads =
      subst (λ ns. Reads own ns (widths ++ [])) (sym (append-nil names)) (subst (Reads own names) (sym (append-nil widths)) reads)
  reads_block own names widths [] (w ∷ ws) long sizes reads = absurd (omega (arith, long))
  reads_block own names widths (n ∷ args) [] long sizes reads = absurd (omega (arith, long))
  reads_block own names widths (n ∷ args) (w ∷ ws) long sizes reads =
      let next = reads_more own names widths n (value_type.Scalar w) w refl sizes reads in
      let counted = longer names widths n w sizes in
      let shorter : length args ≡ length ws = let all : suc (length args) ≡ suc (length ws) = long in omega (arith, all) in
      let rest = reads_block (plain_value n (value_type.Scalar w) ∷ own) (names ++ Some n ∷ [])
      (widths ++ w ∷ []) args ws shorter counted next in
      subst (λ ns. Reads (with_block own (n ∷ args) (w ∷ ws)) ns (widths ++ w ∷ ws))
      (append_assoc names (Some n ∷ []) (map (λ n. Some n) args))
      (subst (Reads (with_block own (n ∷ args) (w ∷ ws)) ((names ++ Some n ∷ []) ++ map (λ n. Some n) args))
      (append_assoc widths (w ∷ []) ws) rest)

  -- ---- the scalars of the function

  captured_width : (o : Option Value) → option_map_or (λ v. v.is_constant) o false ≡ true
      → ((v : Value) → o ≡ Some v → is_scalar v.value_type ≡ true)
      → Some (width_of (option_map_or (λ v. v.value_type) o value_type.Nothing)) ≡ width_named None o
  captured_width None h scalar = absurd (cc)
  captured_width (Some v) h scalar = ap (λ w. Some w) (sym (scalar_width v.value_type (scalar v refl)))

  -- at first there are the scalars of the function
  reads_captured : HaveScalarConstants outer → (captured : List ℕ) → list_all (is_usable outer) captured ≡ true
      → Reads [] (map (λ n. Some n) captured) (map width_of (map (type_named outer) captured))
  reads_captured constants [] usable name k e = absurd (none-some k e)
  reads_captured constants (n ∷ captured) usable name k e =
      go (last_place (map (λ n. Some n) captured) name)
      (λ j f. reads_captured constants captured (both_right (is_usable outer n) (list_all (is_usable outer) captured) usable) name j f) e
    where
      here : (b : Bool) → nat_eq n name ≡ b → (if b then Some 0 else None) ≡ Some k
          → slice_get (map width_of (map (type_named outer) (n ∷ captured))) k ≡ width_named None (value_named outer name)
      here true is f =
          let own = captured_width (value_named outer n) (both_left (is_usable outer n) (list_all (is_usable outer) captured) usable)
          (λ v found. constants n v found (subst (λ o. option_map_or (λ v. v.is_constant) o false ≡ true) found
          (both_left (is_usable outer n) (list_all (is_usable outer) captured) usable))) in
          ap (slice_get (map width_of (map (type_named outer) (n ∷ captured)))) (sym (same_Some 0 k f)) ∙ own
          ∙ ap (λ m. width_named None (value_named outer m)) (equal_numbers n name is)
      here false is f = absurd (none-some k f)

      go : (o : Option ℕ)
          → ((j : ℕ) → o ≡ Some j → slice_get (map width_of (map (type_named outer) captured)) j ≡ width_named None
          (value_named outer name))
          → option_or (option_map (λ j. suc j) o) (if is_name (Some n) name then Some 0 else None) ≡ Some k
          → slice_get (map width_of (map (type_named outer) (n ∷ captured))) k ≡ width_named None (value_named outer name)
      go None rest f = here (nat_eq n name) refl f
      go (Some j) rest f = ap (slice_get (map width_of (map (type_named outer) (n ∷ captured)))) (sym (same_Some (suc j) k f)) ∙ rest j refl

  -- ---- operations

  -- an operation of the region finds its operands at the widths at which it works
  body_fits : (own : List Value) (names : List (Option ℕ)) (widths : List Width) (kind : BodyKind) (operands : List ℕ) (result : ValueType)
      → Reads own names widths → is_scalar_op kind result ≡ true
      → stand_for outer own (body_typing kind result) operands ≡ true → length operands ≡ length (body_typing kind result)
      → ResultFits (written_in_body kind).result result
      → list_all is_held (written_in_body kind).constants ≡ true → FitsBody kind result widths (map (last_place names) operands)
  unfolding is_scalar_op body_typing FitsBody
  body_fits own names widths (Constant x) operands result reads scalar stand long fits held =
      subst (λ t. HoldsCellsOf (width_of t) x.contents) (sym fits) (constant_held x (both_left (is_held x) true held))
  body_fits own names widths (Binary x) operands result reads scalar stand long fits held =
      let w = scalar_width result scalar in sources_fit own names widths (width_of result) (result ∷ result ∷ []) operands reads
      (w, (w, tt)) long stand
  body_fits own names widths (Compare x) operands result reads scalar stand long fits held =
      let w = scalar_width x.operand_type scalar in sources_fit own names widths (width_of x.operand_type)
      (x.operand_type ∷ x.operand_type ∷ []) operands reads (w, (w, tt)) long stand
  body_fits own names widths (Select x) operands result reads scalar stand long fits held =
      let w = scalar_width result (both_left (is_scalar result) _ scalar) in
      sources_behind own names widths (width_of result) x.condition_type (result ∷ result ∷ []) operands reads (w, (w, tt)) long stand
  body_fits own names widths (Cast x) operands result reads scalar stand long fits held =
      let both = both_left (is_scalar x.operand_type && is_scalar result) _ scalar in
      let from = both_left (is_scalar x.operand_type) (is_scalar result) both in
      let to = both_right (is_scalar x.operand_type) (is_scalar result) both in
      let w = scalar_width x.operand_type from in (
        can_cast x.op x.operand_type result (scalar_value x.operand_type from) (scalar_value result to)
            (both_right (is_scalar x.operand_type && is_scalar result) _ scalar),
        sources_fit own names widths (width_of x.operand_type) (x.operand_type ∷ []) operands reads (w, tt) long stand,
      )
  body_fits own names widths (Index x) operands result reads scalar stand long fits held = tt
  body_fits own names widths IndexCast operands result reads scalar stand long fits held =
      sources_fit own names widths I64 (value_type.Index ∷ []) operands reads (refl, tt) long stand

  -- and gives a value of the width of its type
  given_width : (kind : BodyKind) (result : ValueType) → is_scalar_op kind result ≡ true → ResultFits (written_in_body kind).result result
      → width_given kind result ≡ region_width result
  unfolding is_scalar_op width_given
  given_width (Constant x) result scalar fits = sym (scalar_width result scalar)
  given_width (Binary x) result scalar fits = sym (scalar_width result scalar)
  given_width (Compare x) result scalar fits = sym (ap region_width fits ∙ test_scalar x.operand_type scalar)
  given_width (Select x) result scalar fits = sym (scalar_width result (both_left (is_scalar result) _ scalar))
  given_width (Cast x) result scalar fits =
      sym (scalar_width result (both_right (is_scalar x.operand_type) (is_scalar result)
      (both_left (is_scalar x.operand_type && is_scalar result) _ scalar)))
  given_width (Index x) result scalar fits = sym (ap region_width fits)
  given_width IndexCast result scalar fits = sym (scalar_width result scalar)

  record OpsFit (own : List Value) (names : List (Option ℕ)) (widths : List Width) (ops : List BodyOp) (yields : ℕ)
      (w : Width) : Type 0 where
    ops_fit : FitOps widths (placed_ops names ops)
    yields_fit : IsSourceOf (widths_after widths (placed_ops names ops)) w (last_place (names ++ map (λ op. Some op.defines) ops) yields)

  -- So do these operations one after the other, and what is yielded is of its width.
  ops_fit_from : (own : List Value) (names : List (Option ℕ)) (widths : List Width) (ops : List BodyOp) (yields : ℕ) (w : Width)
      → length names ≡ length widths → Reads own names widths
      → are_typed outer own ops yields w ≡ true → AllByRecursion IsBodyOp ops → OpsFit own names widths ops yields w
  ops_fit_from own names widths [] yields w sizes reads typed formed = record {
    ops_fit = tt;
    yields_fit =
        subst (λ ns. IsSourceOf widths w (last_place ns yields)) (sym (append-nil names))
        (source_fits own names widths (value_type.Scalar w) yields reads typed);
  }
  ops_fit_from own names widths (op ∷ ops) yields w sizes reads typed formed =
      let here = both_left (is_typed outer own op) (are_typed outer (own_after own op) ops yields w) typed in
      let scalar = both_left (is_scalar_op op.kind op.result) (stand_for outer own (body_typing op.kind op.result) op.operands) here in
      let stand = both_right (is_scalar_op op.kind op.result) (stand_for outer own (body_typing op.kind op.result) op.operands) here in
      let given = width_given op.kind op.result in
      let rest = ops_fit_from (own_after own op) (names ++ Some op.defines ∷ []) (widths ++ given ∷ []) ops yields w
      (longer names widths op.defines given sizes)
      (reads_more own names widths op.defines op.result given (given_width op.kind op.result scalar formed.0.result) sizes reads)
      (both_right (is_typed outer own op) (are_typed outer (own_after own op) ops yields w) typed) formed.1 in
      record {
        ops_fit = (
          body_fits own names widths op.kind op.operands op.result reads scalar stand
              (body_arity op.kind op.operands op.result formed.0.counted) formed.0.result formed.0.held,
          rest.ops_fit,
        );
        yields_fit =
            subst (λ ns. IsSourceOf (widths_after (widths ++ given ∷ []) (placed_ops (names ++ Some op.defines ∷ []) ops)) w
            (last_place ns yields))
            (append_assoc names (Some op.defines ∷ []) (map (λ op. Some op.defines) ops)) rest.yields_fit;
      }

-- ---- the region

by_bits : (v w : Width) → bits_of v ≡ bits_of w → v ≡ w
by_bits v w h = one_width v w (grind (arith, nat_tests))

-- the block arguments have the widths of the operands
block_widths : (widths : List Width) (types : List ValueType) → list_all has_value types ≡ true
    → pointwise (λ w t. nat_eq (bits_of w) (cell_bits t)) widths types ≡ true → widths ≡ map width_of types
block_widths [] [] values h = refl
block_widths [] (t ∷ types) values h = absurd (cc)
block_widths (w ∷ widths) [] values h = absurd (cc)
block_widths (w ∷ widths) (t ∷ types) values h =
    let same = equal_numbers (bits_of w) (cell_bits t)
    (both_left (nat_eq (bits_of w) (cell_bits t)) (pointwise (λ w t. nat_eq (bits_of w) (cell_bits t)) widths types) h) in
    let mine = bits_are t (both_left (has_value t) (list_all has_value types) values) in
    ap₂ ◌∷◌ (by_bits w (width_of t) (same ∙ mine))
    (block_widths widths types (both_right (has_value t) (list_all has_value types) values)
    (both_right (nat_eq (bits_of w) (cell_bits t)) (pointwise (λ w t. nat_eq (bits_of w) (cell_bits t)) widths types) h))

last_of : (types : List ValueType) (t : ValueType) → last_bits (types ++ t ∷ []) ≡ cell_bits t
last_of [] t = refl
last_of (u ∷ []) t = refl
last_of (u ∷ v ∷ types) t = last_of (v ∷ types) t

mapped_both : (f : ValueType → Width) (xs ys : List ValueType) → map f (xs ++ ys) ≡ map f xs ++ map f ys
mapped_both f [] ys = refl
mapped_both f (x ∷ xs) ys = ap (λ ws. f x ∷ ws) (mapped_both f xs ys)

names_both : (xs ys : List ℕ) → map (λ n. Some n) (xs ++ ys) ≡ map (λ n. Some n) xs ++ map (λ n. Some n) ys
names_both [] ys = refl
names_both (x ∷ xs) ys = ap (λ ns. Some x ∷ ns) (names_both xs ys)

-- The inputs are of types `ins`, the output is of type `out` and width `w`. The scalars and the block arguments are read at their
-- widths, which are those of the operands; then so are the operations, from the first to what is yielded; and the names that
-- stand first are the scalars' and the block's.
pub region_fits_widths : (outer : List Value) (body : Body) (captured : List ℕ) (ins : List ValueType) (out : ValueType) (w : Width)
    → HaveScalarConstants outer → list_all (is_usable outer) captured ≡ true
    → IsBody body → list_all has_value (ins ++ out ∷ []) ≡ true → has_value out ≡ true → width_of out ≡ w
    → region_fits outer (ins ++ out ∷ []) body ≡ true
    → FitsRegion (map width_of (map (type_named outer) captured) ++ map width_of ins ++ w ∷ []) (placed captured body) w
unfolding region_fits placed
region_fits_widths outer body captured ins out w constants usable formed values value same fits =
    let types : List ValueType = ins ++ out ∷ [] in
    let first = both_left (pointwise (λ w t. nat_eq (bits_of w) (cell_bits t)) body.widths types) _ fits in
    let rest = both_right (pointwise (λ w t. nat_eq (bits_of w) (cell_bits t)) body.widths types) _ fits in
    let yielded = equal_numbers (bits_of body.width) (last_bits types) (both_left (nat_eq (bits_of body.width) (last_bits types)) _ rest) in
    let typed = both_right (nat_eq (bits_of body.width) (last_bits types)) _ rest in
    let scalars : List Width = map width_of (map (type_named outer) captured) in
    let block : body.widths ≡ map width_of ins ++ w ∷ [] = block_widths body.widths types values first ∙ mapped_both width_of ins (out ∷ [])
    ∙ ap (λ v. map width_of ins ++ v ∷ []) same in
    let width : body.width ≡ w = by_bits body.width w (yielded ∙ last_of ins out ∙ bits_are out value ∙ ap bits_of same) in
    let names : List (Option ℕ) = map (λ n. Some n) captured in
    let sizes : length names ≡ length scalars = length-map captured (λ n. Some n)
    ∙ sym (length-map (map (type_named outer) captured) width_of ∙ length-map captured (type_named outer)) in
    let counted : length body.args ≡ length body.widths = equal_numbers (length body.args) (length body.widths) formed.block in
    let start = reads_block outer [] names scalars body.args body.widths counted sizes (reads_captured outer constants captured usable) in
    let sizes_after : length (names ++ map (λ n. Some n) body.args) ≡ length (scalars ++ body.widths) =
    length-append names (map (λ n. Some n) body.args) ∙ ap₂ ◌+◌ sizes (length-map body.args (λ n. Some n) ∙ counted)
    ∙ sym (length-append scalars body.widths) in
    let made : OpsFit outer (block_of body) (names ++ map (λ n. Some n) body.args)
    (scalars ++ body.widths) body.ops body.yields body.width =
    ops_fit_from outer (block_of body) (names ++ map (λ n. Some n) body.args)
    (scalars ++ body.widths) body.ops body.yields body.width sizes_after start typed formed.ops in
    let all : scalars ++ body.widths ≡ scalars ++ map width_of ins ++ w ∷ [] = ap (λ ws. scalars ++ ws) block
    ∙ sym (append_assoc scalars (map width_of ins) (w ∷ [])) in
    let of_names : names ++ map (λ n. Some n) body.args ≡ first_names captured body = sym (names_both captured body.args) in
    subst (λ ws. FitsRegion ws (placed captured body) w) all
    (subst (λ v. FitsRegion (scalars ++ body.widths) (placed captured body) v) width
    (subst (λ (ns : List (Option ℕ)). FitsRegion (scalars ++ body.widths)
    (record {
      ops = placed_ops ns body.ops;
      yields = last_place
          (ns ++ map (λ (op : BodyOp). Some op.defines) body.ops) body.yields;
    }) body.width) of_names
    (record { ops = made.ops_fit; yields = made.yields_fit })))
