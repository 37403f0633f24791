-- A verified reduction or generic, and the interface of what is read off it.
use Rattle.std.proofs.Common.{◌≡◌, ℕ, zero, suc, ◌+◌, ◌<◌, ◌≤◌, Bool, true, false, List, [], ◌∷◌, ◌++◌, map, take, drop, length, Option, Some, refl, ap, ap₂, sym, ◌∙◌, arith, subst, inl, inr}
use Rattle.std.proofs.lemmas.Bool.{cases_Bool}
use Rattle.std.proofs.lemmas.Bool.Decides.{nat_tests}
use Rattle.std.proofs.lemmas.List.{length-map, length-take-le}
use Rattle.std.specs.List.{AllByRecursion, list_all, range_with_len}
use Rattle.std.specs.Option.{option_map_or}
use Rattle.std.specs.Prelude.{◌&&◌, ◌||◌, filter, is_some, nat_eq, nat_le, nat_lt, not, option_to_list, unwrap_or, ⊤, MatchOption, if◌then◌else◌}
use Rattle.sh_base.specs.Cells.{bits_of}
use Rattle.sh_base.specs.declared.rules.Rule.{Rule}
use Rattle.sh_base.specs.declared.rules.Rule.TheVariants.{V2, V8, V9, L2, L6}
use Rattle.sh_base.specs.Shape.{max_rank}
use Rattle.sh_grid.specs.Grid.{AreAxesOf, IsNoneOf}
use Rattle.sh_ir.specs.declared.bodies.Body.{Body}
use Rattle.sh_ir.specs.declared.linalg_ops.AffineMap.{AffineMap}
use Rattle.sh_ir.specs.declared.linalg_ops.Generic as declared_generic
use Rattle.sh_ir.specs.declared.linalg_ops.InsOuts.{InsOuts}
use Rattle.sh_ir.specs.declared.linalg_ops.Reduce as declared_reduce
use Rattle.sh_ir.specs.declared.operations.Op.{Op}
use Rattle.sh_ir.specs.declared.operations.OpKind.{OpKind}
use Rattle.sh_ir.specs.declared.operations.OpKind.TheVariants as op_kind
use Rattle.sh_ir.specs.declared.types.ValueType.{ValueType}
use Rattle.sh_ir.specs.Agreement.{cell_bits, rank_of}
use Rattle.sh_ir.specs.Attributes.{numbers_fit}
use Rattle.sh_ir.specs.Formed.{has_no_index, is_block}
use Rattle.sh_ir.specs.Limits.{has_few_dims, has_few_inputs, has_few_loops, max_inputs, max_loops}
use Rattle.sh_ir.specs.Loops.{first_results, generic_of, single, structure_of, unlisted}
use Rattle.sh_ir.specs.Maps.{has_all_maps, is_projection, is_used, iterators_fit, maps_fit, operands_follow}
use Rattle.sh_ir.specs.Numbers.{are_axes_below, are_distinct, as_naturals}
use Rattle.sh_ir.specs.Operands.{follows_maps, operands_fit}
use Rattle.sh_ir.specs.RegionRules.{block_of, region_fits}
use Rattle.sh_ir.specs.Regions.{are_disjoint, captured_by, is_among, own_names}
use Rattle.sh_ir.specs.Rules.{body_faults, defines_new, has_region_in_order, keeps, loop_count, loop_operands, op_types_of, region_faults}
use Rattle.sh_ir.specs.Shapes.{shape_of}
use Rattle.sh_ir.specs.Typing.{counts_fit}
use Rattle.sh_ir.specs.Written.{first_type, written_by}
use Rattle.sh_ir.proofs.KeptLaws.{kept_here, kept_inside}
use Rattle.sh_nest_laws.specs.LoopSplits.{Operand, names}
use Rattle.sh_sem.specs.Given.{alone, given}
use Rattle.sh_tensor.specs.Tensor.{TensorValue}
use Rattle.sh_sem.specs.Scalars.{width_of}
use Rattle.sh_iface.specs.Verified.{IsOfVerified}
use Rattle.sh_iface.specs.Whole.{IsInterfaceOf, leading_scalars}
use Rattle.sh_iface_linalg.specs.Bodies.{HasSpelledRegion, IsRegion, IsSpelledOp, Region, width_used, widths_used}
use Rattle.sh_iface_linalg.specs.Cuts.{scalars_last}
use Rattle.sh_iface_linalg.specs.Kept.{fits_maps, maps_counted, results_split}
use Rattle.sh_iface_linalg.specs.Loops.{length-range}
use Rattle.sh_iface_linalg.specs.Reading.{regional_by}
use Rattle.sh_iface_linalg.specs.Rules.{both, equal, joined}
use Rattle.sh_iface_linalg.specs.Structured.{AreMaps, Form, IsStructured, Structured, inputs_of_maps, kind_at, operands_in, renumbered_form, structured_meaning}
use Rattle.sh_iface_linalg.specs.Structured.{reduce, generic}
use Rattle.sh_iface_linalg.proofs.InterfaceLaws.{ranks_alike, shapes_joined}
use Rattle.sh_iface_linalg.proofs.NestLaws.{names_range}
use Rattle.sh_iface_linalg.proofs.OfVerified as verified
use Rattle.sh_iface_linalg.proofs.Pairs.{AreShapes, all_pairs, first_at}
use Rattle.sh_iface_linalg.proofs.PermutedLaws.{range_below, same_number, unlisted_below}
use Rattle.sh_iface_linalg.proofs.ReadLaws.{IsInput, own_shape, zipped_dims}
use Rattle.sh_iface_linalg.proofs.RegionRead.{region_read}
use Rattle.sh_iface_linalg.proofs.RegionalLaws.{Reads, generic_same, in_order, interface_of, reduced_same, whole_same}
use Rattle.sh_iface_linalg.proofs.RowLaws.{named_in, range_axes}
use Rattle.sh_iface_linalg.proofs.SourceTypes.{HasParts, named_parts, sound}
use Rattle.sh_iface_linalg.proofs.VerifiedLaws.{HasCells, inputs_cells, shapes_fit}
use Rattle.sh_iface_linalg.proofs.ReadOff.{all_and}

-- ---- lists

disjoint_front : (xs ys zs : List ℕ) → are_disjoint (xs ++ ys) zs ≡ true → are_disjoint xs zs ≡ true
disjoint_front [] ys zs e = refl
disjoint_front (x ∷ xs) ys zs e = let parts = both (not (is_among zs x)) (are_disjoint (xs ++ ys) zs) e in joined _ _ parts.0 (disjoint_front xs ys zs parts.1)

disjoint_drop : (n : ℕ) (xs zs : List ℕ) → are_disjoint xs zs ≡ true → are_disjoint (drop n xs) zs ≡ true
disjoint_drop zero xs zs e = e
disjoint_drop (suc n) [] zs e = refl
disjoint_drop (suc n) (x ∷ xs) zs e = disjoint_drop n xs zs (both (not (is_among zs x)) (are_disjoint xs zs) e).1

cells_bits : (ts : List ValueType) → AllByRecursion HasCells ts → AllByRecursion (λ t. cell_bits t ≡ bits_of (width_of t)) ts
cells_bits [] h = tt
cells_bits (t ∷ ts) h = (h.0.bits, cells_bits ts h.1)

none_filtered : (test : ℕ → Bool) (a : ℕ) (axes : List ℕ) → IsNoneOf a axes → IsNoneOf a (filter test axes)
none_filtered test a [] h = tt
none_filtered test a (b ∷ axes) h = go (test b) (none_filtered test a axes h.1)
  where
    go : (t : Bool) → IsNoneOf a (filter test axes) → IsNoneOf a (if t then b ∷ filter test axes else filter test axes)
    go true rest = (h.0, rest)
    go false rest = rest

axes_filtered : (test : ℕ → Bool) (n : ℕ) (axes : List ℕ) → AreAxesOf n axes → AreAxesOf n (filter test axes)
axes_filtered test n [] h = tt
axes_filtered test n (a ∷ axes) h = go (test a) (none_filtered test a axes h.1) (axes_filtered test n axes h.2)
  where
    go : (t : Bool) → IsNoneOf a (filter test axes) → AreAxesOf n (filter test axes) → AreAxesOf n (if t then a ∷ filter test axes else filter test axes)
    go true none rest = (h.0, none, rest)
    go false none rest = rest

-- ---- its region

module _ (op : Op) (h : IsOfVerified op) (spelled : HasSpelledRegion op.kind) (k : OpKind) (kind : op.kind ≡ k) (body : Body) (has : (written_by k).body ≡ Some body) (ts : List ValueType) (t : ValueType) (types : loop_operands k ≡ ts ++ t ∷ []) (n : ℕ)
    (count : (written_by k).operands ≡ Some n) (no_index : has_no_index body ≡ true) (cells : AllByRecursion HasCells (ts ++ t ∷ [])) (own : HasCells t) where
  abbrev region : Region
  region = record { captured = captured_by body; body = body }

  -- behind the written operands come the scalars that it uses
  pub captured_last : drop n op.operands ≡ captured_by body
  captured_last =
      let captures = subst (λ k. MatchOption (written_by k).body ⊤ (λ body. drop (unwrap_or (written_by k).operands 0) op.operands ≡ captured_by body)) kind h.captures in
      let here : drop (unwrap_or (written_by k).operands 0) op.operands ≡ captured_by body = subst (λ o. MatchOption o ⊤ (λ body. drop (unwrap_or (written_by k).operands 0) op.operands ≡ captured_by body)) has captures in
      ap (λ o. drop (unwrap_or o 0) op.operands) (sym count) ∙ here

  pub operands_counted : length op.operands ≡ n + length (captured_by body)
  operands_counted =
      let counted = subst (λ k. MatchOption (written_by k).operands ⊤ (λ m. length op.operands ≡ m + length (option_map_or captured_by (written_by k).body []))) kind h.counted in
      let here : length op.operands ≡ n + length (option_map_or captured_by (written_by k).body []) = subst (λ o. MatchOption o ⊤ (λ m. length op.operands ≡ m + length (option_map_or captured_by (written_by k).body []))) count counted in
      here ∙ ap (λ o. n + length (option_map_or captured_by o [])) has

  fits_here : region_fits h.scope.values (ts ++ t ∷ []) body ≡ true
  unfolding keeps has_region_in_order
  fits_here =
      let kept : option_map_or (region_fits h.scope.values (loop_operands k)) (written_by k).body true ≡ true = subst (λ k. option_map_or (region_fits h.scope.values (loop_operands k)) (written_by k).body true ≡ true) kind (kept_here V9 h.scope op (h.keeps V9)) in
      subst (λ us. region_fits h.scope.values us body ≡ true) types (subst (λ o. option_map_or (region_fits h.scope.values (loop_operands k)) o true ≡ true) has kept)

  faultless : (rule : Rule) → body_faults (rule ∷ []) (loop_count k) h.scope.values (block_of body) body.ops body ≡ []
  unfolding region_faults
  faultless rule =
      let kept = subst (λ k. option_map_or (λ body. body_faults (rule ∷ []) (loop_count k) h.scope.values (block_of body) body.ops body) (written_by k).body [] ≡ []) kind (kept_inside rule h.scope op (h.keeps rule)) in
      subst (λ o. option_map_or (λ body. body_faults (rule ∷ []) (loop_count k) h.scope.values (block_of body) body.ops body) o [] ≡ []) has kept

  args_distinct : are_distinct body.args ≡ true
  unfolding keeps defines_new
  args_distinct =
      let kept = (both _ _ (kept_here V2 h.scope op (h.keeps V2))).1 in
      subst (λ o. option_map_or (λ body. are_distinct body.args) o true ≡ true) has (subst (λ k. option_map_or (λ body. are_distinct body.args) (written_by k).body true ≡ true) kind kept)

  pub region_in_order : IsRegion region (widths_used region) (map width_of ts) (width_of t)
  region_in_order =
      let block : is_block body ≡ true = subst (λ o. option_map_or is_block o true ≡ true) has (subst (λ k. option_map_or is_block (written_by k).body true ≡ true) kind h.block) in
      let apart : are_disjoint (op.operands ++ option_to_list op.defines) (own_names body) ≡ true =
      subst (λ o. option_map_or (λ body. are_disjoint (op.operands ++ option_to_list op.defines) (own_names body)) o true ≡ true) has
      (subst (λ k. option_map_or (λ body. are_disjoint (op.operands ++ option_to_list op.defines) (own_names body)) (written_by k).body true ≡ true) kind h.own) in
      let all_spelled : AllByRecursion IsSpelledOp body.ops = subst (λ o. MatchOption o ⊤ (λ body. AllByRecursion IsSpelledOp body.ops)) has (subst (λ k. MatchOption (written_by k).body ⊤ (λ body. AllByRecursion IsSpelledOp body.ops)) kind spelled) in
      region_read h.scope.values (loop_count k) body ts t fits_here faultless block args_distinct
      (subst (λ xs. are_disjoint xs (own_names body) ≡ true) captured_last (disjoint_drop n op.operands (own_names body) (disjoint_front op.operands (option_to_list op.defines) (own_names body) apart)))
      all_spelled no_index (cells_bits (ts ++ t ∷ []) cells) own.bits

-- ---- a reduction

unless : (a b : Bool) → a ≡ true → (not a || b) ≡ true → b ≡ true
unless true b h k = k
unless false b h k = absurd (cc)

module _ (op : Op) (h : IsOfVerified op) (spelled : HasSpelledRegion op.kind) (x : declared_reduce.Reduce) (kind : op.kind ≡ op_kind.Reduce x) (no_index : has_no_index x.body ≡ true) where
  abbrev region_of : Region
  region_of = record { captured = captured_by x.body; body = x.body }

  abbrev n : ℕ
  n = rank_of (first_type x.ins_outs.ins_types)

  abbrev form : Form
  form = reduce n x.dimensions region_of

  abbrev ts : List ValueType
  ts = x.ins_outs.ins_types

  parts : HasParts 1 x.ins_outs
  unfolding counts_fit
  parts = named_parts 1 x.ins_outs (subst (λ k. counts_fit k op.operands ≡ true) kind (sound op h).counts)

  abbrev t : ValueType
  t = parts.out

  inputs : AllByRecursion (IsInput form) ts
  inputs = verified.tensor_inputs op h form x.ins_outs kind 1 parts refl

  own_cells : HasCells t
  own_cells = verified.own_cells op h form x.ins_outs kind 1 parts

  all_cells : AllByRecursion HasCells (ts ++ t ∷ [])
  all_cells = all_and HasCells ts t (inputs_cells form ts inputs) own_cells

  types_here : loop_operands (kind_at form ts t) ≡ ts ++ t ∷ []
  unfolding structure_of
  types_here = refl

  kind_here : op.kind ≡ kind_at form ts t
  kind_here = verified.kind_here op h form x.ins_outs kind 1 parts

  two : length ts + 1 ≡ 2
  two = ap (λ m. m + 1) parts.count

  region_fits_here : IsRegion region_of (widths_used region_of) (map width_of ts) (width_of t)
  region_fits_here = region_in_order op h spelled (kind_at form ts t) kind_here x.body refl ts t types_here 2 (ap (λ m. Some m) two) no_index all_cells own_cells

  abbrev ms : List (List ℕ)
  ms = range_with_len 0 n ∷ []

  abbrev os : List ℕ
  os = unlisted n (as_naturals x.dimensions)

  numbers : are_axes_below n x.dimensions ≡ true
  unfolding numbers_fit
  numbers = verified.numbers_here op h form x.ins_outs kind 1 parts

  sizes : nat_eq (rank_of t + length x.dimensions) n ≡ true
  unfolding operands_fit
  sizes = (both _ _ (verified.operands_here op h form x.ins_outs kind 1 parts)).0

  maps_fit_here : fits_maps (map single (ms ++ os ∷ [])) (ts ++ t ∷ []) ≡ true
  unfolding operands_fit follows_maps numbers_fit
  maps_fit_here = unless (are_axes_below n x.dimensions) _ numbers (both _ _ (verified.operands_here op h form x.ins_outs kind 1 parts)).1

  shapes_here : AreShapes (first_at (all_pairs (ms ++ os ∷ []) (map shape_of ts ++ shape_of t ∷ []))) (ms ++ os ∷ []) (map shape_of ts ++ shape_of t ∷ [])
  shapes_here = subst (λ ss. AreShapes (first_at (all_pairs (ms ++ os ∷ []) ss)) (ms ++ os ∷ []) ss) (shapes_joined ts t) (shapes_fit (ms ++ os ∷ []) (ts ++ t ∷ []) all_cells maps_fit_here)

  few : n ≤ max_rank
  few = first_short ts inputs
    where
      first_short : (us : List ValueType) → AllByRecursion (IsInput form) us → rank_of (first_type us) ≤ max_rank
      first_short [] h = omega arith
      first_short (u ∷ us) h = let alike = ranks_alike u in let short = h.0.short in omega (arith, alike, short)

  reads : Reads form n ms os ts t (widths_used region_of) op.place
  reads =
      let first = length-range 0 n in
      let rank : length os + length x.dimensions ≡ n =
      let own = ap length (own_shape (first_at (all_pairs (ms ++ os ∷ []) (map shape_of ts ++ shape_of t ∷ []))) ms os ts (shape_of t) parts.count shapes_here) in
      let alike = ranks_alike t in
      let mapped = length-map os (first_at (all_pairs (ms ++ os ∷ []) (map shape_of ts ++ shape_of t ∷ []))) in
      let size = same_number _ _ sizes in
      omega (arith, own, alike, mapped, size) in
      record {
        count = parts.count;
        tensors = refl;
        inputs = inputs;
        out = verified.own_is op h form x.ins_outs kind 1 parts;
        short = verified.short op h form x.ins_outs kind 1 parts;
        small = verified.small op h form x.ins_outs kind 1 parts;
        shapes_fit = shapes_here;
        below = (range_below 0 n n (omega arith), tt);
        own_below = unlisted_below n (as_naturals x.dimensions);
        once = axes_filtered (λ l. not (is_among (as_naturals x.dimensions) l)) n (range_with_len 0 n) (range_axes 0 n n (omega arith));
        few = few;
        named = λ l lt. let here : names (range_with_len 0 n) l ≡ true = names_range n l ∙ (let e : nat_lt l n ≡ true = grind (arith, nat_tests) in e) in rw here refl;
        loops = refl;
        maps = ap (λ k. range_with_len 0 k ∷ []) first;
        output = refl;
        numbers = (numbers, sym first, rank ∙ sym first);
        widths = tt;
        region = region_fits_here;
      }

  abbrev read : ValueType → Structured
  read out = regional_by form n ms os ts out (widths_used region_of) op.place

  pub reduce_in_order : IsStructured (read op.result)
  reduce_in_order = subst (λ u. IsStructured (read u)) (verified.same op h form x.ins_outs kind 1 parts) (in_order form n ms os ts t (widths_used region_of) op.place reads)

  leading : leading_scalars op.kind ≡ 0
  leading = ap leading_scalars kind

  counted : length op.operands ≡ 1 + 1 + length (widths_used region_of)
  counted =
      let a = operands_counted op h spelled (kind_at form ts t) kind_here x.body refl ts t types_here 2 (ap (λ m. Some m) two) no_index all_cells own_cells in
      let b = length-map (captured_by x.body) (λ name. width_used name x.body.ops x.body.width) in
      omega (arith, a, b)

  gives_same : (us : List TensorValue)
      → given (record { kind = kind_at (renumbered_form (length (read t).ins + 1) (operands_in (read t) + 1) form) ts t; operands = range_with_len 0 (operands_in (read t)); defines = Some (operands_in (read t)); result = t; place = op.place }) alone us ≡ given op alone us
  gives_same us =
      let one : length (read t).ins ≡ 1 = sym (length-map (read t).ins (λ (x : Operand). x.dims)) ∙ ap length (zipped_dims ms (map width_of ts) (length-map ts width_of ∙ parts.count)) in
      let scalars = length-map (captured_by x.body) (λ name. width_used name x.body.ops x.body.width) in
      let last : drop 2 (range_with_len 0 (operands_in (read t))) ≡ range_with_len (length (read t).ins + 1) (length (captured_by x.body)) =
      ap (λ m. drop (m + 1) (range_with_len 0 (operands_in (read t)))) (sym one) ∙ scalars_last (read t) ∙ ap (range_with_len (length (read t).ins + 1)) scalars in
      reduced_same n x.dimensions region_of (widths_used region_of) (map width_of ts) (width_of t) ts t (length (read t).ins + 1) (operands_in (read t) + 1) (range_with_len 0 (operands_in (read t))) op.operands (Some (operands_in (read t))) op.defines op.place op.place
      region_fits_here (omega (arith, scalars)) last (captured_last op h spelled (kind_at form ts t) kind_here x.body refl ts t types_here 2 (ap (λ m. Some m) two) no_index all_cells own_cells) us
      ∙ ap₂ (λ k u. given (record { kind = k; operands = op.operands; defines = op.defines; result = u; place = op.place }) alone us) (sym kind_here) (verified.same op h form x.ins_outs kind 1 parts)

  pub reduce_interface : IsInterfaceOf op (structured_meaning (read op.result))
  reduce_interface =
      let own = verified.same op h form x.ins_outs kind 1 parts in
      subst (λ u. IsInterfaceOf op (structured_meaning (read u))) own
      (interface_of form n ms os ts t (widths_used region_of) op.place reads refl refl refl refl op kind_here (sym own) refl leading counted
      (whole_same form n ms os ts t (widths_used region_of) op.place reads refl refl refl refl op kind_here (sym own) leading gives_same refl))

-- ---- a generic

among_names : (ls : List ℕ) (l : ℕ) → is_among ls l ≡ names ls l
among_names [] l = refl
among_names (k ∷ ls) l = ap₂ (λ (a b : Bool). a || b) (turned k l) (among_names ls l)
  where
    turned : (k l : ℕ) → nat_eq l k ≡ nat_eq k l
    turned k l = elim (cases_Bool (nat_eq l k)) [
      | inl a ↦ let b : nat_eq k l ≡ true = grind (arith, nat_tests) in a ∙ sym b
      | inr a ↦ let b : nat_eq k l ≡ false = grind (arith, nat_tests) in a ∙ sym b
    ]

abbrev BelowAndOnce : ℕ → List ℕ → Type 0
BelowAndOnce n ls = AllByRecursion (λ l. l < n) ls × AreAxesOf n ls

projected : (n : ℕ) (maps : List AffineMap) → list_all (is_projection n) maps ≡ true → AllByRecursion (BelowAndOnce n) (map (λ (m : AffineMap). m.results) maps)
unfolding is_projection
projected n [] e = tt
projected n (m ∷ maps) e =
    let parts = both (is_projection n m) (list_all (is_projection n) maps) e in
    let own = (both _ _ parts.0).1 in
    let tests = both (list_all (λ l. nat_lt l n) m.results) (are_distinct m.results) own in
    ((all_below m.results tests.0, distinct_axes m.results (all_below m.results tests.0) tests.1), projected n maps parts.1)
  where
    all_below : (ls : List ℕ) → list_all (λ l. nat_lt l n) ls ≡ true → AllByRecursion (λ l. l < n) ls
    all_below [] e = tt
    all_below (l ∷ ls) e = let parts = both (nat_lt l n) (list_all (λ l. nat_lt l n) ls) e in let test = parts.0 in (grind (arith, nat_tests), all_below ls parts.1)

    none_of : (l : ℕ) (ls : List ℕ) → is_among ls l ≡ false → IsNoneOf l ls
    none_of l [] e = tt
    none_of l (k ∷ ls) e =
        elim (cases_Bool (nat_eq l k)) [
          | inl a ↦ let f : true ≡ false = sym (ap (λ (b : Bool). b || is_among ls l) a) ∙ e in absurd (cc)
          | inr a ↦ (λ same. absurd (grind (arith, nat_tests)), none_of l ls (sym (ap (λ (b : Bool). b || is_among ls l) a) ∙ e))
        ]

    distinct_axes : (ls : List ℕ) → AllByRecursion (λ l. l < n) ls → are_distinct ls ≡ true → AreAxesOf n ls
    distinct_axes [] b e = tt
    distinct_axes (l ∷ ls) b e =
        let parts = both (not (is_among ls l)) (are_distinct ls) e in
        (b.0, none_of l ls (turned (is_among ls l) parts.0), distinct_axes ls b.1 parts.1)
      where
        turned : (b : Bool) → not b ≡ true → b ≡ false
        turned true e = absurd (cc)
        turned false e = refl

all_split : {X : Type 0} (P : X → Type 0) (xs : List X) (x : X) → AllByRecursion P (xs ++ x ∷ []) → AllByRecursion P xs × P x
all_split P [] x h = (tt, h.0)
all_split P (y ∷ xs) x h = let rest = all_split P xs x h.1 in ((h.0, rest.0), rest.1)

all_firsts : {X : Type 0} (P Q : X → Type 0) (xs : List X) → AllByRecursion (λ x. P x × Q x) xs → AllByRecursion P xs
all_firsts P Q [] h = tt
all_firsts P Q (x ∷ xs) h = (h.0.0, all_firsts P Q xs h.1)

used_named : (ms : List (List ℕ)) (os : List ℕ) (l : ℕ) → is_used (ms ++ os ∷ []) l ≡ true → named_in ms os l ≡ true
used_named [] os l e = sym (among_names os l) ∙ only (is_among os l) e
  where
    only : (b : Bool) → (b || false) ≡ true → b ≡ true
    only true e = refl
    only false e = absurd (cc)
used_named (ls ∷ ms) os l e = ap₂ (λ (a b : Bool). a || b) (sym (among_names ls l)) refl ∙ go (is_among ls l) e (λ rest. used_named ms os l rest)
  where
    go : (b : Bool) → (b || is_used (ms ++ os ∷ []) l) ≡ true → (is_used (ms ++ os ∷ []) l ≡ true → named_in ms os l ≡ true) → (b || named_in ms os l) ≡ true
    go true e more = refl
    go false e more = more e

all_used : (test : ℕ → Bool) (b n l : ℕ) → list_all test (range_with_len b n) ≡ true → l < n → test (b + l) ≡ true
all_used test b zero l e lt = absurd (omega (arith, lt))
all_used test b (suc n) zero e lt = let z : b ≡ b + 0 = omega arith in subst (λ k. test k ≡ true) z (both (test b) (list_all test (range_with_len (b + 1) n)) e).0
all_used test b (suc n) (suc l) e lt =
    let z : b + 1 + l ≡ b + suc l = omega arith in
    subst (λ k. test k ≡ true) z (all_used test (b + 1) n l (both (test b) (list_all test (range_with_len (b + 1) n)) e).1 (omega (arith, lt)))

module _ (op : Op) (h : IsOfVerified op) (spelled : HasSpelledRegion op.kind) (x : declared_generic.Generic) (kind : op.kind ≡ op_kind.Generic x) (no_index : has_no_index x.body ≡ true) where
  abbrev generic_region : Region
  generic_region = record { captured = captured_by x.body; body = x.body }

  abbrev generic_form : Form
  generic_form = generic x.indexing_maps x.iterator_types generic_region

  abbrev in_types : List ValueType
  in_types = x.ins_outs.ins_types

  abbrev loops : ℕ
  loops = length x.iterator_types

  -- ---- its maps

  maps_kept : maps_fit x ≡ true
  unfolding keeps generic_of
  maps_kept = subst (λ k. option_map_or maps_fit (generic_of k) true ≡ true) kind (kept_here V8 h.scope op (h.keeps V8))

  abbrev all_used_test : Bool
  all_used_test = list_all (is_used (map (λ (m : AffineMap). m.results) x.indexing_maps)) (range_with_len 0 loops)

  abbrev projections_test : Bool
  projections_test = list_all (is_projection loops) x.indexing_maps

  parts_of_maps : (has_all_maps x ≡ true) × ((projections_test && (operands_follow x && (all_used_test && iterators_fit x))) ≡ true)
  unfolding maps_fit
  parts_of_maps = both (has_all_maps x) (projections_test && (operands_follow x && (all_used_test && iterators_fit x))) maps_kept

  behind_projections : (projections_test ≡ true) × ((operands_follow x && (all_used_test && iterators_fit x)) ≡ true)
  behind_projections = both projections_test (operands_follow x && (all_used_test && iterators_fit x)) parts_of_maps.1

  behind_follow : (operands_follow x ≡ true) × ((all_used_test && iterators_fit x) ≡ true)
  behind_follow = both (operands_follow x) (all_used_test && iterators_fit x) behind_projections.1

  ends : (all_used_test ≡ true) × (iterators_fit x ≡ true)
  ends = both all_used_test (iterators_fit x) behind_follow.1

  all_there_are : (x.ins_outs.outs_count ≡ 1) × (length x.indexing_maps ≡ x.ins_outs.ins_count + 1)
  unfolding has_all_maps
  all_there_are = let parts = both (nat_eq x.ins_outs.outs_count 1) (nat_eq (length x.indexing_maps) (x.ins_outs.ins_count + 1)) parts_of_maps.0 in (same_number _ _ parts.0, same_number _ _ parts.1)

  projections : projections_test ≡ true
  projections = behind_projections.0

  follow : operands_follow x ≡ true
  follow = behind_follow.0

  used : all_used_test ≡ true
  used = ends.0

  iterators : iterators_fit x ≡ true
  iterators = ends.1

  typed : ((length in_types ≡ x.ins_outs.ins_count) × (length x.ins_outs.outs_types ≡ x.ins_outs.outs_count))
  unfolding counts_fit
  typed = let parts = both _ _ (subst (λ k. counts_fit k op.operands ≡ true) kind (sound op h).counts) in (same_number _ _ parts.0, same_number _ _ parts.1)

  generic_parts : HasParts x.ins_outs.ins_count x.ins_outs
  generic_parts =
      named_parts x.ins_outs.ins_count x.ins_outs
      (joined _ _ (joined _ _ (equal _ _ refl) (equal _ _ all_there_are.0)) (joined _ _ (equal _ _ typed.0) (equal _ _ typed.1)))

  abbrev out_type : ValueType
  out_type = generic_parts.out

  inputs_counted : inputs_of_maps x.indexing_maps ≡ length in_types
  inputs_counted = let a = all_there_are.1 in let b = typed.0 in omega (arith, a, b)

  few_inputs_here : x.ins_outs.ins_count ≤ max_inputs true
  unfolding keeps has_few_inputs generic_of
  few_inputs_here =
      let kept : nat_le x.ins_outs.ins_count (max_inputs (is_some h.scope.device)) ≡ true =
      subst (λ k. option_map_or (λ (y : declared_generic.Generic). nat_le y.ins_outs.ins_count (max_inputs (is_some h.scope.device))) (generic_of k) true ≡ true) kind (kept_here L6 h.scope op (h.keeps L6)) in
      let source : nat_le x.ins_outs.ins_count 3 ≡ true = subst (λ (d : Option (List ℕ)). nat_le x.ins_outs.ins_count (max_inputs (is_some d)) ≡ true) h.source kept in
      grind (arith, nat_tests)

  few_loops_here : loops ≤ max_rank
  unfolding keeps has_few_loops generic_of
  few_loops_here =
      let kept : nat_le loops max_loops ≡ true =
      subst (λ k. option_map_or (λ (y : declared_generic.Generic). nat_le (length y.iterator_types) max_loops) (generic_of k) true ≡ true) kind (both (list_all has_few_dims (op_types_of op)) (has_few_loops op.kind) (kept_here L2 h.scope op (h.keeps L2))).1 in
      grind (arith, nat_tests)

  are_maps : AreMaps x.indexing_maps x.iterator_types
  unfolding iterators_fit
  are_maps = record {
    some = let a = all_there_are.1 in omega (arith, a);
    few = let a = all_there_are.1 in let le = few_inputs_here in omega (arith, a, le);
    projections = projections;
    used = used;
    iterators_fit = iterators;
  }

  abbrev in_maps : List (List ℕ)
  in_maps = map (λ (m : AffineMap). m.results) (take (inputs_of_maps x.indexing_maps) x.indexing_maps)

  abbrev out_map : List ℕ
  out_map = first_results (drop (inputs_of_maps x.indexing_maps) x.indexing_maps)

  split : map (λ (m : AffineMap). m.results) x.indexing_maps ≡ in_maps ++ out_map ∷ []
  split = results_split x.indexing_maps are_maps.some

  each : AllByRecursion (BelowAndOnce loops) in_maps × BelowAndOnce loops out_map
  each = all_split (BelowAndOnce loops) in_maps out_map (subst (AllByRecursion (BelowAndOnce loops)) split (projected loops x.indexing_maps projections))

  count_here : length in_types ≡ length in_maps
  count_here = sym inputs_counted ∙ sym (maps_counted x.indexing_maps x.iterator_types are_maps)

  -- ---- its types

  generic_inputs : AllByRecursion (IsInput generic_form) in_types
  generic_inputs = verified.tensor_inputs op h generic_form x.ins_outs kind x.ins_outs.ins_count generic_parts refl

  generic_own : HasCells out_type
  generic_own = verified.own_cells op h generic_form x.ins_outs kind x.ins_outs.ins_count generic_parts

  generic_cells : AllByRecursion HasCells (in_types ++ out_type ∷ [])
  generic_cells = all_and HasCells in_types out_type (inputs_cells generic_form in_types generic_inputs) generic_own

  generic_kind : op.kind ≡ kind_at generic_form in_types out_type
  generic_kind = verified.kind_here op h generic_form x.ins_outs kind x.ins_outs.ins_count generic_parts

  generic_types : loop_operands (kind_at generic_form in_types out_type) ≡ in_types ++ out_type ∷ []
  unfolding structure_of
  generic_types = refl

  generic_fits : IsRegion generic_region (widths_used generic_region) (map width_of in_types) (width_of out_type)
  generic_fits = region_in_order op h spelled (kind_at generic_form in_types out_type) generic_kind x.body refl in_types out_type generic_types (length in_types + 1) refl no_index generic_cells generic_own

  maps_follow : fits_maps (map single (in_maps ++ out_map ∷ [])) (in_types ++ out_type ∷ []) ≡ true
  unfolding operands_follow
  maps_follow =
      let types : x.ins_outs.ins_types ++ x.ins_outs.outs_types ≡ in_types ++ out_type ∷ [] = ap (λ (y : InsOuts). in_types ++ y.outs_types) generic_parts.is in
      ap₂ fits_maps (ap (map single) (sym split)) (sym types) ∙ follow

  generic_shapes : AreShapes (first_at (all_pairs (in_maps ++ out_map ∷ []) (map shape_of in_types ++ shape_of out_type ∷ []))) (in_maps ++ out_map ∷ []) (map shape_of in_types ++ shape_of out_type ∷ [])
  generic_shapes =
      subst (λ ss. AreShapes (first_at (all_pairs (in_maps ++ out_map ∷ []) ss)) (in_maps ++ out_map ∷ []) ss) (shapes_joined in_types out_type) (shapes_fit (in_maps ++ out_map ∷ []) (in_types ++ out_type ∷ []) generic_cells maps_follow)

  generic_reads : Reads generic_form loops in_maps out_map in_types out_type (widths_used generic_region) op.place
  generic_reads = record {
    count = count_here;
    tensors = refl;
    inputs = generic_inputs;
    out = verified.own_is op h generic_form x.ins_outs kind x.ins_outs.ins_count generic_parts;
    short = verified.short op h generic_form x.ins_outs kind x.ins_outs.ins_count generic_parts;
    small = verified.small op h generic_form x.ins_outs kind x.ins_outs.ins_count generic_parts;
    shapes_fit = generic_shapes;
    below = all_firsts (λ ls. AllByRecursion (λ l. l < loops) ls) (AreAxesOf loops) in_maps each.0;
    own_below = each.1.0;
    once = each.1.1;
    few = few_loops_here;
    named = λ l lt.
        let here = all_used (is_used (map (λ (m : AffineMap). m.results) x.indexing_maps)) 0 loops l used lt in
        let z : 0 + l ≡ l = omega arith in
        used_named in_maps out_map l (subst (λ rs. is_used rs l ≡ true) split (subst (λ k. is_used (map (λ (m : AffineMap). m.results) x.indexing_maps) k ≡ true) z here));
    loops = refl;
    maps = refl;
    output = refl;
    numbers = are_maps;
    widths = tt;
    region = generic_fits;
  }

  abbrev read_generic : ValueType → Structured
  read_generic out = regional_by generic_form loops in_maps out_map in_types out (widths_used generic_region) op.place

  pub generic_in_order : IsStructured (read_generic op.result)
  generic_in_order =
      subst (λ u. IsStructured (read_generic u)) (verified.same op h generic_form x.ins_outs kind x.ins_outs.ins_count generic_parts)
      (in_order generic_form loops in_maps out_map in_types out_type (widths_used generic_region) op.place generic_reads)

  generic_counted : length op.operands ≡ length in_maps + 1 + length (widths_used generic_region)
  generic_counted =
      let a = operands_counted op h spelled (kind_at generic_form in_types out_type) generic_kind x.body refl in_types out_type generic_types (length in_types + 1) refl no_index generic_cells generic_own in
      let b = length-map (captured_by x.body) (λ name. width_used name x.body.ops x.body.width) in
      let c = count_here in
      omega (arith, a, b, c)

  generic_gives : (us : List TensorValue)
      → given (record { kind = kind_at (renumbered_form (length (read_generic out_type).ins + 1) (operands_in (read_generic out_type) + 1) generic_form) in_types out_type; operands = range_with_len 0 (operands_in (read_generic out_type)); defines = Some (operands_in (read_generic out_type)); result = out_type; place = op.place }) alone us ≡ given op alone us
  generic_gives us =
      let e = read_generic out_type in
      let all : length e.ins ≡ length in_types = sym (length-map e.ins (λ (y : Operand). y.dims)) ∙ ap length (zipped_dims in_maps (map width_of in_types) (length-map in_types width_of ∙ count_here)) ∙ sym count_here in
      let scalars = length-map (captured_by x.body) (λ name. width_used name x.body.ops x.body.width) in
      let last : drop (length in_types + 1) (range_with_len 0 (operands_in e)) ≡ range_with_len (length e.ins + 1) (length (captured_by x.body)) =
      ap (λ m. drop (m + 1) (range_with_len 0 (operands_in e))) (sym all) ∙ scalars_last e ∙ ap (range_with_len (length e.ins + 1)) scalars in
      let some = are_maps.some in
      let n = inputs_counted in
      generic_same x.indexing_maps x.iterator_types generic_region (widths_used generic_region) (map width_of in_types) (width_of out_type) in_types out_type (length e.ins + 1) (operands_in e + 1) (range_with_len 0 (operands_in e)) op.operands (Some (operands_in e)) op.defines op.place op.place
      generic_fits (omega (arith, scalars)) (length-take-le (length in_types) x.indexing_maps (omega (arith, some, n))) last
      (captured_last op h spelled (kind_at generic_form in_types out_type) generic_kind x.body refl in_types out_type generic_types (length in_types + 1) refl no_index generic_cells generic_own) us
      ∙ ap₂ (λ k u. given (record { kind = k; operands = op.operands; defines = op.defines; result = u; place = op.place }) alone us) (sym generic_kind) (verified.same op h generic_form x.ins_outs kind x.ins_outs.ins_count generic_parts)

  pub generic_interface : IsInterfaceOf op (structured_meaning (read_generic op.result))
  generic_interface =
      let own = verified.same op h generic_form x.ins_outs kind x.ins_outs.ins_count generic_parts in
      let none : leading_scalars op.kind ≡ 0 = ap leading_scalars kind in
      subst (λ u. IsInterfaceOf op (structured_meaning (read_generic u))) own
      (interface_of generic_form loops in_maps out_map in_types out_type (widths_used generic_region) op.place generic_reads inputs_counted refl refl refl op generic_kind (sym own) refl none generic_counted
      (whole_same generic_form loops in_maps out_map in_types out_type (widths_used generic_region) op.place generic_reads inputs_counted refl refl refl op generic_kind (sym own) none generic_gives refl))
