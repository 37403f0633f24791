-- The laws of the interface of an element operation.
use Rattle.std.proofs.Common.{ap₂, ◌≡◌, ℕ, zero, suc, ◌+◌, ◌<◌, ◌≤◌, true, false, List, [], ◌∷◌, ◌++◌, map, length, get_or, Option, Some, refl, ap, sym, ◌∙◌, arith, subst}
use Rattle.std.proofs.lemmas.Option.{same_Some}
use Rattle.std.specs.List.{AllByRecursion}
use Rattle.std.proofs.lemmas.List.{length-map}
use Rattle.std.specs.Prelude.{not, slice_get}
use Rattle.sh_base.specs.declared.numbers.Width.{Width}
use Rattle.sh_base.specs.Shape.{max_cells, max_rank}
use Rattle.sh_grid.specs.Grid.{GridValue}
use Rattle.sh_ir.specs.declared.operations.Op.{Op}
use Rattle.sh_ir.specs.declared.types.Dim.{Dim}
use Rattle.sh_ir.specs.declared.types.ValueType.TheVariants.{Nothing}
use Rattle.sh_ir.specs.Formed.{is_scalar}
use Rattle.sh_ir.specs.Rules.{KeepsOps}
use Rattle.sh_ir.specs.Scope.{Scope, value_named}
use Rattle.sh_pieces.specs.Promises.{IsLocalPart}
use Rattle.sh_sem.specs.Given.{alone, given}
use Rattle.sh_sem.specs.Steps.{steps_on}
use Rattle.sh_sharding.specs.declared.shardings.Dimension.{Dimension}
use Rattle.sh_sharding.specs.LocalTypes.{local_dims}
use Rattle.sh_sharding.specs.Sharding.{HasNoHalos, IsSharding, counted_cells, unsplit}
use Rattle.sh_sharding.specs.Splits.{tensor_splitting}
use Rattle.sh_sharding.proofs.LocalLimits.{few_cells, few_dims}
use Rattle.sh_sharding.proofs.PartLaws.{extents_few}
use Rattle.sh_iface.specs.declared.options.Follow.{Follow}
use Rattle.sh_iface.specs.declared.options.How.TheVariants.{Same}
use Rattle.sh_iface.specs.Elements.{Element, IsElement, widths_by, op_at, tensor_of, known_dims, element_value, element_nest, element_sharding, element_meaning}
use Rattle.sh_iface.specs.Lawful.{IsFollowed, IsLawful, IsNest, IsNestValue, IsPartScope, KeepsForm, FollowsBelow, operand_types}
use Rattle.sh_iface.specs.LoopNest.{HasNoWindows, Loop, NestDim, NestValue, value_at}
use Rattle.sh_iface.specs.Meaning.{instructions, local_type, operand_splits, result_split}
use Rattle.sh_iface.specs.Splits.{OptionValue, implied_of, split_of}
use Rattle.sh_iface.specs.Table.{always, each_follows, follows, loops_where, parallel}
use Rattle.sh_iface.specs.Valid.{IsValid}
use Rattle.sh_iface.proofs.ElementCut.{alone_at, element_cut, splits_by}
use Rattle.sh_iface.proofs.ElementRules.{AreTyped, IsPlace, element_keeps}
use Rattle.sh_iface.proofs.Implied.{plain-implied, unsplit_valid}

-- ---- the loops

pub length-loops : (at : ℕ) (shape : List ℕ) → length (loops_where always at shape) ≡ length shape
length-loops at [] = refl
length-loops at (n ∷ shape) = ap suc (length-loops (suc at) shape)

pub length-follows : (at : ℕ) (shape : List ℕ) → length (each_follows at shape) ≡ length shape
length-follows at [] = refl
length-follows at (n ∷ shape) = ap suc (length-follows (suc at) shape)

extents-follows : (at : ℕ) (shape : List ℕ) → map (λ (d : NestDim). d.extent) (each_follows at shape) ≡ shape
extents-follows at [] = refl
extents-follows at (n ∷ shape) = ap (λ ns. n ∷ ns) (extents-follows (suc at) shape)

pub plain_follows : (at : ℕ) (shape : List ℕ) (w : Width) → HasNoWindows (record { dims = each_follows at shape; width = w })
plain_follows at [] w = tt
plain_follows at (n ∷ shape) w = (tt, plain_follows (suc at) shape w)

follows_below : (at count : ℕ) (shape : List ℕ) → at + length shape ≤ count → AllByRecursion (λ d. FollowsBelow count d.follow) (each_follows at shape)
follows_below at count [] h = tt
follows_below at count (n ∷ shape) h = (omega (arith, h), follows_below (suc at) count shape (omega (arith, h)))

extents-whole : (shape : List ℕ) → map (λ (d : Dimension). d.extent) (map unsplit shape) ≡ shape
extents-whole [] = refl
extents-whole (n ∷ shape) = ap (λ ns. n ∷ ns) (extents-whole shape)

small_loops : (at : ℕ) (shape : List ℕ) → AllByRecursion (λ (d : Dimension). d.extent ≤ max_cells) (map unsplit shape) → AllByRecursion (λ (l : Loop). l.extent ≤ max_cells) (loops_where always at shape)
small_loops at [] h = tt
small_loops at (n ∷ shape) h = (h.0, small_loops (suc at) shape h.1)

-- ---- the values

pub dims_at : (shape : List ℕ) (ws : List Width) (w : Width) (v : ℕ) → (get_or (map (element_value shape) ws) v (element_value shape w)).dims ≡ each_follows 0 shape
dims_at shape [] w v = refl
dims_at shape (x ∷ ws) w zero = refl
dims_at shape (x ∷ ws) w (suc v) = dims_at shape ws w v

past_end : (shape : List ℕ) (ws : List Width) (w : Width) → get_or (map (element_value shape) ws) (length (map (element_value shape) ws)) (element_value shape w) ≡ element_value shape w
past_end shape [] w = refl
past_end shape (x ∷ ws) w = past_end shape ws w

-- a loop, and the dimension that follows it
record IsLoopOf (shape : List ℕ) (at l : ℕ) (loop : Loop) : Type 0 where
  extent : ℕ
  is : loop ≡ parallel true extent
  follows_it : slice_get (each_follows at shape) l ≡ Some (follows Same (at + l) extent)

loop_of : (shape : List ℕ) (at l : ℕ) (loop : Loop) → slice_get (loops_where always at shape) l ≡ Some loop → IsLoopOf shape at l loop
loop_of [] at l loop e = absurd (cc)
loop_of (n ∷ shape) at zero loop e = record {
  extent = n;
  is = sym (same_Some (parallel true n) loop e);
  follows_it = let here : at ≡ at + 0 = omega arith in ap (λ l. Some (follows Same l n)) here;
}
loop_of (n ∷ shape) at (suc l) loop e =
    let rest = loop_of shape (suc at) l loop e in
    let here : suc at + l ≡ at + suc l = omega arith in
    record {
      extent = rest.extent;
      is = rest.is;
      follows_it = rest.follows_it ∙ ap (λ l. Some (follows Same l rest.extent)) here;
    }

module _ (e : Element) (is : IsElement e) where
  is_value : (v : ℕ) → IsNestValue (length (element_nest e).loops) (value_at (element_nest e) v)
  unfolding element_nest
  is_value v =
      let dims = dims_at e.shape (widths_by e.what e.width) e.width v in
      let counted = length-loops 0 e.shape in
      record {
        short = subst (λ ds. length ds ≤ max_rank) (sym dims) (let n = length-follows 0 e.shape in let short = is.short in omega (arith, n, short));
        small = subst (λ (ds : List NestDim). counted_cells (map (λ d. d.extent) ds) ≤ max_cells) (sym dims) (subst (λ ns. counted_cells ns ≤ max_cells) (sym (extents-follows 0 e.shape)) is.small);
        below = subst (AllByRecursion (λ d. FollowsBelow (length (loops_where always 0 e.shape)) d.follow)) (sym dims) (follows_below 0 (length (loops_where always 0 e.shape)) e.shape (omega (arith, counted)));
      }

  is_followed : (l : ℕ) (loop : Loop) → slice_get (element_nest e).loops l ≡ Some loop → IsFollowed (element_nest e) l
  unfolding element_nest
  is_followed l loop at =
      let it = loop_of e.shape 0 l loop at in
      let result = past_end e.shape (widths_by e.what e.width) e.width in
      record {
        value = length (map (element_value e.shape) (widths_by e.what e.width));
        there = omega arith;
        dim = l;
        found = follows Same (0 + l) it.extent;
        at = subst (λ (x : NestValue). slice_get x.dims l ≡ Some (follows Same (0 + l) it.extent)) (sym result) it.follows_it;
        follows = let same : 0 + l ≡ l = omega arith in let by_loop : ℕ → Option Follow = λ k. Some (record { loop_index = k; how = Same }) in ap by_loop same;
        extent = λ other h. let same = same_Some other loop (sym h ∙ at) in ap (λ (x : Loop). x.extent) (same ∙ it.is);
      }

  element_is_nest : IsNest (element_nest e)
  unfolding element_nest
  element_is_nest = record {
    few = let n = length-loops 0 e.shape in let short = is.short in omega (arith, n, short);
    small = small_loops 0 e.shape (extents_few (map unsplit e.shape) max_cells (subst (λ ns. counted_cells ns ≤ max_cells) (sym (extents-whole e.shape)) is.small));
    values = λ v le. is_value v;
    splittable = λ l loop at yes. is_followed l loop at;
  }

-- ---- how the values are split

split_alike : (e : Element) (g : GridValue) (o : OptionValue) (w : Width) → split_of g (element_nest e) o (element_value e.shape w) ≡ record { sharding = element_sharding e g o; width = w }
unfolding implied_of
split_alike e g o w = refl

all_alike : (e : Element) (g : GridValue) (o : OptionValue) (ws : List Width) → map (split_of g (element_nest e) o) (map (element_value e.shape) ws) ++ [] ≡ splits_by (element_sharding e g o) ws
all_alike e g o [] = refl
all_alike e g o (w ∷ ws) = ap₂ ◌∷◌ (split_alike e g o w) (all_alike e g o ws)

operands_alike : (e : Element) (g : GridValue) (o : OptionValue) → operand_splits (element_meaning e) g o ≡ splits_by (element_sharding e g o) (widths_by e.what e.width)
unfolding element_nest
operands_alike e g o = all_alike e g o (widths_by e.what e.width)

types_alike : (e : Element) (g : GridValue) (o : OptionValue) (ws : List Width)
    → map (λ value. local_type (split_of g (element_nest e) o value)) (map (element_value e.shape) ws) ++ [] ≡ map (tensor_of (local_dims (element_sharding e g o))) ws
unfolding local_type
types_alike e g o [] = refl
types_alike e g o (w ∷ ws) = ap₂ ◌∷◌ (ap local_type (split_alike e g o w)) (types_alike e g o ws)

operand_types_alike : (e : Element) (g : GridValue) (o : OptionValue) → operand_types (element_meaning e) g o ≡ map (tensor_of (local_dims (element_sharding e g o))) (widths_by e.what e.width)
unfolding element_nest
operand_types_alike e g o = types_alike e g o (widths_by e.what e.width)

result_alike : (e : Element) (g : GridValue) (o : OptionValue) → result_split (element_meaning e) g o ≡ record { sharding = element_sharding e g o; width = e.width }
unfolding element_nest implied_of
result_alike e g o = refl

instructions_are : (e : Element) (g : GridValue) (o : OptionValue) → instructions (element_meaning e) g o ≡ op_at e (local_dims (element_sharding e g o)) ∷ []
unfolding instructions
instructions_are e g o = refl

admitted : (e : Element) (g : GridValue) (o : OptionValue) → IsValid (element_nest e) g o → IsSharding (element_sharding e g o)
unfolding element_nest
admitted e g o valid =
    let result = past_end e.shape (widths_by e.what e.width) e.width in
    subst (λ (x : NestValue). IsSharding (implied_of g (element_nest e) o x)) result (valid.admitted (length (map (element_value e.shape) (widths_by e.what e.width))) (omega arith))

plain : (e : Element) (g : GridValue) (o : OptionValue) → HasNoHalos (element_sharding e g o).dimensions
plain e g o = plain-implied g (element_nest e) o (element_value e.shape e.width) (plain_follows 0 e.shape e.width)

-- ---- the rules

are_typed : (dims : List Dim) (scope : Scope) (k : ℕ) (ws : List Width)
    → ((i : ℕ) → i < length ws → value_named scope.values (k + i) ≡ Some (record { name = k + i; value_type = get_or (map (tensor_of dims) ws) i Nothing; is_constant = is_scalar (get_or (map (tensor_of dims) ws) i Nothing) }))
    → AreTyped scope dims k ws
are_typed dims scope k [] h = tt
are_typed dims scope k (w ∷ ws) h =
    let first : k + 0 ≡ k = omega arith in (
      subst (λ n. value_named scope.values n ≡ Some (record { name = n; value_type = tensor_of dims w; is_constant = false })) first (h 0 (omega arith)),
      are_typed dims scope (suc k) ws (λ i l.
          let next : k + suc i ≡ suc k + i = omega arith in
          subst (λ n. value_named scope.values n ≡ Some (record { name = n; value_type = get_or (map (tensor_of dims) ws) i Nothing; is_constant = is_scalar (get_or (map (tensor_of dims) ws) i Nothing) })) next (h (suc i) (omega (arith, l)))),
    )

-- the grid of an implied sharding is the option's
on_its_grid : (e : Element) (is : IsElement e) (g : GridValue) (o : OptionValue) → IsValid (element_nest e) g o
    → IsLocalPart (steps_on g.extents) tensor_splitting (given (op_at e (known_dims e.shape)) alone) (splits_by (element_sharding e g o) (widths_by e.what e.width)) (record { sharding = element_sharding e g o; width = e.width })
    (op_at e (local_dims (element_sharding e g o)) ∷ [])
unfolding implied_of
on_its_grid e is g o valid = element_cut e (element_sharding e g o) (admitted e g o valid) (plain e g o) is.fits e.shape

module _ (e : Element) (is : IsElement e) (g : GridValue) (o : OptionValue) (valid : IsValid (element_nest e) g o) where
  abbrev dims : List Dim
  dims = local_dims (element_sharding e g o)

  abbrev widths : List Width
  widths = widths_by e.what e.width

  is_place : (scope : Scope) → IsPartScope g (operand_types (element_meaning e) g o) scope → IsPlace e.what e.width dims scope
  is_place scope p =
      let at : IsPartScope g (map (tensor_of dims) widths) scope = subst (λ ts. IsPartScope g ts scope) (operand_types_alike e g o) p in
      let counted : length (map (tensor_of dims) widths) ≡ length widths = length-map widths (tensor_of dims) in
      record {
        fits = is.fits;
        grid = g.name;
        device = at.device;
        operands = are_typed dims scope 0 widths (λ i l.
            let same : i ≡ 0 + i = omega arith in
            subst (λ n. value_named scope.values n ≡ Some (record { name = n; value_type = get_or (map (tensor_of dims) widths) i Nothing; is_constant = is_scalar (get_or (map (tensor_of dims) widths) i Nothing) })) same
            (at.operands i (omega (arith, l, counted))));
        fresh = at.fresh (length widths) (omega (arith, counted));
        few_dims = few_dims (element_sharding e g o) (admitted e g o valid);
        few_cells = few_cells (element_sharding e g o) (admitted e g o valid);
      }

  type_alike : tensor_of dims e.width ≡ local_type (result_split (element_meaning e) g o)
  unfolding local_type
  type_alike = ap local_type (sym (result_alike e g o))

  element_form : KeepsForm (element_meaning e) g o
  element_form = record {
    alone = (ap not (alone_at e.what dims), tt);
    keeps = λ scope rule p. subst (KeepsOps rule scope) (sym (instructions_are e g o)) (element_keeps e.width e.shape e.place dims scope e.what rule (is_place scope p));
    typed = λ op at. ap (λ (x : Op). x.result) (sym (same_Some (op_at e dims) op at)) ∙ type_alike;
    outs = λ some. absurd (cc);
  }

  element_cuts : IsLocalPart (steps_on g.extents) tensor_splitting (given (op_at e (known_dims e.shape)) alone) (operand_splits (element_meaning e) g o) (result_split (element_meaning e) g o) (instructions (element_meaning e) g o)
  element_cuts =
      let made : IsLocalPart (steps_on g.extents) tensor_splitting (given (op_at e (known_dims e.shape)) alone) (splits_by (element_sharding e g o) widths) (record { sharding = element_sharding e g o; width = e.width }) (op_at e dims ∷ []) =
      on_grid in
      subst (λ ss. IsLocalPart (steps_on g.extents) tensor_splitting (given (op_at e (known_dims e.shape)) alone) ss (result_split (element_meaning e) g o) (instructions (element_meaning e) g o)) (sym (operands_alike e g o))
      (subst (λ s. IsLocalPart (steps_on g.extents) tensor_splitting (given (op_at e (known_dims e.shape)) alone) (splits_by (element_sharding e g o) widths) s (instructions (element_meaning e) g o)) (sym (result_alike e g o))
      (subst (λ is. IsLocalPart (steps_on g.extents) tensor_splitting (given (op_at e (known_dims e.shape)) alone) (splits_by (element_sharding e g o) widths) (record { sharding = element_sharding e g o; width = e.width }) is) (sym (instructions_are e g o)) made))
    where
      on_grid : IsLocalPart (steps_on g.extents) tensor_splitting (given (op_at e (known_dims e.shape)) alone) (splits_by (element_sharding e g o) widths) (record { sharding = element_sharding e g o; width = e.width }) (op_at e dims ∷ [])
      on_grid = on_its_grid e is g o valid

-- The laws of an element operation.
pub element_lawful : (e : Element) → IsElement e → IsLawful (element_meaning e)
element_lawful e is = record {
  nest = element_is_nest e is;
  replicated = unsplit_valid (element_nest e) (element_is_nest e is);
  form = λ g o valid. element_form e is g o valid;
  cut = λ g o valid. element_cuts e is g o valid;
}
