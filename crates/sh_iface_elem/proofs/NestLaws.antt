-- What the loop nest of an element operation says of each loop and each dimension.
use Rattle.std.proofs.Common.{◌≡◌, ℕ, zero, suc, ◌+◌, ◌<◌, true, false, List, [], ◌∷◌, ◌++◌, map, length, None, refl, ap, sym, ◌∙◌, arith, subst}
use Rattle.std.proofs.lemmas.List.{get_or_past, length-map}
use Rattle.std.specs.List.{AllByRecursion}
use Rattle.std.specs.Prelude.{get_or}
use Rattle.sh_base.specs.declared.numbers.Width.{Width}
use Rattle.sh_iface.specs.declared.options.How.TheVariants.{Same}
use Rattle.sh_grid.specs.Grid.{GridValue}
use Rattle.sh_ir.specs.declared.operations.Op.{Op}
use Rattle.sh_sharding.specs.LocalTypes.{local_dims}
use Rattle.sh_sharding.specs.Sharding.{ShardingValue}
use Rattle.sh_iface.specs.Elements.{Element, element_nest, element_part, element_value, op_at, widths_by}
use Rattle.sh_iface.specs.LoopNest.{HasNoWindows, IsPlainFollow, IsPlainNest, Loop, NestDim, dim_at, loop_at, value_at}
use Rattle.sh_iface.specs.Splits.{OptionValue, implied_of}
use Rattle.sh_iface.specs.Table.{always, each_follows, follows, loops_where, parallel}
use Rattle.sh_iface.proofs.ElementLaws.{length-loops, length-follows, plain_follows, dims_at}

pub loops_counted : (e : Element) → length (element_nest e).loops ≡ length e.shape
unfolding element_nest
loops_counted e = length-loops 0 e.shape

pub operands_counted : (e : Element) → length (element_nest e).operands ≡ length (widths_by e.what e.width)
unfolding element_nest
operands_counted e = length-map (widths_by e.what e.width) (element_value e.shape)

pub dims_are : (e : Element) (v : ℕ) → (value_at (element_nest e) v).dims ≡ each_follows 0 e.shape
unfolding element_nest
dims_are e v = dims_at e.shape (widths_by e.what e.width) e.width v

pub dims_counted : (e : Element) (v : ℕ) → length (value_at (element_nest e) v).dims ≡ length e.shape
dims_counted e v = ap length (dims_are e v) ∙ length-follows 0 e.shape

loop_in : (at : ℕ) (shape : List ℕ) (l : ℕ) (d : Loop) → l < length shape → get_or (loops_where always at shape) l d ≡ parallel true (get_or shape l 0)
loop_in at [] l d le = absurd (omega arith)
loop_in at (n ∷ shape) zero d le = refl
loop_in at (n ∷ shape) (suc l) d le = loop_in (suc at) shape l d (omega arith)

pub loop_is : (e : Element) (l : ℕ) → l < length e.shape → loop_at (element_nest e) l ≡ parallel true (get_or e.shape l 0)
unfolding element_nest
loop_is e l le = loop_in 0 e.shape l (record { extent = 0; splittable = false; kind = None }) le

shift : (at l : ℕ) → suc at + l ≡ at + suc l
shift at l = omega arith

dim_in : (at : ℕ) (shape : List ℕ) (i : ℕ) (d : NestDim) → i < length shape → get_or (each_follows at shape) i d ≡ follows Same (at + i) (get_or shape i 0)
dim_in at [] i d le = absurd (omega arith)
dim_in at (n ∷ shape) zero d le = let here : at ≡ at + 0 = omega arith in ap (λ k. follows Same k n) here
dim_in at (n ∷ shape) (suc i) d le = dim_in (suc at) shape i d (omega arith) ∙ ap (λ k. follows Same k (get_or shape i 0)) (shift at i)

none_before : (i : ℕ) → 0 + i ≡ i
none_before i = omega arith

pub dim_is : (e : Element) (v i : ℕ) → i < length e.shape → dim_at (value_at (element_nest e) v) i ≡ follows Same i (get_or e.shape i 0)
dim_is e v i le = ap (λ dims. get_or dims i (record { extent = 0; follow = None })) (dims_are e v) ∙ dim_in 0 e.shape i (record { extent = 0; follow = None }) le ∙ ap (λ k. follows Same k (get_or e.shape i 0)) (none_before i)

-- what is below the number of loops, and of a value's dimensions
pub loop_below : (e : Element) (l : ℕ) → l < length (element_nest e).loops → l < length e.shape
loop_below e l le = let count = loops_counted e in omega (arith, count, le)

pub dim_below : (e : Element) (v i : ℕ) → i < length (value_at (element_nest e) v).dims → i < length e.shape
dim_below e v i le = let count = dims_counted e v in omega (arith, count, le)

each_plain : (shape : List ℕ) (ws : List Width) → AllByRecursion HasNoWindows (map (element_value shape) ws)
each_plain shape [] = tt
each_plain shape (w ∷ ws) = (plain_follows 0 shape w, each_plain shape ws)

-- no value is read through a window
pub plain_nest : (e : Element) → IsPlainNest (element_nest e)
unfolding element_nest
plain_nest e = (each_plain e.shape (widths_by e.what e.width), plain_follows 0 e.shape e.width)

pub plain_value : (e : Element) (v : ℕ) → HasNoWindows (value_at (element_nest e) v)
plain_value e v = subst (AllByRecursion (λ (d : NestDim). IsPlainFollow d.follow)) (sym (dims_are e v)) (plain_follows 0 e.shape e.width)

-- the value behind the operands is the result
pub result_is : (e : Element) (v : ℕ) → v ≡ length (element_nest e).operands → value_at (element_nest e) v ≡ element_value e.shape e.width
unfolding element_nest
result_is e v same = get_or_past (map (element_value e.shape) (widths_by e.what e.width)) v (element_value e.shape e.width) (omega (arith, same))

-- the local part is the operation on tensors that are split as the result is
pub part_is : (e : Element) (g : GridValue) (o : OptionValue) (v : ℕ) (s : ShardingValue) (ops old : List Op) → v ≡ length (element_nest e).operands →
    s ≡ implied_of g (element_nest e) o (value_at (element_nest e) v) → old ≡ [] → ops ≡ old ++ op_at e (local_dims s) ∷ [] → ops ≡ (element_part e g o).ops
part_is e g o v s ops old same split none made =
    made
    ∙ ap (λ xs. xs ++ op_at e (local_dims s) ∷ []) none
    ∙ ap (λ (x : ShardingValue). op_at e (local_dims x) ∷ []) (split ∙ ap (implied_of g (element_nest e) o) (result_is e v same))
