-- A region in order gives cells of the widths of its values.
use Rattle.std.proofs.Common.{◌≡◌, ℕ, zero, suc, Bool, true, false, List, [], ◌∷◌, ◌++◌, map, length, Option, Some, None, refl, ap, ap₂, sym, ◌∙◌, arith, subst, append_assoc}
use Rattle.std.proofs.lemmas.Bool.Decides.{nat_tests}
use Rattle.std.proofs.lemmas.List.{append-nil}
use Rattle.std.proofs.lemmas.Option.{same_Some}
use Rattle.std.specs.List.{AllByRecursion, list_all}
use Rattle.std.specs.Option.{option_map_or}
use Rattle.std.specs.Prelude.{◌&&◌, ◌==◌, IfSome, nat_eq, if◌then◌else◌, option_and_then, option_map, slice_get}
use Rattle.sh_base.specs.Cells.{IsCellOf, bits_of}
use Rattle.sh_base.specs.declared.numbers.Cell.{Cell}
use Rattle.sh_base.specs.declared.numbers.Cell.TheVariants.{Undef, Val}
use Rattle.sh_base.specs.declared.numbers.Width.{Width}
use Rattle.sh_base.specs.declared.numbers.Width.TheVariants.{I1, I8, I16, I32, I64}
use Rattle.sh_base.specs.declared.operations.CastOp.{CastOp}
use Rattle.sh_base.specs.declared.operations.CastOp.TheVariants.{Extsi, Extui, Trunci}
use Rattle.sh_int.specs.Elements.{CanCast, element_of}
use Rattle.sh_int.proofs.ElementLaws.{cast_of-within, comparison_of-within, element_of-within}
use Rattle.sh_ir.specs.declared.arith_ops.Contents.{Contents}
use Rattle.sh_ir.specs.declared.arith_ops.Contents.TheVariants.{Held, Broken}
use Rattle.sh_ir.specs.declared.bodies.BodyKind.{BodyKind}
use Rattle.sh_ir.specs.declared.bodies.BodyKind.TheVariants.{Constant, Binary, Compare, Select, Cast, Index, IndexCast}
use Rattle.sh_ir.specs.declared.bodies.BodyOp.{BodyOp}
use Rattle.sh_ir.specs.declared.types.ValueType.{ValueType}
use Rattle.sh_ir.specs.declared.types.ValueType.TheVariants as value_type
use Rattle.sh_ir.specs.declared.types.ValueType.TheVariants.{Scalar}
use Rattle.sh_ir.specs.Agreement.{cell_bits, same_type}
use Rattle.sh_ir.specs.Formed.{is_on_index, is_scalar}
use Rattle.sh_ir.specs.Literals.{are_held, is_held, is_literal_cell}
use Rattle.sh_ir.specs.RegionRules.{body_typing, is_scalar_op}
use Rattle.sh_ir.specs.Results.{changes_bits}
use Rattle.sh_ir.specs.Written.{test_type, written_in_body}
use Rattle.sh_nest_laws.specs.LoopSplits.{AreCellsOf}
use Rattle.sh_nest_laws.specs.RegionKinds.{ArePointFree, IsPointFree}
use Rattle.sh_pieces.specs.Instructions.{last_place}
use Rattle.sh_turns.specs.Program.{all_there}
use Rattle.sh_sem.specs.Region.{body_cell, cells_after, placed_op, placed_op_cell, placed_ops, source_cells}
use Rattle.sh_sem.specs.Scalars.{chosen, constant_cell, formula_cell, held_cell, width_of}
use Rattle.sh_iface_linalg.specs.Bodies.{AreSoundOps, AreTypedAt, IsSoundOp, has_own_type, is_typed_at}
use Rattle.sh_iface_linalg.specs.Rules.{both}

-- ---- types

same_number : (m n : ℕ) → nat_eq m n ≡ true → m ≡ n
same_number m n e = grind (arith, nat_tests)

abbrev of_bits : ℕ → Width
of_bits n = if nat_eq n 1 then I1 else (if nat_eq n 8 then I8 else (if nat_eq n 16 then I16 else (if nat_eq n 32 then I32 else I64)))

back : (w : Width) → of_bits (bits_of w) ≡ w
back I1 = refl
back I8 = refl
back I16 = refl
back I32 = refl
back I64 = refl

pub one_width : (v w : Width) → nat_eq (bits_of v) (bits_of w) ≡ true → v ≡ w
one_width v w e = sym (back v) ∙ ap of_bits (same_number (bits_of v) (bits_of w) e) ∙ back w

-- a type that is the same as a scalar one
pub scalar_same : (t : ValueType) (w : Width) → same_type t (Scalar w) ≡ true → t ≡ Scalar w
scalar_same (Scalar v) w e = ap (λ u. Scalar u) (one_width v w e)
scalar_same (value_type.Tensor t) w e = absurd (cc)
scalar_same value_type.Nothing w e = absurd (cc)
scalar_same value_type.Sharding w e = absurd (cc)
scalar_same value_type.Index w e = absurd (cc)

pub scalar_is : (t : ValueType) → is_scalar t ≡ true → t ≡ Scalar (width_of t)
scalar_is (Scalar w) e = refl
scalar_is (value_type.Tensor t) e = absurd (cc)
scalar_is value_type.Nothing e = absurd (cc)
scalar_is value_type.Sharding e = absurd (cc)
scalar_is value_type.Index e = absurd (cc)

-- of a value that stands for a scalar type the width is that of the type
width_same : (u t : ValueType) → is_scalar t ≡ true → same_type u t ≡ true → width_of u ≡ width_of t
width_same u (Scalar w) s e = ap width_of (scalar_same u w e)
width_same u (value_type.Tensor t) s e = absurd (cc)
width_same u value_type.Nothing s e = absurd (cc)
width_same u value_type.Sharding s e = absurd (cc)
width_same u value_type.Index s e = absurd (cc)

-- ---- cells of widths

abbrev pub AreOf : List ValueType → List Cell → Type 0
AreOf types cells = AreCellsOf (map width_of types) cells

pub of_push : (types : List ValueType) (cells : List Cell) (t : ValueType) (c : Cell) → AreOf types cells → IsCellOf (width_of t) c → AreOf (types ++ t ∷ []) (cells ++ c ∷ [])
of_push [] [] t c ok i = (i, tt)
of_push [] (d ∷ cells) t c ok i = absurd ok
of_push (u ∷ types) [] t c ok i = absurd ok
of_push (u ∷ types) (d ∷ cells) t c ok i = (ok.0, of_push types cells t c ok.1 i)

pub of_get : (types : List ValueType) (cells : List Cell) (k : ℕ) (t : ValueType) (c : Cell) → AreOf types cells → slice_get types k ≡ Some t → slice_get cells k ≡ Some c → IsCellOf (width_of t) c
of_get [] [] k t c ok a b = absurd (cc)
of_get [] (d ∷ cells) k t c ok a b = absurd ok
of_get (u ∷ types) [] k t c ok a b = absurd ok
of_get (u ∷ types) (d ∷ cells) zero t c ok a b = subst (λ v. IsCellOf (width_of v) c) (same_Some u t a) (subst (IsCellOf (width_of u)) (same_Some d c b) ok.0)
of_get (u ∷ types) (d ∷ cells) (suc k) t c ok a b = of_get types cells k t c ok.1 a b

-- what stands for a scalar type is a cell of its width
pub named_cell : (types : List ValueType) (names : List (Option ℕ)) (cells : List Cell) (t : ValueType) (name : ℕ) (c : Cell) → AreOf types cells → is_scalar t ≡ true
    → is_typed_at types names t name ≡ true → option_and_then (slice_get cells) (last_place names name) ≡ Some c → IsCellOf (width_of t) c
named_cell types names cells t name c ok scalar typed e = go (last_place names name) typed e
  where
    at_place : (k : ℕ) (o : Option ValueType) → slice_get types k ≡ o → option_map_or (λ u. same_type u t) o false ≡ true → slice_get cells k ≡ Some c → IsCellOf (width_of t) c
    at_place k None is typed e = absurd (cc)
    at_place k (Some u) is typed e = subst (λ w. IsCellOf w c) (width_same u t scalar typed) (of_get types cells k u c ok is e)

    go : (o : Option ℕ) → option_map_or (λ u. same_type u t) (option_and_then (slice_get types) o) false ≡ true → option_and_then (slice_get cells) o ≡ Some c → IsCellOf (width_of t) c
    go None typed e = absurd (cc)
    go (Some k) typed e = at_place k (slice_get types k) refl typed e

abbrev pub AreScalars : List ValueType → Type 0
AreScalars ts = AllByRecursion (λ t. is_scalar t ≡ true) ts

-- the cells of operands of scalar types
pub operands_of : (types : List ValueType) (names : List (Option ℕ)) (cells found : List Cell) (ts : List ValueType) (operands : List ℕ) → AreOf types cells → AreScalars ts
    → AreTypedAt types names ts operands → source_cells cells (map (last_place names) operands) ≡ Some found → AreOf ts found
operands_of types names cells found [] [] ok scalars typed e = subst (AreOf []) (same_Some [] found e) tt
operands_of types names cells found [] (n ∷ operands) ok scalars typed e = absurd typed
operands_of types names cells found (t ∷ ts) [] ok scalars typed e = absurd typed
operands_of types names cells found (t ∷ ts) (n ∷ operands) ok scalars typed e =
    go (option_and_then (slice_get cells) (last_place names n)) (map (option_and_then (slice_get cells)) (map (last_place names) operands))
    (λ c h. named_cell types names cells t n c ok scalars.0 typed.0 h) (λ cs h. operands_of types names cells cs ts operands ok scalars.1 typed.1 h) e
  where
    joined : (c : Cell) (os : Option (List Cell)) → IsCellOf (width_of t) c → ((cs : List Cell) → os ≡ Some cs → AreOf ts cs) → option_map (λ cs. c ∷ cs) os ≡ Some found → AreOf (t ∷ ts) found
    joined c None first rest e = absurd (cc)
    joined c (Some cs) first rest e = subst (AreOf (t ∷ ts)) (same_Some (c ∷ cs) found e) (first, rest cs refl)

    go : (o : Option Cell) (os : List (Option Cell)) → ((c : Cell) → o ≡ Some c → IsCellOf (width_of t) c) → ((cs : List Cell) → all_there os ≡ Some cs → AreOf ts cs) → all_there (o ∷ os) ≡ Some found → AreOf (t ∷ ts) found
    go None os first rest e = absurd (cc)
    go (Some c) os first rest e = joined c (all_there os) (first c refl) rest e

-- ---- one operation

within_some : (o : Option Cell) (w : Width) (c : Cell) → IfSome o (λ c. IsCellOf w c) → o ≡ Some c → IsCellOf w c
within_some (Some d) w c h e = subst (IsCellOf w) (same_Some d c e) h
within_some None w c h e = absurd (cc)

chosen_within : (w : Width) (c a b : Cell) → IsCellOf w a → IsCellOf w b → IsCellOf w (chosen c a b)
chosen_within w Undef a b h k = tt
chosen_within w (Val n) a b h k = pick (n == 0)
  where
    pick : (zero : Bool) → IsCellOf w (if zero then b else a)
    pick true = k
    pick false = h

can_cast : (op : CastOp) (v w : Width) → changes_bits op (bits_of v) (bits_of w) ≡ true → CanCast op v w
can_cast Extsi v w e = grind (arith, nat_tests)
can_cast Extui v w e = grind (arith, nat_tests)
can_cast Trunci v w e = grind (arith, nat_tests)

literal_within : (w : Width) (c : Cell) → is_literal_cell w c ≡ true → IsCellOf w c
literal_within w Undef e = absurd (cc)
literal_within w (Val v) e = grind (arith, nat_tests)

held_within : (w : Width) (cells : List Cell) (c : Cell) → list_all (is_literal_cell w) cells ≡ true → held_cell cells 0 ≡ Some c → IsCellOf w c
held_within w [] c h e = absurd (cc)
held_within w (d ∷ []) c h e = literal_within w c (subst (λ d. is_literal_cell w d ≡ true) (same_Some d c e) (both (is_literal_cell w d) true h).0)
held_within w (d ∷ x ∷ cells) c h e = literal_within w c (subst (λ d. is_literal_cell w d ≡ true) (same_Some d c e) (both (is_literal_cell w d) (list_all (is_literal_cell w) (x ∷ cells)) h).0)

literal_type : (t : ValueType) (w : Width) → same_type (Scalar w) t ≡ true → t ≡ Scalar w
literal_type (Scalar v) w e = ap (λ u. Scalar u) (sym (one_width w v e))
literal_type (value_type.Tensor t) w e = absurd (cc)
literal_type value_type.Nothing w e = absurd (cc)
literal_type value_type.Sharding w e = absurd (cc)
literal_type value_type.Index w e = absurd (cc)

constant_within : (t : ValueType) (contents : Contents) (w : Width) (c : Cell) → same_type (Scalar w) t ≡ true → (elim contents [ Broken ↦ true | Held cells ↦ are_held t cells ]) ≡ true
    → constant_cell contents 0 ≡ Some c → IsCellOf w c
constant_within t Broken w c same held e = absurd (cc)
constant_within t (Held cells) w c same held e =
    let own : are_held (Scalar w) cells ≡ true = subst (λ u. are_held u cells ≡ true) (literal_type t w same) held in
    held_within w cells c (both (nat_eq (length cells) 1) (list_all (is_literal_cell w) cells) own).1 e

test_scalar : (t : ValueType) → is_scalar t ≡ true → test_type t ≡ Scalar I1
test_scalar (Scalar w) e = refl
test_scalar (value_type.Tensor t) e = absurd (cc)
test_scalar value_type.Nothing e = absurd (cc)
test_scalar value_type.Sharding e = absurd (cc)
test_scalar value_type.Index e = absurd (cc)

-- the operands' types are scalars, and so is the type of the value
pub typing_scalars : (kind : BodyKind) (result : ValueType) → is_scalar_op kind result ≡ true → is_on_index kind ≡ false → AreScalars (body_typing kind result)
unfolding is_scalar_op body_typing
typing_scalars (Constant x) result s free = tt
typing_scalars (Binary op) result s free = (s, (s, tt))
typing_scalars (Compare x) result s free = (s, (s, tt))
typing_scalars (Select x) result s free =
    let parts = both (is_scalar result) (same_type x.condition_type (Scalar I1)) s in
    (subst (λ t. is_scalar t ≡ true) (sym (scalar_same x.condition_type I1 parts.1)) refl, (parts.0, (parts.0, tt)))
typing_scalars (Cast x) result s free = ((both (is_scalar x.operand_type) (is_scalar result) (both (is_scalar x.operand_type && is_scalar result) _ s).0).0, tt)
typing_scalars (Index x) result s free = tt
typing_scalars IndexCast result s free = absurd (cc)

pub result_scalar : (kind : BodyKind) (result : ValueType) → is_scalar_op kind result ≡ true → has_own_type kind result ≡ true → is_on_index kind ≡ false → is_scalar result ≡ true
unfolding is_scalar_op
result_scalar (Constant x) result s own free = s
result_scalar (Binary op) result s own free = s
result_scalar (Compare x) result s own free =
    let test = test_scalar x.operand_type s in
    subst (λ t. is_scalar t ≡ true) (sym (scalar_same result I1 (subst (λ t. same_type result t ≡ true) test own))) refl
result_scalar (Select x) result s own free = (both (is_scalar result) (same_type x.condition_type (Scalar I1)) s).0
result_scalar (Cast x) result s own free = (both (is_scalar x.operand_type) (is_scalar result) (both (is_scalar x.operand_type && is_scalar result) _ s).0).1
result_scalar (Index x) result s own free = absurd (cc)
result_scalar IndexCast result s own free = absurd (cc)

body_within : (kind : BodyKind) (result : ValueType) (point : List ℕ) (found : List Cell) (c : Cell) → is_scalar_op kind result ≡ true → has_own_type kind result ≡ true
    → list_all is_held (written_in_body kind).constants ≡ true → is_on_index kind ≡ false → AreOf (body_typing kind result) found → body_cell kind result point found ≡ Some c → IsCellOf (width_of result) c
unfolding is_scalar_op body_typing body_cell formula_cell
body_within (Constant x) result point found c s own held free ok e =
    constant_within x.value_type x.contents (width_of result) c (subst (λ t. same_type t x.value_type ≡ true) (scalar_is result s) own) (both (is_held x) true held).0 e
body_within (Binary op) result point [] c s own held free ok e = absurd ok
body_within (Binary op) result point (a ∷ []) c s own held free ok e = absurd ok.1
body_within (Binary op) result point (a ∷ b ∷ []) c s own held free ok e = within_some (element_of op (width_of result) a b) (width_of result) c (element_of-within op (width_of result) a b ok.0 ok.1.0) e
body_within (Binary op) result point (a ∷ b ∷ d ∷ found) c s own held free ok e = absurd ok.1.1
body_within (Compare x) result point [] c s own held free ok e = absurd ok
body_within (Compare x) result point (a ∷ []) c s own held free ok e = absurd ok.1
body_within (Compare x) result point (a ∷ b ∷ []) c s own held free ok e =
    let test = test_scalar x.operand_type s in
    let one : width_of result ≡ I1 = ap width_of (scalar_same result I1 (subst (λ t. same_type result t ≡ true) test own)) in
    subst (λ w. IsCellOf w c) (sym one) (subst (IsCellOf I1) (same_Some _ c e) (comparison_of-within x.predicate (width_of x.operand_type) a b))
body_within (Compare x) result point (a ∷ b ∷ d ∷ found) c s own held free ok e = absurd ok.1.1
body_within (Select x) result point [] c s own held free ok e = absurd ok
body_within (Select x) result point (d ∷ []) c s own held free ok e = absurd ok.1
body_within (Select x) result point (d ∷ a ∷ []) c s own held free ok e = absurd ok.1.1
body_within (Select x) result point (d ∷ a ∷ b ∷ []) c s own held free ok e = subst (IsCellOf (width_of result)) (same_Some (chosen d a b) c e) (chosen_within (width_of result) d a b ok.1.0 ok.1.1.0)
body_within (Select x) result point (d ∷ a ∷ b ∷ y ∷ found) c s own held free ok e = absurd ok.1.1.1
body_within (Cast x) result point [] c s own held free ok e = absurd ok
body_within (Cast x) result point (a ∷ []) c s own held free ok e =
    let parts = both (is_scalar x.operand_type && is_scalar result) _ s in
    let types = both (is_scalar x.operand_type) (is_scalar result) parts.0 in
    let from : cell_bits x.operand_type ≡ bits_of (width_of x.operand_type) = ap cell_bits (scalar_is x.operand_type types.0) in
    let to : cell_bits result ≡ bits_of (width_of result) = ap cell_bits (scalar_is result types.1) in
    let changes : changes_bits x.op (bits_of (width_of x.operand_type)) (bits_of (width_of result)) ≡ true = sym (ap₂ (changes_bits x.op) from to) ∙ parts.1 in
    subst (IsCellOf (width_of result)) (same_Some _ c e) (cast_of-within x.op (width_of x.operand_type) (width_of result) a (can_cast x.op (width_of x.operand_type) (width_of result) changes) ok.0)
body_within (Cast x) result point (a ∷ b ∷ found) c s own held free ok e = absurd ok.1
body_within (Index x) result point found c s own held free ok e = absurd (cc)
body_within IndexCast result point found c s own held free ok e = absurd (cc)

-- ---- operations one after the other

op_within : (types : List ValueType) (names : List (Option ℕ)) (op : BodyOp) (point : List ℕ) (cells : List Cell) (c : Cell) → IsSoundOp types names op → AreOf types cells
    → placed_op_cell (placed_op names op) point cells ≡ Some c → IsCellOf (width_of op.result) c
op_within types names op point cells c sound ok e =
    go (source_cells cells (map (last_place names) op.operands))
    (λ found h. operands_of types names cells found (body_typing op.kind op.result) op.operands ok (typing_scalars op.kind op.result sound.scalar sound.free) sound.operands h) e
  where
    go : (o : Option (List Cell)) → ((found : List Cell) → o ≡ Some found → AreOf (body_typing op.kind op.result) found) → option_and_then (body_cell op.kind op.result point) o ≡ Some c → IsCellOf (width_of op.result) c
    go None all e = absurd (cc)
    go (Some found) all e = body_within op.kind op.result point found c sound.scalar sound.own sound.held sound.free (all found refl) e

pub cells_within : (types : List ValueType) (names : List (Option ℕ)) (ops : List BodyOp) (point : List ℕ) (cells after : List Cell) → AreSoundOps types names ops → AreOf types cells
    → cells_after (placed_ops names ops) point cells ≡ Some after → AreOf (types ++ map (λ op. op.result) ops) after
cells_within types names [] point cells after sound ok e = subst (λ ts. AreOf ts after) (sym (append-nil types)) (subst (AreOf types) (same_Some cells after e) ok)
cells_within types names (op ∷ ops) point cells after sound ok e =
    subst (λ ts. AreOf ts after) (append_assoc types (op.result ∷ []) (map (λ op. op.result) ops))
    (go (placed_op_cell (placed_op names op) point cells)
    (λ c h rest. cells_within (types ++ op.result ∷ []) (names ++ Some op.defines ∷ []) ops point (cells ++ c ∷ []) after sound.1 (of_push types cells op.result c ok (op_within types names op point cells c sound.0 ok h)) rest) e)
  where
    go : (o : Option Cell) → ((c : Cell) → o ≡ Some c → cells_after (placed_ops (names ++ Some op.defines ∷ []) ops) point (cells ++ c ∷ []) ≡ Some after → AreOf ((types ++ op.result ∷ []) ++ map (λ op. op.result) ops) after)
        → option_and_then (λ cell. cells_after (placed_ops (names ++ Some op.defines ∷ []) ops) point (cells ++ cell ∷ [])) o ≡ Some after
        → AreOf ((types ++ op.result ∷ []) ++ map (λ op. op.result) ops) after
    go None within e = absurd (cc)
    go (Some c) within e = within c refl e

-- ---- the loop point isn't asked for

free_kind : (kind : BodyKind) → is_on_index kind ≡ false → IsPointFree kind
free_kind (Constant x) e = tt
free_kind (Binary op) e = tt
free_kind (Compare x) e = tt
free_kind (Select x) e = tt
free_kind (Cast x) e = tt
free_kind (Index x) e = absurd (cc)
free_kind IndexCast e = tt

pub free_of_points : (types : List ValueType) (names : List (Option ℕ)) (ops : List BodyOp) → AreSoundOps types names ops → ArePointFree (placed_ops names ops)
free_of_points types names [] sound = tt
free_of_points types names (op ∷ ops) sound = (free_kind op.kind sound.0.free, free_of_points (types ++ op.result ∷ []) (names ++ Some op.defines ∷ []) ops sound.1)
