-- A region in order whose body has a kind combines by that kind; and it gives cells of its output's width.
use Rattle.std.proofs.Common.{◌≡◌, ◌≢◌, ℕ, zero, suc, ◌+◌, Bool, true, false, List, [], ◌∷◌, ◌++◌, map, length, Option, Some, None, refl, ap, ap₂, sym, ◌∙◌, arith, subst, append_assoc, inl, inr}
use Rattle.std.proofs.lemmas.Bool.{cases_Bool}
use Rattle.std.proofs.lemmas.Bool.Decides.{nat_tests}
use Rattle.std.proofs.lemmas.List.{append-nil, length-append, length-map, map-append}
use Rattle.std.proofs.lemmas.Option.{same_Some}
use Rattle.std.specs.List.{AllByRecursion, list_all}
use Rattle.std.specs.Option.{option_map_or, option_or}
use Rattle.std.specs.Prelude.{◌&&◌, ◌||◌, nat_eq, not, if◌then◌else◌, option_and_then, option_map, slice_get}
use Rattle.sh_base.specs.Cells.{IsCellOf}
use Rattle.sh_base.specs.declared.numbers.Cell.{Cell}
use Rattle.sh_base.specs.declared.numbers.Cell.TheVariants.{Undef}
use Rattle.sh_base.specs.declared.numbers.Width.{Width}
use Rattle.sh_base.specs.declared.operations.BinOp.{BinOp}
use Rattle.sh_base.specs.declared.operations.BinOp.TheVariants.{Addi, Subi, Muli, Divui, Divsi, Remui, Remsi, Andi, Ori, Xori, Maxsi, Minsi, Maxui, Minui, Shli, Shrui, Shrsi}
use Rattle.sh_base.specs.declared.operations.Kind.{Kind}
use Rattle.sh_int.specs.Reduction.{operation_of}
use Rattle.sh_ir.specs.declared.bodies.BodyKind.{BodyKind}
use Rattle.sh_ir.specs.declared.bodies.BodyKind.TheVariants.{Constant, Binary, Compare, Select, Cast, Index, IndexCast}
use Rattle.sh_ir.specs.declared.bodies.BodyOp.{BodyOp}
use Rattle.sh_ir.specs.declared.types.ValueType.{ValueType}
use Rattle.sh_ir.specs.declared.types.ValueType.TheVariants.{Scalar}
use Rattle.sh_ir.specs.Agreement.{same_type}
use Rattle.sh_ir.specs.Regions.{is_among}
use Rattle.sh_ir.specs.RegionRules.{body_typing}
use Rattle.sh_nest_laws.specs.Folds.{IfThere}
use Rattle.sh_nest_laws.specs.LoopSplits.{AreCellsOf}
use Rattle.sh_nest_laws.specs.RegionKinds.{HasBodyKind, ReadsBoth, ReadsNot, term_of}
use Rattle.sh_pieces.specs.Instructions.{is_name, last_place}
use Rattle.sh_pieces.proofs.Names.{name_is, name_itself}
use Rattle.sh_sem.specs.Region.{PlacedOp, all_names, cells_after, first_names, placed, placed_op, placed_ops, region_cell}
use Rattle.sh_sem.specs.Scalars.{width_of}
use Rattle.sh_iface.specs.BodyKinds.{combining_kind, defining, has_once, kind_by, kind_of_body, kind_with, last_name, uses_neither}
use Rattle.sh_iface_linalg.specs.Bodies.{AreDifferent, AreSoundOps, AreTypedAt, IsRegion, Region, is_none_of, is_typed_at, names_of, scalar_types}
use Rattle.sh_iface_linalg.specs.BodyCells.{AreOf, cells_within, named_cell, of_get, scalar_same}
use Rattle.sh_iface_linalg.specs.BodyNames.{defines_somes, somes, somes_joined}
use Rattle.sh_iface_linalg.specs.Rules.{both}

-- ---- names and places

pub place_holds : (ns : List (Option ℕ)) (name k : ℕ) → last_place ns name ≡ Some k → slice_get ns k ≡ Some (Some name)
place_holds [] name k e = absurd (cc)
place_holds (n ∷ ns) name k e = go (last_place ns name) (λ j h. place_holds ns name j h) e
  where
    alone : (m : Option ℕ) (k : ℕ) → (if is_name m name then Some 0 else None) ≡ Some k → slice_get (m ∷ ns) k ≡ Some (Some name)
    alone None k e = absurd (cc)
    alone (Some m) k e =
        elim (cases_Bool (is_name (Some m) name)) [
          | inl b ↦
              let z : Some 0 ≡ Some k = sym (ap (λ (t : Bool). if t then Some 0 else None) b) ∙ e in
              subst (λ j. slice_get (Some m ∷ ns) j ≡ Some (Some name)) (same_Some 0 k z) (ap (λ x. Some (Some x)) (name_is m name b))
          | inr b ↦ let z : None ≡ Some k = sym (ap (λ (t : Bool). if t then Some 0 else None) b) ∙ e in absurd (cc)
        ]

    go : (o : Option ℕ) → ((j : ℕ) → o ≡ Some j → slice_get ns j ≡ Some (Some name)) → option_or (option_map (λ k. suc k) o) (if is_name n name then Some 0 else None) ≡ Some k → slice_get (n ∷ ns) k ≡ Some (Some name)
    go None rest e = alone n k e
    go (Some j) rest e = subst (λ i. slice_get (n ∷ ns) i ≡ Some (Some name)) (same_Some (suc j) k e) (rest j refl)

got_more : {X : Type 0} (xs ys : List X) (k : ℕ) (x : X) → slice_get xs k ≡ Some x → slice_get (xs ++ ys) k ≡ Some x
got_more [] ys k x e = absurd (cc)
got_more (y ∷ xs) ys zero x e = e
got_more (y ∷ xs) ys (suc k) x e = got_more xs ys k x e

got_there : {X : Type 0} (xs ys : List X) (x : X) → slice_get (xs ++ x ∷ ys) (length xs) ≡ Some x
got_there [] ys x = refl
got_there (y ∷ xs) ys x = got_there xs ys x

-- no name stands twice
different_front : (xs ys : List ℕ) → AreDifferent (xs ++ ys) → AreDifferent xs
different_front [] ys h = tt
different_front (x ∷ xs) ys h = (none_front xs h.0, different_front xs ys h.1)
  where
    none_front : (xs : List ℕ) → is_none_of x (xs ++ ys) ≡ true → is_none_of x xs ≡ true
    none_front [] e = refl
    none_front (z ∷ xs) e = elim (cases_Bool (nat_eq x z)) [ inl b ↦ absurd (clash b e) | inr b ↦ rw b (none_front xs (rest b e)) ]
      where
        clash : nat_eq x z ≡ true → is_none_of x (z ∷ xs ++ ys) ≡ true → ⊥
        clash b e = let f : false ≡ true = sym (ap (λ (t : Bool). if t then false else is_none_of x (xs ++ ys)) b) ∙ e in absurd (cc)

        rest : nat_eq x z ≡ false → is_none_of x (z ∷ xs ++ ys) ≡ true → is_none_of x (xs ++ ys) ≡ true
        rest b e = sym (ap (λ (t : Bool). if t then false else is_none_of x (xs ++ ys)) b) ∙ e

different_back : (xs ys : List ℕ) → AreDifferent (xs ++ ys) → AreDifferent ys
different_back [] ys h = h
different_back (x ∷ xs) ys h = different_back xs ys h.1

other_name : (x y : ℕ) (names : List ℕ) → is_none_of x (y ∷ names) ≡ true → (nat_eq x y ≡ false) × (is_none_of x names ≡ true)
other_name x y names e =
    elim (cases_Bool (nat_eq x y)) [
      | inl b ↦ let f : false ≡ true = sym (ap (λ (t : Bool). if t then false else is_none_of x names) b) ∙ e in absurd (cc)
      | inr b ↦ (b, sym (ap (λ (t : Bool). if t then false else is_none_of x names) b) ∙ e)
    ]

not_placed : (names : List ℕ) (x : ℕ) → is_none_of x names ≡ true → last_place (somes names) x ≡ None
not_placed [] x e = refl
not_placed (y ∷ names) x e =
    let parts = other_name x y names e in
    let rest = not_placed names x parts.1 in
    let test = parts.0 in
    let other : is_name (Some y) x ≡ false = grind (arith, nat_tests) in
    rw (rest, other) refl

pub different_place : (names : List ℕ) (x k : ℕ) → AreDifferent names → slice_get names k ≡ Some x → last_place (somes names) x ≡ Some k
different_place [] x k h e = absurd (cc)
different_place (y ∷ names) x zero h e =
    let same : y ≡ x = same_Some y x e in
    let none = not_placed names x (subst (λ z. is_none_of z names ≡ true) same h.0) in
    let own : is_name (Some y) x ≡ true = subst (λ z. is_name (Some y) z ≡ true) same (name_itself y) in
    rw (none, own) refl
different_place (y ∷ names) x (suc k) h e = let rest = different_place names x k h.1 e in rw rest refl

-- ---- operations behind names

placed_both : (ns : List (Option ℕ)) (xs ys : List BodyOp) → placed_ops ns (xs ++ ys) ≡ placed_ops ns xs ++ placed_ops (ns ++ map (λ op. Some op.defines) xs) ys
placed_both ns [] ys = ap (λ ms. placed_ops ms ys) (sym (append-nil ns))
placed_both ns (op ∷ xs) ys =
    ap (λ ps. placed_op ns op ∷ ps)
    (placed_both (ns ++ Some op.defines ∷ []) xs ys
    ∙ ap (λ ms. placed_ops (ns ++ Some op.defines ∷ []) xs ++ placed_ops ms ys) (append_assoc ns (Some op.defines ∷ []) (map (λ op. Some op.defines) xs)))

placed_counted : (ns : List (Option ℕ)) (ops : List BodyOp) → length (placed_ops ns ops) ≡ length ops
placed_counted ns [] = refl
placed_counted ns (op ∷ ops) = ap suc (placed_counted (ns ++ Some op.defines ∷ []) ops)

sound_both : (types : List ValueType) (names : List (Option ℕ)) (xs ys : List BodyOp) → AreSoundOps types names (xs ++ ys)
    → AreSoundOps (types ++ map (λ op. op.result) xs) (names ++ map (λ op. Some op.defines) xs) ys
sound_both types names [] ys h = subst (λ ts. AreSoundOps ts (names ++ []) ys) (sym (append-nil types)) (subst (λ ns. AreSoundOps types ns ys) (sym (append-nil names)) h)
sound_both types names (op ∷ xs) ys h =
    subst (λ ts. AreSoundOps ts (names ++ map (λ op. Some op.defines) (op ∷ xs)) ys) (append_assoc types (op.result ∷ []) (map (λ op. op.result) xs))
    (subst (λ ns. AreSoundOps ((types ++ op.result ∷ []) ++ map (λ op. op.result) xs) ns ys) (append_assoc names (Some op.defines ∷ []) (map (λ op. Some op.defines) xs))
    (sound_both (types ++ op.result ∷ []) (names ++ Some op.defines ∷ []) xs ys h.1))

-- a name that isn't among the operands is none of the sources
reads_not : (ns : List (Option ℕ)) (p name : ℕ) (operands : List ℕ) → slice_get ns p ≡ Some (Some name) → is_among operands name ≡ false → ReadsNot p (map (last_place ns) operands)
reads_not ns p name [] at h = tt
reads_not ns p name (n ∷ operands) at h =
    elim (cases_Bool (nat_eq name n)) [
      | inl b ↦ let f : true ≡ false = sym (ap (λ (t : Bool). t || is_among operands name) b) ∙ h in absurd (cc)
      | inr b ↦ (
        λ e.
            let held = sym (place_holds ns n p e) ∙ at in
            let same : n ≡ name = same_Some n name (same_Some (Some n) (Some name) held) in
            absurd (grind (arith, nat_tests)),
        reads_not ns p name operands at (sym (ap (λ (t : Bool). t || is_among operands name) b) ∙ h),
      )
    ]

abbrev UsesNot : ℕ → BodyOp → Type 0
UsesNot name op = is_among op.operands name ≡ false

all_read_not : (ns : List (Option ℕ)) (p name : ℕ) (ops : List BodyOp) → slice_get ns p ≡ Some (Some name) → AllByRecursion (UsesNot name) ops → AllByRecursion (λ op. ReadsNot p op.sources) (placed_ops ns ops)
all_read_not ns p name [] at h = tt
all_read_not ns p name (op ∷ ops) at h = (reads_not ns p name op.operands at h.0, all_read_not (ns ++ Some op.defines ∷ []) p name ops (got_more ns (Some op.defines ∷ []) p (Some name) at) h.1)

both_read_not : (p q : ℕ) (ops : List PlacedOp) → AllByRecursion (λ op. ReadsNot p op.sources) ops → AllByRecursion (λ op. ReadsNot q op.sources) ops → AllByRecursion (λ op. ReadsNot p op.sources × ReadsNot q op.sources) ops
both_read_not p q [] a b = tt
both_read_not p q (op ∷ ops) a b = ((a.0, b.0), both_read_not p q ops a.1 b.1)

-- ---- the operation that is yielded

record HasYielded (name : ℕ) (ops : List BodyOp) (op : BodyOp) : Type 0 where
  before : List BodyOp
  after : List BodyOp
  is : ops ≡ before ++ op ∷ after
  defines : op.defines ≡ name
  others : AllByRecursion (λ other. nat_eq other.defines name ≡ false) before

yielded : (name : ℕ) (ops : List BodyOp) (op : BodyOp) → defining name ops ≡ Some op → HasYielded name ops op
yielded name [] op e = absurd (cc)
yielded name (first ∷ ops) op e = go (nat_eq first.defines name) refl (λ h. yielded name ops op h) e
  where
    go : (b : Bool) → nat_eq first.defines name ≡ b → (defining name ops ≡ Some op → HasYielded name ops op) → (if b then Some first else defining name ops) ≡ Some op → HasYielded name (first ∷ ops) op
    go true b more e =
        let same = same_Some first op e in
        record { before = []; after = ops; is = ap (λ o. o ∷ ops) same; defines = subst (λ (o : BodyOp). o.defines ≡ name) same (grind (arith, nat_tests)); others = tt }
    go false b more e =
        let rest = more e in
        record { before = first ∷ rest.before; after = rest.after; is = ap (λ os. first ∷ os) rest.is; defines = rest.defines; others = (b, rest.others) }

neither_used : (b c : Bool) → (not b && not c) ≡ true → (b ≡ false) × (c ≡ false)
neither_used true c e = absurd (cc)
neither_used false true e = absurd (cc)
neither_used false false e = (refl, refl)

uses_none : (out name : ℕ) (ops : List BodyOp) → AllByRecursion (λ other. nat_eq other.defines name ≡ false) ops → list_all (uses_neither out name) ops ≡ true
    → AllByRecursion (UsesNot out) ops × AllByRecursion (UsesNot name) ops
uses_none out name [] others h = (tt, tt)
uses_none out name (op ∷ ops) others h =
    let parts = both (uses_neither out name op) (list_all (uses_neither out name) ops) h in
    let here = neither_used (is_among op.operands out) (is_among op.operands name) (sym (ap (λ (t : Bool). t || (not (is_among op.operands out) && not (is_among op.operands name))) others.0) ∙ parts.0) in
    let rest = uses_none out name ops others.1 parts.1 in
    ((here.0, rest.0), (here.1, rest.1))

all_parts : (test : BodyOp → Bool) (xs ys : List BodyOp) → list_all test (xs ++ ys) ≡ true → (list_all test xs ≡ true) × (list_all test ys ≡ true)
all_parts test [] ys h = (refl, h)
all_parts test (x ∷ xs) ys h =
    let parts = both (test x) (list_all test (xs ++ ys)) h in
    let rest = all_parts test xs ys parts.1 in
    let a = parts.0 in let b = rest.0 in (rw (a, b) refl, rest.1)

defines_others : (name : ℕ) (ops : List BodyOp) → is_none_of name (map (λ (op : BodyOp). op.defines) ops) ≡ true → AllByRecursion (λ other. nat_eq other.defines name ≡ false) ops
defines_others name [] h = tt
defines_others name (op ∷ ops) h =
    let parts = other_name name op.defines (map (λ (op : BodyOp). op.defines) ops) h in
    let test = parts.0 in (grind (arith, nat_tests), defines_others name ops parts.1)

-- ---- kinds

binop_is : (op : BinOp) (k : Kind) → kind_by op ≡ Some k → op ≡ operation_of k
binop_is Addi k e = ap operation_of (same_Some _ k e)
binop_is Muli k e = ap operation_of (same_Some _ k e)
binop_is Maxsi k e = ap operation_of (same_Some _ k e)
binop_is Minsi k e = ap operation_of (same_Some _ k e)
binop_is Andi k e = ap operation_of (same_Some _ k e)
binop_is Ori k e = ap operation_of (same_Some _ k e)
binop_is Xori k e = ap operation_of (same_Some _ k e)
binop_is Subi k e = absurd (cc)
binop_is Divui k e = absurd (cc)
binop_is Divsi k e = absurd (cc)
binop_is Remui k e = absurd (cc)
binop_is Remsi k e = absurd (cc)
binop_is Maxui k e = absurd (cc)
binop_is Minui k e = absurd (cc)
binop_is Shli k e = absurd (cc)
binop_is Shrui k e = absurd (cc)
binop_is Shrsi k e = absurd (cc)

combining_is : (kind : BodyKind) (k : Kind) → combining_kind kind ≡ Some k → kind ≡ Binary (operation_of k)
combining_is (Constant x) k e = absurd (cc)
combining_is (Binary op) k e = ap (λ o. Binary o) (binop_is op k e)
combining_is (Compare x) k e = absurd (cc)
combining_is (Select x) k e = absurd (cc)
combining_is (Cast x) k e = absurd (cc)
combining_is (Index x) k e = absurd (cc)
combining_is IndexCast k e = absurd (cc)

binary_typing : (kind : BodyKind) (op : BinOp) (result : ValueType) → kind ≡ Binary op → body_typing kind result ≡ result ∷ result ∷ []
unfolding body_typing
binary_typing kind op result e = ap (λ k. body_typing k result) e

-- ---- names that have a type

record HasType (types : List ValueType) (ns : List (Option ℕ)) (t : ValueType) (name : ℕ) : Type 0 where
  place : ℕ
  at : last_place ns name ≡ Some place
  type : ValueType
  there : slice_get types place ≡ Some type
  same : same_type type t ≡ true

has_type : (types : List ValueType) (ns : List (Option ℕ)) (t : ValueType) (name : ℕ) → is_typed_at types ns t name ≡ true → HasType types ns t name
has_type types ns t name e = go (last_place ns name) refl e
  where
    at_place : (k : ℕ) → last_place ns name ≡ Some k → (o : Option ValueType) → slice_get types k ≡ o → option_map_or (λ u. same_type u t) o false ≡ true → HasType types ns t name
    at_place k at None there e = absurd (cc)
    at_place k at (Some u) there e = record { place = k; at = at; type = u; there = there; same = e }

    go : (o : Option ℕ) → last_place ns name ≡ o → option_map_or (λ u. same_type u t) (option_and_then (slice_get types) o) false ≡ true → HasType types ns t name
    go None at e = absurd (cc)
    go (Some k) at e = at_place k at (slice_get types k) refl e

record LastIs (args : List ℕ) (out : ℕ) : Type 0 where
  front : List ℕ
  is : args ≡ front ++ out ∷ []

last_is : (args : List ℕ) (out : ℕ) → last_name args ≡ Some out → LastIs args out
last_is [] out e = absurd (cc)
last_is (a ∷ []) out e = record { front = []; is = ap (λ b. b ∷ []) (same_Some a out e) }
last_is (a ∷ b ∷ args) out e = let rest = last_is (b ∷ args) out e in record { front = a ∷ rest.front; is = ap (λ bs. a ∷ bs) rest.is }

somes_at : (names : List ℕ) (k x : ℕ) → slice_get names k ≡ Some x → slice_get (somes names) k ≡ Some (Some x)
somes_at [] k x e = absurd (cc)
somes_at (y ∷ names) zero x e = ap (λ n. Some n) e
somes_at (y ∷ names) (suc k) x e = somes_at names k x e

-- ---- the two operands

record CombinesWith (types : List ValueType) (ns : List (Option ℕ)) (t : ValueType) (out : ℕ) (operands : List ℕ) : Type 0 where
  other : ℕ
  sources : ReadsBoth out other (map (last_place ns) operands)
  differs : other ≢ out
  type : ValueType
  there : slice_get types other ≡ Some type
  same : same_type type t ≡ true

module _ (types : List ValueType) (ns : List (Option ℕ)) (t : ValueType) (place out : ℕ) (at : last_place ns out ≡ Some place) where
  differ : (name k : ℕ) → nat_eq name out ≡ false → last_place ns name ≡ Some k → k ≢ place
  differ name k other e same =
      let held = sym (place_holds ns name k e) ∙ ap (slice_get ns) same ∙ place_holds ns out place at in
      let n : name ≡ out = same_Some name out (same_Some (Some name) (Some out) held) in
      absurd (grind (arith, nat_tests))

  combines_with : (operands : List ℕ) → has_once out operands ≡ true → AreTypedAt types ns (t ∷ t ∷ []) operands → CombinesWith types ns t place operands
  combines_with [] once typed = absurd (cc)
  combines_with (a ∷ []) once typed = absurd (cc)
  combines_with (a ∷ b ∷ c ∷ operands) once typed = absurd (cc)
  combines_with (a ∷ b ∷ []) once typed =
      let parts = both (not (nat_eq a b)) (nat_eq a out || nat_eq b out) once in
      let apart : nat_eq a b ≡ false = is_not (nat_eq a b) parts.0 in
      elim (cases_Bool (nat_eq a out)) [
        | inl first ↦
            let other = has_type types ns t b typed.1.0 in
            let same : a ≡ out = grind (arith, nat_tests) in
            record {
              other = other.place;
              sources = inl (ap₂ (λ p q. p ∷ q ∷ []) (ap (last_place ns) same ∙ at) other.at);
              differs = differ b other.place (grind (arith, nat_tests)) other.at;
              type = other.type;
              there = other.there;
              same = other.same;
            }
        | inr not_first ↦
            let second : nat_eq b out ≡ true = sym (ap (λ (x : Bool). x || nat_eq b out) not_first) ∙ parts.1 in
            let other = has_type types ns t a typed.0 in
            let same : b ≡ out = grind (arith, nat_tests) in
            record {
              other = other.place;
              sources = inr (ap₂ (λ p q. p ∷ q ∷ []) other.at (ap (last_place ns) same ∙ at));
              differs = differ a other.place not_first other.at;
              type = other.type;
              there = other.there;
              same = other.same;
            }
      ]
    where
      is_not : (b : Bool) → not b ≡ true → b ≡ false
      is_not true e = absurd (cc)
      is_not false e = refl

-- ---- a region in order

module _ (r : Region) (scalars ins : List Width) (w : Width) (is : IsRegion r scalars ins w) where
  -- the types of the scalars and of the block arguments, and those of all values
  abbrev pub first_types : List ValueType
  first_types = scalar_types (scalars ++ r.body.widths)

  abbrev pub all_types : List ValueType
  all_types = first_types ++ map (λ op. op.result) r.body.ops

  abbrev block : List ℕ
  block = r.captured ++ r.body.args

  abbrev pub out_place : ℕ
  out_place = length scalars + length ins

  pub args_counted : length r.body.args ≡ length ins + 1
  args_counted = is.block_counted ∙ ap length is.block ∙ length-append ins (w ∷ [])

  types_counted : length first_types ≡ suc out_place
  types_counted =
      let a = length-map (scalars ++ r.body.widths) (λ v. Scalar v) in
      let b = length-append scalars r.body.widths in
      let c = ap length is.block ∙ length-append ins (w ∷ []) in
      omega (arith, a, b, c)

  block_counted : length block ≡ suc out_place
  block_counted =
      let a = length-append r.captured r.body.args in
      let b = args_counted in
      let c = is.scalars_counted in
      omega (arith, a, b, c)

  out_at : (out : ℕ) → LastIs r.body.args out → slice_get block out_place ≡ Some out
  out_at out last =
      let joined : block ≡ (r.captured ++ last.front) ++ out ∷ [] = ap (λ xs. r.captured ++ xs) last.is ∙ sym (append_assoc r.captured last.front (out ∷ [])) in
      let a = length-append r.captured last.front in
      let b = ap length last.is ∙ length-append last.front (out ∷ []) in
      let c = args_counted in
      let d = is.scalars_counted in
      let long : length (r.captured ++ last.front) ≡ out_place = omega (arith, a, b, c, d) in
      subst (λ xs. slice_get xs out_place ≡ Some out) (sym joined) (subst (λ k. slice_get ((r.captured ++ last.front) ++ out ∷ []) k ≡ Some out) long (got_there (r.captured ++ last.front) [] out))

  pub record HasKindAt (k : Kind) : Type 0 where
    pub has : HasBodyKind k w out_place (placed r.captured r.body)
    pub type : ValueType
    pub there : slice_get all_types has.other ≡ Some type
    pub width : width_of type ≡ w

  module _ (k : Kind) (out : ℕ) (last : LastIs r.body.args out) (op : BodyOp) (split : HasYielded r.body.yields r.body.ops op) where
    abbrev defined : List BodyOp → List ℕ
    defined ops = map (λ (op : BodyOp). op.defines) ops

    abbrev results : List BodyOp → List ValueType
    results ops = map (λ (op : BodyOp). op.result) ops

    abbrev ns : List (Option ℕ)
    ns = first_names r.captured r.body ++ map (λ op. Some op.defines) split.before

    abbrev ts : List ValueType
    ts = first_types ++ results split.before

    abbrev y : ℕ
    y = suc out_place + length split.before

    ns_is : ns ≡ somes (block ++ defined split.before)
    ns_is = ap (λ xs. somes block ++ xs) (sym (defines_somes split.before)) ∙ sym (somes_joined block (defined split.before))

    names_are : names_of r ≡ (block ++ defined split.before) ++ op.defines ∷ defined split.after
    names_are =
        ap (λ ops. block ++ defined ops) split.is ∙ ap (λ xs. block ++ xs) (map-append (λ (op : BodyOp). op.defines) split.before (op ∷ split.after))
        ∙ sym (append_assoc block (defined split.before) (op.defines ∷ defined split.after))

    different_all : AreDifferent ((block ++ defined split.before) ++ op.defines ∷ defined split.after)
    different_all = subst AreDifferent names_are is.different

    different_before : AreDifferent (block ++ defined split.before)
    different_before = different_front (block ++ defined split.before) (op.defines ∷ defined split.after) different_all

    out_named : slice_get (block ++ defined split.before) out_place ≡ Some out
    out_named = got_more block (defined split.before) out_place out (out_at out last)

    out_here : last_place ns out ≡ Some out_place
    out_here = ap (λ xs. last_place xs out) ns_is ∙ different_place (block ++ defined split.before) out out_place different_before out_named

    out_held : slice_get ns out_place ≡ Some (Some out)
    out_held = ap (λ xs. slice_get xs out_place) ns_is ∙ somes_at (block ++ defined split.before) out_place out out_named

    names_counted : length (block ++ defined split.before) ≡ y
    names_counted =
        let a = length-append block (defined split.before) in
        let b = length-map split.before (λ (op : BodyOp). op.defines) in
        let c = block_counted in
        omega (arith, a, b, c)

    yields_at : last_place (all_names r.captured r.body) r.body.yields ≡ Some y
    yields_at =
        let all : all_names r.captured r.body ≡ somes (names_of r) = ap (λ xs. somes block ++ xs) (sym (defines_somes r.body.ops)) ∙ sym (somes_joined block (defined r.body.ops)) in
        let there : slice_get (names_of r) y ≡ Some r.body.yields =
        ap (λ xs. slice_get xs y) names_are ∙ ap (slice_get ((block ++ defined split.before) ++ op.defines ∷ defined split.after)) (sym names_counted)
        ∙ got_there (block ++ defined split.before) (defined split.after) op.defines ∙ ap (λ n. Some n) split.defines in
        ap (λ xs. last_place xs r.body.yields) all ∙ different_place (names_of r) r.body.yields y is.different there

    ns_counted : length ns ≡ y
    ns_counted = ap length ns_is ∙ length-map (block ++ defined split.before) (λ n. Some n) ∙ names_counted

    yield_held : slice_get (ns ++ Some op.defines ∷ []) y ≡ Some (Some r.body.yields)
    yield_held = ap (slice_get (ns ++ Some op.defines ∷ [])) (sym ns_counted) ∙ got_there ns [] (Some op.defines) ∙ ap (λ n. Some (Some n)) split.defines

    types_are : all_types ≡ ts ++ op.result ∷ results split.after
    types_are =
        ap (λ ops. first_types ++ results ops) split.is ∙ ap (λ xs. first_types ++ xs) (map-append (λ (op : BodyOp). op.result) split.before (op ∷ split.after))
        ∙ sym (append_assoc first_types (results split.before) (op.result ∷ results split.after))

    ts_counted : length ts ≡ y
    ts_counted =
        let a = length-append first_types (results split.before) in
        let b = length-map split.before (λ (op : BodyOp). op.result) in
        let c = types_counted in
        omega (arith, a, b, c)

    result_at : slice_get all_types y ≡ Some op.result
    result_at = ap (λ xs. slice_get xs y) types_are ∙ ap (slice_get (ts ++ op.result ∷ results split.after)) (sym ts_counted) ∙ got_there ts (results split.after) op.result

    result_is : op.result ≡ Scalar w
    result_is =
        let typed : option_map_or (λ u. same_type u (Scalar w)) (option_and_then (slice_get all_types) (Some y)) false ≡ true =
        subst (λ o. option_map_or (λ u. same_type u (Scalar w)) (option_and_then (slice_get all_types) o) false ≡ true) yields_at is.yields in
        scalar_same op.result w (subst (λ o. option_map_or (λ u. same_type u (Scalar w)) o false ≡ true) result_at typed)

    sound_here : AreSoundOps ts ns (op ∷ split.after)
    sound_here = sound_both first_types (first_names r.captured r.body) split.before (op ∷ split.after) (subst (AreSoundOps first_types (first_names r.captured r.body)) split.is is.ops)

    at_kind : has_once out op.operands ≡ true → list_all (uses_neither out r.body.yields) r.body.ops ≡ true → combining_kind op.kind ≡ Some k → HasKindAt k
    unfolding placed
    at_kind once all kind =
        let binary = combining_is op.kind k kind in
        let typed = subst (λ types. AreTypedAt ts ns types op.operands) (binary_typing op.kind (operation_of k) op.result binary) sound_here.0.operands in
        let two = combines_with ts ns op.result out_place out out_here op.operands once typed in
        let parts = all_parts (uses_neither out r.body.yields) split.before (op ∷ split.after) (subst (λ ops. list_all (uses_neither out r.body.yields) ops ≡ true) split.is all) in
        let rest = (both (uses_neither out r.body.yields op) (list_all (uses_neither out r.body.yields) split.after) parts.1).1 in
        let earlier = uses_none out r.body.yields split.before split.others parts.0 in
        let later_names : is_none_of op.defines (defined split.after) ≡ true = (different_back (block ++ defined split.before) (op.defines ∷ defined split.after) different_all).0 in
        let later = uses_none out r.body.yields split.after (defines_others r.body.yields split.after (subst (λ n. is_none_of n (defined split.after) ≡ true) split.defines later_names)) rest in
        record {
          has = record {
            before = placed_ops (first_names r.captured r.body) split.before;
            combine = placed_op ns op;
            after = placed_ops (ns ++ Some op.defines ∷ []) split.after;
            other = two.other;
            ops = ap (placed_ops (first_names r.captured r.body)) split.is ∙ placed_both (first_names r.captured r.body) split.before (op ∷ split.after);
            kind = binary;
            width = ap width_of result_is;
            sources = two.sources;
            differs = two.differs;
            yields = yields_at ∙ ap (λ n. Some (suc out_place + n)) (sym (placed_counted (first_names r.captured r.body) split.before));
            unused = all_read_not (first_names r.captured r.body) out_place out split.before (somes_at block out_place out (out_at out last)) earlier.0;
            unused_after =
                let counted = placed_counted (first_names r.captured r.body) split.before in
                both_read_not out_place (suc out_place + length (placed_ops (first_names r.captured r.body) split.before)) (placed_ops (ns ++ Some op.defines ∷ []) split.after)
                (all_read_not (ns ++ Some op.defines ∷ []) out_place out split.after (got_more ns (Some op.defines ∷ []) out_place (Some out) out_held) later.0)
                (subst (λ n. AllByRecursion (λ op. ReadsNot (suc out_place + n) op.sources) (placed_ops (ns ++ Some op.defines ∷ []) split.after)) (sym counted)
                (all_read_not (ns ++ Some op.defines ∷ []) y r.body.yields split.after yield_held later.1));
          };
          type = two.type;
          there = ap (λ xs. slice_get xs two.other) types_are ∙ got_more ts (op.result ∷ results split.after) two.other two.type two.there;
          width = ap width_of (scalar_same two.type w (subst (λ t. same_type two.type t ≡ true) result_is two.same));
        }

  -- A body with a kind has it by places.
  pub has_kind_at : (k : Kind) → kind_of_body r.body ≡ Some k → HasKindAt k
  unfolding kind_of_body
  has_kind_at k e = go (last_name r.body.args) refl e
    where
      by_test : (out : ℕ) → last_name r.body.args ≡ Some out → (op : BodyOp) → defining r.body.yields r.body.ops ≡ Some op → (b : Bool) → (has_once out op.operands && list_all (uses_neither out r.body.yields) r.body.ops) ≡ b
          → (if b then combining_kind op.kind else None) ≡ Some k → HasKindAt k
      by_test out at op found false test e = absurd (cc)
      by_test out at op found true test e =
          let parts = both (has_once out op.operands) (list_all (uses_neither out r.body.yields) r.body.ops) test in
          at_kind k out (last_is r.body.args out at) op (yielded r.body.yields r.body.ops op found) parts.0 parts.1 e

      by_op : (out : ℕ) → last_name r.body.args ≡ Some out → (o : Option BodyOp) → defining r.body.yields r.body.ops ≡ o → option_and_then (kind_with r.body out) o ≡ Some k → HasKindAt k
      by_op out at None found e = absurd (cc)
      by_op out at (Some op) found e = by_test out at op found (has_once out op.operands && list_all (uses_neither out r.body.yields) r.body.ops) refl e

      go : (o : Option ℕ) → last_name r.body.args ≡ o → option_and_then (λ out. option_and_then (kind_with r.body out) (defining r.body.yields r.body.ops)) o ≡ Some k → HasKindAt k
      go None at e = absurd (cc)
      go (Some out) at e = by_op out at (defining r.body.yields r.body.ops) refl e

  -- ---- cells

  widths_back : (ws : List Width) → map width_of (scalar_types ws) ≡ ws
  widths_back [] = refl
  widths_back (v ∷ ws) = ap (λ vs. v ∷ vs) (widths_back ws)

  cells_joined : (ws vs : List Width) (cs ds : List Cell) → AreCellsOf ws cs → AreCellsOf vs ds → AreCellsOf (ws ++ vs) (cs ++ ds)
  cells_joined [] vs [] ds a b = b
  cells_joined [] vs (c ∷ cs) ds a b = absurd a
  cells_joined (v ∷ ws) vs [] ds a b = absurd a
  cells_joined (v ∷ ws) vs (c ∷ cs) ds a b = (a.0, cells_joined ws vs cs ds a.1 b)

  starts : (ss cs : List Cell) (z : Cell) → AreCellsOf scalars ss → AreCellsOf ins cs → IsCellOf w z → AreOf first_types ((ss ++ cs) ++ z ∷ [])
  starts ss cs z a b i =
      let widths : map width_of first_types ≡ (scalars ++ ins) ++ w ∷ [] = widths_back (scalars ++ r.body.widths) ∙ ap (λ vs. scalars ++ vs) is.block ∙ sym (append_assoc scalars ins (w ∷ [])) in
      subst (λ vs. AreCellsOf vs ((ss ++ cs) ++ z ∷ [])) (sym widths) (cells_joined (scalars ++ ins) (w ∷ []) (ss ++ cs) (z ∷ []) (cells_joined scalars ins ss cs a b) (i, tt))

  -- What it yields is a cell of the output's width.
  pub region_keeps : (point : List ℕ) (ss cs : List Cell) (z y : Cell) → AreCellsOf scalars ss → AreCellsOf ins cs → IsCellOf w z → region_cell (placed r.captured r.body) point ((ss ++ cs) ++ z ∷ []) ≡ Some y → IsCellOf w y
  unfolding region_cell placed
  region_keeps point ss cs z y a b i e =
      go (cells_after (placed_ops (first_names r.captured r.body) r.body.ops) point ((ss ++ cs) ++ z ∷ []))
      (λ after h. cells_within first_types (first_names r.captured r.body) r.body.ops point ((ss ++ cs) ++ z ∷ []) after is.ops (starts ss cs z a b i) h) e
    where
      go : (o : Option (List Cell)) → ((after : List Cell) → o ≡ Some after → AreOf all_types after)
          → option_and_then (λ after. option_and_then (slice_get after) (last_place (all_names r.captured r.body) r.body.yields)) o ≡ Some y → IsCellOf w y
      go None within e = absurd (cc)
      go (Some after) within e = named_cell all_types (all_names r.captured r.body) after (Scalar w) r.body.yields y (within after refl) refl is.yields e

  -- And so is what it combines with the value so far.
  pub term_keeps : (k : Kind) (h : HasKindAt k) (ss cs : List Cell) → AreCellsOf scalars ss → AreCellsOf ins cs → IfThere (IsCellOf w) (term_of (placed r.captured r.body) h.has.other [] (ss ++ cs))
  unfolding term_of placed
  term_keeps k h ss cs a b =
      go (cells_after (placed_ops (first_names r.captured r.body) r.body.ops) [] ((ss ++ cs) ++ Undef ∷ []))
      (λ after e. cells_within first_types (first_names r.captured r.body) r.body.ops [] ((ss ++ cs) ++ Undef ∷ []) after is.ops (starts ss cs Undef a b tt) e)
    where
      got : (after : List Cell) → AreOf all_types after → (o : Option Cell) → slice_get after h.has.other ≡ o → IfThere (IsCellOf w) o
      got after ok None e = tt
      got after ok (Some c) e = subst (λ v. IsCellOf v c) h.width (of_get all_types after h.has.other h.type c ok h.there e)

      go : (o : Option (List Cell)) → ((after : List Cell) → o ≡ Some after → AreOf all_types after) → IfThere (IsCellOf w) (option_and_then (λ after. slice_get after h.has.other) o)
      go None within = tt
      go (Some after) within = got after (within after refl) (slice_get after h.has.other) refl
