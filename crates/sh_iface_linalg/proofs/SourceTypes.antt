-- What the rules say of the types of a verified structured operation.
use Rattle.std.proofs.Common.{ap₂, ◌≡◌, ℕ, ◌≤◌, Bool, true, false, ◌&&◌, List, [], ◌∷◌, ◌++◌, map, max, length, Option, Some, None, refl, ap, sym, ◌∙◌, arith, subst}
use Rattle.std.proofs.lemmas.Bool.Decides.{nat_tests}
use Rattle.std.proofs.lemmas.List.{length-map}
use Rattle.std.specs.List.{AllByRecursion, list_all, list_any}
use Rattle.std.specs.Option.{option_map_or}
use Rattle.std.specs.Prelude.{◌||◌, nat_eq, not, if◌then◌else◌}
use Rattle.sh_base.specs.Cells.{bits_of}
use Rattle.sh_base.specs.declared.numbers.Width.{Width}
use Rattle.sh_base.specs.declared.numbers.Width.TheVariants.{I1, I8, I16, I32, I64}
use Rattle.sh_base.specs.declared.rules.Rule.TheVariants.{V3, V4, V5, V10, L2, L4}
use Rattle.sh_base.specs.Shape.{cell_count, max_cells, max_rank}
use Rattle.sh_ir.specs.declared.linalg_ops.InsOuts.{InsOuts}
use Rattle.sh_ir.specs.declared.operations.Op.{Op}
use Rattle.sh_ir.specs.declared.types.Dim.{Dim}
use Rattle.sh_ir.specs.declared.types.Dim.TheVariants.{Known, Differs}
use Rattle.sh_ir.specs.declared.types.ValueType.{ValueType}
use Rattle.sh_ir.specs.declared.types.ValueType.TheVariants.{Nothing, Scalar, Tensor, Sharding, Index}
use Rattle.sh_ir.specs.Agreement.{differs, has_differing, shapes_agree, types_agree}
use Rattle.sh_ir.specs.Attributes.{numbers_fit}
use Rattle.sh_ir.specs.Formed.{ResultFits, is_scalar, is_spelled_type, types_in}
use Rattle.sh_ir.specs.Limits.{counted_dim, has_few_cells, has_few_dims}
use Rattle.sh_ir.specs.Operands.{operands_fit}
use Rattle.sh_ir.specs.Results.{result_fits}
use Rattle.sh_ir.specs.Rules.{is_in_form, keeps, op_types_of, takes_operands}
use Rattle.sh_ir.specs.Shapes.{extent_of}
use Rattle.sh_ir.specs.Typing.{counts_fit, names, tensor_types}
use Rattle.sh_ir.specs.Written.{written_by}
use Rattle.sh_ir.proofs.KeptLaws.{kept_here}
use Rattle.sh_sharding.specs.Sharding.{counted_cells}
use Rattle.sh_iface.specs.Elements.{known_dims, tensor_of}
use Rattle.sh_iface.specs.Verified.{IsOfVerified}
use Rattle.sh_iface_linalg.specs.Reading.{IsNamed, kind_with}
use Rattle.sh_iface_linalg.specs.Rules.{both}
use Rattle.sh_iface_linalg.specs.Structured.{Form, ins_outs_by, inputs_at, is_fill, kind_at}
use Rattle.sh_iface_linalg.specs.Structured.{fill, matmul, batch_matmul, matvec, vecmat, dot, transpose, broadcast, reduce, generic}
use Rattle.sh_iface_linalg.proofs.PermutedLaws.{same_number}

neither : (a b : Bool) → (a || b) ≡ false → (a ≡ false) × (b ≡ false)
neither true b h = absurd (cc)
neither false b h = (refl, h)

is_not : (b : Bool) → not b ≡ true → b ≡ false
is_not true h = absurd (cc)
is_not false h = refl

-- ---- types of source form

pub all_known : (dims : List Dim) → list_any differs dims ≡ false → dims ≡ known_dims (map extent_of dims)
all_known [] h = refl
all_known (Known n ∷ dims) h = ap (λ ds. Known n ∷ ds) (all_known dims h)
all_known (Differs ∷ dims) h = absurd (cc)

counted_known : (shape : List ℕ) → map counted_dim (known_dims shape) ≡ map (max 1) shape
counted_known [] = refl
counted_known (n ∷ shape) = ap (λ ns. max 1 n ∷ ns) (counted_known shape)

pub agree_known : (s t : List ℕ) → shapes_agree (known_dims s) (known_dims t) ≡ true → s ≡ t
agree_known [] [] h = refl
agree_known [] (n ∷ t) h = absurd (cc)
agree_known (m ∷ s) [] h = absurd (cc)
agree_known (m ∷ s) (n ∷ t) h =
    let parts = both (nat_eq m n) (shapes_agree (known_dims s) (known_dims t)) h in
    let same : m ≡ n = let e = parts.0 in grind (arith, nat_tests) in
    ap₂ ◌∷◌ same (agree_known s t parts.1)

-- a tensor type that keeps the limits, all of whose extents are known
pub record IsSourceType (t : ValueType) : Type 0 where
  pub width : Width
  pub shape : List ℕ
  pub is : t ≡ tensor_of (known_dims shape) width
  pub short : length shape ≤ max_rank
  pub small : counted_cells shape ≤ max_cells

pub source_type : (t : ValueType) → is_spelled_type t ≡ true → not (is_scalar t) ≡ true → has_differing t ≡ false → has_few_dims t ≡ true → has_few_cells t ≡ true → IsSourceType t
unfolding has_few_dims has_few_cells
source_type (Tensor t) spelled tensor known dims cells =
    let shape = map extent_of t.dims in
    let all = all_known t.dims known in
    let counted : length shape ≡ length t.dims = length-map t.dims extent_of in
    let short : length t.dims ≤ max_rank = grind (arith, nat_tests) in
    let few : cell_count (map counted_dim t.dims) ≤ max_cells = grind (arith, nat_tests) in
    let same : map counted_dim t.dims ≡ map (max 1) shape = ap (map counted_dim) all ∙ counted_known shape in
    record {
      width = t.width;
      shape = shape;
      is = ap (λ ds. tensor_of ds t.width) all;
      short = omega (arith, counted, short);
      small = subst (λ ns. cell_count ns ≤ max_cells) same few;
    }
source_type (Scalar w) spelled tensor known dims cells = absurd (cc)
source_type Nothing spelled tensor known dims cells = absurd (cc)
source_type Sharding spelled tensor known dims cells = absurd (cc)
source_type Index spelled tensor known dims cells = absurd (cc)

pub source_types : (ts : List ValueType) → list_all is_spelled_type ts ≡ true → list_all (λ t. not (is_scalar t)) ts ≡ true → list_any has_differing ts ≡ false → list_all has_few_dims ts ≡ true → list_all has_few_cells ts ≡ true
    → AllByRecursion IsSourceType ts
source_types [] spelled tensors known dims cells = tt
source_types (t ∷ ts) spelled tensors known dims cells =
    let a = both (is_spelled_type t) (list_all is_spelled_type ts) spelled in
    let b = both (not (is_scalar t)) (list_all (λ t. not (is_scalar t)) ts) tensors in
    let c = neither (has_differing t) (list_any has_differing ts) known in
    let d = both (has_few_dims t) (list_all has_few_dims ts) dims in
    let e = both (has_few_cells t) (list_all has_few_cells ts) cells in
    (source_type t a.0 b.0 c.0 d.0 e.0, source_types ts a.1 b.1 c.1 d.1 e.1)

-- ---- what the rules say

-- of operands, results and types
pub record Sound (op : Op) (h : IsOfVerified op) : Type 0 where
  pub counts : counts_fit op.kind op.operands ≡ true
  pub tensors : list_all (λ t. not (is_scalar t)) (tensor_types op.kind op.result) ≡ true
  pub operands : operands_fit h.scope op.kind op.result ≡ true
  pub result : result_fits h.scope op.kind op.result ≡ true
  pub numbers : numbers_fit h.scope op.kind op.result ≡ true
  pub known : list_all (λ t. not (has_differing t)) (op_types_of op) ≡ true
  pub dims : list_all has_few_dims (op_types_of op) ≡ true
  pub cells : list_all has_few_cells (op_types_of op) ≡ true

in_source : (a b : Bool) (F : List ℕ → Bool) (device : Option (List ℕ)) → device ≡ None → (a && option_map_or F device b) ≡ true → b ≡ true
in_source a b F None e h = (both a b h).1
in_source a b F (Some g) e h = absurd (cc)

none_any : (ts : List ValueType) → list_any has_differing ts ≡ false → list_all (λ t. not (has_differing t)) ts ≡ true
none_any [] h = refl
none_any (t ∷ ts) h = let parts = neither (has_differing t) (list_any has_differing ts) h in let a = parts.0 in let rest = none_any ts parts.1 in rw a rest

pub sound : (op : Op) (h : IsOfVerified op) → Sound op h
unfolding keeps takes_operands is_in_form
sound op h =
    let counts = both _ _ (kept_here V3 h.scope op (h.keeps V3)) in
    let v3 = both _ _ (both _ _ counts.1).1 in
    let form = in_source _ _ _ h.scope.device h.source (kept_here V10 h.scope op (h.keeps V10)) in
    record {
      counts = counts.0;
      tensors = v3.0;
      operands = v3.1;
      result = kept_here V4 h.scope op (h.keeps V4);
      numbers = kept_here V5 h.scope op (h.keeps V5);
      known = none_any (op_types_of op) (is_not _ (both _ _ form).1);
      dims = (both _ _ (kept_here L2 h.scope op (h.keeps L2))).0;
      cells = kept_here L4 h.scope op (h.keeps L4);
    }

-- ---- how many operands

pub record HasParts (n : ℕ) (x : InsOuts) : Type 0 where
  pub out : ValueType
  pub is : x ≡ ins_outs_by x.ins_types out
  pub count : length x.ins_types ≡ n

parts_of : (x : InsOuts) (outs : List ValueType) → x.outs_types ≡ outs → (n : ℕ) → x.ins_count ≡ n → x.outs_count ≡ 1 → length x.ins_types ≡ x.ins_count → length outs ≡ x.outs_count → HasParts n x
parts_of x [] same n a b c d = absurd (omega (arith, b, d))
parts_of x (t ∷ []) same n a b c d = record {
  out = t;
  is = λ j. record { ins_count = sym c j; ins_types = x.ins_types; outs_count = b j; outs_types = same j };
  count = c ∙ a;
}
parts_of x (t ∷ u ∷ outs) same n a b c d = absurd (omega (arith, b, d))

pub named_parts : (n : ℕ) (x : InsOuts) → names n x ≡ true → HasParts n x
named_parts n x h =
    let first = both _ _ h in
    let counts = both _ _ first.0 in
    let typed = both _ _ first.1 in
    parts_of x x.outs_types refl n (same_number _ _ counts.0) (same_number _ _ counts.1) (same_number _ _ typed.0) (same_number _ _ typed.1)

pub counts_are : (form : Form) (x : InsOuts) (operands : List ℕ) (f r : ℕ) → IsNamed form → counts_fit (kind_with form x) operands ≡ names (length (inputs_at form f r)) x
unfolding counts_fit
counts_are fill x operands f r named = refl
counts_are matmul x operands f r named = refl
counts_are batch_matmul x operands f r named = refl
counts_are matvec x operands f r named = refl
counts_are vecmat x operands f r named = refl
counts_are dot x operands f r named = refl
counts_are (transpose p) x operands f r named = refl
counts_are (broadcast d) x operands f r named = refl
counts_are (reduce n d b) x operands f r named = absurd named
counts_are (generic maps its b) x operands f r named = absurd named

pub kind_is : (form : Form) (ts : List ValueType) (t : ValueType) → kind_with form (ins_outs_by ts t) ≡ kind_at form ts t
kind_is fill ts t = refl
kind_is matmul ts t = refl
kind_is batch_matmul ts t = refl
kind_is matvec ts t = refl
kind_is vecmat ts t = refl
kind_is dot ts t = refl
kind_is (transpose p) ts t = refl
kind_is (broadcast d) ts t = refl
kind_is (reduce n d r) ts t = refl
kind_is (generic maps its r) ts t = refl

-- ---- its types

front_of : {X : Type 0} (test : X → Bool) (xs ys : List X) → list_all test (xs ++ ys) ≡ true → (list_all test xs ≡ true) × (list_all test ys ≡ true)
front_of test [] ys h = (refl, h)
front_of test (x ∷ xs) ys h =
    let parts = both (test x) (list_all test (xs ++ ys)) h in
    let rest = front_of test xs ys parts.1 in
    let a = parts.0 in let b = rest.0 in (rw (a, b) refl, rest.1)

one_of : {X : Type 0} (test : X → Bool) (x : X) → list_all test (x ∷ []) ≡ true → test x ≡ true
one_of test x h = (both (test x) true h).0

pub types_split : (form : Form) (ts : List ValueType) (t result : ValueType) → ResultFits (written_by (kind_at form ts t)).result result → (test : ValueType → Bool)
    → list_all test (types_in (written_by (kind_at form ts t)) result) ≡ true → (list_all test ts ≡ true) × (test t ≡ true) × (test result ≡ true)
types_split fill ts t result fits test h = let a = front_of test (ts ++ t ∷ []) (result ∷ []) h in let b = front_of test ts (t ∷ []) a.0 in (b.0, one_of test t b.1, one_of test result a.1)
types_split matmul ts t result fits test h = let a = front_of test (ts ++ t ∷ []) (result ∷ []) h in let b = front_of test ts (t ∷ []) a.0 in (b.0, one_of test t b.1, one_of test result a.1)
types_split batch_matmul ts t result fits test h = let a = front_of test (ts ++ t ∷ []) (result ∷ []) h in let b = front_of test ts (t ∷ []) a.0 in (b.0, one_of test t b.1, one_of test result a.1)
types_split matvec ts t result fits test h = let a = front_of test (ts ++ t ∷ []) (result ∷ []) h in let b = front_of test ts (t ∷ []) a.0 in (b.0, one_of test t b.1, one_of test result a.1)
types_split vecmat ts t result fits test h = let a = front_of test (ts ++ t ∷ []) (result ∷ []) h in let b = front_of test ts (t ∷ []) a.0 in (b.0, one_of test t b.1, one_of test result a.1)
types_split dot ts t result fits test h = let a = front_of test (ts ++ t ∷ []) (result ∷ []) h in let b = front_of test ts (t ∷ []) a.0 in (b.0, one_of test t b.1, one_of test result a.1)
types_split (transpose p) ts t result fits test h =
    let a = front_of test (ts ++ t ∷ []) [] h in let b = front_of test ts (t ∷ []) a.0 in (b.0, one_of test t b.1, subst (λ u. test u ≡ true) (sym fits) (one_of test t b.1))
types_split (broadcast d) ts t result fits test h =
    let a = front_of test (ts ++ t ∷ []) [] h in let b = front_of test ts (t ∷ []) a.0 in (b.0, one_of test t b.1, subst (λ u. test u ≡ true) (sym fits) (one_of test t b.1))
types_split (reduce n d r) ts t result fits test h =
    let a = front_of test (ts ++ t ∷ []) [] h in let b = front_of test ts (t ∷ []) a.0 in (b.0, one_of test t b.1, subst (λ u. test u ≡ true) (sym fits) (one_of test t b.1))
types_split (generic maps its r) ts t result fits test h = let a = front_of test (ts ++ t ∷ []) (result ∷ []) h in let b = front_of test ts (t ∷ []) a.0 in (b.0, one_of test t b.1, one_of test result a.1)

-- the inputs are tensors but for a fill's
pub tensors_split : (form : Form) (ts : List ValueType) (t result : ValueType) → ResultFits (written_by (kind_at form ts t)).result result → is_fill form ≡ false
    → list_all (λ t. not (is_scalar t)) (tensor_types (kind_at form ts t) result) ≡ true → (list_all (λ t. not (is_scalar t)) ts ≡ true) × (not (is_scalar t) ≡ true) × (not (is_scalar result) ≡ true)
unfolding tensor_types
tensors_split fill ts t result fits tensors h = absurd (cc)
tensors_split matmul ts t result fits tensors h = types_split matmul ts t result fits (λ t. not (is_scalar t)) h
tensors_split batch_matmul ts t result fits tensors h = types_split batch_matmul ts t result fits (λ t. not (is_scalar t)) h
tensors_split matvec ts t result fits tensors h = types_split matvec ts t result fits (λ t. not (is_scalar t)) h
tensors_split vecmat ts t result fits tensors h = types_split vecmat ts t result fits (λ t. not (is_scalar t)) h
tensors_split dot ts t result fits tensors h = types_split dot ts t result fits (λ t. not (is_scalar t)) h
tensors_split (transpose p) ts t result fits tensors h = types_split (transpose p) ts t result fits (λ t. not (is_scalar t)) h
tensors_split (broadcast d) ts t result fits tensors h = types_split (broadcast d) ts t result fits (λ t. not (is_scalar t)) h
tensors_split (reduce n d r) ts t result fits tensors h = types_split (reduce n d r) ts t result fits (λ t. not (is_scalar t)) h
tensors_split (generic maps its r) ts t result fits tensors h = types_split (generic maps its r) ts t result fits (λ t. not (is_scalar t)) h

-- ---- the result has the output's type

abbrev of_bits : ℕ → Width
of_bits n = if nat_eq n 1 then I1 else (if nat_eq n 8 then I8 else (if nat_eq n 16 then I16 else (if nat_eq n 32 then I32 else I64)))

back : (w : Width) → of_bits (bits_of w) ≡ w
back I1 = refl
back I8 = refl
back I16 = refl
back I32 = refl
back I64 = refl

pub same_width : (v w : Width) → nat_eq (bits_of v) (bits_of w) ≡ true → v ≡ w
same_width v w h = sym (back v) ∙ ap of_bits (same_number (bits_of v) (bits_of w) h) ∙ back w

pub same_source : (t u : ValueType) (a : IsSourceType t) (b : IsSourceType u) → types_agree t u ≡ true → t ≡ u
unfolding types_agree
same_source t u a b h =
    let agree : types_agree (tensor_of (known_dims a.shape) a.width) (tensor_of (known_dims b.shape) b.width) ≡ true =
    subst (λ x. types_agree x (tensor_of (known_dims b.shape) b.width) ≡ true) a.is (subst (λ y. types_agree t y ≡ true) b.is h) in
    let parts = both (nat_eq (bits_of a.width) (bits_of b.width)) (shapes_agree (known_dims a.shape) (known_dims b.shape)) agree in
    a.is ∙ ap₂ (λ s w. tensor_of (known_dims s) w) (agree_known a.shape b.shape parts.1) (same_width a.width b.width parts.0) ∙ sym b.is
