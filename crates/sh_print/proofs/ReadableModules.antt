-- The tokens of a formed module are readable.
use Rattle.std.proofs.Common.{◌≡◌, ℕ, Bool, true, false, ◌<◌, ◌^◌, ◌+◌, ℤ, pos, negsuc, nat_lt, List, [], ◌∷◌, ◌++◌, Option, Some, None, flat_map, map, codes, refl, sym, ap, ◌∙◌, arith, ltb-true}
use Rattle.std.specs.Prelude.{MatchOption, ⊤, filter_map, option_to_list, unsigned_abs}
use Rattle.std.specs.List.{AllByRecursion, cons_option, list_all}
use Rattle.std.specs.Option.{option_map_or}
use Rattle.std.proofs.lemmas.List.Folds.{list_all-map}
use Rattle.sh_ir.specs.Formed.{IsFormed, all_written, body_ops_of, bodies_in, call_constants, constants_of, cuts_in, func_symbols, func_types, is_name, is_spelled, is_spelled_type, item_numbers, item_symbols, numbers_of, op_texts, op_types, ops_of, symbols_of, types_in, types_of}
use Rattle.sh_ir.specs.Literals.{is_held}
use Rattle.sh_ir.specs.Shapes.{argument_types}
use Rattle.sh_ir.specs.Written.{Written, sharding_numbers, written_by, written_in_body}
use Rattle.sh_ir.specs.declared.arith_ops.Constant as declared_constant
use Rattle.sh_ir.specs.declared.bodies.Body.{Body}
use Rattle.sh_ir.specs.declared.bodies.BodyOp.{BodyOp}
use Rattle.sh_ir.specs.declared.functions.Arg.{Arg}
use Rattle.sh_ir.specs.declared.functions.Carry.{Carry}
use Rattle.sh_ir.specs.declared.functions.Cut.{Cut}
use Rattle.sh_ir.specs.declared.functions.Func.{Func}
use Rattle.sh_ir.specs.declared.modules.CallItem.{CallItem}
use Rattle.sh_ir.specs.declared.modules.GridItem.{GridItem}
use Rattle.sh_ir.specs.declared.modules.Module.{Module}
use Rattle.sh_ir.specs.declared.operations.Op.{Op}
use Rattle.sh_ir.specs.declared.types.ValueType.{ValueType}
use Rattle.sh_print.specs.Layout.{Piece}
use Rattle.sh_print.specs.LayoutLaw.{CanBeRead}
use Rattle.sh_print.specs.Spellings.{dense_pieces, list_of, type_pieces}
use Rattle.sh_print.specs.Tokens.{call_pieces, carry_pieces, cut_pieces, cuts, device_pieces, extents, func_pieces, grid_pieces, items_pieces, module_name, op_pieces, ops_pieces, parameter, parameters_pieces, results_pieces, scope_of, several_pieces, signature_pieces, tokens_of}
use Rattle.sh_print.specs.Values.{Scope, name_in}
use Rattle.sh_print.proofs.ReadablePieces.{Readable, nothing, joined, both_true, parts_true, a_word, a_symbol, a_sign, an_opening, a_closing, a_line_end, a_number, an_extent, a_value, can_be_read, readable_each, readable_list, all_by, all_of_parts, all_with}
use Rattle.sh_print.proofs.ReadableForms.{sign_alone, an_attribute, a_flag, a_type, some_types, with_type, into_type, a_sharding}
use Rattle.sh_print.proofs.ReadableLiterals.{ArePrintable, printable, a_dense_constant}
use Rattle.sh_print.proofs.ReadableOperations.{IsWritten, IsBodyWritten, IsRegionWritten, IsOpWritten, an_op}

-- ## What holds of all holds of parts

module _ {X : Type 0} where
  all_front : (P : X → Type 0) (xs ys : List X) → AllByRecursion P (xs ++ ys) → AllByRecursion P xs
  all_front P [] ys each = tt
  all_front P (x ∷ xs) ys each = (each.0, all_front P xs ys each.1)

  all_back : (P : X → Type 0) (xs ys : List X) → AllByRecursion P (xs ++ ys) → AllByRecursion P ys
  all_back P [] ys each = each
  all_back P (x ∷ xs) ys each = all_back P xs ys each.1

  all_both : (P Q : X → Type 0) (xs : List X) → AllByRecursion P xs → AllByRecursion Q xs → AllByRecursion (λ x. P x × Q x) xs
  all_both P Q [] p q = tt
  all_both P Q (x ∷ xs) p q = ((p.0, q.0), all_both P Q xs p.1 q.1)

  all_true : (p : X → Bool) (xs : List X) → list_all p xs ≡ true → AllByRecursion (λ x. p x ≡ true) xs
  all_true p [] e = tt
  all_true p (x ∷ xs) e = let both = both_true (p x) (list_all p xs) e in (both.0, all_true p xs both.1)

  all_then : (P Q : X → Type 0) (xs : List X) → ((x : X) → P x → Q x) → AllByRecursion P xs → AllByRecursion Q xs
  all_then P Q [] f each = tt
  all_then P Q (x ∷ xs) f each = (f x each.0, all_then P Q xs f each.1)

module _ {X Y : Type 0} where
  all_mapped : (P : Y → Type 0) (h : X → Y) (xs : List X) → AllByRecursion P (map h xs) → AllByRecursion (λ x. P (h x)) xs
  all_mapped P h [] each = tt
  all_mapped P h (x ∷ xs) each = (each.0, all_mapped P h xs each.1)

  all_in_parts : (P : Y → Type 0) (parts : X → List Y) (xs : List X) → AllByRecursion P (flat_map parts xs) → AllByRecursion (λ x. AllByRecursion P (parts x)) xs
  all_in_parts P parts [] each = tt
  all_in_parts P parts (x ∷ xs) each =
      (all_front P (parts x) (flat_map parts xs) each, all_in_parts P parts xs (all_back P (parts x) (flat_map parts xs) each))

  all_chosen : (P : Y → Type 0) (h : X → Option Y) (xs : List X) → AllByRecursion P (filter_map h xs) → AllByRecursion (λ x. MatchOption (h x) ⊤ P) xs
  all_chosen P h [] each = tt
  all_chosen P h (x ∷ xs) each = go (h x) each (all_chosen P h xs)
    where
      go : (y : Option Y) → AllByRecursion P (cons_option y (filter_map h xs)) → (AllByRecursion P (filter_map h xs) → AllByRecursion (λ z. MatchOption (h z) ⊤ P) xs)
          → MatchOption y ⊤ P × AllByRecursion (λ z. MatchOption (h z) ⊤ P) xs
      go None each more = (tt, more each)
      go (Some y) each more = (each.0, more each.1)

-- ## Operations

-- the parts of being written that are asked of all texts alike
abbrev IsText : Written → Type 0
IsText x = (list_all is_name (x.grids ++ x.callees) ≡ true) × ((list_all is_spelled x.numbers ≡ true) × (list_all is_held x.constants ≡ true))

all_texts : (m : Module) → IsFormed m → AllByRecursion IsText (all_written m)
all_texts m formed =
    let names = all_of_parts is_name (λ x. x.grids ++ x.callees) (all_written m) (parts_true is_name (item_symbols m) (flat_map (λ x. x.grids ++ x.callees) (all_written m)) formed.names).1 in
    let numbers = all_of_parts is_spelled (λ x. x.numbers) (all_written m) (parts_true is_spelled (item_numbers m) (flat_map (λ x. x.numbers) (all_written m)) formed.numbers).1 in
    let literals = all_of_parts is_held (λ x. x.constants) (all_written m) (parts_true is_held (flat_map (λ x. x.constants) (all_written m)) (call_constants m) formed.literals).0 in
    all_both (λ x. list_all is_name (x.grids ++ x.callees) ≡ true) (λ x. (list_all is_spelled x.numbers ≡ true) × (list_all is_held x.constants ≡ true)) (all_written m) names
    (all_both (λ x. list_all is_spelled x.numbers ≡ true) (λ x. list_all is_held x.constants ≡ true) (all_written m) numbers literals)

abbrev are_spelled : List ValueType → Type 0
are_spelled ts = list_all is_spelled_type ts ≡ true

-- the types of functions, of operations and of the literals of calls
types_parts : (m : Module) → IsFormed m → are_spelled (flat_map func_types m.funcs) × (are_spelled (op_types m) × are_spelled (map (λ c. c.value_type) (call_constants m)))
types_parts m formed =
    let last = parts_true is_spelled_type (flat_map func_types m.funcs ++ op_types m) (map (λ c. c.value_type) (call_constants m)) formed.types in
    let first = parts_true is_spelled_type (flat_map func_types m.funcs) (op_types m) last.0 in
    (first.0, (first.1, last.1))

written_from : (x : Written) (t : ValueType) → IsText x × are_spelled (types_in x t) → IsWritten x t
written_from x t is = record { names = is.0.0; numbers = is.0.1.0; types = is.1; literals = is.0.1.1 }

all_ops_written : (m : Module) → IsFormed m → AllByRecursion (λ op. IsWritten (written_by op.kind) op.result) (ops_of m)
all_ops_written m formed =
    let body_texts : List Written = map (λ op. written_in_body op.kind) (body_ops_of m) in
    let texts = all_mapped IsText (λ op. written_by op.kind) (ops_of m) (all_front IsText (op_texts (ops_of m)) body_texts (all_texts m formed)) in
    let both = parts_true is_spelled_type (flat_map (λ op. types_in (written_by op.kind) op.result) (ops_of m)) (flat_map (λ op. types_in (written_in_body op.kind) op.result) (body_ops_of m)) (types_parts m formed).1.0 in
    let types = all_of_parts is_spelled_type (λ op. types_in (written_by op.kind) op.result) (ops_of m) both.0 in
    all_then (λ (op : Op). IsText (written_by op.kind) × are_spelled (types_in (written_by op.kind) op.result)) (λ op. IsWritten (written_by op.kind) op.result) (ops_of m)
    (λ op is. written_from (written_by op.kind) op.result is)
    (all_both (λ op. IsText (written_by op.kind)) (λ op. are_spelled (types_in (written_by op.kind) op.result)) (ops_of m) texts types)

all_body_ops_written : (m : Module) → IsFormed m → AllByRecursion (λ op. IsWritten (written_in_body op.kind) op.result) (body_ops_of m)
all_body_ops_written m formed =
    let body_texts : List Written = map (λ op. written_in_body op.kind) (body_ops_of m) in
    let texts = all_mapped IsText (λ op. written_in_body op.kind) (body_ops_of m) (all_back IsText (op_texts (ops_of m)) body_texts (all_texts m formed)) in
    let both = parts_true is_spelled_type (flat_map (λ op. types_in (written_by op.kind) op.result) (ops_of m)) (flat_map (λ op. types_in (written_in_body op.kind) op.result) (body_ops_of m)) (types_parts m formed).1.0 in
    let types = all_of_parts is_spelled_type (λ op. types_in (written_in_body op.kind) op.result) (body_ops_of m) both.1 in
    all_then (λ (op : BodyOp). IsText (written_in_body op.kind) × are_spelled (types_in (written_in_body op.kind) op.result)) (λ op. IsWritten (written_in_body op.kind) op.result) (body_ops_of m)
    (λ op is. written_from (written_in_body op.kind) op.result is)
    (all_both (λ op. IsText (written_in_body op.kind)) (λ op. are_spelled (types_in (written_in_body op.kind) op.result)) (body_ops_of m) texts types)

all_regions_written : (m : Module) → IsFormed m → AllByRecursion (λ op. IsRegionWritten (written_by op.kind).body) (ops_of m)
all_regions_written m formed =
    let bodies = all_in_parts (λ op. IsWritten (written_in_body op.kind) op.result) (λ body. body.ops) (bodies_in (ops_of m)) (all_body_ops_written m formed) in
    all_mapped (λ x. IsRegionWritten x.body) (λ op. written_by op.kind) (ops_of m) (all_chosen IsBodyWritten (λ x. x.body) (op_texts (ops_of m)) bodies)

-- function by function
all_written_in : (m : Module) → IsFormed m → AllByRecursion (λ f. AllByRecursion IsOpWritten f.ops) m.funcs
all_written_in m formed =
    all_in_parts IsOpWritten (λ f. f.ops) m.funcs
    (all_both (λ op. IsWritten (written_by op.kind) op.result) (λ op. IsRegionWritten (written_by op.kind).body) (ops_of m) (all_ops_written m formed) (all_regions_written m formed))

-- ## Items

abs_small : (z : ℤ) → is_spelled z ≡ true → unsigned_abs z < 2 ^ 64
abs_small (pos n) e = ltb-true n (2 ^ 64) e
abs_small (negsuc n) e = omega (arith, ltb-true (n + 1) (2 ^ 64) e)

some_extents : (zs : List ℤ) → list_all is_spelled zs ≡ true → Readable (extents zs)
unfolding extents
some_extents [] e = nothing
some_extents (z ∷ []) e = a_number (unsigned_abs z) (abs_small z (both_true (is_spelled z) true e).0) nothing
some_extents (z ∷ next ∷ zs) e =
    let both = both_true (is_spelled z) (list_all is_spelled (next ∷ zs)) e in
    an_extent (unsigned_abs z) (abs_small z both.0) (some_extents (next ∷ zs) both.1)

abbrev IsGridSpelled : GridItem → Type 0
IsGridSpelled g = (is_name g.name ≡ true) × (list_all is_spelled g.extents ≡ true)

a_grid : (g : GridItem) → IsGridSpelled g → Readable (grid_pieces g)
unfolding grid_pieces
a_grid g is = a_word refl (a_symbol g.name is.0 (a_sign refl (joined (joined (an_attribute (codes "shape") refl) (some_extents g.extents is.1)) (a_sign refl (a_line_end nothing)))))

abbrev IsCutSpelled : Cut → Type 0
IsCutSpelled cut = (is_spelled_type cut.whole ≡ true) × (list_all is_spelled (sharding_numbers cut.sharding) ≡ true)

a_cut : (cut : Cut) → IsCutSpelled cut → Readable (cut_pieces cut)
unfolding cut_pieces
a_cut cut is = joined (a_type cut.whole is.0) (a_sharding cut.sharding is.1)

some_cuts : (xs : List Cut) → AllByRecursion IsCutSpelled xs → Readable (cuts xs)
unfolding cuts
some_cuts xs each = a_sign refl (joined (readable_list cut_pieces xs (all_with cut_pieces IsCutSpelled xs a_cut each)) (sign_alone (codes ")") refl))

abbrev cuts_by : Option Carry → List Cut
cuts_by carry = option_map_or (λ c. c.args ++ c.results) carry []

abbrev grid_by : Option Carry → List (List ℕ)
grid_by carry = option_map_or (λ c. c.grid ∷ []) carry []

a_device : (name : List ℕ) (carry : Option Carry) → is_name name ≡ true → list_all is_name (grid_by carry) ≡ true → AllByRecursion IsCutSpelled (cuts_by carry) → Readable (device_pieces name carry)
unfolding device_pieces carry_pieces
a_device name None is grid each = nothing
a_device name (Some carry) is grid each =
    let args = some_cuts carry.args (all_front IsCutSpelled carry.args carry.results each) in
    let results = some_cuts carry.results (all_back IsCutSpelled carry.args carry.results each) in
    a_word refl (a_symbol name is (a_word refl (a_symbol carry.grid (both_true (is_name carry.grid) true grid).0 (joined (joined args (a_sign refl results)) (a_line_end nothing)))))

abbrev IsArgSpelled : Arg → Type 0
IsArgSpelled arg = is_spelled_type arg.value_type ≡ true

a_parameter : (scope : Scope) (arg : Arg) → IsArgSpelled arg → Readable (parameter scope arg)
unfolding parameter
a_parameter scope arg e = a_value (name_in scope arg.id) (with_type arg.value_type e)

some_parameters : (scope : Scope) (args : List Arg) → AllByRecursion IsArgSpelled args → Readable (parameters_pieces scope args)
unfolding parameters_pieces
some_parameters scope args each =
    a_sign refl (joined (readable_list (parameter scope) args (all_with (parameter scope) IsArgSpelled args (a_parameter scope) each)) (sign_alone (codes ")") refl))

some_results : (ts : List ValueType) → are_spelled ts → Readable (results_pieces ts)
unfolding results_pieces several_pieces
some_results [] e = nothing
some_results (t ∷ []) e = into_type t (both_true (is_spelled_type t) true e).0
some_results (t ∷ next ∷ ts) e = a_sign refl (a_sign refl (joined (some_types (t ∷ next ∷ ts) e) (sign_alone (codes ")") refl)))

some_ops : (scope : Scope) (ops : List Op) → AllByRecursion IsOpWritten ops → Readable (ops_pieces scope ops)
unfolding ops_pieces
some_ops scope ops each = an_opening (joined (readable_each (op_pieces scope) ops (all_with (op_pieces scope) IsOpWritten ops (an_op scope) each)) (a_closing (a_line_end nothing)))

a_signature : (scope : Scope) (f : Func) → is_name f.name ≡ true → AllByRecursion IsArgSpelled f.args → are_spelled f.results → Readable (signature_pieces scope f)
unfolding signature_pieces
a_signature scope f is args results = a_word refl (joined (joined (a_flag (codes "private") f.private refl) (a_symbol f.name is (some_parameters scope f.args args))) (some_results f.results results))

-- what is asked of a function's text
abbrev IsFuncSpelled : Func → Type 0
IsFuncSpelled f =
    (list_all is_name (func_symbols f) ≡ true)
    × (AllByRecursion (λ cut. list_all is_spelled (sharding_numbers cut.sharding) ≡ true) (cuts_in f) × (are_spelled (func_types f) × AllByRecursion IsOpWritten f.ops))

a_func : (f : Func) → IsFuncSpelled f → Readable (func_pieces f)
unfolding func_pieces
a_func f is =
    let scope = scope_of f in
    let names = both_true (is_name f.name) (list_all is_name (grid_by f.carry)) is.0 in
    let last = parts_true is_spelled_type (argument_types f ++ f.results) (map (λ cut. cut.whole) (cuts_in f)) is.1.1.0 in
    let first = parts_true is_spelled_type (argument_types f) f.results last.0 in
    let args : AllByRecursion IsArgSpelled f.args = all_mapped (λ t. is_spelled_type t ≡ true) (λ arg. arg.value_type) f.args (all_true is_spelled_type (argument_types f) first.0) in
    let wholes = all_mapped (λ t. is_spelled_type t ≡ true) (λ cut. cut.whole) (cuts_in f) (all_true is_spelled_type (map (λ cut. cut.whole) (cuts_in f)) last.1) in
    let cuts = all_both (λ cut. is_spelled_type cut.whole ≡ true) (λ cut. list_all is_spelled (sharding_numbers cut.sharding) ≡ true) (cuts_in f) wholes is.1.0 in
    joined (joined (a_device f.name f.carry names.0 names.1 cuts) (a_signature scope f names.0 args first.1)) (some_ops scope f.ops is.1.1.1)

abbrev IsCallSpelled : CallItem → Type 0
IsCallSpelled c = (is_name c.callee ≡ true) × AllByRecursion (λ x. ArePrintable x × (is_spelled_type x.value_type ≡ true)) c.args

a_call_item : (c : CallItem) → IsCallSpelled c → Readable (call_pieces c)
unfolding call_pieces
a_call_item c is =
    a_word refl (a_symbol c.callee is.0 (a_sign refl
    (joined (readable_list dense_pieces c.args (all_with dense_pieces (λ x. ArePrintable x × (is_spelled_type x.value_type ≡ true)) c.args (λ x e. a_dense_constant x e.0 e.1) is.1)) (a_sign refl (a_line_end nothing)))))

-- ## Modules

symbols_parts : (m : Module) → IsFormed m
    → (list_all is_name (option_to_list m.name) ≡ true) × ((list_all is_name (map (λ g. g.name) m.grids) ≡ true) × ((list_all is_name (flat_map func_symbols m.funcs) ≡ true) × (list_all is_name (map (λ c. c.callee) m.calls) ≡ true)))
symbols_parts m formed =
    let items = (parts_true is_name (item_symbols m) (flat_map (λ x. x.grids ++ x.callees) (all_written m)) formed.names).0 in
    let calls = parts_true is_name (option_to_list m.name ++ map (λ g. g.name) m.grids ++ flat_map func_symbols m.funcs) (map (λ c. c.callee) m.calls) items in
    let funcs = parts_true is_name (option_to_list m.name ++ map (λ g. g.name) m.grids) (flat_map func_symbols m.funcs) calls.0 in
    let grids = parts_true is_name (option_to_list m.name) (map (λ g. g.name) m.grids) funcs.0 in
    (grids.0, (grids.1, (funcs.1, calls.1)))

numbers_parts : (m : Module) → IsFormed m
    → (list_all is_spelled (flat_map (λ g. g.extents) m.grids) ≡ true) × (list_all is_spelled (flat_map (λ cut. sharding_numbers cut.sharding) (flat_map cuts_in m.funcs)) ≡ true)
numbers_parts m formed =
    let items = (parts_true is_spelled (item_numbers m) (flat_map (λ x. x.numbers) (all_written m)) formed.numbers).0 in
    parts_true is_spelled (flat_map (λ g. g.extents) m.grids) (flat_map (λ cut. sharding_numbers cut.sharding) (flat_map cuts_in m.funcs)) items

all_grids : (m : Module) → IsFormed m → AllByRecursion IsGridSpelled m.grids
all_grids m formed =
    let names = all_mapped (λ n. is_name n ≡ true) (λ g. g.name) m.grids (all_true is_name (map (λ g. g.name) m.grids) (symbols_parts m formed).1.0) in
    let numbers = all_of_parts is_spelled (λ g. g.extents) m.grids (numbers_parts m formed).0 in
    all_both (λ g. is_name g.name ≡ true) (λ g. list_all is_spelled g.extents ≡ true) m.grids names numbers

all_funcs : (m : Module) → IsFormed m → AllByRecursion IsFuncSpelled m.funcs
all_funcs m formed =
    let names = all_of_parts is_name func_symbols m.funcs (symbols_parts m formed).1.1.0 in
    let cuts = all_in_parts (λ cut. list_all is_spelled (sharding_numbers cut.sharding) ≡ true) cuts_in m.funcs
    (all_of_parts is_spelled (λ cut. sharding_numbers cut.sharding) (flat_map cuts_in m.funcs) (numbers_parts m formed).1) in
    let types = all_of_parts is_spelled_type func_types m.funcs (types_parts m formed).0 in
    let ops = all_written_in m formed in
    all_both (λ f. list_all is_name (func_symbols f) ≡ true)
    (λ f. AllByRecursion (λ cut. list_all is_spelled (sharding_numbers cut.sharding) ≡ true) (cuts_in f) × (are_spelled (func_types f) × AllByRecursion IsOpWritten f.ops)) m.funcs names
    (all_both (λ f. AllByRecursion (λ cut. list_all is_spelled (sharding_numbers cut.sharding) ≡ true) (cuts_in f)) (λ f. are_spelled (func_types f) × AllByRecursion IsOpWritten f.ops) m.funcs cuts
    (all_both (λ f. are_spelled (func_types f)) (λ f. AllByRecursion IsOpWritten f.ops) m.funcs types ops))

all_calls : (m : Module) → IsFormed m → AllByRecursion IsCallSpelled m.calls
all_calls m formed =
    let names = all_mapped (λ n. is_name n ≡ true) (λ c. c.callee) m.calls (all_true is_name (map (λ c. c.callee) m.calls) (symbols_parts m formed).1.1.1) in
    let held = all_true is_held (call_constants m) (parts_true is_held (flat_map (λ x. x.constants) (all_written m)) (call_constants m) formed.literals).1 in
    let cells = all_then (λ c. is_held c ≡ true) ArePrintable (call_constants m) printable held in
    let types = all_mapped (λ t. is_spelled_type t ≡ true) (λ c. c.value_type) (call_constants m) (all_true is_spelled_type (map (λ c. c.value_type) (call_constants m)) (types_parts m formed).1.1) in
    let both = all_both ArePrintable (λ c. is_spelled_type c.value_type ≡ true) (call_constants m) cells types in
    all_both (λ c. is_name c.callee ≡ true) (λ c. AllByRecursion (λ x. ArePrintable x × (is_spelled_type x.value_type ≡ true)) c.args) m.calls names
    (all_in_parts (λ x. ArePrintable x × (is_spelled_type x.value_type ≡ true)) (λ c. c.args) m.calls both)

a_module_name : (name : Option (List ℕ)) → list_all is_name (option_to_list name) ≡ true → Readable (module_name name)
unfolding module_name
a_module_name None e = nothing
a_module_name (Some name) e = a_symbol name (both_true (is_name name) true e).0 nothing

all_items : (m : Module) → IsFormed m → Readable (items_pieces m)
unfolding items_pieces
all_items m formed =
    let grids = readable_each grid_pieces m.grids (all_with grid_pieces IsGridSpelled m.grids a_grid (all_grids m formed)) in
    let funcs = readable_each func_pieces m.funcs (all_with func_pieces IsFuncSpelled m.funcs a_func (all_funcs m formed)) in
    let calls = readable_each call_pieces m.calls (all_with call_pieces IsCallSpelled m.calls a_call_item (all_calls m formed)) in
    joined (joined grids funcs) calls

readable_module : (m : Module) → IsFormed m → Readable (tokens_of m)
unfolding tokens_of
readable_module m formed =
    a_word refl (joined (joined (a_module_name m.name (symbols_parts m formed).0) (an_opening (all_items m formed))) (a_closing (a_line_end nothing)))

pub formed_can_be_read : (m : Module) → IsFormed m → CanBeRead (tokens_of m)
formed_can_be_read m formed = can_be_read (readable_module m formed)
