-- The rules as they are defined are those that are found, item by item.
use mathlib.Core.Path.{◌∙◌, ap, sym, refl}
use Rattle.std.proofs.Common.{◌≡◌, ℕ, ◌+◌, ◌<◌, List, [], ◌∷◌, ◌++◌, Bool, false, not, ◌&&◌, ◌||◌, length, drop, take, map}
use Rattle.std.proofs.lemmas.List.{append-nil, take_more}
use Rattle.std.specs.Prelude.{Option, Some, None, get_or, flat_map}
use Rattle.sh_base.specs.declared.places.Refusal.{Refusal}
use Rattle.sh_base.specs.declared.rules.Rule.TheVariants.{V2, V3, V5, V6, V7, V10}
use Rattle.sh_ir.specs.declared.functions.Arg.{Arg}
use Rattle.sh_ir.specs.declared.functions.Carry.{Carry}
use Rattle.sh_ir.specs.declared.functions.Cut.{Cut}
use Rattle.sh_ir.specs.declared.functions.Func.{Func}
use Rattle.sh_ir.specs.declared.modules.CallItem.{CallItem}
use Rattle.sh_ir.specs.declared.modules.GridItem.{GridItem}
use Rattle.sh_ir.specs.declared.modules.Module.{Module}
use Rattle.sh_ir.specs.declared.operations.Op.{Op}
use Rattle.sh_ir.specs.declared.types.ValueType.{ValueType}
use Rattle.sh_ir.specs.Faults.{call_faults, faults_by, func_faults, funcs_faults, grid_faults, are_whole, has_all_cuts, has_form, has_grid, keeps_call, keeps_func, keeps_grid, keeps_return, return_faults, rule_faults, signature_of, the_rules}
use Rattle.sh_ir.specs.Agreement.{has_differing, is_tensor}
use Rattle.sh_ir.specs.Formed.{cuts_in, is_scalar}
use Rattle.sh_ir.specs.Shapes.{argument_types}
use Rattle.sh_ir.specs.Rules.{faults_at, op_faults, ops_faults}
use Rattle.sh_ir.specs.Scope.{Value, scope_of, values_after, with_args}
use Rattle.std.specs.List.{list_all, list_any}
use Rattle.std.specs.Option.{option_map_or}
use Rattle.std.proofs.lemmas.List.Folds.{list_all-append, list_all-map, list_any-append}
use Rattle.sh_verify.specs.Least.{by_place, fault_unless, least_of}
use Rattle.sh_verify.specs.RuleFaults.{all_in_signature, any_cut, any_in_carry, any_in_cuts, any_in_signature, call_rules, cuts_tensors, func_rules, funcs_rules, grid_rules, grids_rules, has_new_names, has_types_of_form, head_rules, module_rules, return_rules}
use Rattle.sh_verify.specs.Tables.{scope_at, scope_with, values_behind}
use Rattle.sh_verify.proofs.LeastLaws.{least_of_both, next_drop}
use Rattle.sh_verify.proofs.LimitLaws.{each_fault}
use Rattle.sh_verify.proofs.NameLaws.{list_any-map}

both : {a b c d : List Refusal} → a ≡ c → b ≡ d → a ++ b ≡ c ++ d
both {a} {b} {c} {d} p q = ap (λ x. x ++ b) p ∙ ap (λ y. c ++ y) q

-- ---- grids

one_grid : (before : List GridItem) (g : GridItem) → faults_at g.place the_rules (λ rule. keeps_grid rule before g) ≡ grid_rules before g
unfolding keeps_grid grid_rules
one_grid before g =
    each_fault g.place the_rules (λ rule. keeps_grid rule before g)
    ∙ ap (λ rs. fault_unless (keeps_grid V2 before g) g.place V2 ++ rs) (append-nil (fault_unless (keeps_grid V5 before g) g.place V5))

all_grids : (before grids : List GridItem) → grid_faults the_rules before grids ≡ grids_rules before grids
all_grids before [] = refl
all_grids before (g ∷ grids) = both (one_grid before g) (all_grids (before ++ g ∷ []) grids)

-- ---- functions

abbrev wholes : Func → List ValueType
wholes f = map (λ cut. cut.whole) (cuts_in f)

all_signature : (test : ValueType → Bool) (f : Func) → list_all test (signature_of f) ≡ all_in_signature test f
all_signature test f =
    list_all-append test (argument_types f) f.results
    ∙ ap (λ b. b && list_all test f.results) (list_all-map test (λ (arg : Arg). arg.value_type) f.args)

any_signature : (test : ValueType → Bool) (f : Func) → list_any test (signature_of f) ≡ any_in_signature test f
any_signature test f =
    list_any-append test (argument_types f) f.results
    ∙ ap (λ b. b || list_any test f.results) (list_any-map test (λ (arg : Arg). arg.value_type) f.args)

any_of_cuts : (test : ValueType → Bool) (cuts more : List Cut)
    → list_any test (map (λ cut. cut.whole) (cuts ++ more)) ≡ (any_cut test cuts || any_cut test more)
any_of_cuts test cuts more =
    list_any-map test (λ (cut : Cut). cut.whole) (cuts ++ more) ∙ list_any-append (λ cut. test cut.whole) cuts more

any_carried : (test : ValueType → Bool) (carry : Option Carry)
    → list_any test (map (λ cut. cut.whole) (option_map_or (λ carry. carry.args ++ carry.results) carry []))
    ≡ option_map_or (any_in_carry test) carry false
any_carried test None = refl
any_carried test (Some carry) = any_of_cuts test carry.args carry.results

any_whole : (test : ValueType → Bool) (f : Func) → list_any test (wholes f) ≡ any_in_cuts test f
any_whole test f = any_carried test f.carry

same_form : (f : Func) → has_form f ≡ has_types_of_form f
unfolding has_form
same_form f = by f.carry refl
  where
    by : (carry : Option Carry) → f.carry ≡ carry
        → option_map_or (λ c. has_all_cuts f c && are_whole f) carry (not (list_any has_differing (signature_of f)))
        ≡ option_map_or (λ c. has_all_cuts f c && not (any_in_carry has_differing c)) carry (not (any_in_signature has_differing f))
    by None e = ap not (any_signature has_differing f)
    by (Some c) e =
        ap (λ b. has_all_cuts f c && not b)
        (any_whole has_differing f ∙ ap (λ carry. option_map_or (any_in_carry has_differing) carry false) e)

one_head : (m : Module) (before : List Func) (f : Func) → faults_at f.place the_rules (λ rule. keeps_func rule m before f) ≡ head_rules m before f
unfolding keeps_func head_rules
one_head m before f =
    let names = fault_unless (has_new_names before f) f.place V2 in
    let grid = fault_unless (has_grid m f) f.place V6 in
    let types = fault_unless (list_all is_tensor (signature_of f)) f.place V7 in
    let form = fault_unless (has_form f) f.place V10 in
    each_fault f.place the_rules (λ rule. keeps_func rule m before f)
    ∙ (ap (λ rs. names ++ (fault_unless (not (list_any is_scalar (wholes f))) f.place V3 ++ (grid ++ (types ++ rs)))) (append-nil form)
    ∙ (ap (λ b. names ++ (fault_unless (not b) f.place V3 ++ (grid ++ (types ++ form)))) (any_whole is_scalar f)
    ∙ (ap (λ b. names ++ (fault_unless (cuts_tensors f) f.place V3 ++ (grid ++ (fault_unless b f.place V7 ++ form)))) (all_signature is_tensor f)
    ∙ ap (λ b. names ++ (fault_unless (cuts_tensors f) f.place V3
    ++ (grid ++ (fault_unless (all_in_signature is_tensor f) f.place V7 ++ fault_unless b f.place V10)))) (same_form f))))

one_return : (results : List ValueType) (op : Op) → faults_at op.place the_rules (λ rule. keeps_return rule results op) ≡ return_rules results op
unfolding keeps_return return_rules
one_return results op =
    each_fault op.place the_rules (λ rule. keeps_return rule results op)
    ∙ append-nil (fault_unless (keeps_return V7 results op) op.place V7)

all_returns : (results : List ValueType) (ops : List Op) → return_faults the_rules results ops ≡ flat_map (return_rules results) ops
all_returns results [] = refl
all_returns results (op ∷ ops) = both (one_return results op) (all_returns results ops)

one_func : (m : Module) (before : List Func) (f : Func) → func_faults the_rules m before f ≡ func_rules m before f
unfolding func_faults func_rules
one_func m before f =
    both (one_head m before f)
    (ap (λ rs. ops_faults the_rules (scope_of m f) f.ops ++ rs) (all_returns f.results f.ops))

all_funcs : (m : Module) (before funcs : List Func) → funcs_faults the_rules m before funcs ≡ funcs_rules m before funcs
all_funcs m before [] = refl
all_funcs m before (f ∷ funcs) = both (one_func m before f) (all_funcs m (before ++ f ∷ []) funcs)

-- ---- call items

one_call : (item : CallItem) → faults_at item.place the_rules (λ rule. keeps_call rule item) ≡ call_rules item
unfolding keeps_call call_rules
one_call item =
    each_fault item.place the_rules (λ rule. keeps_call rule item)
    ∙ append-nil (fault_unless (keeps_call V5 item) item.place V5)

all_calls : (items : List CallItem) → call_faults the_rules items ≡ flat_map call_rules items
all_calls [] = refl
all_calls (item ∷ items) = both (one_call item) (all_calls items)

pub all_rules : (m : Module) → rule_faults m ≡ module_rules m
unfolding faults_by module_rules
all_rules m = both (all_grids [] m.grids) (both (all_funcs m [] m.funcs) (all_calls m.calls))

-- ---- loops

-- A loop over a list whose faults ask what stands before keeps: what is found so far with the
-- refusals to come.
pub found_after : {X : Type 0} (each : List X → X → List Refusal) (all : List X → List X → List Refusal)
    → ((before : List X) (x : X) (xs : List X) → all before (x ∷ xs) ≡ each before x ++ all (before ++ x ∷ []) xs)
    → (xs : List X) (i : ℕ) (x : X) (found next whole : Option Refusal)
    → i < length xs → x ≡ get_or xs i x
    → least_of by_place found (all (take i xs) (drop i xs)) ≡ whole
    → next ≡ least_of by_place found (each (take i xs) x)
    → least_of by_place next (all (take (i + 1) xs) (drop (i + 1) xs)) ≡ whole
found_after each all steps xs i x found next whole within read so_far is =
    ap (λ n. least_of by_place n (all (take (i + 1) xs) (drop (i + 1) xs))) is
    ∙ (ap (λ l. least_of by_place (least_of by_place found (each (take i xs) x)) (all l (drop (i + 1) xs)))
    (take_more xs i x within ∙ ap (λ y. take i xs ++ y ∷ []) (sym read))
    ∙ (sym (least_of_both by_place found (each (take i xs) x) (all (take i xs ++ x ∷ []) (drop (i + 1) xs)))
    ∙ (ap (λ l. least_of by_place found l) (sym (steps (take i xs) x (drop (i + 1) xs)))
    ∙ (ap (λ l. least_of by_place found (all (take i xs) l)) (sym (next_drop xs i x within read)) ∙ so_far))))

values_next : (values : List Value) (ops : List Op) (op : Op) → values_behind values (ops ++ op ∷ []) ≡ values_after (values_behind values ops) op
values_next values [] op = refl
values_next values (x ∷ xs) op = values_next (values_after values x) xs op

pub values_more : (values : List Value) (ops : List Op) (i : ℕ) (op : Op) → i < length ops → op ≡ get_or ops i op
    → values_behind values (take (i + 1) ops) ≡ values_after (values_behind values (take i ops)) op
values_more values ops i op within read =
    ap (values_behind values) (take_more ops i op within ∙ ap (λ y. take i ops ++ y ∷ []) (sym read))
    ∙ values_next values (take i ops) op

-- the same of operations, each where it stands
pub ops_found : (m : Module) (f : Func) (ops : List Op) (i : ℕ) (op : Op) (found next whole : Option Refusal)
    → i < length ops → op ≡ get_or ops i op
    → least_of by_place found (ops_faults the_rules (scope_at m f (take i ops)) (drop i ops)) ≡ whole
    → next ≡ least_of by_place found (op_faults the_rules (scope_at m f (take i ops)) op)
    → least_of by_place next (ops_faults the_rules (scope_at m f (take (i + 1) ops)) (drop (i + 1) ops)) ≡ whole
ops_found m f ops i op found next whole within read so_far is =
    found_after (λ before op. op_faults the_rules (scope_at m f before) op) (λ before ops. ops_faults the_rules (scope_at m f before) ops)
    (λ before op ops. ap (λ values. op_faults the_rules (scope_at m f before) op ++ ops_faults the_rules (scope_with m f values) ops)
    (sym (values_next (with_args [] f.args) before op)))
    ops i op found next whole within read so_far is
