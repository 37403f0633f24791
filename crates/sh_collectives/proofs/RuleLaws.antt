-- What the rules say of an operation of a verified function.
use Rattle.std.proofs.Common.{◌≡◌, Bool, true, false, List, [], ◌∷◌, ◌++◌, refl}
use Rattle.std.specs.List.{list_all}
use Rattle.std.specs.Option.{option_map_or}
use Rattle.std.specs.Prelude.{◌||◌, if◌then◌else◌, not}
use Rattle.sh_base.specs.declared.places.Refusal.{Refusal}
use Rattle.sh_base.specs.declared.rules.Rule.TheVariants.{L2, L4, V1, V3, V4, V5, V6, V8, V9, V10}
use Rattle.sh_ir.specs.declared.operations.Op.{Op}
use Rattle.sh_ir.specs.Attributes.{numbers_fit}
use Rattle.sh_ir.specs.Formed.{is_scalar}
use Rattle.sh_ir.specs.Limits.{has_few_cells, has_few_dims, has_few_loops}
use Rattle.sh_ir.specs.Loops.{generic_of}
use Rattle.sh_ir.specs.Maps.{maps_fit}
use Rattle.sh_ir.specs.Operands.{operands_fit}
use Rattle.sh_ir.specs.Results.{result_fits}
use Rattle.sh_ir.specs.Rules.{has_region_in_order, is_in_form, keeps, names_known, op_types_of, takes_operands, uses_defined}
use Rattle.sh_ir.specs.Scope.{Scope, is_defined}
use Rattle.sh_ir.specs.Typing.{are_of_types, counts_fit, tensor_types, typing_of, written_operands}
use Rattle.sh_ir.proofs.KeptLaws.{kept_here}
use Rattle.sh_sharding.proofs.Cases.{and_left, and_right}
use Rattle.sh_collectives.specs.VerifiedOps.{IsOfVerifiedOp}

-- ---- tests

pub never : false ≡ true → ⊥
never h = cc

pub no_fault : (b : Bool) (r : Refusal) → (if b then [] else r ∷ []) ≡ [] → b ≡ true
no_fault true r e = refl
no_fault false r e = absurd (cc)

pub neither_left : (a b : Bool) → (a || b) ≡ false → a ≡ false
neither_left true b h = absurd (cc)
neither_left false b h = refl

pub neither_right : (a b : Bool) → (a || b) ≡ false → b ≡ false
neither_right true b h = absurd (cc)
neither_right false b h = h

pub is_not : (b : Bool) → not b ≡ true → b ≡ false
is_not true h = absurd (cc)
is_not false h = refl

pub all_front : {X : Type 0} (p : X → Bool) (xs ys : List X) → list_all p (xs ++ ys) ≡ true → list_all p xs ≡ true
all_front p [] ys h = refl
all_front p (x ∷ xs) ys h =
    let here = and_left (p x) (list_all p (xs ++ ys)) h in
    let rest = all_front p xs ys (and_right (p x) (list_all p (xs ++ ys)) h) in
    rw (here, rest) refl

pub all_back : {X : Type 0} (p : X → Bool) (xs ys : List X) → list_all p (xs ++ ys) ≡ true → list_all p ys ≡ true
all_back p [] ys h = h
all_back p (x ∷ xs) ys h = all_back p xs ys (and_right (p x) (list_all p (xs ++ ys)) h)

-- ---- the rules, one by one

pub record Sound (scope : Scope) (op : Op) : Type 0 where
  pub there : list_all (is_defined scope.values) (written_operands op) ≡ true
  pub counts : counts_fit op.kind op.operands ≡ true
  pub types : are_of_types scope.values (typing_of op.kind op.result) (written_operands op) ≡ true
  pub tensors : list_all (λ t. not (is_scalar t)) (tensor_types op.kind op.result) ≡ true
  pub operands : operands_fit scope op.kind op.result ≡ true
  pub results : result_fits scope op.kind op.result ≡ true
  pub numbers : numbers_fit scope op.kind op.result ≡ true
  pub maps : option_map_or maps_fit (generic_of op.kind) true ≡ true
  pub region : has_region_in_order scope op.kind ≡ true
  pub named : names_known scope op.kind ≡ true
  pub form : is_in_form scope op ≡ true
  pub dims : list_all has_few_dims (op_types_of op) ≡ true
  pub loops : has_few_loops op.kind ≡ true
  pub cells : list_all has_few_cells (op_types_of op) ≡ true

-- each rule, taken from what the operation keeps
pub sound : (scope : Scope) (op : Op) → IsOfVerifiedOp scope op → Sound scope op
unfolding keeps takes_operands uses_defined
sound scope op v =
    let v3 = kept_here V3 scope op (v.keeps V3) in
    let typed = and_right _ _ v3 in
    let last = and_right _ _ typed in
    let l2 = kept_here L2 scope op (v.keeps L2) in
    record {
      there = kept_here V1 scope op (v.keeps V1);
      counts = and_left _ _ v3;
      types = and_left _ _ typed;
      tensors = and_left _ _ last;
      operands = and_right _ _ last;
      results = kept_here V4 scope op (v.keeps V4);
      numbers = kept_here V5 scope op (v.keeps V5);
      maps = kept_here V8 scope op (v.keeps V8);
      region = kept_here V9 scope op (v.keeps V9);
      named = kept_here V6 scope op (v.keeps V6);
      form = kept_here V10 scope op (v.keeps V10);
      dims = and_left _ _ l2;
      loops = and_right _ _ l2;
      cells = kept_here L4 scope op (v.keeps L4);
    }
