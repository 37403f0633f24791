-- The operations of a region, one after the other.
use mathlib.Core.Path.{◌∙◌, ap, sym, refl}
use Rattle.std.proofs.Common.{◌≡◌, ℕ, zero, suc, ◌+◌, ◌-◌, ◌<◌, ◌≤◌, List, [], ◌∷◌, ◌++◌, Bool, true, false, ◌&&◌, length, drop, take, nat_eq, arith}
use Rattle.std.specs.Prelude.{Some, None, Option, get_or, slice_get}
use Rattle.std.specs.Cmp.Lexicographic.{pointwise}
use Rattle.std.proofs.lemmas.List.{append-nil, drop_all, take_all, take_more}
use Rattle.std.proofs.lemmas.Option.{none-some, same_Some}
use Rattle.sh_base.specs.Cells.{bits_of}
use Rattle.sh_base.specs.declared.numbers.Width.{Width}
use Rattle.sh_base.specs.declared.numbers.Width.TheVariants.{I1}
use Rattle.sh_base.specs.declared.places.Refusal.{Refusal}
use Rattle.sh_base.specs.declared.rules.Rule.TheVariants.{V1, V2, V5}
use Rattle.sh_ir.specs.declared.bodies.Body.{Body}
use Rattle.sh_ir.specs.declared.bodies.BodyOp.{BodyOp}
use Rattle.sh_ir.specs.declared.types.ValueType.{ValueType}
use Rattle.sh_ir.specs.Agreement.{cell_bits}
use Rattle.sh_ir.specs.Faults.{the_rules}
use Rattle.sh_ir.specs.RegionRules.{are_typed, is_there, is_typed, keeps_at_yield, keeps_in_region, last_bits, own_after, stand_for, stands_for}
use Rattle.sh_ir.specs.Rules.{body_faults, faults_at}
use Rattle.sh_ir.specs.Scope.{Value}
use Rattle.sh_verify.specs.Least.{by_place, fault_unless, least_of}
use Rattle.sh_verify.specs.OwnValues.{own_behind}
use Rattle.sh_verify.specs.RegionFaults.{body_op_rules}
use Rattle.sh_verify.proofs.LeastLaws.{default_drop, least_of_both, next_drop}
use Rattle.sh_verify.proofs.LoopLaws.{got_drop, not_got}
use Rattle.sh_verify.proofs.LimitLaws.{each_fault}

-- ---- operands

none_stands : (outer own : List Value) (ts : List ValueType) → stand_for outer own ts [] ≡ true
none_stands outer own [] = refl
none_stands outer own (t ∷ ts) = refl

pub stand_next : (outer own : List Value) (t : ValueType) (ts : List ValueType) (names : List ℕ)
    → (stand_for outer own (t ∷ []) names && stand_for outer own ts (drop 1 names)) ≡ stand_for outer own (t ∷ ts) names
stand_next outer own t ts [] = none_stands outer own ts
stand_next outer own t ts (name ∷ names) = alone (stands_for outer own t name) (stand_for outer own ts names)
  where
    alone : (a b : Bool) → ((a && true) && b) ≡ (a && b)
    alone true b = refl
    alone false b = refl

-- ---- the values behind operations

own_next : (own : List Value) (ops : List BodyOp) (op : BodyOp) → own_behind own (ops ++ op ∷ []) ≡ own_after (own_behind own ops) op
own_next own [] op = refl
own_next own (x ∷ xs) op = own_next (own_after own x) xs op

pub own_more : (own : List Value) (ops : List BodyOp) (i : ℕ) (op : BodyOp) → i < length ops → op ≡ get_or ops i op
    → own_behind own (take (i + 1) ops) ≡ own_after (own_behind own (take i ops)) op
own_more own ops i op within read =
    ap (own_behind own) (take_more ops i op within ∙ ap (λ y. take i ops ++ y ∷ []) (sym read)) ∙ own_next own (take i ops) op

pub own_all : (own : List Value) (ops : List BodyOp) (i : ℕ) → length ops ≤ i → own_behind own (take i ops) ≡ own_behind own ops
own_all own ops i past = ap (own_behind own) (take_all i ops past)

-- ---- types

-- an operation that follows its types leaves the others to decide
pub typed_next : (outer start : List Value) (ops : List BodyOp) (yields : ℕ) (w : Width) (i : ℕ) (op : BodyOp) (typed whole : Bool)
    → i < length ops → op ≡ get_or ops i op → typed ≡ is_typed outer (own_behind start (take i ops)) op
    → are_typed outer (own_behind start (take i ops)) (drop i ops) yields w ≡ whole
    → (typed && are_typed outer (own_behind start (take (i + 1) ops)) (drop (i + 1) ops) yields w) ≡ whole
typed_next outer start ops yields w i op typed whole within read is so_far =
    let own = own_behind start (take i ops) in
    ap (λ b. b && are_typed outer (own_behind start (take (i + 1) ops)) (drop (i + 1) ops) yields w) is
    ∙ (ap (λ o. is_typed outer own op && are_typed outer o (drop (i + 1) ops) yields w) (own_more start ops i op within read)
    ∙ (sym (ap (λ l. are_typed outer own l yields w) (next_drop ops i op within read)) ∙ so_far))

pub typed_end : (outer start : List Value) (ops : List BodyOp) (yields : ℕ) (w : Width) (i : ℕ) (whole : Bool) → length ops ≤ i
    → are_typed outer (own_behind start (take i ops)) (drop i ops) yields w ≡ whole
    → are_typed outer (own_behind start ops) [] yields w ≡ whole
typed_end outer start ops yields w i whole past so_far =
    sym (ap (λ l. are_typed outer (own_behind start (take i ops)) l yields w) (drop_all i ops past)
    ∙ ap (λ o. are_typed outer o [] yields w) (own_all start ops i past)) ∙ so_far

-- ---- faults

-- those of an operation, rule by rule
pub op_in_region : (loops : ℕ) (outer own : List Value) (op : BodyOp)
    → faults_at op.place the_rules (λ rule. keeps_in_region rule loops outer own op) ≡ body_op_rules loops outer own op
unfolding keeps_in_region body_op_rules
op_in_region loops outer own op =
    each_fault op.place the_rules (λ rule. keeps_in_region rule loops outer own op)
    ∙ three (fault_unless (keeps_in_region V1 loops outer own op) op.place V1) (fault_unless (keeps_in_region V2 loops outer own op) op.place V2)
    (fault_unless (keeps_in_region V5 loops outer own op) op.place V5)
  where
    three : (a b d : List Refusal) → a ++ (b ++ (d ++ [])) ≡ a ++ (b ++ d)
    three a b d = ap (λ rs. a ++ (b ++ rs)) (append-nil d)

pub yield_in_region : (outer own : List Value) (body : Body)
    → faults_at body.place the_rules (λ rule. keeps_at_yield rule outer own body.yields) ≡ fault_unless (is_there outer own body.yields) body.place V1
unfolding keeps_at_yield
yield_in_region outer own body =
    each_fault body.place the_rules (λ rule. keeps_at_yield rule outer own body.yields) ∙ append-nil _

pub faults_next : (loops : ℕ) (outer start : List Value) (body : Body) (ops : List BodyOp) (i : ℕ) (op : BodyOp) (found next whole : Option Refusal)
    → i < length ops → op ≡ get_or ops i op → next ≡ least_of by_place found (body_op_rules loops outer (own_behind start (take i ops)) op)
    → least_of by_place found (body_faults the_rules loops outer (own_behind start (take i ops)) (drop i ops) body) ≡ whole
    → least_of by_place next (body_faults the_rules loops outer (own_behind start (take (i + 1) ops)) (drop (i + 1) ops) body) ≡ whole
faults_next loops outer start body ops i op found next whole within read is so_far =
    let own = own_behind start (take i ops) in
    let here = faults_at op.place the_rules (λ rule. keeps_in_region rule loops outer own op) in
    let more = body_faults the_rules loops outer (own_after own op) (drop (i + 1) ops) body in
    ap (λ o. least_of by_place next (body_faults the_rules loops outer o (drop (i + 1) ops) body)) (own_more start ops i op within read)
    ∙ (ap (λ n. least_of by_place n more) (is ∙ ap (λ rs. least_of by_place found rs) (sym (op_in_region loops outer own op)))
    ∙ (sym (least_of_both by_place found here more)
    ∙ (ap (λ l. least_of by_place found (body_faults the_rules loops outer own l body)) (sym (next_drop ops i op within read)) ∙ so_far)))

pub faults_end : (loops : ℕ) (outer start : List Value) (body : Body) (ops : List BodyOp) (i : ℕ) (found next whole : Option Refusal) → length ops ≤ i
    → next ≡ least_of by_place found (fault_unless (is_there outer (own_behind start ops) body.yields) body.place V1)
    → least_of by_place found (body_faults the_rules loops outer (own_behind start (take i ops)) (drop i ops) body) ≡ whole → next ≡ whole
faults_end loops outer start body ops i found next whole past is so_far =
    is ∙ (ap (λ rs. least_of by_place found rs) (sym (yield_in_region outer (own_behind start ops) body))
    ∙ (sym (ap (λ l. least_of by_place found (body_faults the_rules loops outer (own_behind start (take i ops)) l body)) (drop_all i ops past)
    ∙ ap (λ o. least_of by_place found (body_faults the_rules loops outer o [] body)) (own_all start ops i past)) ∙ so_far))

-- ---- the output

pub last_typed : (types : List ValueType) (t : ValueType) → slice_get types (length types - 1) ≡ Some t → last_bits types ≡ cell_bits t
last_typed [] t is = absurd (none-some t is)
last_typed (u ∷ []) t is = ap cell_bits (same_Some u t is)
last_typed (u ∷ v ∷ rest) t is =
    let next : suc (suc (length rest)) - 1 ≡ suc (length rest) = omega arith in
    let last : length (v ∷ rest) - 1 ≡ length rest = omega arith in
    last_typed (v ∷ rest) t (ap (λ n. slice_get (v ∷ rest) n) last ∙ (sym (ap (λ n. slice_get (u ∷ v ∷ rest) n) next) ∙ is))

pub no_last : (types : List ValueType) → slice_get types (length types - 1) ≡ None → last_bits types ≡ 0
no_last [] is = refl
no_last (u ∷ []) is = absurd (none-some u (sym is))
no_last (u ∷ v ∷ rest) is =
    let next : suc (suc (length rest)) - 1 ≡ suc (length rest) = omega arith in
    let last : length (v ∷ rest) - 1 ≡ length rest = omega arith in
    no_last (v ∷ rest) (ap (λ n. slice_get (v ∷ rest) n) last ∙ (sym (ap (λ n. slice_get (u ∷ v ∷ rest) n) next) ∙ is))

-- ---- widths

abbrev same_width : Width → ValueType → Bool
same_width w t = nat_eq (bits_of w) (cell_bits t)

-- a block argument of an operand's width leaves the others to decide
pub width_next : (ws : List Width) (ts : List ValueType) (i : ℕ) (t : ValueType) (same whole : Bool) → i < length ws → slice_get ts i ≡ Some t
    → same ≡ nat_eq (bits_of (get_or ws i I1)) (cell_bits t)
    → pointwise (λ w u. nat_eq (bits_of w) (cell_bits u)) (drop i ws) (drop i ts) ≡ whole
    → (same && pointwise (λ w u. nat_eq (bits_of w) (cell_bits u)) (drop (i + 1) ws) (drop (i + 1) ts)) ≡ whole
width_next ws ts i t same whole within got is so_far =
    ap (λ b. b && pointwise same_width (drop (i + 1) ws) (drop (i + 1) ts)) is
    ∙ (sym (ap (λ vs. pointwise same_width vs (drop i ts)) (default_drop ws i I1 within)
    ∙ ap (λ us. pointwise same_width (get_or ws i I1 ∷ drop (i + 1) ws) us) (got_drop ts i t got)) ∙ so_far)

pub width_ends : (ws : List Width) (ts : List ValueType) (i : ℕ) (whole : Bool) → i < length ws → slice_get ts i ≡ None
    → pointwise (λ w u. nat_eq (bits_of w) (cell_bits u)) (drop i ws) (drop i ts) ≡ whole → false ≡ whole
width_ends ws ts i whole within got so_far =
    sym (ap (λ vs. pointwise same_width vs (drop i ts)) (default_drop ws i I1 within)
    ∙ ap (λ us. pointwise same_width (get_or ws i I1 ∷ drop (i + 1) ws) us) (not_got ts i got)) ∙ so_far
