-- A sharding breaks one rule first, at most: which rule that is.
use mathlib.Core.Path.{◌∙◌, ap, sym, refl}
use Rattle.std.proofs.Common.{◌≡◌, ℕ, List}
use Rattle.std.specs.Prelude.{Option, Some, None, MatchOption}
use Rattle.sh_base.specs.declared.rules.Rule.{Rule}
use Rattle.sh_base.specs.declared.rules.Rule.TheVariants.{B1, B2, B3, P1, P2, P3, L1, L2, L3, L4, L5, L6, L7, L8, L9, L10, V1, V2, V3, V4, V5, V6, V7, V8, V9, V10, V11, A1, A2, A3, A5, A6, A7, A8, A9, A10, C1, C2, C3, N1, N2, N3, N4, U1, U2, E1, E2, K1, K2, K3, K4}
use Rattle.sh_grid.specs.Grid.{GridValue, IsGrid}
use Rattle.sh_ir.specs.declared.modules.GridItem.{GridItem}
use Rattle.sh_ir.specs.declared.operations.Op.{Op}
use Rattle.sh_ir.specs.declared.types.RawSharding.{RawSharding}
use Rattle.sh_ir.specs.declared.types.ValueType.{ValueType}
use Rattle.sh_ir.specs.Scope.{grid_item}
use Rattle.sh_ir.specs.Shapes.{shape_of}
use Rattle.sh_sharding.specs.Admission.{IsLeastBroken}
use Rattle.sh_sharding.specs.Carried.{grid_of}
use Rattle.sh_admission.specs.Faults.{BreaksFirst, IsFirstBroken, NoteBreaks, other_grid}
use Rattle.sh_admission.specs.Notes.{noted_by}
use Rattle.std.specs.Option.{option_or}

-- the rules that a sharding alone can break
data OfSharding : Rule → Type 0 where
  is_A1 : OfSharding A1
  is_A2 : OfSharding A2
  is_A3 : OfSharding A3
  is_A5 : OfSharding A5
  is_A6 : OfSharding A6
  is_A7 : OfSharding A7
  is_A8 : OfSharding A8

module _ (g : GridValue) (raw : RawSharding) (s : List ℕ) where
  which : (rule : Rule) → IsLeastBroken rule g raw s → OfSharding rule
  which B1 b = absurd (b.broken tt)
  which B2 b = absurd (b.broken tt)
  which B3 b = absurd (b.broken tt)
  which P1 b = absurd (b.broken tt)
  which P2 b = absurd (b.broken tt)
  which P3 b = absurd (b.broken tt)
  which L1 b = absurd (b.broken tt)
  which L2 b = absurd (b.broken tt)
  which L3 b = absurd (b.broken tt)
  which L4 b = absurd (b.broken tt)
  which L5 b = absurd (b.broken tt)
  which L6 b = absurd (b.broken tt)
  which L7 b = absurd (b.broken tt)
  which L8 b = absurd (b.broken tt)
  which L9 b = absurd (b.broken tt)
  which L10 b = absurd (b.broken tt)
  which V1 b = absurd (b.broken tt)
  which V2 b = absurd (b.broken tt)
  which V3 b = absurd (b.broken tt)
  which V4 b = absurd (b.broken tt)
  which V5 b = absurd (b.broken tt)
  which V6 b = absurd (b.broken tt)
  which V7 b = absurd (b.broken tt)
  which V8 b = absurd (b.broken tt)
  which V9 b = absurd (b.broken tt)
  which V10 b = absurd (b.broken tt)
  which V11 b = absurd (b.broken tt)
  which A1 b = is_A1
  which A2 b = is_A2
  which A3 b = is_A3
  which A5 b = is_A5
  which A6 b = is_A6
  which A7 b = is_A7
  which A8 b = is_A8
  which A9 b = absurd (b.broken tt)
  which A10 b = absurd (b.broken tt)
  which C1 b = absurd (b.broken tt)
  which C2 b = absurd (b.broken tt)
  which C3 b = absurd (b.broken tt)
  which N1 b = absurd (b.broken tt)
  which N2 b = absurd (b.broken tt)
  which N3 b = absurd (b.broken tt)
  which N4 b = absurd (b.broken tt)
  which U1 b = absurd (b.broken tt)
  which U2 b = absurd (b.broken tt)
  which E1 b = absurd (b.broken tt)
  which E2 b = absurd (b.broken tt)
  which K1 b = absurd (b.broken tt)
  which K2 b = absurd (b.broken tt)
  which K3 b = absurd (b.broken tt)
  which K4 b = absurd (b.broken tt)

  same_of : (a b : Rule) → OfSharding a → OfSharding b → IsLeastBroken a g raw s → IsLeastBroken b g raw s → a ≡ b
  same_of _ _ is_A1 is_A1 p q = refl
  same_of _ _ is_A1 is_A2 p q = absurd (p.broken q.earlier.0)
  same_of _ _ is_A1 is_A3 p q = absurd (p.broken q.earlier.0)
  same_of _ _ is_A1 is_A5 p q = absurd (p.broken q.earlier.0)
  same_of _ _ is_A1 is_A6 p q = absurd (p.broken q.earlier.0)
  same_of _ _ is_A1 is_A7 p q = absurd (p.broken q.earlier.0)
  same_of _ _ is_A1 is_A8 p q = absurd (p.broken q.earlier.0)
  same_of _ _ is_A2 is_A1 p q = absurd (q.broken p.earlier.0)
  same_of _ _ is_A2 is_A2 p q = refl
  same_of _ _ is_A2 is_A3 p q = absurd (p.broken q.earlier.1.0)
  same_of _ _ is_A2 is_A5 p q = absurd (p.broken q.earlier.1.0)
  same_of _ _ is_A2 is_A6 p q = absurd (p.broken q.earlier.1.0)
  same_of _ _ is_A2 is_A7 p q = absurd (p.broken q.earlier.1.0)
  same_of _ _ is_A2 is_A8 p q = absurd (p.broken q.earlier.1.0)
  same_of _ _ is_A3 is_A1 p q = absurd (q.broken p.earlier.0)
  same_of _ _ is_A3 is_A2 p q = absurd (q.broken p.earlier.1.0)
  same_of _ _ is_A3 is_A3 p q = refl
  same_of _ _ is_A3 is_A5 p q = absurd (p.broken q.earlier.1.1.0)
  same_of _ _ is_A3 is_A6 p q = absurd (p.broken q.earlier.1.1.0)
  same_of _ _ is_A3 is_A7 p q = absurd (p.broken q.earlier.1.1.0)
  same_of _ _ is_A3 is_A8 p q = absurd (p.broken q.earlier.1.1.0)
  same_of _ _ is_A5 is_A1 p q = absurd (q.broken p.earlier.0)
  same_of _ _ is_A5 is_A2 p q = absurd (q.broken p.earlier.1.0)
  same_of _ _ is_A5 is_A3 p q = absurd (q.broken p.earlier.1.1.0)
  same_of _ _ is_A5 is_A5 p q = refl
  same_of _ _ is_A5 is_A6 p q = absurd (p.broken q.earlier.1.1.1.0)
  same_of _ _ is_A5 is_A7 p q = absurd (p.broken q.earlier.1.1.1.0)
  same_of _ _ is_A5 is_A8 p q = absurd (p.broken q.earlier.1.1.1.0)
  same_of _ _ is_A6 is_A1 p q = absurd (q.broken p.earlier.0)
  same_of _ _ is_A6 is_A2 p q = absurd (q.broken p.earlier.1.0)
  same_of _ _ is_A6 is_A3 p q = absurd (q.broken p.earlier.1.1.0)
  same_of _ _ is_A6 is_A5 p q = absurd (q.broken p.earlier.1.1.1.0)
  same_of _ _ is_A6 is_A6 p q = refl
  same_of _ _ is_A6 is_A7 p q = absurd (p.broken q.earlier.1.1.1.1.0)
  same_of _ _ is_A6 is_A8 p q = absurd (p.broken q.earlier.1.1.1.1.0)
  same_of _ _ is_A7 is_A1 p q = absurd (q.broken p.earlier.0)
  same_of _ _ is_A7 is_A2 p q = absurd (q.broken p.earlier.1.0)
  same_of _ _ is_A7 is_A3 p q = absurd (q.broken p.earlier.1.1.0)
  same_of _ _ is_A7 is_A5 p q = absurd (q.broken p.earlier.1.1.1.0)
  same_of _ _ is_A7 is_A6 p q = absurd (q.broken p.earlier.1.1.1.1.0)
  same_of _ _ is_A7 is_A7 p q = refl
  same_of _ _ is_A7 is_A8 p q = absurd (p.broken q.earlier.1.1.1.1.1.0)
  same_of _ _ is_A8 is_A1 p q = absurd (q.broken p.earlier.0)
  same_of _ _ is_A8 is_A2 p q = absurd (q.broken p.earlier.1.0)
  same_of _ _ is_A8 is_A3 p q = absurd (q.broken p.earlier.1.1.0)
  same_of _ _ is_A8 is_A5 p q = absurd (q.broken p.earlier.1.1.1.0)
  same_of _ _ is_A8 is_A6 p q = absurd (q.broken p.earlier.1.1.1.1.0)
  same_of _ _ is_A8 is_A7 p q = absurd (q.broken p.earlier.1.1.1.1.1.0)
  same_of _ _ is_A8 is_A8 p q = refl

  one_rule : (a b : Rule) → IsLeastBroken a g raw s → IsLeastBroken b g raw s → a ≡ b
  one_rule a b p q = same_of a b (which a p) (which b q) p q

  one_first : (a b : Option Rule) → IsFirstBroken g raw s a → IsFirstBroken g raw s b → a ≡ b
  one_first None None p q = refl
  one_first None (Some b) p q = absurd (q.1.broken ((p q.0).keeps b))
  one_first (Some a) None p q = absurd (p.1.broken ((q p.0).keeps a))
  one_first (Some a) (Some b) p q = ap Some (one_rule a b p.1 q.1)

pub one_broken : (grids : List GridItem) (raw : RawSharding) (noted : ValueType) (a b : Option Rule)
    → BreaksFirst grids raw noted a → BreaksFirst grids raw noted b → a ≡ b
one_broken grids raw noted a b p q = by (grid_item grids raw.grid) p q
  where
    by : (o : Option GridItem) → MatchOption o (a ≡ None) (λ item. IsFirstBroken (grid_of item) raw (shape_of noted) a)
        → MatchOption o (b ≡ None) (λ item. IsFirstBroken (grid_of item) raw (shape_of noted) b) → a ≡ b
    by None p q = p ∙ sym q
    by (Some item) p q = one_first (grid_of item) raw (shape_of noted) a b p q

pub one_broken_by_note : (grids : List GridItem) (ops : List Op) (op : Op) (a b : Option Rule)
    → NoteBreaks grids ops op a → NoteBreaks grids ops op b → a ≡ b
one_broken_by_note grids ops op a b p q = by (noted_by ops op) p q
  where
    Breaks : RawSharding → Option Rule → Type 0
    Breaks raw broken = (own : Option Rule) × BreaksFirst grids raw op.result own × (broken ≡ option_or own (other_grid ops raw))

    by : (o : Option RawSharding) → MatchOption o (a ≡ None) (λ raw. Breaks raw a)
        → MatchOption o (b ≡ None) (λ raw. Breaks raw b) → a ≡ b
    by None p q = p ∙ sym q
    by (Some raw) (own, breaks, is) (own_b, breaks_b, is_b) =
        is ∙ (ap (λ o. option_or o (other_grid ops raw)) (one_broken grids raw op.result own own_b breaks breaks_b) ∙ sym is_b)
