-- From the faults that are found to those of the module: they are the same, so the least is the least.
use mathlib.Core.Path.{◌∙◌, ap, sym, refl}
use Rattle.std.proofs.Common.{◌≡◌, ◌⊎◌, inl, inr, List, [], ◌∷◌, ◌++◌, subst}
use Rattle.std.specs.Prelude.{Option, Some, None, Contains}
use Rattle.std.specs.Cmp.{IsTotalOrder}
use Rattle.sh_base.specs.declared.places.Place.{Place}
use Rattle.sh_base.specs.declared.places.Refusal.{Refusal}
use Rattle.sh_base.specs.declared.rules.Rule.{Rule}
use Rattle.sh_ir.specs.declared.functions.Cut.{Cut}
use Rattle.sh_ir.specs.declared.functions.Func.{Func}
use Rattle.sh_ir.specs.declared.modules.Module.{Module}
use Rattle.sh_ir.specs.declared.operations.Op.{Op}
use Rattle.sh_ir.specs.Formed.{cuts_in}
use Rattle.sh_ir.specs.Rules.{refusal_at}
use Rattle.sh_admission.specs.Least.{StandsIn, by_place, least_of}
use Rattle.sh_admission.proofs.OrderLaws.{least_found, none_found}
use Rattle.sh_admission.specs.Faults.{BreaksFirst, IsFault, IsLeastFault, NoteBreaks}
use Rattle.sh_admission.specs.Faults.IsFault.{of_note, of_cut}
use Rattle.sh_admission.specs.Found.{AreFuncFaults, AreModuleFaults, OfCut, OfNote, fault_of}
use Rattle.sh_admission.proofs.FaultLists.{IsOf, item_of, own_of, stands_left, stands_right, stands_split}
use Rattle.sh_admission.proofs.OneBroken.{one_broken, one_broken_by_note}

-- the refusal that a broken rule is found as is at the place, of the rule
record IsRuleAt (place : Place) (broken : Option Rule) (r : Refusal) : Type 0 where
  is : broken ≡ Some r.rule
  at : r.place ≡ place

rule_at : (place : Place) (broken : Option Rule) (r : Refusal) → StandsIn (fault_of place broken) r → IsRuleAt place broken r
rule_at place None r there = absurd there
rule_at place (Some rule) r (inl same) = record { is = ap (λ x. Some x.rule) same; at = sym (ap (λ x. x.place) same) }
rule_at place (Some rule) r (inr none) = absurd none

found_at : (place : Place) (broken : Option Rule) (r : Refusal) → broken ≡ Some r.rule → r.place ≡ place
    → StandsIn (fault_of place broken) r
found_at place broken r is at =
    subst (λ b. StandsIn (fault_of place b) r) (sym is) (inl (ap (λ p. refusal_at p r.rule) (sym at)))

module _ (m : Module) where
  note_fault : (f : Func) (r : Refusal) → Contains m.funcs f → IsOf (OfNote m.grids f.ops) f.ops r → IsFault m r
  note_fault f r func x = by x.of x.stands
    where
      by : OfNote m.grids f.ops x.item x.own → StandsIn x.own r → IsFault m r
      by (broken, breaks, is) there =
          let rule = rule_at x.item.place broken r (subst (λ fs. StandsIn fs r) is there) in
          of_note f x.item func x.there (subst (NoteBreaks m.grids f.ops x.item) rule.is breaks) rule.at

  cut_fault : (f : Func) (r : Refusal) → Contains m.funcs f → IsOf (OfCut m.grids f.place) (cuts_in f) r → IsFault m r
  cut_fault f r func x = by x.of x.stands
    where
      by : OfCut m.grids f.place x.item x.own → StandsIn x.own r → IsFault m r
      by (broken, breaks, is) there =
          let rule = rule_at f.place broken r (subst (λ fs. StandsIn fs r) is there) in
          of_cut f x.item func x.there (subst (BreaksFirst m.grids x.item.sharding x.item.whole) rule.is breaks) rule.at

  is_fault : (faults : List Refusal) (r : Refusal) → AreModuleFaults m.grids m.funcs faults → StandsIn faults r → IsFault m r
  is_fault faults r all there = within (item_of (AreFuncFaults m.grids) m.funcs faults r all there)
    where
      within : IsOf (AreFuncFaults m.grids) m.funcs r → IsFault m r
      within x = by x.of x.stands
        where
          by : AreFuncFaults m.grids x.item x.own → StandsIn x.own r → IsFault m r
          by (noted, cut, notes, cuts, is) stands = either (stands_split noted cut r (subst (λ fs. StandsIn fs r) is stands))
            where
              either : StandsIn noted r ⊎ StandsIn cut r → IsFault m r
              either (inl a) = note_fault x.item r x.there (item_of (OfNote m.grids x.item.ops) x.item.ops noted r notes a)
              either (inr b) = cut_fault x.item r x.there (item_of (OfCut m.grids x.item.place) (cuts_in x.item) cut r cuts b)

  found_of : (faults : List Refusal) (r : Refusal) → AreModuleFaults m.grids m.funcs faults → IsFault m r → StandsIn faults r
  found_of faults r all (of_note f op (j, j_in, j_at) (k, k_in, k_at) breaks at) =
      let mine = own_of (AreFuncFaults m.grids) m.funcs faults f j all j_in j_at in
      mine.among r (by mine.own mine.of)
    where
      by : (own : List Refusal) → AreFuncFaults m.grids f own → StandsIn own r
      by own (noted, cut, notes, cuts, is) =
          let x = own_of (OfNote m.grids f.ops) f.ops noted op k notes k_in k_at in
          let own_note : StandsIn x.own r =
          subst (λ fs. StandsIn fs r) (sym x.of.2)
          (found_at op.place x.of.0 r (one_broken_by_note m.grids f.ops op x.of.0 (Some r.rule) x.of.1 breaks) at) in
          subst (λ fs. StandsIn fs r) (sym is) (stands_left noted cut r (x.among r own_note))
  found_of faults r all (of_cut f c (j, j_in, j_at) (k, k_in, k_at) breaks at) =
      let mine = own_of (AreFuncFaults m.grids) m.funcs faults f j all j_in j_at in
      mine.among r (by mine.own mine.of)
    where
      by : (own : List Refusal) → AreFuncFaults m.grids f own → StandsIn own r
      by own (noted, cut, notes, cuts, is) =
          let x = own_of (OfCut m.grids f.place) (cuts_in f) cut c k cuts k_in k_at in
          let own_cut : StandsIn x.own r =
          subst (λ fs. StandsIn fs r) (sym x.of.2)
          (found_at f.place x.of.0 r (one_broken m.grids c.sharding c.whole x.of.0 (Some r.rule) x.of.1 breaks) at) in
          subst (λ fs. StandsIn fs r) (sym is) (stands_right noted cut r (x.among r own_cut))

  -- The least of those that are found is the least fault.
  pub least_fault : (faults : List Refusal) (r : Refusal) → IsTotalOrder by_place → AreModuleFaults m.grids m.funcs faults
      → least_of by_place None faults ≡ Some r → IsLeastFault m r
  least_fault faults r total all found =
      let least = least_found by_place total faults r found in
      record {
        there = is_fault faults r all least.there;
        first = λ other fault. least.first other (found_of faults other all fault);
      }

  -- Where none is found there is none.
  pub no_fault : (faults : List Refusal) → AreModuleFaults m.grids m.funcs faults → least_of by_place None faults ≡ None
      → (r : Refusal) → ¬ (IsFault m r)
  no_fault faults all found = λ r fault.
      subst (λ fs. StandsIn fs r) (none_found by_place faults found) (found_of faults r all fault)
