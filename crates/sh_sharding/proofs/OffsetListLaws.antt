-- Rule A5: the steps by which written offsets are given to the dimensions.
use Rattle.std.proofs.Common.{◌≡◌, ◌≢◌, ℕ, ◌+◌, ◌<◌, ◌≤◌, inl, inr, List, [], ◌∷◌, ◌++◌, length, get_or, map, take, drop, min, Bool, true, false, refl, ap, ap₂, sym, ◌∙◌, arith, subst, ℤ}
use Rattle.std.specs.Prelude.{if◌then◌else◌}
use Rattle.std.proofs.lemmas.List.{at_drop_more, at_drop_all, append_assoc, append-nil}
use Rattle.sh_grid.specs.Grid.{group_size_of}
use Rattle.sh_sharding.specs.declared.shardings.Mark.{Mark}
use Rattle.sh_sharding.specs.declared.shardings.Dimension.{Dimension}
use Rattle.sh_sharding.specs.Sharding.{parts_of, is_split}
use Rattle.sh_sharding.specs.AxisLists.{natural}
use Rattle.sh_sharding.specs.OffsetLists.{offset_count, with_mark, marked, mark_of, AreOffsets, HasOffsets, AreAllOffsets}
use Rattle.std.proofs.lemmas.Bool.{cases_Bool}

pub record IsMarking (g : List ℕ) (ds : List Dimension) (offsets : List ℤ) (i : ℕ) (out : List Dimension) (rest : List ℤ) : Type 0 where
  pub done : out ++ marked g (drop i ds) rest ≡ marked g ds offsets
  pub forth : AreAllOffsets g (drop i ds) rest → AreAllOffsets g ds offsets
  pub back : AreAllOffsets g ds offsets → AreAllOffsets g (drop i ds) rest

pub marking_start : (g : List ℕ) (ds : List Dimension) (offsets : List ℤ) → IsMarking g ds offsets 0 [] offsets
marking_start g ds offsets = record { done = refl; forth = λ h. h; back = λ h. h }

-- one dimension more, which has its offsets
pub marking_more : (g : List ℕ) (ds : List Dimension) (offsets : List ℤ) (i : ℕ) (out : List Dimension) (rest mine others : List ℤ) (d e : Dimension) → IsMarking g ds offsets i out rest → i < length ds
    → d ≡ get_or ds i d → mine ≡ take (offset_count g d) rest → others ≡ drop (offset_count g d) rest → HasOffsets g d mine → e ≡ with_mark g d mine
    → IsMarking g ds offsets (i + 1) (out ++ e ∷ []) others
marking_more g ds offsets i out rest mine others d e h l read em eo has ee =
    let next : drop i ds ≡ d ∷ drop (i + 1) ds = at_drop_more (λ xs. xs) ds i d l ∙ ap (λ z. z ∷ drop (i + 1) ds) (sym read) in
    let head : e ≡ with_mark g d (take (offset_count g d) rest) = ee ∙ ap (with_mark g d) em in
    record {
      done =
          append_assoc out (e ∷ []) (marked g (drop (i + 1) ds) others)
          ∙ ap (λ z. out ++ z) (ap₂ (λ x ys. x ∷ marked g (drop (i + 1) ds) ys) head eo ∙ sym (ap (λ xs. marked g xs rest) next))
          ∙ h.done;
      forth = λ k. h.forth (subst (λ xs. AreAllOffsets g xs rest) (sym next) (subst (HasOffsets g d) em has, subst (AreAllOffsets g (drop (i + 1) ds)) eo k));
      back = λ k. subst (AreAllOffsets g (drop (i + 1) ds)) (sym eo) (subst (λ xs. AreAllOffsets g xs rest) next (h.back k)).1;
    }

-- a dimension that doesn't have its offsets
pub marking_broken : (g : List ℕ) (ds : List Dimension) (offsets : List ℤ) (i : ℕ) (out : List Dimension) (rest mine : List ℤ) (d : Dimension) → IsMarking g ds offsets i out rest → i < length ds
    → d ≡ get_or ds i d → mine ≡ take (offset_count g d) rest → ¬ HasOffsets g d mine → ¬ AreAllOffsets g ds offsets
marking_broken g ds offsets i out rest mine d h l read em broken = λ all.
    let next : drop i ds ≡ d ∷ drop (i + 1) ds = at_drop_more (λ xs. xs) ds i d l ∙ ap (λ z. z ∷ drop (i + 1) ds) (sym read) in
    broken (subst (HasOffsets g d) (sym em) (subst (λ xs. AreAllOffsets g xs rest) next (h.back all)).0)

pub record AreMarked (g : List ℕ) (ds : List Dimension) (offsets : List ℤ) (out : List Dimension) (rest : List ℤ) : Type 0 where
  pub value : out ≡ marked g ds offsets
  pub forth : rest ≡ [] → AreAllOffsets g ds offsets
  pub back : AreAllOffsets g ds offsets → rest ≡ []

pub marking_end : (g : List ℕ) (ds : List Dimension) (offsets : List ℤ) (i : ℕ) (out : List Dimension) (rest : List ℤ) → IsMarking g ds offsets i out rest → length ds ≤ i → AreMarked g ds offsets out rest
marking_end g ds offsets i out rest h le =
    let none : drop i ds ≡ [] = at_drop_all (λ xs. xs) ds i le in
    record {
      value = sym (append-nil out) ∙ ap (λ z. out ++ z) (sym (ap (λ xs. marked g xs rest) none)) ∙ h.done;
      forth = λ e. h.forth (subst (λ xs. AreAllOffsets g xs rest) (sym none) e);
      back = λ k. subst (λ xs. AreAllOffsets g xs rest) none (h.back k);
    }

pub count_split : (g : List ℕ) (d : Dimension) (n : ℕ) → is_split d ≡ true → n ≡ group_size_of g d.axes → n + 1 ≡ offset_count g d
unfolding offset_count parts_of
count_split g d n h e = ap (λ z. z + 1) e ∙ sym (ap (λ (b : Bool). if b then group_size_of g d.axes + 1 else 0) h)

pub count_unsplit : (g : List ℕ) (d : Dimension) → is_split d ≡ false → 0 ≡ offset_count g d
unfolding offset_count parts_of
count_unsplit g d h = sym (ap (λ (b : Bool). if b then group_size_of g d.axes + 1 else 0) h)

pub asked_offsets : (g : List ℕ) (d : Dimension) (n : ℕ) (os : List ℤ) → n ≡ group_size_of g d.axes → (is_split d ≡ false → os ≡ []) → HasOffsets g d os → os ≢ [] → AreOffsets d.extent n os
unfolding parts_of
asked_offsets g d n os e none has some = elim (cases_Bool (is_split d)) [
  | inl split ↦ subst (λ m. AreOffsets d.extent m os) (sym e) (has split)
  | inr whole ↦ absurd (some (none whole))
]

pub has_is : (g : List ℕ) (d : Dimension) (n : ℕ) (os : List ℤ) (r : Bool) → n ≡ group_size_of g d.axes → is_split d ≡ true → (r ≡ true → AreOffsets d.extent n os) × (AreOffsets d.extent n os → r ≡ true)
    → (r ≡ true → HasOffsets g d os) × (HasOffsets g d os → r ≡ true)
unfolding parts_of
has_is g d n os r e split is =
    (λ t s. subst (λ m. AreOffsets d.extent m os) e (is.0 t), λ h. is.1 (subst (λ m. AreOffsets d.extent m os) (sym e) (h split)))

pub made_mark : (g : List ℕ) (d : Dimension) (n : ℕ) (os : List ℤ) (axes : List ℕ) (mark : Mark) → n ≡ group_size_of g d.axes → axes ≡ d.axes → mark ≡ mark_of d.extent n (map natural os)
    → record { extent = d.extent; axes = axes; mark = mark; low = d.low; high = d.high } ≡ with_mark g d os
unfolding parts_of
made_mark g d n os axes mark en ea em =
    let em' : mark ≡ mark_of d.extent (group_size_of g d.axes) (map natural os) = em ∙ ap (λ m. mark_of d.extent m (map natural os)) en in
    λ j. record { extent = d.extent; axes = ea j; mark = em' j; low = d.low; high = d.high }

pub none_taken : (g : List ℕ) (d : Dimension) (rest mine : List ℤ) (count least : ℕ) → is_split d ≡ false → count ≡ offset_count g d → least ≡ min count (length rest) → mine ≡ take least rest → mine ≡ []
none_taken g d rest mine count least h e el em =
    let zero_count : count ≡ 0 = e ∙ sym (count_unsplit g d h) in
    let none : least ≡ 0 = omega arith in
    em ∙ ap (λ n. take n rest) none
