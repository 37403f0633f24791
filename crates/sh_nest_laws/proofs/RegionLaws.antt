-- A region of a kind combines the value so far with a term that doesn't depend on it; one without
-- coordinates gives the same at all loop points.
use Rattle.std.proofs.Common.{ap₂, ◌≡◌, ℕ, zero, suc, ◌+◌, List, [], ◌∷◌, ◌++◌, map, length, Option, Some, None, refl, sym, ap, ◌∙◌, subst, inl, inr, ◌⊎◌, arith}
use Rattle.std.specs.Prelude.{option_map, option_and_then, slice_get}
use Rattle.std.specs.List.{AllByRecursion}
use Rattle.std.proofs.lemmas.Option.{same_Some}
use Rattle.sh_base.specs.declared.numbers.Cell.{Cell}
use Rattle.sh_base.specs.declared.numbers.Cell.TheVariants.{Undef}
use Rattle.sh_base.specs.declared.numbers.Width.{Width}
use Rattle.sh_base.specs.declared.operations.Kind.{Kind}
use Rattle.sh_ir.specs.declared.bodies.BodyKind.TheVariants.{Binary}
use Rattle.sh_int.specs.Elements.{element_of}
use Rattle.sh_int.specs.Reduction.{operation_of, combine_of}
use Rattle.sh_int.proofs.ReductionLaws.{element_of-operation_of}
use Rattle.sh_turns.specs.Program.{all_there}
use Rattle.sh_base.specs.Cells.{IsCellOf}
use Rattle.sh_int.proofs.ReductionLaws.{combine_laws}
use Rattle.sh_ir.specs.declared.bodies.BodyKind.{BodyKind}
use Rattle.sh_ir.specs.declared.bodies.BodyKind.TheVariants.{Constant, Compare, Select, Cast, Index, IndexCast}
use Rattle.sh_ir.specs.declared.types.ValueType.{ValueType}
use Rattle.sh_sem.specs.Region.{PlacedOp, PlacedBody, body_cell, placed_op_cell, source_cells, cells_after, region_cell}
use Rattle.sh_sem.specs.Scalars.{formula_cell}
use Rattle.sh_nest_laws.specs.Folds.{IfThere}
use Rattle.sh_nest_laws.specs.RegionKinds.{ArePointFree, HasBodyKind, IsPointFree, ReadsBoth, ReadsNot, term_of}

-- ---- lists that agree but at some places

module _ (X : ℕ → Type 0) where
  abbrev pub AgreeBut : ℕ → List Cell → List Cell → Type 0
  AgreeBut n [] [] = Unit {0}
  AgreeBut n [] (y ∷ ys) = ⊥
  AgreeBut n (x ∷ xs) [] = ⊥
  AgreeBut n (x ∷ xs) (y ∷ ys) = ((X n → ⊥) → x ≡ y) × AgreeBut (suc n) xs ys

  agree_push : (n : ℕ) (xs ys : List Cell) (c d : Cell) → AgreeBut n xs ys → ((X (n + length xs) → ⊥) → c ≡ d) → AgreeBut n (xs ++ c ∷ []) (ys ++ d ∷ [])
  agree_push n [] [] c d h last = let z : n + 0 ≡ n = omega arith in ((λ clear. last (subst (λ m. X m → ⊥) (sym z) clear)), tt)
  agree_push n [] (y ∷ ys) c d h last = absurd h
  agree_push n (x ∷ xs) [] c d h last = absurd h
  agree_push n (x ∷ xs) (y ∷ ys) c d h last =
      let z : suc n + length xs ≡ n + suc (length xs) = omega arith in (h.0, agree_push (suc n) xs ys c d h.1 (λ clear. last (subst (λ m. X m → ⊥) z clear)))

  agree_at : (n : ℕ) (xs ys : List Cell) (i : ℕ) → AgreeBut n xs ys → (X (n + i) → ⊥) → slice_get xs i ≡ slice_get ys i
  agree_at n [] [] i h clear = refl
  agree_at n [] (y ∷ ys) i h clear = absurd h
  agree_at n (x ∷ xs) [] i h clear = absurd h
  agree_at n (x ∷ xs) (y ∷ ys) zero h clear = let z : n + 0 ≡ n = omega arith in ap (λ c. Some c) (h.0 (subst (λ m. X m → ⊥) z clear))
  agree_at n (x ∷ xs) (y ∷ ys) (suc i) h clear = let z : n + suc i ≡ suc n + i = omega arith in agree_at (suc n) xs ys i h.1 (subst (λ m. X m → ⊥) z clear)

  -- the sources are none of the places
  abbrev Avoids : List (Option ℕ) → Type 0
  Avoids [] = Unit {0}
  Avoids (None ∷ sources) = Avoids sources
  Avoids (Some i ∷ sources) = (X i → ⊥) × Avoids sources

  same_sources : (xs ys : List Cell) (sources : List (Option ℕ)) → AgreeBut 0 xs ys → Avoids sources → map (option_and_then (slice_get xs)) sources ≡ map (option_and_then (slice_get ys)) sources
  same_sources xs ys [] h av = refl
  same_sources xs ys (None ∷ sources) h av = ap (λ os. None ∷ os) (same_sources xs ys sources h av)
  same_sources xs ys (Some i ∷ sources) h av =
      let z : 0 + i ≡ i = omega arith in
      ap₂ (λ o os. o ∷ os) (agree_at 0 xs ys i h (subst (λ m. X m → ⊥) (sym z) av.0)) (same_sources xs ys sources h av.1)

  -- both stuck, or both there and agreeing
  abbrev SameOutcome : Option (List Cell) → Option (List Cell) → Type 0
  SameOutcome None None = Unit {0}
  SameOutcome None (Some ys) = ⊥
  SameOutcome (Some xs) None = ⊥
  SameOutcome (Some xs) (Some ys) = AgreeBut 0 xs ys

  same_run : (point : List ℕ) (ops : List PlacedOp) (xs ys : List Cell) → AllByRecursion (λ op. Avoids op.sources) ops → AgreeBut 0 xs ys → SameOutcome (cells_after ops point xs) (cells_after ops point ys)
  same_run point [] xs ys av h = h
  same_run point (op ∷ ops) xs ys av h =
      let same : option_and_then (body_cell op.kind op.result point) (source_cells xs op.sources) ≡ option_and_then (body_cell op.kind op.result point) (source_cells ys op.sources) =
      ap (λ os. option_and_then (body_cell op.kind op.result point) (all_there os)) (same_sources xs ys op.sources h av.0) in
      subst (λ o. SameOutcome (cells_after (op ∷ ops) point xs) (option_and_then (λ cell. cells_after ops point (ys ++ cell ∷ [])) o)) same
      (go (option_and_then (body_cell op.kind op.result point) (source_cells xs op.sources)) (λ cell. same_run point ops (xs ++ cell ∷ []) (ys ++ cell ∷ []) av.1 (agree_push 0 xs ys cell cell h (λ clear. refl))))
    where
      go : (o : Option Cell) → ((cell : Cell) → SameOutcome (cells_after ops point (xs ++ cell ∷ [])) (cells_after ops point (ys ++ cell ∷ [])))
          → SameOutcome (option_and_then (λ cell. cells_after ops point (xs ++ cell ∷ [])) o) (option_and_then (λ cell. cells_after ops point (ys ++ cell ∷ [])) o)
      go None more = tt
      go (Some cell) more = more cell

-- ---- runs

after_append : (point : List ℕ) (ps bs : List PlacedOp) (xs : List Cell) → cells_after (ps ++ bs) point xs ≡ option_and_then (cells_after bs point) (cells_after ps point xs)
after_append point [] bs xs = refl
after_append point (op ∷ ps) bs xs = go (option_and_then (body_cell op.kind op.result point) (source_cells xs op.sources)) (λ cell. after_append point ps bs (xs ++ cell ∷ []))
  where
    go : (o : Option Cell) → ((cell : Cell) → cells_after (ps ++ bs) point (xs ++ cell ∷ []) ≡ option_and_then (cells_after bs point) (cells_after ps point (xs ++ cell ∷ [])))
        → option_and_then (λ cell. cells_after (ps ++ bs) point (xs ++ cell ∷ [])) o ≡ option_and_then (cells_after bs point) (option_and_then (λ cell. cells_after ps point (xs ++ cell ∷ [])) o)
    go None more = refl
    go (Some cell) more = more cell

pushed_at : (xs : List Cell) (c : Cell) → slice_get (xs ++ c ∷ []) (length xs) ≡ Some c
pushed_at [] c = refl
pushed_at (x ∷ xs) c = pushed_at xs c

kept_push : (xs : List Cell) (c v : Cell) (i : ℕ) → slice_get xs i ≡ Some v → slice_get (xs ++ c ∷ []) i ≡ Some v
kept_push [] c v i h = absurd (cc)
kept_push (x ∷ xs) c v zero h = h
kept_push (x ∷ xs) c v (suc i) h = kept_push xs c v i h

length_push : (xs : List Cell) (c : Cell) → length (xs ++ c ∷ []) ≡ suc (length xs)
length_push [] c = refl
length_push (x ∷ xs) c = ap (λ n. suc n) (length_push xs c)

pub record IsLonger (ops : List PlacedOp) (xs ys : List Cell) : Type 0 where
  pub long : length ys ≡ length xs + length ops
  pub kept : (i : ℕ) (v : Cell) → slice_get xs i ≡ Some v → slice_get ys i ≡ Some v

longer : (point : List ℕ) (ops : List PlacedOp) (xs ys : List Cell) → cells_after ops point xs ≡ Some ys → IsLonger ops xs ys
longer point [] xs ys h = let e : xs ≡ ys = same_Some xs ys h in record { long = ap (λ zs. length zs) (sym e) ∙ omega arith; kept = λ i v k. subst (λ zs. slice_get zs i ≡ Some v) e k }
longer point (op ∷ ops) xs ys h = go (option_and_then (body_cell op.kind op.result point) (source_cells xs op.sources)) (λ cell e. longer point ops (xs ++ cell ∷ []) ys e) h
  where
    go : (o : Option Cell) → ((cell : Cell) → cells_after ops point (xs ++ cell ∷ []) ≡ Some ys → IsLonger ops (xs ++ cell ∷ []) ys) → option_and_then (λ cell. cells_after ops point (xs ++ cell ∷ [])) o ≡ Some ys → IsLonger (op ∷ ops) xs ys
    go None more e = absurd (cc)
    go (Some cell) more e =
        let rest = more cell e in
        let n = length_push xs cell in
        let m = rest.long in
        record { long = omega (arith, n, m); kept = λ i v k. rest.kept i v (kept_push xs cell v i k) }

-- ---- the law

module _ (k : Kind) (w : Width) (body : PlacedBody) (point : List ℕ) (xs : List Cell) (z : Cell) (has : HasBodyKind k w (length xs) body) (iz : IsCellOf w z) where
  abbrev out : ℕ
  out = length xs

  abbrev y : ℕ
  y = suc (length xs) + length has.before

  abbrev Out : ℕ → Type 0
  Out i = i ≡ out

  abbrev OutOrYield : ℕ → Type 0
  OutOrYield i = (i ≡ out) ⊎ (i ≡ y)

  avoids_one : (sources : List (Option ℕ)) → ReadsNot out sources → Avoids Out sources
  avoids_one [] h = tt
  avoids_one (None ∷ sources) h = avoids_one sources h.1
  avoids_one (Some i ∷ sources) h = ((λ e. h.0 (ap (λ j. Some j) e)), avoids_one sources h.1)

  avoids_both : (sources : List (Option ℕ)) → ReadsNot out sources → ReadsNot y sources → Avoids OutOrYield sources
  avoids_both [] h j = tt
  avoids_both (None ∷ sources) h j = avoids_both sources h.1 j.1
  avoids_both (Some i ∷ sources) h j = ((λ e. elim e [ inl a ↦ h.0 (ap (λ j. Some j) a) | inr b ↦ j.0 (ap (λ j. Some j) b) ]), avoids_both sources h.1 j.1)

  before_avoid : (ops : List PlacedOp) → AllByRecursion (λ op. ReadsNot out op.sources) ops → AllByRecursion (λ op. Avoids Out op.sources) ops
  before_avoid [] h = tt
  before_avoid (op ∷ ops) h = (avoids_one op.sources h.0, before_avoid ops h.1)

  after_avoid : (ops : List PlacedOp) → AllByRecursion (λ op. ReadsNot out op.sources × ReadsNot y op.sources) ops → AllByRecursion (λ op. Avoids OutOrYield op.sources) ops
  after_avoid [] h = tt
  after_avoid (op ∷ ops) h = (avoids_both op.sources h.0.0 h.0.1, after_avoid ops h.1)

  starts_agree : (n : ℕ) (xs : List Cell) (c d : Cell) → n + length xs ≡ out → AgreeBut Out n (xs ++ c ∷ []) (xs ++ d ∷ [])
  starts_agree n [] c d e = ((λ clear. absurd (clear (omega (arith, e)))), tt)
  starts_agree n (x ∷ xs) c d e = ((λ clear. refl), starts_agree (suc n) xs c d (omega (arith, e)))

  weaker : (n : ℕ) (ps bs : List Cell) → AgreeBut Out n ps bs → AgreeBut OutOrYield n ps bs
  weaker n [] [] h = tt
  weaker n [] (b ∷ bs) h = absurd h
  weaker n (a ∷ ps) [] h = absurd h
  weaker n (a ∷ ps) (b ∷ bs) h = ((λ clear. h.0 (λ e. clear (inl e))), weaker (suc n) ps bs h.1)

  -- ---- the combining operation on cells

  abbrev order : ReadsBoth out has.other has.combine.sources → Cell → Cell → Cell
  order (inl a) c e = combine_of k w c e
  order (inr a) c e = combine_of k w e c

  abbrev joined : Cell → Cell → Cell
  joined c e = order has.sources c e

  -- in either order it is the combination
  joined_is : (e : Cell) → IsCellOf w e → joined z e ≡ combine_of k w z e
  joined_is e ie = go has.sources
    where
      go : (s : ReadsBoth out has.other has.combine.sources) → order s z e ≡ combine_of k w z e
      go (inl a) = refl
      go (inr a) = (combine_laws k w).commutative e z ie iz

  by_kind : (c e : Cell) → body_cell has.combine.kind has.combine.result point (c ∷ e ∷ []) ≡ Some (combine_of k w c e)
  unfolding body_cell formula_cell
  by_kind c e =
      ap (λ kind. body_cell kind has.combine.result point (c ∷ e ∷ [])) has.kind
      ∙ ap (λ v. element_of (operation_of k) v c e) has.width
      ∙ element_of-operation_of k w c e

  combine_cell : (ps : List Cell) (c e : Cell) → slice_get ps out ≡ Some c → slice_get ps has.other ≡ Some e
      → option_and_then (body_cell has.combine.kind has.combine.result point) (source_cells ps has.combine.sources) ≡ Some (joined c e)
  combine_cell ps c e at_out at_other = go has.sources
    where
      go : (s : ReadsBoth out has.other has.combine.sources) → option_and_then (body_cell has.combine.kind has.combine.result point) (source_cells ps has.combine.sources) ≡ Some (order s c e)
      go (inl a) =
          ap (λ sources. option_and_then (body_cell has.combine.kind has.combine.result point) (source_cells ps sources)) a
          ∙ ap₂ (λ o q. option_and_then (body_cell has.combine.kind has.combine.result point) (all_there (o ∷ q ∷ []))) at_out at_other
          ∙ by_kind c e
      go (inr a) =
          ap (λ sources. option_and_then (body_cell has.combine.kind has.combine.result point) (source_cells ps sources)) a
          ∙ ap₂ (λ q o. option_and_then (body_cell has.combine.kind has.combine.result point) (all_there (q ∷ o ∷ []))) at_other at_out
          ∙ by_kind e c

  stuck_there : (ps : List Cell) → slice_get ps has.other ≡ None → option_and_then (body_cell has.combine.kind has.combine.result point) (source_cells ps has.combine.sources) ≡ None
  stuck_there ps none = ap (option_and_then (body_cell has.combine.kind has.combine.result point)) (go has.sources)
    where
      last : (o : Option Cell) → all_there (o ∷ None ∷ []) ≡ None
      last None = refl
      last (Some c) = refl

      go : ReadsBoth out has.other has.combine.sources → source_cells ps has.combine.sources ≡ None
      go (inl a) = ap (source_cells ps) a ∙ ap (λ q. all_there (slice_get ps out ∷ q ∷ [])) none ∙ last (slice_get ps out)
      go (inr a) = ap (source_cells ps) a ∙ ap (λ q. all_there (q ∷ slice_get ps out ∷ [])) none

  abbrev rest : List Cell → Option (List Cell)
  rest ps = cells_after (has.combine ∷ has.after) point ps

  -- from the cells before the combining operation on
  finish : (ps bs : List Cell) → AgreeBut Out 0 ps bs → length ps ≡ y → length bs ≡ y → slice_get ps out ≡ Some z → slice_get bs out ≡ Some Undef → IfThere (IsCellOf w) (option_and_then (λ cells. slice_get cells has.other) (rest bs))
      → option_and_then (λ cells. slice_get cells y) (rest ps) ≡ option_map (λ e. combine_of k w z e) (option_and_then (λ cells. slice_get cells has.other) (rest bs))
  finish ps bs agree la lb oa ob fits = go (slice_get bs has.other) refl
    where
      shared : slice_get ps has.other ≡ slice_get bs has.other
      shared = agree_at Out 0 ps bs has.other agree (λ e. has.differs (omega (arith, e)))

      ends : (e : Cell) → slice_get bs has.other ≡ Some e → (p q : Option (List Cell)) → cells_after has.after point (ps ++ joined z e ∷ []) ≡ p → cells_after has.after point (bs ++ joined Undef e ∷ []) ≡ q → SameOutcome OutOrYield p q → IfThere (IsCellOf w) (option_and_then (λ cells. slice_get cells has.other) q)
          → option_and_then (λ cells. slice_get cells y) p ≡ option_map (λ e. combine_of k w z e) (option_and_then (λ cells. slice_get cells has.other) q)
      ends e at_other None None ep eq same fit = refl
      ends e at_other None (Some bs') ep eq same fit = absurd same
      ends e at_other (Some ps') None ep eq same fit = absurd same
      ends e at_other (Some ps') (Some bs') ep eq same fit =
          let yielded : slice_get (ps ++ joined z e ∷ []) y ≡ Some (joined z e) = subst (λ n. slice_get (ps ++ joined z e ∷ []) n ≡ Some (joined z e)) la (pushed_at ps (joined z e)) in
          let at_end = (longer point has.after (ps ++ joined z e ∷ []) ps' ep).kept y (joined z e) yielded in
          let at_end' = (longer point has.after (bs ++ joined Undef e ∷ []) bs' eq).kept has.other e (kept_push bs (joined Undef e) e has.other at_other) in
          at_end ∙ ap (λ c. Some c) (joined_is e (subst (IfThere (IsCellOf w)) at_end' fit)) ∙ sym (ap (option_map (λ e. combine_of k w z e)) at_end')

      go : (o : Option Cell) → slice_get bs has.other ≡ o → option_and_then (λ cells. slice_get cells y) (rest ps) ≡ option_map (λ e. combine_of k w z e) (option_and_then (λ cells. slice_get cells has.other) (rest bs))
      go None e =
          ap (λ o. option_and_then (λ cells. slice_get cells y) (option_and_then (λ cell. cells_after has.after point (ps ++ cell ∷ [])) o)) (stuck_there ps (shared ∙ e))
          ∙ sym (ap (λ o. option_map (λ e. combine_of k w z e) (option_and_then (λ cells. slice_get cells has.other) (option_and_then (λ cell. cells_after has.after point (bs ++ cell ∷ [])) o))) (stuck_there bs e))
      go (Some e) at_other =
          let x : 0 + length ps ≡ y = omega (arith, la) in
          ap (λ o. option_and_then (λ cells. slice_get cells y) (option_and_then (λ cell. cells_after has.after point (ps ++ cell ∷ [])) o)) (combine_cell ps z e oa (shared ∙ at_other))
          ∙ ends e at_other (cells_after has.after point (ps ++ joined z e ∷ [])) (cells_after has.after point (bs ++ joined Undef e ∷ [])) refl refl
          (same_run OutOrYield point has.after (ps ++ joined z e ∷ []) (bs ++ joined Undef e ∷ []) (after_avoid has.after has.unused_after)
          (agree_push OutOrYield 0 ps bs (joined z e) (joined Undef e) (weaker 0 ps bs agree) (λ clear. absurd (clear (inr x)))))
          (subst (λ o. IfThere (IsCellOf w) (option_and_then (λ cells. slice_get cells has.other) (option_and_then (λ cell. cells_after has.after point (bs ++ cell ∷ [])) o))) (combine_cell bs Undef e ob at_other) fits)
          ∙ sym (ap (λ o. option_map (λ e. combine_of k w z e) (option_and_then (λ cells. slice_get cells has.other) (option_and_then (λ cell. cells_after has.after point (bs ++ cell ∷ [])) o))) (combine_cell bs Undef e ob at_other))

  -- the body combines the value so far with its term
  pub combines_term : IfThere (IsCellOf w) (term_of body has.other point xs) → region_cell body point (xs ++ z ∷ []) ≡ option_map (λ e. combine_of k w z e) (term_of body has.other point xs)
  unfolding region_cell term_of
  combines_term valid =
      let split : cells_after body.ops point (xs ++ Undef ∷ []) ≡ option_and_then rest (cells_after has.before point (xs ++ Undef ∷ [])) =
      ap (λ ops. cells_after ops point (xs ++ Undef ∷ [])) has.ops ∙ after_append point has.before (has.combine ∷ has.after) (xs ++ Undef ∷ []) in
      ap (λ o. option_and_then (λ after. option_and_then (slice_get after) o) (cells_after body.ops point (xs ++ z ∷ []))) has.yields
      ∙ ap (λ ops. option_and_then (λ after. slice_get after y) (cells_after ops point (xs ++ z ∷ []))) has.ops
      ∙ ap (option_and_then (λ after. slice_get after y)) (after_append point has.before (has.combine ∷ has.after) (xs ++ z ∷ []))
      ∙ go (cells_after has.before point (xs ++ z ∷ [])) (cells_after has.before point (xs ++ Undef ∷ [])) refl refl (same_run Out point has.before (xs ++ z ∷ []) (xs ++ Undef ∷ []) (before_avoid has.before has.unused) (starts_agree 0 xs z Undef (omega arith)))
      (subst (λ o. IfThere (IsCellOf w) (option_and_then (λ after. slice_get after has.other) o)) split valid)
      ∙ sym (ap (λ o. option_map (λ e. combine_of k w z e) (option_and_then (λ after. slice_get after has.other) o)) split)
    where
      go : (p q : Option (List Cell)) → cells_after has.before point (xs ++ z ∷ []) ≡ p → cells_after has.before point (xs ++ Undef ∷ []) ≡ q → SameOutcome Out p q → IfThere (IsCellOf w) (option_and_then (λ after. slice_get after has.other) (option_and_then rest q))
          → option_and_then (λ after. slice_get after y) (option_and_then rest p) ≡ option_map (λ e. combine_of k w z e) (option_and_then (λ after. slice_get after has.other) (option_and_then rest q))
      go None None ep eq same fit = refl
      go None (Some bs) ep eq same fit = absurd same
      go (Some ps) None ep eq same fit = absurd same
      go (Some ps) (Some bs) ep eq same fit =
          let la = longer point has.before (xs ++ z ∷ []) ps ep in
          let lb = longer point has.before (xs ++ Undef ∷ []) bs eq in
          finish ps bs same (la.long ∙ ap (λ n. n + length has.before) (length_push xs z)) (lb.long ∙ ap (λ n. n + length has.before) (length_push xs Undef))
          (la.kept out z (pushed_at xs z)) (lb.kept out Undef (pushed_at xs Undef)) fit

-- ---- the loop point

free_cell : (kind : BodyKind) (result : ValueType) (p q : List ℕ) (cells : List Cell) → IsPointFree kind → body_cell kind result p cells ≡ body_cell kind result q cells
unfolding body_cell
free_cell (Constant x) result p q cells free = refl
free_cell (Binary op) result p q cells free = refl
free_cell (Compare x) result p q cells free = refl
free_cell (Select x) result p q cells free = refl
free_cell (Cast x) result p q cells free = refl
free_cell (Index x) result p q cells free = absurd free
free_cell IndexCast result p q cells free = refl

free_after : (ops : List PlacedOp) (p q : List ℕ) (cells : List Cell) → ArePointFree ops → cells_after ops p cells ≡ cells_after ops q cells
free_after [] p q cells free = refl
free_after (op ∷ ops) p q cells free =
    ap (option_and_then (λ cell. cells_after ops p (cells ++ cell ∷ []))) (same (source_cells cells op.sources))
    ∙ more (placed_op_cell op q cells) (λ cell. free_after ops p q (cells ++ cell ∷ []) free.1)
  where
    same : (o : Option (List Cell)) → option_and_then (body_cell op.kind op.result p) o ≡ option_and_then (body_cell op.kind op.result q) o
    same None = refl
    same (Some cs) = free_cell op.kind op.result p q cs free.0

    more : (o : Option Cell) → ((cell : Cell) → cells_after ops p (cells ++ cell ∷ []) ≡ cells_after ops q (cells ++ cell ∷ []))
        → option_and_then (λ cell. cells_after ops p (cells ++ cell ∷ [])) o ≡ option_and_then (λ cell. cells_after ops q (cells ++ cell ∷ [])) o
    more None h = refl
    more (Some cell) h = h cell

-- a region without coordinates gives the same at all loop points
pub same_at_points : (body : PlacedBody) (p q : List ℕ) (cells : List Cell) → ArePointFree body.ops → region_cell body p cells ≡ region_cell body q cells
unfolding region_cell
same_at_points body p q cells free = ap (option_and_then (λ after. option_and_then (slice_get after) body.yields)) (free_after body.ops p q cells free)
