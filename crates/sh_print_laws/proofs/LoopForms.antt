-- Operations with a region.
use Rattle.std.proofs.Common.{◌≡◌, ◌∙◌, ◌⊎◌, inl, inr, ◌+◌, ◌-◌, ℕ, zero, suc, Bool, true, false, nat_eq, List, [], ◌∷◌, ◌++◌, map, take, drop, length, Some, None, refl, ap, sym, subst, codes, arith, append_assoc, if◌then◌else◌}
use Rattle.std.specs.Prelude.{IsTrue, filter, flat_map, not}
use Rattle.std.specs.List.{AllByRecursion, list_all}
use Rattle.std.specs.Option.{option_map_or}
use Rattle.std.proofs.lemmas.Bool.{cases_Bool, eq-eqb, eqb-true, or_cases, or_left, or_right}
use Rattle.std.proofs.lemmas.List.{append-nil, take-append-drop, length-drop, length-take-le, map-append}
use Rattle.std.proofs.lemmas.Simd.{map-map}
use Rattle.sh_alike.specs.Renamed.{renamed_body, renamed_body_op, renamed_kind}
use Rattle.sh_base.specs.declared.numbers.Width.{Width}
use Rattle.sh_base.specs.declared.places.Place.{Place}
use Rattle.sh_build.specs.Meaning as meaning
use Rattle.sh_build.specs.Meaning.{body_of, made, reducing, side}
use Rattle.sh_build.specs.declared.parts.Operands.{Operands}
use Rattle.sh_build.specs.declared.parts.Part.{Part}
use Rattle.sh_build.specs.declared.parts.Part.TheVariants as part
use Rattle.sh_grammar.specs.Lexemes.{class_of, class_of_kind}
use Rattle.sh_grammar.specs.declared.forms.Form.TheVariants as forms
use Rattle.sh_ir.specs.Formed.{is_numbered, is_on_index, is_spelled, is_spelled_type}
use Rattle.sh_ir.specs.Regions.{captured_by, first_occurrences, is_among, outer_uses, own_names}
use Rattle.sh_ir.specs.Written.{first_type, written_by}
use Rattle.sh_ir.specs.declared.bodies.Body.{Body}
use Rattle.sh_ir.specs.declared.bodies.BodyOp.{BodyOp}
use Rattle.sh_ir.specs.declared.linalg_ops.AffineMap.{AffineMap}
use Rattle.sh_ir.specs.declared.linalg_ops.Generic as declared_generic
use Rattle.sh_ir.specs.declared.linalg_ops.InsOuts.{InsOuts}
use Rattle.sh_ir.specs.declared.linalg_ops.Reduce as declared_reduce
use Rattle.sh_ir.specs.declared.operations.OpKind.{OpKind}
use Rattle.sh_ir.specs.declared.operations.OpKind.TheVariants as op_kind
use Rattle.sh_ir.specs.declared.types.ValueType.{ValueType}
use Rattle.sh_lex.specs.declared.tokens.TokenKind.TheVariants as kind
use Rattle.sh_names.specs.Names.{Owned, same_text}
use Rattle.sh_names.specs.declared.scopes.Role.TheVariants as role
use Rattle.sh_print.specs.Layout.{Piece}
use Rattle.sh_print.specs.Layout.Piece.{closing, opening, token}
use Rattle.sh_print.specs.Spellings.{in_brackets, list_of, sign, type_pieces}
use Rattle.sh_print.specs.Tokens.{along_pieces, are_none, attribute, block_arguments, body_op_pieces, body_pieces, generic_attributes, generic_pieces, header_pieces, ins, ins_outs, ins_values, iterator_pieces, iterators_pieces, map_pieces, maps_pieces, maybe_ins, numbers_pieces, outs, outs_values, reduce_pieces, scope_of_body, to_type, yield_pieces}
use Rattle.sh_print.specs.Values.{Scope, name_in, name_inside, name_text}
use Rattle.sh_print.specs.declared.names.Name.TheVariants.{BlockArgument}
use Rattle.sh_print_laws.specs.TokensOf.{lexeme}
use Rattle.sh_print_laws.proofs.Captures.{captured_placeless, captured_renamed}
use Rattle.sh_print_laws.proofs.Keywords as keyword
use Rattle.sh_print_laws.proofs.OperationForms.{map_same}
use Rattle.sh_print_laws.proofs.MapForms.{kinds_spelled}
use Rattle.sh_print_laws.proofs.PlainForms.{nums_spelled, type_spelled}
use Rattle.sh_print_laws.proofs.RegionForms.{AreOuter, Covers, IsTail, Named, StepFits, behind_ops, body_form, generic_form, is_inner, read_in, region_spelled, same_self}
use Rattle.sh_print_laws.proofs.RegionSteps.{arguments_spelled, read_blocks, with_blocks, with_own}
use Rattle.sh_print_laws.proofs.Rows.{FormTo, Naming, by_row, end_row, form_between, last_form, last_is, row_by, then_closing, then_form, then_in_2, then_in_3, then_in_4, then_is, then_line_end, then_opening, then_token}
use Rattle.sh_print_laws.proofs.Standing.{Spot, Standing, among, naming, num_by, owned}
use Rattle.sh_print_laws.proofs.ValueForms.{ins_spelled, outs_spelled}
use Rattle.sh_print_laws.proofs.Walks.{State}

block_class : (p : Place) → class_of (lexeme kind.Block (codes "^bb0") p) ≡ class_of_kind kind.Block
unfolding class_of
block_class p = refl

-- ## Spots of one function

-- Another spot of the same function.
pub record SameFunc (s u : Spot) : Type 0 where
  pub fit : u.fit ≡ s.fit
  pub at : u.at ≡ s.at
  pub func : u.func ≡ s.func
  pub op : u.op ≡ s.op

blocks_same : (s : Spot) (at : ℕ) (ws : List Width) → SameFunc s (with_blocks s at ws)
blocks_same s at [] = record { fit = refl; at = refl; func = refl; op = refl }
blocks_same s at (w ∷ ws) = let h = blocks_same (with_own s (name_text (BlockArgument at))) (suc at) ws in record { fit = h.fit; at = h.at; func = h.func; op = h.op }

-- the names of block arguments from this one on
abbrev pub texts_from : ℕ → List Width → List (List ℕ)
texts_from at [] = []
texts_from at (w ∷ ws) = name_text (BlockArgument at) ∷ texts_from (suc at) ws

blocks_all : (s : Spot) (at : ℕ) (ws : List Width) → (with_blocks s at ws).all ≡ s.all ++ texts_from at ws
blocks_all s at [] = sym (append-nil s.all)
blocks_all s at (w ∷ ws) = blocks_all (with_own s (name_text (BlockArgument at))) (suc at) ws ∙ append_assoc s.all (name_text (BlockArgument at) ∷ []) (texts_from (suc at) ws)

texts_inner : (at : ℕ) (ws : List Width) → AllByRecursion (λ x. is_inner x ≡ true) (texts_from at ws)
texts_inner at [] = tt
texts_inner at (w ∷ ws) = (refl, texts_inner (suc at) ws)

block_ids : (v : Owned → ℕ) (s : Spot) (at : ℕ) (ws : List Width) → map (λ a. a.id) (read_blocks v s at ws) ≡ map (λ x. v (owned s.func (Some s.op) x)) (texts_from at ws)
block_ids v s at [] = refl
block_ids v s at (w ∷ ws) = ap (λ xs. v (owned s.func (Some s.op) (name_text (BlockArgument at))) ∷ xs) (block_ids v (with_own s (name_text (BlockArgument at))) (suc at) ws)

block_widths : (v : Owned → ℕ) (s : Spot) (at : ℕ) (ws : List Width) → map (λ a. meaning.cell_width a.value_type) (read_blocks v s at ws) ≡ ws
block_widths v s at [] = refl
block_widths v s at (w ∷ ws) = ap (λ xs. w ∷ xs) (block_widths v (with_own s (name_text (BlockArgument at))) (suc at) ws)

-- ## Regions

-- the text of a name in a region
abbrev pub region_text : Scope → Body → ℕ → List ℕ
region_text scope body id = name_text (name_inside (scope_of_body body) scope id)

-- a name of the region, or one that the function defines
abbrev pub IsUsed : Scope → Body → ℕ → Type 0
IsUsed scope body id = (is_among (own_names body) id ≡ true) ⊎ (is_among scope.ids id ≡ true)

-- What is known of the names of a region and how they are printed.
pub record RegionNames (scope : Scope) (body : Body) : Type 0 where
  pub named : Named (own_names body) (region_text scope body)
  pub args : map (region_text scope body) body.args ≡ texts_from 0 body.widths
  pub same : (a b : ℕ) → IsUsed scope body a → IsUsed scope body b → is_among (own_names body) a ≡ is_among (own_names body) b
      → region_text scope body a ≡ region_text scope body b → a ≡ b
  pub outside : (id : ℕ) → is_among (own_names body) id ≡ false → region_text scope body id ≡ name_text (name_in scope id)
  pub uses : AllByRecursion (λ id. is_among (own_names body) id ≡ false) (outer_uses body.args body.ops body.yields)
  pub args_used : AllByRecursion (IsUsed scope body) body.args
  pub ops_used : AllByRecursion (λ x. AllByRecursion (IsUsed scope body) x.operands × IsUsed scope body x.defines) body.ops
  pub yields_used : IsUsed scope body body.yields
  pub steps : AllByRecursion (StepFits (own_names body)) body.ops

among_texts : (f : ℕ → List ℕ) (xs : List ℕ) (id : ℕ) → is_among xs id ≡ true → among (map f xs) (f id) ≡ true
among_texts f [] id h = absurd (let e : false ≡ true = h in cc)
among_texts f (x ∷ xs) id h = elim (or_cases (nat_eq id x) (is_among xs id) h) [
  | inl e ↦ or_left (same_text (f x) (f id)) _ (subst (λ y. same_text (f x) (f y) ≡ true) (sym (eqb-true id x e)) (same_self (f x)))
  | inr e ↦ or_right (same_text (f x) (f id)) _ (among_texts f xs id e)
]

among_front : (xs ys : List ℕ) (a : ℕ) → is_among xs a ≡ true → is_among (xs ++ ys) a ≡ true
among_front [] ys a h = absurd (let e : false ≡ true = h in cc)
among_front (x ∷ xs) ys a h = elim (or_cases (nat_eq a x) (is_among xs a) h) [
  | inl e ↦ or_left (nat_eq a x) _ e
  | inr e ↦ or_right (nat_eq a x) _ (among_front xs ys a e)
]

module _ (v : Owned → ℕ) (apart : (x y : Owned) → x.unit ≡ y.unit → v x ≡ v y → x ≡ y) (fit : List ℕ → Bool) (unit op : ℕ) (scope : Scope) where
  -- outside of the operation's region
  abbrev pub outer_spot : Spot
  outer_spot = record { fit = fit; at = role.Nothing; func = unit; op = op; inside = false; defined = []; all = [] }

  -- somewhere in the function
  pub record Amid (σ : State) : Type 0 where
    pub spot : Spot
    pub stands : Standing spot σ
    pub of_fit : spot.fit ≡ fit
    pub of_at : spot.at ≡ role.Nothing
    pub of_func : spot.func ≡ unit

  -- the number of a name of the function
  abbrev pub base : ℕ → ℕ
  base id = v (owned unit None (name_text (name_in scope id)))

  -- the number of a name in a region
  abbrev pub reader : Body → ℕ → ℕ
  reader body = read_in v unit op (scope_of_body body) scope (own_names body)

  abbrev pub reader_of : OpKind → ℕ → ℕ
  reader_of k = option_map_or (λ body. reader body) (written_by k).body base

  -- the right side is read so: up to the words of maps, whose numbers the rules tell
  abbrev pub IsSide : OpKind → List ℕ → ValueType → Part → Type 0
  IsSide k xs t p = (read : OpKind) × (p ≡ side read (map base xs) t) × (IsTrue (list_all is_numbered (written_by read).maps) → renamed_kind (λ id. id) read ≡ renamed_kind (reader_of k) k)

  module _ (body : Body) (names : RegionNames scope body) where
    ids : List ℕ
    ids = own_names body

    pub reader_base : (id : ℕ) → is_among (own_names body) id ≡ false → reader body id ≡ base id
    reader_base id out = rw (out, names.outside id out) refl

    regions_same : (a b : Bool) → (if a then Some op else None) ≡ (if b then Some op else None) → a ≡ b
    regions_same true true e = refl
    regions_same true false e = absurd (let no : Some op ≡ None = e in cc)
    regions_same false true e = absurd (let no : None ≡ Some op = e in cc)
    regions_same false false e = refl

    reader_apart : (a b : ℕ) → IsUsed scope body a → IsUsed scope body b → reader body a ≡ reader body b → a ≡ b
    reader_apart a b h g e =
        let one = apart (owned unit (if is_among (own_names body) a then Some op else None) (region_text scope body a)) (owned unit (if is_among (own_names body) b then Some op else None) (region_text scope body b)) refl e in
        names.same a b h g (regions_same (is_among (own_names body) a) (is_among (own_names body) b) (ap (λ x. x.region) one)) (ap (λ x. x.text) one)

    -- the region as it is read
    abbrev read_body : List BodyOp → Place → Body
    read_body read place = record {
      args = map (λ a. a.id) (read_blocks v outer_spot 0 body.widths);
      widths = map (λ a. meaning.cell_width a.value_type) (read_blocks v outer_spot 0 body.widths);
      ops = read;
      yields = reader body body.yields;
      width = body.width;
      place = place;
    }

    args_own : (xs : List ℕ) → AllByRecursion (λ a. is_among (own_names body) a ≡ true) xs → map (λ a. v (owned unit (Some op) (region_text scope body a))) xs ≡ map (reader body) xs
    args_own [] h = refl
    args_own (x ∷ xs) h = rw (h.0, args_own xs h.1) refl

    each_front_own : (xs ys : List ℕ) → AllByRecursion (λ a. is_among (xs ++ ys) a ≡ true) xs
    each_front_own xs ys = go xs (λ a h. among_front xs ys a h)
      where
        go : (zs : List ℕ) → ((a : ℕ) → is_among zs a ≡ true → is_among (xs ++ ys) a ≡ true) → AllByRecursion (λ a. is_among (xs ++ ys) a ≡ true) zs
        go [] so = tt
        go (z ∷ zs) so = (so z (or_left (nat_eq z z) _ (eq-eqb z z refl)), go zs (λ a h. so a (or_right (nat_eq a z) _ h)))

    read_args : map (λ a. a.id) (read_blocks v outer_spot 0 body.widths) ≡ map (reader body) body.args
    read_args =
        block_ids v outer_spot 0 body.widths ∙ ap (map (λ x. v (owned unit (Some op) x))) (sym names.args)
        ∙ map-map (λ x. v (owned unit (Some op) x)) (region_text scope body) body.args
        ∙ args_own body.args (each_front_own body.args (map (λ x. x.defines) body.ops))

    same_body : (read : List BodyOp) (place : Place) → map (renamed_body_op (λ id. id)) read ≡ map (renamed_body_op (reader body)) body.ops
        → renamed_body (λ id. id) (read_body read place) ≡ renamed_body (reader body) body
    same_body read place e =
        rw (map_same (map (λ a. a.id) (read_blocks v outer_spot 0 body.widths)), read_args, block_widths v outer_spot 0 body.widths, e) refl

    captured_read : (read : List BodyOp) (place : Place) → map (renamed_body_op (λ id. id)) read ≡ map (renamed_body_op (reader body)) body.ops
        → captured_by (read_body read place) ≡ map (reader body) (captured_by body)
    captured_read read place e =
        sym (captured_placeless (read_body read place)) ∙ ap captured_by (same_body read place e)
        ∙ captured_renamed (reader body) (IsUsed scope body) reader_apart body (record { args = names.args_used; ops = names.ops_used; yields = names.yields_used })

    -- where the region begins
    abbrev begun : Spot
    begun = with_blocks outer_spot 0 body.widths

    covers : Covers v unit op (scope_of_body body) scope (own_names body) begun body.args
    covers = let same = blocks_same outer_spot 0 body.widths in
        let all : begun.all ≡ texts_from 0 body.widths = blocks_all outer_spot 0 body.widths in record {
          of_unit = same.func;
          of_op = same.op;
          at = same.at;
          covered = λ id h. ap (λ xs. among xs (region_text scope body id)) (all ∙ sym names.args) ∙ among_texts (region_text scope body) body.args id h;
          inner = subst (AllByRecursion (λ x. is_inner x ≡ true)) (sym all) (texts_inner 0 body.widths);
          known_own = λ id h. among_front body.args (map (λ x. x.defines) body.ops) id h;
        }

  -- ## Operands

  ins_values_counted : (x : InsOuts) (xs : List ℕ) (c : ℕ) → length xs ≡ x.ins_count + x.outs_count + c → length (ins_values x xs) ≡ x.ins_count
  ins_values_counted x xs c h = length-take-le x.ins_count xs (omega arith)

  outs_values_counted : (x : InsOuts) (xs : List ℕ) (c : ℕ) → length xs ≡ x.ins_count + x.outs_count + c → length (outs_values x xs) ≡ x.outs_count
  outs_values_counted x xs c h = length-take-le x.outs_count (drop x.ins_count xs) (let e : length (drop x.ins_count xs) ≡ length xs - x.ins_count = length-drop x.ins_count xs in omega arith)

  mapped_length : (f : ℕ → ℕ) (xs : List ℕ) → length (map f xs) ≡ length xs
  mapped_length f [] = refl
  mapped_length f (x ∷ xs) = ap suc (mapped_length f xs)

  drop_nothing : (m : ℕ) (xs : List ℕ) → xs ≡ [] → drop m xs ≡ []
  drop_nothing zero xs e = e
  drop_nothing (suc m) [] e = refl
  drop_nothing (suc m) (x ∷ xs) e = cc

  drop_both : (n m : ℕ) (xs : List ℕ) → drop (n + m) xs ≡ drop m (drop n xs)
  drop_both zero m xs = ap (λ k. drop k xs) (let e : 0 + m ≡ m = omega arith in e)
  drop_both (suc n) m [] = ap (λ k. drop k []) (let e : suc n + m ≡ suc (n + m) = omega arith in e) ∙ sym (drop_nothing m [] refl)
  drop_both (suc n) m (x ∷ xs) = ap (λ k. drop k (x ∷ xs)) (let e : suc n + m ≡ suc (n + m) = omega arith in e) ∙ drop_both n m xs

  three_parts : (n m : ℕ) (xs : List ℕ) → take n xs ++ take m (drop n xs) ++ drop (n + m) xs ≡ xs
  three_parts n m xs =
      append_assoc (take n xs) (take m (drop n xs)) (drop (n + m) xs)
      ∙ ap (λ ys. take n xs ++ (take m (drop n xs) ++ ys)) (drop_both n m xs)
      ∙ ap (λ ys. take n xs ++ ys) (take-append-drop m (drop n xs))
      ∙ take-append-drop n xs

  -- what the two sides and the captured names make
  module _ (body : Body) (names : RegionNames scope body) (x : InsOuts) (xs : List ℕ) (count : length xs ≡ x.ins_count + x.outs_count + length (captured_by body))
      (captures : drop (x.ins_count + x.outs_count) xs ≡ captured_by body) where
    all_outer : AreOuter v unit op (scope_of_body body) scope (own_names body) (captured_by body)
    all_outer = firsts_outer (outer_uses body.args body.ops body.yields) names.uses
      where
        kept : (p : ℕ → Bool) (ys : List ℕ) → AllByRecursion (λ id. is_among (own_names body) id ≡ false) ys → AllByRecursion (λ id. is_among (own_names body) id ≡ false) (filter p ys)
        kept p [] h = tt
        kept p (y ∷ ys) h = elim (cases_Bool (p y)) [
          | inl e ↦ subst (λ b. AllByRecursion (λ id. is_among (own_names body) id ≡ false) (if b then y ∷ filter p ys else filter p ys)) (sym e) (h.0, kept p ys h.1)
          | inr e ↦ subst (λ b. AllByRecursion (λ id. is_among (own_names body) id ≡ false) (if b then y ∷ filter p ys else filter p ys)) (sym e) (kept p ys h.1)
        ]

        firsts_outer : (ys : List ℕ) → AllByRecursion (λ id. is_among (own_names body) id ≡ false) ys → AllByRecursion (λ id. is_among (own_names body) id ≡ false) (first_occurrences ys)
        firsts_outer [] h = tt
        firsts_outer (y ∷ ys) h = (h.0, kept (λ other. not (nat_eq y other)) (first_occurrences ys) (firsts_outer ys h.1))

    outer_base : (ys : List ℕ) → AllByRecursion (λ id. is_among (own_names body) id ≡ false) ys → map (reader body) ys ≡ map base ys
    outer_base [] h = refl
    outer_base (y ∷ ys) h = rw (reader_base body names y h.0, outer_base ys h.1) refl

    loop_side : (kind : InsOuts → OpKind) (read : List ℕ) (t : ValueType) → read ≡ map (reader body) (captured_by body)
        → meaning.structured_side kind (record { values = map base (ins_values x xs); types = x.ins_types }) (record { values = map base (outs_values x xs); types = x.outs_types }) read t
        ≡ side (kind x) (map base xs) t
    loop_side kind read t e =
        ap (λ c. meaning.structured_side kind (record { values = map base (ins_values x xs); types = x.ins_types }) (record { values = map base (outs_values x xs); types = x.outs_types }) c t)
        (e ∙ outer_base (captured_by body) all_outer ∙ ap (map base) (sym captures))
        ∙ ap (λ n. side (kind (record { ins_count = n; ins_types = x.ins_types; outs_count = length (map base (outs_values x xs)); outs_types = x.outs_types })) operands t) (mapped_length base (ins_values x xs) ∙ ins_values_counted x xs _ count)
        ∙ ap (λ n. side (kind (record { ins_count = x.ins_count; ins_types = x.ins_types; outs_count = n; outs_types = x.outs_types })) operands t) (mapped_length base (outs_values x xs) ∙ outs_values_counted x xs _ count)
        ∙ ap (λ ids. side (kind x) ids t) joined
      where
        operands : List ℕ
        operands = map base (ins_values x xs) ++ map base (outs_values x xs) ++ map base (drop (x.ins_count + x.outs_count) xs)

        joined : operands ≡ map base xs
        joined =
            ap (λ ys. ys ++ map base (drop (x.ins_count + x.outs_count) xs)) (sym (map-append base (ins_values x xs) (outs_values x xs)))
            ∙ sym (map-append base (ins_values x xs ++ outs_values x xs) (drop (x.ins_count + x.outs_count) xs))
            ∙ ap (map base) (three_parts x.ins_count x.outs_count xs)

  -- behind the region
  ops_same : (body : Body) (s : Spot) (ops : List BodyOp) → SameFunc s (behind_ops v unit op (scope_of_body body) scope (own_names body) s ops)
  ops_same body s [] = record { fit = refl; at = refl; func = refl; op = refl }
  ops_same body s (y ∷ ops) = let h = ops_same body (with_own s (region_text scope body y.defines)) ops in record { fit = h.fit; at = h.at; func = h.func; op = h.op }

  abbrev end_spot : Body → Spot
  end_spot body = behind_ops v unit op (scope_of_body body) scope (own_names body) (with_blocks outer_spot 0 body.widths) body.ops

  end_same : (body : Body) → SameFunc outer_spot (end_spot body)
  end_same body =
      let a = blocks_same outer_spot 0 body.widths in
      let b = ops_same body (with_blocks outer_spot 0 body.widths) body.ops in
      record { fit = b.fit ∙ a.fit; at = b.at ∙ a.at; func = b.func ∙ a.func; op = b.op ∙ a.op }

  amid_end : (body : Body) (σ : State) → Standing (end_spot body) σ → Amid σ
  amid_end body σ h = let same = end_same body in record { spot = end_spot body; stands = h; of_fit = same.fit; of_at = same.at; of_func = same.func }

  -- ## Reductions

  -- What is known of an operation with a region.
  pub record LoopFits (body : Body) (x : InsOuts) (xs : List ℕ) : Type 0 where
    pub names : RegionNames scope body
    pub count : length xs ≡ x.ins_count + x.outs_count + length (captured_by body)
    pub captures : drop (x.ins_count + x.outs_count) xs ≡ captured_by body
    pub ins_types : IsTrue (list_all is_spelled_type x.ins_types)
    pub outs_types : IsTrue (list_all is_spelled_type x.outs_types)

  begin_at : (body : Body) → (with_blocks outer_spot 0 body.widths).at ≡ role.Nothing
  begin_at body = (blocks_same outer_spot 0 body.widths).at

  -- what the operands become
  abbrev read_ins : InsOuts → List ℕ → Operands
  read_ins x xs = record { values = map base (ins_values x xs); types = x.ins_types }

  abbrev read_outs : InsOuts → List ℕ → Operands
  read_outs x xs = record { values = map base (outs_values x xs); types = x.outs_types }

  abbrev IsRegion : Body → Part → Type 0
  IsRegion body p = IsTail v unit op (scope_of_body body) scope (own_names body) body.ops body.yields body.width p

  region_of : (body : Body) → RegionNames scope body → AllByRecursion (λ y. is_on_index y.kind ≡ false) body.ops
      → FormTo (num_by v) (Standing (with_blocks outer_spot 0 body.widths)) (Standing (end_spot body)) forms.Body
      (flat_map (body_op_pieces (scope_of_body body) scope) body.ops ++ yield_pieces (name_inside (scope_of_body body) scope body.yields) body.width) (IsRegion body)
  region_of body names plain = region_spelled v unit op (scope_of_body body) scope (own_names body) (body_form v unit op (scope_of_body body) scope (own_names body))
      names.named body.ops (with_blocks outer_spot 0 body.widths) body.args (covers body names) body.yields body.width names.steps plain names.uses

  module _ (x : declared_reduce.Reduce) (xs : List ℕ) (fits : LoopFits x.body x.ins_outs xs) where
    abbrev reduced : Part → Part
    reduced tail = reducing (read_ins x.ins_outs xs) (read_outs x.ins_outs xs) x.dimensions (body_of (read_blocks v outer_spot 0 x.body.widths) tail)

    reduce_side : (tail : Part) → IsRegion x.body tail → IsSide (op_kind.Reduce x) xs (first_type x.ins_outs.outs_types) (reduced tail)
    reduce_side tail h = let rb : Body = read_body x.body fits.names h.0 h.1 in (
      op_kind.Reduce (record { ins_outs = x.ins_outs; dimensions = x.dimensions; body = rb }),
      ap reduced h.2
          ∙ loop_side x.body fits.names x.ins_outs xs fits.count fits.captures (λ y. op_kind.Reduce (record { ins_outs = y; dimensions = x.dimensions; body = rb })) (captured_by rb)
          (first_type x.ins_outs.outs_types) (captured_read x.body fits.names h.0 h.1 h.3),
      λ free. ap (λ b. op_kind.Reduce (record { ins_outs = x.ins_outs; dimensions = x.dimensions; body = b })) (same_body x.body fits.names h.0 h.1 h.3),
    )

    reduce_tail : AllByRecursion (λ y. is_on_index y.kind ≡ false) x.body.ops → IsTrue (list_all is_spelled x.dimensions)
        → FormTo (num_by v) (Standing outer_spot) (Standing (end_spot x.body)) forms.ReduceTail
        (ins_outs scope x.ins_outs xs ++ numbers_pieces (codes "dimensions") x.dimensions ++ block_arguments x.body.widths ++ opening ∷ body_pieces scope x.body)
        (IsSide (op_kind.Reduce x) xs (first_type x.ins_outs.outs_types))
    unfolding made ins_outs numbers_pieces attribute block_arguments body_pieces
    reduce_tail plain numbers =
        let N = naming v outer_spot refl in
        let M = naming v (with_blocks outer_spot 0 x.body.widths) (begin_at x.body) in
        let E = naming v (end_spot x.body) (end_same x.body).at in
        by_row N 1 refl refl (then_in_4 N (ins_spelled N scope x.ins_outs xs fits.ins_types) _ _ _ _ (then_is N (outs_spelled N scope x.ins_outs xs fits.outs_types)
        (then_token N keyword.the-dimensions (λ p i. then_token N keyword.the-equals (λ p i. then_is N (nums_spelled N x.dimensions numbers)
        (then_token N keyword.the-open (λ p i. then_in_2 N (arguments_spelled v outer_spot refl x.body.widths) _ _
        (then_token M keyword.the-close (λ p i. then_opening M (λ p i.
        then_form M (region_of x.body fits.names plain) (λ tail h. then_closing E (λ p i. end_row E (reduce_side tail h)))))))))))))

    pub reduce_spelled : AllByRecursion (λ y. is_on_index y.kind ≡ false) x.body.ops → IsTrue (list_all is_spelled x.dimensions)
        → FormTo (num_by v) (Standing outer_spot) Amid forms.RightSide (reduce_pieces scope x xs) (IsSide (op_kind.Reduce x) xs (first_type x.ins_outs.outs_types))
    unfolding made reduce_pieces along_pieces
    reduce_spelled plain numbers =
        let N = naming v outer_spot refl in
        form_between (λ σ h. h) (amid_end x.body) (by_row N 9 refl refl (last_form N
        (by_row N {n = forms.Reduce} {P = IsSide (op_kind.Reduce x) xs (first_type x.ins_outs.outs_types)} 0 refl refl
        (then_token N keyword.the-linalg_reduce (λ p i. last_form N (reduce_tail plain numbers) (λ p is. is))))
        (λ p is. (is.0, ap meaning.side_of is.1, is.2))))

  -- ## Generic operations

  generic_region : (body : Body) → RegionNames scope body
      → FormTo (num_by v) (Standing (with_blocks outer_spot 0 body.widths)) (Standing (end_spot body)) forms.GenericBody
      (flat_map (body_op_pieces (scope_of_body body) scope) body.ops ++ yield_pieces (name_inside (scope_of_body body) scope body.yields) body.width) (IsRegion body)
  generic_region body names = region_spelled v unit op (scope_of_body body) scope (own_names body) (generic_form v unit op (scope_of_body body) scope (own_names body))
      names.named body.ops (with_blocks outer_spot 0 body.widths) body.args (covers body names) body.yields body.width names.steps (each body.ops) names.uses
    where
      each : (ops : List BodyOp) → AllByRecursion (λ y. Unit {0}) ops
      each [] = tt
      each (y ∷ ops) = (tt, each ops)

  -- eight lists side by side
  nested_right : (a b c d e f g h : List Piece) → a ++ b ++ c ++ d ++ e ++ f ++ g ++ h ≡ a ++ (b ++ (c ++ (d ++ (e ++ (f ++ (g ++ h))))))
  nested_right a b c d e f g h =
      append_assoc (a ++ b ++ c ++ d ++ e ++ f) g h ∙ append_assoc (a ++ b ++ c ++ d ++ e) f (g ++ h) ∙ append_assoc (a ++ b ++ c ++ d) e (f ++ (g ++ h))
      ∙ append_assoc (a ++ b ++ c) d (e ++ (f ++ (g ++ h))) ∙ append_assoc (a ++ b) c (d ++ (e ++ (f ++ (g ++ h)))) ∙ append_assoc a b (c ++ (d ++ (e ++ (f ++ (g ++ h)))))

  maybe_ins_spelled : (x : InsOuts) (xs : List ℕ) → IsTrue (list_all is_spelled_type x.ins_types)
      → FormTo (num_by v) (Standing outer_spot) (Standing outer_spot) forms.MaybeIns (maybe_ins scope x xs) (λ p. p ≡ meaning.operands_of (map base (ins_values x xs)) x.ins_types)
  unfolding made maybe_ins
  maybe_ins_spelled x xs h = go (ins_values x xs) refl x.ins_types refl
    where
      N : Naming (num_by v)
      N = naming v outer_spot refl

      some : (ids : List ℕ) (types : List ValueType) → FormTo (num_by v) (Standing outer_spot) (Standing outer_spot) forms.MaybeIns (ins scope x xs) (λ p. p ≡ meaning.operands_of (map base (ins_values x xs)) x.ins_types)
      some ids types = by_row N 1 refl refl (last_is N (ins_spelled N scope x xs h) refl)

      go : (ids : List ℕ) → ins_values x xs ≡ ids → (types : List ValueType) → x.ins_types ≡ types
          → FormTo (num_by v) (Standing outer_spot) (Standing outer_spot) forms.MaybeIns (if are_none ids types then [] else ins scope x xs) (λ p. p ≡ meaning.operands_of (map base (ins_values x xs)) x.ins_types)
      go [] e [] f = by_row N 0 refl refl (end_row N (rw (e, f) refl))
      go [] e (t ∷ types) f = some [] (t ∷ types)
      go (id ∷ ids) e types f = some (id ∷ ids) types

  module _ (x : declared_generic.Generic) (xs : List ℕ) (t : ValueType) (fits : LoopFits x.body x.ins_outs xs) where
    abbrev made_generic : Part → Part → Part
    made_generic maps tail = meaning.generic (read_ins x.ins_outs xs) (read_outs x.ins_outs xs) maps (part.Iterators x.iterator_types) (body_of (read_blocks v outer_spot 0 x.body.widths) tail) (part.Type t)

    -- maps of which the words have other numbers are the same where they are numbered
    abbrev AreMaps : Part → Type 0
    AreMaps p = (ys : List AffineMap) × (p ≡ part.Maps ys) × (list_all is_numbered ys ≡ true → ys ≡ x.indexing_maps)

    generic_side : (maps tail : Part) → AreMaps maps → IsRegion x.body tail → IsSide (op_kind.Generic x) xs t (made_generic maps tail)
    generic_side maps tail m h = let rb : Body = read_body x.body fits.names h.0 h.1 in (
      op_kind.Generic (record x { indexing_maps = m.0; body = rb }),
      ap (λ q. made_generic q tail) m.1 ∙ ap (made_generic (part.Maps m.0)) h.2
          ∙ loop_side x.body fits.names x.ins_outs xs fits.count fits.captures (λ y. op_kind.Generic (record { ins_outs = y; indexing_maps = m.0; iterator_types = x.iterator_types; body = rb })) (captured_by rb)
          t (captured_read x.body fits.names h.0 h.1 h.3),
      λ numbered. ap (λ ys. op_kind.Generic (record x { indexing_maps = ys; body = renamed_body (λ id. id) rb })) (m.2 numbered)
          ∙ ap (λ b. op_kind.Generic (record x { body = b })) (same_body x.body fits.names h.0 h.1 h.3),
    )

    pub generic_spelled : IsTrue (is_spelled_type t) → FormTo (num_by v) (Standing outer_spot) (Standing outer_spot) forms.Maps (list_of map_pieces x.indexing_maps) AreMaps
        → FormTo (num_by v) (Standing outer_spot) Amid forms.RightSide (generic_pieces scope x xs t) (IsSide (op_kind.Generic x) xs t)
    unfolding made generic_pieces generic_attributes maps_pieces iterators_pieces attribute in_brackets header_pieces block_arguments body_pieces to_type
    generic_spelled spelled maps =
        let N = naming v outer_spot refl in
        let M = naming v (with_blocks outer_spot 0 x.body.widths) (begin_at x.body) in
        let E = naming v (end_spot x.body) (end_same x.body).at in
        let region : List Piece = flat_map (body_op_pieces (scope_of_body x.body) scope) x.body.ops ++ yield_pieces (name_inside (scope_of_body x.body) scope x.body.yields) x.body.width in
        let kinds : List Piece = token kind.Word (codes "iterator_types") ∷ sign "=" ∷ sign "[" ∷ list_of iterator_pieces x.iterator_types ++ sign "]" ∷ [] in
        form_between (λ σ h. h) (amid_end x.body) (by_row N 10 refl refl (last_form N
        (by_row N {n = forms.Generic} {P = IsSide (op_kind.Generic x) xs t} 0 refl refl
        (then_token N keyword.the-linalg_generic (λ p i. then_token N keyword.the-open_brace (λ p i. then_token N keyword.the-indexing_maps (λ p i. then_token N keyword.the-equals (λ p i.
        then_token N keyword.the-open_bracket (λ p i.
        row_by N (sym (append_assoc (list_of map_pieces x.indexing_maps ++ sign "]" ∷ [] ++ sign "," ∷ kinds ++ sign "}" ∷ [] ++ maybe_ins scope x.ins_outs xs ++ outs scope x.ins_outs xs ++ header_pieces x)
        (region ++ closing ∷ []) (sign "->" ∷ type_pieces t)
        ∙ nested_right (list_of map_pieces x.indexing_maps) (sign "]" ∷ []) (sign "," ∷ kinds) (sign "}" ∷ []) (maybe_ins scope x.ins_outs xs) (outs scope x.ins_outs xs)
        (header_pieces x) (region ++ closing ∷ [] ++ sign "->" ∷ type_pieces t)))
        (then_form N maps (λ q m. then_token N keyword.the-close_bracket (λ p i. then_token N keyword.the-comma (λ p i. then_token N keyword.the-iterator_types (λ p i. then_token N keyword.the-equals (λ p i.
        then_token N keyword.the-open_bracket (λ p i. then_in_2 N (kinds_spelled N x.iterator_types) _ _ (then_token N keyword.the-close_bracket (λ p i. then_token N keyword.the-close_brace (λ p i.
        then_is N (maybe_ins_spelled x.ins_outs xs fits.ins_types) (then_is N (outs_spelled N scope x.ins_outs xs fits.outs_types) (then_opening N (λ p i.
        then_token N block_class (λ p i. then_token N keyword.the-open (λ p i.
        then_in_3 N (arguments_spelled v outer_spot refl x.body.widths) _ _ _ (then_token M keyword.the-close (λ p i. then_token M keyword.the-colon (λ p i. then_line_end M (
        row_by M (sym (append_assoc region (closing ∷ []) (sign "->" ∷ type_pieces t)))
        (then_form M (generic_region x.body fits.names) (λ tail h. then_closing E (λ p i. then_token E keyword.the-arrow (λ p i. last_is E (type_spelled E t spelled) (generic_side q tail m h)
        ))))))))))))))))))))))))))))))
        (λ p is. (is.0, ap meaning.side_of is.1, is.2))))
