-- Modules that are alike have one text.
use Rattle.std.proofs.Common.{◌≡◌, ◌∙◌, ◌<◌, ◌+◌, ◌&&◌, ℕ, List, [], ◌∷◌, ◌++◌, get_or, map, take, drop, length, Option, Some, None, refl, ap, arith, codes, if◌then◌else◌}
use Rattle.std.specs.Prelude.{MatchOption, ⊤, ℤ, flat_map, option_map, option_to_list}
use Rattle.std.specs.List.{AllByRecursion}
use Rattle.sh_alike.specs.Renamed.{renamed_arg, renamed_body, renamed_body_op, renamed_func, renamed_kind, renamed_op}
use Rattle.sh_ir.specs.Formed.{OperandsFit}
use Rattle.sh_ir.specs.Regions.{own_names}
use Rattle.sh_ir.specs.Written.{written_by, written_in_body}
use Rattle.sh_ir.specs.declared.bodies.Body.{Body}
use Rattle.sh_ir.specs.declared.bodies.BodyKind.{BodyKind}
use Rattle.sh_ir.specs.declared.bodies.BodyKind.TheVariants as body_kind
use Rattle.sh_ir.specs.declared.bodies.BodyOp.{BodyOp}
use Rattle.sh_ir.specs.declared.functions.Arg.{Arg}
use Rattle.sh_ir.specs.declared.functions.Func.{Func}
use Rattle.sh_ir.specs.declared.linalg_ops.InsOuts.{InsOuts}
use Rattle.sh_ir.specs.declared.operations.Op.{Op}
use Rattle.sh_ir.specs.declared.operations.OpKind.{OpKind}
use Rattle.sh_ir.specs.declared.operations.OpKind.TheVariants as op_kind
use Rattle.sh_ir.specs.declared.types.ValueType.{ValueType}
use Rattle.sh_lex.specs.declared.tokens.TokenKind.TheVariants as kind
use Rattle.sh_print.specs.Layout.{Piece}
use Rattle.sh_print.specs.Layout.Piece.{closing, line_end, opening, token}
use Rattle.sh_print.specs.Spellings.{list_of, rest_of_list, sign, word}
use Rattle.sh_print.specs.Tokens.{all_gather_pieces, all_reduce_pieces, all_slice_pieces, all_to_all_pieces, along_pieces, are_none, axis_pieces, binary_pieces, block_arguments, body_kind_pieces, body_op_pieces, body_pieces, call_op_pieces, call_types, cast_pieces, collapse_pieces, compare_pieces, defined, device_pieces, expand_pieces, extract_pieces, flag, func_pieces, generic_attributes, generic_pieces, header_pieces, index_cast_pieces, ins, ins_outs, ins_values, insert_pieces, is_empty, iterators_pieces, join_pieces, kind_pieces, maps_pieces, maybe_ins, numbers_pieces, of_type, op_pieces, operands_pieces, ops_pieces, outs, outs_values, pad_pieces, parameter, parameters_pieces, reduce_pieces, reduce_scatter_pieces, results_pieces, return_pieces, scope_of, scope_of_body, select_pieces, shard_pieces, shift_pieces, signature_pieces, structured_pieces, symbol, take_pieces, to_type, typed_values, types as type_list, update_halo_pieces, value_in, values, yield_pieces}
use Rattle.sh_print.specs.Values.{Scope, name_in, name_inside, value}
use Rattle.sh_print.specs.declared.names.Name.{Name}
use Rattle.sh_print_laws.specs.Printable.{names_defined}
use Rattle.sh_print_laws.proofs.RenamedNames.{AreRenamed, SameNames, body_scopes, drop_mapped, first_same, func_scopes, inside_same, name_same, nth_same, rest_same, take_mapped}

module _ (r : ℕ → ℕ) (Used : ℕ → Type 0) (apart : (a b : ℕ) → Used a → Used b → r a ≡ r b → a ≡ b) where
  -- ## Operands by their places

  module _ (before after : ℕ → Name) where
    abbrev Same : List ℕ → Type 0
    Same xs = SameNames r Used apart before after xs

    nth : (xs : List ℕ) (i : ℕ) → Same xs → i < length xs → after (get_or (map r xs) i 0) ≡ before (get_or xs i 0)
    nth xs i h less = nth_same r Used apart before after xs i h less

    unary : (pieces : Name → List Piece) (xs : List ℕ) → length xs ≡ 1 + 0 → Same xs → pieces (after (get_or (map r xs) 0 0)) ≡ pieces (before (get_or xs 0 0))
    unary pieces xs count h = ap pieces (nth xs 0 h (omega arith))

    binary : (pieces : Name → Name → List Piece) (xs : List ℕ) → length xs ≡ 2 + 0 → Same xs
        → pieces (after (get_or (map r xs) 0 0)) (after (get_or (map r xs) 1 0)) ≡ pieces (before (get_or xs 0 0)) (before (get_or xs 1 0))
    binary pieces xs count h =
        ap (λ a. pieces a (after (get_or (map r xs) 1 0))) (nth xs 0 h (omega arith)) ∙ ap (λ b. pieces (before (get_or xs 0 0)) b) (nth xs 1 h (omega arith))

    ternary : (pieces : Name → Name → Name → List Piece) (xs : List ℕ) → length xs ≡ 3 + 0 → Same xs
        → pieces (after (get_or (map r xs) 0 0)) (after (get_or (map r xs) 1 0)) (after (get_or (map r xs) 2 0)) ≡ pieces (before (get_or xs 0 0)) (before (get_or xs 1 0)) (before (get_or xs 2 0))
    ternary pieces xs count h =
        ap (λ a. pieces a (after (get_or (map r xs) 1 0)) (after (get_or (map r xs) 2 0))) (nth xs 0 h (omega arith))
        ∙ ap (λ b. pieces (before (get_or xs 0 0)) b (after (get_or (map r xs) 2 0))) (nth xs 1 h (omega arith))
        ∙ ap (λ c. pieces (before (get_or xs 0 0)) (before (get_or xs 1 0)) c) (nth xs 2 h (omega arith))

  -- ## Operations of regions

  module _ (own own' s t : Scope) where
    abbrev SameInside : List ℕ → Type 0
    SameInside xs = SameNames r Used apart (name_inside own s) (name_inside own' t) xs

    body_kind_same : (k : BodyKind) (xs : List ℕ) (ty : ValueType) → OperandsFit (written_in_body k) xs → SameInside xs
        → body_kind_pieces k own' t (map r xs) ty ≡ body_kind_pieces k own s xs ty
    unfolding body_kind_pieces
    body_kind_same (body_kind.Constant c) xs ty count h = refl
    body_kind_same (body_kind.Binary op) xs ty count h = binary (name_inside own s) (name_inside own' t) (λ a b. binary_pieces op a b ty) xs count h
    body_kind_same (body_kind.Compare x) xs ty count h = binary (name_inside own s) (name_inside own' t) (λ a b. compare_pieces x a b) xs count h
    body_kind_same (body_kind.Select x) xs ty count h = ternary (name_inside own s) (name_inside own' t) (λ c a b. select_pieces x.condition_type c a b ty) xs count h
    body_kind_same (body_kind.Cast x) xs ty count h = unary (name_inside own s) (name_inside own' t) (λ a. cast_pieces x a ty) xs count h
    body_kind_same (body_kind.Index x) xs ty count h = refl
    body_kind_same body_kind.IndexCast xs ty count h = unary (name_inside own s) (name_inside own' t) (λ a. index_cast_pieces a ty) xs count h

    -- What is known of an operation of a region.
    abbrev StepSame : BodyOp → Type 0
    StepSame x = OperandsFit (written_in_body x.kind) x.operands × SameInside x.operands × (name_inside own' t (r x.defines) ≡ name_inside own s x.defines)

    body_op_same : (x : BodyOp) → StepSame x → body_op_pieces own' t (renamed_body_op r x) ≡ body_op_pieces own s x
    unfolding body_op_pieces
    body_op_same x h =
        ap (λ n. value n ∷ sign "=" ∷ body_kind_pieces x.kind own' t (map r x.operands) x.result ++ line_end ∷ []) h.2
        ∙ ap (λ ps. value (name_inside own s x.defines) ∷ sign "=" ∷ ps ++ line_end ∷ []) (body_kind_same x.kind x.operands x.result h.0 h.1)

    body_ops_same : (ops : List BodyOp) → AllByRecursion StepSame ops → flat_map (body_op_pieces own' t) (map (renamed_body_op r) ops) ≡ flat_map (body_op_pieces own s) ops
    body_ops_same [] h = refl
    body_ops_same (x ∷ ops) h =
        ap (λ ps. ps ++ flat_map (body_op_pieces own' t) (map (renamed_body_op r) ops)) (body_op_same x h.0) ∙ ap (λ ps. body_op_pieces own s x ++ ps) (body_ops_same ops h.1)

  -- ## Operations

  module _ (s t : Scope) where
    abbrev SameIn : List ℕ → Type 0
    SameIn xs = SameNames r Used apart (name_in s) (name_in t) xs

    rest_values : (xs : List ℕ) → SameIn xs → rest_of_list (value_in t) (map r xs) ≡ rest_of_list (value_in s) xs
    unfolding value_in
    rest_values [] h = refl
    rest_values (x ∷ xs) h = ap (λ n. sign "," ∷ value n ∷ rest_of_list (value_in t) (map r xs)) h.0 ∙ ap (λ ps. sign "," ∷ value (name_in s x) ∷ ps) (rest_values xs h.1)

    values_same : (xs : List ℕ) → SameIn xs → values t (map r xs) ≡ values s xs
    unfolding values value_in
    values_same [] h = refl
    values_same (x ∷ xs) h = ap (λ n. value n ∷ rest_of_list (value_in t) (map r xs)) h.0 ∙ ap (λ ps. value (name_in s x) ∷ ps) (rest_values xs h.1)

    typed_same : (xs : List ℕ) (types : List ValueType) → SameIn xs → typed_values t (map r xs) types ≡ typed_values s xs types
    unfolding typed_values
    typed_same xs types h = ap (λ ps. ps ++ sign ":" ∷ type_list types) (values_same xs h)

    side_same : (name : List ℕ) (xs : List ℕ) (types : List ValueType) → SameIn xs → operands_pieces name t (map r xs) types ≡ operands_pieces name s xs types
    unfolding operands_pieces
    side_same name xs types h = ap (λ ps. token kind.Word name ∷ sign "(" ∷ ps ++ sign ")" ∷ []) (typed_same xs types h)

    ins_same : (x : InsOuts) (xs : List ℕ) → SameIn xs → ins t x (map r xs) ≡ ins s x xs
    unfolding ins
    ins_same x xs h = ap (λ ys. operands_pieces (codes "ins") t ys x.ins_types) (take_mapped r Used apart x.ins_count xs)
        ∙ side_same (codes "ins") (ins_values x xs) x.ins_types (first_same r Used apart (name_in s) (name_in t) x.ins_count xs h)

    outs_same : (x : InsOuts) (xs : List ℕ) → SameIn xs → outs t x (map r xs) ≡ outs s x xs
    unfolding outs
    outs_same x xs h =
        ap (λ ys. operands_pieces (codes "outs") t (take x.outs_count ys) x.outs_types) (drop_mapped r Used apart x.ins_count xs)
        ∙ ap (λ ys. operands_pieces (codes "outs") t ys x.outs_types) (take_mapped r Used apart x.outs_count (drop x.ins_count xs))
        ∙ side_same (codes "outs") (outs_values x xs) x.outs_types (first_same r Used apart (name_in s) (name_in t) x.outs_count (drop x.ins_count xs) (rest_same r Used apart (name_in s) (name_in t) x.ins_count xs h))

    sides_same : (x : InsOuts) (xs : List ℕ) → SameIn xs → ins_outs t x (map r xs) ≡ ins_outs s x xs
    unfolding ins_outs
    sides_same x xs h = ap (λ ps. ps ++ outs t x (map r xs)) (ins_same x xs h) ∙ ap (λ ps. ins s x xs ++ ps) (outs_same x xs h)

    empty_same : (xs : List ℕ) → is_empty (map r xs) ≡ is_empty xs
    empty_same [] = refl
    empty_same (x ∷ xs) = refl

    maybe_ins_same : (x : InsOuts) (xs : List ℕ) → SameIn xs → maybe_ins t x (map r xs) ≡ maybe_ins s x xs
    unfolding maybe_ins
    maybe_ins_same x xs h =
        ap (λ b. if b && is_empty x.ins_types then [] else ins t x (map r xs)) (ap is_empty (take_mapped r Used apart x.ins_count xs) ∙ empty_same (ins_values x xs))
        ∙ ap (λ ps. if are_none (ins_values x xs) x.ins_types then [] else ps) (ins_same x xs h)

    structured_same : (name : List ℕ) (x : InsOuts) (xs : List ℕ) (ty : ValueType) → SameIn xs → structured_pieces name t x (map r xs) ty ≡ structured_pieces name s x xs ty
    unfolding structured_pieces
    structured_same name x xs ty h = ap (λ ps. token kind.Word name ∷ ps ++ to_type ty) (sides_same x xs h)

    along_same : (name : List ℕ) (x : InsOuts) (xs : List ℕ) (along : List ℕ) (zs : List ℤ) → SameIn xs → along_pieces name t x (map r xs) along zs ≡ along_pieces name s x xs along zs
    unfolding along_pieces
    along_same name x xs along zs h = ap (λ ps. token kind.Word name ∷ ps ++ numbers_pieces along zs) (sides_same x xs h)

    -- the region is printed the same
    abbrev RegionSame : Body → Type 0
    RegionSame body = body_pieces t (renamed_body r body) ≡ body_pieces s body

    kind_same : (k : OpKind) (xs : List ℕ) (ty : ValueType) → OperandsFit (written_by k) xs → SameIn xs → MatchOption (written_by k).body ⊤ RegionSame
        → kind_pieces t (renamed_kind r k) (map r xs) ty ≡ kind_pieces s k xs ty
    unfolding kind_pieces reduce_pieces generic_pieces generic_attributes maps_pieces iterators_pieces header_pieces join_pieces call_op_pieces return_pieces
    kind_same (op_kind.Constant x) xs ty count h body = refl
    kind_same (op_kind.Binary op) xs ty count h body = binary (name_in s) (name_in t) (λ a b. binary_pieces op a b ty) xs count h
    kind_same (op_kind.Compare x) xs ty count h body = binary (name_in s) (name_in t) (λ a b. compare_pieces x a b) xs count h
    kind_same (op_kind.Select x) xs ty count h body = ternary (name_in s) (name_in t) (λ c a b. select_pieces x.condition_type c a b ty) xs count h
    kind_same (op_kind.Cast x) xs ty count h body = unary (name_in s) (name_in t) (λ a. cast_pieces x a ty) xs count h
    kind_same op_kind.Empty xs ty count h body = refl
    kind_same (op_kind.ExtractSlice x) xs ty count h body = unary (name_in s) (name_in t) (λ a. extract_pieces x a ty) xs count h
    kind_same (op_kind.InsertSlice x) xs ty count h body = binary (name_in s) (name_in t) (λ a b. insert_pieces x a b ty) xs count h
    kind_same (op_kind.CollapseShape x) xs ty count h body = unary (name_in s) (name_in t) (λ a. collapse_pieces x a ty) xs count h
    kind_same (op_kind.ExpandShape x) xs ty count h body = unary (name_in s) (name_in t) (λ a. expand_pieces x a ty) xs count h
    kind_same (op_kind.Fill x) xs ty count h body = structured_same (codes "linalg.fill") x xs ty h
    kind_same (op_kind.Matmul x) xs ty count h body = structured_same (codes "linalg.matmul") x xs ty h
    kind_same (op_kind.BatchMatmul x) xs ty count h body = structured_same (codes "linalg.batch_matmul") x xs ty h
    kind_same (op_kind.Matvec x) xs ty count h body = structured_same (codes "linalg.matvec") x xs ty h
    kind_same (op_kind.Vecmat x) xs ty count h body = structured_same (codes "linalg.vecmat") x xs ty h
    kind_same (op_kind.Dot x) xs ty count h body = structured_same (codes "linalg.dot") x xs ty h
    kind_same (op_kind.Conv1d x) xs ty count h body = structured_same (codes "linalg.conv_1d") x xs ty h
    kind_same (op_kind.Conv2d x) xs ty count h body = structured_same (codes "linalg.conv_2d") x xs ty h
    kind_same (op_kind.Transpose x) xs ty count h body = along_same (codes "linalg.transpose") x.ins_outs xs (codes "permutation") x.permutation h
    kind_same (op_kind.Broadcast x) xs ty count h body = along_same (codes "linalg.broadcast") x.ins_outs xs (codes "dimensions") x.dimensions h
    kind_same (op_kind.Reduce x) xs ty count h body =
        ap (λ ps. ps ++ block_arguments x.body.widths ++ opening ∷ body_pieces t (renamed_body r x.body)) (along_same (codes "linalg.reduce") x.ins_outs xs (codes "dimensions") x.dimensions h)
        ∙ ap (λ ps. along_pieces (codes "linalg.reduce") s x.ins_outs xs (codes "dimensions") x.dimensions ++ block_arguments x.body.widths ++ opening ∷ ps) body
    kind_same (op_kind.Generic x) xs ty count h body =
        ap (λ ps. word "linalg.generic" ∷ generic_attributes x ++ ps ++ outs t x.ins_outs (map r xs) ++ header_pieces x ++ body_pieces t (renamed_body r x.body) ++ to_type ty) (maybe_ins_same x.ins_outs xs h)
        ∙ ap (λ ps. word "linalg.generic" ∷ generic_attributes x ++ maybe_ins s x.ins_outs xs ++ ps ++ header_pieces x ++ body_pieces t (renamed_body r x.body) ++ to_type ty) (outs_same x.ins_outs xs h)
        ∙ ap (λ ps. word "linalg.generic" ∷ generic_attributes x ++ maybe_ins s x.ins_outs xs ++ outs s x.ins_outs xs ++ header_pieces x ++ ps ++ to_type ty) body
    kind_same (op_kind.Sharding x) xs ty count h body = refl
    kind_same (op_kind.Shard x) xs ty count h body = binary (name_in s) (name_in t) (λ a b. shard_pieces x a b ty) xs count h
    kind_same (op_kind.AllGather x) xs ty count h body = unary (name_in s) (name_in t) (λ a. all_gather_pieces x a ty) xs count h
    kind_same (op_kind.AllSlice x) xs ty count h body = unary (name_in s) (name_in t) (λ a. all_slice_pieces x a ty) xs count h
    kind_same (op_kind.AllReduce x) xs ty count h body = unary (name_in s) (name_in t) (λ a. all_reduce_pieces x a ty) xs count h
    kind_same (op_kind.ReduceScatter x) xs ty count h body = unary (name_in s) (name_in t) (λ a. reduce_scatter_pieces x a ty) xs count h
    kind_same (op_kind.AllToAll x) xs ty count h body = unary (name_in s) (name_in t) (λ a. all_to_all_pieces x a ty) xs count h
    kind_same (op_kind.Shift x) xs ty count h body = unary (name_in s) (name_in t) (λ a. shift_pieces x a ty) xs count h
    kind_same (op_kind.UpdateHalo x) xs ty count h body = unary (name_in s) (name_in t) (λ a. update_halo_pieces x a ty) xs count h
    kind_same (op_kind.Take x) xs ty count h body = unary (name_in s) (name_in t) (λ a. take_pieces x a ty) xs count h
    kind_same (op_kind.Pad x) xs ty count h body = unary (name_in s) (name_in t) (λ a. pad_pieces x a ty) xs count h
    kind_same (op_kind.Join x) xs ty count h body =
        ap (λ ps. word "shardrun.join" ∷ ps ++ axis_pieces (codes "axis") x.axis ++ sign ":" ∷ type_list x.operand_types ++ to_type ty) (values_same xs h)
    kind_same (op_kind.Call x) xs ty count h body =
        ap (λ ps. word "call" ∷ symbol x.callee ∷ sign "(" ∷ ps ++ sign ")" ∷ sign ":" ∷ call_types x ++ to_type ty) (values_same xs h)
    kind_same (op_kind.Return x) xs ty count h body =
        ap (λ b. word "return" ∷ (if b && is_empty x.operand_types then [] else typed_values t (map r xs) x.operand_types)) (empty_same xs)
        ∙ ap (λ ps. word "return" ∷ (if are_none xs x.operand_types then [] else ps)) (typed_same xs x.operand_types h)

  -- ## Regions and operations

  abbrev AreUsed : List ℕ → Type 0
  AreUsed xs = AllByRecursion Used xs

  -- What is known of the names of a region.
  pub record BodyUsed (body : Body) : Type 0 where
    pub own : AreUsed (own_names body)
    pub fit : AllByRecursion (λ x. OperandsFit (written_in_body x.kind) x.operands) body.ops
    pub operands : AllByRecursion (λ x. AreUsed x.operands) body.ops
    pub defines : AllByRecursion (λ x. Used x.defines) body.ops
    pub yields : Used body.yields

  -- and of an operation
  pub record OpUsed (x : Op) : Type 0 where
    pub fit : OperandsFit (written_by x.kind) x.operands
    pub operands : AreUsed x.operands
    pub defines : AreUsed (option_to_list x.defines)
    pub body : MatchOption (written_by x.kind).body ⊤ BodyUsed

  module _ (s t : Scope) (scopes : AreRenamed r Used apart s t) where
    names_in : (xs : List ℕ) → AreUsed xs → SameIn s t xs
    names_in [] h = tt
    names_in (x ∷ xs) h = (name_same r Used apart s t scopes x h.0, names_in xs h.1)

    module _ (body : Body) (used : BodyUsed body) where
      own_same : AreRenamed r Used apart (scope_of_body body) (scope_of_body (renamed_body r body))
      own_same = body_scopes r Used apart body used.own

      names_inside : (xs : List ℕ) → AreUsed xs → SameInside (scope_of_body body) (scope_of_body (renamed_body r body)) s t xs
      names_inside [] h = tt
      names_inside (x ∷ xs) h = (inside_same r Used apart (scope_of_body body) (scope_of_body (renamed_body r body)) s t own_same scopes x h.0, names_inside xs h.1)

      steps_same : (ops : List BodyOp) → AllByRecursion (λ x. OperandsFit (written_in_body x.kind) x.operands) ops → AllByRecursion (λ x. AreUsed x.operands) ops → AllByRecursion (λ x. Used x.defines) ops
          → AllByRecursion (StepSame (scope_of_body body) (scope_of_body (renamed_body r body)) s t) ops
      steps_same [] fit operands defines = tt
      steps_same (x ∷ ops) fit operands defines =
          ((fit.0, names_inside x.operands operands.0, inside_same r Used apart (scope_of_body body) (scope_of_body (renamed_body r body)) s t own_same scopes x.defines defines.0), steps_same ops fit.1 operands.1 defines.1)

      region_same : RegionSame s t body
      unfolding body_pieces
      region_same =
          ap (λ ps. ps ++ yield_pieces (name_inside (scope_of_body (renamed_body r body)) t (r body.yields)) body.width ++ closing ∷ [])
          (body_ops_same (scope_of_body body) (scope_of_body (renamed_body r body)) s t body.ops (steps_same body.ops used.fit used.operands used.defines))
          ∙ ap (λ n. flat_map (body_op_pieces (scope_of_body body) s) body.ops ++ yield_pieces n body.width ++ closing ∷ [])
          (inside_same r Used apart (scope_of_body body) (scope_of_body (renamed_body r body)) s t own_same scopes body.yields used.yields)

    regions_same : (o : Option Body) → MatchOption o ⊤ BodyUsed → MatchOption o ⊤ (RegionSame s t)
    regions_same None h = tt
    regions_same (Some body) h = region_same body h

    defined_same : (o : Option ℕ) → AreUsed (option_to_list o) → defined t (option_map r o) ≡ defined s o
    unfolding defined
    defined_same None h = refl
    defined_same (Some id) h = ap (λ n. value n ∷ sign "=" ∷ []) (name_same r Used apart s t scopes id h.0)

    op_same : (x : Op) → OpUsed x → op_pieces t (renamed_op r x) ≡ op_pieces s x
    unfolding op_pieces
    op_same x used =
        ap (λ ps. ps ++ kind_pieces t (renamed_kind r x.kind) (map r x.operands) x.result ++ line_end ∷ []) (defined_same x.defines used.defines)
        ∙ ap (λ ps. defined s x.defines ++ ps ++ line_end ∷ []) (kind_same s t x.kind x.operands x.result used.fit (names_in x.operands used.operands) (regions_same (written_by x.kind).body used.body))

    ops_same : (ops : List Op) → AllByRecursion OpUsed ops → flat_map (op_pieces t) (map (renamed_op r) ops) ≡ flat_map (op_pieces s) ops
    ops_same [] h = refl
    ops_same (x ∷ ops) h = ap (λ ps. ps ++ flat_map (op_pieces t) (map (renamed_op r) ops)) (op_same x h.0) ∙ ap (λ ps. op_pieces s x ++ ps) (ops_same ops h.1)

    more_parameters : (args : List Arg) → AreUsed (map (λ arg. arg.id) args) → rest_of_list (parameter t) (map (renamed_arg r) args) ≡ rest_of_list (parameter s) args
    unfolding parameter
    more_parameters [] h = refl
    more_parameters (x ∷ args) h =
        ap (λ n. sign "," ∷ value n ∷ of_type x.value_type ++ rest_of_list (parameter t) (map (renamed_arg r) args)) (name_same r Used apart s t scopes x.id h.0)
        ∙ ap (λ ps. sign "," ∷ value (name_in s x.id) ∷ of_type x.value_type ++ ps) (more_parameters args h.1)

    parameters_same : (args : List Arg) → AreUsed (map (λ arg. arg.id) args) → list_of (parameter t) (map (renamed_arg r) args) ≡ list_of (parameter s) args
    unfolding parameter
    parameters_same [] h = refl
    parameters_same (x ∷ args) h =
        ap (λ n. value n ∷ of_type x.value_type ++ rest_of_list (parameter t) (map (renamed_arg r) args)) (name_same r Used apart s t scopes x.id h.0)
        ∙ ap (λ ps. value (name_in s x.id) ∷ of_type x.value_type ++ ps) (more_parameters args h.1)

  -- ## Functions

  pub func_same : (f : Func) → AreUsed (names_defined f) → AreUsed (map (λ arg. arg.id) f.args) → AllByRecursion OpUsed f.ops → func_pieces (renamed_func r f) ≡ func_pieces f
  unfolding func_pieces signature_pieces parameters_pieces ops_pieces
  func_same f names args ops =
      let s : Scope = scope_of f in
      let t : Scope = scope_of (renamed_func r f) in
      let scopes = func_scopes r Used apart f names in
      let head : List Piece = word "func.func" ∷ flag (codes "private") f.private in
      ap (λ ps. device_pieces f.name f.carry ++ (head ++ symbol f.name ∷ (sign "(" ∷ ps ++ sign ")" ∷ []) ++ results_pieces f.results) ++ (opening ∷ flat_map (op_pieces t) (map (renamed_op r) f.ops) ++ closing ∷ line_end ∷ []))
      (parameters_same s t scopes f.args args)
      ∙ ap (λ ps. device_pieces f.name f.carry ++ (head ++ symbol f.name ∷ (sign "(" ∷ list_of (parameter s) f.args ++ sign ")" ∷ []) ++ results_pieces f.results) ++ (opening ∷ ps ++ closing ∷ line_end ∷ []))
      (ops_same s t scopes f.ops ops)
