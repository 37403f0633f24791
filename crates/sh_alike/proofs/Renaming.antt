-- What renaming does: it asks for the names in use alone, goes by chains, and renames the names in use.
use Rattle.std.proofs.Common.{◌≡◌, ◌∙◌, ℕ, List, [], ◌∷◌, ◌++◌, map, Option, Some, None, refl, ap, sym, append_assoc}
use Rattle.std.specs.Prelude.{flat_map, option_map, option_to_list}
use Rattle.std.specs.List.{AllByRecursion, cons_option}
use Rattle.std.proofs.lemmas.List.{append-nil, map-append}
use Rattle.std.proofs.lemmas.Simd.{map-map}
use Rattle.sh_ir.specs.Formed.{bodies_in, func_names}
use Rattle.sh_ir.specs.Regions.{own_names}
use Rattle.sh_ir.specs.Written.{written_by}
use Rattle.sh_ir.specs.declared.bodies.Body.{Body}
use Rattle.sh_ir.specs.declared.bodies.BodyOp.{BodyOp}
use Rattle.sh_ir.specs.declared.functions.Arg.{Arg}
use Rattle.sh_ir.specs.declared.functions.Func.{Func}
use Rattle.sh_ir.specs.declared.operations.Op.{Op}
use Rattle.sh_ir.specs.declared.operations.OpKind.{OpKind}
use Rattle.sh_ir.specs.declared.operations.OpKind.TheVariants.{Constant, Binary, Compare, Select, Cast, Empty, ExtractSlice, InsertSlice, CollapseShape, ExpandShape, Fill, Matmul, BatchMatmul, Matvec, Vecmat, Dot, Conv1d, Conv2d, Transpose, Broadcast, Reduce, Generic, Sharding, Shard, AllGather, AllSlice, AllReduce, ReduceScatter, AllToAll, Shift, UpdateHalo, Take, Pad, Join, Call, Return}
use Rattle.sh_alike.specs.Alike.{names_in_use, names_of_body}
use Rattle.sh_alike.specs.Renamed.{renamed_arg, renamed_body, renamed_body_op, renamed_func, renamed_kind, renamed_op}

module _ {X : Type 0} (P : X → Type 0) where
  pub each_front : (xs ys : List X) → AllByRecursion P (xs ++ ys) → AllByRecursion P xs
  each_front [] ys h = tt
  each_front (x ∷ xs) ys h = (h.0, each_front xs ys h.1)

  pub each_behind : (xs ys : List X) → AllByRecursion P (xs ++ ys) → AllByRecursion P ys
  each_behind [] ys h = h
  each_behind (x ∷ xs) ys h = each_behind xs ys h.1

-- the names that a region of the operation defines or uses
abbrev pub region_names : OpKind → List ℕ
region_names k = flat_map names_of_body (option_to_list (written_by k).body)

-- ## The same names, renamed to the same

abbrev pub Agree : (ℕ → ℕ) → (ℕ → ℕ) → List ℕ → Type 0
Agree r s names = AllByRecursion (λ a. r a ≡ s a) names

module _ (r s : ℕ → ℕ) where
  agree_front : (xs ys : List ℕ) → Agree r s (xs ++ ys) → Agree r s xs
  agree_front = each_front (λ a. r a ≡ s a)

  agree_behind : (xs ys : List ℕ) → Agree r s (xs ++ ys) → Agree r s ys
  agree_behind = each_behind (λ a. r a ≡ s a)

  pub ids_agree : (ids : List ℕ) → Agree r s ids → map r ids ≡ map s ids
  ids_agree [] h = refl
  ids_agree (id ∷ ids) h = rw (h.0, ids_agree ids h.1) refl

  option_agree : (o : Option ℕ) → Agree r s (option_to_list o) → option_map r o ≡ option_map s o
  option_agree None h = refl
  option_agree (Some id) h = ap Some h.0

  body_ops_agree : (ops : List BodyOp) → Agree r s (map (λ op. op.defines) ops) → Agree r s (flat_map (λ op. op.operands) ops)
      → map (renamed_body_op r) ops ≡ map (renamed_body_op s) ops
  body_ops_agree [] defined used = refl
  body_ops_agree (op ∷ ops) defined used =
      let operands : map r op.operands ≡ map s op.operands = ids_agree op.operands (agree_front op.operands (flat_map (λ op. op.operands) ops) used) in
      let rest = body_ops_agree ops defined.1 (agree_behind op.operands (flat_map (λ op. op.operands) ops) used) in
      rw (operands, defined.0, rest) refl

  pub body_agree : (body : Body) → Agree r s (names_of_body body) → renamed_body r body ≡ renamed_body s body
  body_agree body h =
      let own = agree_front (own_names body) _ (agree_front (own_names body ++ flat_map (λ op. op.operands) body.ops) (body.yields ∷ []) h) in
      let used = agree_behind (own_names body) (flat_map (λ op. op.operands) body.ops) (agree_front (own_names body ++ flat_map (λ op. op.operands) body.ops) (body.yields ∷ []) h) in
      let args : map r body.args ≡ map s body.args = ids_agree body.args (agree_front body.args (map (λ op. op.defines) body.ops) own) in
      let ops : map (renamed_body_op r) body.ops ≡ map (renamed_body_op s) body.ops =
      body_ops_agree body.ops (agree_behind body.args (map (λ op. op.defines) body.ops) own) used in
      let yields : r body.yields ≡ s body.yields =
      (agree_behind (own_names body ++ flat_map (λ op. op.operands) body.ops) (body.yields ∷ []) h).0 in
      rw (args, ops, yields) refl

  kind_agree : (k : OpKind) → Agree r s (region_names k) → renamed_kind r k ≡ renamed_kind s k
  kind_agree (Constant x) h = refl
  kind_agree (Binary x) h = refl
  kind_agree (Compare x) h = refl
  kind_agree (Select x) h = refl
  kind_agree (Cast x) h = refl
  kind_agree Empty h = refl
  kind_agree (ExtractSlice x) h = refl
  kind_agree (InsertSlice x) h = refl
  kind_agree (CollapseShape x) h = refl
  kind_agree (ExpandShape x) h = refl
  kind_agree (Fill x) h = refl
  kind_agree (Matmul x) h = refl
  kind_agree (BatchMatmul x) h = refl
  kind_agree (Matvec x) h = refl
  kind_agree (Vecmat x) h = refl
  kind_agree (Dot x) h = refl
  kind_agree (Conv1d x) h = refl
  kind_agree (Conv2d x) h = refl
  kind_agree (Transpose x) h = refl
  kind_agree (Broadcast x) h = refl
  kind_agree (Reduce x) h = ap (λ body. Reduce (record x { body = body })) (body_agree x.body (agree_front (names_of_body x.body) [] h))
  kind_agree (Generic x) h = ap (λ body. Generic (record x { body = body })) (body_agree x.body (agree_front (names_of_body x.body) [] h))
  kind_agree (Sharding x) h = refl
  kind_agree (Shard x) h = refl
  kind_agree (AllGather x) h = refl
  kind_agree (AllSlice x) h = refl
  kind_agree (AllReduce x) h = refl
  kind_agree (ReduceScatter x) h = refl
  kind_agree (AllToAll x) h = refl
  kind_agree (Shift x) h = refl
  kind_agree (UpdateHalo x) h = refl
  kind_agree (Take x) h = refl
  kind_agree (Pad x) h = refl
  kind_agree (Join x) h = refl
  kind_agree (Call x) h = refl
  kind_agree (Return x) h = refl

  pub op_agree : (op : Op) → Agree r s (region_names op.kind) → Agree r s (op.operands ++ option_to_list op.defines) → renamed_op r op ≡ renamed_op s op
  op_agree op inner outer =
      let kind = kind_agree op.kind inner in
      let operands = ids_agree op.operands (agree_front op.operands (option_to_list op.defines) outer) in
      let defines = option_agree op.defines (agree_behind op.operands (option_to_list op.defines) outer) in
      rw (kind, operands, defines) refl

abbrev pub op_names : Op → List ℕ
op_names op = op.operands ++ option_to_list op.defines

one_more : (o : Option Body) (bodies : List Body)
    → flat_map names_of_body (cons_option o bodies) ≡ flat_map names_of_body (option_to_list o) ++ flat_map names_of_body bodies
one_more None bodies = refl
one_more (Some body) bodies = sym (append_assoc (names_of_body body) [] _)

-- the names of the regions of some operations
pub regions_cons : (op : Op) (ops : List Op)
    → flat_map names_of_body (bodies_in (op ∷ ops)) ≡ region_names op.kind ++ flat_map names_of_body (bodies_in ops)
regions_cons op ops = one_more (written_by op.kind).body (bodies_in ops)

module _ (r s : ℕ → ℕ) where
  ops_agree : (ops : List Op) → Agree r s (flat_map op_names ops) → Agree r s (flat_map names_of_body (bodies_in ops))
      → map (renamed_op r) ops ≡ map (renamed_op s) ops
  ops_agree [] outer inner = refl
  ops_agree (op ∷ ops) outer inner =
      let regions : Agree r s (region_names op.kind ++ flat_map names_of_body (bodies_in ops)) = rw (regions_cons op ops) at inner in
      let first = op_agree r s op (agree_front r s (region_names op.kind) _ regions) (agree_front r s (op_names op) _ outer) in
      let rest = ops_agree ops (agree_behind r s (op_names op) _ outer) (agree_behind r s (region_names op.kind) _ regions) in
      rw (first, rest) refl

  pub args_agree : (args : List Arg) → Agree r s (map (λ arg. arg.id) args) → map (renamed_arg r) args ≡ map (renamed_arg s) args
  args_agree [] h = refl
  args_agree (arg ∷ args) h = rw (h.0, args_agree args h.1) refl

  -- functions are renamed alike where the names in use are
  pub func_agree : (f : Func) → Agree r s (names_in_use f) → renamed_func r f ≡ renamed_func s f
  func_agree f h =
      let outer = agree_front r s (func_names f) (flat_map names_of_body (bodies_in f.ops)) h in
      let inner = agree_behind r s (func_names f) (flat_map names_of_body (bodies_in f.ops)) h in
      let args = args_agree f.args (agree_front r s (map (λ arg. arg.id) f.args) (flat_map op_names f.ops) outer) in
      let ops = ops_agree f.ops (agree_behind r s (map (λ arg. arg.id) f.args) (flat_map op_names f.ops) outer) inner in
      rw (args, ops) refl

  -- ## Renamed twice

  abbrev after : ℕ → ℕ
  after id = s (r id)

  body_op_twice : (op : BodyOp) → renamed_body_op s (renamed_body_op r op) ≡ renamed_body_op after op
  body_op_twice op = rw (map-map s r op.operands) refl

  body_ops_twice : (ops : List BodyOp) → map (renamed_body_op s) (map (renamed_body_op r) ops) ≡ map (renamed_body_op after) ops
  body_ops_twice [] = refl
  body_ops_twice (op ∷ ops) = rw (body_op_twice op, body_ops_twice ops) refl

  body_twice : (body : Body) → renamed_body s (renamed_body r body) ≡ renamed_body after body
  body_twice body = rw (map-map s r body.args, body_ops_twice body.ops) refl

  kind_twice : (k : OpKind) → renamed_kind s (renamed_kind r k) ≡ renamed_kind after k
  kind_twice (Constant x) = refl
  kind_twice (Binary x) = refl
  kind_twice (Compare x) = refl
  kind_twice (Select x) = refl
  kind_twice (Cast x) = refl
  kind_twice Empty = refl
  kind_twice (ExtractSlice x) = refl
  kind_twice (InsertSlice x) = refl
  kind_twice (CollapseShape x) = refl
  kind_twice (ExpandShape x) = refl
  kind_twice (Fill x) = refl
  kind_twice (Matmul x) = refl
  kind_twice (BatchMatmul x) = refl
  kind_twice (Matvec x) = refl
  kind_twice (Vecmat x) = refl
  kind_twice (Dot x) = refl
  kind_twice (Conv1d x) = refl
  kind_twice (Conv2d x) = refl
  kind_twice (Transpose x) = refl
  kind_twice (Broadcast x) = refl
  kind_twice (Reduce x) = ap (λ body. Reduce (record x { body = body })) (body_twice x.body)
  kind_twice (Generic x) = ap (λ body. Generic (record x { body = body })) (body_twice x.body)
  kind_twice (Sharding x) = refl
  kind_twice (Shard x) = refl
  kind_twice (AllGather x) = refl
  kind_twice (AllSlice x) = refl
  kind_twice (AllReduce x) = refl
  kind_twice (ReduceScatter x) = refl
  kind_twice (AllToAll x) = refl
  kind_twice (Shift x) = refl
  kind_twice (UpdateHalo x) = refl
  kind_twice (Take x) = refl
  kind_twice (Pad x) = refl
  kind_twice (Join x) = refl
  kind_twice (Call x) = refl
  kind_twice (Return x) = refl

  option_twice : (o : Option ℕ) → option_map s (option_map r o) ≡ option_map after o
  option_twice None = refl
  option_twice (Some id) = refl

  op_twice : (op : Op) → renamed_op s (renamed_op r op) ≡ renamed_op after op
  op_twice op = rw (kind_twice op.kind, map-map s r op.operands, option_twice op.defines) refl

  ops_twice : (ops : List Op) → map (renamed_op s) (map (renamed_op r) ops) ≡ map (renamed_op after) ops
  ops_twice [] = refl
  ops_twice (op ∷ ops) = rw (op_twice op, ops_twice ops) refl

  args_twice : (args : List Arg) → map (renamed_arg s) (map (renamed_arg r) args) ≡ map (renamed_arg after) args
  args_twice [] = refl
  args_twice (arg ∷ args) = ap (λ more. renamed_arg after arg ∷ more) (args_twice args)

  pub func_twice : (f : Func) → renamed_func s (renamed_func r f) ≡ renamed_func (λ id. s (r id)) f
  func_twice f = rw (args_twice f.args, ops_twice f.ops) refl

-- ## The names in use of what is renamed

module _ (r : ℕ → ℕ) where
  defined_renamed : (ops : List BodyOp) → map (λ op. op.defines) (map (renamed_body_op r) ops) ≡ map r (map (λ op. op.defines) ops)
  defined_renamed [] = refl
  defined_renamed (op ∷ ops) = ap (λ ids. r op.defines ∷ ids) (defined_renamed ops)

  used_renamed : (ops : List BodyOp) → flat_map (λ op. op.operands) (map (renamed_body_op r) ops) ≡ map r (flat_map (λ op. op.operands) ops)
  used_renamed [] = refl
  used_renamed (op ∷ ops) = rw (used_renamed ops) (sym (map-append r op.operands (flat_map (λ op. op.operands) ops)))

  pub own_renamed : (body : Body) → own_names (renamed_body r body) ≡ map r (own_names body)
  own_renamed body = rw (defined_renamed body.ops) (sym (map-append r body.args (map (λ op. op.defines) body.ops)))

  pub body_names : (body : Body) → names_of_body (renamed_body r body) ≡ map r (names_of_body body)
  body_names body =
      let uses : List ℕ = flat_map (λ op. op.operands) body.ops in
      rw (own_renamed body, used_renamed body.ops)
      (ap (λ front. front ++ r body.yields ∷ []) (sym (map-append r (own_names body) uses))
      ∙ sym (map-append r (own_names body ++ uses) (body.yields ∷ [])))

  one_region : (body : Body) → flat_map names_of_body (renamed_body r body ∷ []) ≡ map r (flat_map names_of_body (body ∷ []))
  one_region body = rw (append-nil (names_of_body (renamed_body r body)), append-nil (names_of_body body)) (body_names body)

  kind_names : (k : OpKind) → region_names (renamed_kind r k) ≡ map r (region_names k)
  kind_names (Constant x) = refl
  kind_names (Binary x) = refl
  kind_names (Compare x) = refl
  kind_names (Select x) = refl
  kind_names (Cast x) = refl
  kind_names Empty = refl
  kind_names (ExtractSlice x) = refl
  kind_names (InsertSlice x) = refl
  kind_names (CollapseShape x) = refl
  kind_names (ExpandShape x) = refl
  kind_names (Fill x) = refl
  kind_names (Matmul x) = refl
  kind_names (BatchMatmul x) = refl
  kind_names (Matvec x) = refl
  kind_names (Vecmat x) = refl
  kind_names (Dot x) = refl
  kind_names (Conv1d x) = refl
  kind_names (Conv2d x) = refl
  kind_names (Transpose x) = refl
  kind_names (Broadcast x) = refl
  kind_names (Reduce x) = one_region x.body
  kind_names (Generic x) = one_region x.body
  kind_names (Sharding x) = refl
  kind_names (Shard x) = refl
  kind_names (AllGather x) = refl
  kind_names (AllSlice x) = refl
  kind_names (AllReduce x) = refl
  kind_names (ReduceScatter x) = refl
  kind_names (AllToAll x) = refl
  kind_names (Shift x) = refl
  kind_names (UpdateHalo x) = refl
  kind_names (Take x) = refl
  kind_names (Pad x) = refl
  kind_names (Join x) = refl
  kind_names (Call x) = refl
  kind_names (Return x) = refl

  option_names : (o : Option ℕ) → option_to_list (option_map r o) ≡ map r (option_to_list o)
  option_names None = refl
  option_names (Some id) = refl

  regions_renamed : (ops : List Op)
      → flat_map names_of_body (bodies_in (map (renamed_op r) ops)) ≡ map r (flat_map names_of_body (bodies_in ops))
  regions_renamed [] = refl
  regions_renamed (op ∷ ops) =
      regions_cons (renamed_op r op) (map (renamed_op r) ops)
      ∙ ap (λ names. names ++ flat_map names_of_body (bodies_in (map (renamed_op r) ops))) (kind_names op.kind)
      ∙ ap (λ names. map r (region_names op.kind) ++ names) (regions_renamed ops)
      ∙ sym (map-append r (region_names op.kind) (flat_map names_of_body (bodies_in ops)))
      ∙ ap (map r) (sym (regions_cons op ops))

  ops_names : (ops : List Op) → flat_map op_names (map (renamed_op r) ops) ≡ map r (flat_map op_names ops)
  ops_names [] = refl
  ops_names (op ∷ ops) =
      ap (λ names. (map r op.operands ++ names) ++ flat_map op_names (map (renamed_op r) ops)) (option_names op.defines)
      ∙ ap (λ names. names ++ flat_map op_names (map (renamed_op r) ops)) (sym (map-append r op.operands (option_to_list op.defines)))
      ∙ ap (λ names. map r (op_names op) ++ names) (ops_names ops)
      ∙ sym (map-append r (op_names op) (flat_map op_names ops))

  args_names : (args : List Arg) → map (λ arg. arg.id) (map (renamed_arg r) args) ≡ map r (map (λ arg. arg.id) args)
  args_names [] = refl
  args_names (arg ∷ args) = ap (λ ids. r arg.id ∷ ids) (args_names args)

  func_names_renamed : (f : Func) → func_names (renamed_func r f) ≡ map r (func_names f)
  func_names_renamed f =
      rw (args_names f.args, ops_names f.ops) (sym (map-append r (map (λ arg. arg.id) f.args) (flat_map op_names f.ops)))

  pub names_renamed : (f : Func) → names_in_use (renamed_func r f) ≡ map r (names_in_use f)
  names_renamed f =
      rw (func_names_renamed f, regions_renamed f.ops)
      (sym (map-append r (func_names f) (flat_map names_of_body (bodies_in f.ops))))
