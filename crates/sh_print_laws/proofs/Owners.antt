-- Functions that are read so are alike: each name in use has one number, and each number one name.
use Rattle.std.proofs.Common.{◌≡◌, ◌∙◌, ◌<◌, ◌≤◌, ◌+◌, ◌⊎◌, inl, inr, ◌||◌, ℕ, Bool, true, false, nat_eq, List, [], ◌∷◌, ◌++◌, map, Option, Some, None, refl, ap, sym, subst, arith, if◌then◌else◌}
use Rattle.std.specs.Prelude.{MatchOption, ⊤, flat_map, option_to_list}
use Rattle.std.specs.List.{AllByRecursion, list_any}
use Rattle.std.specs.Option.{option_map_or}
use Rattle.std.proofs.lemmas.Bool.{cases_Bool, eqb-true, or_cases, or_left, or_parts, or_right}
use Rattle.sh_alike.proofs.Renaming.{args_agree, op_agree, op_names, region_names, regions_cons}
use Rattle.sh_alike.specs.Alike.{AreAlike, AreAlikeEach, AreAlikeFuncs, names_in_use, names_of_body}
use Rattle.sh_alike.specs.Renamed.{placeless_func, renamed_arg, renamed_op}
use Rattle.sh_ir.specs.Formed.{bodies_in, func_names}
use Rattle.sh_ir.specs.Regions.{is_among, own_names}
use Rattle.sh_ir.specs.Written.{written_by}
use Rattle.sh_ir.specs.declared.bodies.Body.{Body}
use Rattle.sh_ir.specs.declared.bodies.BodyOp.{BodyOp}
use Rattle.sh_ir.specs.declared.functions.Arg.{Arg}
use Rattle.sh_ir.specs.declared.functions.Func.{Func}
use Rattle.sh_ir.specs.declared.modules.Module.{Module}
use Rattle.sh_ir.specs.declared.operations.Op.{Op}
use Rattle.sh_names.specs.Names.{Owned}
use Rattle.sh_parse.proofs.formed.EachOf.{each_append, each_so}
use Rattle.sh_print.specs.Tokens.{op_pieces, scope_of}
use Rattle.sh_print.specs.Values.{Scope, name_in, name_text}
use Rattle.sh_print_laws.proofs.Counted.{token_count}
use Rattle.sh_print_laws.proofs.FunctionForms.{AreNumbered, number_in, read_ops}
use Rattle.sh_print_laws.proofs.Heads.{anyone}
use Rattle.sh_print_laws.proofs.ItemForms.{FuncRead}
use Rattle.sh_print_laws.proofs.LoopForms.{RegionNames, base, reader, reader_base, reader_of, region_text}
use Rattle.sh_print_laws.proofs.ModuleForms.{AreRead, CarriedRead, ModuleRead}
use Rattle.sh_print_laws.proofs.Standing.{owned}

-- the region of the operation defines the name
abbrev pub owns_in : Op → ℕ → Bool
owns_in x id = option_map_or (λ body. is_among (own_names body) id) (written_by x.kind).body false

abbrev pub IsDefined : Scope → ℕ → Type 0
IsDefined scope id = is_among scope.ids id ≡ true

-- What is known of the names of an operation.
pub record OpNames (scope : Scope) (x : Op) : Type 0 where
  pub regions : MatchOption (written_by x.kind).body ⊤ (λ body. RegionNames scope body)
  pub used : AllByRecursion (IsDefined scope) (op_names x)
  pub some : 0 < token_count (op_pieces scope x)

-- no two regions define one name
abbrev pub AreDisjoint : List Op → Type 0
AreDisjoint [] = ⊤
AreDisjoint (x ∷ ops) = ((id : ℕ) → list_any (λ y. owns_in y id) ops ≡ true → owns_in x id ≡ false) × AreDisjoint ops

-- What is known of the names of a function.
pub record FuncNames (f : Func) : Type 0 where
  pub args : AllByRecursion (IsDefined (scope_of f)) (map (λ arg. arg.id) f.args)
  pub ops : AllByRecursion (OpNames (scope_of f)) f.ops
  pub free : (id : ℕ) → IsDefined (scope_of f) id → list_any (λ x. owns_in x id) f.ops ≡ false
  pub disjoint : AreDisjoint f.ops
  pub texts : (a b : ℕ) → IsDefined (scope_of f) a → IsDefined (scope_of f) b → name_text (name_in (scope_of f) a) ≡ name_text (name_in (scope_of f) b) → a ≡ b

at_among : (P : ℕ → Type 0) (xs : List ℕ) (a : ℕ) → AllByRecursion P xs → is_among xs a ≡ true → P a
at_among P [] a h g = absurd (let e : false ≡ true = g in cc)
at_among P (x ∷ xs) a h g = elim (or_cases (nat_eq a x) (is_among xs a) g) [
  | inl e ↦ subst P (sym (eqb-true a x e)) h.0
  | inr e ↦ at_among P xs a h.1 e
]

module _ (v : Owned → ℕ) (apart : (x y : Owned) → x.unit ≡ y.unit → v x ≡ v y → x ≡ y) (unit : ℕ) (scope : Scope) where
  abbrev outer_owner : ℕ → Owned
  outer_owner id = owned unit None (name_text (name_in scope id))

  abbrev region_owner : ℕ → Option Body → ℕ → Owned
  region_owner k None id = outer_owner id
  region_owner k (Some body) id = owned unit (Some k) (region_text scope body id)

  -- whose name it is, the operations beginning at this token
  abbrev owner : ℕ → List Op → ℕ → Owned
  owner k [] id = outer_owner id
  owner k (x ∷ ops) id = if owns_in x id then region_owner k (written_by x.kind).body id else owner (k + token_count (op_pieces scope x)) ops id

  -- a name that the function or one of these regions defines
  abbrev UsedBy : List Op → ℕ → Type 0
  UsedBy ops id = IsDefined scope id ⊎ (list_any (λ x. owns_in x id) ops ≡ true)

  -- ## The number of a name by its owner

  own_read : (k : ℕ) (o : Option Body) (id : ℕ) → option_map_or (λ body. is_among (own_names body) id) o false ≡ true
      → option_map_or (λ body. reader v apart anyone unit k scope body) o (base v apart anyone unit k scope) id ≡ v (region_owner k o id)
  own_read k None id h = absurd (let e : false ≡ true = h in cc)
  own_read k (Some body) id h = rw h refl

  outer_read : (k : ℕ) (o : Option Body) → MatchOption o ⊤ (λ body. RegionNames scope body) → (id : ℕ) → option_map_or (λ body. is_among (own_names body) id) o false ≡ false
      → option_map_or (λ body. reader v apart anyone unit k scope body) o (base v apart anyone unit k scope) id ≡ v (outer_owner id)
  outer_read k None names id h = refl
  outer_read k (Some body) names id h = reader_base v apart anyone unit k scope body names id h

  owner_free : (ops : List Op) (k : ℕ) (id : ℕ) → list_any (λ x. owns_in x id) ops ≡ false → owner k ops id ≡ outer_owner id
  owner_free [] k id h = refl
  owner_free (x ∷ ops) k id h = let both = or_parts (owns_in x id) (list_any (λ y. owns_in y id) ops) h in rw both.0 (owner_free ops (k + token_count (op_pieces scope x)) id both.1)

  -- ## The names of one operation

  abbrev UsedAt : Op → ℕ → Type 0
  UsedAt x id = IsDefined scope id ⊎ (owns_in x id ≡ true)

  operands_used : (P : ℕ → Type 0) (ops : List BodyOp) → AllByRecursion (λ x. AllByRecursion P x.operands × P x.defines) ops → AllByRecursion P (flat_map (λ op. op.operands) ops)
  operands_used P [] h = tt
  operands_used P (x ∷ ops) h = each_append P x.operands (flat_map (λ op. op.operands) ops) h.0.0 (operands_used P ops h.1)

  defines_used : (P : ℕ → Type 0) (ops : List BodyOp) → AllByRecursion (λ x. AllByRecursion P x.operands × P x.defines) ops → AllByRecursion P (map (λ op. op.defines) ops)
  defines_used P [] h = tt
  defines_used P (x ∷ ops) h = (h.0.1, defines_used P ops h.1)

  body_used : (o : Option Body) → MatchOption o ⊤ (λ body. RegionNames scope body)
      → AllByRecursion (λ id. IsDefined scope id ⊎ (option_map_or (λ body. is_among (own_names body) id) o false ≡ true)) (flat_map names_of_body (option_to_list o))
  body_used None names = tt
  body_used (Some body) names =
      let P : ℕ → Type 0 = λ id. IsDefined scope id ⊎ (is_among (own_names body) id ≡ true) in
      let swap = λ (id : ℕ) (h : (is_among (own_names body) id ≡ true) ⊎ IsDefined scope id). (let it : P id = elim h [ inl a ↦ inr a | inr b ↦ inl b ] in it) in
      let args = each_so _ P body.args swap names.args_used in
      let ops = each_so _ (λ x. AllByRecursion P x.operands × P x.defines) body.ops (λ x h. (each_so _ P x.operands swap h.0, swap x.defines h.1)) names.ops_used in
      each_append P (names_of_body body) []
      (each_append P (own_names body ++ flat_map (λ op. op.operands) body.ops) (body.yields ∷ [])
      (each_append P (own_names body) (flat_map (λ op. op.operands) body.ops) (each_append P body.args (map (λ op. op.defines) body.ops) args (defines_used P body.ops ops)) (operands_used P body.ops ops))
      (swap body.yields names.yields_used, tt)) tt

  -- ## Operations with renamed names

  -- the names that no region of these defines aren't names of the first either
  module _ (r : ℕ → ℕ) where
    op_alike : (x : Op) (ops : List Op) (k : ℕ) → OpNames scope x → ((id : ℕ) → IsDefined scope id → list_any (λ y. owns_in y id) (x ∷ ops) ≡ false)
        → ((id : ℕ) → UsedBy (x ∷ ops) id → r id ≡ v (owner k (x ∷ ops) id)) → renamed_op r x ≡ renamed_op (reader_of v apart anyone unit k scope x.kind) x
    op_alike x ops k names free same =
        let outer = λ (id : ℕ) (h : IsDefined scope id).
        (let it : r id ≡ reader_of v apart anyone unit k scope x.kind id =
        same id (inl h) ∙ ap v (owner_free (x ∷ ops) k id (free id h))
        ∙ sym (outer_read k (written_by x.kind).body names.regions id (or_parts (owns_in x id) (list_any (λ y. owns_in y id) ops) (free id h)).0) in it) in
        let own = λ (id : ℕ) (h : owns_in x id ≡ true).
        (let it : r id ≡ reader_of v apart anyone unit k scope x.kind id =
        same id (inr (or_left (owns_in x id) (list_any (λ y. owns_in y id) ops) h))
        ∙ ap (λ b. v (if b then region_owner k (written_by x.kind).body id else owner (k + token_count (op_pieces scope x)) ops id)) h
        ∙ sym (own_read k (written_by x.kind).body id h) in it) in
        op_agree r (reader_of v apart anyone unit k scope x.kind) x
        (each_so (UsedAt x) (λ a. r a ≡ reader_of v apart anyone unit k scope x.kind a) (region_names x.kind) (λ a h. elim h [ inl d ↦ outer a d | inr o ↦ own a o ]) (body_used (written_by x.kind).body names.regions))
        (each_so (IsDefined scope) (λ a. r a ≡ reader_of v apart anyone unit k scope x.kind a) (op_names x) outer names.used)

    ops_alike : (ops : List Op) (k : ℕ) → AllByRecursion (OpNames scope) ops → ((id : ℕ) → IsDefined scope id → list_any (λ y. owns_in y id) ops ≡ false) → AreDisjoint ops
        → ((id : ℕ) → UsedBy ops id → r id ≡ v (owner k ops id)) → map (renamed_op r) ops ≡ read_ops v apart anyone unit scope k ops
    ops_alike [] k names free disjoint same = refl
    ops_alike (x ∷ ops) k names free disjoint same =
        let later = λ (id : ℕ) (h : UsedBy ops id).
        (let none : owns_in x id ≡ false = elim h [
          | inl d ↦ (or_parts (owns_in x id) (list_any (λ y. owns_in y id) ops) (free id d)).0
          | inr o ↦ disjoint.0 id o
        ] in
        let used : UsedBy (x ∷ ops) id = elim h [
          | inl d ↦ inl d
          | inr o ↦ inr (or_right (owns_in x id) (list_any (λ y. owns_in y id) ops) o)
        ] in
        let it : r id ≡ v (owner (k + token_count (op_pieces scope x)) ops id) =
        same id used ∙ ap (λ b. v (if b then region_owner k (written_by x.kind).body id else owner (k + token_count (op_pieces scope x)) ops id)) none in it) in
        ap (λ o. o ∷ map (renamed_op r) ops) (op_alike x ops k names.0 free same)
        ∙ ap (λ os. renamed_op (reader_of v apart anyone unit k scope x.kind) x ∷ os)
        (ops_alike ops (k + token_count (op_pieces scope x)) names.1 (λ id d. (or_parts (owns_in x id) (list_any (λ y. owns_in y id) ops) (free id d)).1) disjoint.1 later)

  -- ## Owners are apart

  abbrev RegionFrom : ℕ → Option ℕ → Type 0
  RegionFrom k None = ⊤
  RegionFrom k (Some j) = k ≤ j

  region_later : (k j : ℕ) (o : Option ℕ) → j ≤ k → RegionFrom k o → RegionFrom j o
  region_later k j None less h = tt
  region_later k j (Some i) less h = omega arith

  region_from : (k : ℕ) (o : Option Body) (id : ℕ) → RegionFrom k (region_owner k o id).region
  region_from k None id = tt
  region_from k (Some body) id = (let e : k ≤ k = omega arith in e)

  owner_from : (ops : List Op) (k : ℕ) (id : ℕ) → RegionFrom k (owner k ops id).region
  owner_from [] k id = tt
  owner_from (x ∷ ops) k id = elim (cases_Bool (owns_in x id)) [
    | inl e ↦ rw e (region_from k (written_by x.kind).body id)
    | inr e ↦ rw e (region_later (k + token_count (op_pieces scope x)) k (owner (k + token_count (op_pieces scope x)) ops id).region (omega arith) (owner_from ops (k + token_count (op_pieces scope x)) id))
  ]

  -- a name of this region isn't one of a later operation
  not_later : (k : ℕ) (o : Option Body) (a : ℕ) (y : Owned) (n : ℕ) → option_map_or (λ body. is_among (own_names body) a) o false ≡ true → 0 < n → RegionFrom (k + n) y.region → region_owner k o a ≡ y → ⊥
  not_later k None a y n h some from e = absurd (let no : false ≡ true = h in cc)
  not_later k (Some body) a y n h some from e =
      let is : RegionFrom (k + n) (Some k) = subst (λ z. RegionFrom (k + n) z.region) (sym e) from in absurd (let less : k + n ≤ k = is in omega arith)

  same_region : (k : ℕ) (o : Option Body) → MatchOption o ⊤ (λ body. RegionNames scope body) → (a b : ℕ) → option_map_or (λ body. is_among (own_names body) a) o false ≡ true → option_map_or (λ body. is_among (own_names body) b) o false ≡ true
      → region_owner k o a ≡ region_owner k o b → a ≡ b
  same_region k None names a b h g e = absurd (let no : false ≡ true = h in cc)
  same_region k (Some body) names a b h g e = names.same a b (inl h) (inl g) (h ∙ sym g) (ap (λ x. x.text) e)

  module _ (texts : (a b : ℕ) → IsDefined scope a → IsDefined scope b → name_text (name_in scope a) ≡ name_text (name_in scope b) → a ≡ b) where
    used_later : (x : Op) (ops : List Op) (a : ℕ) → owns_in x a ≡ false → UsedBy (x ∷ ops) a → UsedBy ops a
    used_later x ops a none (inl d) = inl d
    used_later x ops a none (inr o) = inr (ap (λ b. b || list_any (λ y. owns_in y a) ops) (sym none) ∙ o)

    owners_apart : (ops : List Op) (k : ℕ) → AllByRecursion (OpNames scope) ops → (a b : ℕ) → UsedBy ops a → UsedBy ops b → owner k ops a ≡ owner k ops b → a ≡ b
    owners_apart [] k names a b (inl h) (inl g) e = texts a b h g (ap (λ x. x.text) e)
    owners_apart [] k names a b (inr h) g e = absurd (let no : false ≡ true = h in cc)
    owners_apart [] k names a b (inl h) (inr g) e = absurd (let no : false ≡ true = g in cc)
    owners_apart (x ∷ ops) k names a b h g e = by (owns_in x a) (owns_in x b) refl refl (owners_apart ops)
      where
        next : ℕ
        next = k + token_count (op_pieces scope x)

        by : (p q : Bool) → owns_in x a ≡ p → owns_in x b ≡ q
            → ((j : ℕ) → AllByRecursion (OpNames scope) ops → (a b : ℕ) → UsedBy ops a → UsedBy ops b → owner j ops a ≡ owner j ops b → a ≡ b) → a ≡ b
        by true true is its again = same_region k (written_by x.kind).body names.0.regions a b is its (rw (is, its) at e)
        by true false is its again = absurd (not_later k (written_by x.kind).body a (owner next ops b) (token_count (op_pieces scope x)) is names.0.some (owner_from ops next b) (rw (is, its) at e))
        by false true is its again = absurd (not_later k (written_by x.kind).body b (owner next ops a) (token_count (op_pieces scope x)) its names.0.some (owner_from ops next a) (sym (rw (is, its) at e)))
        by false false is its again = again next names.1 a b (used_later x ops a is h) (used_later x ops b its g) (rw (is, its) at e)

  -- ## Functions

  owner_unit : (ops : List Op) (k : ℕ) (id : ℕ) → (owner k ops id).unit ≡ unit
  owner_unit [] k id = refl
  owner_unit (x ∷ ops) k id = elim (cases_Bool (owns_in x id)) [
    | inl e ↦ rw e (one_unit (written_by x.kind).body)
    | inr e ↦ rw e (owner_unit ops (k + token_count (op_pieces scope x)) id)
  ]
    where
      one_unit : (o : Option Body) → (region_owner k o id).unit ≡ unit
      one_unit None = refl
      one_unit (Some body) = refl

  regions_used : (ops : List Op) → AllByRecursion (OpNames scope) ops → AllByRecursion (UsedBy ops) (flat_map names_of_body (bodies_in ops))
  regions_used [] h = tt
  regions_used (x ∷ ops) h = subst (AllByRecursion (UsedBy (x ∷ ops))) (sym (regions_cons x ops))
      (each_append (UsedBy (x ∷ ops)) (region_names x.kind) (flat_map names_of_body (bodies_in ops))
      (each_so (UsedAt x) (UsedBy (x ∷ ops)) (region_names x.kind) first (body_used (written_by x.kind).body h.0.regions))
      (each_so (UsedBy ops) (UsedBy (x ∷ ops)) (flat_map names_of_body (bodies_in ops)) later (regions_used ops h.1)))
    where
      first : (a : ℕ) → UsedAt x a → UsedBy (x ∷ ops) a
      first a (inl d) = inl d
      first a (inr o) = inr (or_left (owns_in x a) (list_any (λ y. owns_in y a) ops) o)

      later : (a : ℕ) → UsedBy ops a → UsedBy (x ∷ ops) a
      later a (inl d) = inl d
      later a (inr o) = inr (or_right (owns_in x a) (list_any (λ y. owns_in y a) ops) o)

  operations_used : (ops : List Op) → AllByRecursion (OpNames scope) ops → AllByRecursion (IsDefined scope) (flat_map op_names ops)
  operations_used [] h = tt
  operations_used (x ∷ ops) h = each_append (IsDefined scope) (op_names x) (flat_map op_names ops) h.0.used (operations_used ops h.1)

args_same : (args : List Arg) → map (renamed_arg (λ id. id)) args ≡ args
args_same [] = refl
args_same (arg ∷ args) = ap (λ xs. arg ∷ xs) (args_same args)

module _ (v : Owned → ℕ) (apart : (x y : Owned) → x.unit ≡ y.unit → v x ≡ v y → x ≡ y) where
  all_used : (f : Func) (unit : ℕ) → FuncNames f → AllByRecursion (UsedBy v apart unit (scope_of f) f.ops) (names_in_use f)
  all_used f unit names =
      let P : ℕ → Type 0 = UsedBy v apart unit (scope_of f) f.ops in
      each_append P (func_names f) (flat_map names_of_body (bodies_in f.ops))
      (each_so (IsDefined (scope_of f)) P (func_names f) (λ a d. inl d)
      (each_append (IsDefined (scope_of f)) (map (λ arg. arg.id) f.args) (flat_map op_names f.ops) names.args (operations_used v apart unit (scope_of f) f.ops names.ops)))
      (regions_used v apart unit (scope_of f) f.ops names.ops)

  -- what is read of a function is alike, where its maps are numbered
  pub func_alike : (f g : Func) → FuncNames f → FuncRead v apart (scope_of f) f g → AreNumbered g.ops → AreAlikeFuncs (record f { carry = None }) g
  func_alike f g names read numbered =
      let scope : Scope = scope_of f in
      let owns_name : ℕ → Owned = owner v apart read.unit scope read.first f.ops in
      let r : ℕ → ℕ = λ id. v (owns_name id) in
      let used = all_used f read.unit names in
      let outer = λ (a : ℕ) (d : IsDefined scope a). (let it : r a ≡ number_in v apart anyone read.unit scope a = ap v (owner_free v apart read.unit scope f.ops read.first a (names.free a d)) in it) in
      let args : map (renamed_arg r) f.args ≡ map (renamed_arg (λ id. id)) g.args =
      args_agree r (number_in v apart anyone read.unit scope) f.args (each_so (IsDefined scope) (λ a. r a ≡ number_in v apart anyone read.unit scope a) (map (λ arg. arg.id) f.args) outer names.args)
      ∙ sym (args_same (map (renamed_arg (number_in v apart anyone read.unit scope)) f.args)) ∙ ap (map (renamed_arg (λ id. id))) (sym read.args) in
      let ops : map (renamed_op r) f.ops ≡ map (renamed_op (λ id. id)) g.ops =
      ops_alike v apart read.unit scope r f.ops read.first names.ops names.free names.disjoint (λ id h. refl) ∙ sym (read.ops numbered) in
      record {
        renaming = r;
        apart = λ a b h g e.
            let x = at_among (UsedBy v apart read.unit scope f.ops) (names_in_use f) a used h in
            let y = at_among (UsedBy v apart read.unit scope f.ops) (names_in_use f) b used g in
            owners_apart v apart read.unit scope names.texts f.ops read.first names.ops a b x y
            (apart (owns_name a) (owns_name b) (owner_unit v apart read.unit scope f.ops read.first a ∙ sym (owner_unit v apart read.unit scope f.ops read.first b)) e);
        same = rw (args, ops, sym read.name, sym read.private, sym read.results, sym read.carry) refl;
      }

  pub carried_alike : (f g : Func) → FuncNames f → CarriedRead v apart f g → AreNumbered g.ops → AreAlikeFuncs f g
  carried_alike f g names c numbered =
      let bare_numbered : AreNumbered c.bare.ops = subst (λ h. AreNumbered h.ops) c.is numbered in
      let a = func_alike f c.bare names c.read bare_numbered in
      record { renaming = a.renaming; apart = a.apart; same = ap {A = Func} {B = Func} (λ h. record h { carry = f.carry }) a.same ∙ ap placeless_func (sym c.is) }

  pub all_alike : (fs gs : List Func) → AllByRecursion FuncNames fs → AreRead v apart fs gs → AllByRecursion (λ g. AreNumbered g.ops) gs → AreAlikeEach fs gs
  all_alike [] [] names read numbered = tt
  all_alike [] (g ∷ gs) names read numbered = absurd read
  all_alike (f ∷ fs) [] names read numbered = absurd read
  all_alike (f ∷ fs) (g ∷ gs) names read numbered = (carried_alike f g names.0 read.0 numbered.0, all_alike fs gs names.1 read.1 numbered.1)

  -- so is what is read of a module
  pub module_alike : (m n : Module) → AllByRecursion FuncNames m.funcs → ModuleRead v apart m n → AllByRecursion (λ g. AreNumbered g.ops) n.funcs → AreAlike m n
  module_alike m n names read numbered = record {
    name = sym read.of_name;
    grids = sym read.of_grids;
    funcs = all_alike m.funcs n.funcs names read.of_funcs numbered;
    calls = sym read.of_calls;
  }
