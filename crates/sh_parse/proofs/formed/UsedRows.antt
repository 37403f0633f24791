-- Each row of the grammar whose names are used from a state on makes a part whose names are.
use Rattle.std.proofs.Common.{◌≡◌, ◌∙◌, ℕ, zero, suc, Bool, true, false, inl, inr, List, [], ◌∷◌, ◌++◌, Option, Some, None, refl, sym, subst}
use Rattle.std.specs.Prelude.{slice_get}
use Rattle.std.specs.List.{AllByRecursion, list_all}
use Rattle.std.proofs.lemmas.Bool.{and_parts, cases_Bool, false≢true, true≢false}
use Rattle.std.proofs.lemmas.Option.{same_Some}
use Rattle.sh_build.specs.Meaning.{constant_side, made, selecting, structured_kind, structured_side}
use Rattle.sh_build.specs.Readings.{arg_in, args_in, id_in, operands_in, structured_in, type_in, types_in}
use Rattle.sh_build.specs.declared.parts.Alias.{Alias}
use Rattle.sh_build.specs.declared.parts.Operands.{Operands}
use Rattle.sh_build.specs.declared.parts.Part.{Part}
use Rattle.sh_build.specs.declared.parts.Part.TheVariants as part
use Rattle.sh_build.specs.declared.parts.StructuredName as structured_name
use Rattle.sh_build.specs.declared.parts.StructuredName.TheVariants as structured
use Rattle.sh_grammar.specs.Grammar.{Spells, Trees}
use Rattle.sh_grammar.specs.Grammar.Spells.{is_form, is_nothing, is_token}
use Rattle.sh_grammar.specs.Language.{language}
use Rattle.sh_grammar.specs.declared.forms.Form.{Form}
use Rattle.sh_grammar.specs.declared.forms.Form.TheVariants as forms
use Rattle.sh_grammar.specs.declared.symbols.Symbol.{Symbol}
use Rattle.sh_grammar.specs.declared.symbols.Symbol.TheVariants as symbol
use Rattle.sh_ir.specs.declared.types.ValueType.{ValueType}
use Rattle.sh_names.specs.Names.{Owned, distinct}
use Rattle.sh_parse.proofs.formed.EachOf.{each_append, each_before}
use Rattle.sh_parse.proofs.formed.MapsNumbered.{IsPlain, behind_plain}
use Rattle.sh_parse.proofs.formed.QuietForms.{Same, enter_same, is_quiet, quiet_body, quiet_past, same_step, same_then}
use Rattle.sh_parse.proofs.formed.RowFacts.{Fits, ForRows, by_row, row_at, rows_of_all}
use Rattle.sh_parse.proofs.formed.States.{Below, Starts, enter_below, past_below, starts_before, step_below}
use Rattle.sh_parse.proofs.formed.UsedNames.{ArithUses, IsConstant, IsUsed, SideUses, UsedBy, Uses, used_name, uses_as}
use Rattle.sh_parse.proofs.formed.Walks.{State, enter, parts_at, past, step}

both_used : (aliases : List Alias) (all : List Owned) (σ : State) (ins outs : Operands) → AllByRecursion (Uses all σ) ins.values
    → AllByRecursion (Uses all σ) outs.values → AllByRecursion (Uses all σ) (ins.values ++ outs.values ++ [])
both_used aliases all σ ins outs i o =
    each_append (Uses all σ) (ins.values ++ outs.values) [] (each_append (Uses all σ) ins.values outs.values i o) tt

structured_uses : (aliases : List Alias) (all : List Owned) (σ : State) (name : structured_name.StructuredName) (ins outs : Operands)
    (t : ValueType) → AllByRecursion (Uses all σ) ins.values → AllByRecursion (Uses all σ) outs.values
    → SideUses aliases all σ (structured_side (structured_kind name) ins outs [] t)
structured_uses aliases all σ structured.Fill ins outs t i o = (both_used aliases all σ ins outs i o, refl)
structured_uses aliases all σ structured.Matmul ins outs t i o = (both_used aliases all σ ins outs i o, refl)
structured_uses aliases all σ structured.BatchMatmul ins outs t i o = (both_used aliases all σ ins outs i o, refl)
structured_uses aliases all σ structured.Matvec ins outs t i o = (both_used aliases all σ ins outs i o, refl)
structured_uses aliases all σ structured.Vecmat ins outs t i o = (both_used aliases all σ ins outs i o, refl)
structured_uses aliases all σ structured.Dot ins outs t i o = (both_used aliases all σ ins outs i o, refl)
structured_uses aliases all σ structured.Conv1d ins outs t i o = (both_used aliases all σ ins outs i o, refl)
structured_uses aliases all σ structured.Conv2d ins outs t i o = (both_used aliases all σ ins outs i o, refl)

constant_uses : (aliases : List Alias) (all : List Owned) (σ : State) (p : Part) → IsConstant aliases all p
    → ArithUses aliases all σ (constant_side p)
constant_uses aliases all σ (part.Constant c) h = tt
constant_uses aliases all σ p h = absurd h

selecting_uses : (aliases : List Alias) (all : List Owned) (σ : State) (c a b : ℕ) (t : ValueType) (o : Option ValueType)
    → Uses all σ c → Uses all σ a → Uses all σ b → ArithUses aliases all σ (selecting (c ∷ a ∷ b ∷ []) t o)
selecting_uses aliases all σ c a b t None h i j = (h, (i, (j, tt)))
selecting_uses aliases all σ c a b t (Some r) h i j = (h, (i, (j, tt)))

module _ (aliases : List Alias) (all : List Owned) where
  abbrev pub RowsUse : Form → Type 0
  RowsUse n = (σ : State) → ForRows (IsUsed aliases all σ) (λ i ps. UsedBy aliases all σ n (made n i ps)) (language n)

  uses-Parameters : RowsUse forms.Parameters
  unfolding made
  uses-Parameters σ = (
    tt,
    (
      λ arg arg-is more more-is.
          each_before (λ arg. Uses all σ arg.id) (arg_in arg) (args_in more) arg-is more-is,
      tt,
    ),
  )

  uses-MoreParameters : RowsUse forms.MoreParameters
  unfolding made
  uses-MoreParameters σ = (
    tt,
    (
      λ _ _ arg arg-is more more-is.
          each_before (λ arg. Uses all σ arg.id) (arg_in arg) (args_in more) arg-is more-is,
      tt,
    ),
  )

  uses-Parameter : RowsUse forms.Parameter
  unfolding made
  uses-Parameter σ = (λ _ name-is _ _ _ _. name-is refl, tt)

  uses-Returned : RowsUse forms.Returned
  unfolding made
  uses-Returned σ = (tt, (λ _ values-is _ _ _ _. values-is, tt))

  uses-Values : RowsUse forms.Values
  unfolding made
  uses-Values σ = (tt, (λ _ name-is _ more-is. (name-is refl, more-is), tt))

  uses-MoreValues : RowsUse forms.MoreValues
  unfolding made
  uses-MoreValues σ = (tt, (λ _ _ _ name-is _ more-is. (name-is refl, more-is), tt))

  uses-EmptyTensor : RowsUse forms.EmptyTensor
  unfolding made
  uses-EmptyTensor σ = (λ _ _ _ _ _ _ _ _ _ _. (tt, refl), tt)

  uses-ExtractSlice : RowsUse forms.ExtractSlice
  unfolding made
  uses-ExtractSlice σ = (λ _ _ _ a-is _ _ _ _ _ _ _ _ _ _ _ _ _ _. ((a-is refl, tt), refl), tt)

  uses-InsertSlice : RowsUse forms.InsertSlice
  unfolding made
  uses-InsertSlice σ = (λ _ _ _ a-is _ _ _ b-is _ _ _ _ _ _ _ _ _ _ _ _ _ _. ((a-is refl, (b-is refl, tt)), refl), tt)

  uses-CollapseShape : RowsUse forms.CollapseShape
  unfolding made
  uses-CollapseShape σ = (λ _ _ _ a-is _ _ _ _ _ _ _ _ _ _. ((a-is refl, tt), refl), tt)

  uses-ExpandShape : RowsUse forms.ExpandShape
  unfolding made
  uses-ExpandShape σ = (λ _ _ _ a-is _ _ _ _ _ _ _ _ _ _ _ _ _ _. ((a-is refl, tt), refl), tt)

  uses-Structured : RowsUse forms.Structured
  unfolding made
  uses-Structured σ = (
    λ name _ ins ins-is outs outs-is _ _ result _.
        structured_uses aliases all σ (structured_in name) (operands_in ins) (operands_in outs)
        (type_in result) ins-is outs-is,
    tt,
  )

  uses-Transpose : RowsUse forms.Transpose
  unfolding made
  uses-Transpose σ = (
    λ _ _ ins ins-is outs outs-is _ _ _ _ _ _.
        (both_used aliases all σ (operands_in ins) (operands_in outs) ins-is outs-is, refl),
    tt,
  )

  uses-Broadcast : RowsUse forms.Broadcast
  unfolding made
  uses-Broadcast σ = (
    λ _ _ ins ins-is outs outs-is _ _ _ _ _ _.
        (both_used aliases all σ (operands_in ins) (operands_in outs) ins-is outs-is, refl),
    tt,
  )

  uses-Sharding : RowsUse forms.Sharding
  unfolding made
  uses-Sharding σ = (λ _ _ _ _ _ _ _ _ _ _ _ _ _ _ _ _ _ _. (tt, refl), tt)

  uses-Shard : RowsUse forms.Shard
  unfolding made
  uses-Shard σ = (λ _ _ _ a-is _ _ _ sharding-is _ _ _ _ _ _. ((a-is refl, (sharding-is refl, tt)), refl), tt)

  uses-AllGather : RowsUse forms.AllGather
  unfolding made
  uses-AllGather σ = (λ _ _ _ a-is _ _ _ _ _ _ _ _ _ _ _ _ _ _ _ _. ((a-is refl, tt), refl), tt)

  uses-AllSlice : RowsUse forms.AllSlice
  unfolding made
  uses-AllSlice σ = (λ _ _ _ a-is _ _ _ _ _ _ _ _ _ _ _ _ _ _ _ _. ((a-is refl, tt), refl), tt)

  uses-AllReduce : RowsUse forms.AllReduce
  unfolding made
  uses-AllReduce σ = (λ _ _ _ a-is _ _ _ _ _ _ _ _ _ _ _ _. ((a-is refl, tt), refl), tt)

  uses-ReduceScatter : RowsUse forms.ReduceScatter
  unfolding made
  uses-ReduceScatter σ = (λ _ _ _ a-is _ _ _ _ _ _ _ _ _ _ _ _ _ _ _ _ _ _. ((a-is refl, tt), refl), tt)

  uses-AllToAll : RowsUse forms.AllToAll
  unfolding made
  uses-AllToAll σ = (λ _ _ _ a-is _ _ _ _ _ _ _ _ _ _ _ _ _ _ _ _ _ _ _ _ _ _. ((a-is refl, tt), refl), tt)

  uses-Shift : RowsUse forms.Shift
  unfolding made
  uses-Shift σ = (λ _ _ _ a-is _ _ _ _ _ _ _ _ _ _ _ _ _ _ _ _ _ _ _ _ _ _ _ _. ((a-is refl, tt), refl), tt)

  uses-UpdateHalo : RowsUse forms.UpdateHalo
  unfolding made
  uses-UpdateHalo σ = (λ _ _ _ a-is _ _ _ _ _ _ _ _ _ _ _ _ _ _ _ _. ((a-is refl, tt), refl), tt)

  uses-Take : RowsUse forms.Take
  unfolding made
  uses-Take σ = (λ _ _ _ a-is _ _ _ _ _ _ _ _ _ _ _ _ _ _ _ _ _ _ _ _ _ _ _ _ _ _ _ _. ((a-is refl, tt), refl), tt)

  uses-Pad : RowsUse forms.Pad
  unfolding made
  uses-Pad σ = (λ _ _ _ a-is _ _ _ _ _ _ _ _ _ _ _ _ _ _ _ _ _ _ _ _. ((a-is refl, tt), refl), tt)

  uses-Join : RowsUse forms.Join
  unfolding made
  uses-Join σ = (λ _ _ _ values-is _ _ _ _ _ _ _ _ _ _ _ _ _ _. (values-is, refl), tt)

  uses-Call : RowsUse forms.Call
  unfolding made
  uses-Call σ = (λ _ _ _ _ _ _ _ values-is _ _ _ _ _ _ _ _ _ _ _ _ _ _. (values-is, refl), tt)

  uses-Arith : RowsUse forms.Arith
  unfolding made
  uses-Arith σ = (
    λ _ right-is. right-is,
    (
      λ _ right-is. right-is,
      (
        λ _ right-is. right-is,
        (
          λ _ right-is. right-is,
          (
            λ _ right-is. right-is,
            tt,
          ),
        ),
      ),
    ),
  )

  uses-Constant : RowsUse forms.Constant
  unfolding made
  uses-Constant σ = (λ _ _ constant constant-is. constant_uses aliases all σ constant constant-is, tt)

  uses-Literal : RowsUse forms.Literal
  unfolding made
  uses-Literal σ = (λ _ _. tt, (λ _ _. tt, (λ _ _ _ _ _ _. tt, (λ _ _ _ _ _ _. tt, tt))))

  uses-Binary : RowsUse forms.Binary
  unfolding made
  uses-Binary σ = (λ _ _ _ a-is _ _ _ b-is _ _ _ _. (a-is refl, (b-is refl, tt)), tt)

  uses-Compare : RowsUse forms.Compare
  unfolding made
  uses-Compare σ = (λ _ _ _ _ _ _ _ a-is _ _ _ b-is _ _ _ _. (a-is refl, (b-is refl, tt)), tt)

  uses-Select : RowsUse forms.Select
  unfolding made
  uses-Select σ = (
    λ _ _ c c-is _ _ a a-is _ _ b b-is _ _ t _ more _.
        selecting_uses aliases all σ (id_in c) (id_in a) (id_in b) (type_in t) (slice_get
        (types_in more) 0) (c-is refl) (a-is refl) (b-is refl),
    tt,
  )

  uses-Cast : RowsUse forms.Cast
  unfolding made
  uses-Cast σ = (λ _ _ _ a-is _ _ _ _ _ _ _ _. (a-is refl, tt), tt)

  uses-Ins : RowsUse forms.Ins
  unfolding made
  uses-Ins σ = (λ _ _ _ _ _ values-is _ _ _ _ _ _. values-is, tt)

  uses-MaybeIns : RowsUse forms.MaybeIns
  unfolding made
  uses-MaybeIns σ = (tt, (λ _ ins-is. ins-is, tt))

  uses-Outs : RowsUse forms.Outs
  unfolding made
  uses-Outs σ = (λ _ _ _ _ _ values-is _ _ _ _ _ _. values-is, tt)

  uses-GenericRightSide : RowsUse forms.GenericRightSide
  unfolding made
  uses-GenericRightSide σ = (λ _ right-is. right-is, (λ _ right-is. right-is, (λ _ right-is. right-is, tt)))

  uses-LoopIndex : RowsUse forms.LoopIndex
  unfolding made
  uses-LoopIndex σ = (λ _ _ _ _ _ _ _ _. tt, tt)

  uses-IndexCast : RowsUse forms.IndexCast
  unfolding made
  uses-IndexCast σ = (λ _ _ _ a-is _ _ _ _ _ _ _ _. (a-is refl, tt), tt)

  pub rows_use : (n : Form) → RowsUse n
  unfolding made
  rows_use forms.Parameters = uses-Parameters
  rows_use forms.MoreParameters = uses-MoreParameters
  rows_use forms.Parameter = uses-Parameter
  rows_use forms.Returned = uses-Returned
  rows_use forms.Values = uses-Values
  rows_use forms.MoreValues = uses-MoreValues
  rows_use forms.EmptyTensor = uses-EmptyTensor
  rows_use forms.ExtractSlice = uses-ExtractSlice
  rows_use forms.InsertSlice = uses-InsertSlice
  rows_use forms.CollapseShape = uses-CollapseShape
  rows_use forms.ExpandShape = uses-ExpandShape
  rows_use forms.Structured = uses-Structured
  rows_use forms.Transpose = uses-Transpose
  rows_use forms.Broadcast = uses-Broadcast
  rows_use forms.Sharding = uses-Sharding
  rows_use forms.Shard = uses-Shard
  rows_use forms.AllGather = uses-AllGather
  rows_use forms.AllSlice = uses-AllSlice
  rows_use forms.AllReduce = uses-AllReduce
  rows_use forms.ReduceScatter = uses-ReduceScatter
  rows_use forms.AllToAll = uses-AllToAll
  rows_use forms.Shift = uses-Shift
  rows_use forms.UpdateHalo = uses-UpdateHalo
  rows_use forms.Take = uses-Take
  rows_use forms.Pad = uses-Pad
  rows_use forms.Join = uses-Join
  rows_use forms.Call = uses-Call
  rows_use forms.Arith = uses-Arith
  rows_use forms.Constant = uses-Constant
  rows_use forms.Literal = uses-Literal
  rows_use forms.Binary = uses-Binary
  rows_use forms.Compare = uses-Compare
  rows_use forms.Select = uses-Select
  rows_use forms.Cast = uses-Cast
  rows_use forms.Ins = uses-Ins
  rows_use forms.MaybeIns = uses-MaybeIns
  rows_use forms.Outs = uses-Outs
  rows_use forms.GenericRightSide = uses-GenericRightSide
  rows_use forms.LoopIndex = uses-LoopIndex
  rows_use forms.IndexCast = uses-IndexCast
  rows_use n = λ σ. rows_of_all (IsUsed aliases all σ) _ (language n) (λ i ps. tt)

  -- ## Trees

  -- a form that holds no words of maps either
  abbrev pub is_using : Form → Bool
  is_using forms.Aliases = false
  is_using forms.Alias = false
  is_using forms.Hash = false
  is_using forms.Map = false
  is_using forms.Names = false
  is_using forms.MoreNames = false
  is_using forms.Name = false
  is_using forms.Maps = false
  is_using forms.MoreMaps = false
  is_using forms.MapOrAlias = false
  is_using n = is_quiet n

  using_quiet : (n : Form) → is_using n ≡ true → is_quiet n ≡ true
  using_quiet forms.Aliases h = refl
  using_quiet forms.Alias h = refl
  using_quiet forms.Hash h = refl
  using_quiet forms.Map h = refl
  using_quiet forms.Names h = refl
  using_quiet forms.MoreNames h = refl
  using_quiet forms.Name h = refl
  using_quiet forms.Maps h = refl
  using_quiet forms.MoreMaps h = refl
  using_quiet forms.MapOrAlias h = refl
  using_quiet n h = h

  abbrev pub using_symbol : Symbol → Bool
  using_symbol (symbol.Class c) = true
  using_symbol (symbol.Part n) = is_using n

  abbrev pub using_row : List Symbol → Bool
  using_row α = list_all using_symbol α

  using_rows : (n : Form) → is_using n ≡ true → list_all using_row (language n) ≡ true
  using_rows forms.Aliases h = absurd (false≢true h)
  using_rows forms.Alias h = absurd (false≢true h)
  using_rows forms.Hash h = absurd (false≢true h)
  using_rows forms.Map h = absurd (false≢true h)
  using_rows forms.Names h = absurd (false≢true h)
  using_rows forms.MoreNames h = absurd (false≢true h)
  using_rows forms.Name h = absurd (false≢true h)
  using_rows forms.Maps h = absurd (false≢true h)
  using_rows forms.MoreMaps h = absurd (false≢true h)
  using_rows forms.MapOrAlias h = absurd (false≢true h)
  using_rows forms.File h = absurd (false≢true h)
  using_rows forms.Contents h = absurd (false≢true h)
  using_rows forms.Items h = absurd (false≢true h)
  using_rows forms.Item h = absurd (false≢true h)
  using_rows forms.Func h = absurd (false≢true h)
  using_rows forms.Operations h = absurd (false≢true h)
  using_rows forms.Operation h = absurd (false≢true h)
  using_rows forms.Return h = absurd (false≢true h)
  using_rows forms.RightSide h = absurd (false≢true h)
  using_rows forms.Reduce h = absurd (false≢true h)
  using_rows forms.ReduceTail h = absurd (false≢true h)
  using_rows forms.Generic h = absurd (false≢true h)
  using_rows forms.Body h = absurd (false≢true h)
  using_rows forms.BodyOperation h = absurd (false≢true h)
  using_rows forms.GenericBody h = absurd (false≢true h)
  using_rows forms.GenericOperation h = absurd (false≢true h)
  using_rows forms.Yield h = absurd (false≢true h)
  using_rows forms.BlockArguments h = absurd (false≢true h)
  using_rows forms.MoreBlockArguments h = absurd (false≢true h)
  using_rows forms.BlockArgument h = absurd (false≢true h)
  using_rows forms.Combiner h = absurd (false≢true h)
  using_rows _ h = refl

  using_at : (rows : List (List Symbol)) (i : ℕ) (body : List Symbol) → list_all using_row rows ≡ true → slice_get rows i ≡ Some body
      → using_row body ≡ true
  using_at [] i body h at = cc
  using_at (row ∷ rows) zero body h at = subst (λ α. using_row α ≡ true) (same_Some row body at) (and_parts (using_row row) _ h).0
  using_at (row ∷ rows) (suc i) body h at = using_at rows i body (and_parts (using_row row) _ h).1 at

  enter_plain : (n : Form) (σ : State) → is_using n ≡ true → IsPlain (enter n σ).scope
  enter_plain forms.Aliases σ h = absurd (false≢true h)
  enter_plain forms.Alias σ h = absurd (false≢true h)
  enter_plain forms.Hash σ h = absurd (false≢true h)
  enter_plain forms.Map σ h = absurd (false≢true h)
  enter_plain forms.Names σ h = absurd (false≢true h)
  enter_plain forms.MoreNames σ h = absurd (false≢true h)
  enter_plain forms.Name σ h = absurd (false≢true h)
  enter_plain forms.Maps σ h = absurd (false≢true h)
  enter_plain forms.MoreMaps σ h = absurd (false≢true h)
  enter_plain forms.MapOrAlias σ h = absurd (false≢true h)
  enter_plain forms.File σ h = absurd (false≢true h)
  enter_plain forms.Contents σ h = absurd (false≢true h)
  enter_plain forms.Items σ h = absurd (false≢true h)
  enter_plain forms.Item σ h = absurd (false≢true h)
  enter_plain forms.Func σ h = absurd (false≢true h)
  enter_plain forms.Operations σ h = absurd (false≢true h)
  enter_plain forms.Operation σ h = absurd (false≢true h)
  enter_plain forms.Return σ h = absurd (false≢true h)
  enter_plain forms.RightSide σ h = absurd (false≢true h)
  enter_plain forms.Reduce σ h = absurd (false≢true h)
  enter_plain forms.ReduceTail σ h = absurd (false≢true h)
  enter_plain forms.Generic σ h = absurd (false≢true h)
  enter_plain forms.Body σ h = absurd (false≢true h)
  enter_plain forms.BodyOperation σ h = absurd (false≢true h)
  enter_plain forms.GenericBody σ h = absurd (false≢true h)
  enter_plain forms.GenericOperation σ h = absurd (false≢true h)
  enter_plain forms.Yield σ h = absurd (false≢true h)
  enter_plain forms.BlockArguments σ h = absurd (false≢true h)
  enter_plain forms.MoreBlockArguments σ h = absurd (false≢true h)
  enter_plain forms.BlockArgument σ h = absurd (false≢true h)
  enter_plain forms.Combiner σ h = absurd (false≢true h)
  enter_plain _ σ h = λ kind. refl

  -- the parts of a row, and that no form that is told apart begins behind them
  pub record RowUsed (σ₀ : State) (α : List Symbol) (f : Trees) (σ : State) : Type 0 where
    pub fits : Fits (IsUsed aliases all σ₀) α (parts_at aliases (distinct all) σ f)
    pub plain : IsPlain (past σ f).scope

  used_past : (σ₀ : State) (α : List Symbol) (f : Trees) (σ : State) → Spells language α f → using_row α ≡ true → Below σ
      → Starts all (past σ f) → IsPlain σ.scope → Same σ₀ σ → RowUsed σ₀ α f σ
  used_past σ₀ α f σ is_nothing u below b plain same = record { fits = tt; plain = plain }
  used_past σ₀ α f σ (is_token {c = c} {t = t} {behind = after} e spells) u below b plain same =
      let now : Starts all (step t σ) = starts_before all after (step t σ) b in
      let step_same : Same σ (step t σ) = same_step t σ below same.calm in
      let rest = used_past σ₀ _ after (step t σ) spells u (step_below t σ below) b (behind_plain t.kind σ.scope) (same_then σ₀ σ (step t σ) same step_same) in
      record {
        fits = (
          λ one. uses_as all σ₀ σ _ same (used_name aliases all σ t (record { class = e ∙ one; below = below; later = now.later; is = now.is }) plain),
          rest.fits,
        );
        plain = rest.plain;
      }
  used_past σ₀ α f σ (is_form {n = n} {i = i} {body = body} {below = under} {behind = after} e spells others) u below b plain same =
      let parts = and_parts (is_using n) _ u in
      let quiet : is_quiet n ≡ true = using_quiet n parts.0 in
      let inner : Below (enter n σ) = enter_below n σ below in
      let b' : Starts all (past (enter n σ) under) = starts_before all after (past (enter n σ) under) b in
      let entered : Same σ (enter n σ) = enter_same n σ quiet in
      let through : Same (enter n σ) (past (enter n σ) under) = quiet_past body under (enter n σ) spells (quiet_body n i body quiet e) inner entered.calm in
      let first = used_past σ₀ body under (enter n σ) spells (using_at (language n) i body (using_rows n parts.0) e) inner b'
      (enter_plain n σ parts.0) (same_then σ₀ σ (enter n σ) same entered) in
      let rest = used_past σ₀ _ after (past (enter n σ) under) others parts.1 (past_below under (enter n σ) inner) b first.plain
      (same_then σ₀ σ (past (enter n σ) under) same (same_then σ (enter n σ) (past (enter n σ) under) entered through)) in
      record {
        fits = (
          by_row (IsUsed aliases all σ₀) body (λ ps. UsedBy aliases all σ₀ n (made n i ps)) (parts_at aliases (distinct all) (enter n σ) under)
              (row_at (IsUsed aliases all σ₀) (λ j ps. UsedBy aliases all σ₀ n (made n j ps)) (language n) i body (rows_use n σ₀) e) first.fits,
          rest.fits,
        );
        plain = rest.plain;
      }

  -- a quiet form
  pub record QuietPart (n : Form) (σ τ : State) (p : Part) : Type 0 where
    pub same : Same σ τ
    pub used : UsedBy aliases all σ n p
    pub plain : is_using n ≡ true → IsPlain τ.scope

  word_form : (n : Form) (σ : State) (p : Part) → is_using n ≡ false → is_quiet n ≡ true → UsedBy aliases all σ n p
  word_form forms.Aliases σ p h q = tt
  word_form forms.Alias σ p h q = tt
  word_form forms.Hash σ p h q = tt
  word_form forms.Map σ p h q = tt
  word_form forms.Names σ p h q = tt
  word_form forms.MoreNames σ p h q = tt
  word_form forms.Name σ p h q = tt
  word_form forms.Maps σ p h q = tt
  word_form forms.MoreMaps σ p h q = tt
  word_form forms.MapOrAlias σ p h q = tt
  word_form forms.File σ p h q = absurd (false≢true q)
  word_form forms.Contents σ p h q = absurd (false≢true q)
  word_form forms.Items σ p h q = absurd (false≢true q)
  word_form forms.Item σ p h q = absurd (false≢true q)
  word_form forms.Func σ p h q = absurd (false≢true q)
  word_form forms.Operations σ p h q = absurd (false≢true q)
  word_form forms.Operation σ p h q = absurd (false≢true q)
  word_form forms.Return σ p h q = absurd (false≢true q)
  word_form forms.RightSide σ p h q = absurd (false≢true q)
  word_form forms.Reduce σ p h q = absurd (false≢true q)
  word_form forms.ReduceTail σ p h q = absurd (false≢true q)
  word_form forms.Generic σ p h q = absurd (false≢true q)
  word_form forms.Body σ p h q = absurd (false≢true q)
  word_form forms.BodyOperation σ p h q = absurd (false≢true q)
  word_form forms.GenericBody σ p h q = absurd (false≢true q)
  word_form forms.GenericOperation σ p h q = absurd (false≢true q)
  word_form forms.Yield σ p h q = absurd (false≢true q)
  word_form forms.BlockArguments σ p h q = absurd (false≢true q)
  word_form forms.MoreBlockArguments σ p h q = absurd (false≢true q)
  word_form forms.BlockArgument σ p h q = absurd (false≢true q)
  word_form forms.Combiner σ p h q = absurd (false≢true q)
  word_form _ σ p h q = absurd (true≢false h)

  pub quiet_part : (n : Form) → is_quiet n ≡ true → (i : ℕ) (body : List Symbol) (under : Trees) (σ : State)
      → slice_get (language n) i ≡ Some body → Spells language body under → Below σ → Starts all (past (enter n σ) under)
      → QuietPart n σ (past (enter n σ) under) (made n i (parts_at aliases (distinct all) (enter n σ) under))
  quiet_part n q i body under σ e spells below b =
      let inner : Below (enter n σ) = enter_below n σ below in
      let entered : Same σ (enter n σ) = enter_same n σ q in
      let through : Same (enter n σ) (past (enter n σ) under) = quiet_past body under (enter n σ) spells (quiet_body n i body q e) inner entered.calm in
      let both : Same σ (past (enter n σ) under) = same_then σ (enter n σ) (past (enter n σ) under) entered through in
      elim (cases_Bool (is_using n)) [
        | inl u ↦
            let row = used_past σ body under (enter n σ) spells (using_at (language n) i body (using_rows n u) e) inner b (enter_plain n σ u) entered in
            record {
              same = both;
              used = by_row (IsUsed aliases all σ) body (λ ps. UsedBy aliases all σ n (made n i ps)) (parts_at aliases (distinct all) (enter n σ) under)
                  (row_at (IsUsed aliases all σ) (λ j ps. UsedBy aliases all σ n (made n j ps)) (language n) i body (rows_use n σ) e) row.fits;
              plain = λ _. row.plain;
            }
        | inr u ↦ record { same = both; used = word_form n σ _ u q; plain = λ using. absurd (true≢false (sym using ∙ u)) }
      ]
