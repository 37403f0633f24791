-- Items, modules and files.
use Rattle.std.proofs.Common.{◌≡◌, ◌∙◌, ℕ, true, List, [], ◌∷◌, ◌++◌, map, Option, Some, None, refl, ap, sym, append_assoc}
use Rattle.std.specs.Prelude.{MatchOption, ⊤, ℤ, flat_map}
use Rattle.std.specs.List.{AllByRecursion, list_all}
use Rattle.sh_alike.specs.Renamed.{placeless_call, placeless_grid}
use Rattle.sh_base.specs.declared.places.Place.{Place}
use Rattle.sh_build.specs.Meaning.{carried, made, module_of, with_item}
use Rattle.sh_build.specs.Readings.{contents_in}
use Rattle.sh_build.specs.Rows.{first_part}
use Rattle.sh_build.specs.declared.parts.Contents.{Contents}
use Rattle.sh_build.specs.declared.parts.Part.{Part}
use Rattle.sh_build.specs.declared.parts.Part.TheVariants as part
use Rattle.sh_grammar.specs.Language.{text_of_file}
use Rattle.sh_grammar.specs.Lexemes.{class_of}
use Rattle.sh_grammar.specs.declared.forms.Form.{Form}
use Rattle.sh_grammar.specs.declared.forms.Form.TheVariants as forms
use Rattle.sh_grammar.specs.declared.symbols.Symbol.{Symbol}
use Rattle.sh_ir.specs.Formed.{is_not_negative, is_spelled, is_spelled_type}
use Rattle.sh_ir.specs.declared.functions.Carry.{Carry}
use Rattle.sh_ir.specs.declared.functions.Func.{Func}
use Rattle.sh_ir.specs.declared.modules.CallItem.{CallItem}
use Rattle.sh_ir.specs.declared.modules.GridItem.{GridItem}
use Rattle.sh_ir.specs.declared.modules.Module.{Module}
use Rattle.sh_lex.specs.declared.tokens.TokenKind.TheVariants as kind
use Rattle.sh_names.specs.Names.{Owned, same_text}
use Rattle.sh_print.specs.Layout.{Piece}
use Rattle.sh_print.specs.Layout.Piece.{closing, line_end, token}
use Rattle.sh_print.specs.Tokens.{call_pieces, carry_pieces, device_pieces, func_pieces, grid_pieces, items_pieces, module_name, ops_pieces, scope_of, signature_pieces, tokens_of}
use Rattle.sh_print_laws.proofs.Between.{outside_spot}
use Rattle.sh_print_laws.proofs.FunctionForms.{OpsFit}
use Rattle.sh_print_laws.proofs.Heads.{AtItem, anyone, enters_contents}
use Rattle.sh_print_laws.proofs.ItemForms.{ArgumentFits, CarryFits, FuncRead, call_spelled, device_spelled, func_spelled, grid_spelled}
use Rattle.sh_print_laws.proofs.Keywords as keyword
use Rattle.sh_print_laws.proofs.RegionForms.{same_self}
use Rattle.sh_print_laws.proofs.Rows.{FormTo, Naming, RowTo, by_row, by_row_entered, end_row, form_between, last_form, row_by, row_to_end, then_closing, then_form, then_in_2, then_is, then_line_end, then_opening, then_token}
use Rattle.sh_print_laws.proofs.ShardForms.{then_symbol}
use Rattle.sh_print_laws.proofs.Standing.{Standing, enters_plain, naming, num_by}
use Rattle.sh_print_laws.proofs.Walks.{State, enter}

-- ## What is known

pub record GridFits (g : GridItem) : Type 0 where
  pub first : ℤ
  pub more : List ℤ
  pub is : g.extents ≡ first ∷ more
  pub natural : list_all is_not_negative (first ∷ more) ≡ true
  pub spelled : list_all is_spelled (first ∷ more) ≡ true

pub record FuncFits (f : Func) : Type 0 where
  pub args : list_all (λ arg. is_spelled_type arg.value_type) f.args ≡ true
  pub results : list_all is_spelled_type f.results ≡ true
  pub ops : OpsFit (scope_of f) f.ops
  pub carry : MatchOption f.carry ⊤ CarryFits

pub record ModuleFits (m : Module) : Type 0 where
  pub grids : AllByRecursion GridFits m.grids
  pub funcs : AllByRecursion FuncFits m.funcs
  pub calls : AllByRecursion (λ c. AllByRecursion ArgumentFits c.args) m.calls

module _ (v : Owned → ℕ) (apart : (x y : Owned) → x.unit ≡ y.unit → v x ≡ v y → x ≡ y) where
  -- the function is read so, carried as it is
  pub record CarriedRead (f g : Func) : Type 0 where
    pub bare : Func
    pub read : FuncRead v apart (scope_of f) f bare
    pub place : Place
    pub is : g ≡ record bare { carry = f.carry; place = place }

  abbrev pub AreRead : List Func → List Func → Type 0
  AreRead [] [] = ⊤
  AreRead [] (g ∷ gs) = ⊥
  AreRead (f ∷ fs) [] = ⊥
  AreRead (f ∷ fs) (g ∷ gs) = CarriedRead f g × AreRead fs gs

  -- The items are read so.
  pub record ItemsRead (grids : List GridItem) (funcs : List Func) (calls : List CallItem) (c : Contents) : Type 0 where
    pub of_grids : map placeless_grid c.grids ≡ map placeless_grid grids
    pub of_funcs : AreRead funcs c.funcs
    pub of_calls : map placeless_call c.calls ≡ map placeless_call calls

  abbrev IsItems : List GridItem → List Func → List CallItem → Part → Type 0
  IsItems grids funcs calls p = (c : Contents) × (p ≡ part.Contents c) × ItemsRead grids funcs calls c

  abbrev N : Naming (num_by v)
  N = naming v (outside_spot anyone 0 0) refl

  -- wherever it stands among the items
  item_any : {n : Form} {ps : List Piece} {P : Part → Type 0}
      → ((unit op : ℕ) → FormTo (num_by v) (Standing (outside_spot anyone unit op)) (Standing (outside_spot anyone unit op)) n ps P) → FormTo (num_by v) (AtItem anyone) (AtItem anyone) n ps P
  item_any f ts σ are h = let r = f h.0 h.1 ts σ are h.2 in
      record { i = r.i; body = r.body; below = r.below; is = r.is; spells = r.spells; takes = r.takes; value = r.value; holds = (h.0, h.1, r.holds) }

  items_entered : (σ : State) → AtItem anyone σ → AtItem anyone (enter forms.Items σ)
  items_entered σ h = (h.0, h.1, enters_plain (outside_spot anyone h.0 h.1) forms.Items σ refl h.2)

  item_entered : (σ : State) → AtItem anyone σ → AtItem anyone (enter forms.Item σ)
  item_entered σ h = (h.0, h.1, enters_plain (outside_spot anyone h.0 h.1) forms.Item σ refl h.2)

  -- ## Lists of items

  calls_spelled : (calls : List CallItem) → AllByRecursion (λ c. AllByRecursion ArgumentFits c.args) calls
      → FormTo (num_by v) (AtItem anyone) (AtItem anyone) forms.Items (flat_map call_pieces calls) (IsItems [] [] calls)
  unfolding made
  calls_spelled [] h = by_row_entered 0 refl items_entered (end_row N (record { grids = []; funcs = []; calls = [] }, refl, record { of_grids = refl; of_funcs = tt; of_calls = refl }))
  calls_spelled (c ∷ calls) h = by_row_entered 1 refl items_entered (then_form N (item_any (λ unit op. call_spelled (naming v (outside_spot anyone unit op) refl) c h.0)) (λ p one.
      last_form N (calls_spelled calls h.1) (λ q more. (
        record more.0 { calls = record c { place = one.0 } ∷ more.0.calls },
        ap (λ x. part.Contents (with_item x (contents_in q))) one.1 ∙ ap (λ y. part.Contents (with_item (part.Call (record c { place = one.0 })) (contents_in y))) more.1,
        record { of_grids = more.2.of_grids; of_funcs = more.2.of_funcs; of_calls = ap (λ cs. placeless_call c ∷ cs) more.2.of_calls },
      ))))

  -- a function, behind its device item if it has one
  func_item : (f : Func) → FuncFits f → FormTo (num_by v) (AtItem anyone) (AtItem anyone) forms.Item (func_pieces f) (λ p. (g : Func) × (p ≡ part.Func g) × CarriedRead f g)
  unfolding made func_pieces device_pieces
  func_item f fits = go f.carry refl fits.carry
    where
      behind : (carry : Option Carry) → f.carry ≡ carry → Option Carry
      behind carry e = carry

      go : (carry : Option Carry) → f.carry ≡ carry → MatchOption carry ⊤ CarryFits
          → FormTo (num_by v) (AtItem anyone) (AtItem anyone) forms.Item (device_pieces f.name carry ++ signature_pieces (scope_of f) f ++ ops_pieces (scope_of f) f.ops) (λ p. (g : Func) × (p ≡ part.Func g) × CarriedRead f g)
      go None e h = by_row_entered 2 refl item_entered (last_form N (func_spelled v apart anyone (scope_of f) f refl fits.args fits.results fits.ops)
          (λ p is. (is.0, is.1, record { bare = is.0; read = is.2; place = is.0.place; is = ap (λ c. record is.0 { carry = c }) (is.2.carry ∙ sym e) })))
      go (Some carry) e h = by_row_entered 1 refl item_entered (row_by N (sym (append_assoc (carry_pieces f.name carry) (signature_pieces (scope_of f) f) (ops_pieces (scope_of f) f.ops)))
          (then_form N (device_at f.name carry h) (λ d device. last_form N (func_spelled v apart (same_text (64 ∷ f.name)) (scope_of f) f (same_self (64 ∷ f.name)) fits.args fits.results fits.ops)
          (λ p is. (
            record is.0 { carry = Some carry; place = device.0 },
            ap (λ x. carried x p) device.1 ∙ ap (carried (part.Device (record { name = f.name; carry = carry; place = device.0 }))) is.1,
            record { bare = is.0; read = is.2; place = device.0; is = ap (λ c. record is.0 { carry = c; place = device.0 }) (sym e) },
          )))))
        where
          device_at : (name : List ℕ) (carry : Carry) → CarryFits carry
              → FormTo (num_by v) (AtItem anyone) (AtItem (same_text (64 ∷ name))) forms.Device (carry_pieces name carry) (λ p. (place : Place) × (p ≡ part.Device (record { name = name; carry = carry; place = place })))
          device_at name carry fits ts σ are h = let r = device_spelled v h.0 h.1 name carry fits ts σ are h.2 in
              record { i = r.i; body = r.body; below = r.below; is = r.is; spells = r.spells; takes = r.takes; value = r.value; holds = (h.0, h.1, r.holds) }

  funcs_spelled : (funcs : List Func) (calls : List CallItem) → AllByRecursion FuncFits funcs → AllByRecursion (λ c. AllByRecursion ArgumentFits c.args) calls
      → FormTo (num_by v) (AtItem anyone) (AtItem anyone) forms.Items (flat_map func_pieces funcs ++ flat_map call_pieces calls) (IsItems [] funcs calls)
  unfolding made
  funcs_spelled [] calls h g = calls_spelled calls g
  funcs_spelled (f ∷ funcs) calls h g = by_row_entered 1 refl items_entered (row_by N (sym (append_assoc (func_pieces f) (flat_map func_pieces funcs) (flat_map call_pieces calls)))
      (then_form N (func_item f h.0) (λ p one. last_form N (funcs_spelled funcs calls h.1 g) (λ q more. (
        record more.0 { funcs = one.0 ∷ more.0.funcs },
        ap (λ x. part.Contents (with_item x (contents_in q))) one.1 ∙ ap (λ y. part.Contents (with_item (part.Func one.0) (contents_in y))) more.1,
        record { of_grids = more.2.of_grids; of_funcs = (one.2, more.2.of_funcs); of_calls = more.2.of_calls },
      )))))

  items_spelled : (grids : List GridItem) (funcs : List Func) (calls : List CallItem) → AllByRecursion GridFits grids → AllByRecursion FuncFits funcs → AllByRecursion (λ c. AllByRecursion ArgumentFits c.args) calls
      → FormTo (num_by v) (AtItem anyone) (AtItem anyone) forms.Items (flat_map grid_pieces grids ++ (flat_map func_pieces funcs ++ flat_map call_pieces calls)) (IsItems grids funcs calls)
  unfolding made
  items_spelled [] funcs calls k h g = funcs_spelled funcs calls h g
  items_spelled (x ∷ grids) funcs calls k h g = by_row_entered 1 refl items_entered (row_by N (sym (append_assoc (grid_pieces x) (flat_map grid_pieces grids) (flat_map func_pieces funcs ++ flat_map call_pieces calls)))
      (then_form N (item_any (λ unit op. grid_spelled (naming v (outside_spot anyone unit op) refl) x k.0.first k.0.more k.0.is k.0.natural k.0.spelled)) (λ p one.
      last_form N (items_spelled grids funcs calls k.1 h g) (λ q more. (
        record more.0 { grids = record x { place = one.0 } ∷ more.0.grids },
        ap (λ y. part.Contents (with_item y (contents_in q))) one.1 ∙ ap (λ y. part.Contents (with_item (part.Grid (record x { place = one.0 })) (contents_in y))) more.1,
        record { of_grids = ap (λ gs. placeless_grid x ∷ gs) more.2.of_grids; of_funcs = more.2.of_funcs; of_calls = more.2.of_calls },
      )))))

  -- ## Modules

  -- The module is read so.
  pub record ModuleRead (m n : Module) : Type 0 where
    pub of_name : n.name ≡ m.name
    pub of_grids : map placeless_grid n.grids ≡ map placeless_grid m.grids
    pub of_funcs : AreRead m.funcs n.funcs
    pub of_calls : map placeless_call n.calls ≡ map placeless_call m.calls

  abbrev pub IsModule : Module → Part → Type 0
  IsModule m p = (n : Module) × (p ≡ part.Module n) × ModuleRead m n

  AtNothing : State → Type 0
  AtNothing σ = Standing (outside_spot anyone 0 0) σ

  name_spelled : (name : Option (List ℕ)) → FormTo (num_by v) (Standing (outside_spot anyone 0 0)) (Standing (outside_spot anyone 0 0)) forms.ModuleName (module_name name) (λ p. p ≡ part.ModuleName name)
  unfolding made module_name
  name_spelled None = by_row N 0 refl refl (end_row N refl)
  name_spelled (Some name) = by_row N 1 refl refl (then_symbol N (end_row N refl))

  -- an end at any item
  closes : {V : List Part → Type 0} {α : List Symbol} {ps : List Piece} → ((unit op : ℕ) → RowTo (num_by v) (Standing (outside_spot anyone unit op)) (AtItem anyone) α ps V) → RowTo (num_by v) (AtItem anyone) (AtItem anyone) α ps V
  closes rows ts σ are h = rows h.0 h.1 ts σ are h.2

  pub contents_spelled : (m : Module) → ModuleFits m → FormTo (num_by v) (Standing (outside_spot anyone 0 0)) (AtItem anyone) forms.Contents (tokens_of m) (IsModule m)
  unfolding made tokens_of items_pieces
  contents_spelled m f = by_row_entered 0 refl (λ σ h. enters_contents anyone 0 0 σ h) (then_token N keyword.the-module (λ p i.
      then_in_2 N (name_spelled m.name) _ _ (then_opening N (λ p i.
      row_by N (ap (λ ps. ps ++ closing ∷ line_end ∷ []) (sym (append_assoc (flat_map grid_pieces m.grids) (flat_map func_pieces m.funcs) (flat_map call_pieces m.calls))))
      (then_form N (form_between (λ σ h. (0, 0, h)) (λ σ h. h) (items_spelled m.grids m.funcs m.calls f.grids f.funcs f.calls)) (λ q items.
      closes (λ unit op. let M = naming v (outside_spot anyone unit op) refl in then_closing M (λ p i. then_line_end M (row_to_end (λ σ h. (unit, op, h)) (end_row M (
        record { name = m.name; grids = items.0.grids; funcs = items.0.funcs; calls = items.0.calls },
        ap (λ x. module_of m.name (contents_in x)) items.1,
        record { of_name = refl; of_grids = items.2.of_grids; of_funcs = items.2.of_funcs; of_calls = items.2.of_calls },
      )))))))))))

  file_spelled : (m : Module) → ModuleFits m → FormTo (num_by v) (Standing (outside_spot anyone 0 0)) (AtItem anyone) forms.File (tokens_of m) (IsModule m)
  unfolding made
  file_spelled m f = by_row N 0 refl refl (then_is N {ps = []} (by_row N {n = forms.Aliases} {P = λ p. p ≡ part.Aliases []} 0 refl refl (end_row N refl)) (last_form N (contents_spelled m f) (λ q it. it)))

  -- the file, and the end
  pub text_spelled : (m : Module) → ModuleFits m → RowTo (num_by v) (Standing (outside_spot anyone 0 0)) (AtItem anyone) text_of_file (tokens_of m ++ token kind.End [] ∷ []) (λ row. IsModule m (first_part row))
  unfolding class_of
  text_spelled m f = then_form N (file_spelled m f) (λ p it. closes (λ unit op. let M = naming v (outside_spot anyone unit op) refl in
      then_token M (λ q. refl) (λ q i. row_to_end (λ σ h. (unit, op, h)) (end_row M it))))
