-- Functions, device items, grids and calls.
use Rattle.std.proofs.Common.{◌≡◌, ◌^◌, ℕ, Bool, true, false, List, [], ◌∷◌, ◌++◌, map, None, refl, ap, sym, subst, codes, ltb-true}
use Rattle.std.specs.Prelude.{ℤ, pos, negsuc}
use Rattle.std.specs.List.{AllByRecursion, list_all}
use Rattle.sh_alike.specs.Renamed.{renamed_arg, renamed_op}
use Rattle.sh_base.specs.declared.places.Place.{Place}
use Rattle.sh_build.specs.Meaning.{made, on_grid}
use Rattle.sh_build.specs.Readings.{ops_in}
use Rattle.sh_build.specs.declared.parts.Part.{Part}
use Rattle.sh_build.specs.declared.parts.Part.TheVariants as part
use Rattle.sh_grammar.specs.Lexemes.{Lexeme, class_of}
use Rattle.sh_grammar.specs.declared.forms.Form.TheVariants as forms
use Rattle.sh_grammar.specs.declared.symbols.Symbol.{Symbol}
use Rattle.sh_ir.specs.Formed.{is_not_negative, is_spelled, is_spelled_type}
use Rattle.sh_ir.specs.Literals.{can_be_dense, is_broken, is_dense, is_held}
use Rattle.sh_ir.specs.Written.{all_numbers, sharding_numbers}
use Rattle.sh_ir.specs.declared.arith_ops.Constant as constant
use Rattle.sh_ir.specs.declared.arith_ops.Contents.{Contents}
use Rattle.sh_ir.specs.declared.arith_ops.Contents.TheVariants.{Held, Broken}
use Rattle.sh_ir.specs.declared.functions.Carry.{Carry}
use Rattle.sh_ir.specs.declared.functions.Cut.{Cut}
use Rattle.sh_ir.specs.declared.functions.Func.{Func}
use Rattle.sh_ir.specs.declared.modules.CallItem.{CallItem}
use Rattle.sh_ir.specs.declared.modules.GridItem.{GridItem}
use Rattle.sh_ir.specs.declared.types.ValueType.{ValueType}
use Rattle.sh_ir.specs.declared.types.ValueType.TheVariants as type
use Rattle.sh_lex.specs.declared.tokens.TokenKind.TheVariants as kind
use Rattle.sh_names.specs.Names.{Owned, same_text}
use Rattle.sh_names.specs.declared.scopes.Role.TheVariants as role
use Rattle.sh_print.specs.Layout.{Piece}
use Rattle.sh_print.specs.Spellings.{dense_pieces, list_of}
use Rattle.sh_print.specs.Tokens.{attribute, call_pieces, carry_pieces, cut_pieces, cuts, extents, flag, grid_pieces, ops_pieces, parameters_pieces, sharding_pieces, signature_pieces, splits}
use Rattle.sh_print.specs.Values.{Scope}
use Rattle.sh_print_laws.specs.TokensOf.{lexeme}
use Rattle.sh_print_laws.proofs.Between.{outside_spot}
use Rattle.sh_print_laws.proofs.DenseForms.{a_dense}
use Rattle.sh_print_laws.proofs.FunctionForms.{AreNumbered, Behind, OpsFit, number_in, ops_anywhere, parameters_spelled, read_ops, results_spelled}
use Rattle.sh_print_laws.proofs.Heads.{AtItem, anyone, device_named, enters_device, enters_func, func_named, head_spot}
use Rattle.sh_print_laws.proofs.Keywords as keyword
use Rattle.sh_print_laws.proofs.ListForms.{IsListForm, list_spelled}
use Rattle.sh_print_laws.proofs.PlainForms.{lists_spelled, then_extent, then_number, type_spelled}
use Rattle.sh_print_laws.proofs.Rows.{FormTo, Gives, Naming, RowTo, by_row, by_row_entered, end_row, form_between, last_is, row_to_end, then_closing, then_form, then_in_2, then_in_3, then_is, then_line_end, then_opening, then_step, then_token}
use Rattle.sh_print_laws.proofs.ShardForms.{maybe_halo_form, maybe_offsets_form, then_symbol}
use Rattle.sh_print_laws.proofs.Standing.{Spot, Standing, enters_plain, naming, num_by, steps_past}
use Rattle.sh_print_laws.proofs.Tests.{all_parts, and_parts}
use Rattle.sh_print_laws.proofs.Walks.{State, enter}

-- What is known of a literal of a call item.
pub record ArgumentFits (c : constant.Constant) : Type 0 where
  pub dense : is_dense c ≡ true
  pub held : is_held c ≡ true
  pub whole : is_broken c.contents ≡ false
  pub spelled : is_spelled_type c.value_type ≡ true

-- and of a cut of a function on this grid
pub record CutFits (grid : List ℕ) (c : Cut) : Type 0 where
  pub on : c.sharding.grid ≡ grid
  pub spelled : is_spelled_type c.whole ≡ true
  pub numbers : list_all is_spelled (sharding_numbers c.sharding) ≡ true

-- and of how a function is carried
pub record CarryFits (c : Carry) : Type 0 where
  pub args : AllByRecursion (CutFits c.grid) c.args
  pub results : AllByRecursion (CutFits c.grid) c.results

-- ## Grids

module _ {numbered : State → Lexeme → ℕ} (N : Naming numbered) where
  pub extents_spelled : (z : ℤ) (zs : List ℤ) → list_all is_not_negative (z ∷ zs) ≡ true → list_all is_spelled (z ∷ zs) ≡ true
      → Gives N forms.Extents (extents (z ∷ zs)) (part.Numbers (z ∷ zs))
  unfolding made extents
  extents_spelled (negsuc n) zs h g = absurd (let e : false ≡ true = h in cc)
  extents_spelled (pos n) [] h g = by_row N 1 refl refl (then_number N (ltb-true n (2 ^ 64) (and_parts (is_spelled (pos n)) true g).0) (end_row N refl))
  extents_spelled (pos n) (z ∷ zs) h g = by_row N 0 refl refl (then_extent N (ltb-true n (2 ^ 64) (and_parts (is_spelled (pos n)) (list_all is_spelled (z ∷ zs)) g).0)
      (last_is N (extents_spelled z zs h (and_parts (is_spelled (pos n)) (list_all is_spelled (z ∷ zs)) g).1) refl))

  pub grid_spelled : (g : GridItem) (z : ℤ) (zs : List ℤ) → g.extents ≡ z ∷ zs → list_all is_not_negative (z ∷ zs) ≡ true → list_all is_spelled (z ∷ zs) ≡ true
      → FormTo numbered N.Holds N.Holds forms.Item (grid_pieces g) (λ p. (place : Place) × (p ≡ part.Grid (record g { place = place })))
  unfolding made grid_pieces attribute
  grid_spelled g z zs same h spelled =
      let row : FormTo numbered N.Holds N.Holds forms.Extents (extents g.extents) (λ p. p ≡ part.Numbers g.extents) =
      subst (λ es. FormTo numbered N.Holds N.Holds forms.Extents (extents es) (λ p. p ≡ part.Numbers es)) (sym same) (extents_spelled z zs h spelled) in
      by_row N 0 refl refl (then_token N keyword.the-shard_grid (λ p i. then_symbol N (then_token N keyword.the-open (λ q j. then_token N keyword.the-shape (λ q j. then_token N keyword.the-equals (λ q j.
      then_is N row (then_token N keyword.the-close (λ q j. then_line_end N (end_row N (p, refl))))))))))

  -- ## Calls

  argument_of : (t : ValueType) (contents : Contents) → can_be_dense t contents ≡ true → is_held (record { value_type = t; contents = contents }) ≡ true → is_broken contents ≡ false → is_spelled_type t ≡ true
      → Gives N forms.Argument (dense_pieces (record { value_type = t; contents = contents })) (part.Constant (record { value_type = t; contents = contents }))
  argument_of t Broken dense held whole spelled = absurd (let e : true ≡ false = whole in cc)
  argument_of (type.Tensor t) (Held cells) dense held whole spelled = a_dense N t cells held spelled
  argument_of (type.Scalar w) (Held cells) dense held whole spelled = absurd (let e : false ≡ true = dense in cc)
  argument_of type.Nothing (Held cells) dense held whole spelled = absurd (let e : false ≡ true = dense in cc)
  argument_of type.Sharding (Held cells) dense held whole spelled = absurd (let e : false ≡ true = dense in cc)
  argument_of type.Index (Held cells) dense held whole spelled = absurd (let e : false ≡ true = dense in cc)

  argument_spelled : (c : constant.Constant) → ArgumentFits c → Gives N forms.Argument (dense_pieces c) (part.Constant c)
  argument_spelled c f = argument_of c.value_type c.contents f.dense f.held f.whole f.spelled

  arguments_form : IsListForm forms.Arguments forms.MoreArguments forms.Argument (λ cs. part.Constants cs) (λ c. part.Constant c)
  unfolding made
  arguments_form = record {
    lists = refl;
    rests = refl;
    plain = refl;
    plain_rest = refl;
    none = refl;
    some = λ x xs. refl;
    none_more = refl;
    some_more = λ comma x xs. refl;
  }

  each_argument : (cs : List constant.Constant) → AllByRecursion ArgumentFits cs → AllByRecursion (λ c. Gives N forms.Argument (dense_pieces c) (part.Constant c)) cs
  each_argument [] h = tt
  each_argument (c ∷ cs) h = (argument_spelled c h.0, each_argument cs h.1)

  pub call_spelled : (c : CallItem) → AllByRecursion ArgumentFits c.args
      → FormTo numbered N.Holds N.Holds forms.Item (call_pieces c) (λ p. (place : Place) × (p ≡ part.Call (record c { place = place })))
  unfolding made call_pieces
  call_spelled c f = by_row N 3 refl refl (then_token N keyword.the-shardrun_call (λ p i. then_symbol N (then_token N keyword.the-open (λ q j.
      then_is N (list_spelled N arguments_form dense_pieces c.args (each_argument c.args f)) (then_token N keyword.the-close (λ q j. then_line_end N (end_row N (p, refl))))))))

  -- ## Cuts

  -- as it is written, without its grid
  abbrev off_grid : Cut → Cut
  off_grid c = record c { sharding = record c.sharding { grid = [] } }

  cut_spelled : (grid : List ℕ) (c : Cut) → CutFits grid c → Gives N forms.Cut (cut_pieces c) (part.Cut (off_grid c))
  unfolding made cut_pieces sharding_pieces splits attribute
  cut_spelled grid c f =
      let front = all_parts is_spelled (all_numbers c.sharding.split ++ c.sharding.halos) c.sharding.offsets f.numbers in
      let both = all_parts is_spelled (all_numbers c.sharding.split) c.sharding.halos front.0 in
      by_row N 0 refl refl (then_is N (type_spelled N c.whole f.spelled) (then_token N keyword.the-split_axes (λ p i. then_token N keyword.the-equals (λ p i.
      then_in_2 N (lists_spelled N c.sharding.split both.0) _ _ (then_is N (maybe_halo_form N c.sharding.halos both.1) (last_is N (maybe_offsets_form N c.sharding.offsets front.1) refl))))))

  cuts_form : IsListForm forms.Cuts forms.MoreCuts forms.Cut (λ cs. part.Cuts (map off_grid cs)) (λ c. part.Cut (off_grid c))
  unfolding made
  cuts_form = record {
    lists = refl;
    rests = refl;
    plain = refl;
    plain_rest = refl;
    none = refl;
    some = λ x xs. refl;
    none_more = refl;
    some_more = λ comma x xs. refl;
  }

  each_cut : (grid : List ℕ) (cs : List Cut) → AllByRecursion (CutFits grid) cs → AllByRecursion (λ c. Gives N forms.Cut (cut_pieces c) (part.Cut (off_grid c))) cs
  each_cut grid [] h = tt
  each_cut grid (c ∷ cs) h = (cut_spelled grid c h.0, each_cut grid cs h.1)

  pub cuts_spelled : (grid : List ℕ) (cs : List Cut) → AllByRecursion (CutFits grid) cs → Gives N forms.Cuts (list_of cut_pieces cs) (part.Cuts (map off_grid cs))
  cuts_spelled grid cs h = list_spelled N cuts_form cut_pieces cs (each_cut grid cs h)

  pub on_grid_again : (grid : List ℕ) (cs : List Cut) → AllByRecursion (CutFits grid) cs → map (on_grid grid) (map off_grid cs) ≡ cs
  on_grid_again grid [] h = refl
  on_grid_again grid (c ∷ cs) h = let more = on_grid_again grid cs h.1 in rw more (ap (λ g. record c { sharding = record c.sharding { grid = g } } ∷ cs) (sym h.0.on))

-- ## Device items

abbrev pub IsDevice : List ℕ → Carry → Part → Type 0
IsDevice name c p = (place : Place) × (p ≡ part.Device (record { name = name; carry = c; place = place }))

module _ (v : Owned → ℕ) where
  pub device_spelled : (unit op : ℕ) (name : List ℕ) (c : Carry) → CarryFits c
      → FormTo (num_by v) (Standing (outside_spot anyone unit op)) (Standing (outside_spot (same_text (64 ∷ name)) unit op)) forms.Device (carry_pieces name c) (IsDevice name c)
  unfolding made class_of carry_pieces cuts
  device_spelled unit op name c f =
      let fit : List ℕ → Bool = same_text (64 ∷ name) in
      let N = naming v (outside_spot fit unit op) refl in
      let again : (p : Place) → part.Device (record {
        name = name;
        carry = record { grid = c.grid; args = map (on_grid c.grid) (map (off_grid N) c.args); results = map (on_grid c.grid) (map (off_grid N) c.results) };
        place = p;
      }) ≡ part.Device (record { name = name; carry = c; place = p }) =
      λ p. (let a = on_grid_again N c.grid c.args f.args in let r = on_grid_again N c.grid c.results f.results in rw (a, r) refl) in
      by_row_entered 0 refl (λ σ h. enters_device anyone unit op σ h) (then_step keyword.the-shardrun_device (λ σ p h. steps_past (head_spot anyone role.DeviceName unit op) (lexeme kind.Word (codes "shardrun.device") p) σ refl refl h) (λ p i.
      then_step (λ q. refl) (λ σ q h. device_named anyone unit op (64 ∷ name) σ q h) (λ q j.
      then_token N keyword.the-on (λ q j. then_symbol N (then_token N keyword.the-open (λ q j.
      then_in_3 N (cuts_spelled N c.grid c.args f.args) _ _ _ (then_token N keyword.the-close (λ q j. then_token N keyword.the-arrow (λ q j. then_token N keyword.the-open (λ q j.
      then_in_2 N (cuts_spelled N c.grid c.results f.results) _ _ (then_token N keyword.the-close (λ q j. then_line_end N (end_row N (p, again p))))))))))))))

-- ## Functions

module _ (v : Owned → ℕ) (apart : (x y : Owned) → x.unit ≡ y.unit → v x ≡ v y → x ≡ y) where
  -- The function is read so: its unit is this one, and its operations begin at this token.
  pub record FuncRead (scope : Scope) (f g : Func) : Type 0 where
    pub unit : ℕ
    pub first : ℕ
    pub name : g.name ≡ f.name
    pub private : g.private ≡ f.private
    pub results : g.results ≡ f.results
    pub carry : g.carry ≡ None
    pub args : g.args ≡ map (renamed_arg (number_in v apart anyone unit scope)) f.args
    pub ops : AreNumbered g.ops → map (renamed_op (λ id. id)) g.ops ≡ read_ops v apart anyone unit scope first f.ops

  abbrev pub IsFunc : Scope → Func → Part → Type 0
  IsFunc scope f p = (g : Func) × (p ≡ part.Func g) × FuncRead scope f g

  visibility : (s : Spot) (b : Bool) → FormTo (num_by v) (Standing s) (Standing s) forms.Visibility (flag (codes "private") b) (λ p. p ≡ part.Flag b)
  unfolding made flag
  visibility s false = by_row_entered 0 refl (λ σ h. enters_plain s forms.Visibility σ refl h) (end_row (naming v (outside_spot anyone 0 0) refl) refl)
  visibility s true = by_row_entered 1 refl (λ σ h. enters_plain s forms.Visibility σ refl h)
      (then_step keyword.the-private (λ σ p h. steps_past s (lexeme kind.Word (codes "private") p) σ refl refl h) (λ p i. end_row (naming v (outside_spot anyone 0 0) refl) refl))

  -- whatever operation it was
  behind_any : {To : State → Type 0} {unit : ℕ} {α : List Symbol} {ps : List Piece} {V : List Part → Type 0}
      → ((op : ℕ) → RowTo (num_by v) (Standing (outside_spot anyone unit op)) To α ps V) → RowTo (num_by v) (Behind anyone unit) To α ps V
  behind_any rows ts σ are h = rows h.0 ts σ are h.1

  module _ (fit : List ℕ → Bool) (unit op : ℕ) (scope : Scope) (f : Func) (fits : fit (64 ∷ f.name) ≡ true) (args : list_all (λ arg. is_spelled_type arg.value_type) f.args ≡ true)
      (results : list_all is_spelled_type f.results ≡ true) (ops : OpsFit scope f.ops) where
    func_row : FormTo (num_by v) (λ σ. Standing (head_spot fit role.FuncName unit op) (enter forms.Func σ)) (AtItem anyone) forms.Func
        (signature_pieces scope f ++ ops_pieces scope f.ops) (IsFunc scope f)
    unfolding made class_of signature_pieces ops_pieces parameters_pieces
    func_row =
        let N = naming v (outside_spot anyone unit op) refl in
        by_row_entered 0 refl (λ σ h. h) (then_step keyword.the-func_func (λ σ p h. steps_past (head_spot fit role.FuncName unit op) (lexeme kind.Word (codes "func.func") p) σ refl refl h) (λ p i.
        then_in_3 N (visibility (head_spot fit role.FuncName unit op) f.private) _ _ _ (then_step (λ q. refl) (λ σ q h. func_named fit unit op (64 ∷ f.name) σ q fits h) (λ q j.
        then_token N keyword.the-open (λ q j. then_in_2 N (parameters_spelled v apart anyone unit scope op f.args args) _ _ (then_token N keyword.the-close (λ q j.
        then_is N (results_spelled v apart anyone unit scope op f.results results) (then_opening N (λ q j.
        then_form N (form_between (λ σ h. record { spot = outside_spot anyone unit op; stands = h; of_fit = refl; of_at = refl; of_func = refl }) (λ σ h. h) (ops_anywhere v apart anyone unit scope f.ops ops)) (λ q o.
        behind_any (λ last. let M = naming v (outside_spot anyone unit last) refl in
        then_closing M (λ r j. then_line_end M (row_to_end (λ σ h. (unit, last, h)) (end_row M (
          record {
            name = f.name;
            private = f.private;
            args = map (renamed_arg (number_in v apart anyone unit scope)) f.args;
            results = f.results;
            ops = o.1.0;
            carry = None;
            place = p;
          },
          ap (λ x. part.Func (record {
            name = f.name;
            private = f.private;
            args = map (renamed_arg (number_in v apart anyone unit scope)) f.args;
            results = f.results;
            ops = ops_in x;
            carry = None;
            place = p;
          })) o.1.1,
          record { unit = unit; first = o.0; name = refl; private = refl; results = refl; carry = refl; args = refl; ops = o.1.2 },
        )))))))))))))))

  pub func_spelled : (fit : List ℕ → Bool) (scope : Scope) (f : Func) → fit (64 ∷ f.name) ≡ true → list_all (λ arg. is_spelled_type arg.value_type) f.args ≡ true
      → list_all is_spelled_type f.results ≡ true → OpsFit scope f.ops
      → FormTo (num_by v) (AtItem fit) (AtItem anyone) forms.Func (signature_pieces scope f ++ ops_pieces scope f.ops) (IsFunc scope f)
  func_spelled fit scope f fits args results ops ts σ are h =
      func_row fit σ.count h.1 scope f fits args results ops ts σ are (enters_func fit h.0 h.1 σ h.2)
