-- Each row of the grammar, of parts that are as they should be, makes a part that is.
use Rattle.std.proofs.Common.{ℕ, List, [], ◌∷◌, ◌++◌, true, false, refl}
use Rattle.std.specs.Prelude.{pos}
use Rattle.sh_base.specs.declared.numbers.Width.TheVariants.{I1}
use Rattle.sh_build.specs.Meaning.{cell_width, made}
use Rattle.sh_build.specs.Readings.{arg_in, args_in, body_op_in, combiner_in, constant_in, constants_in, contents_in, cut_in, cuts_in, dim_in, dims_in, groups_in, id_in, ids_in, lists_in, literal_in, map_in, maps_in, mark_in, number_in, numbers_in, op_in, operands_in, ops_in, place_in, signed_in, structured_in, symbol_in, tail_in, type_in, types_in, width_in}
use Rattle.sh_build.specs.declared.parts.Part.{Part}
use Rattle.sh_grammar.specs.Language.{language}
use Rattle.sh_grammar.specs.declared.forms.Form.{Form}
use Rattle.sh_grammar.specs.declared.forms.Form.TheVariants as form
use Rattle.sh_ir.specs.Formed.{is_spelled_dim}
use Rattle.sh_ir.specs.Shapes.{extent_of}
use Rattle.sh_ir.specs.Written.{all_numbers, first_type}
use Rattle.sh_literals.specs.declared.literals.Element.TheVariants.{Number, Truth}
use Rattle.sh_parse.proofs.formed.ContentsKept.{any_count_kept, comparison_kept, in_groups_kept, plain_kept, typed_kept, untyped_kept}
use Rattle.sh_parse.proofs.formed.EachOf.{each_append, each_before, tests_all}
use Rattle.sh_parse.proofs.formed.LiteralsKept.{counted_in_front, dense_kept, scalar_kept}
use Rattle.sh_parse.proofs.formed.PartsKept.{BodyOpKept, CutKept, DenseKept, IsKept, Keeps, MapNumbered, NamesKept, PlainBodyOp, TypeSpelled}
use Rattle.sh_parse.proofs.formed.RowFacts.{ForRows, rows_of_all}
use Rattle.sh_parse.proofs.formed.SidesKept.{carried_kept, constant_kept, defined, defined_in_body, defined_in_generic, device_cuts, device_on_grid, extent_spelled, func_types_kept, generic_side, indexed, item_in_front, negative_spelled, numbered_or, one_there, operation_in_front, reduces, reduces_shortly, returns, selection_kept, sharding_spelled, side_kept, structured_side_kept, three_spelled, yields}

-- what a row of the form makes, where its names are as they should be
abbrev pub Makes : Form → ℕ → List Part → Type 0
Makes n i ps = NamesKept n (made n i ps) → Keeps n (made n i ps)

-- all rows of the form do
abbrev pub RowsKeep : Form → Type 0
RowsKeep n = ForRows IsKept (Makes n) (language n)

-- nothing is asked of what the form makes
free_rows : (n : Form) → ((p : Part) → Keeps n p) → RowsKeep n
free_rows n all = rows_of_all IsKept (Makes n) (language n) (λ i ps own. all (made n i ps))

keeps-File : RowsKeep form.File
unfolding made
keeps-File = (λ _ _ _ contents-is _. contents-is, tt)

keeps-Aliases : RowsKeep form.Aliases
unfolding made
keeps-Aliases = (λ _. tt, (λ _ alias-is _ more-is _. (alias-is, more-is), tt))

keeps-Contents : RowsKeep form.Contents
unfolding made
keeps-Contents = (
  λ _ _ name name-is _ _ _ items-is _ _ _.
      record {
        name = name-is;
        grids = items-is.grids;
        funcs = items-is.funcs;
        calls =
            items-is.calls;
      },
  (
    λ _ items-is _.
        record {
          name = tt;
          grids = items-is.grids;
          funcs = items-is.funcs;
          calls = items-is.calls;
        },
    tt,
  ),
)

keeps-ModuleName : RowsKeep form.ModuleName
unfolding made
keeps-ModuleName = (λ _. tt, (λ name name-is _. (name-is.name refl, tt), tt))

keeps-Items : RowsKeep form.Items
unfolding made
keeps-Items = (
  λ _. record { grids = tt; funcs = tt; calls = tt },
  (
    λ item item-is more more-is _. item_in_front item (contents_in more) item-is more-is,
    tt,
  ),
)

keeps-Alias : RowsKeep form.Alias
unfolding made
keeps-Alias = (λ _ _ _ _ map map-is _. numbered_or (map_in map) map-is, tt)

keeps-Hash : RowsKeep form.Hash
unfolding made
keeps-Hash = (λ _ hash-is _. hash-is.map, (λ _ hash-is _. hash-is.map, tt))

keeps-Map : RowsKeep form.Map
unfolding made
keeps-Map = (λ _ _ _ _ _ _ _ _ _ _ _ _ _ _ _ _ _ _ _ _ own. own, tt)

keeps-Item : RowsKeep form.Item
unfolding made
keeps-Item = (
  λ _ _ name name-is _ _ _ _ _ _ _ extents-is _ _ _.
      record {
        name = name-is.name refl;
        some = extents-is.some;
        positive = extents-is.positive;
        spelled = extents-is.spelled;
      },
  (
    λ device device-is func func-is _. carried_kept device func device-is func-is,
    (
      λ _ func-is _. func-is,
      (
        λ _ _ callee callee-is _ _ args args-is _ _ _.
            record { callee = callee-is.name refl; args = args-is },
        tt,
      ),
    ),
  ),
)

keeps-Extents : RowsKeep form.Extents
unfolding made
keeps-Extents = (
  λ dim dim-is more more-is _.
      record {
        some = one_there (pos (extent_of (dim_in dim))) (numbers_in more);
        positive =
            (refl, more-is.positive);
        spelled = (
          extent_spelled (dim_in dim) dim-is.dim,
          more-is.spelled,
        );
      },
  (
    λ number number-is _.
        record { some = refl; positive = (refl, tt); spelled = (number-is.number, tt) },
    tt,
  ),
)

keeps-Arguments : RowsKeep form.Arguments
unfolding made
keeps-Arguments = (
  λ _. tt,
  (
    λ arg arg-is more more-is _.
        each_before DenseKept (constant_in arg) (constants_in more) arg-is more-is,
    tt,
  ),
)

keeps-MoreArguments : RowsKeep form.MoreArguments
unfolding made
keeps-MoreArguments = (
  λ _. tt,
  (
    λ _ _ arg arg-is more more-is _.
        each_before DenseKept (constant_in arg) (constants_in more) arg-is more-is,
    tt,
  ),
)

keeps-Argument : RowsKeep form.Argument
unfolding made
keeps-Argument = (λ literal literal-is _ _ t t-is _. dense_kept (type_in t) (literal_in literal) t-is literal-is, tt)

keeps-Device : RowsKeep form.Device
unfolding made
keeps-Device = (
  λ _ _ name _ _ _ grid grid-is _ _ args args-is _ _ _ _ _ _ results results-is _ _ _.
      record {
        grid = grid-is.name refl;
        cuts = device_cuts (symbol_in grid) (cuts_in args)
            (cuts_in results) args-is results-is;
        on_grid = device_on_grid (symbol_in grid) (cuts_in
            args) (cuts_in results);
      },
  tt,
)

keeps-Cuts : RowsKeep form.Cuts
unfolding made
keeps-Cuts = (
  λ _. tt,
  (
    λ cut cut-is more more-is _. each_before CutKept (cut_in cut) (cuts_in more) cut-is more-is,
    tt,
  ),
)

keeps-MoreCuts : RowsKeep form.MoreCuts
unfolding made
keeps-MoreCuts = (
  λ _. tt,
  (
    λ _ _ cut cut-is more more-is _. each_before CutKept (cut_in cut) (cuts_in more) cut-is more-is,
    tt,
  ),
)

keeps-Cut : RowsKeep form.Cut
unfolding made
keeps-Cut = (
  λ whole whole-is _ _ _ _ lists lists-is halos halos-is offsets offsets-is _.
      record {
        whole = whole-is;
        numbers = sharding_spelled (lists_in lists) (numbers_in halos)
            (numbers_in offsets) lists-is halos-is offsets-is;
      },
  tt,
)

keeps-MaybeHalo : RowsKeep form.MaybeHalo
unfolding made
keeps-MaybeHalo = (λ _. tt, (λ _ halo-is _. halo-is, tt))

keeps-Halo : RowsKeep form.Halo
unfolding made
keeps-Halo = (λ _ _ _ _ _ nums-is _. nums-is, tt)

keeps-MaybeOffsets : RowsKeep form.MaybeOffsets
unfolding made
keeps-MaybeOffsets = (λ _. tt, (λ _ offsets-is _. offsets-is, tt))

keeps-Offsets : RowsKeep form.Offsets
unfolding made
keeps-Offsets = (λ _ _ _ _ _ nums-is _. nums-is, tt)

keeps-Func : RowsKeep form.Func
unfolding made
keeps-Func = (
  λ _ _ _ _ name name-is _ _ args args-is _ _ results results-is _ _ ops ops-is _ _ _.
      record {
        symbols = (name-is.name refl, tt);
        types = func_types_kept (args_in args) (types_in
            results) args-is results-is;
        cuts = tt;
        on_grid = tt;
        ops = ops-is;
      },
  tt,
)

keeps-Parameters : RowsKeep form.Parameters
unfolding made
keeps-Parameters = (
  λ _. tt,
  (
    λ arg arg-is more more-is _.
        each_before (λ arg. TypeSpelled arg.value_type) (arg_in arg) (args_in more) arg-is more-is,
    tt,
  ),
)

keeps-MoreParameters : RowsKeep form.MoreParameters
unfolding made
keeps-MoreParameters = (
  λ _. tt,
  (
    λ _ _ arg arg-is more more-is _.
        each_before (λ arg. TypeSpelled arg.value_type) (arg_in arg) (args_in more) arg-is more-is,
    tt,
  ),
)

keeps-Parameter : RowsKeep form.Parameter
unfolding made
keeps-Parameter = (λ _ _ _ _ _ t-is _. t-is, tt)

keeps-Results : RowsKeep form.Results
unfolding made
keeps-Results = (λ _. tt, (λ _ _ _ types-is _. types-is, tt))

keeps-ResultTypes : RowsKeep form.ResultTypes
unfolding made
keeps-ResultTypes = (λ _ t-is _. (t-is, tt), (λ _ _ _ types-is _ _ _. types-is, tt))

keeps-Operations : RowsKeep form.Operations
unfolding made
keeps-Operations = (
  λ op op-is more more-is _. operation_in_front (op_in op) (ops_in more) op-is more-is,
  (
    λ _ return-is _. return-is,
    tt,
  ),
)

keeps-Return : RowsKeep form.Return
unfolding made
keeps-Return = (
  λ mark _ operands operands-is _. returns (operands_in operands) (place_in mark) operands-is,
  (
    λ mark _ operands operands-is _. returns (operands_in operands) (place_in mark) operands-is,
    tt,
  ),
)

keeps-Returned : RowsKeep form.Returned
unfolding made
keeps-Returned = (λ _. tt, (λ _ _ _ _ _ types-is _. types-is, tt))

keeps-ValueType : RowsKeep form.ValueType
unfolding made
keeps-ValueType = (
  λ _ _ _ _ dims dims-is _ _ _ _ _. tests_all is_spelled_dim (dims_in dims) dims-is,
  (
    λ _ _ _. refl,
    tt,
  ),
)

keeps-Dims : RowsKeep form.Dims
unfolding made
keeps-Dims = (λ _. tt, (λ _ dim-is _ more-is _. (dim-is, more-is), tt))

keeps-Dim : RowsKeep form.Dim
unfolding made
keeps-Dim = (λ dim dim-is _. dim-is.dim, (λ dim dim-is _. dim-is.dim, tt))

keeps-Types : RowsKeep form.Types
unfolding made
keeps-Types = (λ _. tt, (λ _ t-is _ more-is _. (t-is, more-is), tt))

keeps-MoreTypes : RowsKeep form.MoreTypes
unfolding made
keeps-MoreTypes = (λ _. tt, (λ _ _ _ t-is _ more-is _. (t-is, more-is), tt))

keeps-Dense : RowsKeep form.Dense
unfolding made
keeps-Dense = (λ _ _ _ _ _ cells-is _ _ _. cells-is, tt)

keeps-Cells : RowsKeep form.Cells
unfolding made
keeps-Cells = (λ _. tt, (λ _ it-is _. it-is, (λ _ _ _. tt, tt)))

keeps-Element : RowsKeep form.Element
unfolding made
keeps-Element = (λ _ _ _. refl, (λ _ _ _. refl, (λ _ _ _. refl, (λ _ _ _ list-is _ _ _. list-is, tt))))

keeps-Elements : RowsKeep form.Elements
unfolding made
keeps-Elements = (
  λ _. refl,
  (
    λ element element-is more more-is _.
        counted_in_front (literal_in element) (literal_in more) element-is more-is,
    tt,
  ),
)

keeps-MoreElements : RowsKeep form.MoreElements
unfolding made
keeps-MoreElements = (
  λ _. refl,
  (
    λ _ _ element element-is more more-is _.
        counted_in_front (literal_in element) (literal_in more) element-is more-is,
    tt,
  ),
)

keeps-Num : RowsKeep form.Num
unfolding made
keeps-Num = (
  λ number number-is _. number-is.number,
  (
    λ _ _ number number-is _. negative_spelled (number_in number) number-is.number,
    tt,
  ),
)

keeps-Nums : RowsKeep form.Nums
unfolding made
keeps-Nums = (λ _ _ _ numbers-is _ _ _. numbers-is, tt)

keeps-Numbers : RowsKeep form.Numbers
unfolding made
keeps-Numbers = (λ _. tt, (λ _ num-is _ more-is _. (num-is, more-is), tt))

keeps-MoreNumbers : RowsKeep form.MoreNumbers
unfolding made
keeps-MoreNumbers = (λ _. tt, (λ _ _ _ num-is _ more-is _. (num-is, more-is), tt))

keeps-Lists : RowsKeep form.Lists
unfolding made
keeps-Lists = (λ _ _ _ lists-is _ _ _. lists-is, tt)

keeps-ListItems : RowsKeep form.ListItems
unfolding made
keeps-ListItems = (
  λ _. tt,
  (
    λ nums nums-is more more-is _.
        each_append _ (numbers_in nums) (all_numbers (lists_in more)) nums-is more-is,
    tt,
  ),
)

keeps-MoreListItems : RowsKeep form.MoreListItems
unfolding made
keeps-MoreListItems = (
  λ _. tt,
  (
    λ _ _ nums nums-is more more-is _.
        each_append _ (numbers_in nums) (all_numbers (lists_in more)) nums-is more-is,
    tt,
  ),
)

keeps-Operation : RowsKeep form.Operation
unfolding made
keeps-Operation = (λ name _ _ _ right right-is _. defined (mark_in name) right right-is, tt)

keeps-RightSide : RowsKeep form.RightSide
unfolding made
keeps-RightSide = (λ right right-is _. side_kept right right-is, (λ right right-is _. side_kept right right-is, (λ right right-is _. side_kept right right-is, (λ right right-is _. side_kept right right-is, (λ right right-is _. side_kept right right-is, (λ right right-is _. side_kept right right-is, (λ right right-is _. side_kept right right-is, (λ right right-is _. side_kept right right-is, (λ right right-is _. side_kept right right-is, (λ right right-is _. side_kept right right-is, (λ right right-is _. side_kept right right-is, (λ right right-is _. side_kept right right-is, (λ right right-is _. side_kept right right-is, (λ right right-is _. side_kept right right-is, (λ right right-is _. side_kept right right-is, (λ right right-is _. side_kept right right-is, (λ right right-is _. side_kept right right-is, (λ right right-is _. side_kept right right-is, (λ right right-is _. side_kept right right-is, (λ right right-is _. side_kept right right-is, (λ right right-is _. side_kept right right-is, (λ right right-is _. side_kept right right-is, (λ right right-is _. side_kept right right-is, (λ right right-is _. side_kept right right-is, tt))))))))))))))))))))))))

keeps-EmptyTensor : RowsKeep form.EmptyTensor
unfolding made
keeps-EmptyTensor = (
  λ _ _ _ _ _ _ _ _ t t-is _.
      record {
        side = record { content = plain_kept [] (type_in t) t-is; body = tt };
        goes_on =
            refl;
      },
  tt,
)

keeps-ExtractSlice : RowsKeep form.ExtractSlice
unfolding made
keeps-ExtractSlice = (
  λ _ _ a _ offsets offsets-is sizes sizes-is strides strides-is _ _ t t-is _ _ result result-is
      _.
      record {
        side = record {
          content = typed_kept (id_in a ∷ []) (numbers_in offsets ++
              numbers_in sizes ++ numbers_in strides) (type_in t) (type_in result) (three_spelled
              (numbers_in offsets) (numbers_in sizes) (numbers_in strides) offsets-is sizes-is strides-is)
              t-is result-is;
          body = tt;
        };
        goes_on = refl;
      },
  tt,
)

keeps-InsertSlice : RowsKeep form.InsertSlice
unfolding made
keeps-InsertSlice = (
  λ _ _ a _ _ _ b _ offsets offsets-is sizes sizes-is strides strides-is _ _ t t-is _ _ result
      result-is _.
      record {
        side = record {
          content = typed_kept (id_in a ∷ id_in b ∷ []) (numbers_in offsets
              ++ numbers_in sizes ++ numbers_in strides) (type_in t) (type_in result) (three_spelled
              (numbers_in offsets) (numbers_in sizes) (numbers_in strides) offsets-is sizes-is strides-is)
              t-is result-is;
          body = tt;
        };
        goes_on = refl;
      },
  tt,
)

keeps-CollapseShape : RowsKeep form.CollapseShape
unfolding made
keeps-CollapseShape = (
  λ _ _ a _ lists lists-is _ _ t t-is _ _ result result-is _.
      record {
        side = record {
          content = typed_kept (id_in a ∷ []) (all_numbers (lists_in lists))
              (type_in t) (type_in result) lists-is t-is result-is;
          body = tt;
        };
        goes_on = refl;
      },
  tt,
)

keeps-ExpandShape : RowsKeep form.ExpandShape
unfolding made
keeps-ExpandShape = (
  λ _ _ a _ lists lists-is _ _ shape shape-is _ _ t t-is _ _ result result-is _.
      record {
        side = record {
          content = typed_kept (id_in a ∷ []) (all_numbers (lists_in lists)
              ++ numbers_in shape) (type_in t) (type_in result) (each_append _ (all_numbers (lists_in
              lists)) (numbers_in shape) lists-is shape-is) t-is result-is;
          body = tt;
        };
        goes_on = refl;
      },
  tt,
)

keeps-Structured : RowsKeep form.Structured
unfolding made
keeps-Structured = (
  λ name _ ins ins-is outs outs-is _ _ result result-is _.
      structured_side_kept (structured_in name) (operands_in ins) (operands_in outs) (type_in
      result) ins-is outs-is result-is,
  tt,
)

keeps-Transpose : RowsKeep form.Transpose
unfolding made
keeps-Transpose = (
  λ _ _ ins ins-is outs outs-is _ _ _ _ nums nums-is _.
      record {
        side = record {
          content = untyped_kept (operands_in ins) (operands_in outs)
              (numbers_in nums) nums-is ins-is outs-is;
          body = tt;
        };
        goes_on = refl;
      },
  tt,
)

keeps-Broadcast : RowsKeep form.Broadcast
unfolding made
keeps-Broadcast = (
  λ _ _ ins ins-is outs outs-is _ _ _ _ nums nums-is _.
      record {
        side = record {
          content = untyped_kept (operands_in ins) (operands_in outs)
              (numbers_in nums) nums-is ins-is outs-is;
          body = tt;
        };
        goes_on = refl;
      },
  tt,
)

keeps-Reduce : RowsKeep form.Reduce
unfolding made
keeps-Reduce = (λ _ _ _ right-is _. right-is, tt)

keeps-Generic : RowsKeep form.Generic
unfolding made
keeps-Generic = (
  λ _ _ _ _ _ _ _ _ _ _ maps maps-is _ _ _ _ _ _ _ _ _ _ iterators _ _ _ _ _ ins ins-is outs
      outs-is _ _ _ _ _ _ args _ _ _ _ _ tail tail-is _ _ _ _ result result-is _.
      generic_side (operands_in ins) (operands_in outs) maps iterators (args_in args) tail result
      maps-is ins-is outs-is result-is tail-is,
  tt,
)

keeps-Sharding : RowsKeep form.Sharding
unfolding made
keeps-Sharding = (
  λ _ _ _ grid-is _ _ _ _ lists lists-is halos halos-is offsets offsets-is _ _ _ _ _.
      record {
        side = record {
          content = record {
            grids = (grid-is.name refl, tt);
            callees = tt;
            numbers = sharding_spelled (lists_in lists) (numbers_in halos) (numbers_in offsets) lists-is
                halos-is offsets-is;
            types = tt;
            counted = refl;
            captures = tt;
            result = refl;
            constants =
                tt;
            maps = tt;
            indices = refl;
          };
          body = tt;
        };
        goes_on = refl;
      },
  tt,
)

keeps-Shard : RowsKeep form.Shard
unfolding made
keeps-Shard = (
  λ _ _ a _ _ _ sharding _ _ _ _ _ t t-is _.
      record {
        side = record {
          content = plain_kept (id_in a ∷ id_in sharding ∷ []) (type_in t)
              t-is;
          body = tt;
        };
        goes_on = refl;
      },
  tt,
)

keeps-AllGather : RowsKeep form.AllGather
unfolding made
keeps-AllGather = (
  λ _ _ a _ on on-is _ _ _ _ axis axis-is _ _ t t-is _ _ result result-is _.
      record {
        side = record {
          content = in_groups_kept (groups_in on) (id_in a) (pos (number_in
              axis) ∷ []) (type_in t) (type_in result) on-is.grid on-is.axes (axis-is.number, tt) t-is
              result-is;
          body = tt;
        };
        goes_on = refl;
      },
  tt,
)

keeps-AllSlice : RowsKeep form.AllSlice
unfolding made
keeps-AllSlice = (
  λ _ _ a _ on on-is _ _ _ _ axis axis-is _ _ t t-is _ _ result result-is _.
      record {
        side = record {
          content = in_groups_kept (groups_in on) (id_in a) (pos (number_in
              axis) ∷ []) (type_in t) (type_in result) on-is.grid on-is.axes (axis-is.number, tt) t-is
              result-is;
          body = tt;
        };
        goes_on = refl;
      },
  tt,
)

keeps-AllReduce : RowsKeep form.AllReduce
unfolding made
keeps-AllReduce = (
  λ _ _ a _ on on-is _ _ _ _ t t-is _ _ result result-is _.
      record {
        side = record {
          content = in_groups_kept (groups_in on) (id_in a) ([]) (type_in t)
              (type_in result) on-is.grid on-is.axes tt t-is result-is;
          body = tt;
        };
        goes_on = refl;
      },
  tt,
)

keeps-ReduceScatter : RowsKeep form.ReduceScatter
unfolding made
keeps-ReduceScatter = (
  λ _ _ a _ on on-is _ _ _ _ _ _ axis axis-is _ _ t t-is _ _ result result-is _.
      record {
        side = record {
          content = in_groups_kept (groups_in on) (id_in a) (pos (number_in
              axis) ∷ []) (type_in t) (type_in result) on-is.grid on-is.axes (axis-is.number, tt) t-is
              result-is;
          body = tt;
        };
        goes_on = refl;
      },
  tt,
)

keeps-AllToAll : RowsKeep form.AllToAll
unfolding made
keeps-AllToAll = (
  λ _ _ a _ on on-is _ _ _ _ split split-is _ _ _ _ concat concat-is _ _ t t-is _ _ result
      result-is _.
      record {
        side = record {
          content = in_groups_kept (groups_in on) (id_in a) (pos (number_in
              split) ∷ pos (number_in concat) ∷ []) (type_in t) (type_in result) on-is.grid on-is.axes
              (split-is.number, (concat-is.number, tt)) t-is result-is;
          body = tt;
        };
        goes_on = refl;
      },
  tt,
)

keeps-Shift : RowsKeep form.Shift
unfolding made
keeps-Shift = (
  λ _ _ a _ on on-is _ _ _ _ axis axis-is _ _ _ _ offset offset-is _ _ _ _ t t-is _ _ result
      result-is _.
      record {
        side = record {
          content = in_groups_kept (groups_in on) (id_in a) (pos (number_in
              axis) ∷ signed_in offset ∷ []) (type_in t) (type_in result) on-is.grid on-is.axes
              (axis-is.number, (offset-is, tt)) t-is result-is;
          body = tt;
        };
        goes_on = refl;
      },
  tt,
)

keeps-UpdateHalo : RowsKeep form.UpdateHalo
unfolding made
keeps-UpdateHalo = (
  λ _ _ _ _ _ _ _ grid-is _ _ _ _ lists lists-is halo halo-is _ _ _ t-is _.
      record {
        side = record {
          content = record {
            grids = (grid-is.name refl, tt);
            callees = tt;
            numbers = each_append _ (all_numbers (lists_in lists)) (numbers_in halo) lists-is halo-is;
            types = (t-is, tt);
            counted = refl;
            captures = tt;
            result = tt;
            constants = tt;
            maps = tt;
            indices = refl;
          };
          body = tt;
        };
        goes_on = refl;
      },
  tt,
)

keeps-Take : RowsKeep form.Take
unfolding made
keeps-Take = (
  λ _ _ a _ on on-is _ _ _ _ axis axis-is _ _ _ _ starts starts-is _ _ _ _ sizes sizes-is _ _ t
      t-is _ _ result result-is _.
      record {
        side = record {
          content = in_groups_kept (groups_in on) (id_in a) ((pos (number_in
              axis) ∷ numbers_in starts) ++ numbers_in sizes) (type_in t) (type_in result) on-is.grid
              on-is.axes (each_append _ (pos (number_in axis) ∷ numbers_in starts) (numbers_in sizes)
              (axis-is.number, starts-is) sizes-is) t-is result-is;
          body = tt;
        };
        goes_on = refl;
      },
  tt,
)

keeps-Pad : RowsKeep form.Pad
unfolding made
keeps-Pad = (
  λ _ _ a _ _ _ _ _ low low-is _ _ _ _ high high-is _ _ t t-is _ _ result result-is _.
      record {
        side = record {
          content = typed_kept (id_in a ∷ []) (numbers_in low ++ numbers_in
              high) (type_in t) (type_in result) (each_append _ (numbers_in low) (numbers_in high) low-is
              high-is) t-is result-is;
          body = tt;
        };
        goes_on = refl;
      },
  tt,
)

keeps-Join : RowsKeep form.Join
unfolding made
keeps-Join = (
  λ _ _ values _ _ _ _ _ axis axis-is _ _ types types-is _ _ result result-is _.
      record {
        side = record {
          content = any_count_kept (ids_in values) [] (pos (number_in axis) ∷
              []) (types_in types) (type_in result) tt (axis-is.number, tt) types-is result-is;
          body = tt;
        };
        goes_on = refl;
      },
  tt,
)

keeps-Call : RowsKeep form.Call
unfolding made
keeps-Call = (
  λ _ _ callee callee-is _ _ values _ _ _ _ _ _ _ types types-is _ _ _ _ result result-is _.
      record {
        side = record {
          content = any_count_kept (ids_in values) (symbol_in callee ∷ []) []
              (types_in types) (type_in result) (callee-is.name refl, tt) tt types-is result-is;
          body = tt;
        };
        goes_on = refl;
      },
  tt,
)

keeps-Arith : RowsKeep form.Arith
unfolding made
keeps-Arith = (
  λ _ right-is _. right-is,
  (
    λ _ right-is _. right-is,
    (
      λ _ right-is _. right-is,
      (
        λ _ right-is _. right-is,
        (
          λ _ right-is _. right-is,
          tt,
        ),
      ),
    ),
  ),
)

keeps-Constant : RowsKeep form.Constant
unfolding made
keeps-Constant = (λ _ _ constant constant-is _. constant_kept constant constant-is, tt)

keeps-Literal : RowsKeep form.Literal
unfolding made
keeps-Literal = (
  λ _ _ _. scalar_kept I1 (Truth true),
  (
    λ _ _ _. scalar_kept I1 (Truth false),
    (
      λ it _ _ _ t _ _. scalar_kept (width_in t) (Number (signed_in it)),
      (
        λ it it-is _ _ t t-is _. (dense_kept (type_in t) (literal_in it) t-is it-is).constant,
        tt,
      ),
    ),
  ),
)

keeps-Binary : RowsKeep form.Binary
unfolding made
keeps-Binary = (
  λ _ _ a _ _ _ b _ _ _ t t-is _.
      record { content = plain_kept (id_in a ∷ id_in b ∷ []) (type_in t) t-is; no_index = refl },
  tt,
)

keeps-Compare : RowsKeep form.Compare
unfolding made
keeps-Compare = (
  λ _ _ _ _ _ _ a _ _ _ b _ _ _ t t-is _.
      record { content = comparison_kept (id_in a) (id_in b) (type_in t) t-is; no_index = refl },
  tt,
)

keeps-Select : RowsKeep form.Select
unfolding made
keeps-Select = (
  λ _ _ c _ _ _ a _ _ _ b _ _ _ t t-is more more-is _.
      selection_kept (id_in c) (id_in a) (id_in b) (type_in t) (types_in more) t-is more-is,
  tt,
)

keeps-SelectTypes : RowsKeep form.SelectTypes
unfolding made
keeps-SelectTypes = (λ _. tt, (λ _ _ _ t-is _. (t-is, tt), tt))

keeps-Cast : RowsKeep form.Cast
unfolding made
keeps-Cast = (
  λ _ _ a _ _ _ t t-is _ _ result result-is _.
      record {
        content = typed_kept (id_in a ∷ []) [] (type_in t) (type_in result) tt t-is
            result-is;
        no_index = refl;
      },
  tt,
)

keeps-Ins : RowsKeep form.Ins
unfolding made
keeps-Ins = (λ _ _ _ _ _ _ _ _ _ types-is _ _ _. types-is, tt)

keeps-MaybeIns : RowsKeep form.MaybeIns
unfolding made
keeps-MaybeIns = (λ _. tt, (λ _ ins-is _. ins-is, tt))

keeps-Outs : RowsKeep form.Outs
unfolding made
keeps-Outs = (λ _ _ _ _ _ _ _ _ _ types-is _ _ _. types-is, tt)

keeps-ReduceTail : RowsKeep form.ReduceTail
unfolding made
keeps-ReduceTail = (
  λ _ _ combiner _ _ _ _ _ ins ins-is outs outs-is _ _ _ _ nums nums-is _.
      reduces_shortly (operands_in ins) (operands_in outs) (numbers_in nums) (combiner_in
      combiner).op (combiner_in combiner).mark (cell_width (first_type (operands_in ins).types))
      (cell_width (first_type (operands_in outs).types)) ins-is outs-is nums-is,
  (
    λ ins ins-is outs outs-is _ _ _ _ nums nums-is _ _ args _ _ _ _ _ tail tail-is _ _ _.
        reduces (operands_in ins) (operands_in outs) (numbers_in nums) (args_in args) tail ins-is
        outs-is nums-is tail-is,
    tt,
  ),
)

keeps-Body : RowsKeep form.Body
unfolding made
keeps-Body = (
  λ op op-is more more-is _.
      each_before PlainBodyOp (body_op_in op) ((tail_in more).ops) op-is more-is,
  (
    λ _ yield-is _. yield-is,
    tt,
  ),
)

keeps-BodyOperation : RowsKeep form.BodyOperation
unfolding made
keeps-BodyOperation = (λ name _ _ _ right right-is _. defined_in_body (mark_in name) right right-is, tt)

keeps-GenericBody : RowsKeep form.GenericBody
unfolding made
keeps-GenericBody = (
  λ op op-is more more-is _.
      each_before BodyOpKept (body_op_in op) ((tail_in more).ops) op-is more-is,
  (
    λ yield yield-is _. yields yield yield-is,
    tt,
  ),
)

keeps-GenericOperation : RowsKeep form.GenericOperation
unfolding made
keeps-GenericOperation = (λ name _ _ _ right right-is _. defined_in_generic (mark_in name) right right-is, tt)

keeps-GenericRightSide : RowsKeep form.GenericRightSide
unfolding made
keeps-GenericRightSide = (
  λ right right-is _. indexed right right-is,
  (
    λ _ right-is _. right-is,
    (
      λ _ right-is _. right-is,
      tt,
    ),
  ),
)

keeps-LoopIndex : RowsKeep form.LoopIndex
unfolding made
keeps-LoopIndex = (
  λ _ _ number number-is _ _ _ _ _.
      record {
        grids = tt;
        callees = tt;
        numbers = (number-is.number, tt);
        types = tt;
        counted =
            refl;
        captures = tt;
        result = refl;
        constants = tt;
        maps = tt;
        indices = refl;
      },
  tt,
)

keeps-IndexCast : RowsKeep form.IndexCast
unfolding made
keeps-IndexCast = (
  λ _ _ _ _ _ _ _ _ _ _ _ _ _.
      record {
        grids = tt;
        callees = tt;
        numbers = tt;
        types = (refl, tt);
        counted = refl;
        captures = tt;
        result = refl;
        constants = tt;
        maps = tt;
        indices = refl;
      },
  tt,
)

keeps-Yield : RowsKeep form.Yield
unfolding made
keeps-Yield = (λ _ _ _ _ _ _ _ _ _. tt, tt)

keeps-Maps : RowsKeep form.Maps
unfolding made
keeps-Maps = (
  λ _. tt,
  (
    λ map map-is more more-is _. each_before MapNumbered (map_in map) (maps_in more) map-is more-is,
    tt,
  ),
)

keeps-MoreMaps : RowsKeep form.MoreMaps
unfolding made
keeps-MoreMaps = (
  λ _. tt,
  (
    λ _ _ map map-is more more-is _.
        each_before MapNumbered (map_in map) (maps_in more) map-is more-is,
    tt,
  ),
)

keeps-MapOrAlias : RowsKeep form.MapOrAlias
unfolding made
keeps-MapOrAlias = (λ _ it-is _. it-is, (λ _ it-is _. it-is, tt))

keeps-On : RowsKeep form.On
unfolding made
keeps-On = (λ _ _ grid grid-is axes axes-is _. record { grid = grid-is.name refl; axes = axes-is }, tt)

keeps-MaybeAxes : RowsKeep form.MaybeAxes
unfolding made
keeps-MaybeAxes = (λ _. tt, (λ _ _ _ _ _ nums-is _. nums-is, tt))

pub rows_keep : (n : Form) → RowsKeep n
unfolding made
rows_keep form.File = keeps-File
rows_keep form.Aliases = keeps-Aliases
rows_keep form.Contents = keeps-Contents
rows_keep form.ModuleName = keeps-ModuleName
rows_keep form.Items = keeps-Items
rows_keep form.Alias = keeps-Alias
rows_keep form.Hash = keeps-Hash
rows_keep form.Map = keeps-Map
rows_keep form.Names = free_rows form.Names (λ p. tt)
rows_keep form.MoreNames = free_rows form.MoreNames (λ p. tt)
rows_keep form.Name = free_rows form.Name (λ p. tt)
rows_keep form.Item = keeps-Item
rows_keep form.Extents = keeps-Extents
rows_keep form.Arguments = keeps-Arguments
rows_keep form.MoreArguments = keeps-MoreArguments
rows_keep form.Argument = keeps-Argument
rows_keep form.Device = keeps-Device
rows_keep form.Cuts = keeps-Cuts
rows_keep form.MoreCuts = keeps-MoreCuts
rows_keep form.Cut = keeps-Cut
rows_keep form.MaybeHalo = keeps-MaybeHalo
rows_keep form.Halo = keeps-Halo
rows_keep form.MaybeOffsets = keeps-MaybeOffsets
rows_keep form.Offsets = keeps-Offsets
rows_keep form.Func = keeps-Func
rows_keep form.Visibility = free_rows form.Visibility (λ p. tt)
rows_keep form.Parameters = keeps-Parameters
rows_keep form.MoreParameters = keeps-MoreParameters
rows_keep form.Parameter = keeps-Parameter
rows_keep form.Results = keeps-Results
rows_keep form.ResultTypes = keeps-ResultTypes
rows_keep form.Operations = keeps-Operations
rows_keep form.Return = keeps-Return
rows_keep form.Returned = keeps-Returned
rows_keep form.ValueType = keeps-ValueType
rows_keep form.Dims = keeps-Dims
rows_keep form.Dim = keeps-Dim
rows_keep form.Width = free_rows form.Width (λ p. tt)
rows_keep form.Types = keeps-Types
rows_keep form.MoreTypes = keeps-MoreTypes
rows_keep form.Values = free_rows form.Values (λ p. tt)
rows_keep form.MoreValues = free_rows form.MoreValues (λ p. tt)
rows_keep form.Dense = keeps-Dense
rows_keep form.Cells = keeps-Cells
rows_keep form.Element = keeps-Element
rows_keep form.Elements = keeps-Elements
rows_keep form.MoreElements = keeps-MoreElements
rows_keep form.Num = keeps-Num
rows_keep form.Nums = keeps-Nums
rows_keep form.Numbers = keeps-Numbers
rows_keep form.MoreNumbers = keeps-MoreNumbers
rows_keep form.Lists = keeps-Lists
rows_keep form.ListItems = keeps-ListItems
rows_keep form.MoreListItems = keeps-MoreListItems
rows_keep form.Operation = keeps-Operation
rows_keep form.RightSide = keeps-RightSide
rows_keep form.EmptyTensor = keeps-EmptyTensor
rows_keep form.ExtractSlice = keeps-ExtractSlice
rows_keep form.InsertSlice = keeps-InsertSlice
rows_keep form.CollapseShape = keeps-CollapseShape
rows_keep form.ExpandShape = keeps-ExpandShape
rows_keep form.Structured = keeps-Structured
rows_keep form.StructuredName = free_rows form.StructuredName (λ p. tt)
rows_keep form.Transpose = keeps-Transpose
rows_keep form.Broadcast = keeps-Broadcast
rows_keep form.Reduce = keeps-Reduce
rows_keep form.Generic = keeps-Generic
rows_keep form.Sharding = keeps-Sharding
rows_keep form.Shard = keeps-Shard
rows_keep form.AllGather = keeps-AllGather
rows_keep form.AllSlice = keeps-AllSlice
rows_keep form.AllReduce = keeps-AllReduce
rows_keep form.ReduceScatter = keeps-ReduceScatter
rows_keep form.AllToAll = keeps-AllToAll
rows_keep form.Shift = keeps-Shift
rows_keep form.UpdateHalo = keeps-UpdateHalo
rows_keep form.Take = keeps-Take
rows_keep form.Pad = keeps-Pad
rows_keep form.Join = keeps-Join
rows_keep form.Call = keeps-Call
rows_keep form.CallName = free_rows form.CallName (λ p. tt)
rows_keep form.Arith = keeps-Arith
rows_keep form.Constant = keeps-Constant
rows_keep form.Literal = keeps-Literal
rows_keep form.Binary = keeps-Binary
rows_keep form.BinaryName = free_rows form.BinaryName (λ p. tt)
rows_keep form.Compare = keeps-Compare
rows_keep form.Predicate = free_rows form.Predicate (λ p. tt)
rows_keep form.Select = keeps-Select
rows_keep form.SelectTypes = keeps-SelectTypes
rows_keep form.Cast = keeps-Cast
rows_keep form.CastName = free_rows form.CastName (λ p. tt)
rows_keep form.Ins = keeps-Ins
rows_keep form.MaybeIns = keeps-MaybeIns
rows_keep form.Outs = keeps-Outs
rows_keep form.ReduceTail = keeps-ReduceTail
rows_keep form.Combiner = free_rows form.Combiner (λ p. tt)
rows_keep form.MaybeNoOverflow = free_rows form.MaybeNoOverflow (λ p. tt)
rows_keep form.NoOverflow = free_rows form.NoOverflow (λ p. tt)
rows_keep form.Body = keeps-Body
rows_keep form.BodyOperation = keeps-BodyOperation
rows_keep form.GenericBody = keeps-GenericBody
rows_keep form.GenericOperation = keeps-GenericOperation
rows_keep form.GenericRightSide = keeps-GenericRightSide
rows_keep form.LoopIndex = keeps-LoopIndex
rows_keep form.IndexCast = keeps-IndexCast
rows_keep form.Yield = keeps-Yield
rows_keep form.BlockArguments = free_rows form.BlockArguments (λ p. tt)
rows_keep form.MoreBlockArguments = free_rows form.MoreBlockArguments (λ p. tt)
rows_keep form.BlockArgument = free_rows form.BlockArgument (λ p. tt)
rows_keep form.Maps = keeps-Maps
rows_keep form.MoreMaps = keeps-MoreMaps
rows_keep form.MapOrAlias = keeps-MapOrAlias
rows_keep form.Iterators = free_rows form.Iterators (λ p. tt)
rows_keep form.MoreIterators = free_rows form.MoreIterators (λ p. tt)
rows_keep form.On = keeps-On
rows_keep form.MaybeAxes = keeps-MaybeAxes
rows_keep form.MaybeReduction = free_rows form.MaybeReduction (λ p. tt)
rows_keep form.ReductionKind = free_rows form.ReductionKind (λ p. tt)
rows_keep form.KindName = free_rows form.KindName (λ p. tt)
rows_keep form.MaybeForUsers = free_rows form.MaybeForUsers (λ p. tt)
rows_keep form.MaybeRotate = free_rows form.MaybeRotate (λ p. tt)
