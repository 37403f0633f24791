-- The grammar of the language, form by form, in the order of docs/LANGUAGE.md. A reader matches on
-- forms and on the numbers of their alternatives, so alternatives and words are only appended.
use Prim.Native.String.{String}
use Rattle.std.specs.Prelude.{ℕ, List, [], ◌∷◌, map, codes}
use Rattle.sh_lex.specs.declared.tokens.TokenKind.{TokenKind}
use Rattle.sh_lex.specs.declared.tokens.TokenKind.TheVariants.{Word, Val, At, Hash as HashToken, Block, Number, Dim as DimToken, Str, End}
use Rattle.sh_grammar.specs.declared.forms.Form.{Form}
use Rattle.sh_grammar.specs.declared.forms.Form.TheVariants.{File, Aliases, Contents, ModuleName, Items, Alias, Hash, Map, Names, MoreNames, Name, Item, Extents, Arguments, MoreArguments, Argument, Device, Cuts, MoreCuts, Cut, MaybeHalo, Halo, MaybeOffsets, Offsets, Func, Visibility, Parameters, MoreParameters, Parameter, Results, ResultTypes, Operations, Return, Returned, ValueType, Dims, Dim, Width, Types, MoreTypes, Values, MoreValues, Dense, Cells, Element, Elements, MoreElements, Num, Nums, Numbers, MoreNumbers, Lists, ListItems, MoreListItems, Operation, RightSide, EmptyTensor, ExtractSlice, InsertSlice, CollapseShape, ExpandShape, Structured, StructuredName, Transpose, Broadcast, Reduce, Generic, Sharding, Shard, AllGather, AllSlice, AllReduce, ReduceScatter, AllToAll, Shift, UpdateHalo, Take, Pad, Join, Call, CallName, Arith, Constant, Literal, Binary, BinaryName, Compare, Predicate, Select, SelectTypes, Cast, CastName, Ins, MaybeIns, Outs, ReduceTail, Combiner, MaybeNoOverflow, NoOverflow, Body, BodyOperation, GenericBody, GenericOperation, GenericRightSide, LoopIndex, IndexCast, Yield, BlockArguments, MoreBlockArguments, BlockArgument, Maps, MoreMaps, MapOrAlias, Iterators, MoreIterators, On, MaybeAxes, MaybeReduction, ReductionKind, KindName, MaybeForUsers, MaybeRotate}
use Rattle.sh_grammar.specs.declared.symbols.Symbol.{Symbol}
use Rattle.sh_grammar.specs.declared.symbols.Symbol.TheVariants.{Class, Part}
use Rattle.sh_grammar.specs.Lexemes.{Lexeme, words, class_of_keyword, class_of_kind}
use Rattle.sh_grammar.specs.Grammar.{Grammar, Trees, Reads, Front}

-- the keyword with this text
abbrev pub the_text : List ℕ → Symbol
the_text text = Class (class_of_keyword text)

abbrev pub the : String → Symbol
the s = the_text (codes s)

-- any token of this kind that is no keyword
abbrev pub any : TokenKind → Symbol
any kind = Class (class_of_kind kind)

-- one of these keywords
abbrev pub one_of : List (List ℕ) → List (List Symbol)
one_of texts = map (λ text. the_text text ∷ []) texts

-- this, or nothing
abbrev pub maybe : Symbol → List (List Symbol)
maybe s = [] ∷ (s ∷ []) ∷ []

-- `X*`: nothing, or an X and then the same form again
abbrev pub many : Symbol → Form → List (List Symbol)
many s again = [] ∷ (s ∷ Part again ∷ []) ∷ []

-- `X,*`: nothing, or an X and then the form of the rest, which is nothing, or a comma, an X and the
-- rest again
abbrev pub list : Symbol → Form → List (List Symbol)
list s rest = [] ∷ (s ∷ Part rest ∷ []) ∷ []

abbrev pub rest_of_list : Symbol → Form → List (List Symbol)
rest_of_list s rest = [] ∷ (the "," ∷ s ∷ Part rest ∷ []) ∷ []

abbrev pub language : Grammar
-- file = alias* ( 'module' AT? '{' item* '}' | item* )
language File = (Part Aliases ∷ Part Contents ∷ []) ∷ []
language Aliases = many (Part Alias) Aliases
language Contents =
    (the "module" ∷ Part ModuleName ∷ the "{" ∷ Part Items ∷ the "}" ∷ [])
    ∷ (Part Items ∷ [])
    ∷ []
language ModuleName = maybe (any At)
language Items = many (Part Item) Items
-- alias = HASH '=' map
language Alias = (Part Hash ∷ the "=" ∷ Part Map ∷ []) ∷ []
-- HASH, any of them
language Hash = (any HashToken ∷ []) ∷ (the "#arith.overflow" ∷ []) ∷ []
-- map = 'affine_map' '<' '(' word,* ')' '->' '(' word,* ')' '>'
language Map =
    (the "affine_map" ∷ the "<" ∷ the "(" ∷ Part Names ∷ the ")"
    ∷ the "->" ∷ the "(" ∷ Part Names ∷ the ")" ∷ the ">" ∷ []) ∷ []
language Names = list (Part Name) MoreNames
language MoreNames = rest_of_list (Part Name) MoreNames
-- word, any of them, the words of the language too
language Name = (any Word ∷ []) ∷ one_of words
-- item = 'shard.grid' AT '(' 'shape' '=' DIM* NUMBER ')'     (no DIM is ?x here)
--      | device? func
--      | 'shardrun.call' AT '(' (dense ':' type),* ')'
language Item =
    (the "shard.grid" ∷ any At ∷ the "(" ∷ the "shape" ∷ the "=" ∷ Part Extents ∷ the ")" ∷ [])
    ∷ (Part Device ∷ Part Func ∷ [])
    ∷ (Part Func ∷ [])
    ∷ (the "shardrun.call" ∷ any At ∷ the "(" ∷ Part Arguments ∷ the ")" ∷ [])
    ∷ []
language Extents = (any DimToken ∷ Part Extents ∷ []) ∷ (any Number ∷ []) ∷ []
language Arguments = list (Part Argument) MoreArguments
language MoreArguments = rest_of_list (Part Argument) MoreArguments
language Argument = (Part Dense ∷ the ":" ∷ Part ValueType ∷ []) ∷ []
-- device = 'shardrun.device' AT 'on' AT '(' cut,* ')' '->' '(' cut,* ')'
language Device =
    (the "shardrun.device" ∷ any At ∷ the "on" ∷ any At ∷ the "(" ∷ Part Cuts ∷ the ")"
    ∷ the "->" ∷ the "(" ∷ Part Cuts ∷ the ")" ∷ []) ∷ []
language Cuts = list (Part Cut) MoreCuts
language MoreCuts = rest_of_list (Part Cut) MoreCuts
-- cut = type 'split_axes' '=' lists halo? offs?
language Cut =
    (Part ValueType ∷ the "split_axes" ∷ the "=" ∷ Part Lists
    ∷ Part MaybeHalo ∷ Part MaybeOffsets ∷ []) ∷ []
language MaybeHalo = maybe (Part Halo)
language MaybeOffsets = maybe (Part Offsets)
-- halo = 'halo_sizes' '=' nums      offs = 'sharded_dims_offsets' '=' nums
language Halo = (the "halo_sizes" ∷ the "=" ∷ Part Nums ∷ []) ∷ []
language Offsets = (the "sharded_dims_offsets" ∷ the "=" ∷ Part Nums ∷ []) ∷ []
-- func = 'func.func' ('private'|'public')? AT '(' (VAL ':' type),* ')'
--     ('->' (type | '(' type,* ')'))? '{' op* ret '}'
language Func =
    (the "func.func" ∷ Part Visibility ∷ any At ∷ the "(" ∷ Part Parameters ∷ the ")" ∷ Part Results
    ∷ the "{" ∷ Part Operations ∷ the "}" ∷ []) ∷ []
language Visibility = [] ∷ (the "private" ∷ []) ∷ (the "public" ∷ []) ∷ []
language Parameters = list (Part Parameter) MoreParameters
language MoreParameters = rest_of_list (Part Parameter) MoreParameters
language Parameter = (any Val ∷ the ":" ∷ Part ValueType ∷ []) ∷ []
language Results = [] ∷ (the "->" ∷ Part ResultTypes ∷ []) ∷ []
language ResultTypes = (Part ValueType ∷ []) ∷ (the "(" ∷ Part Types ∷ the ")" ∷ []) ∷ []
language Operations = (Part Operation ∷ Part Operations ∷ []) ∷ (Part Return ∷ []) ∷ []
-- ret = ('return'|'func.return') (VAL,* ':' type,*)?
language Return =
    (the "return" ∷ Part Returned ∷ []) ∷ (the "func.return" ∷ Part Returned ∷ []) ∷ []
language Returned = [] ∷ (Part Values ∷ the ":" ∷ Part Types ∷ []) ∷ []
-- type = 'tensor' '<' DIM* width '>' | width
language ValueType =
    (the "tensor" ∷ the "<" ∷ Part Dims ∷ Part Width ∷ the ">" ∷ []) ∷ (Part Width ∷ []) ∷ []
language Dims = many (Part Dim) Dims
language Dim = (any DimToken ∷ []) ∷ (the "?x" ∷ []) ∷ []
language Width = one_of (codes "i1" ∷ codes "i8" ∷ codes "i16" ∷ codes "i32" ∷ codes "i64" ∷ [])
-- type,* and VAL,*
language Types = list (Part ValueType) MoreTypes
language MoreTypes = rest_of_list (Part ValueType) MoreTypes
language Values = list (any Val) MoreValues
language MoreValues = rest_of_list (any Val) MoreValues
-- dense = 'dense' '<' (elem | STRING)? '>'
language Dense = (the "dense" ∷ the "<" ∷ Part Cells ∷ the ">" ∷ []) ∷ []
language Cells = [] ∷ (Part Element ∷ []) ∷ (any Str ∷ []) ∷ []
-- elem = num | 'true' | 'false' | '[' elem,* ']'
language Element =
    (Part Num ∷ []) ∷ (the "true" ∷ []) ∷ (the "false" ∷ [])
    ∷ (the "[" ∷ Part Elements ∷ the "]" ∷ [])
    ∷ []
language Elements = list (Part Element) MoreElements
language MoreElements = rest_of_list (Part Element) MoreElements
-- num = NUMBER | '-' NUMBER
language Num = (any Number ∷ []) ∷ (the "-" ∷ any Number ∷ []) ∷ []
-- nums = '[' num,* ']'
language Nums = (the "[" ∷ Part Numbers ∷ the "]" ∷ []) ∷ []
language Numbers = list (Part Num) MoreNumbers
language MoreNumbers = rest_of_list (Part Num) MoreNumbers
-- lists = '[' nums,* ']'
language Lists = (the "[" ∷ Part ListItems ∷ the "]" ∷ []) ∷ []
language ListItems = list (Part Nums) MoreListItems
language MoreListItems = rest_of_list (Part Nums) MoreListItems
-- op = VAL '=' rhs
language Operation = (any Val ∷ the "=" ∷ Part RightSide ∷ []) ∷ []
-- rhs: each right side is a form of its own
language RightSide =
    (Part Arith ∷ []) ∷ (Part EmptyTensor ∷ []) ∷ (Part ExtractSlice ∷ []) ∷ (Part InsertSlice ∷ [])
    ∷ (Part CollapseShape ∷ []) ∷ (Part ExpandShape ∷ []) ∷ (Part Structured ∷ [])
    ∷ (Part Transpose ∷ []) ∷ (Part Broadcast ∷ []) ∷ (Part Reduce ∷ []) ∷ (Part Generic ∷ [])
    ∷ (Part Sharding ∷ []) ∷ (Part Shard ∷ []) ∷ (Part AllGather ∷ []) ∷ (Part AllSlice ∷ [])
    ∷ (Part AllReduce ∷ []) ∷ (Part ReduceScatter ∷ []) ∷ (Part AllToAll ∷ []) ∷ (Part Shift ∷ [])
    ∷ (Part UpdateHalo ∷ []) ∷ (Part Take ∷ []) ∷ (Part Pad ∷ []) ∷ (Part Join ∷ [])
    ∷ (Part Call ∷ [])
    ∷ []
-- 'tensor.empty' '(' ')' ':' type
language EmptyTensor = (the "tensor.empty" ∷ the "(" ∷ the ")" ∷ the ":" ∷ Part ValueType ∷ []) ∷ []
-- 'tensor.extract_slice' VAL nums nums nums ':' type 'to' type
language ExtractSlice =
    (the "tensor.extract_slice" ∷ any Val ∷ Part Nums ∷ Part Nums ∷ Part Nums
    ∷ the ":" ∷ Part ValueType ∷ the "to" ∷ Part ValueType ∷ []) ∷ []
-- 'tensor.insert_slice' VAL 'into' VAL nums nums nums ':' type 'into' type
language InsertSlice =
    (the "tensor.insert_slice" ∷ any Val ∷ the "into" ∷ any Val ∷ Part Nums ∷ Part Nums ∷ Part Nums
    ∷ the ":" ∷ Part ValueType ∷ the "into" ∷ Part ValueType ∷ []) ∷ []
-- 'tensor.collapse_shape' VAL lists ':' type 'into' type
language CollapseShape =
    (the "tensor.collapse_shape" ∷ any Val ∷ Part Lists
    ∷ the ":" ∷ Part ValueType ∷ the "into" ∷ Part ValueType ∷ []) ∷ []
-- 'tensor.expand_shape' VAL lists 'output_shape' nums ':' type 'into' type
language ExpandShape =
    (the "tensor.expand_shape" ∷ any Val ∷ Part Lists ∷ the "output_shape" ∷ Part Nums
    ∷ the ":" ∷ Part ValueType ∷ the "into" ∷ Part ValueType ∷ []) ∷ []
-- 'linalg.fill', 'linalg.matmul' and so on: ins outs '->' type
language Structured =
    (Part StructuredName ∷ Part Ins ∷ Part Outs ∷ the "->" ∷ Part ValueType ∷ []) ∷ []
language StructuredName =
    one_of (codes "linalg.fill" ∷ codes "linalg.matmul" ∷ codes "linalg.batch_matmul"
    ∷ codes "linalg.matvec" ∷ codes "linalg.vecmat" ∷ codes "linalg.dot" ∷ codes "linalg.conv_1d"
    ∷ codes "linalg.conv_2d" ∷ [])
-- 'linalg.transpose' ins outs 'permutation' '=' nums
language Transpose =
    (the "linalg.transpose" ∷ Part Ins ∷ Part Outs
    ∷ the "permutation" ∷ the "=" ∷ Part Nums ∷ []) ∷ []
-- 'linalg.broadcast' ins outs 'dimensions' '=' nums
language Broadcast =
    (the "linalg.broadcast" ∷ Part Ins ∷ Part Outs
    ∷ the "dimensions" ∷ the "=" ∷ Part Nums ∷ []) ∷ []
-- 'linalg.reduce', in two forms
language Reduce = (the "linalg.reduce" ∷ Part ReduceTail ∷ []) ∷ []
-- 'linalg.generic' '{' 'indexing_maps' '=' '[' (HASH or map),* ']' ','
--     'iterator_types' '=' '[' STRING,* ']' '}' ins? outs
--     '{' BLOCK '(' (VAL ':' width),* ')' ':' generic_body '}' '->' type
language Generic =
    (the "linalg.generic" ∷ the "{" ∷ the "indexing_maps" ∷ the "=" ∷ the "[" ∷ Part Maps ∷ the "]"
    ∷ the "," ∷ the "iterator_types" ∷ the "=" ∷ the "[" ∷ Part Iterators ∷ the "]" ∷ the "}"
    ∷ Part MaybeIns ∷ Part Outs ∷ the "{" ∷ any Block ∷ the "(" ∷ Part BlockArguments ∷ the ")"
    ∷ the ":" ∷ Part GenericBody ∷ the "}" ∷ the "->" ∷ Part ValueType ∷ []) ∷ []
-- 'shard.sharding' AT 'split_axes' '=' lists halo? offs? ':' '!shard.sharding'
language Sharding =
    (the "shard.sharding" ∷ any At ∷ the "split_axes" ∷ the "=" ∷ Part Lists
    ∷ Part MaybeHalo ∷ Part MaybeOffsets ∷ the ":" ∷ the "!shard.sharding" ∷ []) ∷ []
-- 'shard.shard' VAL 'to' VAL 'annotate_for_users'? ':' type
language Shard =
    (the "shard.shard" ∷ any Val ∷ the "to" ∷ any Val ∷ Part MaybeForUsers
    ∷ the ":" ∷ Part ValueType ∷ []) ∷ []
-- 'shard.all_gather' VAL on 'gather_axis' '=' NUMBER ':' type '->' type
language AllGather =
    (the "shard.all_gather" ∷ any Val ∷ Part On ∷ the "gather_axis" ∷ the "=" ∷ any Number
    ∷ the ":" ∷ Part ValueType ∷ the "->" ∷ Part ValueType ∷ []) ∷ []
-- 'shard.all_slice' VAL on 'slice_axis' '=' NUMBER ':' type '->' type
language AllSlice =
    (the "shard.all_slice" ∷ any Val ∷ Part On ∷ the "slice_axis" ∷ the "=" ∷ any Number
    ∷ the ":" ∷ Part ValueType ∷ the "->" ∷ Part ValueType ∷ []) ∷ []
-- 'shard.all_reduce' VAL on ('reduction' '=' kind)? ':' type '->' type
language AllReduce =
    (the "shard.all_reduce" ∷ any Val ∷ Part On ∷ Part MaybeReduction
    ∷ the ":" ∷ Part ValueType ∷ the "->" ∷ Part ValueType ∷ []) ∷ []
-- 'shard.reduce_scatter' VAL on ('reduction' '=' kind)? 'scatter_axis' '=' NUMBER
--     ':' type '->' type
language ReduceScatter =
    (the "shard.reduce_scatter" ∷ any Val ∷ Part On ∷ Part MaybeReduction
    ∷ the "scatter_axis" ∷ the "=" ∷ any Number
    ∷ the ":" ∷ Part ValueType ∷ the "->" ∷ Part ValueType ∷ []) ∷ []
-- 'shard.all_to_all' VAL on 'split_axis' '=' NUMBER 'concat_axis' '=' NUMBER ':' type '->' type
language AllToAll =
    (the "shard.all_to_all" ∷ any Val ∷ Part On ∷ the "split_axis" ∷ the "=" ∷ any Number
    ∷ the "concat_axis" ∷ the "=" ∷ any Number
    ∷ the ":" ∷ Part ValueType ∷ the "->" ∷ Part ValueType ∷ []) ∷ []
-- 'shard.shift' VAL on 'shift_axis' '=' NUMBER 'offset' '=' num 'rotate'? ':' type '->' type
language Shift =
    (the "shard.shift" ∷ any Val ∷ Part On ∷ the "shift_axis" ∷ the "=" ∷ any Number
    ∷ the "offset" ∷ the "=" ∷ Part Num ∷ Part MaybeRotate
    ∷ the ":" ∷ Part ValueType ∷ the "->" ∷ Part ValueType ∷ []) ∷ []
-- 'shard.update_halo' VAL 'on' AT 'split_axes' '=' lists halo ':' type
language UpdateHalo =
    (the "shard.update_halo" ∷ any Val ∷ the "on" ∷ any At ∷ the "split_axes" ∷ the "=" ∷ Part Lists
    ∷ Part Halo ∷ the ":" ∷ Part ValueType ∷ []) ∷ []
-- 'shardrun.take' VAL on 'axis' '=' NUMBER 'starts' '=' nums 'sizes' '=' nums ':' type '->' type
language Take =
    (the "shardrun.take" ∷ any Val ∷ Part On ∷ the "axis" ∷ the "=" ∷ any Number
    ∷ the "starts" ∷ the "=" ∷ Part Nums ∷ the "sizes" ∷ the "=" ∷ Part Nums
    ∷ the ":" ∷ Part ValueType ∷ the "->" ∷ Part ValueType ∷ []) ∷ []
-- 'shardrun.pad' VAL 'low' '=' nums 'high' '=' nums ':' type '->' type
language Pad =
    (the "shardrun.pad" ∷ any Val
    ∷ the "low" ∷ the "=" ∷ Part Nums ∷ the "high" ∷ the "=" ∷ Part Nums
    ∷ the ":" ∷ Part ValueType ∷ the "->" ∷ Part ValueType ∷ []) ∷ []
-- 'shardrun.join' VAL,* 'axis' '=' NUMBER ':' type,* '->' type
language Join =
    (the "shardrun.join" ∷ Part Values ∷ the "axis" ∷ the "=" ∷ any Number
    ∷ the ":" ∷ Part Types ∷ the "->" ∷ Part ValueType ∷ []) ∷ []
-- ('call' | 'func.call') AT '(' VAL,* ')' ':' '(' type,* ')' '->' type
language Call =
    (Part CallName ∷ any At ∷ the "(" ∷ Part Values ∷ the ")"
    ∷ the ":" ∷ the "(" ∷ Part Types ∷ the ")" ∷ the "->" ∷ Part ValueType ∷ []) ∷ []
language CallName = one_of (codes "call" ∷ codes "func.call" ∷ [])
-- arith: the right sides that may stand in a body too
language Arith =
    (Part Constant ∷ []) ∷ (Part Binary ∷ []) ∷ (Part Compare ∷ []) ∷ (Part Select ∷ [])
    ∷ (Part Cast ∷ [])
    ∷ []
-- 'arith.constant' ( 'true' or 'false' or num ':' width or dense ':' type )
language Constant = (the "arith.constant" ∷ Part Literal ∷ []) ∷ []
language Literal =
    (the "true" ∷ []) ∷ (the "false" ∷ []) ∷ (Part Num ∷ the ":" ∷ Part Width ∷ [])
    ∷ (Part Dense ∷ the ":" ∷ Part ValueType ∷ [])
    ∷ []
-- BIN VAL ',' VAL ':' type
language Binary =
    (Part BinaryName ∷ any Val ∷ the "," ∷ any Val ∷ the ":" ∷ Part ValueType ∷ []) ∷ []
language BinaryName =
    one_of (codes "arith.addi" ∷ codes "arith.subi" ∷ codes "arith.muli"
    ∷ codes "arith.andi" ∷ codes "arith.ori" ∷ codes "arith.xori"
    ∷ codes "arith.maxsi" ∷ codes "arith.minsi" ∷ codes "arith.maxui" ∷ codes "arith.minui"
    ∷ codes "arith.divui" ∷ codes "arith.remui" ∷ codes "arith.divsi" ∷ codes "arith.remsi"
    ∷ codes "arith.shli" ∷ codes "arith.shrui" ∷ codes "arith.shrsi" ∷ [])
-- 'arith.cmpi' word ',' VAL ',' VAL ':' type
language Compare =
    (the "arith.cmpi" ∷ Part Predicate ∷ the "," ∷ any Val ∷ the "," ∷ any Val
    ∷ the ":" ∷ Part ValueType ∷ []) ∷ []
language Predicate =
    one_of (codes "eq" ∷ codes "ne" ∷ codes "slt" ∷ codes "sle" ∷ codes "sgt" ∷ codes "sge"
    ∷ codes "ult" ∷ codes "ule" ∷ codes "ugt" ∷ codes "uge" ∷ [])
-- 'arith.select' VAL ',' VAL ',' VAL ':' (type ',')? type
language Select =
    (the "arith.select" ∷ any Val ∷ the "," ∷ any Val ∷ the "," ∷ any Val
    ∷ the ":" ∷ Part ValueType ∷ Part SelectTypes ∷ []) ∷ []
language SelectTypes = [] ∷ (the "," ∷ Part ValueType ∷ []) ∷ []
-- 'arith.extsi', 'arith.extui', 'arith.trunci': VAL ':' type 'to' type
language Cast =
    (Part CastName ∷ any Val ∷ the ":" ∷ Part ValueType ∷ the "to" ∷ Part ValueType ∷ []) ∷ []
language CastName = one_of (codes "arith.extsi" ∷ codes "arith.extui" ∷ codes "arith.trunci" ∷ [])
-- ins = 'ins' '(' VAL,* ':' type,* ')'     outs likewise
language Ins = (the "ins" ∷ the "(" ∷ Part Values ∷ the ":" ∷ Part Types ∷ the ")" ∷ []) ∷ []
language MaybeIns = maybe (Part Ins)
language Outs = (the "outs" ∷ the "(" ∷ Part Values ∷ the ":" ∷ Part Types ∷ the ")" ∷ []) ∷ []
-- behind 'linalg.reduce': '{' BIN none? '}' ins outs 'dimensions' '=' nums
--                       | ins outs 'dimensions' '=' nums '(' (VAL ':' width),* ')' '{' body '}'
language ReduceTail =
    (the "{" ∷ Part Combiner ∷ Part MaybeNoOverflow ∷ the "}" ∷ Part Ins ∷ Part Outs
    ∷ the "dimensions" ∷ the "=" ∷ Part Nums ∷ [])
    ∷ (Part Ins ∷ Part Outs ∷ the "dimensions" ∷ the "=" ∷ Part Nums
    ∷ the "(" ∷ Part BlockArguments ∷ the ")" ∷ the "{" ∷ Part Body ∷ the "}" ∷ [])
    ∷ []
language Combiner =
    one_of (codes "arith.addi" ∷ codes "arith.muli" ∷ codes "arith.maxsi" ∷ codes "arith.minsi"
    ∷ codes "arith.maxui" ∷ codes "arith.minui" ∷ codes "arith.andi" ∷ codes "arith.ori"
    ∷ codes "arith.xori" ∷ [])
-- none = '{' 'overflowFlags' '=' '#arith.overflow' '<' 'none' '>' '}'
language MaybeNoOverflow = maybe (Part NoOverflow)
language NoOverflow =
    (the "{" ∷ the "overflowFlags" ∷ the "="
    ∷ the "#arith.overflow" ∷ the "<" ∷ the "none" ∷ the ">" ∷ the "}" ∷ []) ∷ []
-- body = (VAL '=' arith)* 'linalg.yield' VAL ':' width
language Body = (Part BodyOperation ∷ Part Body ∷ []) ∷ (Part Yield ∷ []) ∷ []
language BodyOperation = (any Val ∷ the "=" ∷ Part Arith ∷ []) ∷ []
-- generic_body = (VAL '=' generic_rhs)* 'linalg.yield' VAL ':' width
language GenericBody = (Part GenericOperation ∷ Part GenericBody ∷ []) ∷ (Part Yield ∷ []) ∷ []
language GenericOperation = (any Val ∷ the "=" ∷ Part GenericRightSide ∷ []) ∷ []
-- generic_rhs = arith
--             | 'linalg.index' NUMBER ':' 'index'
--             | 'arith.index_cast' VAL ':' 'index' 'to' width
language GenericRightSide = (Part Arith ∷ []) ∷ (Part LoopIndex ∷ []) ∷ (Part IndexCast ∷ []) ∷ []
language LoopIndex = (the "linalg.index" ∷ any Number ∷ the ":" ∷ the "index" ∷ []) ∷ []
language IndexCast =
    (the "arith.index_cast" ∷ any Val ∷ the ":" ∷ the "index" ∷ the "to" ∷ Part Width ∷ []) ∷ []
language Yield = (the "linalg.yield" ∷ any Val ∷ the ":" ∷ Part Width ∷ []) ∷ []
language BlockArguments = list (Part BlockArgument) MoreBlockArguments
language MoreBlockArguments = rest_of_list (Part BlockArgument) MoreBlockArguments
language BlockArgument = (any Val ∷ the ":" ∷ Part Width ∷ []) ∷ []
-- (HASH or map),* and STRING,*
language Maps = list (Part MapOrAlias) MoreMaps
language MoreMaps = rest_of_list (Part MapOrAlias) MoreMaps
language MapOrAlias = (Part Hash ∷ []) ∷ (Part Map ∷ []) ∷ []
language Iterators = list (any Str) MoreIterators
language MoreIterators = rest_of_list (any Str) MoreIterators
-- on = 'on' AT ('grid_axes' '=' nums)?
language On = (the "on" ∷ any At ∷ Part MaybeAxes ∷ []) ∷ []
language MaybeAxes = [] ∷ (the "grid_axes" ∷ the "=" ∷ Part Nums ∷ []) ∷ []
-- ('reduction' '=' kind)?, where kind is one of seven names, or '<' name '>'
language MaybeReduction = [] ∷ (the "reduction" ∷ the "=" ∷ Part ReductionKind ∷ []) ∷ []
language ReductionKind = (Part KindName ∷ []) ∷ (the "<" ∷ Part KindName ∷ the ">" ∷ []) ∷ []
language KindName =
    one_of (codes "sum" ∷ codes "product" ∷ codes "max" ∷ codes "min"
    ∷ codes "bitwise_and" ∷ codes "bitwise_or" ∷ codes "bitwise_xor" ∷ [])
-- 'annotate_for_users'? and 'rotate'?
language MaybeForUsers = maybe (the "annotate_for_users")
language MaybeRotate = maybe (the "rotate")

-- a file and the end: what the tokens of a text have to spell
abbrev pub text_of_file : List Symbol
text_of_file = Part File ∷ any End ∷ []

-- the tokens are a file, by these trees
abbrev pub IsFile : List Lexeme → Trees → Type 0
IsFile ts f = Reads language text_of_file ts f

-- the tokens are a front of a file
abbrev pub IsFileFront : List Lexeme → Type 0
IsFileFront ts = Front language text_of_file ts
