-- Written by tools/grammar_tables.py: the forms by number.
use Rattle.std.specs.Prelude.{ℕ, List, [], ◌∷◌}
use Rattle.sh_grammar.specs.declared.forms.Form.{Form}
use Rattle.sh_grammar.specs.declared.forms.Form.TheVariants.{File, Aliases, Contents, ModuleName, Items, Alias, Hash, Map, Names, MoreNames, Name, Item, Extents, Arguments, MoreArguments, Argument, Device, Cuts, MoreCuts, Cut, MaybeHalo, Halo, MaybeOffsets, Offsets, Func, Visibility, Parameters, MoreParameters, Parameter, Results, ResultTypes, Operations, Return, Returned, ValueType, Dims, Dim, Width, Types, MoreTypes, Values, MoreValues, Dense, Cells, Element, Elements, MoreElements, Num, Nums, Numbers, MoreNumbers, Lists, ListItems, MoreListItems, Operation, RightSide, EmptyTensor, ExtractSlice, InsertSlice, CollapseShape, ExpandShape, Structured, StructuredName, Transpose, Broadcast, Reduce, Generic, Sharding, Shard, AllGather, AllSlice, AllReduce, ReduceScatter, AllToAll, Shift, UpdateHalo, Take, Pad, Join, Call, CallName, Arith, Constant, Literal, Binary, BinaryName, Compare, Predicate, Select, SelectTypes, Cast, CastName, Ins, MaybeIns, Outs, ReduceTail, Combiner, MaybeNoOverflow, NoOverflow, Body, BodyOperation, GenericBody, GenericOperation, GenericRightSide, LoopIndex, IndexCast, Yield, BlockArguments, MoreBlockArguments, BlockArgument, Maps, MoreMaps, MapOrAlias, Iterators, MoreIterators, On, MaybeAxes, MaybeReduction, ReductionKind, KindName, MaybeForUsers, MaybeRotate}

-- the place of a form among all
abbrev pub number : Form → ℕ
number File = 0
number Aliases = 1
number Contents = 2
number ModuleName = 3
number Items = 4
number Alias = 5
number Hash = 6
number Map = 7
number Names = 8
number MoreNames = 9
number Name = 10
number Item = 11
number Extents = 12
number Arguments = 13
number MoreArguments = 14
number Argument = 15
number Device = 16
number Cuts = 17
number MoreCuts = 18
number Cut = 19
number MaybeHalo = 20
number Halo = 21
number MaybeOffsets = 22
number Offsets = 23
number Func = 24
number Visibility = 25
number Parameters = 26
number MoreParameters = 27
number Parameter = 28
number Results = 29
number ResultTypes = 30
number Operations = 31
number Return = 32
number Returned = 33
number ValueType = 34
number Dims = 35
number Dim = 36
number Width = 37
number Types = 38
number MoreTypes = 39
number Values = 40
number MoreValues = 41
number Dense = 42
number Cells = 43
number Element = 44
number Elements = 45
number MoreElements = 46
number Num = 47
number Nums = 48
number Numbers = 49
number MoreNumbers = 50
number Lists = 51
number ListItems = 52
number MoreListItems = 53
number Operation = 54
number RightSide = 55
number EmptyTensor = 56
number ExtractSlice = 57
number InsertSlice = 58
number CollapseShape = 59
number ExpandShape = 60
number Structured = 61
number StructuredName = 62
number Transpose = 63
number Broadcast = 64
number Reduce = 65
number Generic = 66
number Sharding = 67
number Shard = 68
number AllGather = 69
number AllSlice = 70
number AllReduce = 71
number ReduceScatter = 72
number AllToAll = 73
number Shift = 74
number UpdateHalo = 75
number Take = 76
number Pad = 77
number Join = 78
number Call = 79
number CallName = 80
number Arith = 81
number Constant = 82
number Literal = 83
number Binary = 84
number BinaryName = 85
number Compare = 86
number Predicate = 87
number Select = 88
number SelectTypes = 89
number Cast = 90
number CastName = 91
number Ins = 92
number MaybeIns = 93
number Outs = 94
number ReduceTail = 95
number Combiner = 96
number MaybeNoOverflow = 97
number NoOverflow = 98
number Body = 99
number BodyOperation = 100
number GenericBody = 101
number GenericOperation = 102
number GenericRightSide = 103
number LoopIndex = 104
number IndexCast = 105
number Yield = 106
number BlockArguments = 107
number MoreBlockArguments = 108
number BlockArgument = 109
number Maps = 110
number MoreMaps = 111
number MapOrAlias = 112
number Iterators = 113
number MoreIterators = 114
number On = 115
number MaybeAxes = 116
number MaybeReduction = 117
number ReductionKind = 118
number KindName = 119
number MaybeForUsers = 120
number MaybeRotate = 121

unfoldable pub all_forms : List Form
all_forms =
    File ∷ Aliases ∷ Contents ∷ ModuleName ∷ Items ∷ Alias ∷ Hash ∷ Map ∷ Names ∷ MoreNames ∷
    Name ∷ Item ∷ Extents ∷ Arguments ∷ MoreArguments ∷ Argument ∷ Device ∷ Cuts ∷ MoreCuts ∷
    Cut ∷ MaybeHalo ∷ Halo ∷ MaybeOffsets ∷ Offsets ∷ Func ∷ Visibility ∷ Parameters ∷
    MoreParameters ∷ Parameter ∷ Results ∷ ResultTypes ∷ Operations ∷ Return ∷ Returned ∷
    ValueType ∷ Dims ∷ Dim ∷ Width ∷ Types ∷ MoreTypes ∷ Values ∷ MoreValues ∷ Dense ∷ Cells ∷
    Element ∷ Elements ∷ MoreElements ∷ Num ∷ Nums ∷ Numbers ∷ MoreNumbers ∷ Lists ∷ ListItems ∷
    MoreListItems ∷ Operation ∷ RightSide ∷ EmptyTensor ∷ ExtractSlice ∷ InsertSlice ∷
    CollapseShape ∷ ExpandShape ∷ Structured ∷ StructuredName ∷ Transpose ∷ Broadcast ∷ Reduce ∷
    Generic ∷ Sharding ∷ Shard ∷ AllGather ∷ AllSlice ∷ AllReduce ∷ ReduceScatter ∷ AllToAll ∷
    Shift ∷ UpdateHalo ∷ Take ∷ Pad ∷ Join ∷ Call ∷ CallName ∷ Arith ∷ Constant ∷ Literal ∷
    Binary ∷ BinaryName ∷ Compare ∷ Predicate ∷ Select ∷ SelectTypes ∷ Cast ∷ CastName ∷ Ins ∷
    MaybeIns ∷ Outs ∷ ReduceTail ∷ Combiner ∷ MaybeNoOverflow ∷ NoOverflow ∷ Body ∷
    BodyOperation ∷ GenericBody ∷ GenericOperation ∷ GenericRightSide ∷ LoopIndex ∷ IndexCast ∷
    Yield ∷ BlockArguments ∷ MoreBlockArguments ∷ BlockArgument ∷ Maps ∷ MoreMaps ∷ MapOrAlias ∷
    Iterators ∷ MoreIterators ∷ On ∷ MaybeAxes ∷ MaybeReduction ∷ ReductionKind ∷ KindName ∷
    MaybeForUsers ∷ MaybeRotate ∷ []
