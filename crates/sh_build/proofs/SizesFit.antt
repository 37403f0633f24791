-- A row of the grammar has as many parts as its form and alternative say.
use Rattle.std.proofs.Common.{◌≡◌, ℕ, zero, suc, List, [], ◌∷◌, ◌++◌, map, length, slice_get, Some, refl, ap, sym, ◌∙◌}
use Rattle.std.proofs.lemmas.Option.{same_Some}
use Rattle.std.specs.List.{AllByRecursion}
use Rattle.sh_grammar.specs.declared.forms.Form.{Form}
use Rattle.sh_grammar.specs.declared.forms.Form.TheVariants.{File, Aliases, Contents, ModuleName, Items, Alias, Hash, Map, Names, MoreNames, Name, Item, Extents, Arguments, MoreArguments, Argument, Device, Cuts, MoreCuts, Cut, MaybeHalo, Halo, MaybeOffsets, Offsets, Func, Visibility, Parameters, MoreParameters, Parameter, Results, ResultTypes, Operations, Return, Returned, ValueType, Dims, Dim, Width, Types, MoreTypes, Values, MoreValues, Dense, Cells, Element, Elements, MoreElements, Num, Nums, Numbers, MoreNumbers, Lists, ListItems, MoreListItems, Operation, RightSide, EmptyTensor, ExtractSlice, InsertSlice, CollapseShape, ExpandShape, Structured, StructuredName, Transpose, Broadcast, Reduce, Generic, Sharding, Shard, AllGather, AllSlice, AllReduce, ReduceScatter, AllToAll, Shift, UpdateHalo, Take, Pad, Join, Call, CallName, Arith, Constant, Literal, Binary, BinaryName, Compare, Predicate, Select, SelectTypes, Cast, CastName, Ins, MaybeIns, Outs, ReduceTail, Combiner, MaybeNoOverflow, NoOverflow, Body, BodyOperation, GenericBody, GenericOperation, GenericRightSide, LoopIndex, IndexCast, Yield, BlockArguments, MoreBlockArguments, BlockArgument, Maps, MoreMaps, MapOrAlias, Iterators, MoreIterators, On, MaybeAxes, MaybeReduction, ReductionKind, KindName, MaybeForUsers, MaybeRotate}
use Rattle.sh_grammar.specs.declared.symbols.Symbol.{Symbol}
use Rattle.sh_grammar.specs.declared.symbols.Event.{Event}
use Rattle.sh_grammar.specs.declared.symbols.Event.TheVariants.{Took, Opened}
use Rattle.sh_grammar.specs.Grammar.{IsAlternative, Spells, Trees, events, size}
use Rattle.sh_grammar.specs.Grammar.Spells.{is_nothing, is_token, is_form}
use Rattle.sh_build.specs.Building.{AreSized}
use Rattle.sh_grammar.specs.Language.{language, the_text}
use Rattle.sh_grammar.specs.Lexemes.{words}
use Rattle.sh_build.specs.Sizes.{size_of}

-- where all rows are of one size
by_same : (rows : List (List Symbol)) (i k : ℕ) (body : List Symbol) → AllByRecursion (λ row. length row ≡ k) rows
    → slice_get rows i ≡ Some body → length body ≡ k
by_same [] i k body all e = cc
by_same (row ∷ rows) zero k body all e = ap length (sym (same_Some row body e)) ∙ all.0
by_same (row ∷ rows) (suc i) k body all e = by_same rows i k body all.1 e

-- each row is one word
by_words : (texts : List (List ℕ)) (i : ℕ) (body : List Symbol)
    → slice_get (map (λ text. the_text text ∷ []) texts) i ≡ Some body → length body ≡ 1
by_words [] i body e = cc
by_words (text ∷ texts) zero body e = ap length (sym (same_Some (the_text text ∷ []) body e))
by_words (text ∷ texts) (suc i) body e = by_words texts i body e

-- so many parts stand in each row
pub sized : (n : Form) (i : ℕ) (body : List Symbol) → IsAlternative language n i body → length body ≡ size_of n i
sized File i body e = by_same (language File) i 2 body (refl, tt) e
sized Aliases zero body e = ap length (sym (same_Some _ body e))
sized Aliases (suc zero) body e = ap length (sym (same_Some _ body e))
sized Aliases (suc (suc i)) body e = cc
sized Contents zero body e = ap length (sym (same_Some _ body e))
sized Contents (suc zero) body e = ap length (sym (same_Some _ body e))
sized Contents (suc (suc i)) body e = cc
sized ModuleName zero body e = ap length (sym (same_Some _ body e))
sized ModuleName (suc zero) body e = ap length (sym (same_Some _ body e))
sized ModuleName (suc (suc i)) body e = cc
sized Items zero body e = ap length (sym (same_Some _ body e))
sized Items (suc zero) body e = ap length (sym (same_Some _ body e))
sized Items (suc (suc i)) body e = cc
sized Alias i body e = by_same (language Alias) i 3 body (refl, tt) e
sized Hash i body e = by_same (language Hash) i 1 body (refl, (refl, tt)) e
sized Map i body e = by_same (language Map) i 10 body (refl, tt) e
sized Names zero body e = ap length (sym (same_Some _ body e))
sized Names (suc zero) body e = ap length (sym (same_Some _ body e))
sized Names (suc (suc i)) body e = cc
sized MoreNames zero body e = ap length (sym (same_Some _ body e))
sized MoreNames (suc zero) body e = ap length (sym (same_Some _ body e))
sized MoreNames (suc (suc i)) body e = cc
sized Name zero body e = ap length (sym (same_Some _ body e))
sized Name (suc i) body e = by_words words i body e
sized Item zero body e = ap length (sym (same_Some _ body e))
sized Item (suc zero) body e = ap length (sym (same_Some _ body e))
sized Item (suc (suc zero)) body e = ap length (sym (same_Some _ body e))
sized Item (suc (suc (suc zero))) body e = ap length (sym (same_Some _ body e))
sized Item (suc (suc (suc (suc i)))) body e = cc
sized Extents zero body e = ap length (sym (same_Some _ body e))
sized Extents (suc zero) body e = ap length (sym (same_Some _ body e))
sized Extents (suc (suc i)) body e = cc
sized Arguments zero body e = ap length (sym (same_Some _ body e))
sized Arguments (suc zero) body e = ap length (sym (same_Some _ body e))
sized Arguments (suc (suc i)) body e = cc
sized MoreArguments zero body e = ap length (sym (same_Some _ body e))
sized MoreArguments (suc zero) body e = ap length (sym (same_Some _ body e))
sized MoreArguments (suc (suc i)) body e = cc
sized Argument i body e = by_same (language Argument) i 3 body (refl, tt) e
sized Device i body e = by_same (language Device) i 11 body (refl, tt) e
sized Cuts zero body e = ap length (sym (same_Some _ body e))
sized Cuts (suc zero) body e = ap length (sym (same_Some _ body e))
sized Cuts (suc (suc i)) body e = cc
sized MoreCuts zero body e = ap length (sym (same_Some _ body e))
sized MoreCuts (suc zero) body e = ap length (sym (same_Some _ body e))
sized MoreCuts (suc (suc i)) body e = cc
sized Cut i body e = by_same (language Cut) i 6 body (refl, tt) e
sized MaybeHalo zero body e = ap length (sym (same_Some _ body e))
sized MaybeHalo (suc zero) body e = ap length (sym (same_Some _ body e))
sized MaybeHalo (suc (suc i)) body e = cc
sized Halo i body e = by_same (language Halo) i 3 body (refl, tt) e
sized MaybeOffsets zero body e = ap length (sym (same_Some _ body e))
sized MaybeOffsets (suc zero) body e = ap length (sym (same_Some _ body e))
sized MaybeOffsets (suc (suc i)) body e = cc
sized Offsets i body e = by_same (language Offsets) i 3 body (refl, tt) e
sized Func i body e = by_same (language Func) i 10 body (refl, tt) e
sized Visibility zero body e = ap length (sym (same_Some _ body e))
sized Visibility (suc zero) body e = ap length (sym (same_Some _ body e))
sized Visibility (suc (suc zero)) body e = ap length (sym (same_Some _ body e))
sized Visibility (suc (suc (suc i))) body e = cc
sized Parameters zero body e = ap length (sym (same_Some _ body e))
sized Parameters (suc zero) body e = ap length (sym (same_Some _ body e))
sized Parameters (suc (suc i)) body e = cc
sized MoreParameters zero body e = ap length (sym (same_Some _ body e))
sized MoreParameters (suc zero) body e = ap length (sym (same_Some _ body e))
sized MoreParameters (suc (suc i)) body e = cc
sized Parameter i body e = by_same (language Parameter) i 3 body (refl, tt) e
sized Results zero body e = ap length (sym (same_Some _ body e))
sized Results (suc zero) body e = ap length (sym (same_Some _ body e))
sized Results (suc (suc i)) body e = cc
sized ResultTypes zero body e = ap length (sym (same_Some _ body e))
sized ResultTypes (suc zero) body e = ap length (sym (same_Some _ body e))
sized ResultTypes (suc (suc i)) body e = cc
sized Operations zero body e = ap length (sym (same_Some _ body e))
sized Operations (suc zero) body e = ap length (sym (same_Some _ body e))
sized Operations (suc (suc i)) body e = cc
sized Return i body e = by_same (language Return) i 2 body (refl, (refl, tt)) e
sized Returned zero body e = ap length (sym (same_Some _ body e))
sized Returned (suc zero) body e = ap length (sym (same_Some _ body e))
sized Returned (suc (suc i)) body e = cc
sized ValueType zero body e = ap length (sym (same_Some _ body e))
sized ValueType (suc zero) body e = ap length (sym (same_Some _ body e))
sized ValueType (suc (suc i)) body e = cc
sized Dims zero body e = ap length (sym (same_Some _ body e))
sized Dims (suc zero) body e = ap length (sym (same_Some _ body e))
sized Dims (suc (suc i)) body e = cc
sized Dim i body e = by_same (language Dim) i 1 body (refl, (refl, tt)) e
sized Width i body e = by_same (language Width) i 1 body (refl, (refl, (refl, (refl, (refl, tt))))) e
sized Types zero body e = ap length (sym (same_Some _ body e))
sized Types (suc zero) body e = ap length (sym (same_Some _ body e))
sized Types (suc (suc i)) body e = cc
sized MoreTypes zero body e = ap length (sym (same_Some _ body e))
sized MoreTypes (suc zero) body e = ap length (sym (same_Some _ body e))
sized MoreTypes (suc (suc i)) body e = cc
sized Values zero body e = ap length (sym (same_Some _ body e))
sized Values (suc zero) body e = ap length (sym (same_Some _ body e))
sized Values (suc (suc i)) body e = cc
sized MoreValues zero body e = ap length (sym (same_Some _ body e))
sized MoreValues (suc zero) body e = ap length (sym (same_Some _ body e))
sized MoreValues (suc (suc i)) body e = cc
sized Dense i body e = by_same (language Dense) i 4 body (refl, tt) e
sized Cells zero body e = ap length (sym (same_Some _ body e))
sized Cells (suc zero) body e = ap length (sym (same_Some _ body e))
sized Cells (suc (suc zero)) body e = ap length (sym (same_Some _ body e))
sized Cells (suc (suc (suc i))) body e = cc
sized Element zero body e = ap length (sym (same_Some _ body e))
sized Element (suc zero) body e = ap length (sym (same_Some _ body e))
sized Element (suc (suc zero)) body e = ap length (sym (same_Some _ body e))
sized Element (suc (suc (suc zero))) body e = ap length (sym (same_Some _ body e))
sized Element (suc (suc (suc (suc i)))) body e = cc
sized Elements zero body e = ap length (sym (same_Some _ body e))
sized Elements (suc zero) body e = ap length (sym (same_Some _ body e))
sized Elements (suc (suc i)) body e = cc
sized MoreElements zero body e = ap length (sym (same_Some _ body e))
sized MoreElements (suc zero) body e = ap length (sym (same_Some _ body e))
sized MoreElements (suc (suc i)) body e = cc
sized Num zero body e = ap length (sym (same_Some _ body e))
sized Num (suc zero) body e = ap length (sym (same_Some _ body e))
sized Num (suc (suc i)) body e = cc
sized Nums i body e = by_same (language Nums) i 3 body (refl, tt) e
sized Numbers zero body e = ap length (sym (same_Some _ body e))
sized Numbers (suc zero) body e = ap length (sym (same_Some _ body e))
sized Numbers (suc (suc i)) body e = cc
sized MoreNumbers zero body e = ap length (sym (same_Some _ body e))
sized MoreNumbers (suc zero) body e = ap length (sym (same_Some _ body e))
sized MoreNumbers (suc (suc i)) body e = cc
sized Lists i body e = by_same (language Lists) i 3 body (refl, tt) e
sized ListItems zero body e = ap length (sym (same_Some _ body e))
sized ListItems (suc zero) body e = ap length (sym (same_Some _ body e))
sized ListItems (suc (suc i)) body e = cc
sized MoreListItems zero body e = ap length (sym (same_Some _ body e))
sized MoreListItems (suc zero) body e = ap length (sym (same_Some _ body e))
sized MoreListItems (suc (suc i)) body e = cc
sized Operation i body e = by_same (language Operation) i 3 body (refl, tt) e
sized RightSide i body e = by_same (language RightSide) i 1 body (refl, (refl, (refl, (refl, (refl, (refl, (refl, (refl, (refl, (refl, (refl, (refl, (refl, (refl, (refl, (refl, (refl, (refl, (refl, (refl, (refl, (refl, (refl, (refl, tt)))))))))))))))))))))))) e
sized EmptyTensor i body e = by_same (language EmptyTensor) i 5 body (refl, tt) e
sized ExtractSlice i body e = by_same (language ExtractSlice) i 9 body (refl, tt) e
sized InsertSlice i body e = by_same (language InsertSlice) i 11 body (refl, tt) e
sized CollapseShape i body e = by_same (language CollapseShape) i 7 body (refl, tt) e
sized ExpandShape i body e = by_same (language ExpandShape) i 9 body (refl, tt) e
sized Structured i body e = by_same (language Structured) i 5 body (refl, tt) e
sized StructuredName i body e = by_same (language StructuredName) i 1 body (refl, (refl, (refl, (refl, (refl, (refl, (refl, (refl, tt)))))))) e
sized Transpose i body e = by_same (language Transpose) i 6 body (refl, tt) e
sized Broadcast i body e = by_same (language Broadcast) i 6 body (refl, tt) e
sized Reduce i body e = by_same (language Reduce) i 2 body (refl, tt) e
sized Generic i body e = by_same (language Generic) i 26 body (refl, tt) e
sized Sharding i body e = by_same (language Sharding) i 9 body (refl, tt) e
sized Shard i body e = by_same (language Shard) i 7 body (refl, tt) e
sized AllGather i body e = by_same (language AllGather) i 10 body (refl, tt) e
sized AllSlice i body e = by_same (language AllSlice) i 10 body (refl, tt) e
sized AllReduce i body e = by_same (language AllReduce) i 8 body (refl, tt) e
sized ReduceScatter i body e = by_same (language ReduceScatter) i 11 body (refl, tt) e
sized AllToAll i body e = by_same (language AllToAll) i 13 body (refl, tt) e
sized Shift i body e = by_same (language Shift) i 14 body (refl, tt) e
sized UpdateHalo i body e = by_same (language UpdateHalo) i 10 body (refl, tt) e
sized Take i body e = by_same (language Take) i 16 body (refl, tt) e
sized Pad i body e = by_same (language Pad) i 12 body (refl, tt) e
sized Join i body e = by_same (language Join) i 9 body (refl, tt) e
sized Call i body e = by_same (language Call) i 11 body (refl, tt) e
sized CallName i body e = by_same (language CallName) i 1 body (refl, (refl, tt)) e
sized Arith i body e = by_same (language Arith) i 1 body (refl, (refl, (refl, (refl, (refl, tt))))) e
sized Constant i body e = by_same (language Constant) i 2 body (refl, tt) e
sized Literal zero body e = ap length (sym (same_Some _ body e))
sized Literal (suc zero) body e = ap length (sym (same_Some _ body e))
sized Literal (suc (suc zero)) body e = ap length (sym (same_Some _ body e))
sized Literal (suc (suc (suc zero))) body e = ap length (sym (same_Some _ body e))
sized Literal (suc (suc (suc (suc i)))) body e = cc
sized Binary i body e = by_same (language Binary) i 6 body (refl, tt) e
sized BinaryName i body e = by_same (language BinaryName) i 1 body (refl, (refl, (refl, (refl, (refl, (refl, (refl, (refl, (refl, (refl, (refl, (refl, (refl, (refl, (refl, (refl, (refl, tt))))))))))))))))) e
sized Compare i body e = by_same (language Compare) i 8 body (refl, tt) e
sized Predicate i body e = by_same (language Predicate) i 1 body (refl, (refl, (refl, (refl, (refl, (refl, (refl, (refl, (refl, (refl, tt)))))))))) e
sized Select i body e = by_same (language Select) i 9 body (refl, tt) e
sized SelectTypes zero body e = ap length (sym (same_Some _ body e))
sized SelectTypes (suc zero) body e = ap length (sym (same_Some _ body e))
sized SelectTypes (suc (suc i)) body e = cc
sized Cast i body e = by_same (language Cast) i 6 body (refl, tt) e
sized CastName i body e = by_same (language CastName) i 1 body (refl, (refl, (refl, tt))) e
sized Ins i body e = by_same (language Ins) i 6 body (refl, tt) e
sized MaybeIns zero body e = ap length (sym (same_Some _ body e))
sized MaybeIns (suc zero) body e = ap length (sym (same_Some _ body e))
sized MaybeIns (suc (suc i)) body e = cc
sized Outs i body e = by_same (language Outs) i 6 body (refl, tt) e
sized ReduceTail zero body e = ap length (sym (same_Some _ body e))
sized ReduceTail (suc zero) body e = ap length (sym (same_Some _ body e))
sized ReduceTail (suc (suc i)) body e = cc
sized Combiner i body e = by_same (language Combiner) i 1 body (refl, (refl, (refl, (refl, (refl, (refl, (refl, (refl, (refl, tt))))))))) e
sized MaybeNoOverflow zero body e = ap length (sym (same_Some _ body e))
sized MaybeNoOverflow (suc zero) body e = ap length (sym (same_Some _ body e))
sized MaybeNoOverflow (suc (suc i)) body e = cc
sized NoOverflow i body e = by_same (language NoOverflow) i 8 body (refl, tt) e
sized Body zero body e = ap length (sym (same_Some _ body e))
sized Body (suc zero) body e = ap length (sym (same_Some _ body e))
sized Body (suc (suc i)) body e = cc
sized BodyOperation i body e = by_same (language BodyOperation) i 3 body (refl, tt) e
sized GenericBody zero body e = ap length (sym (same_Some _ body e))
sized GenericBody (suc zero) body e = ap length (sym (same_Some _ body e))
sized GenericBody (suc (suc i)) body e = cc
sized GenericOperation i body e = by_same (language GenericOperation) i 3 body (refl, tt) e
sized GenericRightSide i body e = by_same (language GenericRightSide) i 1 body (refl, (refl, (refl, tt))) e
sized LoopIndex i body e = by_same (language LoopIndex) i 4 body (refl, tt) e
sized IndexCast i body e = by_same (language IndexCast) i 6 body (refl, tt) e
sized Yield i body e = by_same (language Yield) i 4 body (refl, tt) e
sized BlockArguments zero body e = ap length (sym (same_Some _ body e))
sized BlockArguments (suc zero) body e = ap length (sym (same_Some _ body e))
sized BlockArguments (suc (suc i)) body e = cc
sized MoreBlockArguments zero body e = ap length (sym (same_Some _ body e))
sized MoreBlockArguments (suc zero) body e = ap length (sym (same_Some _ body e))
sized MoreBlockArguments (suc (suc i)) body e = cc
sized BlockArgument i body e = by_same (language BlockArgument) i 3 body (refl, tt) e
sized Maps zero body e = ap length (sym (same_Some _ body e))
sized Maps (suc zero) body e = ap length (sym (same_Some _ body e))
sized Maps (suc (suc i)) body e = cc
sized MoreMaps zero body e = ap length (sym (same_Some _ body e))
sized MoreMaps (suc zero) body e = ap length (sym (same_Some _ body e))
sized MoreMaps (suc (suc i)) body e = cc
sized MapOrAlias i body e = by_same (language MapOrAlias) i 1 body (refl, (refl, tt)) e
sized Iterators zero body e = ap length (sym (same_Some _ body e))
sized Iterators (suc zero) body e = ap length (sym (same_Some _ body e))
sized Iterators (suc (suc i)) body e = cc
sized MoreIterators zero body e = ap length (sym (same_Some _ body e))
sized MoreIterators (suc zero) body e = ap length (sym (same_Some _ body e))
sized MoreIterators (suc (suc i)) body e = cc
sized On i body e = by_same (language On) i 3 body (refl, tt) e
sized MaybeAxes zero body e = ap length (sym (same_Some _ body e))
sized MaybeAxes (suc zero) body e = ap length (sym (same_Some _ body e))
sized MaybeAxes (suc (suc i)) body e = cc
sized MaybeReduction zero body e = ap length (sym (same_Some _ body e))
sized MaybeReduction (suc zero) body e = ap length (sym (same_Some _ body e))
sized MaybeReduction (suc (suc i)) body e = cc
sized ReductionKind zero body e = ap length (sym (same_Some _ body e))
sized ReductionKind (suc zero) body e = ap length (sym (same_Some _ body e))
sized ReductionKind (suc (suc i)) body e = cc
sized KindName i body e = by_same (language KindName) i 1 body (refl, (refl, (refl, (refl, (refl, (refl, (refl, tt))))))) e
sized MaybeForUsers zero body e = ap length (sym (same_Some _ body e))
sized MaybeForUsers (suc zero) body e = ap length (sym (same_Some _ body e))
sized MaybeForUsers (suc (suc i)) body e = cc
sized MaybeRotate zero body e = ap length (sym (same_Some _ body e))
sized MaybeRotate (suc zero) body e = ap length (sym (same_Some _ body e))
sized MaybeRotate (suc (suc i)) body e = cc

-- a row of trees has as many trees as the symbols that it stands for
as_many : (α : List Symbol) (f : Trees) → Spells language α f → size f ≡ length α
as_many α f is_nothing = refl
as_many α f (is_token e behind) = ap suc (as_many _ _ behind)
as_many α f (is_form e below behind) = ap suc (as_many _ _ behind)

all_of_both : (xs ys : List Event) → AreSized xs → AreSized ys → AreSized (xs ++ ys)
all_of_both [] ys a b = b
all_of_both (Took ∷ xs) ys a b = all_of_both xs ys a b
all_of_both (Opened n i size ∷ xs) ys a b = (a.0, all_of_both xs ys a.1 b)

-- the steps of a tree
pub are_sized : (α : List Symbol) (f : Trees) → Spells language α f → AreSized (events f)
are_sized α f is_nothing = tt
are_sized α f (is_token e behind) = are_sized _ _ behind
are_sized α f (is_form {n = n} {i = i} {body = body} {below = under} {behind = after} e below behind) = (
  as_many body under below ∙ sized n i body e,
  all_of_both (events under) (events after) (are_sized body under below) (are_sized _ after behind),
)
