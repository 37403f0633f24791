-- The words of operations, kinds and widths, as the grammar spells them.
use Rattle.std.specs.Prelude.{ℕ, List, codes}
use Rattle.sh_base.specs.declared.numbers.Width.{Width}
use Rattle.sh_base.specs.declared.numbers.Width.TheVariants.{I1, I8, I16, I32, I64}
use Rattle.sh_base.specs.declared.operations.BinOp.{BinOp}
use Rattle.sh_base.specs.declared.operations.BinOp.TheVariants.{Addi, Subi, Muli, Divui, Divsi, Remui, Remsi, Andi, Ori, Xori, Maxsi, Minsi, Maxui, Minui, Shli, Shrui, Shrsi}
use Rattle.sh_base.specs.declared.operations.CastOp.{CastOp}
use Rattle.sh_base.specs.declared.operations.CastOp.TheVariants.{Extsi, Extui, Trunci}
use Rattle.sh_base.specs.declared.operations.Kind.{Kind}
use Rattle.sh_base.specs.declared.operations.Kind.TheVariants.{Sum, Product, Max, Min, And, Or, Xor}
use Rattle.sh_base.specs.declared.operations.Predicate.{Predicate}
use Rattle.sh_base.specs.declared.operations.Predicate.TheVariants.{Eq, Ne, Slt, Sle, Sgt, Sge, Ult, Ule, Ugt, Uge}
use Rattle.sh_ir.specs.declared.linalg_ops.IteratorType.{IteratorType}
use Rattle.sh_ir.specs.declared.linalg_ops.IteratorType.TheVariants.{Parallel, Reduction, Unknown}

abbrev pub width_word : Width → List ℕ
width_word I1 = codes "i1"
width_word I8 = codes "i8"
width_word I16 = codes "i16"
width_word I32 = codes "i32"
width_word I64 = codes "i64"

abbrev pub binary_word : BinOp → List ℕ
binary_word Addi = codes "arith.addi"
binary_word Subi = codes "arith.subi"
binary_word Muli = codes "arith.muli"
binary_word Divui = codes "arith.divui"
binary_word Divsi = codes "arith.divsi"
binary_word Remui = codes "arith.remui"
binary_word Remsi = codes "arith.remsi"
binary_word Andi = codes "arith.andi"
binary_word Ori = codes "arith.ori"
binary_word Xori = codes "arith.xori"
binary_word Maxsi = codes "arith.maxsi"
binary_word Minsi = codes "arith.minsi"
binary_word Maxui = codes "arith.maxui"
binary_word Minui = codes "arith.minui"
binary_word Shli = codes "arith.shli"
binary_word Shrui = codes "arith.shrui"
binary_word Shrsi = codes "arith.shrsi"

abbrev pub predicate_word : Predicate → List ℕ
predicate_word Eq = codes "eq"
predicate_word Ne = codes "ne"
predicate_word Slt = codes "slt"
predicate_word Sle = codes "sle"
predicate_word Sgt = codes "sgt"
predicate_word Sge = codes "sge"
predicate_word Ult = codes "ult"
predicate_word Ule = codes "ule"
predicate_word Ugt = codes "ugt"
predicate_word Uge = codes "uge"

abbrev pub cast_word : CastOp → List ℕ
cast_word Extsi = codes "arith.extsi"
cast_word Extui = codes "arith.extui"
cast_word Trunci = codes "arith.trunci"

abbrev pub kind_word : Kind → List ℕ
kind_word Sum = codes "sum"
kind_word Product = codes "product"
kind_word Max = codes "max"
kind_word Min = codes "min"
kind_word And = codes "bitwise_and"
kind_word Or = codes "bitwise_or"
kind_word Xor = codes "bitwise_xor"

-- in quotes; a word that is neither stands for all others
abbrev pub iterator_word : IteratorType → List ℕ
iterator_word Parallel = codes "\"parallel\""
iterator_word Reduction = codes "\"reduction\""
iterator_word Unknown = codes "\"unknown\""
