-- Each broken module breaks its part and keeps the others, by computation.
use Rattle.std.proofs.Common.{◌≡◌, ℕ, ◌∷◌, [], Bool, true, false, slice_index, refl, sym, ap, arith, rules}
use Rattle.sh_ir.specs.declared.types.ValueType.{ValueType}
use Rattle.sh_ir.specs.declared.types.ValueType.TheVariants.{Nothing, Scalar, Tensor, Sharding, Index}
use Rattle.sh_base.specs.Cells.{bits_of}
use Rattle.sh_ir_tests.specs.Parts.{Part, Holds, BreaksOnly, broken, nameless_callee, tensor_cast, index_result}
use Rattle.sh_ir_tests.specs.Parts.Part.{names, numbers, types, grids, cuts, operands, body_operands, captures, defines, results, body_results, returns, literals, calls, maps, blocks, indices, body_names}

not_true : (b : Bool) → b ≡ false → ¬ (b ≡ true)
not_true b is_false is_true = cc

not_equal : (m n : ℕ) → ¬ (m ≡ n) → ¬ (m ∷ [] ≡ n ∷ [])
not_equal m n differ same = differ (ap (λ list. slice_index list 0) same)

abbrev width_of : ValueType → ℕ
width_of (Scalar w) = bits_of w
width_of (Tensor t) = bits_of t.width
width_of Nothing = 0
width_of Sharding = 0
width_of Index = 0

keeps_names : (q : Part) → ¬ (q ≡ names) → Holds q (broken names)
keeps_names names other = absurd (other refl)
keeps_names q other = search rules

keeps_numbers : (q : Part) → ¬ (q ≡ numbers) → Holds q (broken numbers)
keeps_numbers numbers other = absurd (other refl)
keeps_numbers q other = search rules

keeps_types : (q : Part) → ¬ (q ≡ types) → Holds q (broken types)
keeps_types types other = absurd (other refl)
keeps_types q other = search rules

keeps_grids : (q : Part) → ¬ (q ≡ grids) → Holds q (broken grids)
keeps_grids grids other = absurd (other refl)
keeps_grids q other = search rules

keeps_cuts : (q : Part) → ¬ (q ≡ cuts) → Holds q (broken cuts)
keeps_cuts cuts other = absurd (other refl)
keeps_cuts q other = search rules

keeps_operands : (q : Part) → ¬ (q ≡ operands) → Holds q (broken operands)
keeps_operands operands other = absurd (other refl)
keeps_operands q other = search rules

keeps_body_operands : (q : Part) → ¬ (q ≡ body_operands) → Holds q (broken body_operands)
keeps_body_operands body_operands other = absurd (other refl)
keeps_body_operands q other = search rules

keeps_captures : (q : Part) → ¬ (q ≡ captures) → Holds q (broken captures)
keeps_captures captures other = absurd (other refl)
keeps_captures q other = search rules

keeps_defines : (q : Part) → ¬ (q ≡ defines) → Holds q (broken defines)
keeps_defines defines other = absurd (other refl)
keeps_defines q other = search rules

keeps_results : (q : Part) → ¬ (q ≡ results) → Holds q (broken results)
keeps_results results other = absurd (other refl)
keeps_results q other = search rules

keeps_body_results : (q : Part) → ¬ (q ≡ body_results) → Holds q (broken body_results)
keeps_body_results body_results other = absurd (other refl)
keeps_body_results q other = search rules

keeps_returns : (q : Part) → ¬ (q ≡ returns) → Holds q (broken returns)
keeps_returns returns other = absurd (other refl)
keeps_returns q other = search rules

keeps_literals : (q : Part) → ¬ (q ≡ literals) → Holds q (broken literals)
keeps_literals literals other = absurd (other refl)
keeps_literals q other = search rules

keeps_calls : (q : Part) → ¬ (q ≡ calls) → Holds q (broken calls)
keeps_calls calls other = absurd (other refl)
keeps_calls q other = search rules

keeps_maps : (q : Part) → ¬ (q ≡ maps) → Holds q (broken maps)
keeps_maps maps other = absurd (other refl)
keeps_maps q other = search rules

keeps_blocks : (q : Part) → ¬ (q ≡ blocks) → Holds q (broken blocks)
keeps_blocks blocks other = absurd (other refl)
keeps_blocks q other = search rules

keeps_indices : (q : Part) → ¬ (q ≡ indices) → Holds q (broken indices)
keeps_indices indices other = absurd (other refl)
keeps_indices q other = search rules

keeps_body_names : (q : Part) → ¬ (q ≡ body_names) → Holds q (broken body_names)
keeps_body_names body_names other = absurd (other refl)
keeps_body_names q other = search rules

keeps_beside_callee : (q : Part) → ¬ (q ≡ names) → Holds q nameless_callee
keeps_beside_callee names other = absurd (other refl)
keeps_beside_callee q other = search rules

pub callee_breaks : BreaksOnly names nameless_callee
callee_breaks = record { breaks = not_true _ refl; keeps = keeps_beside_callee }

keeps_beside_cast : (q : Part) → ¬ (q ≡ body_results) → Holds q tensor_cast
keeps_beside_cast body_results other = absurd (other refl)
keeps_beside_cast q other = search rules

pub cast_breaks : BreaksOnly body_results tensor_cast
cast_breaks = record { breaks = λ held. not_true _ refl held.1.1.0; keeps = keeps_beside_cast }

keeps_beside_index : (q : Part) → ¬ (q ≡ types) → Holds q index_result
keeps_beside_index types other = absurd (other refl)
keeps_beside_index q other = search rules

pub index_breaks : BreaksOnly types index_result
index_breaks = record { breaks = not_true _ refl; keeps = keeps_beside_index }

pub each_breaks : (part : Part) → BreaksOnly part (broken part)
each_breaks names = record { breaks = not_true _ refl; keeps = keeps_names }
each_breaks numbers = record { breaks = not_true _ refl; keeps = keeps_numbers }
each_breaks types = record { breaks = not_true _ refl; keeps = keeps_types }
each_breaks grids = record { breaks = not_true _ refl; keeps = keeps_grids }
each_breaks cuts = record { breaks = λ held. not_equal 103 104 (λ same. omega arith) held.0.0; keeps = keeps_cuts }
each_breaks operands = record { breaks = λ held. let same : 1 ≡ 2 = held.1.0 in omega arith; keeps = keeps_operands }
each_breaks body_operands = record { breaks = λ held. let same : 3 ≡ 2 = held.1.1.1.0 in omega arith; keeps = keeps_body_operands }
each_breaks captures = record { breaks = λ held. not_equal 0 1 (λ same. omega arith) held.1.1.1.0; keeps = keeps_captures }
each_breaks defines = record { breaks = λ held. not_true false refl (let same : true ≡ false = held.1.1.1.1.0 in sym same); keeps = keeps_defines }
each_breaks results = record { breaks = λ held. let same : 32 ≡ 1 = ap width_of held.1.0 in omega arith; keeps = keeps_results }
each_breaks body_results = record { breaks = λ held. let same : 8 ≡ 32 = ap width_of held.0 in omega arith; keeps = keeps_body_results }
each_breaks returns = record { breaks = not_true _ refl; keeps = keeps_returns }
each_breaks literals = record { breaks = not_true _ refl; keeps = keeps_literals }
each_breaks calls = record { breaks = not_true _ refl; keeps = keeps_calls }
each_breaks maps = record { breaks = not_true _ refl; keeps = keeps_maps }
each_breaks blocks = record { breaks = not_true _ refl; keeps = keeps_blocks }
each_breaks indices = record { breaks = not_true _ refl; keeps = keeps_indices }
each_breaks body_names = record { breaks = not_true _ refl; keeps = keeps_body_names }
