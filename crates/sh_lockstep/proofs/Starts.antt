-- Arguments under the names of the parameters, on all devices.
use Rattle.std.proofs.Common.{◌≡◌, ℕ, ◌+◌, ◌<◌, List, [], map, take, length, get_or, Some, ap, sym, ◌∙◌, arith}
use Rattle.std.proofs.lemmas.Option.{get_or_from_slice_get}
use Rattle.std.specs.Prelude.{All, Option, slice_get, if◌then◌else◌}
use Rattle.sh_eval.proofs.RunLaws.{start_more}
use Rattle.sh_ir.specs.declared.functions.Arg.{Arg}
use Rattle.sh_pieces.specs.Instructions.{State, is_name}
use Rattle.sh_pieces.specs.Runs.{argument_under}
use Rattle.sh_sem.specs.Meaning.{with_value}
use Rattle.sh_tensor.specs.Tensor.{TensorValue}
use Rattle.sh_lockstep.specs.Locks.{IsColumn}
use Rattle.sh_lockstep.specs.Tables.{with_row}
use Rattle.sh_lockstep.proofs.Progress.{found}

module _ (params : List Arg) (args : List (List TensorValue)) (at : ℕ) where
  -- of the parameters before a place
  abbrev pub AreStarted : State TensorValue → Type 0
  AreStarted s =
      (c name : ℕ) → c < length args
      → s c name ≡ argument_under (map (λ a. a.id) (take at params)) (take at (get_or args c [])) name

  -- with one argument more
  pub start_next : (a : Arg) (row : List TensorValue) (old new : State TensorValue)
      → All (λ ts. length ts ≡ length params) args → at < length params → a ≡ get_or params at a
      → IsColumn args at (length args) row → new ≡ with_row (Some a.id) row old → AreStarted old
      → (c name : ℕ) → c < length args
      → new c name ≡ argument_under (map (λ a. a.id) (take (at + 1) params)) (take (at + 1) (get_or args c [])) name
  start_next a row old new counted inside a_is column is started c name on =
      let here : List TensorValue = get_or args c [] in
      let same : length here ≡ length params = counted c [] on in
      let x = found here at (omega (arith, inside, same)) in
      let value : slice_get row c ≡ Some x.x = column.each c on ∙ x.at in
      let named : (j : ℕ) → with_row (Some a.id) row old c j ≡ with_value (Some a.id) x.x (old c) j =
      λ j. ap (λ (o : Option TensorValue). if is_name (Some a.id) j then o else old c j) value in
      ap (λ (f : ℕ → Option TensorValue). f name)
      (start_more params here at a x.x (old c) (new c) inside (sym same) a_is (sym (get_or_from_slice_get here at x.x x.x x.at))
      (λ i j. started c j on i)
      (ap (λ (s : State TensorValue). s c) is ∙ (λ i j. named j i)))
