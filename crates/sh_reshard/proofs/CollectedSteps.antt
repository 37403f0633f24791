-- What a collective gives to a device, by the values of its group, where each device has a value of
-- the operand's name.
use Rattle.std.proofs.Common.{◌≡◌, ◌∙◌, ℕ, zero, suc, ◌+◌, ◌<◌, true, List, [], ◌∷◌, map, Option, Some, All, refl, ap, arith}
use Rattle.std.specs.Prelude.{option_and_then, option_map, slice_get}
use Rattle.std.specs.List.{range_with_len}
use Rattle.std.proofs.lemmas.List.Elements.{All-head, All-tail}
use Rattle.std.proofs.lemmas.List.FromFn.{length-map-range_with_len}
use Rattle.sh_base.specs.Shape.{cell_count}
use Rattle.sh_grid.specs.Grid.{group_of, group_size_of, member_of, place_in}
use Rattle.sh_ir.specs.Agreement.{dims_of}
use Rattle.sh_ir.specs.Classes.{class_of}
use Rattle.sh_ir.specs.Typing.{typing_of}
use Rattle.sh_ir.specs.declared.operations.Op.{Op}
use Rattle.sh_pieces.specs.Instructions.{State, gives, operand_by}
use Rattle.sh_sem.specs.Collected.{Collecting, collected, collecting, operands_fit, result_at, shapes_by, shapes_collected}
use Rattle.sh_sem.specs.Given.{have_all_extents, of_dims}
use Rattle.sh_sem.specs.Scalars.{width_of}
use Rattle.sh_sem.specs.Steps.{axes_of, is_collective_class, steps_on}
use Rattle.sh_sem.specs.Types.{have_extents}
use Rattle.sh_sem.proofs.Groups.{has_groups}
use Rattle.sh_tensor.specs.Tensor.{TensorValue, build}
use Rattle.sh_turns.specs.Program.{all_there}
use Rattle.sh_reshard.proofs.JoinedPieces.{all_range, map_map}

-- ---- lists by number

get_range : {X : Type 0} (f : ℕ → X) (a n q : ℕ) → q < n → slice_get (map f (range_with_len a n)) q ≡ Some (f (a + q))
get_range f a zero q below = absurd (omega arith)
get_range f a (suc n) zero below = let same : a + 0 ≡ a = omega arith in rw same refl
get_range f a (suc n) (suc q) below = let same : a + suc q ≡ a + 1 + q = omega arith in rw same (get_range f (a + 1) n q (omega arith))

there_range : {X : Type 0} (read : ℕ → Option X) (f : ℕ → X) (a n : ℕ) → ((q : ℕ) → q < a + n → read q ≡ Some (f q)) → all_there (map read (range_with_len a n)) ≡ Some (map f (range_with_len a n))
there_range read f a zero is = refl
there_range read f a (suc n) is =
    let first : read a ≡ Some (f a) = is a (omega arith) in
    let rest = there_range read f (a + 1) n (λ q below. is q (omega (arith, below))) in
    rw (first, rest) refl

-- ---- the values of a group

values_there : (n : ℕ) (read : ℕ → Option TensorValue) (f : ℕ → TensorValue) → ((m : ℕ) → m < n → read m ≡ Some (f m)) → (ms : List ℕ) → All (λ m. m < n) ms → all_there (map read ms) ≡ Some (map f ms)
values_there n read f is [] all = refl
values_there n read f is (m ∷ ms) all =
    let here : read m ≡ Some (f m) = is m (All-head (λ m. m < n) m ms all) in
    let rest = values_there n read f is ms (All-tail (λ m. m < n) m ms all) in
    rw (here, rest) refl

members : (g L : List ℕ) (f : ℕ → TensorValue) (c : ℕ) → map f (group_of g L c) ≡ map (λ q. f (member_of g L c q)) (range_with_len 0 (group_size_of g L))
unfolding group_of
members g L f c = map_map f (member_of g L c) (range_with_len 0 (group_size_of g L))

-- the one lemma on collectives: what a device gets is by the values of its group, in group order
pub group_gives : (g : List ℕ) (op : Op) (value : ℕ) (L : List ℕ) (f : ℕ → TensorValue) (st : State TensorValue) → is_collective_class (class_of op.kind) ≡ true → op.operands ≡ value ∷ [] → axes_of op.kind ≡ L
    → ((m : ℕ) → m < cell_count g → st m value ≡ Some (f m)) → (c : ℕ) → c < cell_count g
    → gives (steps_on g) op st c ≡ collected op g (map (λ q. f (member_of g L c q)) (range_with_len 0 (group_size_of g L))) (place_in g L c)
unfolding steps_on
group_gives g op value L f st is operands axes has c here =
    let posts : all_there (map (λ m. operand_by (steps_on g) op (st m)) (group_of g (axes_of op.kind) c)) ≡ Some (map f (group_of g (axes_of op.kind) c)) =
    values_there (cell_count g) (λ m. operand_by (steps_on g) op (st m)) f (λ m below. ap (λ names. option_and_then (st m) (slice_get names 0)) operands ∙ has m below)
    (group_of g (axes_of op.kind) c) ((has_groups g).inside op c here is) in
    rw is (ap (option_and_then (λ ts. collected op g ts (place_in g (axes_of op.kind) c))) posts)
    ∙ ap (λ xs. collected op g (map f (group_of g xs c)) (place_in g xs c)) axes
    ∙ ap (λ ts. collected op g ts (place_in g L c)) (members g L f c)

-- ---- what is collected

module _ (op : Op) (g : List ℕ) (x : Collecting) (n : ℕ) (f : ℕ → TensorValue) (shape : ℕ → List ℕ) (is : collecting op.kind g ≡ Some x)
    (before : (q : ℕ) → q < n → have_all_extents (typing_of op.kind op.result) ((f q).shape ∷ []) ≡ true)
    (shaped : (q : ℕ) → q < n → x.shape q (map (λ q. (f q).shape) (range_with_len 0 n)) ≡ Some (shape q))
    (after : (q : ℕ) → q < n → have_extents (dims_of op.result) (shape q) ≡ true) where
  abbrev shapes : List (List ℕ)
  shapes = map (λ q. (f q).shape) (range_with_len 0 n)

  one_shape : (q : ℕ) → q < n → option_and_then (of_dims (dims_of op.result)) (x.shape q shapes) ≡ Some (shape q)
  one_shape q below = rw (shaped q below) (rw (after q below) refl)

  shapes_by_range : shapes_by (dims_of op.result) shapes x ≡ Some (map shape (range_with_len 0 n))
  shapes_by_range =
      ap (λ k. all_there (map (λ p. option_and_then (of_dims (dims_of op.result)) (x.shape p shapes)) (range_with_len 0 k))) (length-map-range_with_len (λ q. (f q).shape) 0 n)
      ∙ there_range (λ p. option_and_then (of_dims (dims_of op.result)) (x.shape p shapes)) shape 0 n (λ q below. one_shape q (omega (arith, below)))

  all_fit : operands_fit op.kind op.result shapes ≡ true
  all_fit = all_range (λ s. have_all_extents (typing_of op.kind op.result) (s ∷ [])) (λ q. (f q).shape) 0 n (λ q below. before q (omega (arith, below)))

  shapes_are : shapes_collected op g shapes ≡ Some (map shape (range_with_len 0 n))
  unfolding shapes_collected
  shapes_are = rw (all_fit, is) shapes_by_range

  pub collected_is : (p : ℕ) → p < n → collected op g (map f (range_with_len 0 n)) p ≡ Some (build (shape p) (width_of op.result) (x.cell p (map f (range_with_len 0 n))))
  unfolding collected
  collected_is p below =
      let zero_first : 0 + p ≡ p = omega arith in
      ap (λ ss. option_and_then (result_at op g (map f (range_with_len 0 n)) p) (option_and_then (λ ss. slice_get ss p) (shapes_collected op g ss))) (map_map (λ t. t.shape) f (range_with_len 0 n))
      ∙ ap (λ o. option_and_then (result_at op g (map f (range_with_len 0 n)) p) (option_and_then (λ ss. slice_get ss p) o)) shapes_are
      ∙ ap (option_and_then (result_at op g (map f (range_with_len 0 n)) p)) (get_range shape 0 n p below ∙ ap (λ q. Some (shape q)) zero_first)
      ∙ ap (option_map (λ y. build (shape p) (width_of op.result) (y.cell p (map f (range_with_len 0 n))))) is
