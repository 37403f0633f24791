-- The device function of the one form runs as its source function means, in every order of turns.
use Rattle.std.proofs.Common.{◌≡◌, ℕ, zero, suc, ◌*◌, ◌/◌, ◌^◌, ◌<◌, List, [], ◌∷◌, Option, Some, None, refl, ap, sym, ◌∙◌, subst, arith, map}
use Rattle.std.specs.List.{range_with_len}
use Rattle.std.specs.Prelude.{Contains}
use Rattle.sh_base.specs.declared.numbers.Width.TheVariants.{I32}
use Rattle.sh_ir.specs.declared.functions.Func.{Func}
use Rattle.sh_ir.specs.declared.modules.Module.{Module}
use Rattle.sh_ir.specs.declared.types.Dim.TheVariants.{Known}
use Rattle.sh_ir.specs.declared.types.ValueType.{ValueType}
use Rattle.sh_ir.specs.Shapes.{argument_types}
use Rattle.sh_tensor.specs.Tensor.{TensorValue}
use Rattle.sh_sharding.specs.Carried.{carried, cuts_of, local_type}
use Rattle.sh_sharding.specs.Cut.{cut_of}
use Rattle.sh_sharding.specs.Sharding.{ShardingValue, local_shape}
use Rattle.sh_sharding.proofs.CutLaws.{shape-cut_of}
use Rattle.sh_sem.specs.Meaning.{means}
use Rattle.sh_sem.specs.Steps.{device_program, steps_on}
use Rattle.sh_sem.specs.Types.{AreOfTypes}
use Rattle.sh_turns.specs.Lockstep.{Done, lockstep}
use Rattle.sh_turns.specs.Program.{Program}
use Rattle.sh_pieces.specs.Right.{IsDoneWith, RunsRight}
use Rattle.sh_sharding.specs.CutRules.{HasLocalTypes}
use Rattle.sh_cli.specs.Headline.{IsPartition, IsPartitioned, IsRewritten, Rewrites}
use Rattle.sh_cli.specs.InStep.{StepsToSum, ends_in_step, result_cuts}
use Rattle.sh_cli.specs.Modules.{vector, whole_cut, source_func, device_func, module_of, carry_of, in_source_form, in_device_form}
use Rattle.sh_cli.specs.VectorSum.{source_text, partitioned_text, IsVectorSum, IsDivisible, IsEvenlySplit}
use Rattle.std.specs.Io.KnownBytes.{Appends}
use Rattle.sh_cli.proofs.Begins.{one_rest}
use Rattle.sh_cli.proofs.Readings.{reads_source, reads_partitioned}
use Rattle.sh_cli.proofs.SumCut.{total, cut_total}
use Rattle.sh_cli.proofs.LineSharding.{line, part_fits, line_sharding, local_type_is, is_line_sharding, local_shape_is, line_is_grid, line_is_sharding, line_is_admitted, no_halos}
use Rattle.sh_cli.proofs.SumMeaning.{AreSums, result_is, runs_right, source_means, steps_to_sums, sum_program}

-- the sharding of each cut
abbrev by_cut : ℕ → ℕ → ShardingValue
by_cut extent devices = carried (line devices) (whole_cut extent)

-- a tensor of a vector's type has its shape
vector_shape : (extent : ℕ) (t : TensorValue) → AreOfTypes (vector extent ∷ []) (t ∷ []) → t.shape ≡ extent ∷ []
vector_shape extent t is = go t.shape is.0.extents
  where
    go : (shape : List ℕ) → map (λ n. Known n) shape ≡ Known extent ∷ [] → shape ≡ extent ∷ []
    go [] e = absurd (cc)
    go (n ∷ []) e = cc
    go (n ∷ m ∷ ns) e = absurd (cc)

-- a device's part has the local shape
part_shape : (extent devices : ℕ) (t : TensorValue) (device : ℕ) → IsEvenlySplit extent devices → device < devices * 1
    → (cut_of (by_cut extent devices) t device).shape ≡ (extent / devices) ∷ []
part_shape extent devices t device is below =
    shape-cut_of (by_cut extent devices) t device
    ∙ ap (λ s. local_shape s device) (is_line_sharding extent devices)
    ∙ local_shape_is extent devices device is below

-- the sum of the parts is the part of the sum
part_sum : (extent devices : ℕ) (x y : TensorValue) (device : ℕ) → IsEvenlySplit extent devices → device < devices * 1
    → total ((extent / devices) ∷ []) (cut_of (by_cut extent devices) x device) (cut_of (by_cut extent devices) y device) ≡ cut_of (by_cut extent devices) (total (extent ∷ []) x y) device
part_sum extent devices x y device is below =
    let P : ShardingValue → Type 0 = λ s. total ((extent / devices) ∷ []) (cut_of s x device) (cut_of s y device) ≡ cut_of s (total (extent ∷ []) x y) device in
    let cut = cut_total (line_sharding extent devices) x y device (line_is_sharding extent devices is) (no_halos extent devices) below in
    subst P (sym (is_line_sharding extent devices))
    (ap (λ shape. total shape (cut_of (line_sharding extent devices) x device) (cut_of (line_sharding extent devices) y device)) (sym (local_shape_is extent devices device is below)) ∙ cut)

abbrev program_on : ℕ → ℕ → TensorValue → TensorValue → Program TensorValue
program_on extent devices x y = sum_program extent (extent / devices) devices (cut_of (by_cut extent devices) x) (cut_of (by_cut extent devices) y)

are_sums : (extent devices : ℕ) (x y : TensorValue) → IsEvenlySplit extent devices
    → AreSums extent (extent / devices) devices (cut_of (by_cut extent devices) x) (cut_of (by_cut extent devices) y) (cut_of (by_cut extent devices) (total (extent ∷ []) x y))
are_sums extent devices x y is = record {
  left = λ c below. part_shape extent devices x c is below;
  right = λ c below. part_shape extent devices y c is below;
  sums = λ c below. part_sum extent devices x y c is below;
}

-- in step each device ends with its part of the sum, and so does every run
sums_in_step : (extent devices : ℕ) (x y : TensorValue) → IsEvenlySplit extent devices → IsDoneWith (program_on extent devices x y) (λ c. cut_of (by_cut extent devices) (total (extent ∷ []) x y) c ∷ [])
sums_in_step extent devices x y is = steps_to_sums extent (extent / devices) devices _ _ _ (are_sums extent devices x y is)

sum_runs : (extent devices : ℕ) (x y : TensorValue) → IsEvenlySplit extent devices → RunsRight (program_on extent devices x y) (λ c. cut_of (by_cut extent devices) (total (extent ∷ []) x y) c ∷ [])
sum_runs extent devices x y is = runs_right extent (extent / devices) devices _ _ _ (are_sums extent devices x y is)

-- ---- functions

-- arguments of the source's types are two vectors
record AreVectors (extent : ℕ) (arguments : List TensorValue) : Type 0 where
  left : TensorValue
  right : TensorValue
  both : arguments ≡ left ∷ right ∷ []
  shape : left.shape ≡ extent ∷ []
  width : left.width ≡ I32
  other_shape : right.shape ≡ extent ∷ []

two_vectors : (extent : ℕ) (arguments : List TensorValue) → AreOfTypes (argument_types (source_func extent)) arguments → AreVectors extent arguments
two_vectors extent [] typed = absurd typed
two_vectors extent (x ∷ []) typed = absurd typed.1
two_vectors extent (x ∷ y ∷ []) typed = record { left = x; right = y; both = refl; shape = vector_shape extent x (typed.0, tt); width = typed.0.width; other_shape = vector_shape extent y (typed.1.0, tt) }
two_vectors extent (x ∷ y ∷ z ∷ ts) typed = absurd typed.1.1

-- every run of the device function on the cuts of the arguments is right
abbrev RunsOnCuts : ℕ → ℕ → List TensorValue → List TensorValue → Type 0
RunsOnCuts extent devices arguments results =
    RunsRight (device_program (device_func extent (extent / devices)) (line devices).extents (cuts_of (line devices) (carry_of extent).args arguments)) (cuts_of (line devices) (carry_of extent).results results)

sum_runs_on_cuts : (extent devices : ℕ) → IsEvenlySplit extent devices → (arguments results : List TensorValue) → AreOfTypes (argument_types (source_func extent)) arguments → means (source_func extent) arguments ≡ Some results → RunsOnCuts extent devices arguments results
sum_runs_on_cuts extent devices is arguments results typed meant =
    let vectors = two_vectors extent arguments typed in
    let sum = total (extent ∷ []) vectors.left vectors.right in
    let result = result_is extent vectors.left vectors.right results vectors.shape vectors.other_shape (ap (means (source_func extent)) (sym vectors.both) ∙ meant) in
    let runs : RunsOnCuts extent devices (vectors.left ∷ vectors.right ∷ []) (sum ∷ []) = sum_runs extent devices vectors.left vectors.right is in
    subst (λ (r : List TensorValue). RunsOnCuts extent devices arguments r) (sym result)
    (subst (λ (a : List TensorValue). RunsOnCuts extent devices a (sum ∷ [])) (sym vectors.both) runs)

-- the types of the device function are those of the parts
has_local_types : (extent devices : ℕ) → IsEvenlySplit extent devices → HasLocalTypes (line devices) (device_func extent (extent / devices)) (carry_of extent)
has_local_types extent devices is =
    let here : vector (extent / devices) ≡ local_type (by_cut extent devices) (vector extent) =
    sym (ap (λ s. local_type s (vector extent)) (is_line_sharding extent devices) ∙ local_type_is extent devices is) in
    record {
      args = ap (λ (type : ValueType). type ∷ type ∷ []) here;
      results = ap (λ (type : ValueType). type ∷ []) here;
    }

pub sum_is_partition : (extent devices : ℕ) → IsEvenlySplit extent devices → IsPartition (source_func extent) (device_func extent (extent / devices)) (carry_of extent) (line devices)
sum_is_partition extent devices is =
    let admitted = line_is_admitted extent devices is in
    record {
      name = refl;
      carries = refl;
      is_grid = line_is_grid extent devices is;
      of_arguments = refl;
      of_results = refl;
      admitted = ((admitted, (admitted, tt)), (admitted, tt));
      local = has_local_types extent devices is;
      of_return = refl;
      runs = sum_runs_on_cuts extent devices is;
    }

-- the only element of a list
pub only_one : {X : Type 0} (x y : X) → Contains (x ∷ []) y → y ≡ x
only_one x y (zero, below, here) = sym here
only_one x y (suc k, below, here) = absurd (omega arith)

pub the_one : {X : Type 0} (x : X) → Contains (x ∷ []) x
the_one x = (0, omega arith, refl)

-- the module in device form is the partition of that in source form
pub sum_is_partitioned : (extent devices : ℕ) → IsEvenlySplit extent devices → IsPartitioned (module_of devices (source_func extent)) (module_of devices (device_func extent (extent / devices)))
sum_is_partitioned extent devices is = record {
  grids = refl;
  functions = λ source among unpartitioned.
      record {
        function = device_func extent (extent / devices);
        carry = carry_of extent;
        grid = line devices;
        among = the_one _;
        on_grid = refl;
        is_partition =
            subst (λ (f : Func). IsPartition f (device_func extent (extent / devices)) (carry_of extent) (line devices)) (sym (only_one (source_func extent) source among))
            (sum_is_partition extent devices is);
      };
}

-- the two texts: what the one stands for is what the other stands for, partitioned
pub sum_is_rewritten : (extent devices : ℕ) → IsEvenlySplit extent devices → IsRewritten (source_text extent devices) (partitioned_text extent devices)
unfolding partitioned_text
sum_is_rewritten extent devices is =
    let small_extent : extent < 2 ^ 64 = omega (arith, is.limits.few_cells) in
    let small_devices : devices < 2 ^ 64 = omega (arith, is.limits.few_devices) in
    let small_local : extent / devices < 2 ^ 64 = omega (arith, is.limits.few_cells, part_fits extent devices is) in
    record {
      reads = (module_of devices (source_func extent), in_source_form extent devices small_extent small_devices refl refl);
      writes = (module_of devices (device_func extent (extent / devices)), in_device_form extent (extent / devices) devices small_extent small_local small_devices refl refl);
      right = λ m written reads writes.
          subst (λ (a : Module). IsPartitioned a written) (sym (reads_source extent devices m small_extent small_devices reads))
          (subst (λ (b : Module). IsPartitioned (module_of devices (source_func extent)) b) (sym (reads_partitioned extent (extent / devices) devices written small_extent small_local small_devices writes))
          (sum_is_partitioned extent devices is));
    }

rewrites_to : (text out : List ℕ) (old new : Option (List ℕ)) → IsRewritten text out → Appends old new out → Rewrites (Some text) old new
rewrites_to text out None new right appends = tt
rewrites_to text out (Some o) None right appends = absurd appends
rewrites_to text out (Some o) (Some n) right appends = λ written e. subst (λ (w : List ℕ). IsRewritten text w) (one_rest o out written n appends e) right

-- what is written for a text of the one form
pub sum_rewrites : (text out : List ℕ) (extent devices : ℕ) (old new : Option (List ℕ)) → IsVectorSum text extent devices → IsDivisible extent devices → out ≡ partitioned_text extent devices → Appends old new out → Rewrites (Some text) old new
sum_rewrites text out extent devices old new is divisible made appends =
    let right = sum_is_rewritten extent devices (record { limits = is.limits; divisible = divisible }) in
    rewrites_to text out old new
    (subst (λ (t : List ℕ). IsRewritten t out) (sym is.is_text) (subst (λ (o : List ℕ). IsRewritten (source_text extent devices) o) (sym made) right))
    appends

-- ---- running in step

ends_with_cuts : (extent devices : ℕ) (x y : TensorValue) → IsEvenlySplit extent devices
    → lockstep (program_on extent devices x y) ≡ Done (map (λ c. cut_of (by_cut extent devices) (total (extent ∷ []) x y) c ∷ []) (range_with_len 0 devices))
unfolding device_program steps_on
ends_with_cuts extent devices x y is =
    let one : devices * 1 ≡ devices = omega arith in
    sums_in_step extent devices x y is
    ∙ ap (λ n. Done (map (λ c. cut_of (by_cut extent devices) (total (extent ∷ []) x y) c ∷ []) (range_with_len 0 n))) one

pub sum_in_step : (extent devices : ℕ) → IsEvenlySplit extent devices → StepsToSum extent devices
sum_in_step extent devices is = λ arguments typed.
    let vectors = two_vectors extent arguments typed in
    let sum = total (extent ∷ []) vectors.left vectors.right in
    let meant : means (source_func extent) arguments ≡ Some (sum ∷ []) = ap (means (source_func extent)) vectors.both ∙ source_means extent vectors.left vectors.right vectors.shape vectors.other_shape in
    let stepped = ends_with_cuts extent devices vectors.left vectors.right is in
    (sum ∷ [], meant, subst (λ (a : List TensorValue). ends_in_step extent devices a ≡ Done (result_cuts extent devices (sum ∷ []))) (sym vectors.both) stepped)
