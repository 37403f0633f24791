-- What bytes stand for is determined.
use Rattle.std.proofs.Common.{◌≡◌, ℕ, ◌<◌, ◌^◌, ap, ap₂, sym, ◌∙◌}
use Rattle.std.specs.Fmt.{decimal}
use Rattle.sh_ir.specs.declared.modules.Module.{Module}
use Rattle.sh_cli.specs.Modules.{source_func, device_func, module_of, StandsFor, in_source_form, in_device_form}
use Rattle.sh_cli.specs.VectorSum.{vector_type, source_text, partitioned_layout}
use Rattle.sh_cli.proofs.Begins.{one_source, one_partitioned, two_forms}

pub reads_source : (extent devices : ℕ) (m : Module) → extent < 2 ^ 64 → devices < 2 ^ 64 → StandsFor (source_text extent devices) m → m ≡ module_of devices (source_func extent)
reads_source extent devices m a b (in_source_form n d c e text is) =
    let same = one_source extent devices n d a b c e text in
    is ∙ ap₂ (λ x y. module_of y (source_func x)) (sym same.0) (sym same.1)
reads_source extent devices m a b (in_device_form n l d c e f text is) = absurd (two_forms extent devices n l d a b c f text)

pub reads_partitioned : (extent local devices : ℕ) (m : Module) → extent < 2 ^ 64 → local < 2 ^ 64 → devices < 2 ^ 64 → StandsFor (partitioned_layout (vector_type extent) (vector_type local) (decimal devices)) m
    → m ≡ module_of devices (device_func extent local)
reads_partitioned extent local devices m a b c (in_source_form n d e f text is) = absurd (two_forms n d extent local devices e f a c (sym text))
reads_partitioned extent local devices m a b c (in_device_form n l d e f g text is) =
    let same = one_partitioned extent local devices n l d a b c e f g text in
    is ∙ ap (λ x. module_of d (device_func x l)) (sym same.extents) ∙ ap (λ x. module_of d (device_func extent x)) (sym same.locals) ∙ ap (λ x. module_of x (device_func extent local)) (sym same.device_counts)
