-- What a borrowed interface says: its structured operation.
use Rattle.std.specs.Prelude.{ℕ, get_or}
use Rattle.sh_nest_laws.specs.LoopSplits.{Operand}
use Rattle.sh_iface_linalg.specs.declared.operation.LinalgIface.{LinalgIface}
use Rattle.sh_iface_linalg.specs.Reading.{structured_of}
use Rattle.sh_iface_linalg.specs.Structured.{Structured, tensor_ins}

abbrev pub structured_in : LinalgIface → Structured
structured_in x = structured_of x.kind x.dims.now x.reduced x.first x.second x.width x.place

-- an input that is a tensor; their count means the result
abbrev pub value_in : Structured → ℕ → Operand
value_in e v = get_or (tensor_ins e) v e.out
