-- Classes whose operations give a tensor of their operands.
use Rattle.sh_ir.specs.declared.classification.OpClass.{OpClass}
use Rattle.sh_ir.specs.declared.classification.OpClass.TheVariants as class

-- in source form
abbrev pub HasTensor : OpClass → Type 0
HasTensor class.Creator = Unit {0}
HasTensor class.Element = Unit {0}
HasTensor class.Layout = Unit {0}
HasTensor class.Structured = Unit {0}
HasTensor class.Convolution = Unit {0}
HasTensor class.Sharding = ⊥
HasTensor class.Note = ⊥
HasTensor class.DeviceLayout = ⊥
HasTensor class.Collective = ⊥
HasTensor class.Call = ⊥
HasTensor class.Return = ⊥

-- on the devices of a grid
abbrev pub GivesTensor : OpClass → Type 0
GivesTensor class.Creator = Unit {0}
GivesTensor class.Element = Unit {0}
GivesTensor class.Layout = Unit {0}
GivesTensor class.Structured = Unit {0}
GivesTensor class.Convolution = Unit {0}
GivesTensor class.DeviceLayout = Unit {0}
GivesTensor class.Collective = Unit {0}
GivesTensor class.Sharding = ⊥
GivesTensor class.Note = ⊥
GivesTensor class.Call = ⊥
GivesTensor class.Return = ⊥
