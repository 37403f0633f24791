-- Instructions whose group stands along one list of axes.
use Rattle.sh_ir.specs.declared.operations.OpKind.{OpKind}
use Rattle.sh_ir.specs.declared.operations.OpKind.TheVariants.{UpdateHalo}

-- all but an exchange of halos, which has a list for each dimension
abbrev pub HasOneList : OpKind → Type 0
HasOneList (UpdateHalo x) = ⊥
HasOneList _ = Unit {0}
