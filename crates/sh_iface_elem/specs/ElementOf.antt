-- The element operation that an operation is.
use Rattle.std.specs.Prelude.{◌≡◌, List, map}
use Rattle.sh_base.specs.declared.numbers.Width.{Width}
use Rattle.sh_base.specs.declared.places.Place.{Place}
use Rattle.sh_ir.specs.declared.classification.OpClass.TheVariants as class
use Rattle.sh_ir.specs.declared.operations.OpKind.{OpKind}
use Rattle.sh_ir.specs.declared.types.Dim.{Dim}
use Rattle.sh_ir.specs.Classes.{class_of}
use Rattle.sh_ir.specs.Shapes.{extent_of}
use Rattle.sh_iface.specs.Elements.{Element, What, by_operation, by_predicate, by_choice, by_cast, element_meaning, kind_at}
use Rattle.sh_iface.specs.Meaning.{Meaning}
use Rattle.sh_iface_elem.specs.declared.element.ElementKind.{ElementKind}
use Rattle.sh_iface_elem.specs.declared.element.ElementKind.TheVariants.{Binary, Compare, Select, Cast}

-- what an element operation of a kind does
abbrev pub meant : ElementKind → What
meant (Binary op) = by_operation op
meant (Compare predicate width) = by_predicate predicate width
meant Select = by_choice
meant (Cast op width) = by_cast op width

-- It is the kind of an element operation that does this, wherever it is one on tensors of some
-- extents.
pub record IsWhatOf (kind : OpKind) (found : ElementKind) : Type 0 where
  pub element : class_of kind ≡ class.Element
  pub what : (dims : List Dim) (what : What) → kind ≡ kind_at dims what → meant found ≡ what

-- the element operation of these parts
abbrev pub element_by : ElementKind → Width → List Dim → Place → Element
element_by kind width dims place =
    record { what = meant kind; width = width; shape = map extent_of dims; place = place }

-- what it means
abbrev pub meaning_by : ElementKind → Width → List Dim → Place → Meaning
meaning_by kind width dims place = element_meaning (element_by kind width dims place)
