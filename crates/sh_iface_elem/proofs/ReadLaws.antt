-- What is read off a verified element operation is the element operation that it is.
use Rattle.std.proofs.Common.{◌≡◌, ℕ, List, map, ap, sym, ◌∙◌, subst}
use Rattle.sh_base.specs.declared.numbers.Width.{Width}
use Rattle.sh_base.specs.declared.places.Place.{Place}
use Rattle.sh_ir.specs.declared.operations.Op.{Op}
use Rattle.sh_ir.specs.declared.types.Dim.{Dim}
use Rattle.sh_ir.specs.Shapes.{extent_of, shape_of}
use Rattle.sh_sem.specs.Scalars.{width_of}
use Rattle.sh_iface.specs.Elements.{Element, IsElementOf, What, known_dims}
use Rattle.sh_iface.specs.Verified.{IsOfVerified}
use Rattle.sh_iface.proofs.ElementOf.{element_of_verified, extents_known}
use Rattle.sh_iface_elem.specs.declared.element.ElementKind.{ElementKind}
use Rattle.sh_iface_elem.specs.ElementOf.{IsWhatOf, element_by, meant}

abbrev element : What → Width → List ℕ → Place → Element
element what width shape place = record { what = what; width = width; shape = shape; place = place }

element_alike : (a b : What) (v w : Width) (s t : List ℕ) (p q : Place) → a ≡ b → v ≡ w → s ≡ t → p ≡ q
    → element a v s p ≡ element b w t q
element_alike a b v w s t p q e f g h = λ j. element (e j) (f j) (g j) (h j)

pub element_is : (op : Op) (kind : ElementKind) (width : Width) (dims : List Dim) (place : Place) → IsOfVerified op → IsWhatOf op.kind kind → width ≡ width_of op.result → map extent_of dims ≡ shape_of op.result → place ≡ op.place
    → IsElementOf op (element_by kind width dims place)
element_is op kind width dims place h found w s p =
    let some = element_of_verified op found.element h in
    let e = some.e in
    let is = some.is in
    subst (IsElementOf op) (sym (element_alike (meant kind) e.what width e.width (map extent_of dims) e.shape place e.place
    (found.what (known_dims e.shape) e.what is.kind)
    (w ∙ ap width_of is.result)
    (s ∙ ap shape_of is.result ∙ extents_known e.shape)
    (p ∙ sym is.place))) is
