use Rattle.std.proofs.Common.{◌≡◌, subst, sym}
use Rattle.sh_base.specs.Cells.{IsCellOf}
use Rattle.sh_base.specs.Shape.{IsIndexOf}
use Rattle.sh_tensor.specs.Tensor.{TensorValue, at}
use Rattle.sh_tensor.proofs.TensorLaws.{read_at, read_fits}
use Rattle.sh_tensor.proofs.tensors.Tensor.at.Goals as goal

pub returns-clause-value : goal.returns-clause-value
returns-clause-value c =
    let t : TensorValue = record { shape = c.self.inside.shape; width = c.self.inside.width; cells = c.self.inside.cells.items } in
    let same : t ≡ c.args.self.now = c.self.view_is in
    let within : IsIndexOf t.shape c.args.i.now = subst (λ (u : TensorValue). IsIndexOf u.shape c.args.i.now) (sym same) c.requires in
    subst (λ (u : TensorValue). c.index.result.now ≡ at u c.args.i.now) same
    (read_at t c.args.i.now c.flat.result c.index.result.now c.self.invariant within c.flat.ensures.value c.index.ensures)

pub returns-clause-fitting : goal.returns-clause-fitting
returns-clause-fitting c =
    let t : TensorValue = record { shape = c.self.inside.shape; width = c.self.inside.width; cells = c.self.inside.cells.items } in
    let same : t ≡ c.args.self.now = c.self.view_is in
    let within : IsIndexOf t.shape c.args.i.now = subst (λ (u : TensorValue). IsIndexOf u.shape c.args.i.now) (sym same) c.requires in
    subst (λ (u : TensorValue). IsCellOf u.width c.index.result.now) same
    (read_fits t c.args.i.now c.flat.result c.index.result.now c.self.invariant within c.flat.ensures.value c.index.ensures)
