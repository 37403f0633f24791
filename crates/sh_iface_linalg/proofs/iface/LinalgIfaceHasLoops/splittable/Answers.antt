use Rattle.std.proofs.Common.{◌≡◌, true, ap, arith, length, map, nat_lt, refl, sym, ◌∙◌}
use Rattle.std.proofs.lemmas.Bool.Decides.{nat_tests}
use Rattle.std.specs.Prelude.{is_some}
use Rattle.std.proofs.lemmas.List.{length-map}
use Rattle.sh_ir.specs.Shapes.{extent_of}
use Rattle.sh_iface.specs.LoopNest.{Loop}
use Rattle.sh_iface_linalg.specs.Ifaces.{structured_in}
use Rattle.sh_iface_linalg.proofs.NestLaws.{loop_is, parallel_split, reduced_split}
use Rattle.sh_iface_linalg.proofs.iface.LinalgIfaceHasLoops.splittable.Goals as goal

pub returns-then-l-self : goal.returns-then-l-self
returns-then-l-self c =
    let e = structured_in c.args.self.now in
    let n : length (map extent_of c.args.self.now.dims.now) ≡ length c.args.self.now.dims.now = length-map c.args.self.now.dims.now extent_of in
    let lt = c.if-l-self.true in
    let test : nat_lt c.args.l (length c.args.self.now.dims.now) ≡ true = grind (arith, nat_tests) in
    test ∙ parallel_split e (length (map extent_of c.args.self.now.dims.now)) refl c.args.l (omega (arith, n, lt)) ∙ ap (λ (loop : Loop). loop.splittable) (sym (loop_is e c.args.l c.requires))

pub returns-else-l-self : goal.returns-else-l-self
returns-else-l-self c =
    let e = structured_in c.args.self.now in
    let n : length (map extent_of c.args.self.now.dims.now) ≡ length c.args.self.now.dims.now = length-map c.args.self.now.dims.now extent_of in
    let le = c.if-l-self.false in
    c.is_some.ensures ∙ ap is_some c.reduction.ensures
    ∙ reduced_split e (length (map extent_of c.args.self.now.dims.now)) refl c.args.l (omega (arith, n, le)) ∙ ap (λ (loop : Loop). loop.splittable) (sym (loop_is e c.args.l c.requires))
