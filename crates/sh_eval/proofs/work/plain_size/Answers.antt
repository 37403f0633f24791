use Rattle.std.proofs.Common.{map, ap, subst, sym, ◌∙◌, inl, inr}
use Rattle.std.specs.Prelude.{IfSome, option_map}
use Rattle.sh_eval.specs.Cuts.{cut_shape}
use Rattle.sh_eval.specs.Values.{IsFew}
use Rattle.sh_sem.specs.Given.{alone, of_dims, shape_by}
use Rattle.sh_eval.proofs.KindLaws.{is_there, not_there}
use Rattle.sh_eval.proofs.SizeRules.{few_at, plain_none, plain_sized, plain_unknown}
use Rattle.sh_eval.proofs.work.plain_size.Goals as goal

pub returns-in-Some-fitting : goal.returns-in-Some-fitting
returns-in-Some-fitting c =
    let there = is_there (shape_by c.args.op.now alone (map (λ t. t.shape) (map (λ t. t.now) c.args.ts.now))) cut_shape c.in-Some.extents.items (ap (option_map (λ all. all.items)) (sym c.in-Some.is) ∙ (c.in_ok-extents.ensures (λ e. c.requires.class (inl e)) (λ e. c.requires.class (inr e)) c.requires.source)) in
    plain_sized c.args.op.now (map (λ t. t.shape) (map (λ t. t.now) c.args.ts.now)) there.value c.in-Some-fitting.shape c.requires.none there.there
    (c.in-Some-fitting.ensures.value there.value (c.as_slice.ensures.value ∙ there.cut) (subst (λ d. IfSome (of_dims d there.value) IsFew) (sym c.dims_of.ensures) (few_at c.args.op.now (map (λ t. t.now) c.args.ts.now) there.value c.requires.few there.there)) ∙ ap (λ d. of_dims d there.value) c.dims_of.ensures)

pub returns-in-Some : goal.returns-in-Some
returns-in-Some c =
    let there = is_there (shape_by c.args.op.now alone (map (λ t. t.shape) (map (λ t. t.now) c.args.ts.now))) cut_shape c.in-Some.extents.items (ap (option_map (λ all. all.items)) (sym c.in-Some.is) ∙ (c.in_ok-extents.ensures (λ e. c.requires.class (inl e)) (λ e. c.requires.class (inr e)) c.requires.source)) in
    plain_unknown c.args.op.now (map (λ t. t.shape) (map (λ t. t.now) c.args.ts.now)) there.value there.there
    (c.in-None-fitting.ensures.value there.value (c.as_slice.ensures.value ∙ there.cut) (subst (λ d. IfSome (of_dims d there.value) IsFew) (sym c.dims_of.ensures) (few_at c.args.op.now (map (λ t. t.now) c.args.ts.now) there.value c.requires.few there.there)) ∙ ap (λ d. of_dims d there.value) c.dims_of.ensures)

pub returns : goal.returns
returns c = plain_none c.args.op.now (map (λ t. t.shape) (map (λ t. t.now) c.args.ts.now)) (not_there (shape_by c.args.op.now alone (map (λ t. t.shape) (map (λ t. t.now) c.args.ts.now))) cut_shape (ap (option_map (λ all. all.items)) (sym c.in-None.is) ∙ (c.in_ok-extents.ensures (λ e. c.requires.class (inl e)) (λ e. c.requires.class (inr e)) c.requires.source)))
