use Rattle.std.proofs.Common.{◌∙◌, ap, sym, map}
use Rattle.sh_verify.specs.Tables.{place_of}
use Rattle.sh_verify.proofs.TableLaws.{func_is_first, is_at}
use Rattle.sh_verify.proofs.tables.Tables.is_new_func.Goals as goal

pub returns-in-Some : goal.returns-in-Some
returns-in-Some c =
    ap (λ o. is_at o c.args.at) (sym c.in-Some.is ∙ (c.find.ensures _ c.self.invariant.1
    ∙ (ap (λ n. place_of (map (λ item. item.name) c.self.inside.m.now.funcs) n) c.as_slice.ensures
    ∙ ap (λ m. place_of (map (λ item. item.name) m.funcs) c.args.f.now.name) c.self.view_is)))
    ∙ sym (func_is_first c.args.self.now.funcs c.args.at c.args.f.now c.requires)

pub returns-in-None : goal.returns-in-None
returns-in-None c =
    ap (λ o. is_at o c.args.at) (sym c.in-None.is ∙ (c.find.ensures _ c.self.invariant.1
    ∙ (ap (λ n. place_of (map (λ item. item.name) c.self.inside.m.now.funcs) n) c.as_slice.ensures
    ∙ ap (λ m. place_of (map (λ item. item.name) m.funcs) c.args.f.now.name) c.self.view_is)))
    ∙ sym (func_is_first c.args.self.now.funcs c.args.at c.args.f.now c.requires)
