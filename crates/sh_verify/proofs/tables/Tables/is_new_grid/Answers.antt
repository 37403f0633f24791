use Rattle.std.proofs.Common.{◌∙◌, ap, sym, map}
use Rattle.sh_verify.specs.Tables.{place_of}
use Rattle.sh_verify.proofs.TableLaws.{grid_is_first, is_at}
use Rattle.sh_verify.proofs.tables.Tables.is_new_grid.Goals as goal

pub returns-in-Some : goal.returns-in-Some
returns-in-Some c =
    ap (λ o. is_at o c.args.at) (sym c.in-Some.is ∙ (c.find.ensures _ c.self.invariant.0
    ∙ (ap (λ n. place_of (map (λ item. item.name) c.self.inside.m.now.grids) n) c.as_slice.ensures
    ∙ ap (λ m. place_of (map (λ item. item.name) m.grids) c.args.g.now.name) c.self.view_is)))
    ∙ sym (grid_is_first c.args.self.now.grids c.args.at c.args.g.now c.requires)

pub returns-in-None : goal.returns-in-None
returns-in-None c =
    ap (λ o. is_at o c.args.at) (sym c.in-None.is ∙ (c.find.ensures _ c.self.invariant.0
    ∙ (ap (λ n. place_of (map (λ item. item.name) c.self.inside.m.now.grids) n) c.as_slice.ensures
    ∙ ap (λ m. place_of (map (λ item. item.name) m.grids) c.args.g.now.name) c.self.view_is)))
    ∙ sym (grid_is_first c.args.self.now.grids c.args.at c.args.g.now c.requires)
