-- How an option divides the dimensions of a group, where the loop has the extent of the first.
use Rattle.std.proofs.Common.{◌≡◌, ℕ, ◌*◌, ◌<◌, List, Option, Some, None, refl, ap, sym, ◌∙◌, arith}
use Rattle.sh_base.specs.Shape.{cell_count}
use Rattle.sh_grid.proofs.GroupLaws.{place_in-below}
use Rattle.sh_sharding.specs.declared.shardings.Dimension.{Dimension}
use Rattle.sh_sharding.specs.Sharding.{start_in, unsplit}
use Rattle.sh_iface.specs.declared.options.Split.{Split}
use Rattle.sh_iface.specs.Splits.{scaled_dimension}
use Rattle.sh_iface.specs.Valid.{IsSplit}
use Rattle.sh_iface_tensor.specs.CutDims.{unsplit_extent, unsplit_start}
use Rattle.sh_iface_tensor.specs.GroupCuts.{GroupDims, IsGroupAt}
use Rattle.sh_iface_tensor.specs.ScaledParts.{local_scaled, start_scaled}

-- the first is divided as the loop, the one for all has parts that are so many times as long
abbrev pub divided_by : List ℕ → ℕ → ℕ → Option Split → Dimension
divided_by g extent factor None = unsplit extent
divided_by g extent factor (Some split) = scaled_dimension g extent split factor

abbrev pub group_by : List ℕ → ℕ → List ℕ → Option Split → GroupDims
group_by g n others x = record {
  first = divided_by g n 1 x;
  others = others;
  one = divided_by g (n * cell_count others) (cell_count others) x;
}

abbrev pub IsSplitBy : List ℕ → ℕ → Option Split → Type 0
IsSplitBy g n None = Unit {0}
IsSplitBy g n (Some split) = IsSplit g n split

none_times : (a b r : ℕ) → a ≡ 0 → b ≡ 0 → a ≡ b * r
none_times a b r e f = e ∙ none r ∙ ap (λ k. k * r) (sym f)
  where
    none : (r : ℕ) → 0 ≡ 0 * r
    none r = omega arith

pub group_at : (g : List ℕ) (c n : ℕ) (others : List ℕ) (x : Option Split) → c < cell_count g → IsSplitBy g n x → IsGroupAt g c (group_by g n others x)
group_at g c n others None l h = record {
  extent = refl;
  start = none_times (start_in g c (unsplit (n * cell_count others))) (start_in g c (unsplit n)) (cell_count others) (unsplit_start g c (n * cell_count others)) (unsplit_start g c n);
  local = unsplit_extent g c (n * cell_count others) ∙ ap (λ k. k * cell_count others) (sym (unsplit_extent g c n));
  first_low = refl;
  one_low = refl;
}
group_at g c n others (Some split) l h =
    let below = place_in-below g split.axes c l h.axes in
    record {
      extent = refl;
      start = start_scaled g split h.starts.counted n (n * cell_count others) (cell_count others) c below;
      local = local_scaled g split h.starts.counted n (n * cell_count others) (cell_count others) c below;
      first_low = refl;
      one_low = refl;
    }
