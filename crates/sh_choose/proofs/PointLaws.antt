-- How many loop points the largest device has.
use Rattle.std.proofs.Common.{◌≡◌, ℕ, zero, suc, ◌+◌, ◌-◌, ◌*◌, ◌^◌, ◌≤◌, ◌<◌, List, [], ◌∷◌, length, map, get_or, refl, ap, ap₂, sym, ◌∙◌, subst, arith}
use Rattle.std.specs.Prelude.{pos, negsuc, ℤ, Option, Some, None}
use Rattle.std.specs.List.{AllByRecursion, range_with_len}
use Rattle.std.proofs.lemmas.Int.{ints}
use Rattle.std.proofs.Math.Nat.{mul-le-mul, pow-suc}
use Rattle.std.proofs.lemmas.List.FromFn.{map-range_with_len_more}
use Rattle.sh_base.proofs.ShapeLaws.{cell_count-append}
use Rattle.sh_base.specs.Shape.{cell_count, max_cells, max_rank}
use Rattle.sh_grid.specs.Grid.{group_size_of}
use Rattle.sh_iface.specs.LoopNest.{Loop}
use Rattle.sh_iface.specs.Splits.{OptionValue, split_at}
use Rattle.sh_iface.specs.Valid.{AreSplits, MayBeSplit}
use Rattle.sh_iface.specs.declared.options.Split.{Split}
use Rattle.sh_iface.proofs.SplitLists.{all_at, split_in}
use Rattle.sh_sharding.proofs.MarkLaws.{offsets_between}
use Rattle.sh_sharding.specs.AxisLists.{natural}
use Rattle.sh_sharding.specs.OffsetLists.{AreOffsets}
use Rattle.sh_sharding.specs.Sharding.{largest_to}
use Rattle.sh_sharding.specs.Views.{IsBetween}
use Rattle.sh_choose.specs.Weights.{longest_part, points_along}

-- ---- a loop's points

largest_small : (sizes : ℕ → ℕ) (k top : ℕ) → ((i : ℕ) → i < k → sizes i ≤ top) → largest_to sizes k ≤ top
largest_small sizes zero top h = omega arith
largest_small sizes (suc k) top h = omega (arith, largest_small sizes k top (λ i l. h i (omega arith)), h k (omega arith))

natural_small : (top : ℕ) (z : ℤ) → IsBetween top z → natural z ≤ top
natural_small top (pos n) h = let high = h.high in omega (arith, ints)
natural_small top (negsuc n) h = omega arith

longest_small : (extent parts : ℕ) (starts : List ℤ) → AreOffsets extent parts starts → longest_part starts ≤ extent
unfolding longest_part
longest_small extent parts starts h =
    largest_small (λ i. natural (get_or starts (i + 1) (pos 0)) - natural (get_or starts i (pos 0))) (length starts - 1) extent
    (λ i l. omega (arith, natural_small extent (get_or starts (i + 1) (pos 0)) (offsets_between extent parts starts (i + 1) h (omega (arith, h.counted)))))

along_small : (g : List ℕ) (loop : Loop) (split : Option Split) → MayBeSplit g loop split → loop.extent ≤ max_cells → points_along loop.extent split ≤ max_cells
along_small g loop None h s = s
along_small g loop (Some split) h s =
    omega (arith, longest_small loop.extent (group_size_of g split.axes) split.starts h.1.starts, s)

got_at : (o : OptionValue) (l : ℕ) → get_or o l None ≡ split_at o l
got_at [] l = refl
got_at (x ∷ o) zero = refl
got_at (x ∷ o) (suc l) = got_at o l

-- a loop of a valid option has few
pub points_along_small : (g : List ℕ) (loops : List Loop) (o : OptionValue) (d : Loop) (l : ℕ) → AreSplits g loops o → AllByRecursion (λ loop. loop.extent ≤ max_cells) loops → l < length loops → points_along (get_or loops l d).extent (split_at o l) ≤ max_cells
points_along_small g loops o d l h s le =
    along_small g (get_or loops l d) (split_at o l) (subst (MayBeSplit g (get_or loops l d)) (got_at o l) (split_in g loops o d l h le))
    (all_at (λ loop. loop.extent ≤ max_cells) loops d l s le)

-- ---- all points

-- one loop more
pub points_more : (f : ℕ → ℕ) (l points n next : ℕ) → points ≡ cell_count (map f (range_with_len 0 l)) → n ≡ f l → next ≡ points * n → next ≡ cell_count (map f (range_with_len 0 (l + 1)))
points_more f l points n next h e s =
    s ∙ ap₂ ◌*◌ h e ∙ sym (cell_count-append (map f (range_with_len 0 l)) (f l)) ∙ sym (ap cell_count (map-range_with_len_more f 0 l l (omega arith)))

pub few_more : (l points n next : ℕ) → points ≤ max_cells ^ l → n ≤ max_cells → next ≡ points * n → next ≤ max_cells ^ (l + 1)
few_more l points n next h s e =
    let one : l + 1 ≡ suc l = omega arith in
    subst (λ top. next ≤ top) (sym (ap (λ k. max_cells ^ k) one ∙ pow-suc max_cells l)) (omega (arith, e, mul-le-mul h s))

fits_under : (top points n : ℕ) → points ≤ top → n ≤ max_cells → top * max_cells < 2 ^ 128 → points * n < 2 ^ 128
fits_under top points n h s t = omega (arith, mul-le-mul h s, t)

-- the points of so few loops fit
pub few_fit : (l points n : ℕ) → l < max_rank → points ≤ max_cells ^ l → n ≤ max_cells → points * n < 2 ^ 128
few_fit zero points n le h s = fits_under (max_cells ^ 0) points n h s (omega arith)
few_fit (suc zero) points n le h s = fits_under (max_cells ^ 1) points n h s (omega arith)
few_fit (suc (suc zero)) points n le h s = fits_under (max_cells ^ 2) points n h s (omega arith)
few_fit (suc (suc (suc zero))) points n le h s = fits_under (max_cells ^ 3) points n h s (omega arith)
few_fit (suc (suc (suc (suc zero)))) points n le h s = fits_under (max_cells ^ 4) points n h s (omega arith)
few_fit (suc (suc (suc (suc (suc zero))))) points n le h s = fits_under (max_cells ^ 5) points n h s (omega arith)
few_fit (suc (suc (suc (suc (suc (suc l)))))) points n le h s = absurd (omega arith)
