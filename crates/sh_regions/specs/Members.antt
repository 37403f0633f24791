-- Lists as the sets of their members.
use Rattle.std.specs.Prelude.{◌≡◌, ℕ, List}
use Rattle.sh_ir.specs.Regions.{is_among}

-- the lists have the same members
unfoldable pub AreAgreed : List ℕ → List ℕ → Type 0
AreAgreed xs ys = (name : ℕ) → is_among xs name ≡ is_among ys name
