-- What stands behind some parts.
use Rattle.std.proofs.Common.{◌≡◌, ℕ, suc, ◌+◌, ◌-◌, ◌<◌, List, drop, refl, arith}
use Rattle.sh_build.specs.Rows.{past}
use Rattle.sh_build.specs.declared.parts.Part.{Part}

-- behind the first of them there is one less to pass
pub past_one : (count k : ℕ) (s : List Part) → k < count → past (count - k) s ≡ past (count - (k + 1)) (drop 1 s)
past_one count k s below = let e : count - k ≡ suc (count - (k + 1)) = omega arith in rw e refl
