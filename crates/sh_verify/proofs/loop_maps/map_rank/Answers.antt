use mathlib.Core.Path.{◌∙◌, ap, sym}
use Rattle.std.proofs.Common.{length, nat_eq}
use Rattle.std.specs.Prelude.{ℕ, [], ◌∷◌, map}
use Rattle.std.specs.List.{position_or_len, range_with_len}
use Rattle.std.proofs.lemmas.List.{length-map}
use Rattle.std.proofs.lemmas.List.FromFn.{length-range_with_len}
use Rattle.sh_ir.specs.Numbers.{as_naturals}
use Rattle.sh_verify.specs.Followings.{map_in}
use Rattle.sh_verify.proofs.loop_maps.map_rank.Goals as goal

pub returns-in-Identity : goal.returns-in-Identity
returns-in-Identity c =
    sym (ap (λ m. length (map_in m)) c.in-Identity.is
    ∙ (length-map (range_with_len 0 c.in-Identity.rank) (λ (l : ℕ). l ∷ []) ∙ length-range_with_len 0 c.in-Identity.rank))

pub returns-in-Places : goal.returns-in-Places
returns-in-Places c =
    let numbers = as_naturals c.in-Places.field-1.now in
    let place = λ (n : ℕ). position_or_len (nat_eq n) numbers in
    sym (ap (λ m. length (map_in m)) c.in-Places.is
    ∙ (length-map (map place (range_with_len 0 c.in-Places.rank)) (λ (l : ℕ). l ∷ [])
    ∙ (length-map (range_with_len 0 c.in-Places.rank) place ∙ length-range_with_len 0 c.in-Places.rank)))
