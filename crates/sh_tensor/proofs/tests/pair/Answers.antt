use Rattle.std.proofs.Common.{◌≡◌, ◌<◌, ◌≤◌, ◌^◌, List, [], ◌∷◌, ◌++◌, ap, ◌∙◌, sym, subst, refl}
use Rattle.sh_base.specs.Shape.{cell_count, max_cells}
use Rattle.sh_tensor.specs.Tensor.{TensorValue, CanJoin, joined_extent, joined_shape}
use Rattle.sh_tensor.proofs.tests.pair.Goals as goal

pushed : (none one two : List TensorValue) (a b : TensorValue) → none ≡ [] → one ≡ none ++ a ∷ [] → two ≡ one ++ b ∷ [] → a ∷ b ∷ [] ≡ two
pushed none one two a b e f g = sym (g ∙ ap (λ z. z ++ b ∷ []) (f ∙ ap (λ z. z ++ a ∷ []) e))

pub concat-requires-clause-alike : goal.concat-requires-clause-alike
concat-requires-clause-alike c =
    subst (CanJoin c.args.axis) (pushed c.in_ok-parts.parts.items c.push.new.self.items c.push-2.new.self.items c.args.first c.args.second c.in_ok-parts.ensures.items c.in_ok-push.ensures.items c.in_ok-push-2.ensures.items)
    (record { ranked = c.requires.axis; width = refl; others = refl }, (c.requires.alike, tt))

pub concat-requires-clause-extent : goal.concat-requires-clause-extent
concat-requires-clause-extent c =
    subst (λ (ts : List TensorValue). joined_extent c.args.axis ts < 2 ^ 64) (pushed c.in_ok-parts.parts.items c.push.new.self.items c.push-2.new.self.items c.args.first c.args.second c.in_ok-parts.ensures.items c.in_ok-push.ensures.items c.in_ok-push-2.ensures.items)
    c.requires.extent

pub concat-requires-clause-small : goal.concat-requires-clause-small
concat-requires-clause-small c =
    subst (λ (ts : List TensorValue). cell_count (joined_shape c.args.axis ts) ≤ max_cells) (pushed c.in_ok-parts.parts.items c.push.new.self.items c.push-2.new.self.items c.args.first c.args.second c.in_ok-parts.ensures.items c.in_ok-push.ensures.items c.in_ok-push-2.ensures.items)
    c.requires.small
