-- A device's posts keep their tensors when a value is appended.
use Rattle.std.proofs.Common.{◌≡◌, ◌<◌, List, [], ◌∷◌, ◌++◌, length, map, refl}
use Rattle.std.specs.Prelude.{All}
use Rattle.std.proofs.lemmas.List.{get_or_append_left}
use Rattle.std.proofs.lemmas.List.Elements.{All-head, All-tail}
use Rattle.sh_tensor.specs.Tensor.{TensorValue}
use Rattle.sh_world.specs.declared.states.Post.{Post}
use Rattle.sh_world.specs.States.{no_tensor, post_of}

-- each post names a value that is among these
abbrev pub AreAmong : List TensorValue → List Post → Type 0
AreAmong values posts = All (λ (post : Post). post.place < length values) posts

pub posts_kept : (values : List TensorValue) (t : TensorValue) (posts : List Post) → AreAmong values posts
    → map (post_of (values ++ t ∷ [])) posts ≡ map (post_of values) posts
posts_kept values t [] among = refl
posts_kept values t (post ∷ posts) among =
    let here = get_or_append_left values (t ∷ []) no_tensor post.place (All-head (λ (post : Post). post.place < length values) post posts among) in
    let rest = posts_kept values t posts (All-tail (λ (post : Post). post.place < length values) post posts among) in
    rw (here, rest) refl
