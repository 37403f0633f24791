-- A device in memory as one of the machine.
use Rattle.std.specs.Prelude.{ℕ, ◌<◌, ◌≤◌, List, [], All, length, map, slice_index_or, vec_capacity}
use Rattle.sh_base.specs.declared.numbers.Width.TheVariants.{I1}
use Rattle.sh_tensor.specs.Tensor.{TensorValue}
use Rattle.sh_turns.specs.World.{Device}
use Rattle.sh_world.specs.declared.states.Post.{Post}
use Rattle.sh_world.specs.declared.states.State.{State}

-- stands where no value is
abbrev pub no_tensor : TensorValue
no_tensor = record { shape = []; width = I1; cells = [] }

abbrev pub tensor_at : List TensorValue → ℕ → TensorValue
tensor_at values place = slice_index_or values place no_tensor

-- a post with its tensor
abbrev pub post_of : List TensorValue → Post → ℕ × TensorValue
post_of values post = (post.instruction, tensor_at values post.place)

abbrev pub device_of : State → Device TensorValue
device_of s = record {
  values = s.values.items;
  next = s.next;
  waits = s.waits;
  posts = map (post_of s.values.items) s.posts.items;
}

-- each post names a value that is there
abbrev pub HasPosted : State → Type 0
HasPosted s = All (λ (post : Post). post.place < length s.values.items) s.posts.items

-- there is room for so many posts
abbrev pub HasRoom : ℕ → State → Type 0
HasRoom count s = count ≤ vec_capacity s.posts
