-- The values that options may have.
use Rattle.std.specs.Prelude.{◌==◌, ◌&&◌, ◌^◌, ℕ, ℤ, pos, Bool, List, Option, Some, None}
use Rattle.std.specs.Prelude.{codes, length, nat_le, nat_lt, nat_eq}
use Rattle.std.specs.Prelude.{if◌then◌else◌, map, drop, option_and_then, option_map}
use Rattle.std.specs.List.{list_all, slice_split, starts_with}
use Rattle.std.specs.Char.{is_ascii_digit}
use Rattle.std.specs.Str.{bytes_eq}
use Rattle.std.specs.Str.Parse.{digits_value}
use Rattle.sh_base.specs.declared.orders.Order.{Order}
use Rattle.sh_base.specs.declared.orders.Order.TheVariants as order
use Rattle.sh_base.specs.declared.orders.Traversal.{Traversal}
use Rattle.sh_base.specs.declared.orders.Traversal.TheVariants as traversal
use Rattle.sh_words.specs.Words.{Text}

abbrev pub traversal_of : Text → Option Traversal
traversal_of text =
    if bytes_eq text (codes "forward") then Some traversal.Forward
    else (if bytes_eq text (codes "backward") then Some traversal.Backward
    else (if bytes_eq text (codes "forward-backward") then Some traversal.ForwardBackward
    else (if bytes_eq text (codes "backward-forward") then Some traversal.BackwardForward
    else None)))

-- 1 to 20 digits with a value below 2 ^ 64
abbrev pub is_decimal : Text → Bool
is_decimal text =
    list_all is_ascii_digit text
    && (nat_lt 0 (length text)
    && (nat_le (length text) 20
    && nat_lt (digits_value 10 text) (2 ^ 64)))

abbrev pub decimal_of : Text → Option ℕ
decimal_of text = if is_decimal text then Some (digits_value 10 text) else None

-- a decimal from 1 to 256
abbrev pub size_of : Text → Option ℕ
size_of text =
    option_and_then (λ n. if nat_le 1 n && nat_le n 256 then Some n else None) (decimal_of text)

-- the texts between the commas
abbrev pub parts_of : Text → List Text
parts_of text = slice_split (λ b. b == 44) text

abbrev pub signed_value : Text → ℤ
signed_value text = pos (digits_value 10 text)

-- `D,D..`
abbrev pub numbers_of : Text → Option (List ℤ)
numbers_of text =
    if list_all is_decimal (parts_of text) then Some (map signed_value (parts_of text)) else None

-- what follows `seed:`
abbrev pub after_seed : Text → Option Text
after_seed text = if starts_with nat_eq text (codes "seed:") then Some (drop 5 text) else None

-- `round`, `reverse` or `seed:D`
abbrev pub order_of : Text → Option Order
order_of text =
    if bytes_eq text (codes "round") then Some order.Round
    else (if bytes_eq text (codes "reverse") then Some order.Reverse
    else option_map order.Seed (option_and_then decimal_of (after_seed text)))
