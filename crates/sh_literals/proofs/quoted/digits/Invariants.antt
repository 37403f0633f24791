use Rattle.std.proofs.Common.{◌≡◌, ◌<◌, ◌++◌, drop, map, option_map}
use Rattle.std.specs.List.{All}
use Rattle.sh_literals.specs.LiteralCells.{all_of, hex_value}
use Rattle.sh_literals.proofs.quoted.digits.Given as goal

abbrev pub invariant-loop-byte : goal.invariant-loop-byte
invariant-loop-byte l = record {
  values :
      option_map (λ values. l.values.items ++ values) (all_of (map hex_value (drop l.byte-index l.text)))
      ≡ all_of (map hex_value l.text);
  within : All (λ digit. digit < 16) l.values.items;
}
