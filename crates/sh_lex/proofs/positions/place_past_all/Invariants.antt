use Rattle.std.proofs.Common.{◌≡◌, ◌+◌, ◌≤◌, fold, take}
use Rattle.sh_lex.specs.Scan.{place_past}
use Rattle.sh_lex.proofs.positions.place_past_all.Given as goal

abbrev pub invariant-loop-byte : goal.invariant-loop-byte
invariant-loop-byte l = record {
  value : l.place ≡ fold place_past l.fn.from (take l.byte-index l.bytes);
  line : l.place.line ≤ l.fn.from.line + l.byte-index;
  column : l.place.column ≤ l.fn.from.column + l.byte-index;
}
