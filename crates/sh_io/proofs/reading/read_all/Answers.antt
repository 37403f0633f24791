use Rattle.std.proofs.Common.{◌≡◌, ◌≤◌, ◌+◌, arith, rules, take, ◌++◌, length}
use Rattle.std.proofs.lemmas.Grind.{common_steps}
use Rattle.std.proofs.KnownBytes.{Consumes-trans}
use Rattle.sh_base.specs.Limits.{max_bytes}
use Rattle.sh_io.proofs.reading.read_all.Goals as goal

pub returns-then-len-n-gt-MAX_BYTES-clause-all : goal.returns-then-len-n-gt-MAX_BYTES-clause-all
returns-then-len-n-gt-MAX_BYTES-clause-all g c =
    let count : length (c.pieces.bytes.items ++ take c.in_ok-n.n c.read_some.new.buf) ≡ max_bytes + 1 = grind (arith, common_steps, c.in_ok-n.ensures.bound) in
    record {
      taken = c.pieces.bytes.items ++ take c.in_ok-n.n c.read_some.new.buf;
      consumes = Consumes-trans _ _ _ _ _ c.pieces.invariant.consumes c.in_ok-n.ensures.bytes.0;
      few = omega (arith, count);
      whole = tt;
      at_end = tt;
      short = tt;
      too_long = (λ _. count, λ _. search rules);
    }

pub returns-in_err-extend_from_slice-clause-all : goal.returns-in_err-extend_from_slice-clause-all
returns-in_err-extend_from_slice-clause-all g c =
    let count : length (c.pieces.bytes.items ++ take c.in_ok-n.n c.read_some.new.buf) ≤ max_bytes = grind (arith, common_steps, c.in_ok-n.ensures.bound) in
    record {
      taken = c.pieces.bytes.items ++ take c.in_ok-n.n c.read_some.new.buf;
      consumes = Consumes-trans _ _ _ _ _ c.pieces.invariant.consumes c.in_ok-n.ensures.bytes.0;
      few = omega (arith, count);
      whole = search rules;
      at_end = search rules;
      short = search rules;
      too_long = search rules;
    }
