use Rattle.std.proofs.Common.{◌≡◌, ◌+◌, ◌-◌, ◌*◌, ◌<◌, ap, sym, ◌∙◌, drop, length, arith}
use Rattle.sh_literals.specs.LiteralCells.{little_endian}
use Rattle.sh_literals.proofs.Bytes.{one_byte, one_digit, small}
use Rattle.sh_literals.proofs.quoted.little_endian.Goals as goal

pub overflow_mul-number : goal.overflow_mul-number
overflow_mul-number c =
    let h = small (length c.args.bytes.now - c.loop-at.at) c.loop-at.number (omega arith) c.loop-at.invariant.below in omega arith

pub overflow_add-number : goal.overflow_add-number
overflow_add-number c =
    let h = small (length c.args.bytes.now - c.loop-at.at) c.loop-at.number (omega arith) c.loop-at.invariant.below in
    omega (arith, c.type_inv.bytes (c.loop-at.at - 1))

pub loop-at-preserved : goal.loop-at-preserved
loop-at-preserved c =
    let back : c.loop-at.at - 1 + 1 ≡ c.loop-at.at = omega arith in
    let byte : c.from.result < 256 = omega (arith, c.type_inv.bytes (c.loop-at.at - 1)) in
    let count : length c.args.bytes.now - (c.loop-at.at - 1) ≡ length c.args.bytes.now - c.loop-at.at + 1 = omega arith in
    let number : c.loop-at.number ≡ little_endian (drop (c.loop-at.at - 1 + 1) c.args.bytes.now) = rw back c.loop-at.invariant.number in
    record {
      within = omega arith;
      number =
          ap (λ n. n * 256 + c.from.result) number
          ∙ ap (λ b. little_endian (drop (c.loop-at.at - 1 + 1) c.args.bytes.now) * 256 + b) c.from.ensures
          ∙ sym (one_digit c.args.bytes.now (c.loop-at.at - 1) (omega arith));
      below = rw count (one_byte (length c.args.bytes.now - c.loop-at.at) c.loop-at.number c.from.result c.loop-at.invariant.below byte);
    }
