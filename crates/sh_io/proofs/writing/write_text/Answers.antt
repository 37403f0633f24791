use Rattle.std.proofs.Common.{◌≡◌, ◌-◌, length, arith, take, drop}
use Rattle.std.proofs.lemmas.Grind.{common_steps}
use Rattle.std.proofs.KnownBytes.{Appends-trans}
use Rattle.std.proofs.Math.Seq.{take-add}
use Rattle.sh_io.proofs.writing.write_text.Goals as goal

pub loop-done-preserved : goal.loop-done-preserved
loop-done-preserved g c = record {
  within = grind (arith, common_steps, c.in_ok-done.ensures.bound);
  appends =
      let whole : take (length c.args.text.now - c.loop-done.done) (drop c.loop-done.done c.args.text.now) ≡ drop c.loop-done.done c.args.text.now = grind (arith, common_steps) in
      let step = rw whole at c.in_ok-done.ensures.bytes in
      rw take-add (Appends-trans _ _ _ _ _ c.loop-done.invariant.appends step);
  later = grind (arith, c.in_ok-done.ensures.cause.later);
}
