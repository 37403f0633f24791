use Rattle.std.proofs.Common.{refl, subst}
use Rattle.std.specs.Io.KnownBytes.{Appends}
use Rattle.sh_cli.specs.Ending.{IsRewriting}
use Rattle.sh_cli.specs.declared.status.Status.TheVariants.{Success}
use Rattle.sh_cli.proofs.Rewriting.{partition_rewrites}
use Rattle.sh_cli.proofs.main_call.rewrite.Goals as goal

pub returns-in-Ok-write_text-clause-headline : goal.returns-in-Ok-write_text-clause-headline
returns-in-Ok-write_text-clause-headline g c = λ _ partition.
    let made = subst (λ b. IsRewriting b c.args.text.now Success c.in-Ok.output.items) partition c.in-Ok.ensures.ok in
    let wrote = subst (Appends (g.O.Sink.written c.args.out.now) (g.O.Sink.written c.write_text.new.out)) c.as_slice.ensures.value
    c.in-Ok-write_text.ensures.bytes in
    partition_rewrites c.args.text.now c.in-Ok.output.items _ _ Success refl made wrote
