use Rattle.sh_iface_tests.proofs.SourceOps.{verified_op}
use Rattle.sh_iface_tests.proofs.VerifiedSource.{first_read}
use Rattle.sh_iface_tests.proofs.sources.first_op.Goals as goal

-- src/sources.rt:24:1
pub returns-in-Some : goal.returns-in-Some
returns-in-Some c = verified_op c.args.f.now c.requires 0 c.in-Some.op.now (first_read c.args.f.now.ops c.as_slice.result.now c.in-Some.op.now c.as_slice.ensures c.in-Some.ensures.lookup.0 c.in-Some.ensures.lookup.1)
