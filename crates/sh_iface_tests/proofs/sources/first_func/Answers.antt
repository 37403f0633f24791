use Rattle.std.proofs.Common.{rules, IfSome, ◌≡◌, ℕ, ◌+◌, ◌-◌, ◌*◌, ◌<◌, ◌≤◌, length, ◌/◌, ◌%◌, Bool, true, false, nat_eq, nat_lt, List, [], ◌∷◌, ◌++◌, slice_index_or, slice_set, bit_and, bit_or, Fits, w8, w32, w64, Bor, MutBor}
use Rattle.sh_eval.specs.Sources.{IsOfSource}
use Rattle.sh_iface_tests.proofs.VerifiedSource.{first_read, none_there, verified_source}
use Rattle.sh_iface_tests.proofs.sources.first_func.Goals as goal

-- src/sources.rt:8:1
pub returns-else-is_some : goal.returns-else-is_some
returns-else-is_some c = verified_source c.module.result.now c.in-Some.f.now c.module.ensures.kept (first_read c.module.result.now.funcs c.as_slice.result.now c.in-Some.f.now (search) c.in-Some.ensures.lookup.0 c.in-Some.ensures.lookup.1) (none_there c.in-Some.f.now.carry c.if-is_some.ensures)
