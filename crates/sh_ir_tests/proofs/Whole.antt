-- The network's module is formed, by computation.
use Rattle.std.proofs.Common.{refl}
use Rattle.sh_ir.specs.Formed.{IsFormed}
use Rattle.sh_ir_tests.specs.Network.{the_network}

pub formed_network : IsFormed the_network
formed_network = record {
  names = refl;
  numbers = refl;
  types = refl;
  grids = refl;
  cuts = (tt, tt);
  operands = (refl, (refl, (refl, (refl, (refl, (refl, (refl, (refl, (refl, (refl, (refl, (refl, (refl, (refl, (tt, tt)))))))))))))));
  body_operands = (refl, tt);
  captures = (tt, (tt, (tt, (tt, (tt, (tt, (tt, (tt, (tt, (tt, (refl, (tt, (tt, (tt, (tt, tt)))))))))))))));
  defines = (refl, (refl, (refl, (refl, (refl, (refl, (refl, (refl, (refl, (refl, (refl, (refl, (refl, (refl, (refl, tt)))))))))))))));
  results = (refl, (refl, (refl, (tt, (tt, (tt, (refl, (tt, (tt, (tt, (tt, (tt, (tt, (tt, (refl, tt)))))))))))))));
  body_results = (tt, tt);
  returns = refl;
  literals = refl;
  calls = refl;
  maps = refl;
  blocks = refl;
  indices = refl;
  body_names = refl;
}
