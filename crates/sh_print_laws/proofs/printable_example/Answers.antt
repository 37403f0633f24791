use Rattle.std.proofs.Common.{refl, arith}
use Rattle.sh_print_laws.proofs.printable_example.Goals as goal

pub returns : goal.returns
returns c = record {
  formed = record {
    names = refl;
    numbers = refl;
    types = refl;
    grids = refl;
    cuts = ((refl, (refl, (refl, tt))), tt);
    operands = (refl, (tt, tt));
    body_operands = tt;
    captures = (tt, (tt, tt));
    defines = (refl, (refl, tt));
    results = (tt, (refl, tt));
    body_results = tt;
    returns = refl;
    literals = refl;
    calls = refl;
    maps = refl;
    blocks = refl;
    indices = refl;
    body_names = refl;
  };
  whole = refl;
  names = (record { defined = refl; few = omega arith }, tt);
  regions = tt;
  words = tt;
}
