-- Modules that the printer may be asked to print: those whose text is read as a module alike.
use Rattle.std.specs.Prelude.{◌<◌, ◌^◌, ℕ, List, ◌++◌, IsTrue, flat_map, length, map, option_to_list}
use Rattle.std.specs.List.{AllByRecursion, list_all}
use Rattle.sh_ir.specs.Formed.{IsFormed, all_written, bodies_in, constants_of, func_names, ops_of}
use Rattle.sh_ir.specs.Numbers.{are_distinct}
use Rattle.sh_ir.specs.Regions.{is_among, own_names}
use Rattle.sh_ir.specs.declared.bodies.Body.{Body}
use Rattle.sh_ir.specs.declared.functions.Func.{Func}
use Rattle.sh_ir.specs.declared.linalg_ops.AffineMap.{AffineMap}
use Rattle.sh_ir.specs.declared.modules.Module.{Module}
use Rattle.sh_alike.specs.Alike.{AreAlike}
use Rattle.sh_parse.specs.Reads.{Reads}
use Rattle.sh_print_laws.specs.ReadsBack.{is_whole}

-- the names that a function defines
abbrev pub names_defined : Func → List ℕ
names_defined f = map (λ arg. arg.id) f.args ++ flat_map (λ op. option_to_list op.defines) f.ops

-- a function uses names that it defines, fewer than 2^64 of them
pub record IsNamed (f : Func) : Type 0 where
  pub defined : IsTrue (list_all (is_among (names_defined f)) (func_names f))
  pub few : length (names_defined f) < 2 ^ 64

-- a region has no two block arguments of one name, and defines fewer than 2^64 names
pub record IsRegionNamed (body : Body) : Type 0 where
  pub distinct : IsTrue (are_distinct body.args)
  pub few : length (own_names body) < 2 ^ 64

-- the words of a map are numbered below 2^64
abbrev pub HasFewWords : AffineMap → Type 0
HasFewWords x = AllByRecursion (λ n. n < 2 ^ 64) (x.loops ++ x.results)

pub record IsPrintable (m : Module) : Type 0 where
  pub formed : IsFormed m
  pub whole : IsTrue (list_all is_whole (constants_of m))  -- each literal fits its type
  pub names : AllByRecursion IsNamed m.funcs
  pub regions : AllByRecursion IsRegionNamed (bodies_in (ops_of m))
  pub words : AllByRecursion HasFewWords (flat_map (λ x. x.maps) (all_written m))

-- Fewer than 2^64 names of each function, region and map.
pub record HasFewNames (m : Module) : Type 0 where
  pub names : AllByRecursion (λ f. length (names_defined f) < 2 ^ 64) m.funcs
  pub regions : AllByRecursion (λ body. length (own_names body) < 2 ^ 64) (bodies_in (ops_of m))
  pub words : AllByRecursion HasFewWords (flat_map (λ x. x.maps) (all_written m))

-- The text stands for a module, which is alike.
pub record IsReadAlike (m : Module) (text : List ℕ) : Type 0 where
  pub found : Module
  pub reads : Reads text found
  pub alike : AreAlike m found
