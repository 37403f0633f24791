-- Names, literals and spellings in small texts, by computation.
use Rattle.std.proofs.Common.{◌≡◌, ℕ, List, [], ◌∷◌, refl, true, false}
use Rattle.std.specs.Prelude.{None, Some, Option}
use Rattle.sh_base.specs.declared.numbers.Cell.TheVariants.{Val}
use Rattle.sh_grammar.specs.Laid.{the_choices, the_rows}
use Rattle.sh_grammar.specs.Lexemes.{bangs, class_of, dims, first_class, former_bangs, former_words, hashes, signs, words}
use Rattle.sh_ir.specs.declared.arith_ops.Contents.{Contents}
use Rattle.sh_ir.specs.declared.arith_ops.Contents.TheVariants.{Broken, Held}
use Rattle.sh_lex.specs.Tokens.{is_blank, is_digit, is_letter, is_line_byte, is_name_byte, is_string_byte, is_value_byte}
use Rattle.sh_build.specs.Meaning.{made}
use Rattle.sh_parse_tests.specs.Texts.{Numbered, keeps_names, lines, literals_in, numbered_ops, part_of, the_table}

-- ## Names

-- A region has the names of its function. The region's `%c` is the function's where the region hasn't
-- defined it yet, and `%in` of the function, defined behind the region, is another.
shadowing : List ℕ
shadowing = lines (
    "func.func @f(%x: i32, %t: tensor<4xi32>, %o: tensor<4xi32>) -> tensor<4xi32> {"
    ∷ "  %c = arith.constant 1 : i32"
    ∷ "  %r = linalg.generic {indexing_maps = [affine_map<(d0) -> (d0)>, affine_map<(a) -> (a)>], iterator_types = [\"parallel\"]} ins(%t : tensor<4xi32>) outs(%o : tensor<4xi32>) {"
    ∷ "  ^bb0(%in: i32, %out: i32):"
    ∷ "    %c = arith.addi %in, %c : i32"
    ∷ "    %d = arith.addi %c, %out : i32"
    ∷ "    linalg.yield %d : i32"
    ∷ "  } -> tensor<4xi32>"
    ∷ "  %in = arith.addi %r, %r : tensor<4xi32>"
    ∷ "  %m = linalg.reduce { arith.maxsi {overflowFlags = #arith.overflow<none>} } ins(%in : tensor<4xi32>) outs(%x : tensor<i32>) dimensions = [0]"
    ∷ "  %n = linalg.reduce ins(%in : tensor<4xi32>) outs(%m : tensor<i32>) dimensions = [0] (%in: i32, %d: i32) {"
    ∷ "    %e = arith.addi %d, %in : i32"
    ∷ "    linalg.yield %e : i32"
    ∷ "  }"
    ∷ "  return %n : tensor<i32>"
    ∷ "}" ∷ [])

-- an operation without a region
plain : Option ℕ → List ℕ → Numbered
plain defines operands = record { defines = defines; operands = operands; region = [] }

-- the names are %x, %t, %o, %c, %r, then the region's, and so on by first occurrence
shadowed : List Numbered
shadowed =
    plain (Some 3) []
    ∷ record {
      defines = Some 4;
      operands = 1 ∷ 2 ∷ 3 ∷ [];
      region = (5 ∷ 6 ∷ []) ∷ (7 ∷ 5 ∷ 3 ∷ []) ∷ (8 ∷ 7 ∷ 6 ∷ []) ∷ (8 ∷ []) ∷ [];
    }
    ∷ plain (Some 9) (4 ∷ 4 ∷ [])
    ∷ record {
      defines = Some 10;
      operands = 9 ∷ 0 ∷ [];
      region = (11 ∷ 12 ∷ []) ∷ (13 ∷ 12 ∷ 11 ∷ []) ∷ (13 ∷ []) ∷ [];
    }
    ∷ record {
      defines = Some 14;
      operands = 9 ∷ 10 ∷ [];
      region = (15 ∷ 16 ∷ []) ∷ (17 ∷ 16 ∷ 15 ∷ []) ∷ (17 ∷ []) ∷ [];
    }
    ∷ plain None (14 ∷ [])
    ∷ []

names_resolved : numbered_ops (part_of shadowing) ≡ shadowed
unfolding shadowing plain shadowed made the_table the_choices the_rows class_of first_class words signs dims bangs hashes former_words former_bangs is_blank is_letter is_digit is_name_byte is_value_byte is_string_byte is_line_byte
names_resolved = refl

-- ## Literals

literals : List ℕ
literals = lines (
    "func.func @f() {"
    ∷ "  %0 = arith.constant dense<[2147483647, -1]> : tensor<2xi32>"
    ∷ "  %1 = arith.constant dense<[[1, 2], [3, 4]]> : tensor<2x2xi8>"
    ∷ "  %2 = arith.constant dense<[[7, 7], [7, 7]]> : tensor<2x2xi8>"
    ∷ "  %3 = arith.constant dense<[[1, 2], [3]]> : tensor<2x2xi8>"
    ∷ "  %4 = arith.constant dense<[[1], [2]]> : tensor<2x2xi8>"
    ∷ "  %5 = arith.constant dense<255> : tensor<4xi8>"
    ∷ "  %6 = arith.constant dense<256> : tensor<4xi8>"
    ∷ "  %7 = arith.constant dense<-128> : tensor<4xi8>"
    ∷ "  %8 = arith.constant dense<-129> : tensor<4xi8>"
    ∷ "  %9 = arith.constant dense<300> : tensor<0xi8>"
    ∷ "  %10 = arith.constant dense<3> : tensor<0xi8>"
    ∷ "  %11 = arith.constant dense<[]> : tensor<0x3xi8>"
    ∷ "  %12 = arith.constant dense<[[], []]> : tensor<2x0xi8>"
    ∷ "  %13 = arith.constant dense<> : tensor<0xi32>"
    ∷ "  %14 = arith.constant dense<> : tensor<1xi32>"
    ∷ "  %15 = arith.constant dense<true> : tensor<4xi1>"
    ∷ "  %16 = arith.constant dense<true> : tensor<4xi8>"
    ∷ "  %17 = arith.constant dense<5> : i8"
    ∷ "  %18 = arith.constant dense<\"0x01000000FFFFFFFF\"> : tensor<2xi32>"
    ∷ "  %19 = arith.constant dense<\"0x0100\"> : tensor<2xi16>"
    ∷ "  %20 = arith.constant dense<\"0x01\"> : tensor<2xi16>"
    ∷ "  %21 = arith.constant dense<\"0x01\"> : tensor<2xi1>"
    ∷ "  %22 = arith.constant dense<[1, 2]> : tensor<?xi8>"
    ∷ "  %23 = arith.constant dense<1> : tensor<?xi8>"
    ∷ "  %24 = arith.constant true"
    ∷ "  %25 = arith.constant false"
    ∷ "  %26 = arith.constant -1 : i32"
    ∷ "  %27 = arith.constant 2 : i1"
    ∷ "  return"
    ∷ "}" ∷ [])

contents : List Contents
contents =
    Held (Val 2147483647 ∷ Val 4294967295 ∷ [])
    ∷ Held (Val 1 ∷ Val 2 ∷ Val 3 ∷ Val 4 ∷ [])
    ∷ Held (Val 7 ∷ [])
    ∷ Broken
    ∷ Broken
    ∷ Held (Val 255 ∷ [])
    ∷ Broken
    ∷ Held (Val 128 ∷ [])
    ∷ Broken
    ∷ Broken
    ∷ Held []
    ∷ Held []
    ∷ Held []
    ∷ Held []
    ∷ Broken
    ∷ Held (Val 1 ∷ [])
    ∷ Broken
    ∷ Broken
    ∷ Held (Val 1 ∷ Val 4294967295 ∷ [])
    ∷ Held (Val 1 ∷ [])
    ∷ Broken
    ∷ Broken
    ∷ Broken
    ∷ Held (Val 1 ∷ [])
    ∷ Held (Val 1 ∷ [])
    ∷ Held (Val 0 ∷ [])
    ∷ Held (Val 4294967295 ∷ [])
    ∷ Broken ∷ []

literals_held : literals_in (part_of literals) ≡ contents
unfolding literals contents made the_table the_choices the_rows class_of first_class words signs dims bangs hashes former_words former_bangs is_blank is_letter is_digit is_name_byte is_value_byte is_string_byte is_line_byte
literals_held = refl

-- ## Rules on names

alias_twice : List ℕ
alias_twice = lines (
    "#m = affine_map<(a) -> (a)>"
    ∷ "#m = affine_map<(b) -> (b)>" ∷ [])

alias_twice_kept : keeps_names alias_twice ≡ false
unfolding alias_twice made the_table the_choices the_rows class_of first_class words signs dims bangs hashes former_words former_bangs is_blank is_letter is_digit is_name_byte is_value_byte is_string_byte is_line_byte
alias_twice_kept = refl

alias_once : List ℕ
alias_once = lines (
    "#m = affine_map<(a) -> (a)>"
    ∷ "#n = affine_map<(b) -> (b)>" ∷ [])

alias_once_kept : keeps_names alias_once ≡ true
unfolding alias_once made the_table the_choices the_rows class_of first_class words signs dims bangs hashes former_words former_bangs is_blank is_letter is_digit is_name_byte is_value_byte is_string_byte is_line_byte
alias_once_kept = refl

alias_unknown : List ℕ
alias_unknown = lines (
    "#m = affine_map<(a) -> (a)>"
    ∷ "func.func @f(%o: tensor<i32>) {"
    ∷ "  %0 = linalg.generic {indexing_maps = [#n], iterator_types = []} outs(%o : tensor<i32>) {"
    ∷ "  ^bb0(%a: i32):"
    ∷ "    linalg.yield %a : i32"
    ∷ "  } -> tensor<i32>"
    ∷ "  return"
    ∷ "}" ∷ [])

alias_unknown_kept : keeps_names alias_unknown ≡ false
unfolding alias_unknown made the_table the_choices the_rows class_of first_class words signs dims bangs hashes former_words former_bangs is_blank is_letter is_digit is_name_byte is_value_byte is_string_byte is_line_byte
alias_unknown_kept = refl

device_of_it : List ℕ
device_of_it = lines (
    "shardrun.device @f on @g() -> ()"
    ∷ "func.func @f() {"
    ∷ "  return"
    ∷ "}"
    ∷ "func.func @h() {"
    ∷ "  return"
    ∷ "}" ∷ [])

device_of_it_kept : keeps_names device_of_it ≡ true
unfolding device_of_it made the_table the_choices the_rows class_of first_class words signs dims bangs hashes former_words former_bangs is_blank is_letter is_digit is_name_byte is_value_byte is_string_byte is_line_byte
device_of_it_kept = refl

device_of_another : List ℕ
device_of_another = lines (
    "func.func @h() {"
    ∷ "  return"
    ∷ "}"
    ∷ "shardrun.device @h on @g() -> ()"
    ∷ "func.func @f() {"
    ∷ "  return"
    ∷ "}" ∷ [])

device_of_another_kept : keeps_names device_of_another ≡ false
unfolding device_of_another made the_table the_choices the_rows class_of first_class words signs dims bangs hashes former_words former_bangs is_blank is_letter is_digit is_name_byte is_value_byte is_string_byte is_line_byte
device_of_another_kept = refl
