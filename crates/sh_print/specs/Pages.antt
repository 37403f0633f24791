-- A text as the printer holds it, and as it goes on piece by piece.
use Rattle.std.specs.Prelude.{ℕ, ◌-◌, false, List, [], ◌++◌, length, take, fold, codes}
use Rattle.sh_print.specs.Layout.{Piece, behind_token, gap_behind, joins, opens_list}
use Rattle.sh_print.specs.Layout.Piece.{apart, closing, line_end, opening, token}
use Rattle.sh_print.specs.declared.behind.Behind.{Behind}
use Rattle.sh_print.specs.declared.behind.Behind.TheVariants.{LineStart, Joint, Other}

-- A text as far as it is written.
pub record Page : Type 0 where
  pub text : List ℕ
  pub indentation : List ℕ  -- two blanks for each open brace
  pub behind : Behind  -- what the next token stands behind

-- the page with one piece more
unfoldable pub put : Page → Piece → Page
put page (token kind text) = record {
  text =
      page.text
      ++ gap_behind page.behind page.indentation (joins kind text) (opens_list kind text) ++ text;
  indentation = page.indentation;
  behind = behind_token kind text;
}
put page apart = record {
  text = page.text ++ codes " <";
  indentation = page.indentation;
  behind = Joint;
}
put page opening = record {
  text = page.text ++ gap_behind page.behind page.indentation false false ++ codes "{\n";
  indentation = page.indentation ++ codes "  ";
  behind = LineStart;
}
put page closing = let outer = take (length page.indentation - 2) page.indentation in record {
  text = page.text ++ outer ++ codes "}";
  indentation = outer;
  behind = Other;
}
put page line_end = record {
  text = page.text ++ codes "\n";
  indentation = page.indentation;
  behind = LineStart;
}

-- the page with these pieces more
abbrev pub written : Page → List Piece → Page
written = fold put

abbrev pub empty_page : Page
empty_page = record { text = []; indentation = []; behind = LineStart }
