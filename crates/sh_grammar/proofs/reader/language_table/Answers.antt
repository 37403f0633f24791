use Rattle.sh_grammar.proofs.Served.{starts_rise, firsts_rise, rows_rise, symbols_short}
use Rattle.sh_grammar.proofs.reader.language_table.Goals as goal

pub invariant_of-result : goal.invariant_of-result
invariant_of-result c = record {
  starts_rise = rw (c.symbols.ensures, c.starts.ensures) starts_rise;
  firsts_rise = rw (c.starts.ensures, c.firsts.ensures) firsts_rise;
  rows_rise = rw (c.choices.ensures, c.rows.ensures) rows_rise;
  short = rw c.symbols.ensures symbols_short;
}
