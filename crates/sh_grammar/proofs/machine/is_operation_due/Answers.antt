use Rattle.std.proofs.Common.{◌-◌, refl, sym, arith}
use Rattle.sh_grammar.specs.declared.symbols.Symbol.TheVariants.{Class}
use Rattle.sh_grammar.proofs.Due.{top_begins}
use Rattle.sh_grammar.proofs.machine.is_operation_due.Goals as goal

pub returns-in-Operation : goal.returns-in-Operation
returns-in-Operation g c =
    sym ((top_begins g.facts c.args.table.now.beginnings.now c.args.stack.now (c.loop-at.at - 1) c.loop-at.at c.in-Part.form (Class 0) _
    c.requires (omega arith) (omega arith) c.in-Part.is c.in-Operation.ensures c.loop-at.invariant.same).operation refl)

pub loop-at-preserved : goal.loop-at-preserved
loop-at-preserved g c = record {
  within = omega arith;
  same = (top_begins g.facts c.args.table.now.beginnings.now c.args.stack.now (c.loop-at.at - 1) c.loop-at.at c.in-Part.form (Class 0) _
      c.requires (omega arith) (omega arith) c.in-Part.is c.in-Empty.ensures c.loop-at.invariant.same).empty refl;
}

pub returns-in-Other : goal.returns-in-Other
returns-in-Other g c =
    sym ((top_begins g.facts c.args.table.now.beginnings.now c.args.stack.now (c.loop-at.at - 1) c.loop-at.at c.in-Part.form (Class 0) _
    c.requires (omega arith) (omega arith) c.in-Part.is c.in-Other.ensures c.loop-at.invariant.same).other refl)
