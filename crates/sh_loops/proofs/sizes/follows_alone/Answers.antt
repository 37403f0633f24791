use Rattle.std.proofs.Common.{sym}
use Rattle.sh_loops.proofs.SizeLaws.{alone, not_alone}
use Rattle.sh_loops.proofs.sizes.follows_alone.Goals as goal

pub returns-then-loops-ne1 : goal.returns-then-loops-ne1
returns-then-loops-ne1 c = sym (not_alone c.args.loops.now c.args.l c.if-loops-ne1.true)

pub returns : goal.returns
returns c = sym (alone c.args.loops.now c.args.l _ c.if-loops-ne1.false)
