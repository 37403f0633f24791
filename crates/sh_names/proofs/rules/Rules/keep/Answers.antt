use Rattle.std.proofs.Common.{refl}
use Rattle.sh_names.proofs.Keeping.{alias_kept}
use Rattle.sh_names.proofs.rules.Rules.keep.Goals as goal

pub returns-in_ok-insert-in-NewAlias-clause-known : goal.returns-in_ok-insert-in-NewAlias-clause-known
returns-in_ok-insert-in-NewAlias-clause-known c =
    rw c.in-NewAlias.is (alias_kept c.args.self.now _ c.args.text c.args.scope refl c.in_ok-insert-in-NewAlias.ensures.keys)
