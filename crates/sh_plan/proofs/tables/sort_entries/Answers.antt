use Rattle.std.proofs.Common.{◌≡◌, rules}
use Rattle.std.proofs.lemmas.Fn.{always_returns_same}
use Rattle.std.proofs.lemmas.List.Sorted.{ranks_by}
use Rattle.std.specs.Ordering.{is_lt}
use Rattle.sh_sharding.proofs.OrderLaws.{total_order}
use Rattle.sh_plan.specs.declared.plans.Distance.{Distance}
use Rattle.sh_plan.specs.Tables.{dimensions_on, is_before}
use Rattle.sh_plan.proofs.tables.sort_entries.Goals as goal

pub returns-clause-sorted : goal.returns-clause-sorted
returns-clause-sorted c =
    c.in_ok-sort_by.ensures.sorted (is_before c.args.g.now.extents)
    (ranks_by (total_order c.args.g.now.extents) (λ (e : Distance). dimensions_on c.args.g.now.extents e.sharding))
    (always_returns_same _ (λ a r. is_lt r ≡ is_before c.args.g.now.extents a.0.now a.1.0.now) _ (λ a r f' called. search rules))
