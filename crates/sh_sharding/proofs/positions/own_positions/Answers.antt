use Rattle.std.proofs.Common.{◌≡◌, ℕ, ◌+◌, ◌-◌, ◌*◌, ◌<◌, length, subst, sym, arith}
use Rattle.std.specs.List.{All}
use Rattle.sh_sharding.specs.Positions.{AreExtended, IsSmall}
use Rattle.sh_sharding.proofs.PositionLaws.{IsPositionStep, position_step, own_all, AreOwnFrom}
use Rattle.sh_sharding.proofs.positions.own_positions.Goals as goal
use Rattle.sh_sharding.proofs.positions.own_positions.Goals.{After-span-start}

-- the dimension before those that are done
abbrev dim_of : After-span-start → ℕ
dim_of c = c.rank-rank.result - 1 - c.loop-back.back

next_dim : (c : After-span-start) → c.rank-rank.result - c.loop-back.back ≡ dim_of c + 1
next_dim c =
    let lt = c.loop-back-test.true in
    omega arith

step : (c : After-span-start) → IsPositionStep c.args.g.now.extents c.args.device c.args.s.now.dimensions (dim_of c)
    c.loop-back.positions.items c.loop-back.stride c.dimension-d.result.now c.span-start.result.0 c.span-start.result.1
step c =
    let whole = c.rank-rank.ensures.value in
    let lt = c.loop-back-test.true in
    let there : dim_of c < length c.args.s.now.dimensions = omega arith in
    position_step c.args.s.now c.args.g.now c.args.device (dim_of c) (c.rank-rank.result - c.loop-back.back)
    c.loop-back.positions.items c.loop-back.stride c.dimension-d.result.now c.span-start.result.0 c.span-start.result.1
    c.rank-rank.ensures.admitted c.requires.grid c.requires.device there (next_dim c) c.dimension-d.ensures.value
    c.dimension-d.ensures.small c.span-start.ensures.start c.span-start.ensures.size c.loop-back.invariant

pub extended-requires-clause-small : goal.extended-requires-clause-small
extended-requires-clause-small c =
    subst (All IsSmall) (sym c.as_slice.ensures.value) (step (goal.at.extended-requires-clause-small c).After-span-start).small

pub extended-requires-clause-whole_few : goal.extended-requires-clause-whole_few
extended-requires-clause-whole_few c = (step (goal.at.extended-requires-clause-whole_few c).After-span-start).whole_few

pub extended-requires-clause-local_few : goal.extended-requires-clause-local_few
extended-requires-clause-local_few c = (step (goal.at.extended-requires-clause-local_few c).After-span-start).local_few

pub overflow_mul-stride : goal.overflow_mul-stride
overflow_mul-stride c =
    let few = (step (goal.at.overflow_mul-stride c).After-span-start).whole_next in
    omega arith

pub overflow_mul-stride-in-loop-back : goal.overflow_mul-stride-in-loop-back
overflow_mul-stride-in-loop-back c =
    let few = (step (goal.at.overflow_mul-stride-in-loop-back c).After-span-start).local_next in
    omega arith

pub loop-back-preserved : goal.loop-back-preserved
loop-back-preserved c =
    let here = (goal.at.loop-back-preserved c).After-span-start in
    let last : dim_of here ≡ c.rank-rank.result - (c.loop-back.back + 1) = omega arith in
    let ext = subst (λ z. AreExtended z c.loop-back.stride (record { whole = c.span-start.result.0; local = c.dimension-d.result.now.low }) c.span-start.result.1 c.in_ok-positions-2.positions.items) c.as_slice.ensures.value c.in_ok-positions-2.ensures in
    subst (λ k. AreOwnFrom c.args.g.now.extents c.args.device c.args.s.now.dimensions k c.in_ok-positions-2.positions.items (record { whole = c.dimension-d.result.now.extent * c.loop-back.stride.whole; local = (c.dimension-d.result.now.low + c.span-start.result.1 + c.dimension-d.result.now.high) * c.loop-back.stride.local })) last ((step here).next c.in_ok-positions-2.positions.items ext)

pub returns : goal.returns
returns c =
    let begin : c.rank-rank.result - c.loop-back.back ≡ 0 = omega (arith, c.loop-back-test.false) in
    own_all c.args.s.now c.args.g.now c.args.device (c.rank-rank.result - c.loop-back.back) c.loop-back.positions.items c.loop-back.stride c.requires.grid begin c.loop-back.invariant
