use Rattle.std.proofs.Common.{◌≡◌, ◌<◌, ◌+◌, Some, Option, List, ℕ, ap, ap₂, sym, ◌∙◌, arith, map, length, get_or, Bor}
use Rattle.std.specs.Prelude.{slice_get, option_map, Vec}
use Rattle.std.proofs.lemmas.List.{length-map}
use Rattle.std.proofs.lemmas.Option.{get_or_from_slice_get}
use Rattle.sh_ir.specs.declared.functions.Arg.{Arg}
use Rattle.sh_ir.specs.declared.operations.Op.{Op}
use Rattle.sh_pieces.specs.Instructions.{last_place}
use Rattle.sh_turns.specs.Program.{all_there}
use Rattle.sh_world.specs.Scripts.{names_until, with_place}
use Rattle.sh_world.proofs.PlaceLaws.{borrowed_at, length-names_until, names_until_more, no_places, placed_more, with_place_is}
use Rattle.sh_world.proofs.scripts.placed.Goals as goal
use Rattle.sh_world.proofs.scripts.placed.Goals.{In_ok-operands}

abbrev ids : In_ok-operands → List ℕ
ids c = map (λ (a : Arg). a.id) c.args.params.now

abbrev ops : In_ok-operands → List Op
ops c = map (λ (op : Bor Op). op.now) c.args.ops.now

-- the operation here
here : (c : In_ok-operands) → slice_get (ops c) c.loop-at.at ≡ Some c.index-ops-at.result.now
here c = borrowed_at c.args.ops.now c.loop-at.at c.index-ops-at.result c.loop-at-test.true ∙ ap (λ (o : Bor Op). Some o.now) (sym c.index-ops-at.is)

-- the places of its operands
places : (c : In_ok-operands) → option_map (λ f. f.items) c.in_ok-operands.field-0
    ≡ all_there (map (last_place (names_until (ids c) (ops c) c.loop-at.at)) c.index-ops-at.result.now.operands)
places c = c.in_ok-operands.ensures ∙ ap₂ (λ (f : ℕ → Option ℕ) (names : List ℕ). all_there (map f names)) c.loop-at.invariant.places c.as_slice.ensures

pub unreachable-requires : goal.unreachable-requires
unreachable-requires c =
    let d = (goal.at.unreachable-requires c).In_ok-operands in
    no_places (λ f. f.items) c.in_ok-operands.field-0 _ (places d) c.in_default.is (c.requires.known c.loop-at.at c.index-ops-at.result.now (here d))

pub loop-at-preserved : goal.loop-at-preserved
loop-at-preserved c =
    let d = (goal.at.loop-at-preserved c).In_ok-operands in
    let k = c.loop-at.at in
    let op = c.index-ops-at.result in
    let size : length (ops d) ≡ length c.args.ops.now = length-map c.args.ops.now (λ (op : Bor Op). op.now) in
    let lt : k < length (ops d) = omega (arith, size, c.loop-at-test.true) in
    let found : Some c.in-Some.operands.items ≡ all_there (map (last_place (names_until (ids d) (ops d) k)) op.now.operands) =
    ap (option_map (λ (f : Vec ℕ _). f.items)) (sym c.in-Some.is) ∙ places d in
    let is : op.now ≡ get_or (ops d) k op.now = sym (get_or_from_slice_get (ops d) k op.now op.now (here d)) in
    let place : c.in_ok-place.place ≡ length c.args.params.now + k = (rw c.in_ok-place.ensures.ok_part at c.checked_add.ensures).1 in
    record {
      places =
          c.in_ok-define.ensures ∙ ap (with_place op.now.defines c.in_ok-place.place) c.loop-at.invariant.places
          ∙ with_place_is (names_until (ids d) (ops d) k) op.now.defines c.in_ok-place.place
          (omega (arith, place, length-names_until (ids d) (ops d) k (omega (arith, lt)), length-map c.args.params.now (λ (a : Arg). a.id)))
          ∙ ap last_place (sym (names_until_more (ids d) (ops d) k op.now op.now lt is));
      placed = rw c.in_ok-push.ensures.items (placed_more (ids d) (ops d) k c.loop-at.found.items _ c.loop-at.invariant.placed (record { op = here d; places = sym found }));
    }
