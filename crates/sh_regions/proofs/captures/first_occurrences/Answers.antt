use Rattle.std.proofs.Common.{◌≡◌, ◌+◌, [], ◌∷◌, ◌++◌, ap, sym, ◌∙◌, get_or, take}
use Rattle.std.proofs.lemmas.List.{take_more}
use Rattle.sh_ir.specs.Regions.{first_occurrences}
use Rattle.sh_regions.proofs.Once.{appended, once_more, stays}
use Rattle.sh_regions.proofs.captures.first_occurrences.Goals as goal
use Rattle.sh_regions.proofs.captures.first_occurrences.Goals.{then-branch+in_ok-push, else-branch}

pub loop-name-preserved : goal.loop-name-preserved
loop-name-preserved c =
    let keys = c.in_ok-insert.ensures.keys in
    let added = c.in_ok-insert.ensures.added in
    let all : c.insert.new.self.keys ≡ first_occurrences (take (c.loop-name.name-index + 1) c.args.names.now) =
    rw (take_more c.args.names.now c.loop-name.name-index 0 c.loop-name-test.true)
    (once_more (take c.loop-name.name-index c.args.names.now) c.loop-name.seen.keys c.loop-name.once.items _
    (get_or c.args.names.now c.loop-name.name-index 0) c.loop-name.invariant.side c.loop-name.invariant.once keys) in
    elim c.if-branch.branch [
      | then-branch+in_ok-push w ↦
          let side : c.insert.new.self.keys ≡ c.if-branch.once.items =
          keys ∙ appended c.loop-name.seen.keys (get_or c.args.names.now c.loop-name.name-index 0) (sym added ∙ w.if-branch.true)
          ∙ ap (λ names. names ++ get_or c.args.names.now c.loop-name.name-index 0 ∷ []) c.loop-name.invariant.side
          ∙ sym w.in_ok-push.ensures.items ∙ ap (λ once. once.items) (sym w.once-is) in
          record { side = side; once = sym side ∙ all }
      | else-branch w ↦
          let side : c.insert.new.self.keys ≡ c.if-branch.once.items =
          keys ∙ stays c.loop-name.seen.keys (get_or c.args.names.now c.loop-name.name-index 0) (sym added ∙ w.if-branch.false)
          ∙ c.loop-name.invariant.side ∙ ap (λ once. once.items) (sym w.once-is) in
          record { side = side; once = sym side ∙ all }
    ]
