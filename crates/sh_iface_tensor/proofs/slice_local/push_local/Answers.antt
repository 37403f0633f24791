use Rattle.std.proofs.Common.{◌≡◌, ◌∙◌, ◌++◌, ◌∷◌, [], Some, ap, subst}
use Rattle.std.specs.List.{range_with_len}
use Rattle.std.specs.Result.{OnOk}
use Rattle.sh_ir.specs.declared.operations.Op.{Op}
use Rattle.sh_iface_tensor.proofs.slice_local.push_local.Goals as goal

pub returns : goal.returns
returns c =
    let count = c.operand_count-count.ensures in
    let names = c.in_ok-names.ensures ∙ ap (range_with_len 0) count in
    subst (λ (op : Op). OnOk c.push_op.result (c.push_op.new.ops ≡ c.args.ops.now ++ op ∷ []))
    (λ j. record {
      kind = c.in_ok-kind.ensures j;
      operands = names j;
      defines = Some (count j);
      result = c.in_ok-local.ensures j;
      place = c.args.x.now.place;
    }) c.push_op.ensures.ok
