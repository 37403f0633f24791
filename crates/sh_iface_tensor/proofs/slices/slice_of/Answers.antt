use Rattle.std.proofs.Common.{subst, sym}
use Rattle.sh_iface_tensor.proofs.SliceOf.{IsSliceFound, extraction_of, insertion_of}
use Rattle.sh_iface_tensor.proofs.slices.slice_of.Goals as goal
use Rattle.sh_iface_tensor.proofs.slices.slice_of.Goals.{in-ExtractSlice, in-InsertSlice}

pub invariant_of-result : goal.invariant_of-result
invariant_of-result c = record {
  read = elim c.match-op.branch [
    | in-ExtractSlice w ↦ (subst (λ q. IsSliceFound c.args.op.now q.0 q.1.now q.2.now c.width_of.result c.args.op.now.place) (sym w.kind-is)
        (extraction_of c.args.op.now w.in-ExtractSlice.x w.dims_of.result.now c.width_of.result w.in-ExtractSlice.is c.requires w.dims_of.ensures c.width_of.ensures)).read
    | in-InsertSlice w ↦ (subst (λ q. IsSliceFound c.args.op.now q.0 q.1.now q.2.now c.width_of.result c.args.op.now.place) (sym w.kind-is)
        (insertion_of c.args.op.now w.in-InsertSlice.x w.dims_of-in-InsertSlice.result.now c.width_of.result w.in-InsertSlice.is c.requires w.dims_of-in-InsertSlice.ensures c.width_of.ensures)).read
  ];
}

pub returns : goal.returns
returns c = elim c.match-op.branch [
  | in-ExtractSlice w ↦ (subst (λ q. IsSliceFound c.args.op.now q.0 q.1.now q.2.now c.width_of.result c.args.op.now.place) (sym w.kind-is)
      (extraction_of c.args.op.now w.in-ExtractSlice.x w.dims_of.result.now c.width_of.result w.in-ExtractSlice.is c.requires w.dims_of.ensures c.width_of.ensures)).interface
  | in-InsertSlice w ↦ (subst (λ q. IsSliceFound c.args.op.now q.0 q.1.now q.2.now c.width_of.result c.args.op.now.place) (sym w.kind-is)
      (insertion_of c.args.op.now w.in-InsertSlice.x w.dims_of-in-InsertSlice.result.now c.width_of.result w.in-InsertSlice.is c.requires w.dims_of-in-InsertSlice.ensures c.width_of.ensures)).interface
]
