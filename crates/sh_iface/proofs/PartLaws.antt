-- Lists that are made one by one: local extents, and names.
use Rattle.std.proofs.Common.{◌≡◌, ℕ, ◌+◌, ◌<◌, ◌≤◌, List, [], ◌∷◌, ◌++◌, map, take, length, ap, sym, ◌∙◌, arith}
use Rattle.std.proofs.lemmas.List.{map-append, map-id, take_all, take_more}
use Rattle.std.proofs.lemmas.List.FromFn.{map-range_with_len_more}
use Rattle.std.specs.List.{range_with_len}
use Rattle.std.specs.Prelude.{get_or}
use Rattle.sh_base.specs.declared.numbers.Width.{Width}
use Rattle.sh_ir.specs.declared.types.Dim.{Dim}
use Rattle.sh_ir.specs.declared.types.ValueType.TheVariants.{Tensor}
use Rattle.sh_sharding.specs.declared.shardings.Dimension.{Dimension}
use Rattle.sh_sharding.specs.LocalTypes.{local_dim}
use Rattle.sh_sharding.specs.Sharding.{unsplit}
use Rattle.sh_iface.specs.Elements.{tensor_of}

module _ (g : List ℕ) (ds : List Dimension) (k : ℕ) (out : List Dim) where
  pub local_dims_more : (n : Dim) → out ≡ map (local_dim g) (take k ds) → k < length ds → n ≡ local_dim g (get_or ds k (unsplit 0)) → out ++ n ∷ [] ≡ map (local_dim g) (take (k + 1) ds)
  local_dims_more n e within f =
      ap (λ xs. xs ++ n ∷ []) e
      ∙ ap (λ x. map (local_dim g) (take k ds) ++ x ∷ []) f
      ∙ sym (ap (map (local_dim g)) (take_more ds k (unsplit 0) within) ∙ map-append (local_dim g) (take k ds) (get_or ds k (unsplit 0) ∷ []))

  pub local_dims_end : (w : Width) → out ≡ map (local_dim g) (take k ds) → length ds ≤ k → Tensor (record { dims = out; width = w }) ≡ tensor_of (map (local_dim g) ds) w
  local_dims_end w e all = ap (λ xs. tensor_of xs w) (e ∙ ap (map (local_dim g)) (take_all k ds all))

pub names_more : (k n : ℕ) (out : List ℕ) → out ≡ range_with_len 0 k → n ≡ k → out ++ n ∷ [] ≡ range_with_len 0 (k + 1)
names_more k n out e f =
    ap (λ xs. xs ++ n ∷ []) (e ∙ sym (map-id (range_with_len 0 k)))
    ∙ ap (λ x. map (λ i. i) (range_with_len 0 k) ++ x ∷ []) f
    ∙ sym (map-range_with_len_more (λ i. i) 0 k k (omega arith))
    ∙ map-id (range_with_len 0 (k + 1))
