-- Lists without some of their repetitions.
use Rattle.std.proofs.Common.{◌≡◌, ℕ, ◌+◌, ◌≤◌, length, map, take, arith, List, [], ◌∷◌, ◌++◌, ap, sym, ◌∙◌, subst, append_assoc}
use Rattle.std.proofs.lemmas.List.{append-nil, take_all}
use Rattle.std.specs.List.{Contains, flat_map, range_with_len}
use Rattle.std.specs.Prelude.{Option, None}
use Rattle.sh_iface.specs.declared.options.Split.{Split}
use Rattle.std.proofs.lemmas.List.FromFn.{map-range_with_len_more}
use Rattle.sh_tensor.proofs.RunLaws.{rows-more}
use Rattle.sh_iface.specs.LoopNest.{LoopNest}
use Rattle.sh_choose.specs.declared.chosen.Known.{Known}
use Rattle.sh_choose.specs.Proposals.{listed, proposal_for, proposals, proposals_by}
use Rattle.sh_choose.specs.Thinned.{AreThinned, IsThinned, kept, left_out, nothing}

pub more_kept : {X : Type 0} (xs ys : List X) (x : X) → IsThinned xs ys → IsThinned (xs ++ x ∷ []) (ys ++ x ∷ [])
more_kept xs ys x h = kept x h

pub more_left : {X : Type 0} (xs ys : List X) (x : X) → Contains ys x → IsThinned xs ys → IsThinned (xs ++ x ∷ []) ys
more_left xs ys x c h = left_out x c h

pub none_listed : (all ys : List (Option Split)) (p : Option Split) → p ≡ None → IsThinned all ys → IsThinned (all ++ listed p) ys
none_listed all ys p e h = subst (λ q. IsThinned (all ++ listed q) ys) (sym e) (subst (λ zs. IsThinned zs ys) (sym (append-nil all)) h)

-- ---- proposals one after the other

rows_more : {X : Type 0} (f : ℕ → List X) (k : ℕ) → flat_map f (range_with_len 0 (k + 1)) ≡ flat_map f (range_with_len 0 k) ++ f k
rows_more f k = rows-more f k

pub more_dims : (f : ℕ → List (Option Split)) (k : ℕ) (all ys : List (Option Split)) → IsThinned ((all ++ flat_map f (range_with_len 0 k)) ++ f k) ys → IsThinned (all ++ flat_map f (range_with_len 0 (k + 1))) ys
more_dims f k all ys h =
    subst (λ zs. IsThinned zs ys) (append_assoc all (flat_map f (range_with_len 0 k)) (f k) ∙ sym (ap (λ zs. all ++ zs) (rows_more f k))) h

pub all_dims : (nest : LoopNest) (l : ℕ) (k : Known) (n : ℕ) (all ys : List (Option Split)) → n ≡ length k.sharding.dimensions → IsThinned (all ++ flat_map (λ dim. listed (proposal_for nest l k dim)) (range_with_len 0 n)) ys → IsThinned (all ++ proposals_by nest l k) ys
unfolding proposals_by
all_dims nest l k n all ys e h =
    subst (λ j. IsThinned (all ++ flat_map (λ dim. listed (proposal_for nest l k dim)) (range_with_len 0 j)) ys) e h

pub first_proposal : (ys : List (Option Split)) → ys ≡ None ∷ [] → IsThinned (None ∷ []) ys
first_proposal ys e = subst (IsThinned (None ∷ [])) (sym e) (kept {xs = []} {ys = []} None nothing)

pub all_known : (nest : LoopNest) (known : List Known) (l n : ℕ) (ys : List (Option Split)) → length known ≤ n → IsThinned (None ∷ flat_map (proposals_by nest l) (take n known)) ys → IsThinned (proposals nest known l) ys
unfolding proposals
all_known nest known l n ys le h =
    subst (λ zs. IsThinned (None ∷ flat_map (proposals_by nest l) zs) ys) (take_all n known le) h

are_more : {X : Type 0} (xss yss : List (List X)) (xs ys : List X) → AreThinned xss yss → IsThinned xs ys → AreThinned (xss ++ xs ∷ []) (yss ++ ys ∷ [])
are_more [] [] xs ys h k = (k, tt)
are_more [] (zs ∷ yss) xs ys h k = absurd h
are_more (zs ∷ xss) [] xs ys h k = absurd h
are_more (zs ∷ xss) (ws ∷ yss) xs ys h k = (h.0, are_more xss yss xs ys h.1 k)

pub more_loops : (f : ℕ → List (Option Split)) (l : ℕ) (yss : List (List (Option Split))) (ys : List (Option Split)) → AreThinned (map f (range_with_len 0 l)) yss → IsThinned (f l) ys → AreThinned (map f (range_with_len 0 (l + 1))) (yss ++ ys ∷ [])
more_loops f l yss ys h k =
    subst (λ xss. AreThinned xss (yss ++ ys ∷ [])) (sym (map-range_with_len_more f 0 l l (omega arith))) (are_more (map f (range_with_len 0 l)) yss (f l) ys h k)
