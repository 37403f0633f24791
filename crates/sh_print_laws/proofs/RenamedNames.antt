-- Names by their positions are the same where ids are renamed apart.
use Rattle.std.proofs.Common.{◌≡◌, ◌∙◌, inl, inr, ◌<◌, ◌-◌, ℕ, suc, nat_eq, nat_lt, List, [], ◌∷◌, ◌++◌, get_or, map, take, drop, length, Option, Some, None, refl, ap, sym, subst, arith, zero, if◌then◌else◌}
use Rattle.std.specs.Prelude.{flat_map, fold, option_map, option_to_list, position}
use Rattle.std.specs.List.{AllByRecursion, position_or_len}
use Rattle.std.proofs.lemmas.Bool.{cases_Bool}
use Rattle.std.proofs.lemmas.List.{map-append}
use Rattle.std.proofs.lemmas.Simd.{map-map}
use Rattle.sh_alike.specs.Renamed.{renamed_arg, renamed_body, renamed_body_op, renamed_func, renamed_op}
use Rattle.sh_ir.specs.Regions.{is_among, own_names}
use Rattle.sh_ir.specs.declared.bodies.Body.{Body}
use Rattle.sh_ir.specs.declared.functions.Func.{Func}
use Rattle.sh_ir.specs.declared.operations.Op.{Op}
use Rattle.sh_print.specs.Tokens.{scope_of, scope_of_body}
use Rattle.sh_print.specs.Values.{Scope, each_once, name_at, name_in, name_inside, own_name_at, place_in}
use Rattle.sh_print.specs.declared.names.Name.{Name}
use Rattle.sh_print.specs.declared.names.Name.TheVariants.{Argument, Value, BlockArgument, BodyValue}
use Rattle.sh_print_laws.specs.Printable.{names_defined}
use Rattle.sh_print_laws.proofs.Captures.{among_renamed, eq_renamed}
use Rattle.sh_print_laws.proofs.Positions.{once_more}

mapped_length : {X Y : Type 0} (f : X → Y) (xs : List X) → length (map f xs) ≡ length xs
mapped_length f [] = refl
mapped_length f (x ∷ xs) = ap suc (mapped_length f xs)

module _ (r : ℕ → ℕ) (Used : ℕ → Type 0) (apart : (a b : ℕ) → Used a → Used b → r a ≡ r b → a ≡ b) where
  abbrev AreUsed : List ℕ → Type 0
  AreUsed xs = AllByRecursion Used xs

  used_more : (xs : List ℕ) (a : ℕ) → AreUsed xs → Used a → AreUsed (xs ++ a ∷ [])
  used_more [] a h u = (u, tt)
  used_more (x ∷ xs) a h u = (h.0, used_more xs a h.1 u)

  once_renamed : (names : List ℕ) (x : ℕ) → AreUsed names → Used x → once_more (map r names) (r x) ≡ map r (once_more names x)
  once_renamed names x h u = elim (cases_Bool (is_among names x)) [
    | inl e ↦ rw (among_renamed r Used apart names x h u, e) refl
    | inr e ↦ rw (among_renamed r Used apart names x h u, e) (sym (map-append r names (x ∷ [])))
  ]

  once_used : (names : List ℕ) (x : ℕ) → AreUsed names → Used x → AreUsed (once_more names x)
  once_used names x h u = elim (cases_Bool (is_among names x)) [
    | inl e ↦ subst (λ b. AreUsed (if b then names else names ++ x ∷ [])) (sym e) h
    | inr e ↦ subst (λ b. AreUsed (if b then names else names ++ x ∷ [])) (sym e) (used_more names x h u)
  ]

  fold_renamed : (names ids : List ℕ) → AreUsed names → AreUsed ids → fold once_more (map r names) (map r ids) ≡ map r (fold once_more names ids)
  fold_renamed names [] h g = refl
  fold_renamed names (x ∷ xs) h g =
      ap (λ ys. fold once_more ys (map r xs)) (once_renamed names x h g.0) ∙ fold_renamed (once_more names x) xs (once_used names x h g.0) g.1

  fold_used : (names ids : List ℕ) → AreUsed names → AreUsed ids → AreUsed (fold once_more names ids)
  fold_used names [] h g = h
  fold_used names (x ∷ xs) h g = fold_used (once_more names x) xs (once_used names x h g.0) g.1

  place_renamed : (xs : List ℕ) (a : ℕ) → AreUsed xs → Used a → position_or_len (nat_eq (r a)) (map r xs) ≡ position_or_len (nat_eq a) xs
  place_renamed [] a h u = refl
  place_renamed (x ∷ xs) a h u = rw (eq_renamed r Used apart a x u h.0, place_renamed xs a h.1 u) refl

  position_renamed : (xs : List ℕ) (a : ℕ) → AreUsed xs → Used a → position (nat_eq (r a)) (map r xs) ≡ position (nat_eq a) xs
  position_renamed xs a h u = rw (place_renamed xs a h u, mapped_length r xs) refl

  -- Scopes in which the same positions have the same names.
  pub record AreRenamed (s t : Scope) : Type 0 where
    pub ids : t.ids ≡ map r s.ids
    pub arguments : t.arguments ≡ s.arguments
    pub used : AreUsed s.ids

  at_same : (s t : Scope) → t.arguments ≡ s.arguments → (o : Option ℕ) → name_at t o ≡ name_at s o
  at_same s t e None = refl
  at_same s t e (Some at) = ap (λ k. if nat_lt at k then Argument at else Value (at - k)) e

  own_at_same : (s t : Scope) → t.arguments ≡ s.arguments → (o : Option ℕ) (n : Name) → own_name_at t o n ≡ own_name_at s o n
  own_at_same s t e None n = refl
  own_at_same s t e (Some at) n = ap (λ k. if nat_lt at k then BlockArgument at else BodyValue (at - k)) e

  pub name_same : (s t : Scope) → AreRenamed s t → (a : ℕ) → Used a → name_in t (r a) ≡ name_in s a
  name_same s t h a u =
      ap (λ xs. name_at t (position (nat_eq (r a)) xs)) h.ids ∙ ap (name_at t) (position_renamed s.ids a h.used u) ∙ at_same s t h.arguments (place_in s a)

  pub inside_same : (own own' s t : Scope) → AreRenamed own own' → AreRenamed s t → (a : ℕ) → Used a → name_inside own' t (r a) ≡ name_inside own s a
  inside_same own own' s t k h a u =
      ap (λ xs. own_name_at own' (position (nat_eq (r a)) xs) (name_in t (r a))) k.ids ∙ ap (λ o. own_name_at own' o (name_in t (r a))) (position_renamed own.ids a k.used u)
      ∙ own_at_same own own' k.arguments (place_in own a) (name_in t (r a)) ∙ ap (own_name_at own (place_in own a)) (name_same s t h a u)

  defines_renamed : (ops : List Op) → flat_map (λ op. option_to_list op.defines) (map (renamed_op r) ops) ≡ map r (flat_map (λ op. option_to_list op.defines) ops)
  defines_renamed [] = refl
  defines_renamed (x ∷ ops) =
      ap (λ ys. option_to_list (option_map r x.defines) ++ ys) (defines_renamed ops) ∙ ap (λ ys. ys ++ map r (flat_map (λ op. option_to_list op.defines) ops)) (one x.defines)
      ∙ sym (map-append r (option_to_list x.defines) (flat_map (λ op. option_to_list op.defines) ops))
    where
      one : (o : Option ℕ) → option_to_list (option_map r o) ≡ map r (option_to_list o)
      one None = refl
      one (Some id) = refl

  pub func_scopes : (f : Func) → AreUsed (names_defined f) → AreRenamed (scope_of f) (scope_of (renamed_func r f))
  func_scopes f h =
      let args : map (λ arg. arg.id) (map (renamed_arg r) f.args) ≡ map r (map (λ arg. arg.id) f.args) = map-map (λ arg. arg.id) (renamed_arg r) f.args ∙ sym (map-map r (λ arg. arg.id) f.args) in
      let names : names_defined (renamed_func r f) ≡ map r (names_defined f) =
      ap (λ xs. xs ++ flat_map (λ op. option_to_list op.defines) (map (renamed_op r) f.ops)) args ∙ ap (λ ys. map r (map (λ arg. arg.id) f.args) ++ ys) (defines_renamed f.ops)
      ∙ sym (map-append r (map (λ arg. arg.id) f.args) (flat_map (λ op. option_to_list op.defines) f.ops)) in
      record {
        ids = ap each_once names ∙ fold_renamed [] (names_defined f) tt h;
        arguments = mapped_length (renamed_arg r) f.args;
        used = fold_used [] (names_defined f) tt h;
      }

  pub body_scopes : (body : Body) → AreUsed (own_names body) → AreRenamed (scope_of_body body) (scope_of_body (renamed_body r body))
  body_scopes body h =
      let ds : map (λ op. op.defines) (map (renamed_body_op r) body.ops) ≡ map r (map (λ op. op.defines) body.ops) = map-map (λ op. op.defines) (renamed_body_op r) body.ops ∙ sym (map-map r (λ op. op.defines) body.ops) in
      let names : own_names (renamed_body r body) ≡ map r (own_names body) = ap (λ ys. map r body.args ++ ys) ds ∙ sym (map-append r body.args (map (λ op. op.defines) body.ops)) in
      record {
        ids = ap each_once names ∙ fold_renamed [] (own_names body) tt h;
        arguments = mapped_length r body.args;
        used = fold_used [] (own_names body) tt h;
      }

  -- ## Lists of names

  -- these names are the same
  abbrev pub SameNames : (ℕ → Name) → (ℕ → Name) → List ℕ → Type 0
  SameNames before after xs = AllByRecursion (λ a. after (r a) ≡ before a) xs

  pub nth_same : (before after : ℕ → Name) (xs : List ℕ) (i : ℕ) → SameNames before after xs → i < length xs → after (get_or (map r xs) i 0) ≡ before (get_or xs i 0)
  nth_same before after [] i h less = absurd (omega arith)
  nth_same before after (x ∷ xs) zero h less = h.0
  nth_same before after (x ∷ xs) (suc i) h less = nth_same before after xs i h.1 (omega arith)

  pub first_same : (before after : ℕ → Name) (n : ℕ) (xs : List ℕ) → SameNames before after xs → SameNames before after (take n xs)
  first_same before after zero xs h = tt
  first_same before after (suc n) [] h = tt
  first_same before after (suc n) (x ∷ xs) h = (h.0, first_same before after n xs h.1)

  pub rest_same : (before after : ℕ → Name) (n : ℕ) (xs : List ℕ) → SameNames before after xs → SameNames before after (drop n xs)
  rest_same before after zero xs h = h
  rest_same before after (suc n) [] h = tt
  rest_same before after (suc n) (x ∷ xs) h = rest_same before after n xs h.1

  pub take_mapped : (n : ℕ) (xs : List ℕ) → take n (map r xs) ≡ map r (take n xs)
  take_mapped zero xs = refl
  take_mapped (suc n) [] = refl
  take_mapped (suc n) (x ∷ xs) = ap (λ ys. r x ∷ ys) (take_mapped n xs)

  pub drop_mapped : (n : ℕ) (xs : List ℕ) → drop n (map r xs) ≡ map r (drop n xs)
  drop_mapped zero xs = refl
  drop_mapped (suc n) [] = refl
  drop_mapped (suc n) (x ∷ xs) = drop_mapped n xs
