-- What the rules on names know, as mentions are added.
use Rattle.std.proofs.Common.{◌≡◌, ℕ, List, [], ◌∷◌, ◌++◌, Bool, true, false, ◌||◌, refl, sym, ◌∙◌, ap, true≢false, if◌then◌else◌, Bor}
use Rattle.std.specs.Prelude.{Option}
use Rattle.std.specs.List.{list_any}
use Rattle.std.proofs.lemmas.List.Folds.{list_any-append}
use Rattle.indexmap.specs.IndexSet.{insert_key}
use Rattle.sh_names.specs.Names.{Mention, Scope, new_alias, same_text}
use Rattle.sh_names.specs.Tables.{AreKept, device_in, fits_by, mention}
use Rattle.sh_names.specs.declared.rules.Rules.{Rules}
use Rattle.sh_names.proofs.Owned.{text_self, texts_equal}

flipped : (a b : List ℕ) (x y : Bool) → same_text a b ≡ x → same_text b a ≡ y → x ≡ y
flipped a b true true e f = refl
flipped a b false false e f = refl
flipped a b true false e f =
    let same : a ≡ b = texts_equal a b e in
    absurd (true≢false (sym (text_self b) ∙ ap (λ z. same_text b z) (sym same) ∙ f))
flipped a b false true e f =
    let same : b ≡ a = texts_equal b a f in
    absurd (true≢false (sym (text_self a) ∙ ap (λ z. same_text a z) (sym same) ∙ e))

pub text_either : (a b : List ℕ) → same_text a b ≡ same_text b a
text_either a b = flipped a b (same_text a b) (same_text b a) refl refl

or_either : (a b : Bool) → (a || (b || false)) ≡ (b || a)
or_either true true = refl
or_either true false = refl
or_either false true = refl
or_either false false = refl

or_there : (a b : Bool) → (a ≡ true → b ≡ true) → b ≡ (a || b)
or_there true b there = there refl
or_there false b there = refl

alias_step : (found : Bool) (text : List ℕ) (k : Bor (List ℕ)) (ks : List (Bor (List ℕ)))
    → list_any (λ l. same_text k.now l.now) ks ≡ found
    → list_any (λ l. same_text text l.now) (if found then ks else ks ++ k ∷ [])
    ≡ (same_text k.now text || list_any (λ l. same_text text l.now) ks)
alias_step true text k ks e =
    or_there (same_text k.now text) (list_any (λ l. same_text text l.now) ks)
    (λ same. ap (λ t. list_any (λ l. same_text t l.now) ks) (sym (texts_equal k.now text same)) ∙ e)
alias_step false text k ks e =
    list_any-append (λ l. same_text text l.now) ks (k ∷ [])
    ∙ or_either (list_any (λ l. same_text text l.now) ks) (same_text text k.now)
    ∙ ap (λ b. b || list_any (λ l. same_text text l.now) ks) (text_either text k.now)

pub alias_kept : (r s : Rules) (k : Bor (List ℕ)) (scope : Scope) → s.device ≡ r.device
    → s.aliases.keys ≡ insert_key (λ a b. same_text a.now b.now) r.aliases.keys k
    → (before : List Mention) → AreKept r before → AreKept s (mention new_alias k.now scope ∷ before)
alias_kept r s k scope device keys before kept = record {
  aliases = λ text.
      ap (list_any (λ l. same_text text l.now)) keys
      ∙ alias_step (list_any (λ l. same_text k.now l.now) r.aliases.keys) text k r.aliases.keys refl
      ∙ ap (λ b. same_text k.now text || b) (kept.aliases text);
  device = λ text. ap (λ d. fits_by d text) (ap (λ d. device_of d) device) ∙ kept.device text;
}
  where
    device_of : Option (Bor (List ℕ)) → Option (List ℕ)
    device_of d = device_in (record r { device = d })
