-- Where the forms of a reading begin, by counting tokens.
use Rattle.std.proofs.Common.{◌≡◌, ◌∙◌, ◌+◌, ℕ, suc, List, [], ◌∷◌, length, refl, ap, arith, length-append}
use Rattle.sh_grammar.specs.Grammar.{Trees, tokens}
use Rattle.sh_grammar.specs.Grammar.Trees.{form, nothing, token}
use Rattle.sh_grammar.specs.Lexemes.{Lexeme}
use Rattle.sh_grammar.specs.declared.forms.Form.{Form}
use Rattle.sh_build.specs.declared.parts.Part.{Part}
use Rattle.sh_print.specs.Layout.{Piece}
use Rattle.sh_print.specs.Layout.Piece.{apart as piece_apart, closing as piece_closing, line_end as piece_line_end, opening as piece_opening, token as piece_token}
use Rattle.sh_print_laws.specs.TokensOf.{AreTokensOf}
use Rattle.sh_print_laws.specs.TokensOf.AreTokensOf.{none, a_token, an_apart, an_opening, a_closing, a_line_end}
use Rattle.sh_print_laws.proofs.Rows.{FormTo}
use Rattle.sh_print_laws.proofs.Walks.{State, enter, past, step}

-- how many tokens these pieces are
abbrev pub token_count : List Piece → ℕ
token_count [] = 0
token_count (piece_token k x ∷ ps) = suc (token_count ps)
token_count (piece_apart ∷ ps) = suc (token_count ps)
token_count (piece_opening ∷ ps) = suc (token_count ps)
token_count (piece_closing ∷ ps) = suc (token_count ps)
token_count (piece_line_end ∷ ps) = token_count ps

as_many : (ps : List Piece) (ts : List Lexeme) → AreTokensOf ps ts → length ts ≡ token_count ps
as_many [] _ none = refl
as_many (piece_token k x ∷ ps) _ (a_token {ts = ts} more) = ap suc (as_many ps ts more)
as_many (piece_apart ∷ ps) _ (an_apart {ts = ts} more) = ap suc (as_many ps ts more)
as_many (piece_opening ∷ ps) _ (an_opening {ts = ts} more) = ap suc (as_many ps ts more)
as_many (piece_closing ∷ ps) _ (a_closing {ts = ts} more) = ap suc (as_many ps ts more)
as_many (piece_line_end ∷ ps) _ (a_line_end {ts = ts} more) = as_many ps ts more

past_count : (f : Trees) (σ : State) → (past σ f).count ≡ σ.count + length (tokens f)
past_count nothing σ = omega arith
past_count (token t after) σ = let rest = past_count after (step t σ) in omega arith
past_count (form n i below after) σ =
    let inner = past_count below (enter n σ) in
    let rest = past_count after (past (enter n σ) below) in
    let all = length-append (tokens below) (tokens after) in omega arith

-- the form, begun at this token
pub form_counted : {num : State → Lexeme → ℕ} {From To : State → Type 0} {n : Form} {ps : List Piece} {P : Part → Type 0} (k : ℕ)
    → FormTo num From To n ps P → FormTo num (λ σ. From σ × (σ.count ≡ k)) (λ σ. To σ × (σ.count ≡ k + token_count ps)) n ps P
form_counted {n = n} {ps = ps} k f ts σ are h = let r = f ts σ are h.0 in
    let counted : (past (enter n σ) r.below).count ≡ k + token_count ps =
    past_count r.below (enter n σ) ∙ ap (λ us. σ.count + length us) r.takes ∙ ap (λ c. σ.count + c) (as_many ps ts are) ∙ ap (λ c. c + token_count ps) h.1 in
    record { i = r.i; body = r.body; below = r.below; is = r.is; spells = r.spells; takes = r.takes; value = r.value; holds = (r.holds, counted) }
