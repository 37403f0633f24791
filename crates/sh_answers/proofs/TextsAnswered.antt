-- A text has an answer without a pass, and with the pass that partitions it.
use Rattle.std.proofs.Common.{◌≡◌, inl, inr, ℕ, List, [], ◌∷◌, drop, refl, subst}
use Rattle.sh_base.specs.declared.places.Place.{Place}
use Rattle.sh_grammar.specs.Lexemes.{lexemes}
use Rattle.sh_grammar.proofs.Lexed.{closed}
use Rattle.sh_ir.specs.Rules.{refusal_at}
use Rattle.sh_ir.specs.declared.modules.Module.{Module}
use Rattle.sh_lex.specs.Tokens.{HasTokens, IsFault, IsRefused, IsRefusedFrom, at_fault, behind_token, place_at}
use Rattle.sh_lex.specs.declared.tokens.LexRefusal.{LexRefusal}
use Rattle.sh_lex.specs.declared.tokens.LexRefusal.TheVariants.{BadByte, Mem, NumberTooWide, OpenString}
use Rattle.sh_lex.specs.declared.tokens.Token.{Token}
use Rattle.sh_parse.specs.Reads.{Reads}
use Rattle.sh_parse.proofs.formed.FilesFormed.{read_formed}
use Rattle.sh_cli.specs.Answer.{IsPartitioning, IsPrinting}
use Rattle.sh_cli.specs.Answer.IsNoText.{by_byte, by_number, by_string, by_token}
use Rattle.sh_cli.specs.Answer.IsPartitioning.{partitions, unbuilt}
use Rattle.sh_cli.specs.Answer.IsPrinting.{no_module, no_text, prints}
use Rattle.sh_cli.specs.declared.status.Status.{Status}
use Rattle.sh_answers.proofs.TextsLexed.{IsLexed, lexed}
use Rattle.sh_answers.proofs.ModulesJudged.{IsModuleJudged, module_judged}
use Rattle.sh_answers.proofs.TokensJudged.{AreJudged, tokens_judged}

-- a status and a text for the output that are an answer
abbrev pub HasAnswer : (Status → List ℕ → Type 0) → Type 0
HasAnswer IsIt = (status : Status) × (output : List ℕ) × IsIt status output

-- no fault of a text is a want of memory
no_fault_of_memory : (rest : List ℕ) (due : Place) (why : LexRefusal) → why ≡ Mem → IsFault rest due why → ⊥
no_fault_of_memory [] due why same fault = fault
no_fault_of_memory (b ∷ bytes) due why same fault = subst (IsFault (b ∷ bytes) due) same fault

not_for_memory : {text : List ℕ} {from : ℕ} {why : LexRefusal} → IsRefusedFrom text from why → why ≡ Mem → ⊥
not_for_memory {text} {why = why} (at_fault stop) same =
    no_fault_of_memory (drop stop.due text) (place_at text stop.due) why same stop.fault
not_for_memory (behind_token next refused) same = not_for_memory refused same

module _ (text : List ℕ) where
  no_tokens : (why : LexRefusal) → IsRefused text why → HasAnswer (IsPrinting text)
  no_tokens (BadByte place) refused = (_, _, no_text _ (by_byte place refused))
  no_tokens (OpenString place) refused = (_, _, no_text _ (by_string place refused))
  no_tokens (NumberTooWide place) refused = (_, _, no_text _ (by_number place refused))
  no_tokens Mem refused = absurd (not_for_memory refused refl)

  of_module : (m : Module) → Reads text m → IsModuleJudged m → HasAnswer (IsPrinting text)
  of_module m read (inl (sound, admitted)) = (_, _, prints m read sound admitted)
  of_module m read (inr (status, down)) = (_, _, no_module m status read down)

  of_tokens : (tokens : List Token) → HasTokens text tokens → AreJudged (lexemes text tokens) → ¬ (¬ (HasAnswer (IsPrinting text)))
  of_tokens tokens has (inl (m, read)) none =
      let reads : Reads text m = record { tokens = tokens; has = has; read = read } in
      module_judged m (read_formed text m reads) (λ judged. none (of_module m reads judged))
  of_tokens tokens has (inr (i, t, rule, refused)) none =
      none (_, _, no_text (refusal_at t.place rule) (by_token tokens i t (refusal_at t.place rule) has refused refl))

  pub printing_answered : ¬ (¬ (HasAnswer (IsPrinting text)))
  printing_answered none = lexed text by
    where
      by : IsLexed text 0 → ⊥
      by (inl (tokens, has)) = tokens_judged (lexemes text tokens) (closed has) (λ judged. of_tokens tokens has judged none)
      by (inr (why, refused)) = none (no_tokens why refused)

  pub partitioning_answered : ¬ (¬ (HasAnswer (IsPartitioning text)))
  partitioning_answered none =
      none (_, _, unbuilt (λ extent devices is divisible. none (_, _, partitions extent devices is divisible)))
