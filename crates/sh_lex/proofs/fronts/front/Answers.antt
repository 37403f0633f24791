use Rattle.std.proofs.Common.{sym, ◌∙◌}
use Rattle.sh_lex.specs.declared.bytes.Lead.TheVariants.{Letter, Punctuation, Other}
use Rattle.sh_lex.proofs.LeadLemmas.{leads_at}
use Rattle.sh_lex.proofs.FrontLemmas.{word_front, arrow_front, sign_front, other_fault}
use Rattle.sh_lex.proofs.fronts.front.Goals as goal

pub returns-in-Letter : goal.returns-in-Letter
returns-in-Letter c =
    let lead = leads_at Letter c.args.rest.now c.requires c.in-Letter.ensures in
    word_front c.args.rest.now c.args.place c.run_len.result lead c.run_len.ensures.value c.run_len.ensures.within

pub returns-in-Punctuation : goal.returns-in-Punctuation
returns-in-Punctuation c =
    let lead = leads_at Punctuation c.args.rest.now c.requires c.in-Punctuation.ensures in
    arrow_front c.args.rest.now c.args.place lead (sym c.starts_with.ensures.value ∙ c.if-starts_with.true)

pub returns-in-Punctuation-2 : goal.returns-in-Punctuation-2
returns-in-Punctuation-2 c =
    let lead = leads_at Punctuation c.args.rest.now c.requires c.in-Punctuation-2.ensures in
    sign_front c.args.rest.now c.args.place lead (sym c.starts_with.ensures.value ∙ c.if-starts_with.false)

pub returns-in-Other : goal.returns-in-Other
returns-in-Other c =
    let lead = leads_at Other c.args.rest.now c.requires c.in-Other.ensures in
    other_fault c.args.rest.now c.args.place lead
