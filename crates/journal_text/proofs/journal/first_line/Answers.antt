use Rattle.std.proofs.Common.{◌≡◌, ◌∙◌, ◌+◌, ◌∷◌, ◌++◌, ℕ, List, drop, length, sym, subst}
use Rattle.journal_text.proofs.Feeds.{NoFeed}
use Rattle.journal_text.proofs.FirstFeed.{no_feed, cut}
use Rattle.journal_text.proofs.journal.first_line.Goals as goal

pub returns-in_default : goal.returns-in_default
returns-in_default c = no_feed c.args.bytes.now (sym c.first_feed.ensures ∙ c.in_default.is)

pub returns : goal.returns
returns c =
    let bytes = c.args.bytes.now in
    let parts = cut bytes c.in-Some.end (sym c.first_feed.ensures ∙ c.in-Some.is) in
    subst (λ (text : List ℕ). (NoFeed text) × (bytes ≡ text ++ 10 ∷ drop (length text + 1) bytes)) (sym c.split_at.ensures.front) (parts.one_line, parts.whole)
