use Rattle.std.proofs.Common.{rules, ◌≡◌, ◌∙◌, ◌+◌, ◌++◌, ◌∷◌, [], ℕ, List, None, Result, Err, IfErr, drop, length, length-append, ap, sym, subst}
use Rattle.std.specs.Io.BufRead.{take_through}
use Rattle.ledger_model.specs.Journal.{journal_bytes}
use Rattle.journal_text.specs.declared.journal.JournalFault.{JournalFault}
use Rattle.journal_text.specs.Reading.{IsLineFault}
use Rattle.journal_text.specs.Feeding.{ReadSoFar, taken}
use Rattle.journal_text.proofs.Fed.{taken_part, through_all, through_feed}
use Rattle.journal_text.proofs.Feeds.{NoFeed}
use Rattle.journal_text.proofs.reader.JournalReader.feed.Goals as goal

-- what is taken of a piece that begins with this text and a line feed
taken_of : (piece text : List ℕ) → (NoFeed text) × (piece ≡ text ++ 10 ∷ drop (length text + 1) piece) → text ++ 10 ∷ [] ≡ take_through 10 piece
taken_of piece text cut = sym (ap (take_through 10) cut.1 ∙ through_feed text (drop (length text + 1) piece) cut.0)

pub returns-in_ok-end_line-in-Some-first_line-clause-taken : goal.returns-in_ok-end_line-in-Some-first_line-clause-taken
returns-in_ok-end_line-in-Some-first_line-clause-taken c =
    c.in_ok-end_line-in-Some-first_line.ensures.taken
    ∙ ap (λ xs. taken c.args.self.now ++ xs) (taken_of c.args.piece.now c.in-Some-first_line.text.now c.in-Some-first_line.ensures)

pub returns-in_ok-end_line-in-Some-first_line-clause-count : goal.returns-in_ok-end_line-in-Some-first_line-clause-count
returns-in_ok-end_line-in-Some-first_line-clause-count c =
    let text = c.in-Some-first_line.text.now in
    sym (length-append text (10 ∷ [])) ∙ ap length (taken_of c.args.piece.now text c.in-Some-first_line.ensures)

pub returns-in_ok-extend-in-None-clause-count : goal.returns-in_ok-extend-in-None-clause-count
returns-in_ok-extend-in-None-clause-count c = sym (ap length (through_all c.args.piece.now c.in-None.ensures))

pub returns-in_err-end_line-in-Some-first_line-clause-fault : goal.returns-in_err-end_line-in-Some-first_line-clause-fault
returns-in_err-end_line-in-Some-first_line-clause-fault c =
    let text = c.in-Some-first_line.text.now in
    let fault = c.in_err-end_line-in-Some-first_line.field-0.0 in
    let is : c.from_residual.result ≡ Err fault = search rules in
    subst (λ (r : Result ℕ JournalFault). IfErr r (λ fault. c.args.self.now.damaged ≡ None → (rest : List ℕ)
    → IsLineFault (taken c.args.self.now ++ (take_through 10 c.args.piece.now ++ rest)) fault)) (sym is)
    (λ reads rest. subst (λ (xs : List ℕ). IsLineFault (taken c.args.self.now ++ (xs ++ rest)) fault) (taken_of c.args.piece.now text c.in-Some-first_line.ensures)
    (c.in_err-end_line-in-Some-first_line.ensures.fault rest))

pub returns-in_ok-extend-in-None-clause-taken : goal.returns-in_ok-extend-in-None-clause-taken
returns-in_ok-extend-in-None-clause-taken c =
    let blocks = c.self.inside.blocks.list in
    let begun = c.self.inside.line.items in
    let line = c.extend.new.line.items in
    subst (λ (r : ReadSoFar). journal_bytes blocks ++ line ≡ taken r ++ take_through 10 c.args.piece.now) c.self.view_is
    (taken_part blocks begun line c.args.piece.now c.in_ok-extend-in-None.ensures.put c.in-None.ensures)
