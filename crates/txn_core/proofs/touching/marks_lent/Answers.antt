use Rattle.std.proofs.Common.{◌≡◌, ◌≤◌, ◌<◌, List, length, get_or, map, sym, ap, subst, ◌∙◌, arith}
use Rattle.std.proofs.lemmas.List.{get_or-map, length-map, take_all}
use Rattle.ledger_model.specs.declared.block.Draft.{Draft}
use Rattle.txn_core.specs.Writes.{marks_of}
use Rattle.txn_core.proofs.Touched.{marks_next}
use Rattle.txn_core.proofs.touching.marks_lent.Goals as goal

pub drafts-preserved : goal.drafts-preserved
drafts-preserved c =
    let log : List Draft = map (λ d. d.now) c.args.newest.now in
    let d = c.draft-item.result in
    let within : c.drafts.draft-index < length log = subst (λ n. c.drafts.draft-index < n) (sym (length-map c.args.newest.now (λ d. d.now))) c.drafts-test.true in
    let this : d.now ≡ get_or log c.drafts.draft-index d.now =
    ap (λ b. b.now) c.draft-item.is ∙ sym (get_or-map (λ d. d.now) c.args.newest.now c.drafts.draft-index d d.now c.drafts-test.true) in
    marks_next log c.drafts.draft-index d.now c.drafts.marks.entries c.insert.new.self.entries c.mark_of.result within this c.drafts.invariant
    c.mark_of.ensures c.in_ok-insert.ensures.entries

pub returns : goal.returns
returns c =
    let log : List Draft = map (λ d. d.now) c.args.newest.now in
    let past : length log ≤ c.drafts.draft-index =
    subst (λ n. n ≤ c.drafts.draft-index) (sym (length-map c.args.newest.now (λ d. d.now))) (omega arith) in
    c.drafts.invariant ∙ ap marks_of (take_all c.drafts.draft-index log past)
