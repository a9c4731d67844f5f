use Rattle.std.proofs.Common.{◌≡◌, ◌∙◌, List, length, map, ap, rules, sym}
use Rattle.std.specs.Iterator.Adapters.{zip_second}
use Rattle.std.specs.List.{zip}
use Rattle.std.proofs.lemmas.Iterator.{YieldsList-from_zip}
use Rattle.std.proofs.lemmas.Iterator.Adapters.{YieldsList-from_vec}
use Rattle.std.proofs.lemmas.Iterator.Consumers.{YieldsList-at, YieldsList-end}
use Rattle.ledger_model.specs.declared.block.Draft.{Draft}
use Rattle.ledger_model.specs.Making.{revision_of}
use Rattle.block_form.specs.declared.contents.HashedContent.{HashedContent}
use Rattle.ledger_core.proofs.OfDrafts.{firsts, parted}
use Rattle.ledger_core.proofs.sealing.revisions_of.Goals as goal

pub returns-clause-revisions : goal.returns-clause-revisions
returns-clause-revisions c =
    let one : c.into_vec.result.items ≡ c.args.drafts = c.into_vec.ensures in
    let other : c.into_vec-2.result.items ≡ c.args.contents = c.into_vec-2.ensures in
    let gives = c.zip-draft-items.ensures.second in
    let drafts = YieldsList-at c.zip-draft-items.ensures.first
    (YieldsList-from_vec {s = c.into_iter.result} c.args.drafts (c.into_iter.ensures.rest ∙ one) (c.into_iter.ensures.len ∙ c.into_vec.result.ok.0 ∙ ap length one)) in
    let contents = YieldsList-from_vec {s = zip_second c.zip-draft-items.result} c.args.contents (gives.0 ∙ other) (gives.1 ∙ c.into_vec-2.result.ok.0 ∙ ap length other) in
    let same : c.into_iter-draft-iterator.result ≡ c.zip-draft-items.result = search rules in
    let all = YieldsList-at same (YieldsList-from_zip drafts contents) in
    let end = YieldsList-end all c.drafts.yielded c.drafts.draft-iterator c.drafts.yielded_by c.next.result c.next.new.self c.in-None.is c.next.ensures.steps in
    c.drafts.invariant.0
    ∙ ap (map (revision_of c.args.header.now))
    (sym (parted c.drafts.yielded)
    ∙ ap (map (λ (p : Draft × HashedContent). p.0)) (end.0 ∙ ap (λ (all : List HashedContent). zip c.args.drafts all) c.requires)
    ∙ firsts c.args.drafts)
