use Rattle.std.proofs.Common.{◌≡◌, ◌∙◌, sym, ap}
use Rattle.ql_types.specs.declared.Hash.TheVariants.{Full}
use Rattle.ledger_model.specs.Seals.{revisions_root}
use Rattle.pad_tree.specs.Paths.{folded}
use Rattle.tree_descent.proofs.Stops.{stop_for}
use Rattle.proof_extract.specs.declared.forms.Entries.{Entries}
use Rattle.proof_extract.proofs.Chain.{changes_there}
use Rattle.proof_extract.proofs.Firsts.{other_bytes, same_bytes}
use Rattle.proof_extract.proofs.Pairs.{straight}
use Rattle.proof_extract.proofs.revisions.same_root.Goals as goal

pub one_pair-requires : goal.one_pair-requires
one_pair-requires c =
    sym c.requires.stacked.changes ∙ c.requires.changes
    ∙ changes_there c.args.block.now c.entries_of-entries.result c.in-Full.root c.entries_of-entries.ensures c.in-Full.is

pub returns-then-eq : goal.returns-then-eq
returns-then-eq c =
    ap Full (same_bytes c.args.climbed.now.root c.in-Full.root c.eq.result c.eq.ensures c.if-eq.true) ∙ sym c.in-Full.is
    ∙ ap (λ (x : Entries). x.root) c.entries_of-entries.ensures

pub stop_under_info-requires-clause-hash : goal.stop_under_info-requires-clause-hash
stop_under_info-requires-clause-hash c =
    let climbed = c.args.climbed.now in
    let e = c.entries_of-entries.result in
    ap (folded c.args.revision.now.hash) c.below.ensures ∙ sym c.requires.root
    ∙ straight climbed.root climbed.said e.said c.in-Full.root c.in_ok-one_pair.ensures
    (other_bytes climbed.root c.in-Full.root c.eq.result c.eq.ensures c.if-eq.false)
    ∙ ap (λ (x : Entries). x.said) c.entries_of-entries.ensures

pub returns : goal.returns
returns c =
    stop_for (λ _. ⊥) (λ _. Full c.args.climbed.now.root ≡ revisions_root c.args.block.now.revisions)
    (λ _ never. absurd never) c.stop_under_info.result c.stop_under_info.ensures
