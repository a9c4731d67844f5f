use Rattle.std.proofs.Common.{◌∙◌, sym, ap}
use Rattle.hash_model.specs.Serialize.{hash_of, serialize}
use Rattle.tree_descent.proofs.Stops.{stop_for}
use Rattle.proof_extract.specs.declared.forms.Entries.{Entries}
use Rattle.proof_extract.specs.Climbs.{AreItsChanges, changes_of}
use Rattle.proof_extract.proofs.Chain.{entries_by}
use Rattle.proof_extract.proofs.Firsts.{other_bytes, same_bytes}
use Rattle.proof_extract.proofs.Pairs.{crossed, second_too}
use Rattle.proof_extract.proofs.Strings.{header_long}
use Rattle.proof_extract.proofs.blocks.same_changes.Goals as goal

pub one_pair-requires : goal.one_pair-requires
one_pair-requires c =
    sym c.requires.stacked.entries ∙ c.requires.entries
    ∙ entries_by c.args.block.now c.entries_of-entries.result c.changes_of-changes.result c.requires.hashes
    c.entries_of-entries.ensures c.changes_of-changes.ensures

pub returns-then-eq : goal.returns-then-eq
returns-then-eq c =
    let climbed = c.args.climbed.now in
    let e = c.entries_of-entries.result in
    let changes = c.changes_of-changes.result in
    let same = same_bytes climbed.changes changes c.eq.result c.eq.ensures c.if-eq.true in (
      same ∙ c.changes_of-changes.ensures ∙ ap (λ (x : Entries). changes_of x.said x.root) c.entries_of-entries.ensures,
      second_too climbed.changes climbed.header changes e.header c.in_ok-one_pair.ensures same
          ∙ ap (λ (x : Entries). x.header) c.entries_of-entries.ensures,
    )

pub stop_at_pair-requires-clause-hash : goal.stop_at_pair-requires-clause-hash
stop_at_pair-requires-clause-hash c =
    let climbed = c.args.climbed.now in
    let e = c.entries_of-entries.result in
    let changes = c.changes_of-changes.result in
    let turned = crossed climbed.changes climbed.header changes e.header c.in_ok-one_pair.ensures
    (other_bytes climbed.changes changes c.eq.result c.eq.ensures c.if-eq.false) in
    sym c.requires.stacked.changes ∙ turned.0 ∙ ap (λ (x : Entries). x.header) c.entries_of-entries.ensures
    ∙ sym (ap hash_of c.in_ok-header.ensures)

pub stop_at_pair-requires-clause-long : goal.stop_at_pair-requires-clause-long
stop_at_pair-requires-clause-long c =
    header_long c.four_fields_are_long.ensures c.args.block.now.header (serialize c.in_ok-header.header)
    (ap serialize c.in_ok-header.ensures)

pub returns : goal.returns
returns c =
    stop_for (λ _. ⊥) (λ _. AreItsChanges c.args.block.now c.args.climbed.now) (λ _ never. absurd never)
    c.stop_at_pair.result c.stop_at_pair.ensures
