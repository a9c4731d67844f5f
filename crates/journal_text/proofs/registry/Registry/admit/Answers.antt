use Rattle.std.proofs.Common.{◌∙◌, sym}
use Rattle.std.proofs.lemmas.Bool.{and_parts, and_right}
use Rattle.ledger_model.specs.Follows.{follows}
use Rattle.ledger_model.specs.State.{state}
use Rattle.journal_text.proofs.Admits.{all_follow, ids_stop, refused_first, revisions_stop, schema_stops, told, wrong}
use Rattle.journal_text.proofs.After.{documents_taken, redactions_taken, schema_taken, sequence_is, stands_after}
use Rattle.journal_text.proofs.registry.Registry.admit.Goals as goal

pub change_all-requires-2 : goal.change_all-requires-2
change_all-requires-2 c = c.requires.stands.placed

pub returns-then-not-branch-clause-follows : goal.returns-then-not-branch-clause-follows
returns-then-not-branch-clause-follows c =
    refused_first _ _ (sym (ids_stop c.args.strand.raw (state c.args.before.now) c.args.block.now
    (sym (c.in_ok-has_ids.ensures c.args.before.now c.requires.stands c.requires.id) ∙ c.if-not-branch.true)))

pub returns-then-not-branch-clause-stands : goal.returns-then-not-branch-clause-stands
returns-then-not-branch-clause-stands c = λ never. absurd (wrong never)

pub returns-then-not-branch-2-clause-follows : goal.returns-then-not-branch-2-clause-follows
returns-then-not-branch-2-clause-follows c =
    refused_first _ _ (sym (revisions_stop c.args.strand.raw (state c.args.before.now) c.args.block.now
    (sym (c.in_ok-has_revisions.ensures c.args.strand.raw c.args.before.now c.requires.stands) ∙ c.if-not-branch-2.true)))

pub returns-then-not-branch-2-clause-stands : goal.returns-then-not-branch-2-clause-stands
returns-then-not-branch-2-clause-stands c = λ never. absurd (wrong never)

pub returns-then-not-branch-3-clause-follows : goal.returns-then-not-branch-3-clause-follows
returns-then-not-branch-3-clause-follows c =
    let ids = sym (c.in_ok-has_ids.ensures c.args.before.now c.requires.stands c.requires.id) ∙ c.if-not-branch.false in
    let schema = schema_taken c.args.strand.raw c.args.before.now c.args.block.now c.args.self.now c.change_all.new.self c.as_slice-changes.result.now
    c.in_ok-change_all.field-0 c.requires.stands c.requires.id ids c.as_slice-changes.ensures c.in_ok-change_all.ensures in
    refused_first _ _ (sym (schema_stops c.args.strand.raw (state c.args.before.now) c.args.block.now (sym schema.tells ∙ c.if-not-branch-3.true)))

pub returns-then-not-branch-3-clause-stands : goal.returns-then-not-branch-3-clause-stands
returns-then-not-branch-3-clause-stands c = λ never. absurd (wrong never)

pub returns-then-not-branch-4-clause-follows : goal.returns-then-not-branch-4-clause-follows
returns-then-not-branch-4-clause-follows c =
    let taken = redactions_taken c.args.before.now c.args.block.now c.as_slice-changes.result.now c.in_ok-change_all-2.field-0 c.change_all-2.new.self
    c.as_slice-changes.ensures (c.in_ok-change_all-2.ensures c.requires.stands.redactions c.requires.stands.documents) in
    sym (and_right (follows c.args.strand.raw (state c.args.before.now) c.args.block.now) _ (sym taken.tells ∙ c.if-not-branch-4.true))

pub returns-then-not-branch-4-clause-stands : goal.returns-then-not-branch-4-clause-stands
returns-then-not-branch-4-clause-stands c = λ never. absurd (wrong never)

pub returns-clause-follows : goal.returns-clause-follows
returns-clause-follows c =
    let ids = sym (c.in_ok-has_ids.ensures c.args.before.now c.requires.stands c.requires.id) ∙ c.if-not-branch.false in
    let revisions = sym (c.in_ok-has_revisions.ensures c.args.strand.raw c.args.before.now c.requires.stands) ∙ c.if-not-branch-2.false in
    let schema = schema_taken c.args.strand.raw c.args.before.now c.args.block.now c.args.self.now c.change_all.new.self c.as_slice-changes.result.now
    c.in_ok-change_all.field-0 c.requires.stands c.requires.id ids c.as_slice-changes.ensures c.in_ok-change_all.ensures in
    let taken = redactions_taken c.args.before.now c.args.block.now c.as_slice-changes.result.now c.in_ok-change_all-2.field-0 c.change_all-2.new.self
    c.as_slice-changes.ensures (c.in_ok-change_all-2.ensures c.requires.stands.redactions c.requires.stands.documents) in
    told _ _ _ (sym (all_follow c.args.strand.raw (state c.args.before.now) c.args.block.now (sym schema.tells ∙ c.if-not-branch-3.false) ids revisions))
    (sym c.if-not-branch-4.false ∙ taken.tells)

pub returns-clause-stands : goal.returns-clause-stands
returns-clause-stands c = λ yes.
    let ids = sym (c.in_ok-has_ids.ensures c.args.before.now c.requires.stands c.requires.id) ∙ c.if-not-branch.false in
    let revisions = sym (c.in_ok-has_revisions.ensures c.args.strand.raw c.args.before.now c.requires.stands) ∙ c.if-not-branch-2.false in
    let schema = schema_taken c.args.strand.raw c.args.before.now c.args.block.now c.args.self.now c.change_all.new.self c.as_slice-changes.result.now
    c.in_ok-change_all.field-0 c.requires.stands c.requires.id ids c.as_slice-changes.ensures c.in_ok-change_all.ensures in
    let taken = redactions_taken c.args.before.now c.args.block.now c.as_slice-changes.result.now c.in_ok-change_all-2.field-0 c.change_all-2.new.self
    c.as_slice-changes.ensures (c.in_ok-change_all-2.ensures c.requires.stands.redactions c.requires.stands.documents) in
    let documents = documents_taken (state c.args.before.now).revisions c.args.block.now c.record.new.self c.as_slice.result.now c.as_slice-2.result.now c.as_slice.ensures
    c.as_slice-2.ensures (c.in_ok-record.ensures (state c.args.before.now).revisions c.requires.stands.documents) in
    stands_after c.args.strand.raw c.args.before.now c.args.block.now c.args.self.now _ c.requires.stands c.requires.id ids (schema.made c.if-not-branch-3.false)
    documents (taken.stands c.if-not-branch-4.false) (sequence_is c.args.strand.raw c.args.before.now c.args.block.now c.requires.address)
    (and_parts _ _ revisions).0 c.in_ok-insert.ensures.updates.0
