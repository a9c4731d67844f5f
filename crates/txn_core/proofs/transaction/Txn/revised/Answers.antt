use Rattle.std.proofs.Common.{ap, ◌∙◌, map}
use Rattle.std.specs.Prelude.{option_map}
use Rattle.std.specs.Option.{option_copied}
use Rattle.ledger_model.specs.Follows.{latest_of}
use Rattle.versions.specs.Held.{recorded_of, table_of}
use Rattle.txn_core.specs.Effects.{effect_of}
use Rattle.txn_core.specs.Opened.{Opened}
use Rattle.txn_core.proofs.Touched.{revised_again, revised_next}
use Rattle.txn_core.proofs.transaction.Txn.revised.Goals as goal

pub returns-in-Some : goal.returns-in-Some
returns-in-Some c =
    revised_again c.args.self.now (effect_of c.args.touching.now.effect) c.args.touching.now.marks.entries (map table_of c.as_slice-tables.result.now) c.args.id c.args.content
    c.requires.marks (ap (map table_of) c.as_slice-tables.ensures.value ∙ c.requires.tables) c.requires.schema
    (option_copied c.get.result) c.in-Some.mark.now c.if_active.result c.again-draft.result
    c.get.ensures.value (ap option_copied c.in-Some.is) c.again-draft.ensures c.if_active.ensures

pub returns-in_ok-draft-in-None : goal.returns-in_ok-draft-in-None
returns-in_ok-draft-in-None c =
    revised_next c.args.self.now (effect_of c.args.touching.now.effect) c.args.touching.now.marks.entries (map table_of c.as_slice-tables.result.now) c.args.id c.args.content
    c.requires.marks (ap (map table_of) c.as_slice-tables.ensures.value ∙ c.requires.tables) c.requires.schema
    (option_copied c.get.result) (option_map recorded_of (option_copied c.recorded.result)) c.if_active-in-None.result c.in_ok-draft-in-None.draft
    c.get.ensures.value (ap option_copied c.in-None.is)
    (c.recorded.ensures ∙ ap (λ (t : Opened). latest_of t.base.revisions c.args.id.raw) c.self.view_is) c.in_ok-draft-in-None.ensures c.if_active-in-None.ensures
