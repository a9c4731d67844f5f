use Rattle.std.proofs.Common.{sym, ◌∙◌, ap}
use Rattle.std.specs.Prelude.{slice_set}
use Rattle.std.specs.Option.{option_copied}
use Rattle.std.proofs.lemmas.Option.{slice_get_within}
use Rattle.versions.proofs.Changing.{at_hidden, at_kept, at_none}
use Rattle.versions.proofs.redactions.changed_at.Goals as goal

pub returns-in_default : goal.returns-in_default
returns-in_default c =
    c.in_ok-same.ensures
    ∙ sym (at_none c.args.change.now c.args.revisions.now c.args.place (sym c.get.ensures ∙ ap option_copied c.in_default.is))

pub set-requires : goal.set-requires
set-requires c = slice_get_within c.args.revisions.now c.args.place c.in-Some.recorded.now (sym c.in-Some.ensures)

pub returns-then-redacts : goal.returns-then-redacts
returns-then-redacts c =
    c.in_ok-changed.ensures
    ∙ ap (slice_set c.args.revisions.now c.args.place) (c.in_ok-new-2.ensures.ok ∙ c.in_ok-new.ensures)
    ∙ sym (at_hidden c.args.change.now c.args.revisions.now c.args.place c.in-Some.recorded.now (sym c.in-Some.ensures)
    (sym c.redacts.ensures ∙ c.if-redacts.true))

pub returns : goal.returns
returns c =
    c.in_ok-same-2.ensures
    ∙ sym (at_kept c.args.change.now c.args.revisions.now c.args.place c.in-Some.recorded.now (sym c.in-Some.ensures)
    (sym c.redacts.ensures ∙ c.if-redacts.false))
