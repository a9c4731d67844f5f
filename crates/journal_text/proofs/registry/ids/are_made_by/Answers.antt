use Rattle.std.proofs.Common.{◌∙◌, ℕ, ap}
use Rattle.std.specs.List.{list_all}
use Rattle.ledger_model.specs.Follows.{is_made_by}
use Rattle.journal_text.proofs.registry.ids.are_made_by.Goals as goal

pub returns-in-Some : goal.returns-in-Some
returns-in-Some c = λ small.
    c.all_made_by.ensures ∙ ap (λ n. list_all (is_made_by c.args.strand.raw n) c.args.ids.now) (ap (λ (p : ℕ × ℕ). p.0) c.in-Some.ensures.parts.1)
