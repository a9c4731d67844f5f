use Rattle.std.proofs.Common.{◌≡◌, IfOk, subst, sym}
use Rattle.pql_from.proofs.Filtered.{all_asked}
use Rattle.test_pql.proofs.shelf.ShelfTables.rows.Goals as goal

pub returns-in-All : goal.returns-in-All
returns-in-All c =
    subst (λ x. IfOk c.seen.result (λ rows. rows ≡ x)) (sym (all_asked c.args.probe.now _ c.in-All.is)) c.seen.ensures
