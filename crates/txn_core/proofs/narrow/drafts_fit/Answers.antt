use Rattle.std.proofs.Common.{◌≤◌, length, sym, subst, arith}
use Rattle.std.proofs.lemmas.List.{drop_all}
use Rattle.txn_core.specs.Narrow.{DraftsFit}
use Rattle.txn_core.proofs.Narrowing.{fits_next}
use Rattle.txn_core.proofs.narrow.drafts_fit.Goals as goal

pub log-init : goal.log-init
log-init c = λ all. all

pub log-preserved : goal.log-preserved
log-preserved c = λ rest.
    c.log.invariant (fits_next c.args.log.now c.log.draft-index c.draft-item.result c.log-test.true c.draft-item.is c.draft_fits.ensures rest)

pub returns : goal.returns
returns c =
    let past : length c.args.log.now ≤ c.log.draft-index = omega arith in
    c.log.invariant (subst DraftsFit (sym (drop_all c.log.draft-index c.args.log.now past)) tt)
