use Rattle.std.proofs.Common.{◌≡◌, ◌∙◌, ◌+◌, List, [], ◌∷◌, ◌++◌, drop, sym, subst, arith}
use Rattle.ledger_model.specs.Script.{each}
use Rattle.value_codec.proofs.Each.{behind, each_more, each_none}
use Rattle.stream_out.specs.declared.record.RevisionSummary.{RevisionSummary}
use Rattle.stream_out.specs.ReadRecords.{listed_in}
use Rattle.stream_out.proofs.read_records.all_listed.Goals as goal

pub revisions-preserved : goal.revisions-preserved
revisions-preserved c =
    let pushed : c.push.new.self.items ≡ c.revisions.listed.items ++ c.in-Some.one ∷ [] = c.in_ok-push-in-Some.ensures.items in
    subst (λ (rs : List RevisionSummary). behind rs (each listed_in (drop (c.revisions.value-index + 1) c.args.values.now)) ≡ each listed_in c.args.values.now)
    (sym pushed)
    (each_more listed_in c.args.values.now c.revisions.listed.items (each listed_in c.args.values.now) c.revisions.value-index c.value-item.result c.in-Some.one
    c.revisions.invariant (omega arith) c.value-item.is (sym c.listed_in.ensures ∙ c.in-Some.is))

pub returns-in-None : goal.returns-in-None
returns-in-None c =
    each_none listed_in c.args.values.now c.revisions.listed.items (each listed_in c.args.values.now) c.revisions.value-index c.value-item.result
    c.revisions.invariant (omega arith) c.value-item.is (sym c.listed_in.ensures ∙ c.in-None.is)
