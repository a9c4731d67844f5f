use Rattle.std.proofs.Common.{List, Option, subst}
use Rattle.ledger_model.specs.declared.block.Block.{Block}
use Rattle.block_form.specs.ReadBack.{IsReadAs}
use Rattle.stream_out.specs.declared.record.RevisionSummary.{RevisionSummary}
use Rattle.stream_out.specs.ReadRecords.{stood_value}
use Rattle.stream_out.proofs.read_records.summary_with.Goals as goal

pub returns-in_default : goal.returns-in_default
returns-in_default c =
    subst (λ (o : Option Block). IsReadAs (stood_value c.args.parts.fields c.args.parts.listed) o) c.in_default.is
    (subst (λ (listed : List RevisionSummary). IsReadAs (stood_value c.args.parts.fields listed) c.in_ok-block.field-0) c.as_slice.ensures c.in_ok-block.ensures)

pub returns : goal.returns
returns c = (
  c.in-Some.block,
  subst (λ (o : Option Block). IsReadAs (stood_value c.args.parts.fields c.args.parts.listed) o) c.in-Some.is
      (subst (λ (listed : List RevisionSummary). IsReadAs (stood_value c.args.parts.fields listed) c.in_ok-block.field-0) c.as_slice.ensures c.in_ok-block.ensures),
  c.summary_by.ensures,
)
