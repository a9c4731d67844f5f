use Rattle.ledger_cli.proofs.Exporting.{tops}
use Rattle.ledger_cli.proofs.export.export_bytes.Goals as goal

pub write_each-requires : goal.write_each-requires
write_each-requires c = tops c.as_slice.result.now
