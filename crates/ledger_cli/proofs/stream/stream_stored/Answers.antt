use Rattle.std.proofs.Common.{Err, inl, subst, sym}
use Rattle.outside.specs.Told.{held}
use Rattle.laws_history.specs.Calls.{span}
use Rattle.cli_model.specs.Stores.{Reads}
use Rattle.ledger_cli.specs.Streaming.{Tells}
use Rattle.ledger_cli.specs.declared.command_fault.CommandFault.{CommandFault}
use Rattle.ledger_cli.proofs.Leaving.{loaded_journal}
use Rattle.ledger_cli.proofs.Streaming.{unread_tells}
use Rattle.ledger_cli.proofs.stream.stream_stored.Goals as goal

pub returns-in-Ok : goal.returns-in-Ok
returns-in-Ok g c =
    let told = g.S.JournalStore.told in
    let blocks = c.in-Ok.journal.blocks in
    let store = span (told c.args.store.now) (told c.read.new.store) in
    let reads : Reads store blocks = record {
      found = loaded_journal (held (told c.args.store.now)) blocks c.in-Ok.journal.rest c.in-Ok.ensures.journal;
      undamaged = c.blocks-in-Ok.ensures.undamaged;
      only_read = record { content = c.read.ensures.content; faults = c.in-Ok.ensures.fine };
    } in
    (inl (record { blocks = blocks; reads = reads; streams = c.stream_of.ensures }), c.read.ensures.content)

pub returns-in-Err : goal.returns-in-Err
returns-in-Err g c =
    let told = g.S.JournalStore.told in
    let store = span (told c.args.store.now) (told c.read.new.store) in
    subst (λ (why : CommandFault). Tells c.args.from c.args.to (Err why) store) (sym c.from.ensures)
    (unread_tells c.args.from c.args.to c.in-Err.cause (told c.args.store.now) (told c.read.new.store) c.read.ensures.content c.in-Err.ensures.cause)
