use Rattle.std.proofs.Common.{Err, sym, subst}
use Rattle.outside.specs.Told.{held}
use Rattle.laws_history.specs.Calls.{span}
use Rattle.cli_model.specs.Stores.{Reads}
use Rattle.ledger_cli.specs.Questions.{Tells}
use Rattle.ledger_cli.specs.declared.command_fault.CommandFault.{CommandFault}
use Rattle.ledger_cli.proofs.Answering.{answered_so, unread_tells}
use Rattle.ledger_cli.proofs.Leaving.{loaded_journal}
use Rattle.ledger_cli.proofs.question.ask_store.Goals as goal

pub returns-in-Ok : goal.returns-in-Ok
returns-in-Ok g c =
    let told = g.S.JournalStore.told in
    let blocks = c.in-Ok.journal.blocks in
    let store = span (told c.args.store.now) (told c.read.new.store) in
    let reads : Reads store blocks = record {
      found = loaded_journal (held (told c.args.store.now)) blocks c.in-Ok.journal.rest c.in-Ok.ensures.journal;
      undamaged = c.blocks-in-Ok.ensures.undamaged;
      only_read = record { content = c.read.ensures.content; faults = c.in-Ok.ensures.fine };
    } in
    answered_so c.args.question blocks c.answer_in.result store reads c.answer_in.ensures.answers c.answer_in.ensures.stop

pub returns-in-Err : goal.returns-in-Err
returns-in-Err g c =
    let told = g.S.JournalStore.told in
    let store = span (told c.args.store.now) (told c.read.new.store) in
    subst (λ (why : CommandFault). Tells c.args.question (Err why) store) (sym c.from.ensures)
    (unread_tells c.args.question c.in-Err.cause (told c.args.store.now) (told c.read.new.store) c.read.ensures.content c.in-Err.ensures.cause)
