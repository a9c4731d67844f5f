-- Each read fills the front of what is left of the piece.
use Rattle.std.proofs.Common.{◌-◌, length, rules, arith}
use Rattle.journal_reader.proofs.Filled.{filled-next, filled-none}
use Rattle.journal_reader.proofs.reading.fill_piece.Goals as goal

pub reads-init : goal.reads-init
reads-init g c = record {
  same_length = search rules;
  within = search (rules, arith);
  bytes = filled-none (g.S.JournalStore.told c.args.store.now).content c.args.piece.now c.args.at;
  content = search rules;
  fine = search rules;
}

pub reads-preserved : goal.reads-preserved
reads-preserved g c =
    let told = g.S.JournalStore.told in
    let was = c.reads.invariant in
    let out = c.read_piece.new.piece in
    let room = length c.reads.piece - c.reads.filled in
    record {
      same_length = search rules;
      within = search (rules, arith);
      bytes = filled-next (told c.args.store.now).content (told c.reads.store).content c.reads.piece out c.args.at c.reads.filled room c.in_ok-count.count
          was.content was.within c.in_ok-count.ensures.within was.bytes c.in_ok-count.ensures.bytes;
      content = search rules;
      fine = search rules;
    }
