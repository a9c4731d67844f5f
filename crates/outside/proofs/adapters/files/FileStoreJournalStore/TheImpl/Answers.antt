-- The adapter tells nothing of its content, and its own clauses give the rest of what the trait asks.
use Rattle.std.proofs.Common.{refl}
use Rattle.outside.proofs.Untold.{untold, lent_untold, append_untold, cut_untold, sync_untold}
use Rattle.outside.proofs.adapters.files.FileStoreJournalStore.TheImpl.Goals as goal

pub size-tells : goal.size-tells
size-tells g c = record {
  length = untold c.result;
  content = refl;
  last = c.ensures.last;
  cause = c.ensures.cause;
}

pub read_at-tells : goal.read_at-tells
read_at-tells g c = record {
  bound = c.ensures.bound;
  given = untold c.result;
  lent = lent_untold c.result c.ensures.lent;
  content = refl;
  last = c.ensures.last;
  cause = c.ensures.cause;
}

pub append-tells : goal.append-tells
append-tells g c = record {
  content = append_untold c.result c.args.piece.now;
  last = c.ensures.last;
  cause = c.ensures.cause;
}

pub cut-tells : goal.cut-tells
cut-tells g c = record {
  content = cut_untold c.result c.args.size;
  last = c.ensures.last;
  cause = c.ensures.cause;
}

pub sync-tells : goal.sync-tells
sync-tells g c = record {
  content = sync_untold c.result;
  last = c.ensures.last;
  cause = c.ensures.cause;
}
