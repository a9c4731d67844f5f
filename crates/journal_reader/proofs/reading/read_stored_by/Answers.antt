use Rattle.std.proofs.Common.{◌≡◌, ◌∙◌, ◌+◌, ◌++◌, Err, ap, arith, length, length-append, rules, take}
use Rattle.outside.specs.Told.{held}
use Rattle.journal_text.specs.Feeding.{taken}
use Rattle.journal_reader.specs.Loads.{IsCause, cause_of}
use Rattle.journal_reader.proofs.Read.{bytes_of, fed-cause, front-next, front-none, long-of, take-inside}
use Rattle.journal_reader.proofs.reading.read_stored_by.Goals as goal

pub shared-init : goal.shared-init
shared-init g c = record {
  front = front-none (held (g.S.JournalStore.told c.args.store.now)) (taken c.new-reader.result) _ c.in_ok-whole.ensures.size c.new-reader.ensures.taken;
  size = search rules;
  within = search rules;
  reads = search rules;
  content = search rules;
  wide = search rules;
  fine = search rules;
}

pub shared-preserved : goal.shared-preserved
shared-preserved g c =
    let was = c.shared.invariant in
    let all = taken c.shared.reader in
    let out = c.fill_piece.new.piece in
    let count = c.in_ok-count.count in
    let inside = c.in_ok-count.ensures.within in
    let grown : taken c.feed_shared.new.self ≡ all ++ take count out =
    c.in_ok-feed_shared.ensures.taken ∙ ap (λ xs. all ++ xs) (take-inside count out _ inside) in
    let long : length (taken c.feed_shared.new.self) ≡ length all + count =
    ap length grown ∙ length-append all (take count out) ∙ ap (λ n. length all + n) (long-of out count inside) in
    let place = was.size in
    record {
      front = front-next (held (g.S.JournalStore.told c.args.store.now)) (g.S.JournalStore.told c.shared.store).content all out _ _ _ count
          (ap bytes_of was.content) place was.within was.front c.in_ok-count.ensures.bytes grown;
      size = omega (arith, place, long);
      within = search rules;
      reads = search rules;
      content = search rules;
      wide = search rules;
      fine = search rules;
    }

pub returns-in_err-feed_shared-clause-cause : goal.returns-in_err-feed_shared-clause-cause
returns-in_err-feed_shared-clause-cause g c =
    let told = g.S.JournalStore.told in
    let was = c.shared.invariant in
    let all = taken c.shared.reader in
    let out = c.fill_piece.new.piece in
    let count = c.in_ok-count.count in
    let fault = c.in_err-feed_shared.field-0.0 in
    let same : (told c.fill_piece.new.store).faults ≡ (told c.args.store.now).faults = c.in_ok-count.ensures.fine ∙ was.fine in
    let why : IsCause (cause_of fault) (told c.args.store.now) (told c.fill_piece.new.store) =
    fed-cause _ _ all _ _ fault
    (front-next (held (told c.args.store.now)) (told c.shared.store).content all out _ _ _ count
    (ap bytes_of was.content) was.size was.within was.front c.in_ok-count.ensures.bytes (ap (λ xs. all ++ xs) (take-inside count out _ c.in_ok-count.ensures.within)))
    same c.in_err-feed_shared.ensures.fault in
    let is : c.from_residual-in_err-feed_shared.result ≡ Err (cause_of fault) = search rules in
    rw is why
