-- The stream of a journal: its records block by block, and what comes of the command that writes it.
use Rattle.std.proofs.Common.{◌≡◌, ◌∙◌, ◌<◌, ◌≤◌, ◌+◌, ◌-◌, ◌⊎◌, ℕ, zero, suc, List, [], ◌∷◌, ◌++◌, length, length-append, append-nil, append_assoc, map, take, drop, get_or, refl, sym, ap, subst, arith, Option, Some, None, Result, Ok, Err, inl, inr}
use Rattle.std.specs.Prelude.{slice_get}
use Rattle.std.specs.Option.{unwrap_or}
use Rattle.std.proofs.lemmas.Grind.{flat_map-append}
use Rattle.ledger_model.specs.declared.block.Block.{Block}
use Rattle.ledger_model.specs.declared.block.Schema.{Schema}
use Rattle.ledger_model.specs.Compaction.{compacted_block, compacted_from}
use Rattle.outside.specs.Told.{SourceTold, StoreTold}
use Rattle.journal_reader.specs.Loads.{IsCause}
use Rattle.journal_reader.specs.declared.cause.LoadCause.{LoadCause}
use Rattle.journal_reader.specs.declared.cause.LoadCause.TheVariants as load
use Rattle.stream_out.specs.declared.record.Record.{Record}
use Rattle.stream_out.specs.declared.record.Record.TheVariants as kind
use Rattle.stream_out.specs.Records.{record_text}
use Rattle.stream_out.specs.Streams.{block_records, changes_in, details_of, records_behind, records_of, stream, summary_of}
use Rattle.cli_args.specs.declared.Command.TheVariants as command
use Rattle.laws_history.specs.Calls.{span}
use Rattle.proof_issue.specs.declared.NoSuch.TheVariants as none_such
use Rattle.cli_model.specs.Calls.{Outside}
use Rattle.cli_model.specs.Inputs.{IsIdle}
use Rattle.cli_model.specs.Lines.{bad_range_line, no_such_line}
use Rattle.cli_model.specs.Stores.{Reads}
use Rattle.cli_model.specs.Streams.{end_in, records_text}
use Rattle.ledger_cli.specs.declared.command_fault.CommandFault.{CommandFault}
use Rattle.ledger_cli.specs.declared.command_fault.CommandFault.TheVariants as stop
use Rattle.ledger_cli.specs.Ends.{IsTold, Works}
use Rattle.ledger_cli.specs.Extracting.{IsUnloaded}
use Rattle.ledger_cli.specs.Stops.{load_stop}
use Rattle.ledger_cli.specs.Streaming.{IsReadFor, StreamsFrom, Tells, block_text, stream_text, text_of}
use Rattle.ledger_cli.proofs.Written.{line_some}

-- ---- the blocks without what they redact

one_more : (n : ℕ) → suc n + 1 ≡ suc (n + 1)
one_more n = omega arith

-- they change the schema as the blocks do
pub same_changes : (all blocks : List Block) (n : ℕ) → changes_in (take n blocks) ≡ changes_in (take n (compacted_from all blocks))
same_changes all [] zero = refl
same_changes all [] (suc n) = refl
same_changes all (b ∷ blocks) zero = refl
same_changes all (b ∷ blocks) (suc n) = ap (λ (changes : List Schema). b.info.schema ++ changes) (same_changes all blocks n)

pub as_many : (all blocks : List Block) → length (compacted_from all blocks) ≡ length blocks
as_many all [] = refl
as_many all (b ∷ blocks) = ap suc (as_many all blocks)

-- the block of a number
pub shown_at : (all blocks : List Block) (at : ℕ) (b : Block) → at < length blocks → b ≡ get_or blocks at b
    → slice_get (compacted_from all blocks) at ≡ Some (compacted_block all b (drop (at + 1) blocks))
shown_at all [] at b within is = absurd (omega (arith, within))
shown_at all (x ∷ blocks) zero b within is = ap (λ (y : Block). Some (compacted_block all y blocks)) (sym is)
shown_at all (x ∷ blocks) (suc at) b within is =
    shown_at all blocks at b (omega (arith, within)) is
    ∙ ap (λ (n : ℕ). Some (compacted_block all b (drop n (x ∷ blocks)))) (sym (one_more at))

-- ---- the records of a journal from a block on

-- there is a block of each number below the length
pub there_at : (blocks : List Block) (at : ℕ) → at < length blocks → (b : Block) × (slice_get blocks at ≡ Some b)
there_at [] at within = absurd (omega (arith, within))
there_at (x ∷ blocks) zero within = (x, refl)
there_at (x ∷ blocks) (suc at) within = there_at blocks at (omega (arith, within))

some_is : (a b : Block) → Some a ≡ Some b → a ≡ b
some_is a b e = cc

opened : (blocks : List Block) (at : ℕ) (b : Block) → slice_get blocks at ≡ Some b → drop at blocks ≡ b ∷ drop (at + 1) blocks
opened [] zero b is = let bad : ⊥ = cc is in absurd bad
opened [] (suc at) b is = let bad : ⊥ = cc is in absurd bad
opened (x ∷ blocks) zero b is = ap (λ (y : Block). y ∷ blocks) (some_is x b is)
opened (x ∷ blocks) (suc at) b is =
    opened blocks at b is ∙ ap (λ (n : ℕ). b ∷ drop n (x ∷ blocks)) (sym (one_more at))

-- the changes of one block more
pub changes_more : (blocks : List Block) (at : ℕ) (b : Block) → slice_get blocks at ≡ Some b
    → changes_in (take at blocks) ++ b.info.schema ≡ changes_in (take (at + 1) blocks)
changes_more [] zero b is = let bad : ⊥ = cc is in absurd bad
changes_more [] (suc at) b is = let bad : ⊥ = cc is in absurd bad
changes_more (x ∷ blocks) zero b is =
    ap (λ (y : Block). y.info.schema) (sym (some_is x b is)) ∙ sym (append-nil x.info.schema)
changes_more (x ∷ blocks) (suc at) b is =
    append_assoc x.info.schema (changes_in (take at blocks)) b.info.schema
    ∙ ap (λ (changes : List Schema). x.info.schema ++ changes) (changes_more blocks at b is)
    ∙ ap (λ (n : ℕ). changes_in (take n (x ∷ blocks))) (sym (one_more at))

records_text-append : (xs ys : List Record) → records_text (xs ++ ys) ≡ records_text xs ++ records_text ys
records_text-append xs ys = flat_map-append record_text xs ys

module _ (blocks : List Block) (at to : ℕ) where
  -- those of the block of this number stand first
  records_more : (b : Block) → slice_get blocks at ≡ Some b → at < to
      → records_of blocks at to ≡ block_records (changes_in (take at blocks) ++ b.info.schema) b ++ records_of blocks (at + 1) to
  records_more b is less =
      let left : to - at ≡ suc (to - (at + 1)) = omega (arith, less) in
      let changes : List Schema = changes_in (take at blocks) in
      let rest : List Block = take (to - (at + 1)) (drop (at + 1) blocks) in
      ap (λ (bs : List Block). records_behind changes (take (to - at) bs)) (opened blocks at b is)
      ∙ ap (λ (n : ℕ). records_behind changes (take n (b ∷ drop (at + 1) blocks))) left
      ∙ ap (λ (cs : List Schema). block_records (changes ++ b.info.schema) b ++ records_behind cs rest) (changes_more blocks at b is)

  block_is : (b : Block) → slice_get blocks at ≡ Some b
      → block_text blocks at ≡ records_text (block_records (changes_in (take at blocks) ++ b.info.schema) b)
  block_is b is = ap (λ (found : Option Block). text_of blocks at found) is

  part_of : (b : Block) → slice_get blocks at ≡ Some b → at < to
      → records_text (records_of blocks at to) ≡ block_text blocks at ++ records_text (records_of blocks (at + 1) to)
  part_of b is less =
      ap records_text (records_more b is less)
      ∙ records_text-append (block_records (changes_in (take at blocks) ++ b.info.schema) b) (records_of blocks (at + 1) to)
      ∙ ap (λ (x : List ℕ). x ++ records_text (records_of blocks (at + 1) to)) (sym (block_is b is))

  pub part_more : at < length blocks → at < to
      → records_text (records_of blocks at to) ≡ block_text blocks at ++ records_text (records_of blocks (at + 1) to)
  part_more within less = let found = there_at blocks at within in part_of found.0 found.1 less

  -- behind the last there is none
  pub part_end : to ≤ at → records_text (records_of blocks at to) ≡ []
  part_end past =
      let none : to - at ≡ 0 = omega (arith, past) in
      ap (λ (n : ℕ). records_text (records_behind (changes_in (take at blocks)) (take n (drop at blocks)))) none

-- the records of a block, which are some
pub some_records : (changes : List Schema) (b : Block) → 0 < length (records_text (block_records changes b))
some_records changes b =
    let summary : List ℕ = record_text (kind.Summary (summary_of b)) in
    let rest : List ℕ = records_text (map kind.Details (details_of changes b.info.tables b.revisions)) in
    let some : 0 < length summary = line_some _ in
    omega (arith, length-append summary rest, some)

pub some_text : (blocks : List Block) (at : ℕ) → at < length blocks → 0 < length (block_text blocks at)
some_text blocks at within =
    let found = there_at blocks at within in
    subst (λ (x : List ℕ). 0 < length x) (sym (block_is blocks at at found.0 found.1))
    (some_records (changes_in (take at blocks) ++ found.0.info.schema) found.0)

-- the text of a block that was found
pub found_text : (blocks : List Block) (at : ℕ) (b : Block) → slice_get blocks at ≡ Some b
    → records_text (block_records (changes_in (take at blocks) ++ b.info.schema) b) ≡ block_text blocks at
found_text blocks at b is = sym (block_is blocks at at b is)

-- the whole stream
pub stream_is : (blocks : List Block) (from to : ℕ)
    → records_text (stream blocks from to) ≡
    record_text kind.Created ++ (records_text (records_of blocks from to) ++ record_text kind.Completed)
stream_is blocks from to =
    ap (λ (x : List ℕ). record_text kind.Created ++ x)
    (records_text-append (records_of blocks from to) (kind.Completed ∷ [])
    ∙ ap (λ (x : List ℕ). records_text (records_of blocks from to) ++ x) (append-nil (record_text kind.Completed)))

-- ---- the range

pub end_is : (to : Option ℕ) (count : ℕ) (blocks : List Block) → count ≡ length blocks → unwrap_or to count ≡ end_in to blocks
end_is None count blocks is = is
end_is (Some n) count blocks is = refl

module _ (from : ℕ) (to : Option ℕ) (blocks : List Block) (count end : ℕ) (count_is : count ≡ length blocks) (is : end ≡ end_in to blocks) where
  pub past_end : count < end → StreamsFrom from to (Err (stop.NoSuch (none_such.Block end count))) blocks
  past_end less = (
    omega (arith, less, count_is, is),
    ap (λ (n : ℕ). none_such.Block n count) is ∙ ap (λ (n : ℕ). none_such.Block (end_in to blocks) n) count_is,
  )

  pub bad_range : end ≤ count → end < from → StreamsFrom from to (Err (stop.BadRange from end)) blocks
  bad_range there past = (
    record { there = omega (arith, there, count_is, is); past = omega (arith, past, is) },
    refl,
    is,
  )

  pub streams_so : end ≤ count → from ≤ end → (text : List ℕ) → text ≡ stream_text from end blocks → StreamsFrom from to (Ok text) blocks
  streams_so there order text text_is = record {
    there = omega (arith, there, count_is, is);
    order = omega (arith, order, is);
    text_is = text_is ∙ ap (λ (n : ℕ). stream_text from n blocks) is;
  }

-- a journal that wasn't read
pub unread_tells : (from : ℕ) (to : Option ℕ) (why : LoadCause) (before after : StoreTold) → after.content ≡ before.content
    → IsCause why before after → Tells from to (Err (load_stop why)) (span before after)
unread_tells from to why before after kept h = (inr (record { cause = why; is = refl; of_cause = h }), kept)

range_is : (first last from to : ℕ) → first ≡ from → last ≡ to → bad_range_line first last ≡ bad_range_line from to
range_is first last from to e f = ap (λ (n : ℕ). bad_range_line n last) e ∙ ap (λ (n : ℕ). bad_range_line from n) f

-- ---- the command

module _ (same : Type 0) (from : ℕ) (to : Option ℕ) (x : Outside) (idle : IsIdle x.source) where
  told : x.store.after.faults ≡ x.store.before.faults → IsTold (Some (command.Stream from to)) x
  told is = record { source = ap (λ (t : SourceTold). t.faults) idle; store = inl is }

  -- the journal wasn't read
  unloaded : (why : LoadCause) → IsCause why x.store.before x.store.after → x.store.after.content ≡ x.store.before.content
      → Works same (Some (command.Stream from to)) (Err (load_stop why)) x
  unloaded (load.Damaged sequence kind) h kept = (
    inr (inr (inl (
      refl,
      record {
        sequence = sequence;
        kind = kind;
        reads = record { damaged = h.0; only_read = record { content = kept; faults = h.1 } };
        line_is = refl;
      },
    ))),
    told h.1,
  )
  unloaded (load.StoreFault count) h kept = (
    inr (inr (inr (
      refl,
      record {
        failed = record { rose = omega (arith, h.rose, h.count_is); last = h.last };
        line_is = refl;
      },
    ))),
    ap (λ (t : SourceTold). t.faults) idle,
  )
  unloaded load.OutOfMemory h kept = told h

  -- it was
  module _ (blocks : List Block) (reads : Reads x.store blocks) where
    read_told : IsTold (Some (command.Stream from to)) x
    read_told = told reads.only_read.faults

    loaded : (came : Result (List ℕ) CommandFault) → StreamsFrom from to came blocks → Works same (Some (command.Stream from to)) came x
    loaded (Ok text) h = (record { blocks = blocks; reads = reads; is = h }, read_told)
    loaded (Err stop.BadWords) h = absurd h
    loaded (Err (stop.BadInput why)) h = absurd h
    loaded (Err (stop.NoSuch why)) h = (
      inl (refl, record { blocks = blocks; reads = reads; past = h.0; line_is = ap no_such_line h.1 }),
      read_told,
    )
    loaded (Err (stop.Damaged sequence kind)) h = absurd h
    loaded (Err stop.SourceFailed) h = absurd h
    loaded (Err stop.StoreFailed) h = absurd h
    loaded (Err (stop.NotEmpty count)) h = absurd h
    loaded (Err (stop.BadRange first last)) h = (
      inr (inl (refl, record { blocks = blocks; reads = reads; bad = h.0; line_is = range_is first last from (end_in to blocks) h.1 h.2 })),
      read_told,
    )
    loaded (Err (stop.NotAccepted why)) h = absurd h
    loaded (Err stop.NotPublished) h = absurd h
    loaded (Err stop.OutOfMemory) h = read_told

  works_read : (came : Result (List ℕ) CommandFault) → x.store.after.content ≡ x.store.before.content
      → IsReadFor from to came x.store ⊎ IsUnloaded came x.store → Works same (Some (command.Stream from to)) came x
  works_read came kept (inl read) = loaded read.blocks read.reads came read.streams
  works_read came kept (inr not) =
      subst (λ (r : Result (List ℕ) CommandFault). Works same (Some (command.Stream from to)) r x) (sym not.is)
      (unloaded not.cause not.of_cause kept)

  pub works_stream : (came : Result (List ℕ) CommandFault) → Tells from to came x.store → Works same (Some (command.Stream from to)) came x
  works_stream came h = works_read came h.1 h.0
