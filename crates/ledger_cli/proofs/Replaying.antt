-- What comes of the records of an input, from the source to the end.
use Rattle.std.proofs.Common.{◌≡◌, ◌∙◌, ◌<◌, ◌≤◌, ◌+◌, ◌^◌, ℕ, true, List, [], ◌∷◌, ◌++◌, length, append-nil, append_assoc, take, drop, get_or, refl, sym, ap, subst, arith, None, Some, Result, Ok, Err, inl, inr}
use Rattle.std.proofs.lemmas.List.{drop_more, take_more, take-append-drop}
use Rattle.ion_model.specs.Read.{Answer, read_text}
use Rattle.ion_pieces.specs.Pieces.{gives, led}
use Rattle.ion_pieces.specs.declared.pieces.PieceReader.{PieceReader}
use Rattle.ion_values.specs.Within.{within}
use Rattle.ion_values.specs.declared.value.Value.{Value}
use Rattle.ledger_model.specs.Journal.{journal_bytes}
use Rattle.outside.specs.Told.{SourceTold, StoreTold}
use Rattle.stream_out.specs.declared.record.Record.{Record}
use Rattle.stream_out.specs.declared.replay.Replay.{Replay}
use Rattle.stream_out.specs.declared.replay.ReplayFault.TheVariants as refused
use Rattle.stream_out.specs.ReadRecords.{IsReadAs}
use Rattle.stream_out.specs.Replays.{Agrees, AreBlocks, DeliveriesRebuild, Holds, IsSettled, block_among}
use Rattle.stream_out.specs.Replays as stream
use Rattle.cli_args.specs.declared.Command.TheVariants as command
use Rattle.laws_history.specs.Calls.{Span}
use Rattle.laws_history.specs.Streams.{WasRead}
use Rattle.cli_model.specs.Calls.{Outside}
use Rattle.cli_model.specs.Inputs.{IsFine, longest}
use Rattle.cli_model.specs.Replays.{AllAgree, AreDelivered, AreRebuilt, AreRecords, IsNoRecord, IsOtherRecord, IsValueOf, StopsAt, deepest_record}
use Rattle.cli_model.specs.Stores.{IsUncalled}
use Rattle.ledger_cli.specs.declared.lines.BadInput.{BadInput}
use Rattle.ledger_cli.specs.declared.lines.BadInput.TheVariants as cause
use Rattle.ledger_cli.specs.declared.command_fault.CommandFault.{CommandFault}
use Rattle.ledger_cli.specs.declared.command_fault.CommandFault.TheVariants as stop
use Rattle.ledger_cli.specs.Bundles.{IsFaulty}
use Rattle.ledger_cli.specs.Ends.{IsTold, Works}
use Rattle.ledger_cli.specs.Replaying.{Ends, HasDelivered, IsUndelivered, ReplaysInput}

-- ---- values

-- the record of a value within its ranges
pub value_of : (r : Record) (v : Value) → IsReadAs v (Some r) → within v ≡ true → IsValueOf r v
value_of r v read is = record { value_is = read.0; is = read.1 is }

-- ---- one value more

records_more : (values : List Value) (records : List Record) (v : Value) (r : Record) → AreRecords values records → IsValueOf r v
    → AreRecords (values ++ v ∷ []) (records ++ r ∷ [])
records_more [] [] v r are is = (is, tt)
records_more [] (s ∷ records) v r are is = absurd are
records_more (u ∷ values) [] v r are is = absurd are
records_more (u ∷ values) (s ∷ records) v r are is = (are.0, records_more values records v r are.1 is)

agree_more : (told records : List Record) (r : Record) → AllAgree told records → Agrees (told ++ records) r
    → AllAgree told (records ++ r ∷ [])
agree_more told [] r all agrees = (subst (λ (xs : List Record). Agrees xs r) (append-nil told) agrees, tt)
agree_more told (s ∷ records) r all agrees = (
  all.0,
  agree_more (told ++ s ∷ []) records r all.1
      (subst (λ (xs : List Record). Agrees xs r) (sym (append_assoc told (s ∷ []) records)) agrees),
)

delivered_more : (values : List Value) (records : List Record) (v : Value) (r : Record) → AreDelivered values records → IsValueOf r v
    → Agrees records r → AreDelivered (values ++ v ∷ []) (records ++ r ∷ [])
delivered_more values records v r d is agrees = record {
  are = records_more values records v r d.are is;
  agree = agree_more [] records r d.agree agrees;
}

-- behind the values before, whose number it has
module _ (before : List Value) (at : ℕ) (count : length before ≡ at) (v : Value) where
  stops : (Is : List Record → Value → Type 0) (records : List Record) → AreDelivered before records → Is records v
      → (more : List Value) → StopsAt (before ++ v ∷ more) at Is
  stops Is records d so more = record {
    before = before;
    value = v;
    behind = more;
    values_are = refl;
    at_is = sym count;
    records = records;
    delivered = d;
    is = so;
  }

  -- it is no record
  pub no_record : (old : Replay) → HasDelivered before old → IsReadAs v None → (more : List Value)
      → IsUndelivered (cause.NotARecord at) (before ++ v ∷ more)
  no_record old has none = stops IsNoRecord has.records has.delivered none

  module _ (old new : Replay) (has : HasDelivered before old) (r : Record) (of_value : IsValueOf r v) where
    -- it is a record that agrees with the others
    pub delivered_so : (u : Unit {0}) → new.from ≡ old.from → stream.Delivers has.records r old (Ok u) new
        → HasDelivered (before ++ v ∷ []) new
    delivered_so u from h = record {
      records = has.records ++ r ∷ [];
      delivered = delivered_more before has.records v r has.delivered of_value h.0.1;
      from = from ∙ has.from;
      holds = h.0.2;
      settled = h.1;
    }

    -- it is one that differs
    pub differs_so : (n : ℕ) → stream.Delivers has.records r old (Err (refused.Differs n)) new → (more : List Value)
        → StopsAt (before ++ v ∷ more) at (IsOtherRecord n)
    differs_so n h =
        stops (IsOtherRecord n) has.records has.delivered
        (record { told = r; of_value = of_value; number_is = h.1; differs = h.2 })

    -- no number is below 0
    pub not_below : (n first : ℕ) → stream.Delivers has.records r old (Err (refused.Below n first)) new → ⊥
    not_below n first h = let less : n < old.from = h.0.1 in absurd (omega (arith, less, has.from))

-- ---- all values

pub none_delivered : (r : Replay) → r.from ≡ 0 → Holds [] r → IsSettled [] r → HasDelivered [] r
none_delivered r from holds settled = record {
  records = [];
  delivered = record { are = tt; agree = tt };
  from = from;
  holds = holds;
  settled = settled;
}

-- one value behind others that stand in front of the rest
module _ (before values more : List Value) (at : ℕ) (v : Value) (less : at < length values) (is : v ≡ get_or values at v) where
  pub next_taken : (before ++ take at values) ++ v ∷ [] ≡ before ++ take (at + 1) values
  next_taken =
      append_assoc before (take at values) (v ∷ [])
      ∙ ap (λ (vs : List Value). before ++ vs) (ap (λ (u : Value). take at values ++ u ∷ []) is ∙ sym (take_more values at v less))

  opened : values ≡ take at values ++ v ∷ drop (at + 1) values
  opened =
      sym (take-append-drop at values)
      ∙ ap (λ (vs : List Value). take at values ++ vs)
      (drop_more values at v less ∙ ap (λ (u : Value). u ∷ drop (at + 1) values) (sym is))

  pub next_opened : (before ++ take at values) ++ v ∷ (drop (at + 1) values ++ more) ≡ (before ++ values) ++ more
  next_opened =
      append_assoc before (take at values) (v ∷ (drop (at + 1) values ++ more))
      ∙ ap (λ (vs : List Value). before ++ vs)
      (sym (append_assoc (take at values) (v ∷ drop (at + 1) values) more) ∙ ap (λ (vs : List Value). vs ++ more) (sym opened))
      ∙ sym (append_assoc before values more)

-- ---- pieces

led_led : (vs ws : List Value) (a : Answer) → led vs (led ws a) ≡ led (vs ++ ws) a
led_led vs ws (Ok xs) = ap (λ (ys : List Value). let a : Answer = Ok ys in a) (sym (append_assoc vs ws xs))
led_led vs ws (Err f) = refl

module _ (input : List ℕ) (values : List Value) (old : PieceReader)
    (text : (more : List ℕ) → read_text deepest_record (input ++ more) ≡ led values (gives old more)) where
  -- one piece more
  pub text_more : (piece : List ℕ) (handed : List Value) (new : PieceReader)
      → ((more : List ℕ) → gives old (piece ++ more) ≡ led handed (gives new more)) → (more : List ℕ)
      → read_text deepest_record ((input ++ piece) ++ more) ≡ led (values ++ handed) (gives new more)
  text_more piece handed new h more =
      ap (read_text deepest_record) (append_assoc input piece more)
      ∙ text (piece ++ more)
      ∙ ap (led values) (h more)
      ∙ led_led values handed (gives new more)

  -- the end of the text
  pub text_ends : (a : Answer) → gives old [] ≡ a → read_text deepest_record input ≡ led values a
  text_ends a h = ap (read_text deepest_record) (sym (append-nil input)) ∙ text [] ∙ ap (led values) h

rebuilt : (values : List Value) (r : Replay) (has : HasDelivered values r) → AreRebuilt has.records r.blocks.list
rebuilt values r has =
    let count : ℕ = length r.blocks.list in
    let next : r.from + count ≡ count = omega (arith, has.from) in
    record {
      are = subst (λ (n : ℕ). AreBlocks has.records n r.blocks.list) has.from has.holds.blocks;
      end = λ less. ap (λ (n : ℕ). block_among has.records n) (sym next)
          ∙ has.settled (subst (λ (n : ℕ). n < 2 ^ 64) (sym next) less);
    }

-- ---- the input

module _ (source : Span SourceTold) (input : List ℕ) (read : WasRead source input) (short : length input ≤ longest)
    (fine : IsFine source) where
  faulty_replays : (why : BadInput) → IsFaulty deepest_record why input → ReplaysInput (Err (stop.BadInput why)) source
  faulty_replays cause.TooLong h = absurd h
  faulty_replays (cause.Faulty fault) h = (record { input = input; read = read; short = short; text_of = h }, fine)
  faulty_replays cause.BadRules h = absurd h
  faulty_replays cause.NoSuchRules h = absurd h
  faulty_replays (cause.Misspelt fault) h = absurd h
  faulty_replays (cause.NotARecord at) h = absurd h
  faulty_replays (cause.RecordDiffers at sequence) h = absurd h

  -- it is no text of values
  pub ends_replays : (why : CommandFault) → Ends input (Err why) → ReplaysInput (Err why) source
  ends_replays stop.BadWords h = absurd h
  ends_replays (stop.BadInput why) h = faulty_replays why h
  ends_replays (stop.NoSuch why) h = absurd h
  ends_replays (stop.Damaged sequence kind) h = absurd h
  ends_replays stop.SourceFailed h = absurd h
  ends_replays stop.StoreFailed h = absurd h
  ends_replays (stop.NotEmpty blocks) h = absurd h
  ends_replays (stop.BadRange from to) h = absurd h
  ends_replays (stop.NotAccepted fault) h = absurd h
  ends_replays stop.NotPublished h = absurd h
  ends_replays stop.OutOfMemory h = fine

  module _ (values : List Value) (reads : read_text deepest_record input ≡ Ok values) where
    pub undelivered_replays : (why : BadInput) → IsUndelivered why values → ReplaysInput (Err (stop.BadInput why)) source
    undelivered_replays cause.TooLong h = absurd h
    undelivered_replays (cause.Faulty fault) h = absurd h
    undelivered_replays cause.BadRules h = absurd h
    undelivered_replays cause.NoSuchRules h = absurd h
    undelivered_replays (cause.Misspelt fault) h = absurd h
    undelivered_replays (cause.NotARecord at) h = (
      record {
        values = values;
        has = record { input = input; read = read; short = short; text_of = reads };
        stops = h;
      },
      fine,
    )
    undelivered_replays (cause.RecordDiffers at sequence) h = (
      record {
        values = values;
        has = record { input = input; read = read; short = short; text_of = reads };
        stops = h;
      },
      fine,
    )

    -- all are
    pub replayed_so : DeliveriesRebuild → (r : Replay) → HasDelivered values r → (text : List ℕ) → text ≡ journal_bytes r.blocks.list
        → ReplaysInput (Ok text) source
    replayed_so law r has text is = (
      record {
        values = values;
        has = record { input = input; read = read; short = short; text_of = reads };
        records = has.records;
        delivered = has.delivered;
        blocks = r.blocks.list;
        rebuilt = rebuilt values r has;
        of_stream = λ journal undamaged delivery.
            (law journal 0 has.records undamaged delivery).1 r has.from has.holds has.settled;
        text_is = is;
      },
      fine,
    )

-- ---- the command

module _ (same : Type 0) (x : Outside) (un : IsUncalled same x.store) where
  told : IsFine x.source → IsTold (Some command.Replay) x
  told fine = record { source = fine; store = inl (ap (λ (t : StoreTold). t.faults) un.told) }

  pub works_replay : (came : Result (List ℕ) CommandFault) → ReplaysInput came x.source → Works same (Some command.Replay) came x
  works_replay (Ok text) h = (
    record {
      values = h.0.values;
      has = h.0.has;
      records = h.0.records;
      delivered = h.0.delivered;
      blocks = h.0.blocks;
      rebuilt = h.0.rebuilt;
      of_stream = h.0.of_stream;
      text_is = h.0.text_is;
    },
    told h.1,
  )
  works_replay (Err stop.BadWords) h = absurd h
  works_replay (Err (stop.BadInput why)) h = (inl (refl, record { cause = _; is = h.0; line_is = refl }), told h.1)
  works_replay (Err (stop.NoSuch why)) h = absurd h
  works_replay (Err (stop.Damaged sequence kind)) h = absurd h
  works_replay (Err stop.SourceFailed) h =
      (inr (refl, record { failed = h; line_is = refl }), inl (ap (λ (t : StoreTold). t.faults) un.told))
  works_replay (Err stop.StoreFailed) h = absurd h
  works_replay (Err (stop.NotEmpty blocks)) h = absurd h
  works_replay (Err (stop.BadRange from to)) h = absurd h
  works_replay (Err (stop.NotAccepted why)) h = absurd h
  works_replay (Err stop.NotPublished) h = absurd h
  works_replay (Err stop.OutOfMemory) h = told h
