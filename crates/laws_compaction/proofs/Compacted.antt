-- What a journal keeps when it is compacted.
use Rattle.std.proofs.Common.{◌≡◌, ◌∙◌, ◌==◌, ℕ, Bool, true, not, ◌&&◌, List, [], ◌∷◌, ◌++◌, map, refl, sym, ap}
use Rattle.std.specs.Prelude.{int_le, nat_le, nat_lt, ◌-◌, ◌^◌}
use Rattle.std.proofs.lemmas.List.{map-append}
use Rattle.ion_values.specs.Time.{instant_of}
use Rattle.ql_types.specs.Ids.{transaction_in, thing_in}
use Rattle.ql_types.specs.declared.Hash32.{Hash32}
use Rattle.ledger_model.specs.declared.block.Block.{Block}
use Rattle.ledger_model.specs.Compaction.{compacted, compacted_block, compacted_from}
use Rattle.ledger_model.specs.Damages.{Undamaged, UndamagedBehind, has_address, has_id, has_previous, has_time, same_hash, strand_of}
use Rattle.ledger_model.specs.Follows.{follows, redactions_follow}
use Rattle.ledger_model.specs.State.{State, after, empty, state}
use Rattle.laws_validity.proofs.Journals.{Passes, no_damage, passes_all, state_push}
use Rattle.laws_compaction.specs.Laws.{CompactionKeeps}
use Rattle.laws_compaction.proofs.Asked.{asked}
use Rattle.laws_compaction.proofs.Before.{marked, same_any, same_hash_before, same_last, same_length, same_redacted, same_strand}
use Rattle.laws_compaction.proofs.Digests.{digests}
use Rattle.laws_compaction.proofs.Follows.{follows_hidden, redactions_hidden}
use Rattle.laws_compaction.proofs.Hashes.{hashes_hold}
use Rattle.laws_compaction.proofs.Shown.{after_hidden, hidden, state_is}
use Rattle.laws_compaction.proofs.Keeps.{again, hashes_stay}
use Rattle.laws_compaction.proofs.Whole.{whole}

-- what blocks and their compacted ones agree in
record Behind (blocks before shown : List Block) : Type 0 where
  marks : map marked shown ≡ map marked before
  state_is : state shown ≡ hidden blocks (state before)

module _ (blocks : List Block) where
  one_more : (before shown : List Block) (b : Block) (later : List Block) → Behind blocks before shown
      → Behind blocks (before ++ b ∷ []) (shown ++ compacted_block blocks b later ∷ [])
  one_more before shown b later h = record {
    marks = map-append marked shown (compacted_block blocks b later ∷ [])
        ∙ ap (λ (bs : List Block). bs ++ marked b ∷ []) h.marks ∙ sym (map-append marked before (b ∷ []));
    state_is = state_push shown empty (compacted_block blocks b later)
        ∙ ap (λ (s : State). after s (compacted_block blocks b later)) h.state_is
        ∙ after_hidden blocks (state before) b later
        ∙ ap (λ (s : State). hidden blocks s) (sym (state_push before empty b));
  }

  module _ (before shown : List Block) (b : Block) (later : List Block) (h : Behind blocks before shown)
      (p : Passes before b) where
    abbrev new : Block
    new = compacted_block blocks b later

    strand : strand_of shown new ≡ strand_of before b
    strand = same_strand before shown h.marks b new refl

    address : has_address (strand_of shown new) shown new ≡ true
    address =
        ap (λ (n : ℕ). (b.header.address.sequence == n) && nat_le n (2 ^ 32 - 2) &&
        (b.header.address.strand.raw == strand_of shown new))
        (same_length before shown h.marks)
        ∙ ap (λ (m : ℕ). has_address m before b) strand ∙ p.address

    id : has_id (strand_of shown new) shown new ≡ true
    id =
        ap (λ (x : Bool). nat_le 1 (transaction_in (strand_of shown new) b.header.tx.raw)
        && nat_lt (transaction_in (strand_of shown new) b.header.tx.raw) (2 ^ 64)
        && (thing_in (strand_of shown new) b.header.tx.raw == 0) && not x)
        (same_any before shown h.marks (λ (earlier : Block). earlier.header.tx.raw == b.header.tx.raw) (λ x. refl))
        ∙ ap (λ (m : ℕ). has_id m before b) strand ∙ p.id

    time : has_time shown new ≡ true
    time =
        same_last before shown h.marks
        (λ (last : Block). int_le (instant_of last.header.time) (instant_of b.header.time)) (λ x. refl)
        ∙ p.time

    previous : has_previous (strand_of shown new) shown new ≡ true
    previous =
        ap (λ (hash : Hash32). same_hash b.previous hash) (same_hash_before before shown h.marks (strand_of shown new))
        ∙ ap (λ (m : ℕ). has_previous m before b) strand ∙ p.previous

    follows_is : follows (strand_of shown new) (state shown) new ≡ true
    follows_is =
        ap (λ (s : State). follows (strand_of shown new) s new) h.state_is
        ∙ ap (λ (m : ℕ). follows m (hidden blocks (state before)) new) strand
        ∙ follows_hidden blocks (strand_of before b) (state before) b later ∙ p.follows_is

    redactions : redactions_follow shown (state shown).revisions [] b.info.schema ≡ true
    redactions =
        ap (λ (s : State). redactions_follow shown s.revisions [] b.info.schema) h.state_is
        ∙ redactions_hidden blocks before shown (same_redacted before shown h.marks)
        (state before).revisions [] b.info.schema
        ∙ p.redactions

    passes : Passes shown new
    passes = record {
      address = address;
      id = id;
      time = time;
      previous = previous;
      hashes = hashes_hold blocks b later ∙ p.hashes;
      follows_is = follows_is;
      redactions = redactions;
    }

  undamaged_from : (bs before shown : List Block) → Behind blocks before shown → UndamagedBehind before bs
      → UndamagedBehind shown (compacted_from blocks bs)
  undamaged_from [] before shown h u = tt
  undamaged_from (b ∷ later) before shown h u = (
    whole blocks b later u.0,
    no_damage shown (compacted_block blocks b later) (passes before shown b later h (passes_all before b u.1)),
    undamaged_from later (before ++ b ∷ []) (shown ++ compacted_block blocks b later ∷ [])
        (one_more before shown b later h) u.2,
  )

  undamaged : Undamaged blocks → Undamaged (compacted blocks)
  undamaged u = undamaged_from blocks [] [] (record { marks = refl; state_is = refl }) u

pub compaction_keeps : CompactionKeeps
compaction_keeps blocks u a = record {
  undamaged = undamaged blocks u;
  asked = asked blocks a;
  hashes = hashes_stay blocks;
  state_is = state_is blocks u;
  digests = digests blocks;
  again = again blocks;
}
