-- Which digests and proofs there are none of.
use Rattle.std.specs.Prelude.{ℕ, ◌≡◌, ◌<◌, ◌≤◌, nat_le, nat_lt, List, [], ◌∷◌, length, Option, Some, None, slice_get, if◌then◌else◌}
use Rattle.ledger_model.specs.declared.block.Block.{Block}
use Rattle.proof_issue.specs.declared.NoSuch.{NoSuch}
use Rattle.proof_issue.specs.declared.NoSuch.TheVariants as none_such

-- no block has this number
abbrev pub past_end : List Block → ℕ → Option NoSuch
past_end blocks number = if nat_le (length blocks) number then Some (none_such.Block number (length blocks)) else None

-- no revision of the block has this index
abbrev pub past_revisions : Option Block → ℕ → Option NoSuch
past_revisions None index = None
past_revisions (Some b) index =
    if nat_le b.header.revisions index then Some (none_such.Revision index b.header.revisions) else None

abbrev pub or_then : Option NoSuch → Option NoSuch → Option NoSuch
or_then None next = next
or_then (Some refused) next = Some refused

-- the first that holds of: the tip is no block's, the number is no block's, the block is past the tip, the index is no
-- revision's
abbrev pub refusal : List Block → ℕ → ℕ → ℕ → Option NoSuch
refusal blocks sequence index tip =
    or_then (past_end blocks tip) (or_then (past_end blocks sequence)
    (if nat_lt tip sequence then Some (none_such.PastTip sequence tip)
    else past_revisions (slice_get blocks sequence) index))

-- the same with the last block as the tip, and where there are no blocks, no block has the number
abbrev pub refusal_at_end : List Block → ℕ → ℕ → Option NoSuch
refusal_at_end [] sequence index = Some (none_such.Block sequence 0)
refusal_at_end (b ∷ blocks) sequence index = refusal (b ∷ blocks) sequence index (length blocks)

-- any answer but out of memory is the refusal that there is
abbrev pub IsRefused : Option NoSuch → NoSuch → Type 0
IsRefused refused none_such.OutOfMemory = Unit {0}
IsRefused refused (none_such.Block sequence blocks) = refused ≡ Some (none_such.Block sequence blocks)
IsRefused refused (none_such.Revision index count) = refused ≡ Some (none_such.Revision index count)
IsRefused refused (none_such.PastTip sequence tip) = refused ≡ Some (none_such.PastTip sequence tip)

-- there is such a revision, and its block isn't past the tip
pub record IsThere (blocks : List Block) (b : Block) (sequence index tip : ℕ) : Type 0 where
  pub room : tip < length blocks
  pub within : sequence ≤ tip
  pub at : slice_get blocks sequence ≡ Some b
  pub index_is : index < b.header.revisions
