use Rattle.std.proofs.Common.{◌≡◌, ◌+◌, drop}
use Rattle.std.specs.Prelude.{option_map}
use Rattle.txn_core.specs.Seen.{place_in}
use Rattle.view_rows.specs.Seen.{drafts_seen}
use Rattle.txn_core.proofs.views.place_of.Given as goal

-- the documents in front are others
abbrev pub invariant-loop-at : goal.invariant-loop-at
invariant-loop-at l = place_in (drafts_seen l.documents) l.id.raw ≡ option_map (λ k. l.at + k) (place_in (drafts_seen (drop l.at l.documents)) l.id.raw)
