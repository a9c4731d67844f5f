-- Digests and proofs read back from values (Ion 1.0, "The Ion data model"): each reading gives the part whose value
-- it is given, and None for a value of no part. Fields stand in the written order, with none beside them.
use Rattle.std.specs.Prelude.{ℕ, ◌^◌, List, [], ◌∷◌, codes, Option, Some, None}
use Rattle.ion_values.specs.declared.value.Value.{Value}
use Rattle.ion_values.specs.declared.value.Field.{Field}
use Rattle.ql_types.specs.declared.Hash32.{Hash32}
use Rattle.ledger_model.specs.declared.block.Header.{Header}
use Rattle.ledger_model.specs.Values.{list_in, fields_in}
use Rattle.ledger_model.specs.Script.{and_then, each}
use Rattle.value_codec.specs.ReadParts.{named, number_in, hash_in, address_in}
use Rattle.block_form.specs.ReadBack.{header_of as front_of}
use Rattle.proof_model.specs.declared.Digest.{Digest}
use Rattle.proof_model.specs.declared.Proof.{Proof}

abbrev pub digest_of : List Field → Option Digest
digest_of (f ∷ g ∷ []) =
    and_then (and_then (named (codes "digest") f) hash_in) (λ digest.
    and_then (and_then (named (codes "digestTipAddress") g) address_in) (λ tip.
    Some (record { digest = digest; tip = tip })))
digest_of _ = None

abbrev pub digest_in : Value → Option Digest
digest_in v = and_then (fields_in v) digest_of

-- the fields in front of the count are those in front of a block's hashes
abbrev pub header_of : List Field → Option Header
header_of (f ∷ g ∷ h ∷ i ∷ []) =
    and_then (and_then (named (codes "revisionCount") i) (number_in (2 ^ 32)))
    (λ revisions. front_of revisions (f ∷ g ∷ h ∷ []))
header_of _ = None

abbrev pub header_in : Value → Option Header
header_in v = and_then (fields_in v) header_of

abbrev pub hashes_in : Value → Option (List Hash32)
hashes_in v = and_then (list_in v) (each hash_in)

-- a header and an index
abbrev pub place_of : Field → Field → Option (Header × ℕ)
place_of f g =
    and_then (and_then (named (codes "header") f) header_in) (λ header.
    and_then (and_then (named (codes "index") g) (number_in (2 ^ 32))) (λ index. Some (header, index)))

abbrev pub proof_of : List Field → Option Proof
proof_of (f ∷ g ∷ h ∷ []) =
    and_then (place_of f g) (λ place.
    and_then (and_then (named (codes "path") h) hashes_in) (λ path.
    Some (record { header = place.0; index = place.1; path = path })))
proof_of _ = None

abbrev pub proof_in : Value → Option Proof
proof_in v = and_then (fields_in v) proof_of
