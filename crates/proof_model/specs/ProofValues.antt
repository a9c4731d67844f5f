-- Digests and proofs as Ion values (QLDB Developer Guide, "Data verification in Amazon QLDB", for the digest; the
-- form of a proof is the ledger's own).
use Rattle.std.specs.Prelude.{◌^◌, ◌&&◌, Bool, nat_lt, [], ◌∷◌, map, codes}
use Rattle.std.specs.List.{list_all}
use Rattle.ion_values.specs.declared.value.Value.{Value}
use Rattle.ledger_model.specs.Values.{field}
use Rattle.ledger_model.specs.Journal.{number, structure, list, hash_value, address_value, header_value}
use Rattle.ledger_model.specs.Whole.{hash_fits, address_fits, header_fits}
use Rattle.proof_model.specs.declared.Digest.{Digest}
use Rattle.proof_model.specs.declared.Proof.{Proof}

abbrev pub digest_value : Digest → Value
digest_value d =
    structure (field (codes "digest") (hash_value d.digest)
    ∷ field (codes "digestTipAddress") (address_value d.tip) ∷ [])

abbrev pub proof_value : Proof → Value
proof_value p = structure (
    field (codes "header") (header_value p.header) ∷ field (codes "index") (number p.index)
    ∷ field (codes "path") (list (map hash_value p.path)) ∷ [])

-- ---- what fits its type

abbrev pub digest_fits : Digest → Bool
digest_fits d = hash_fits d.digest && address_fits d.tip

abbrev pub proof_fits : Proof → Bool
proof_fits p = header_fits p.header && nat_lt p.index (2 ^ 32) && list_all hash_fits p.path
