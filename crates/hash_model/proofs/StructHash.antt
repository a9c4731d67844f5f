-- The hash of a struct is that of its value.
use Rattle.std.proofs.Common.{◌≡◌, ℕ, List, sym, ap}
use Rattle.sha2.specs.Sha256.{sha256}
use Rattle.ql_types.specs.declared.Hash32.{Hash32}
use Rattle.ion_values.specs.declared.value.Value.{Value}
use Rattle.hash_model.specs.Serialize.{hash_of, serialize, struct_bytes, struct_hash}

pub struct_hash-is : (hashes : List (List ℕ)) (v : Value) → serialize v ≡ struct_bytes hashes → struct_hash hashes ≡ hash_of v
unfolding struct_hash hash_of
struct_hash-is hashes v same = ap (λ (bytes : List ℕ). let h : Hash32 = record { bytes = sha256 bytes } in h) (sym same)
