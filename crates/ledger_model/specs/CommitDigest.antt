-- The digest that a commit sends of its transaction (Amazon QLDB API reference, "CommitTransactionRequest"). Hashes of
-- values are those of Ion Hash, and those of two hashes are as in "Data verification in Amazon QLDB".
use Rattle.std.specs.Prelude.{ℕ, List, fold}
use Rattle.hash_model.specs.Serialize.{hash_of}
use Rattle.hash_model.specs.PairHash.{dot32}
use Rattle.ion_values.specs.declared.value.Value.{Value}
use Rattle.ql_types.specs.declared.Hash32.{Hash32}
use Rattle.ql_types.specs.declared.TxId.{TxId}
use Rattle.ledger_model.specs.declared.script.Request.{Request}
use Rattle.ledger_model.specs.Journal.{id_value, string}

-- it starts as the hash of the transaction's id, a string
abbrev pub first_digest : TxId → Hash32
first_digest tx = hash_of (id_value tx.raw)

-- a statement's hash is that of its text, a string, with the hash of each parameter in turn
abbrev pub statement_hash : List ℕ → List Value → Hash32
statement_hash text params = fold (λ so_far param. dot32 so_far (hash_of param)) (hash_of (string text)) params

-- a statement is folded into the digest by its hash
abbrev pub with_statement : Hash32 → List ℕ → List Value → Hash32
with_statement digest text params = dot32 digest (statement_hash text params)

-- the digest of a transaction with these statements
abbrev pub commit_digest : TxId → List Request → Hash32
commit_digest tx asked = fold (λ digest r. with_statement digest r.text r.params) (first_digest tx) asked
