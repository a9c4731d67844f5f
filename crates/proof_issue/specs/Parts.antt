-- The parts of a proof (QLDB Developer Guide, "Data verification in Amazon QLDB").
use Rattle.std.specs.Prelude.{ℕ, List, ◌∷◌, ◌++◌, map}
use Rattle.ql_types.specs.declared.Hash32.{Hash32}
use Rattle.pad_tree.specs.Paths.{path_of}
use Rattle.ledger_model.specs.declared.block.Block.{Block}
use Rattle.ledger_model.specs.Seals.{info_hash}
use Rattle.proof_model.specs.declared.Proof.{Proof}

-- the proof of the block's revision at an index, with the path from the block up to the digest
abbrev pub proof_with : Block → ℕ → List Hash32 → Proof
proof_with b index above = record {
  header = b.header;
  index = index;
  path = path_of (map (λ r. r.hash) b.revisions) index ++ info_hash b.info b.revisions ∷ b.previous ∷ above;
}
