use Rattle.std.proofs.Common.{◌≡◌, map, take}
use Rattle.ion_values.specs.declared.value.Body.TheVariants as body
use Rattle.ledger_model.specs.Values.{plain}
use Rattle.ledger_model.specs.Journal.{hash_bytes}
use Rattle.block_form.proofs.values.entry_hash_values.Given as goal

abbrev pub invariant-loop-hash : goal.invariant-loop-hash
invariant-loop-hash l = l.values ≡ map (λ h. plain (body.Blob (hash_bytes h))) (take l.hash-index l.hashes)
