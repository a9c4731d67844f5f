use Rattle.std.proofs.Common.{Option, sym, subst}
use Rattle.block_form.specs.declared.part_hashes.PartHashes.{PartHashes}
use Rattle.block_form.specs.Hashed.{TellParts}
use Rattle.block_form.proofs.Hashing.{part_hashes_tell}
use Rattle.block_form.proofs.part_hashes.part_hashes_in.Goals as goal

pub returns : goal.returns
returns c = subst (λ (x : Option PartHashes). TellParts c.args.v.now x) (sym c.in_ok-found.ensures) (part_hashes_tell c.args.v.now)
