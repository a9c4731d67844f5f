use Rattle.std.proofs.Common.{rules}
use Rattle.ql_types.proofs.Masks.{made_of_parts}
use Rattle.ql_types.proofs.id_parts.Goals as goal

pub returns-clause-made : goal.returns-clause-made
returns-clause-made c = made_of_parts c.args.raw c.args.mask.bits c.in_ok-n.n (search rules)
