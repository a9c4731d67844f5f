use Rattle.std.proofs.Common.{◌≡◌, length, rules}
use Rattle.id_seed.specs.Seed.{mask_of}
use Rattle.laws_history.specs.Calls.{span}
use Rattle.ledger_cli.proofs.Making.{has_blocks}
use Rattle.ledger_cli.proofs.make.make_if_empty.Goals as goal

pub returns : goal.returns
returns g c before has =
    let told = g.S.JournalStore.told in
    let long : c.len-blocks.result ≡ length c.args.tail.standing.blocks = search rules in
    let some : c.len-blocks.result ≡ 0 → ⊥ = search rules in
    rw (c.into_parts-blocks.ensures.store)
    (has_blocks told c.args.options (mask_of c.args.options.seed) before c.args.tail
    (span (g.C.Clock.answers c.args.tail.clock) (g.C.Clock.answers c.into_parts-blocks.result.2)) c.len-blocks.result has long some)
