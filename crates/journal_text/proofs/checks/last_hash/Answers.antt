use Rattle.std.proofs.Common.{◌≡◌, IfOk, sym, subst}
use Rattle.ql_types.specs.declared.Hash32.{Hash32}
use Rattle.journal_text.proofs.Lasts.{last_hash-some, last_hash-none}
use Rattle.journal_text.proofs.checks.last_hash.Goals as goal

pub returns-in-Some : goal.returns-in-Some
returns-in-Some c = sym (last_hash-some c.args.strand.raw c.args.before.now c.in-Some.last.now (sym c.in-Some.ensures))

pub returns-in-None : goal.returns-in-None
returns-in-None c =
    let none = last_hash-none c.args.strand.raw c.args.before.now (sym c.in-None.ensures) in
    subst (λ (x : Hash32). IfOk c.strand_hash.result (λ hash. hash ≡ x)) (sym none) c.strand_hash.ensures
