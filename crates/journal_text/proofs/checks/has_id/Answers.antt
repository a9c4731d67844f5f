use Rattle.std.proofs.Common.{◌≡◌, ◌∙◌, ◌&&◌, ◌==◌, ◌^◌, Bool, true, false, not, refl, sym, ap}
use Rattle.std.specs.Prelude.{nat_le, nat_lt}
use Rattle.ql_types.specs.Ids.{transaction_in, thing_in}
use Rattle.journal_text.specs.Stands.{has_transaction}
use Rattle.journal_text.proofs.checks.has_id.Goals as goal

last_alone : (a b c d : Bool) → (a && b && c) ≡ true → d ≡ (a && b && c && d)
last_alone true true true d e = refl
last_alone true true false d e = cc
last_alone true false c d e = cc
last_alone false b c d e = cc

pub returns-then-is_transaction : goal.returns-then-is_transaction
returns-then-is_transaction c = λ before h.
    let strand = c.args.strand.raw in
    let tx = c.args.block.now.header.tx.raw in
    let number = transaction_in strand tx in
    ap not (c.has_transaction.ensures strand before h)
    ∙ last_alone (nat_le 1 number) (nat_lt number (2 ^ 64)) (thing_in strand tx == 0) (not (has_transaction before tx)) (sym c.is_transaction.ensures ∙ c.if-is_transaction.true)
