use Rattle.std.proofs.Common.{◌≡◌, ℕ, ◌==◌, ◌&&◌, not, true, List, get_or, sym, ◌∙◌, arith}
use Rattle.pql_lexer.proofs.QuotedBytes.{byte_read}
use Rattle.pql_lexer.proofs.quoted.to_quote.Goals as goal

pub loop-at-preserved : goal.loop-at-preserved
loop-at-preserved c =
    let bytes : List ℕ = c.args.bytes.now in
    let quote : ℕ = c.args.quote in
    let at : ℕ = c.loop-at.at in
    let second : c.loop-at.after ≡ true → get_or bytes at 0 ≡ quote = λ after. grind arith in
    let next : c.if-not-after.after ≡ (not c.loop-at.after && (get_or bytes at 0 == quote)) = grind arith in
    record {
      same = sym (byte_read quote at bytes c.loop-at.after c.if-not-after.after c.loop-at-test.true second next) ∙ c.loop-at.invariant.same;
      some = λ _. omega arith;
    }
