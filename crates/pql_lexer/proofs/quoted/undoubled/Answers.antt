use Rattle.std.proofs.Common.{ℕ, List, ap, ◌∙◌}
use Rattle.pql_lexer.proofs.QuotedBytes.{put, left_out}
use Rattle.pql_lexer.proofs.quoted.undoubled.Goals as goal
use Rattle.pql_lexer.proofs.quoted.undoubled.Goals.{then-after, else-after+in_ok-push}

pub loop-byte-preserved : goal.loop-byte-preserved
loop-byte-preserved c =
    let bytes : List ℕ = c.args.bytes.now in
    let at : ℕ = c.loop-byte.byte-index in
    elim c.if-after.branch [
      | then-after w ↦
          left_out c.args.quote at bytes c.loop-byte.out.items c.if-after.out.items c.loop-byte.after c.if-after.after c.loop-byte-test.true
          w.if-after.true (ap (λ v. v.items) w.out-is) w.after-is ∙ c.loop-byte.invariant
      | else-after+in_ok-push w ↦
          put c.args.quote at bytes c.loop-byte.out.items c.if-after.out.items c.loop-byte.after c.if-after.after c.loop-byte-test.true
          w.if-after.false (ap (λ v. v.items) w.out-is ∙ w.in_ok-push.ensures.items) w.after-is ∙ c.loop-byte.invariant
    ]
