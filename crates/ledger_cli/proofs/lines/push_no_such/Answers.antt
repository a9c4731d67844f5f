use Rattle.std.proofs.Common.{◌≡◌, ◌∙◌, ◌++◌, ℕ, ap₂, sym, subst, rules}
use Rattle.std.specs.Prelude.{codes}
use Rattle.std.specs.Fmt.{decimal}
use Rattle.proof_issue.specs.declared.NoSuch.{NoSuch}
use Rattle.cli_model.specs.Lines.{no_such_text}
use Rattle.ledger_cli.proofs.lines.push_no_such.Goals as goal

pub returns-in_ok-push_two-in-Block : goal.returns-in_ok-push_two-in-Block
returns-in_ok-push_two-in-Block c =
    subst (λ (r : NoSuch). c.push_two.new.line ≡ c.args.line.now ++ no_such_text r) (sym c.in-Block.is) c.in_ok-push_two-in-Block.ensures

pub returns-in_ok-push_two-in-Revision : goal.returns-in_ok-push_two-in-Revision
returns-in_ok-push_two-in-Revision c =
    let index : c.from.result ≡ c.in-Revision.index = search rules in
    let count : c.from-in-Revision.result ≡ c.in-Revision.count = search rules in
    subst (λ (r : NoSuch). c.push_two-in-Revision.new.line ≡ c.args.line.now ++ no_such_text r) (sym c.in-Revision.is)
    (c.in_ok-push_two-in-Revision.ensures
    ∙ ap₂ (λ (i n : ℕ). c.args.line.now ++ (codes "kind:NoSuchRevision,index:" ++ decimal i ++ codes ",count:" ++ decimal n)) index count)

pub returns-in_ok-push_str-in-OutOfMemory : goal.returns-in_ok-push_str-in-OutOfMemory
returns-in_ok-push_str-in-OutOfMemory c =
    subst (λ (r : NoSuch). c.push_str.new.self ≡ c.args.line.now ++ no_such_text r) (sym c.in-OutOfMemory.is) c.in_ok-push_str-in-OutOfMemory.ensures.ok
