use Rattle.std.proofs.Common.{◌≡◌, ◌≤◌, ◌+◌, Err, ap, ◌∙◌, sym, subst, length, arith}
use Rattle.ion_model.specs.Lex.{lex}
use Rattle.ion_model.specs.Table.{accept}
use Rattle.ion_model.specs.Read.{Answer, go_on, refused}
use Rattle.ion_text.specs.Stream.{open_of, Gives}
use Rattle.ion_text.specs.declared.stream.ReadFault.{ReadFault}
use Rattle.ion_text.proofs.Passed.{behind, turned, passed}
use Rattle.ion_text.proofs.stream.read_utf8.Goals as goal

-- a fault is that of the whole text
of_whole : (fault : ReadFault) (a b : Answer) → Gives (Err fault) a → b ≡ a → Gives (Err fault) b
of_whole fault a b h e = subst (Gives (Err fault)) (sym e) h

pub loop-at-preserved-in-Blank : goal.loop-at-preserved-in-Blank
loop-at-preserved-in-Blank c =
    let at = c.loop-at.at in
    let more = c.in-Blank.more in
    let bytes = c.args.bytes.now in
    let fs = open_of c.loop-at.reader in
    let within = rw c.in-Blank.is at c.in_ok-more.ensures.within in
    let fits : at + (more + 1) ≤ length bytes = omega (arith, within, c.split_at.ensures.back_len, c.loop-at-test.true) in
    record {
      within = fits;
      same =
          sym (passed c.args.depth at more fs bytes fits)
          ∙ sym (turned c.args.depth at fs bytes _ c.loop-at-test.true (sym c.in-Blank.is ∙ c.in_ok-more.ensures.value ∙ ap lex c.split_at.ensures.back))
          ∙ c.loop-at.invariant.same;
    }

pub loop-at-preserved : goal.loop-at-preserved
loop-at-preserved c =
    let at = c.loop-at.at in
    let more = c.in-Token.more in
    let bytes = c.args.bytes.now in
    let gs = open_of c.accept.new.self in
    let within = rw c.in-Token.is at c.in_ok-more.ensures.within in
    let fits : at + (more + 1) ≤ length bytes = omega (arith, within, c.split_at.ensures.back_len, c.loop-at-test.true) in
    record {
      within = fits;
      same =
          sym (passed c.args.depth at more gs bytes fits)
          ∙ ap (go_on at (behind c.args.depth at bytes more)) (sym c.in-Ok.ensures)
          ∙ sym (turned c.args.depth at (open_of c.loop-at.reader) bytes _ c.loop-at-test.true (sym c.in-Token.is ∙ c.in_ok-more.ensures.value ∙ ap lex c.split_at.ensures.back))
          ∙ c.loop-at.invariant.same;
    }

pub returns-in-Err-Kind : goal.returns-in-Err-Kind
returns-in-Err-Kind c =
    let at = c.loop-at.at in
    let bytes = c.args.bytes.now in
    let fs = open_of c.loop-at.reader in
    let not_taken : accept c.args.depth fs c.in-Token.token ≡ Err c.in-Err-Kind.kind = rw c.in-Err-Kind.field-0-is at c.in-Err-Kind.ensures in
    of_whole _ _ _ c.refused.ensures
    (sym c.loop-at.invariant.same
    ∙ turned c.args.depth at fs bytes _ c.loop-at-test.true (sym c.in-Token.is ∙ c.in_ok-more.ensures.value ∙ ap lex c.split_at.ensures.back)
    ∙ ap (go_on at (behind c.args.depth at bytes c.in-Token.more)) not_taken
    ∙ ap (refused at) (sym c.in-Err-Kind.kind-is))

pub returns-in-Refused : goal.returns-in-Refused
returns-in-Refused c =
    of_whole _ _ _ c.refused-in-Refused.ensures
    (sym c.loop-at.invariant.same
    ∙ turned c.args.depth c.loop-at.at (open_of c.loop-at.reader) c.args.bytes.now _ c.loop-at-test.true (sym c.in-Refused.is ∙ c.in_ok-more.ensures.value ∙ ap lex c.split_at.ensures.back))

pub returns-in-Cut : goal.returns-in-Cut
returns-in-Cut c =
    of_whole _ _ _ c.refused-in-Cut.ensures
    (sym c.loop-at.invariant.same
    ∙ turned c.args.depth c.loop-at.at (open_of c.loop-at.reader) c.args.bytes.now _ c.loop-at-test.true (sym c.in-Cut.is ∙ c.in_ok-more.ensures.value ∙ ap lex c.split_at.ensures.back))
