use Rattle.std.proofs.Common.{◌≡◌, ◌++◌, ◌∷◌, [], List, Option, IfSome, All, arith, subst, sym}
use Rattle.std.proofs.lemmas.List.Elements.{All-push}
use Rattle.journal_text.specs.declared.shares.ReadLine.{ReadLine}
use Rattle.journal_text.specs.Shares.{IsReadIn}
use Rattle.journal_text.proofs.ReadyLines.{in_piece}
use Rattle.journal_text.proofs.shares.read_lines.Goals as goal

pub lines-preserved : goal.lines-preserved
lines-preserved c =
    let piece = c.args.piece.now in
    let line = c.in-Some.line in
    let is = subst (λ (x : Option ReadLine). IfSome x (λ l. (l.from ≡ c.lines.at) × IsReadIn piece l)) c.in-Some.is c.in_ok-line.ensures in
    let from = is.0 in
    let end = in_piece piece line is.1 in
    record {
      within = omega (arith, from, end);
      read = subst (λ (ls : List ReadLine). All (IsReadIn piece) ls) (sym c.in_ok-push.ensures.items) (All-push (IsReadIn piece) c.lines.lines.items line c.lines.invariant.read is.1);
    }
