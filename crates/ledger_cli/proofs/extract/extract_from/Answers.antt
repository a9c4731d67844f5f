use Rattle.std.proofs.Common.{◌≡◌, ◌∙◌, true, rules}
use Rattle.ledger_cli.proofs.Extracting.{truly}
use Rattle.ledger_cli.proofs.extract.extract_from.Goals as goal

pub returns : goal.returns
returns c =
    let b = c.args.bundle.now in
    let is : c.in_ok-is_published.field-0 ≡ true = search (rules, truly) in
    record {
      published = c.in_ok-is_published.ensures.0 is;
      verified = (c.faults_are_exact.ensures b.digest b.revision b.proof).sound c.in_ok-what.ensures.refused;
      extracted = c.in_ok-what.what;
      is = c.in_ok-what.ensures.extracted;
      text_is = c.of_text.ensures ∙ c.in_ok-text.ensures;
    }
