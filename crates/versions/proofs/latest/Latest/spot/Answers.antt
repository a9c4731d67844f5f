use Rattle.std.proofs.Common.{◌≡◌, ℕ, Option, length, sym, ap, ◌∙◌}
use Rattle.std.specs.Option.{unwrap_or}
use Rattle.versions.proofs.Lookups.{document_at, document_nowhere}
use Rattle.versions.proofs.latest.Latest.spot.Goals as goal

pub returns-in-Some : goal.returns-in-Some
returns-in-Some c =
    let place = sym c.place_of.ensures ∙ c.in-Some.is in
    record {
      place = sym (ap (λ (o : Option ℕ). unwrap_or o (length c.args.self.now)) place);
      stood = c.get.ensures ∙ document_at c.args.self.now c.args.id.raw c.in-Some.at place;
    }

pub returns-in-None : goal.returns-in-None
returns-in-None c =
    let place = sym c.place_of.ensures ∙ c.in-None.is in
    record {
      place = c.len.ensures ∙ sym (ap (λ (o : Option ℕ). unwrap_or o (length c.args.self.now)) place);
      stood = document_nowhere c.args.self.now c.args.id.raw place;
    }
