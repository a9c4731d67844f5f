use Rattle.std.proofs.Common.{◌∙◌, ◌+◌, ap}
use Rattle.ion_binary_out.specs.BinaryText.{symbol_id}
use Rattle.ion_binary_out.proofs.Keys.{place_absent, place_found}
use Rattle.ion_binary_out.proofs.symbols.Symbols.id.Goals as goal

pub returns-in-Some : goal.returns-in-Some
returns-in-Some c =
    ap (λ place. place + 1) (place_found c.self.inside.texts.keys c.args.text.now c.in-Some.index c.in-Some.ensures.index)
    ∙ ap (λ symbols. symbol_id symbols c.args.text.now) c.self.view_is

pub returns-in-None : goal.returns-in-None
returns-in-None c =
    ap (λ len. len + 1) (c.len.ensures.len ∙ place_absent c.self.inside.texts.keys c.args.text.now c.in-None.ensures.index)
    ∙ ap (λ symbols. symbol_id symbols c.args.text.now) c.self.view_is
