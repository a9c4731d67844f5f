use Rattle.std.proofs.Common.{◌∙◌, sym, ap}
use Rattle.ion_binary_out.specs.BinaryText.{with_symbol}
use Rattle.ion_binary_out.proofs.Keys.{texts_after, texts_known, texts_of}
use Rattle.ion_binary_out.proofs.symbols.Symbols.add.Goals as goal

pub returns-then-contains : goal.returns-then-contains
returns-then-contains c =
    sym c.self.view_is
    ∙ texts_known c.self.inside.texts.keys c.args.text.now (sym c.contains.ensures ∙ c.if-contains.true)
    ∙ ap (λ symbols. with_symbol symbols c.args.text.now) c.self.view_is

pub returns : goal.returns
returns c =
    ap texts_of c.in_ok-insert.ensures.keys
    ∙ texts_after c.self.inside.texts.keys c.in_ok-own.own
    ∙ (λ i. with_symbol (c.self.view_is i) (c.in_ok-own.ensures.ok i))
