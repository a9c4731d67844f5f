use Rattle.std.proofs.Common.{◌++◌, ap, ◌∙◌}
use Rattle.std.proofs.lemmas.List.{append_assoc}
use Rattle.ion_pieces.specs.Pieces.{gives}
use Rattle.ion_pieces.proofs.pieces.PieceReader.take.Goals as goal

pub returns-clause-gives : goal.returns-clause-gives
returns-clause-gives c =
    let front = c.split_at.result.0.now in
    let rest = c.split_at.result.1.now in
    λ more.
    ap (λ y. gives c.args.self (y ++ more)) c.split_at.ensures.by_index.0
    ∙ ap (λ y. gives c.args.self y) (append_assoc front rest more)
    ∙ c.in_ok-ended.ensures (rest ++ more)
    ∙ c.in_ok-whole.ensures more
    ∙ c.hand_out.ensures.led more
