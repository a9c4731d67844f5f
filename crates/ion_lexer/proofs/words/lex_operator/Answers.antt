use Rattle.std.proofs.Common.{◌∙◌, ap}
use Rattle.std.specs.List.{prefix_len}
use Rattle.ion_model.specs.Words.{is_operator}
use Rattle.ion_lexer.proofs.Small.{front_small, operator_small}
use Rattle.ion_lexer.proofs.words.lex_operator.Goals as goal

pub ascii-requires : goal.ascii-requires
ascii-requires c =
    let counted = c.operator_chars-more.ensures.value ∙ ap (prefix_len is_operator) c.split_at.ensures.back in
    rw c.split_at-2.ensures.front (front_small is_operator is_operator operator_small operator_small c.operator_chars-more.result c.args.bytes.now c.requires.some counted c.requires.begins)
