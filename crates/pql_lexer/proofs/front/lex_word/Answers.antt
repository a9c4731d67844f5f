use Rattle.std.proofs.Common.{◌∙◌, ap}
use Rattle.std.specs.List.{prefix_len}
use Rattle.ion_model.specs.Words.{is_word_char, begins_word}
use Rattle.ion_lexer.proofs.Small.{front_small, word_char_small, word_start_small}
use Rattle.pql_lexer.proofs.front.lex_word.Goals as goal

pub ascii-requires : goal.ascii-requires
ascii-requires c =
    let counted = c.word_chars-more.ensures.value ∙ ap (prefix_len is_word_char) c.split_at.ensures.back in
    rw c.split_at-2.ensures.front (front_small begins_word is_word_char word_start_small word_char_small c.word_chars-more.result c.args.bytes.now c.requires.some counted c.requires.begins)
