use Rattle.std.proofs.Common.{◌≡◌, ℕ, true, List, [], ◌∷◌, Some, ap, ◌∙◌, arith}
use Rattle.std.proofs.lemmas.Bool.Decides.{nat_tests}
use Rattle.ion_model.specs.Escapes.{piece}
use Rattle.ion_lexer.specs.Pieces.{piece_of}
use Rattle.ion_lexer.specs.Quotes.{front_of, is_plain}
use Rattle.ion_lexer.specs.declared.texts.Quotes.{Quotes}
use Rattle.ion_lexer.specs.declared.texts.Quotes.TheVariants.{Double, Single, Triple}
use Rattle.ion_lexer.specs.declared.texts.Content.{Content}
use Rattle.ion_lexer.proofs.Reading.{run_done, all_read, none_in_front, piece_read}
use Rattle.ion_lexer.proofs.texts.pieces.Goals as goal

plain_front : (quotes : Quotes) (content : Content) (b : ℕ) (z : List ℕ) → is_plain quotes b ≡ true → front_of quotes content b z ≡ Some (piece 0 (b ∷ []))
plain_front Double content b z plain = grind (arith, nat_tests)
plain_front Single content b z plain = grind (arith, nat_tests)
plain_front Triple content b z plain = grind (arith, nat_tests)

pub returns-in_default : goal.returns-in_default
returns-in_default c =
    let front = front_of c.args.quotes c.args.content in
    let reads = run_done front (is_plain c.args.quotes) (plain_front c.args.quotes c.args.content) _ _ _ _ _ _ _ c.pieces.invariant c.plain_len.ensures.value c.split_at.ensures.front c.split_at.ensures.back c.in_ok-extend_from_slice.ensures.items in
    ap Some c.from_vec.ensures ∙ all_read front _ _ _ reads c.in_default.ensures.cases

pub returns-in_default-front : goal.returns-in_default-front
returns-in_default-front c =
    let front = front_of c.args.quotes c.args.content in
    let reads = run_done front (is_plain c.args.quotes) (plain_front c.args.quotes c.args.content) _ _ _ _ _ _ _ c.pieces.invariant c.plain_len.ensures.value c.split_at.ensures.front c.split_at.ensures.back c.in_ok-extend_from_slice.ensures.items in
    none_in_front front _ _ _ _ _ reads c.in-Some.ensures.cases.0 c.in_default-front.ensures

pub pieces-preserved : goal.pieces-preserved
pieces-preserved c =
    let front = front_of c.args.quotes c.args.content in
    let reads = run_done front (is_plain c.args.quotes) (plain_front c.args.quotes c.args.content) _ _ _ _ _ _ _ c.pieces.invariant c.plain_len.ensures.value c.split_at.ensures.front c.split_at.ensures.back c.in_ok-extend_from_slice.ensures.items in
    piece_read front _ _ _ _ _ _ _ (piece_of c.in-Some-front.piece) reads c.in-Some.ensures.cases.0 c.in-Some-front.ensures c.in_ok-put.ensures c.behind-rest.ensures
