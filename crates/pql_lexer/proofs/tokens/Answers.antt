use Rattle.std.proofs.Common.{◌≡◌, ◌≤◌, ◌+◌, ◌++◌, ℕ, List, [], ◌∷◌, ap, ◌∙◌, sym, drop, length, length-drop, append_assoc, arith}
use Rattle.std.proofs.lemmas.List.{take_rest}
use Rattle.pql_model.specs.declared.token.Lexed.TheVariants as lexed
use Rattle.pql_model.specs.declared.token.Located.{Located}
use Rattle.pql_model.specs.declared.token.Token.{Token}
use Rattle.pql_model.specs.Tokens.{lex, tokens_from}
use Rattle.pql_lexer.specs.Lexing.{asked_behind}
use Rattle.pql_lexer.proofs.LexTurns.{asked_grows, behind, passed, put, turned}
use Rattle.pql_lexer.proofs.tokens.Goals as goal

pub tokens-preserved-in-Blank : goal.tokens-preserved-in-Blank
tokens-preserved-in-Blank c =
    let at : ℕ = c.tokens.at in
    let asked : ℕ = c.tokens.asked in
    let more : ℕ = c.in-Blank.more in
    let text : List ℕ = c.args.text.now in
    let read : lexed.Blank more ≡ lex asked (drop at text) = sym c.in-Blank.is ∙ c.in_ok-more.ensures.value ∙ ap (lex asked) (take_rest text at) in
    let within = rw c.in-Blank.is at c.in_ok-more.ensures.within in
    let fits : at + (more + 1) ≤ length text = omega (arith, within, ap length (take_rest text at), length-drop at text, c.tokens-test.true) in
    record {
      within = fits;
      asked = omega arith;
      same =
          ap (λ ls. c.tokens.tokens ++ ls) (sym (passed asked at more text fits) ∙ sym (turned asked at text (lexed.Blank more) c.tokens-test.true read))
          ∙ c.tokens.invariant.same;
    }

pub asked_behind-asked-requires : goal.asked_behind-asked-requires
asked_behind-asked-requires c =
    let at : ℕ = c.tokens.at in
    let asked : ℕ = c.tokens.asked in
    let text : List ℕ = c.args.text.now in
    let read : lexed.Token c.in-Token.token c.in-Token.more ≡ lex asked (drop at text) = sym c.in-Token.is ∙ c.in_ok-more.ensures.value ∙ ap (lex asked) (take_rest text at) in
    omega (arith, asked_grows asked c.in-Token.more c.in-Token.token (drop at text) read, c.tokens.invariant.asked, c.tokens-test.true, c.requires)

pub tokens-preserved : goal.tokens-preserved
tokens-preserved c =
    let at : ℕ = c.tokens.at in
    let asked : ℕ = c.tokens.asked in
    let more : ℕ = c.in-Token.more in
    let token : Token = c.in-Token.token in
    let text : List ℕ = c.args.text.now in
    let read : lexed.Token token more ≡ lex asked (drop at text) = sym c.in-Token.is ∙ c.in_ok-more.ensures.value ∙ ap (lex asked) (take_rest text at) in
    let within = rw c.in-Token.is at c.in_ok-more.ensures.within in
    let fits : at + (more + 1) ≤ length text = omega (arith, within, ap length (take_rest text at), length-drop at text, c.tokens-test.true) in
    let before : List Located = c.tokens.tokens in
    let here : Located = record { token = token; at = at } in
    let rest : ℕ → List Located = λ next. tokens_from 0 next (at + (more + 1)) (drop (at + (more + 1)) text) in
    let grown : here ∷ rest c.asked_behind-asked.result ≡ tokens_from 0 asked at (drop at text) =
    ap (λ next. here ∷ rest next) c.asked_behind-asked.ensures
    ∙ ap (λ ls. here ∷ ls) (sym (passed (asked_behind asked token) at more text fits))
    ∙ sym (put asked at more (behind at text) token)
    ∙ sym (turned asked at text (lexed.Token token more) c.tokens-test.true read) in
    record {
      within = fits;
      asked = omega (arith, asked_grows asked more token (drop at text) read, c.asked_behind-asked.ensures, c.tokens.invariant.asked);
      same =
          ap (λ ls. ls ++ rest c.asked_behind-asked.result) c.in_ok-push-in-Token.ensures.ok
          ∙ append_assoc before (here ∷ []) (rest c.asked_behind-asked.result)
          ∙ ap (λ ls. before ++ ls) grown
          ∙ c.tokens.invariant.same;
    }
