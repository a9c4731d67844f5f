-- A text that is the token in front is read by one turn (Ion 1.0, "Text encoding").
use Rattle.std.proofs.Common.{◌≡◌, ℕ, ◌+◌, List, [], ◌∷◌, ◌++◌, length, ap, ◌∙◌, arith}
use Rattle.ion_model.specs.Table.{Open, accept}
use Rattle.ion_model.specs.Read.{go_on, run, turn}
use Rattle.ion_model.specs.declared.Token.{Token}
use Rattle.ion_text.specs.RoundTrip.{ReadsBefore}

-- the bytes behind the first are passed over
passed_over : (depth at : ℕ) (fs : Open) (z rest : List ℕ) → run depth (length z) at fs (z ++ rest) ≡ run depth 0 (at + length z) fs rest
passed_over depth at fs [] rest = ap (λ k. run depth 0 k fs rest) (omega arith)
passed_over depth at fs (b ∷ z) rest = passed_over depth (at + 1) fs z rest ∙ ap (λ k. run depth 0 k fs rest) (omega arith)

-- what is open takes the token, and the reader goes on behind it
pub token_turn :
    (depth at : ℕ) (fs : Open) (text rest : List ℕ) (t : Token) → ReadsBefore rest text t →
    run depth 0 at fs (text ++ rest) ≡ go_on at (λ gs. run depth 0 (at + length text) gs rest) (accept depth fs t)
token_turn depth at fs [] rest t h = absurd h
token_turn depth at fs (b ∷ z) rest t h =
    let more : (gs : Open) → run depth (length z) (at + 1) gs (z ++ rest) ≡ run depth 0 (at + length (b ∷ z)) gs rest =
    λ gs. passed_over depth (at + 1) gs z rest ∙ ap (λ k. run depth 0 k gs rest) (omega arith) in
    ap (turn depth at (at + length ((b ∷ z) ++ rest)) fs (λ more gs. run depth more (at + 1) gs (z ++ rest))) h
    ∙ (λ i. go_on at (λ gs. more gs i) (accept depth fs t))
