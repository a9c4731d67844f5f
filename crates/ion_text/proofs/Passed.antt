-- The bytes of a token that was read are passed over.
use Rattle.std.proofs.Common.{◌≡◌, ℕ, zero, suc, ◌+◌, ◌<◌, ◌≤◌, List, [], ◌∷◌, drop, length, length-drop, get_or, ap, ◌∙◌, sym, arith}
use Rattle.std.proofs.Math.Seq.{drop-cons}
use Rattle.std.proofs.lemmas.List.{drop-drop}
use Rattle.ion_model.specs.Lex.{lex}
use Rattle.ion_model.specs.Table.{Open}
use Rattle.ion_model.specs.Read.{Answer, turn, run}
use Rattle.ion_model.specs.declared.Lexed.{Lexed}

run_skip : (depth n at : ℕ) (fs : Open) (z : List ℕ) → n ≤ length z → run depth n at fs z ≡ run depth 0 (at + n) fs (drop n z)
run_skip depth zero at fs z h = ap (λ k. run depth 0 k fs z) (omega arith)
run_skip depth (suc n) at fs [] h = absurd (omega arith)
run_skip depth (suc n) at fs (b ∷ z) h = run_skip depth n (at + 1) fs z (omega arith) ∙ ap (λ k. run depth 0 k fs (drop n z)) (omega arith)

-- what the bytes behind the first one give
abbrev pub behind : ℕ → ℕ → List ℕ → ℕ → Open → Answer
behind depth at bytes more gs = run depth more (at + 1) gs (drop (suc at) bytes)

-- one turn at a byte that is there
run_at : (depth at : ℕ) (fs : Open) (bytes : List ℕ) → at < length bytes →
    run depth 0 at fs (drop at bytes) ≡ turn depth at (length bytes) fs (behind depth at bytes) (lex (drop at bytes))
run_at depth at fs bytes h =
    let e = drop-cons bytes at 0 h in
    let end : at + length (get_or bytes at 0 ∷ drop (suc at) bytes) ≡ length bytes = omega (arith, length-drop (suc at) bytes) in
    ap (λ z. run depth 0 at fs z) e
    ∙ ap (λ k. turn depth at k fs (behind depth at bytes) (lex (get_or bytes at 0 ∷ drop (suc at) bytes))) end
    ∙ ap (λ z. turn depth at (length bytes) fs (behind depth at bytes) (lex z)) (sym e)

-- one turn at what was read
pub turned : (depth at : ℕ) (fs : Open) (bytes : List ℕ) (l : Lexed) → at < length bytes → l ≡ lex (drop at bytes) →
    run depth 0 at fs (drop at bytes) ≡ turn depth at (length bytes) fs (behind depth at bytes) l
turned depth at fs bytes l h e = run_at depth at fs bytes h ∙ ap (turn depth at (length bytes) fs (behind depth at bytes)) (sym e)

-- the token's other bytes are passed over
pub passed : (depth at more : ℕ) (fs : Open) (bytes : List ℕ) → at + (more + 1) ≤ length bytes →
    behind depth at bytes more fs ≡ run depth 0 (at + (more + 1)) fs (drop (at + (more + 1)) bytes)
passed depth at more fs bytes h =
    run_skip depth more (at + 1) fs (drop (suc at) bytes) (omega (arith, length-drop (suc at) bytes))
    ∙ ap (λ k. run depth 0 k fs (drop more (drop (suc at) bytes))) (omega arith)
    ∙ ap (λ z. run depth 0 (at + (more + 1)) fs z) (drop-drop more (suc at) bytes ∙ ap (λ k. drop k bytes) (omega arith))
