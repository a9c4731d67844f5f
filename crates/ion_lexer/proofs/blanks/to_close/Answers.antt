use Rattle.std.proofs.Common.{◌≡◌, ◌+◌, ◌<◌, ℕ, suc, false, List, ◌∷◌, drop, length, codes, Option, Some, None, option_map, drop-cons, add-one, refl, ap, sym, ◌∙◌, arith}
use Rattle.ion_model.specs.Blanks.{begins, to_close}
use Rattle.ion_lexer.proofs.blanks.to_close.Goals as goal

shifted : (at : ℕ) (o : Option ℕ) → option_map (λ n. at + n) (option_map suc o) ≡ option_map (λ n. (at + 1) + n) o
shifted at None = refl
shifted at (Some n) = ap Some (omega arith)

at_front : (at b : ℕ) (z : List ℕ) → begins (codes "*/") (b ∷ z) ≡ false → option_map (λ n. at + n) (to_close (b ∷ z)) ≡ option_map (λ n. (at + 1) + n) (to_close z)
at_front at b z h = rw h (shifted at (to_close z))

-- the comment doesn't end at `at`
one_further : (at : ℕ) (z : List ℕ) → at < length z → begins (codes "*/") (drop at z) ≡ false → option_map (λ n. at + n) (to_close (drop at z)) ≡ option_map (λ n. (at + 1) + n) (to_close (drop (at + 1) z))
one_further at z h other =
    let e = drop-cons z at 0 h in
    ap (λ w. option_map (λ n. at + n) (to_close w)) e ∙ at_front at _ (drop (suc at) z) (ap (begins (codes "*/")) (sym e) ∙ other)
    ∙ ap (λ i. option_map (λ n. (at + 1) + n) (to_close (drop i z))) (sym (add-one at))

pub loop-at-preserved : goal.loop-at-preserved
loop-at-preserved c =
    let front = ap (λ f. begins f (drop c.loop-at.at c.args.bytes.now)) (sym c.as_slice.ensures) in
    let back = ap (begins c.as_slice.result.now) (sym c.split_at.ensures.back) in
    c.loop-at.invariant ∙ one_further c.loop-at.at c.args.bytes.now c.loop-at-test.true (front ∙ back ∙ sym c.starts_with.ensures.value ∙ c.if-starts_with.false)
