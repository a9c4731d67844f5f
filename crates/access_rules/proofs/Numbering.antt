-- Sessions under rules, one after another.
use Rattle.std.proofs.Common.{◌≡◌, ◌∙◌, ℕ, ◌+◌, List, [], ◌∷◌, ◌++◌, length, refl, ap, arith}
use Rattle.ledger_model.specs.declared.script.Job.{Job}
use Rattle.access_rules.specs.declared.rule.Rule.{Rule}
use Rattle.access_rules.specs.Scripts.{session_under, sessions_under}

-- one more stands behind those in front
pub one_more : (rules : List Rule) (number : ℕ) (front : List (List Job)) (jobs : List Job)
    → sessions_under rules number (front ++ jobs ∷ [])
    ≡ sessions_under rules number front ++ session_under rules (number + length front) jobs ∷ []
one_more rules number [] jobs =
    let same : number ≡ number + 0 = omega arith in ap (λ (n : ℕ). session_under rules n jobs ∷ []) same
one_more rules number (first ∷ front) jobs =
    let same : number + 1 + length front ≡ number + length (first ∷ front) = omega arith in
    ap (λ (rest : List (List Job)). session_under rules number first ∷ rest)
    (one_more rules (number + 1) front jobs
    ∙ ap (λ (n : ℕ). sessions_under rules (number + 1) front ++ session_under rules n jobs ∷ []) same)
