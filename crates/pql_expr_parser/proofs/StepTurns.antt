-- One turn of the steps of a path: the step in front, and then the rest.
use Rattle.std.proofs.Common.{◌≡◌, ℕ, zero, suc, ◌-◌, ◌<◌, ◌++◌, max, Bool, List, [], ◌∷◌, length, Option, Some, None, Ok, Err, codes, refl, ap, sym, ◌∙◌, arith}
use Rattle.pql_model.specs.declared.ParseKind.TheVariants as kind
use Rattle.pql_model.specs.declared.expr.Expr.{Expr}
use Rattle.pql_model.specs.declared.expr.PathStep.{PathStep}
use Rattle.pql_model.specs.declared.expr.PathStep.TheVariants as step'
use Rattle.pql_model.specs.Words.{is_symbol, any_name_of}
use Rattle.pql_model.specs.Productions.{Fault, Production, Reader, advanced, by_name, choose, give, onward, past, refuse, symbol, token_of, ◌>>=◌}
use Rattle.pql_model.specs.Expressions.{Tall, deeper, layers, steps, tall}
use Rattle.pql_expr_parser.specs.Closed as closed
use Rattle.pql_expr_parser.specs.Closed.{steps_behind}
use Rattle.pql_expr_parser.specs.Fronts.{any_name}
use Rattle.pql_expr_parser.specs.Layers.{layer_of}
use Rattle.pql_expr_parser.specs.Parts.{step}
use Rattle.pql_expr_parser.specs.declared.expressions.Layer.TheVariants as layer
use Rattle.pql_expr_parser.proofs.Onward.{cond_then, same_cond, then_onward, same_onward}

-- how the steps go on behind these
abbrev pub steps_on : ℕ → ℕ → Production (Tall Expr) → Tall (List PathStep) → Option (Tall PathStep) → Production (Tall (List PathStep))
steps_on more below index so_far (Some s) = steps more below index (tall (so_far.tree ++ s.tree ∷ []) (max so_far.height s.height))
steps_on more below index so_far None = give so_far

named_then : {A : Type 0} (k : Option (Tall PathStep) → Production A) (name : Option (List ℕ)) (r : Reader) →
    onward k (onward (λ text. give (Some (tall (step'.Field text) 0))) (by_name (λ text. past (give text)) name r))
    ≡ by_name (λ text. past (k (Some (tall (step'.Field text) 0)))) name r
named_then k (Some text) r = refl
named_then k None r = refl

deeper_then : {A B : Type 0} (below : ℕ) (p : Production A) (k : A → Production B) (q : Production B) (r : Reader) →
    onward k (p r) ≡ q r → onward k (deeper below p r) ≡ deeper below q r
deeper_then zero p k q r same = refl
deeper_then (suc below) p k q r same = same

closed_then : {A : Type 0} (k : Option (Tall PathStep) → Production A) (x : Tall Expr) (r : Reader) →
    onward k (symbol "]" (give (Some (tall (step'.Index x.tree) x.height))) r) ≡ symbol "]" (k (Some (tall (step'.Index x.tree) x.height))) r
closed_then k x r =
    let closes : Bool = is_symbol (codes "]") (token_of r) in
    let made : Production (Option (Tall PathStep)) = give (Some (tall (step'.Index x.tree) x.height)) in
    cond_then closes (past made) (refuse kind.Unexpected) k r

-- the steps behind these are the one in front and those behind it
step_turn : (more below : ℕ) (index : Production (Tall Expr)) (so_far : Tall (List PathStep)) (r : Reader) →
    onward (steps_on more below index so_far) (step below index r) ≡ steps (suc more) below index so_far r
step_turn more below index so_far r =
    let k : Option (Tall PathStep) → Production (Tall (List PathStep)) = steps_on more below index so_far in
    let point : Bool = is_symbol (codes ".") (token_of r) in
    let opens : Bool = is_symbol (codes "[") (token_of r) in
    let field : Production (Option (Tall PathStep)) = past (any_name >>= (λ text. give (Some (tall (step'.Field text) 0)))) in
    let field_on : Production (Tall (List PathStep)) = past (λ s. by_name (λ text. past (k (Some (tall (step'.Field text) 0)))) (any_name_of (token_of s)) s) in
    let inside : Production (Option (Tall PathStep)) = past (index >>= (λ x. symbol "]" (give (Some (tall (step'.Index x.tree) x.height))))) in
    let inside_on : Production (Tall (List PathStep)) = past (index >>= (λ x. symbol "]" (k (Some (tall (step'.Index x.tree) x.height))))) in
    let none : Production (Option (Tall PathStep)) = give None in
    let ends : Production (Tall (List PathStep)) = give so_far in
    let inside_same : onward k (inside r) ≡ inside_on r =
    then_onward (λ x. symbol "]" (give (Some (tall (step'.Index x.tree) x.height)))) k (index (advanced r))
    ∙ same_onward (λ x. symbol "]" (give (Some (tall (step'.Index x.tree) x.height))) >>= k) (λ x. symbol "]" (k (Some (tall (step'.Index x.tree) x.height)))) (index (advanced r)) (closed_then k) in
    let a2 : Production (Option (Tall PathStep)) = choose (is_symbol (codes "[")) (deeper below inside) none in
    let b2 : Production (Tall (List PathStep)) = choose (is_symbol (codes "[")) (deeper below inside_on) ends in
    let e2 : onward k (a2 r) ≡ b2 r =
    cond_then opens (deeper below inside) none k r
    ∙ same_cond opens (deeper below inside >>= k) (none >>= k) (deeper below inside_on) ends r (deeper_then below inside k inside_on r inside_same) refl in
    cond_then point field a2 k r
    ∙ same_cond point (field >>= k) (a2 >>= k) field_on b2 r (named_then k (any_name_of (token_of (advanced r))) (advanced r)) e2

abbrev whole : ℕ → Production (Tall Expr)
whole below = (layers below).whole

closed_turn : (more below : ℕ) (so_far : Tall (List PathStep)) (r : Reader) →
    onward (steps_on more below (whole below) so_far) (closed.step below r) ≡ steps_behind (suc more) below so_far r
unfolding closed.step steps_behind
closed_turn more below so_far r = step_turn more below (whole below) so_far r

pub steps_opens : (below : ℕ) (r : Reader) → closed.steps below r ≡ steps_behind (length r.rest) below (tall [] 0) r
unfolding closed.steps steps_behind
steps_opens below r = refl

pub step_opens : (below : ℕ) (r : Reader) →
    closed.step below r
    ≡ choose (is_symbol (codes ".")) (past (any_name >>= (λ text. give (Some (tall (step'.Field text) 0)))))
    (choose (is_symbol (codes "[")) (deeper below (past (layer_of layer.Disjunction below >>= (λ x. symbol "]" (give (Some (tall (step'.Index x.tree) x.height)))))))
    (give None)) r
unfolding closed.step layer_of
step_opens below r = refl

-- where no turn is left
pub steps_out : (more below : ℕ) (so_far : Tall (List PathStep)) (r : Reader) → more ≡ 0 → steps_behind more below so_far r ≡ Ok (record { tree = so_far; reader = r })
unfolding steps_behind
steps_out zero below so_far r e = refl
steps_out (suc more) below so_far r e = absurd (omega arith)

-- where none follows
pub steps_end : (more below : ℕ) (so_far : Tall (List PathStep)) (r s : Reader) → 0 < more →
    closed.step below r ≡ Ok (record { tree = None; reader = s }) → steps_behind more below so_far r ≡ Ok (record { tree = so_far; reader = s })
steps_end zero below so_far r s h e = absurd (omega arith)
steps_end (suc more) below so_far r s h e = sym (closed_turn more below so_far r) ∙ ap (onward (steps_on more below (whole below) so_far)) e

-- where one is at fault
pub step_fault : (more below : ℕ) (so_far : Tall (List PathStep)) (r : Reader) (f : Fault) → 0 < more →
    closed.step below r ≡ Err f → steps_behind more below so_far r ≡ Err f
step_fault zero below so_far r f h e = absurd (omega arith)
step_fault (suc more) below so_far r f h e = sym (closed_turn more below so_far r) ∙ ap (onward (steps_on more below (whole below) so_far)) e

-- where one follows
pub step_more : (more below : ℕ) (so_far : Tall (List PathStep)) (r s : Reader) (x : Tall PathStep) → 0 < more →
    closed.step below r ≡ Ok (record { tree = Some x; reader = s }) →
    steps_behind more below so_far r ≡ steps_behind (more - 1) below (tall (so_far.tree ++ x.tree ∷ []) (max so_far.height x.height)) s
unfolding steps_behind
step_more zero below so_far r s x h e = absurd (omega arith)
step_more (suc more) below so_far r s x h e =
    let less : more ≡ suc more - 1 = omega arith in
    sym (closed_turn more below so_far r) ∙ ap (onward (steps_on more below (whole below) so_far)) e
    ∙ ap (λ n. steps_behind n below (tall (so_far.tree ++ x.tree ∷ []) (max so_far.height x.height)) s) less

pub ruleset step_turns = (steps_opens, steps_out, steps_end, step_fault, step_more)
