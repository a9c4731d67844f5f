-- Paths, opened by one step.
use Rattle.std.proofs.Common.{◌≡◌, ℕ, List, refl}
use Rattle.pql_model.specs.declared.expr.Expr.TheVariants as expr
use Rattle.pql_model.specs.declared.mark.Role.TheVariants as role
use Rattle.pql_model.specs.Productions.{Reader, give, marked, past, with_name, ◌>>=◌}
use Rattle.pql_model.specs.Expressions.{above, free_path, path_of, tall}
use Rattle.pql_expr_parser.specs.Closed.{named, path_from, steps}

pub path_from_opens : (below : ℕ) (first : List ℕ) (r : Reader) →
    path_from below first r ≡ (steps below >>= (λ s. give (tall (path_of first s.tree) s.height))) r
unfolding path_from steps
path_from_opens below first r = refl

pub free_path_opens : (first : List ℕ) (r : Reader) → free_path first r ≡ (path_from 64 first >>= (λ p. give p.tree)) r
unfolding free_path path_from
free_path_opens first r = refl

pub named_opens : (below : ℕ) (r : Reader) →
    named below r ≡ with_name (λ first. marked (role.Name first) (past (path_from below first >>= (λ p. give (above expr.Path p))))) r
unfolding named path_from
named_opens below r = refl
