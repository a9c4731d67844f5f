-- A name, opened by one step.
use Rattle.std.proofs.Common.{◌≡◌, refl}
use Rattle.pql_model.specs.Words.{name_of}
use Rattle.pql_model.specs.Productions.{Reader, by_name, give, past, token_of}
use Rattle.pql_expr_parser.specs.Closed.{name}

pub name_opens : (r : Reader) → name r ≡ by_name (λ text. past (give text)) (name_of (token_of r)) r
unfolding name
name_opens r = refl
