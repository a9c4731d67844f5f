-- Lists, structs and what binds tightest, opened by one step.
use Rattle.std.proofs.Common.{◌≡◌, ℕ, List, [], length, Option, Some, None, codes, refl}
use Rattle.pql_model.specs.declared.ParseKind.TheVariants as kind
use Rattle.pql_model.specs.declared.expr.Expr.TheVariants as expr
use Rattle.pql_model.specs.declared.expr.Member.{Member}
use Rattle.pql_model.specs.declared.token.Token.{Token}
use Rattle.pql_model.specs.declared.token.Token.TheVariants as token
use Rattle.pql_model.specs.Words.{is_symbol}
use Rattle.pql_model.specs.Productions.{Production, Reader, choose, expect, give, past, refuse, symbol, token_of, ◌>>=◌}
use Rattle.pql_model.specs.Expressions.{Tall, above, constant_of, constant_or, deeper, expression, layers, member_named, parted, tall}
use Rattle.pql_expr_parser.specs.Closed.{bracket, bracketed, called, constructed, enclosed, list_of, member, members, primary, struct_of, unary}
use Rattle.pql_expr_parser.specs.Fronts.{string_of}
use Rattle.pql_expr_parser.specs.Layers.{layer_of}
use Rattle.pql_expr_parser.specs.declared.expressions.Layer.TheVariants as layer

pub enclosed_opens : (below : ℕ) (close : List ℕ) (r : Reader) →
    enclosed below close r ≡ choose (is_symbol close) (past (give (tall [] 0))) (list_of below >>= (λ xs. expect (is_symbol close) (give xs))) r
unfolding enclosed list_of
enclosed_opens below close r = refl

abbrev pub member_by : ℕ → Option (List ℕ) → Production (Tall Member)
member_by below (Some text) =
    deeper below (past (symbol ":" (layer_of layer.Disjunction below >>= (λ x. give (tall (record { name = text; value = x.tree }) x.height)))))
member_by below None = refuse kind.Unexpected

member_at : (below : ℕ) (t : Token) (r : Reader) → member_named below (layers below) t r ≡ member_by below (string_of t) r
unfolding layer_of
member_at below (token.String text) r = refl
member_at below _ r = refl

pub member_opens : (below : ℕ) (r : Reader) → member below r ≡ member_by below (string_of (token_of r)) r
unfolding member
member_opens below r = member_at below (token_of r) r

pub members_opens : (below : ℕ) (r : Reader) → members below r ≡ parted (length r.rest) (member below) (tall [] 0) r
unfolding members member
members_opens below r = refl

pub struct_of_opens : (below : ℕ) (r : Reader) →
    struct_of below r
    ≡ (choose (is_symbol (codes "}")) (past (give (tall [] 0))) (members below >>= (λ ms. symbol "}" (give ms))) >>= (λ ms. give (above expr.Struct ms))) r
unfolding struct_of members
struct_of_opens below r = refl

pub constructed_opens : (below : ℕ) (r : Reader) →
    constructed below r
    ≡ choose (is_symbol (codes "[")) (past (enclosed below (codes "]") >>= (λ xs. give (above expr.List xs))))
    (choose (is_symbol (codes "<<")) (past (enclosed below (codes ">>") >>= (λ xs. give (above expr.List xs))))
    (choose (is_symbol (codes "{")) (past (struct_of below))
    (called below))) r
unfolding constructed enclosed struct_of called
constructed_opens below r = refl

pub bracket_opens : (below : ℕ) (r : Reader) →
    bracket below r ≡ choose (is_symbol (codes "(")) (deeper below (past (bracketed below))) (constructed below) r
unfolding bracket bracketed constructed
bracket_opens below r = refl

pub primary_opens : (below : ℕ) (r : Reader) → primary below r ≡ constant_or (bracket below) (constant_of (token_of r)) r
unfolding primary bracket
primary_opens below r = refl

pub unary_opens : (below : ℕ) (r : Reader) →
    unary below r ≡ choose (is_symbol (codes "-")) (deeper below (past (layer_of layer.Unary below >>= (λ x. give (above expr.Negate x))))) (primary below) r
unfolding unary layer_of primary
unary_opens below r = refl

pub expression_opens : (r : Reader) → expression r ≡ (layer_of layer.Disjunction 64 >>= (λ x. give x.tree)) r
unfolding expression layer_of
expression_opens r = refl
