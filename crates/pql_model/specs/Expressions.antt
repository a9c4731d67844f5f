-- The grammar of expressions and paths (PartiQL Specification, expressions), layer by layer from the tightest binding
-- to the loosest: paths and brackets; unary -; * / %; + -; ||; comparisons, IN, LIKE, BETWEEN and IS; NOT; AND; OR.
-- Expressions nest by a bounded number of levels. Each layer is given how many levels may stand below its own, and
-- the layers with a level less.
use Prim.Native.String.{String}
use Rattle.std.specs.Prelude.{ℕ, zero, suc, ◌+◌, ◌||◌, max, Bool, true, false, nat_le, List, [], ◌∷◌, ◌++◌, length, codes, Option, Some, None, is_some, if◌then◌else◌}
use Rattle.std.specs.Str.{str_eq_ignore_ascii_case}
use Rattle.ion_values.specs.declared.value.Body.TheVariants as body
use Rattle.ion_values.specs.declared.value.Kind.TheVariants as ion
use Rattle.pql_model.specs.declared.ParseKind.TheVariants as kind
use Rattle.pql_model.specs.declared.token.Symbol.TheVariants as symbol'
use Rattle.pql_model.specs.declared.token.Token.{Token}
use Rattle.pql_model.specs.declared.token.Token.TheVariants as token
use Rattle.pql_model.specs.declared.mark.Role.TheVariants as role
use Rattle.pql_model.specs.declared.expr.Expr.{Expr}
use Rattle.pql_model.specs.declared.expr.Expr.TheVariants as expr
use Rattle.pql_model.specs.declared.expr.Member.{Member}
use Rattle.pql_model.specs.declared.expr.Operator.{Operator}
use Rattle.pql_model.specs.declared.expr.Operator.TheVariants as op
use Rattle.pql_model.specs.declared.expr.Path.{Path}
use Rattle.pql_model.specs.declared.expr.PathStep.{PathStep}
use Rattle.pql_model.specs.declared.expr.PathStep.TheVariants as step
use Rattle.pql_model.specs.Tokens.{plain}
use Rattle.pql_model.specs.Words.{is_word, is_symbol, name_of, any_name_of}
use Rattle.pql_model.specs.Productions.{Production, token_of, refuse, give, past, choose, word, symbol, by_name, with_name, marked, ◌>>=◌}

-- ---- levels

-- what was read, and how many levels its expressions have
pub record Tall (A : Type 0) : Type 0 where
  pub tree : A
  pub height : ℕ

abbrev pub tall : {A : Type 0} → A → ℕ → Tall A
tall x levels = record { tree = x; height = levels }

-- a level above these
abbrev pub above : {A B : Type 0} → (A → B) → Tall A → Tall B
above make x = tall (make x.tree) (x.height + 1)

-- The layers of expressions that are named inside others.
pub record Layers : Type 0 where
  pub whole : Production (Tall Expr)
  pub conjunction : Production (Tall Expr)
  pub negation : Production (Tall Expr)
  pub concatenation : Production (Tall Expr)
  pub sum : Production (Tall Expr)
  pub product : Production (Tall Expr)
  pub unary : Production (Tall Expr)

-- a token behind which an operand must come, for which a level must be left
abbrev pub deeper : {A : Type 0} → ℕ → Production A → Production A
deeper zero next = refuse kind.TooDeep
deeper (suc below) next = next

-- ---- lists

-- Parts with commas between them, behind these; there are no more of them than there are tokens.
abbrev pub parted : {A : Type 0} → ℕ → Production (Tall A) → Tall (List A) → Production (Tall (List A))
parted zero part so_far = refuse kind.Unexpected
parted (suc more) part so_far =
    part >>= (λ x. let now = tall (so_far.tree ++ x.tree ∷ []) (max so_far.height x.height) in
    choose (is_symbol (codes ",")) (past (parted more part now)) (give now))

abbrev pub list_of : {A : Type 0} → Production (Tall A) → Production (Tall (List A))
list_of part r = parted (length r.rest) part (tall [] 0) r

-- parts up to a closing bracket, or none
abbrev pub enclosed : {A : Type 0} → String → Production (Tall A) → Production (Tall (List A))
enclosed close part =
    choose (is_symbol (codes close)) (past (give (tall [] 0))) (list_of part >>= (λ xs. symbol close (give xs)))

-- ---- constants

abbrev pub word_constant : List ℕ → Option Expr
word_constant text =
    if str_eq_ignore_ascii_case text (codes "TRUE") then Some (expr.Value (plain (body.Bool true)))
    else (if str_eq_ignore_ascii_case text (codes "FALSE") then Some (expr.Value (plain (body.Bool false)))
    else (if str_eq_ignore_ascii_case text (codes "NULL") then Some (expr.Value (plain (body.Null ion.Null)))
    else (if str_eq_ignore_ascii_case text (codes "MISSING") then Some expr.Missing
    else None)))

-- the literal or `?` that a token is, where it is one
abbrev pub constant_of : Token → Option Expr
constant_of (token.Value v) = Some (expr.Value v)
constant_of (token.String text) = Some (expr.Value (plain (body.String text)))
constant_of (token.Parameter n) = Some (expr.Parameter n)
constant_of (token.Word text) = word_constant text
constant_of _ = None

-- ---- paths

abbrev pub path_of : List ℕ → List PathStep → Path
path_of first steps = record { first = first; steps = steps }

-- The steps of a path behind these. An index is such an expression, of that number of levels at most.
abbrev pub steps : ℕ → ℕ → Production (Tall Expr) → Tall (List PathStep) → Production (Tall (List PathStep))
steps zero below index so_far = give so_far
steps (suc more) below index so_far =
    let then_step =
    λ (s : PathStep) (height : ℕ). steps more below index
    (tall (so_far.tree ++ s ∷ []) (max so_far.height height)) in
    choose (is_symbol (codes ".")) (past (λ r. by_name (λ text. past (then_step (step.Field text) 0))
    (any_name_of (token_of r)) r))
    (choose (is_symbol (codes "["))
    (deeper below (past (index >>= (λ x. symbol "]" (then_step (step.Index x.tree) x.height)))))
    (give so_far))

-- a path behind its first name
abbrev pub path_from : ℕ → Production (Tall Expr) → List ℕ → Production (Tall Path)
path_from below index first r =
    (steps (length r.rest) below index (tall [] 0) >>= (λ s. give (tall (path_of first s.tree) s.height))) r

-- ---- brackets and calls

-- an expression in round brackets, behind the opening one
abbrev pub bracketed : Layers → Production (Tall Expr)
bracketed inner = inner.whole >>= (λ x. symbol ")" (give (above (λ e. e) x)))

-- a call with one argument, behind its word
abbrev pub call : Layers → (Expr → Expr) → Production (Tall Expr)
call inner make = symbol "(" (inner.whole >>= (λ x. symbol ")" (give (above make x))))

abbrev pub coalesce : Layers → Production (Tall Expr)
coalesce inner = symbol "(" (list_of inner.whole >>= (λ xs. symbol ")" (give (above expr.Coalesce xs))))

abbrev pub count : Layers → Production (Tall Expr)
count inner =
    symbol "(" (choose (is_symbol (codes "*"))
    (past (symbol ")" (give (tall expr.CountAll 1))))
    (inner.whole >>= (λ x. symbol ")" (give (above expr.Count x)))))

abbrev pub member_named : ℕ → Layers → Token → Production (Tall Member)
member_named below inner (token.String text) =
    deeper below
    (past (symbol ":" (inner.whole >>= (λ x. give (tall (record { name = text; value = x.tree }) x.height)))))
member_named below inner _ = refuse kind.Unexpected

abbrev pub member : ℕ → Layers → Production (Tall Member)
member below inner r = member_named below inner (token_of r) r

-- a path in an expression
abbrev pub named : ℕ → Layers → Production (Tall Expr)
named below inner =
    with_name (λ first. marked (role.Name first) (past (path_from below inner.whole first
    >>= (λ p. give (above expr.Path p)))))

-- Aggregates have a mark at their word.
abbrev pub aggregate : ℕ → Layers → Production (Tall Expr)
aggregate below inner =
    choose (is_word (codes "COUNT")) (marked role.Aggregate (past (count inner)))
    (choose (is_word (codes "SUM")) (deeper below (marked role.Aggregate (past (call inner expr.Sum))))
    (choose (is_word (codes "MIN")) (deeper below (marked role.Aggregate (past (call inner expr.Min))))
    (choose (is_word (codes "MAX")) (deeper below (marked role.Aggregate (past (call inner expr.Max))))
    (named below inner))))

abbrev pub function : ℕ → Layers → Production (Tall Expr)
function below inner =
    choose (is_word (codes "COALESCE")) (deeper below (past (coalesce inner)))
    (choose (is_word (codes "SIZE")) (deeper below (past (call inner expr.Size)))
    (choose (is_word (codes "CHAR_LENGTH")) (deeper below (past (call inner expr.CharLength)))
    (aggregate below inner)))

abbrev pub bracket : ℕ → Layers → Production (Tall Expr)
bracket below inner =
    choose (is_symbol (codes "(")) (deeper below (past (bracketed inner)))
    (choose (is_symbol (codes "[")) (past (enclosed "]" inner.whole >>= (λ xs. give (above expr.List xs))))
    (choose (is_symbol (codes "<<")) (past (enclosed ">>" inner.whole >>= (λ xs. give (above expr.List xs))))
    (choose (is_symbol (codes "{")) (past (enclosed "}" (member below inner) >>= (λ ms. give (above expr.Struct ms))))
    (function below inner))))

abbrev pub constant_or : Production (Tall Expr) → Option Expr → Production (Tall Expr)
constant_or other (Some e) = past (give (tall e 1))
constant_or other None = other

abbrev pub primary : ℕ → Layers → Production (Tall Expr)
primary below inner r =
    constant_or (bracket below inner) (constant_of (token_of r)) r

-- ---- operators

abbrev pub multiplicative : Token → Option Operator
multiplicative (token.Symbol symbol'.Star) = Some op.Times
multiplicative (token.Symbol symbol'.Slash) = Some op.Divide
multiplicative (token.Symbol symbol'.Percent) = Some op.Remainder
multiplicative _ = None

abbrev pub additive : Token → Option Operator
additive (token.Symbol symbol'.Plus) = Some op.Plus
additive (token.Symbol symbol'.Minus) = Some op.Minus
additive _ = None

abbrev pub joining : Token → Option Operator
joining (token.Symbol symbol'.Bars) = Some op.Concat
joining _ = None

abbrev pub comparing : Token → Option Operator
comparing (token.Symbol symbol'.Equal) = Some op.Equal
comparing (token.Symbol symbol'.LessGreater) = Some op.NotEqual
comparing (token.Symbol symbol'.BangEqual) = Some op.NotEqual
comparing (token.Symbol symbol'.Less) = Some op.Less
comparing (token.Symbol symbol'.LessEqual) = Some op.AtMost
comparing (token.Symbol symbol'.Greater) = Some op.Greater
comparing (token.Symbol symbol'.GreaterEqual) = Some op.AtLeast
comparing _ = None

abbrev pub by_word : List ℕ → Operator → Token → Option Operator
by_word text o t = if is_word text t then Some o else None

abbrev pub binary : Operator → Tall Expr → Tall Expr → Tall Expr
binary o x y = tall (expr.Binary o x.tree y.tree) (max x.height y.height + 1)

-- an operator behind the operand x is a level above it
abbrev pub operated : ℕ → Tall Expr → (Operator → Production (Tall Expr)) → Option Operator → Production (Tall Expr)
operated below x next None = give x
operated below x next (Some o) = if nat_le x.height below then past (next o) else refuse kind.TooDeep

-- Operators of one layer behind the operand x, which group to the left. Each is a level, so there is a bound on their
-- number.
abbrev pub operators : ℕ → ℕ → (Token → Option Operator) → Production (Tall Expr) → Tall Expr → Production (Tall Expr)
operators zero below which right x r = give x r
operators (suc more) below which right x r =
    operated below x (λ o. right >>= (λ y. operators more below which right (binary o x y))) (which (token_of r)) r

abbrev pub chain : ℕ → (Token → Option Operator) → Production (Tall Expr) → Production (Tall Expr) →
    Production (Tall Expr)
chain below which right left = left >>= operators (below + 1) below which right

-- ---- comparisons, IN, LIKE, BETWEEN and IS, one of which may stand behind the operand x

-- NOT IN and the like, and IS NOT, are one level
abbrev pub negated : Tall Expr → Production (Tall Expr)
negated x = give (tall (expr.Not x.tree) x.height)

abbrev pub between : Tall Expr → Tall Expr → Tall Expr → Tall Expr
between x low high = tall (expr.Between x.tree low.tree high.tree) (max x.height (max low.height high.height) + 1)

-- IN, LIKE or BETWEEN
abbrev pub matched : Layers → Tall Expr → Production (Tall Expr)
matched inner x =
    choose (is_word (codes "IN")) (past (inner.concatenation
    >>= (λ y. give (tall (expr.IsIn x.tree y.tree) (max x.height y.height + 1)))))
    (choose (is_word (codes "LIKE")) (past (inner.concatenation
    >>= (λ y. give (tall (expr.Like x.tree y.tree) (max x.height y.height + 1)))))
    (word "BETWEEN" (inner.concatenation >>= (λ low.
    word "AND" (inner.concatenation >>= (λ high. give (between x low high)))))))

abbrev pub null_or_missing : Tall Expr → Production (Tall Expr)
null_or_missing x =
    choose (is_word (codes "NULL")) (past (give (above expr.IsNull x))) (word "MISSING" (give (above expr.IsMissing x)))

-- behind IS
abbrev pub is_tested : Tall Expr → Production (Tall Expr)
is_tested x = choose (is_word (codes "NOT")) (past (null_or_missing x >>= negated)) (null_or_missing x)

abbrev pub predicate : Layers → Tall Expr → Production (Tall Expr)
predicate inner x =
    choose (is_word (codes "IS")) (past (is_tested x))
    (choose (is_word (codes "NOT")) (past (matched inner x >>= negated))
    (matched inner x))

abbrev pub begins_predicate : Token → Bool
begins_predicate t =
    is_word (codes "IS") t || is_word (codes "NOT") t || is_word (codes "IN") t || is_word (codes "LIKE") t
    || is_word (codes "BETWEEN") t

abbrev pub predicated : ℕ → Layers → Tall Expr → Production (Tall Expr)
predicated below inner x =
    choose begins_predicate (if nat_le x.height below then predicate inner x else refuse kind.TooDeep) (give x)

abbrev pub compared : ℕ → Layers → Tall Expr → Option Operator → Production (Tall Expr)
compared below inner x None = predicated below inner x
compared below inner x (Some o) = operated below x (λ o. inner.concatenation >>= (λ y. give (binary o x y))) (Some o)

abbrev pub related : ℕ → Layers → Tall Expr → Production (Tall Expr)
related below inner x r = compared below inner x (comparing (token_of r)) r

-- ---- the layers, with the number of levels that may stand below their own

abbrev pub unary : ℕ → Layers → Production (Tall Expr)
unary below inner =
    choose (is_symbol (codes "-")) (deeper below (past (inner.unary >>= (λ x. give (above expr.Negate x)))))
    (primary below inner)

abbrev pub product : ℕ → Layers → Production (Tall Expr)
product below inner = chain below multiplicative inner.unary (unary below inner)

abbrev pub sum : ℕ → Layers → Production (Tall Expr)
sum below inner = chain below additive inner.product (product below inner)

abbrev pub concatenation : ℕ → Layers → Production (Tall Expr)
concatenation below inner = chain below joining inner.sum (sum below inner)

abbrev pub comparison : ℕ → Layers → Production (Tall Expr)
comparison below inner = concatenation below inner >>= related below inner

abbrev pub negation : ℕ → Layers → Production (Tall Expr)
negation below inner =
    choose (is_word (codes "NOT")) (deeper below (past (inner.negation >>= (λ x. give (above expr.Not x)))))
    (comparison below inner)

abbrev pub conjunction : ℕ → Layers → Production (Tall Expr)
conjunction below inner = chain below (by_word (codes "AND") op.And) inner.negation (negation below inner)

abbrev pub disjunction : ℕ → Layers → Production (Tall Expr)
disjunction below inner = chain below (by_word (codes "OR") op.Or) inner.conjunction (conjunction below inner)

-- ---- where no level is left

-- whether an expression begins with the token
abbrev pub begins_expression : Token → Bool
begins_expression t =
    is_some (constant_of t) || is_some (name_of t) || is_symbol (codes "(") t || is_symbol (codes "[") t
    || is_symbol (codes "<<") t || is_symbol (codes "{") t
    || is_symbol (codes "-") t || is_word (codes "NOT") t || is_word (codes "COALESCE") t || is_word (codes "SIZE") t
    || is_word (codes "CHAR_LENGTH") t
    || is_word (codes "COUNT") t || is_word (codes "SUM") t || is_word (codes "MIN") t || is_word (codes "MAX") t

abbrev pub no_level : Production (Tall Expr)
no_level = choose begins_expression (refuse kind.TooDeep) (refuse kind.Unexpected)

-- ---- all layers, with the number of levels

abbrev pub layers_above : ℕ → Layers → Layers
layers_above below inner = record {
  whole = disjunction below inner;
  conjunction = conjunction below inner;
  negation = negation below inner;
  concatenation = concatenation below inner;
  sum = sum below inner;
  product = product below inner;
  unary = unary below inner;
}

unfoldable pub layers : ℕ → Layers
layers zero = record {
  whole = no_level;
  conjunction = no_level;
  negation = no_level;
  concatenation = no_level;
  sum = no_level;
  product = no_level;
  unary = no_level;
}
layers (suc below) = layers_above below (layers below)

-- an expression of at most 64 levels
unfoldable pub expression : Production Expr
expression = (layers 64).whole >>= (λ x. give x.tree)

-- a path that stands in no expression, whose indexes are expressions
unfoldable pub free_path : List ℕ → Production Path
free_path first = path_from 64 (layers 64).whole first >>= (λ p. give p.tree)
