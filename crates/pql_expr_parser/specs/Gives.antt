-- What the parser in code gives, beside the grammar's productions: a parser is the reader of its tokens, and an
-- answer the found tree or the fault. Out of memory alone is free.
use Rattle.std.specs.Prelude.{◌≡◌, ℕ, ◌<◌, ◌≤◌, Bool, true, false, Option, option_map, Result, Ok, Err}
use Rattle.pql_model.specs.declared.ParseKind.TheVariants as kind'
use Rattle.pql_model.specs.declared.statement.Statement.{Statement}
use Rattle.pql_model.specs.declared.token.Token.{Token}
use Rattle.pql_model.specs.Productions.{Reader, Found, Fault, advanced, front, kind_at, token_of}
use Rattle.pql_model.specs.Expressions.{Tall}
use Rattle.pql_expr_parser.specs.declared.answer.ParseAnswer.{ParseAnswer}
use Rattle.pql_expr_parser.specs.declared.answer.ParseAnswer.TheVariants as answer
use Rattle.pql_expr_parser.specs.declared.parser.Parser.{Parser}
use Rattle.pql_expr_parser.specs.declared.parser.Measured.{Measured}

-- the reader that a parser is
abbrev pub seen : Parser → Reader
seen p = record { rest = p.rest.now; marks = p.marks; place = p.place }

-- what was measured
abbrev pub tall_of : {A : Type 0} → Measured A → Tall A
tall_of m = record { tree = m.tree; height = m.height }

-- The outcome with the parser behind it is that of a production.
abbrev pub Gives : {A : Type 0} → Result A ParseAnswer → Parser → Result (Found A) Fault → Type 0
Gives (Ok x) p o = o ≡ Ok (record { tree = x; reader = seen p })
Gives (Err (answer.Fault at kind)) p o = o ≡ Err (record { at = at; kind = kind })
Gives (Err answer.OutOfMemory) p o = Unit {0}

-- the same of what was measured
abbrev pub GivesTall : {A : Type 0} → Result (Measured A) ParseAnswer → Parser → Result (Found (Tall A)) Fault → Type 0
GivesTall (Ok m) p o = o ≡ Ok (record { tree = tall_of m; reader = seen p })
GivesTall (Err (answer.Fault at kind)) p o = o ≡ Err (record { at = at; kind = kind })
GivesTall (Err answer.OutOfMemory) p o = Unit {0}

-- the same of what was measured where something was there
abbrev pub GivesStep : {A : Type 0} → Result (Option (Measured A)) ParseAnswer → Parser →
    Result (Found (Option (Tall A))) Fault → Type 0
GivesStep (Ok m) p o = o ≡ Ok (record { tree = option_map tall_of m; reader = seen p })
GivesStep (Err (answer.Fault at kind)) p o = o ≡ Err (record { at = at; kind = kind })
GivesStep (Err answer.OutOfMemory) p o = Unit {0}

-- the same of a whole text, behind which no token is left
abbrev pub GivesWhole : Result Statement ParseAnswer → Result Statement Fault → Type 0
GivesWhole (Ok s) o = o ≡ Ok s
GivesWhole (Err (answer.Fault at kind)) o = o ≡ Err (record { at = at; kind = kind })
GivesWhole (Err answer.OutOfMemory) o = Unit {0}

-- the fault of an outcome
abbrev pub IsFault : {A : Type 0} → ParseAnswer → Result (Found A) Fault → Type 0
IsFault (answer.Fault at kind) o = o ≡ Err (record { at = at; kind = kind })
IsFault answer.OutOfMemory o = ⊥

-- a token that must come, or the fault of the one in front
abbrev pub Takes : Result (Unit {0}) ParseAnswer → Parser → (Token → Bool) → Reader → Type 0
Takes (Ok _) p test r = (test (token_of r) ≡ true) × (seen p ≡ advanced r)
Takes (Err (answer.Fault at kind)) p test r =
    (test (token_of r) ≡ false) × (at ≡ (front r).at) × (kind ≡ kind_at kind'.Unexpected (token_of r))
Takes (Err answer.OutOfMemory) p test r = ⊥

-- a level is left, or the token in front is too deep
abbrev pub Descends : Result (Unit {0}) ParseAnswer → ℕ → Reader → Type 0
Descends (Ok _) below r = 0 < below
Descends (Err (answer.Fault at kind)) below r =
    (below ≡ 0) × (at ≡ (front r).at) × (kind ≡ kind_at kind'.TooDeep (token_of r))
Descends (Err answer.OutOfMemory) below r = ⊥

-- behind an operator, where the operand of this height leaves room for a level
abbrev pub Operates : Result (Unit {0}) ParseAnswer → Parser → ℕ → ℕ → Reader → Type 0
Operates (Ok _) p height below r = (height ≤ below) × (seen p ≡ advanced r)
Operates (Err (answer.Fault at kind)) p height below r =
    (below < height) × (at ≡ (front r).at) × (kind ≡ kind_at kind'.TooDeep (token_of r))
Operates (Err answer.OutOfMemory) p height below r = ⊥
