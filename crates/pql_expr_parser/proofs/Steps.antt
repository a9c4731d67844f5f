-- Levels that are left, and single turns of the repetitions.
use Rattle.std.proofs.Common.{◌≡◌, ℕ, zero, suc, ◌-◌, ◌<◌, ◌≤◌, max, true, false, List, [], ◌∷◌, ◌++◌, Option, Some, None, Ok, Err, refl, ap, arith, codes}
use Rattle.std.proofs.lemmas.Bool.{le-leb}
use Rattle.std.specs.Prelude.{nat_le}
use Rattle.pql_model.specs.declared.ParseKind.TheVariants as kind
use Rattle.pql_model.specs.declared.expr.Expr.{Expr}
use Rattle.pql_model.specs.declared.expr.Operator.{Operator}
use Rattle.pql_model.specs.declared.token.Token.{Token}
use Rattle.pql_model.specs.Words.{is_symbol}
use Rattle.pql_model.specs.Productions.{Production, Reader, Fault, advanced, refuse, token_of}
use Rattle.pql_model.specs.Expressions.{Tall, binary, deeper, operators, parted, tall}

pub deeper_on : {A : Type 0} (below : ℕ) (next : Production A) (r : Reader) → 0 < below → deeper below next r ≡ next r
deeper_on zero next r h = absurd (omega arith)
deeper_on (suc below) next r h = refl

pub deeper_off : {A : Type 0} (below : ℕ) (next : Production A) (r : Reader) → below ≡ 0 → deeper below next r ≡ refuse kind.TooDeep r
deeper_off zero next r h = refl
deeper_off (suc below) next r h = absurd (omega arith)

-- ---- lists

-- a part that is at fault
pub part_fault : {A : Type 0} (more : ℕ) (part : Production (Tall A)) (so_far : Tall (List A)) (r : Reader) (f : Fault) → 0 < more →
    part r ≡ Err f → parted more part so_far r ≡ Err f
part_fault zero part so_far r f h e = absurd (omega arith)
part_fault (suc more) part so_far r f h e = rw e refl

-- a part with no comma behind it
pub part_last : {A : Type 0} (more : ℕ) (part : Production (Tall A)) (so_far : Tall (List A)) (r s : Reader) (x : Tall A) → 0 < more →
    part r ≡ Ok (record { tree = x; reader = s }) → is_symbol (codes ",") (token_of s) ≡ false →
    parted more part so_far r ≡ Ok (record { tree = tall (so_far.tree ++ x.tree ∷ []) (max so_far.height x.height); reader = s })
part_last zero part so_far r s x h e comma = absurd (omega arith)
part_last (suc more) part so_far r s x h e comma = rw (e, comma) refl

-- a part with a comma behind it
pub part_more : {A : Type 0} (more : ℕ) (part : Production (Tall A)) (so_far : Tall (List A)) (r s : Reader) (x : Tall A) → 0 < more →
    part r ≡ Ok (record { tree = x; reader = s }) → is_symbol (codes ",") (token_of s) ≡ true →
    parted more part so_far r ≡ parted (more - 1) part (tall (so_far.tree ++ x.tree ∷ []) (max so_far.height x.height)) (advanced s)
part_more zero part so_far r s x h e comma = absurd (omega arith)
part_more (suc more) part so_far r s x h e comma =
    let less : more ≡ suc more - 1 = omega arith in
    rw (e, comma) (ap (λ n. parted n part (tall (so_far.tree ++ x.tree ∷ []) (max so_far.height x.height)) (advanced s)) less)

-- ---- operators

pub operator_none : (more below : ℕ) (which : Token → Option Operator) (right : Production (Tall Expr)) (x : Tall Expr) (r : Reader) →
    which (token_of r) ≡ None → operators more below which right x r ≡ Ok (record { tree = x; reader = r })
operator_none zero below which right x r e = refl
operator_none (suc more) below which right x r e = rw e refl

not_below : (a b : ℕ) → b < a → nat_le a b ≡ false
not_below a b h = grind arith

pub operator_deep : (more below : ℕ) (which : Token → Option Operator) (right : Production (Tall Expr)) (x : Tall Expr) (r : Reader) (o : Operator) →
    0 < more → which (token_of r) ≡ Some o → below < x.height → operators more below which right x r ≡ refuse kind.TooDeep r
operator_deep zero below which right x r o h e high = absurd (omega arith)
operator_deep (suc more) below which right x r o h e high = rw (e, not_below x.height below high) refl

pub operand_fault : (more below : ℕ) (which : Token → Option Operator) (right : Production (Tall Expr)) (x : Tall Expr) (r : Reader) (o : Operator) (f : Fault) →
    0 < more → which (token_of r) ≡ Some o → x.height ≤ below → right (advanced r) ≡ Err f → operators more below which right x r ≡ Err f
operand_fault zero below which right x r o f h e low fault = absurd (omega arith)
operand_fault (suc more) below which right x r o f h e low fault = rw (e, le-leb x.height below low, fault) refl

pub operator_more : (more below : ℕ) (which : Token → Option Operator) (right : Production (Tall Expr)) (x y : Tall Expr) (r s : Reader) (o : Operator) →
    0 < more → which (token_of r) ≡ Some o → x.height ≤ below → right (advanced r) ≡ Ok (record { tree = y; reader = s }) →
    operators more below which right x r ≡ operators (more - 1) below which right (binary o x y) s
operator_more zero below which right x y r s o h e low found = absurd (omega arith)
operator_more (suc more) below which right x y r s o h e low found =
    let less : more ≡ suc more - 1 = omega arith in
    rw (e, le-leb x.height below low, found) (ap (λ n. operators n below which right (binary o x y) s) less)

-- ---- what a turn does

pub ruleset part_turns = (part_fault, part_last, part_more)

pub ruleset operator_turns = (operator_none, operator_deep, operand_fault, operator_more)
