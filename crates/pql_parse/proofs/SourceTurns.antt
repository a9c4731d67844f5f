-- One turn of the sources: the source that follows, and then the rest.
use Rattle.std.proofs.Common.{◌≡◌, ℕ, zero, suc, ◌-◌, ◌<◌, ◌++◌, Bool, List, [], ◌∷◌, length, Option, Some, None, Ok, Err, codes, refl, ap, sym, ◌∙◌, arith}
use Rattle.pql_model.specs.declared.ParseKind.TheVariants as kind
use Rattle.pql_model.specs.declared.statement.Source.{Source}
use Rattle.pql_model.specs.Words.{is_word, is_symbol}
use Rattle.pql_model.specs.Productions.{Fault, Production, Reader, advanced, choose, give, onward, past, refuse, token_of, word, ◌>>=◌}
use Rattle.pql_model.specs.Expressions.{expression}
use Rattle.pql_model.specs.Grammar.{conditioned, source, sources_behind}
use Rattle.pql_parse.specs.ClosedStatements as closed
use Rattle.pql_parse.specs.Parts.{another, conditioned_source, some_source}
use Rattle.pql_expr_parser.proofs.Onward.{cond_then, same_cond, onward_some, same_onward, then_onward}

-- how the sources go on behind these
abbrev pub behind : ℕ → List Source → Option Source → Production (List Source)
behind more so_far (Some s) = sources_behind more (so_far ++ s ∷ [])
behind more so_far None = give so_far

plain : (more : ℕ) (so_far : List Source) (r : Reader) →
    (some_source (source so_far) >>= behind more so_far) r ≡ (source so_far >>= (λ s. sources_behind more (so_far ++ s ∷ []))) r
plain more so_far r = onward_some (behind more so_far) (source so_far r)

abbrev on : ℕ → List Source → Source → Production (List Source)
on more so_far s = word "ON" (expression >>= (λ e. sources_behind more (so_far ++ conditioned s e ∷ [])))

abbrev on_alone : Source → Production Source
on_alone s = word "ON" (expression >>= (λ e. give (conditioned s e)))

on_then : (more : ℕ) (so_far : List Source) (s : Source) (r : Reader) → onward (λ x. behind more so_far (Some x)) (on_alone s r) ≡ on more so_far s r
on_then more so_far s r =
    let t : Bool = is_word (codes "ON") (token_of r) in
    let k : Source → Production (List Source) = λ x. behind more so_far (Some x) in
    let alone : Production Source = past (expression >>= (λ e. give (conditioned s e))) in
    let goes : Production (List Source) = past (expression >>= (λ e. sources_behind more (so_far ++ conditioned s e ∷ []))) in
    cond_then t alone (refuse kind.Unexpected) k r
    ∙ same_cond t (alone >>= k) (refuse kind.Unexpected >>= k) goes (refuse kind.Unexpected) r (then_onward (λ e. give (conditioned s e)) k (expression (advanced r))) refl

abbrev joined : ℕ → List Source → Production (List Source)
joined more so_far = word "JOIN" (source so_far >>= on more so_far)

joined_then : (more : ℕ) (so_far : List Source) (r : Reader) → onward (behind more so_far) (some_source (conditioned_source so_far) r) ≡ joined more so_far r
joined_then more so_far r =
    let t : Bool = is_word (codes "JOIN") (token_of r) in
    let k : Source → Production (List Source) = λ x. behind more so_far (Some x) in
    let alone : Production Source = past (source so_far >>= on_alone) in
    let goes : Production (List Source) = past (source so_far >>= on more so_far) in
    onward_some (behind more so_far) (conditioned_source so_far r)
    ∙ cond_then t alone (refuse kind.Unexpected) k r
    ∙ same_cond t (alone >>= k) (refuse kind.Unexpected >>= k) goes (refuse kind.Unexpected) r
    (then_onward on_alone k (source so_far (advanced r)) ∙ same_onward (λ s. on_alone s >>= k) (on more so_far) (source so_far (advanced r)) (on_then more so_far))
    refl

abbrev crossed : ℕ → List Source → Production (List Source)
crossed more so_far = word "JOIN" (source so_far >>= (λ s. sources_behind more (so_far ++ s ∷ [])))

crossed_then : (more : ℕ) (so_far : List Source) (r : Reader) → onward (behind more so_far) (word "JOIN" (some_source (source so_far)) r) ≡ crossed more so_far r
crossed_then more so_far r =
    let t : Bool = is_word (codes "JOIN") (token_of r) in
    let k : Option Source → Production (List Source) = behind more so_far in
    let alone : Production (Option Source) = past (some_source (source so_far)) in
    let goes : Production (List Source) = past (source so_far >>= (λ s. sources_behind more (so_far ++ s ∷ []))) in
    cond_then t alone (refuse kind.Unexpected) k r
    ∙ same_cond t (alone >>= k) (refuse kind.Unexpected >>= k) goes (refuse kind.Unexpected) r (plain more so_far (advanced r)) refl

-- the sources behind these are the one that follows and those behind it
turn : (more : ℕ) (so_far : List Source) (r : Reader) → onward (behind more so_far) (another so_far r) ≡ sources_behind (suc more) so_far r
turn more so_far r =
    let k : Option Source → Production (List Source) = behind more so_far in
    let src : Production (Option Source) = some_source (source so_far) in
    let some : Production (Option Source) = some_source (conditioned_source so_far) in
    let none : Production (Option Source) = give None in
    let comma : Bool = is_symbol (codes ",") (token_of r) in
    let cross : Bool = is_word (codes "CROSS") (token_of r) in
    let inner : Bool = is_word (codes "INNER") (token_of r) in
    let join : Bool = is_word (codes "JOIN") (token_of r) in
    let ends : Production (List Source) = give so_far in
    let a4 : Production (Option Source) = choose (is_word (codes "JOIN")) some none in
    let b4 : Production (List Source) = choose (is_word (codes "JOIN")) (joined more so_far) ends in
    let e4 : onward k (a4 r) ≡ b4 r = cond_then join some none k r ∙ same_cond join (some >>= k) (none >>= k) (joined more so_far) ends r (joined_then more so_far r) refl in
    let a3 : Production (Option Source) = choose (is_word (codes "INNER")) (past some) a4 in
    let b3 : Production (List Source) = choose (is_word (codes "INNER")) (past (joined more so_far)) b4 in
    let e3 : onward k (a3 r) ≡ b3 r = cond_then inner (past some) a4 k r ∙ same_cond inner (past some >>= k) (a4 >>= k) (past (joined more so_far)) b4 r (joined_then more so_far (advanced r)) e4 in
    let a2 : Production (Option Source) = choose (is_word (codes "CROSS")) (past (word "JOIN" src)) a3 in
    let b2 : Production (List Source) = choose (is_word (codes "CROSS")) (past (crossed more so_far)) b3 in
    let e2 : onward k (a2 r) ≡ b2 r = cond_then cross (past (word "JOIN" src)) a3 k r ∙ same_cond cross (past (word "JOIN" src) >>= k) (a3 >>= k) (past (crossed more so_far)) b3 r (crossed_then more so_far (advanced r)) e3 in
    let goes : Production (List Source) = past (source so_far >>= (λ s. sources_behind more (so_far ++ s ∷ []))) in
    cond_then comma (past src) a2 k r ∙ same_cond comma (past src >>= k) (a2 >>= k) goes b2 r (plain more so_far (advanced r)) e2

closed_turn : (more : ℕ) (so_far : List Source) (r : Reader) → onward (behind more so_far) (closed.another so_far r) ≡ closed.sources_behind (suc more) so_far r
unfolding closed.another closed.sources_behind
closed_turn more so_far r = turn more so_far r

pub sources_open : (r : Reader) → closed.sources r ≡ (closed.source [] >>= (λ s. closed.sources_behind (length r.rest) (s ∷ []))) r
unfolding closed.sources closed.source closed.sources_behind
sources_open r = refl

-- where no turn is left
pub sources_out : (more : ℕ) (so_far : List Source) (r : Reader) → more ≡ 0 → closed.sources_behind more so_far r ≡ Ok (record { tree = so_far; reader = r })
unfolding closed.sources_behind
sources_out zero so_far r e = refl
sources_out (suc more) so_far r e = absurd (omega arith)

-- where none follows
pub sources_end : (more : ℕ) (so_far : List Source) (r s : Reader) → 0 < more → closed.another so_far r ≡ Ok (record { tree = None; reader = s }) →
    closed.sources_behind more so_far r ≡ Ok (record { tree = so_far; reader = s })
sources_end zero so_far r s h e = absurd (omega arith)
sources_end (suc more) so_far r s h e = sym (closed_turn more so_far r) ∙ ap (onward (behind more so_far)) e

-- where one is at fault
pub source_fault : (more : ℕ) (so_far : List Source) (r : Reader) (f : Fault) → 0 < more → closed.another so_far r ≡ Err f → closed.sources_behind more so_far r ≡ Err f
source_fault zero so_far r f h e = absurd (omega arith)
source_fault (suc more) so_far r f h e = sym (closed_turn more so_far r) ∙ ap (onward (behind more so_far)) e

-- where one follows
pub source_more : (more : ℕ) (so_far : List Source) (r s : Reader) (x : Source) → 0 < more → closed.another so_far r ≡ Ok (record { tree = Some x; reader = s }) →
    closed.sources_behind more so_far r ≡ closed.sources_behind (more - 1) (so_far ++ x ∷ []) s
unfolding closed.sources_behind
source_more zero so_far r s x h e = absurd (omega arith)
source_more (suc more) so_far r s x h e =
    let less : more ≡ suc more - 1 = omega arith in
    sym (closed_turn more so_far r) ∙ ap (onward (behind more so_far)) e ∙ ap (λ n. closed.sources_behind n (so_far ++ x ∷ []) s) less

pub ruleset source_turns = (sources_open, sources_out, sources_end, source_fault, source_more)
