use Rattle.std.proofs.Common.{◌≡◌, ◌≤◌, ◌<◌, ◌+◌, ℕ, Bool, true, false, List, [], ◌++◌, drop, length, Ok, Err, refl, ap, sym, subst, ◌∙◌, arith}
use Rattle.ion_model.specs.Lex.{lex}
use Rattle.ion_model.specs.Table.{Open, accept}
use Rattle.ion_model.specs.Read.{refused}
use Rattle.ion_model.specs.declared.Token.{Token}
use Rattle.ion_model.specs.declared.Lexed.TheVariants as lexed
use Rattle.ion_text.specs.Stream.{open_of}
use Rattle.ion_text.specs.declared.stream.reader.Reader.{Reader}
use Rattle.ion_text.proofs.TokensWithin.{LexedWithin, lex_within, token_within}
use Rattle.ion_pieces.specs.Fronts.{MayFollow, Stands, Stops, WaitsWith}
use Rattle.ion_pieces.specs.declared.tokens.Stop.{Stop}
use Rattle.ion_pieces.specs.declared.tokens.Stop.TheVariants as stop
use Rattle.ion_pieces.proofs.FramesWithin.{accept_within}
use Rattle.ion_pieces.proofs.Steps.{Same, fits, blank_passed, token_passed, token_fails, lexed_fails}
use Rattle.ion_pieces.proofs.tokens.read_tokens.Goals as goal

none_follows : (whole : Bool) → MayFollow whole []
none_follows true = refl
none_follows false = tt

-- a token that is read is within its ranges
token_fine : (whole : Bool) (z : List ℕ) (t : Token) (n : ℕ) → Stands whole z (lexed.Token t n) → token_within t ≡ true
token_fine whole z t n stands = subst LexedWithin (stands.1 [] (none_follows whole)) (lex_within (z ++ []))

-- the reader waits there
stops :
    (depth : ℕ) (fs : Open) (whole : Bool) (z : List ℕ) (reader : Reader) (a : ℕ) (s : Stop) → WaitsWith reader a s → a ≤ length z →
    Same depth fs whole z a (open_of reader) → (whole ≡ true → a < length z → lex (drop a z) ≡ lexed.Cut) → Stops depth fs whole z s
stops depth fs whole z reader a (stop.Waits frames n) w room same cut = rw (w.0, w.1) (room, same, cut)
stops depth fs whole z reader a (stop.Refused place kind) w room same cut = absurd w

pub tokens-preserved-in-Blank : goal.tokens-preserved-in-Blank
tokens-preserved-in-Blank c =
    let bytes = c.args.bytes.now in
    let rest = c.split_at.result.1.now in
    let stands = rw c.in-Blank.is at c.in_ok-more.ensures in
    record {
      room = fits c.args.depth (open_of c.args.frames.reader) c.args.whole bytes rest c.tokens.at (open_of c.tokens.reader) c.split_at.ensures.back c.tokens-test.true c.tokens.invariant.same c.in-Blank.more stands.0;
      fine = c.tokens.invariant.fine;
      same = blank_passed c.args.depth (open_of c.args.frames.reader) c.args.whole bytes rest c.tokens.at (open_of c.tokens.reader) c.split_at.ensures.back c.tokens-test.true c.tokens.invariant.same c.in-Blank.more stands;
    }

pub tokens-preserved : goal.tokens-preserved
tokens-preserved c =
    let bytes = c.args.bytes.now in
    let rest = c.split_at.result.1.now in
    let stands = rw c.in-Token.is at c.in_ok-more.ensures in
    let takes : accept c.args.depth (open_of c.tokens.reader) c.in-Token.token ≡ Ok (open_of c.accept.new.self) = c.in-Ok.ensures in
    record {
      room = fits c.args.depth (open_of c.args.frames.reader) c.args.whole bytes rest c.tokens.at (open_of c.tokens.reader) c.split_at.ensures.back c.tokens-test.true c.tokens.invariant.same c.in-Token.more stands.0;
      fine = accept_within c.args.depth (open_of c.tokens.reader) (open_of c.accept.new.self) c.in-Token.token (token_fine c.args.whole rest c.in-Token.token c.in-Token.more stands) c.tokens.invariant.fine takes;
      same = token_passed c.args.depth (open_of c.args.frames.reader) c.args.whole bytes rest c.tokens.at (open_of c.tokens.reader) c.split_at.ensures.back c.tokens-test.true c.tokens.invariant.same c.in-Token.more c.in-Token.token (open_of c.accept.new.self) stands takes;
    }

pub returns-in-Err-Kind : goal.returns-in-Err-Kind
returns-in-Err-Kind c =
    let bytes = c.args.bytes.now in
    let rest = c.split_at.result.1.now in
    let stands = rw c.in-Token.is at c.in_ok-more.ensures in
    let not_taken : accept c.args.depth (open_of c.tokens.reader) c.in-Token.token ≡ Err c.in-Err-Kind.kind = rw c.in-Err-Kind.field-0-is at c.in-Err-Kind.ensures in
    λ at more may. token_fails c.args.depth (open_of c.args.frames.reader) c.args.whole bytes rest c.tokens.at (open_of c.tokens.reader) c.split_at.ensures.back c.tokens-test.true c.tokens.invariant.same c.in-Token.more c.in-Token.token c.in-Err-Kind.kind stands not_taken at more may
    ∙ ap (refused (at + c.tokens.at)) (sym c.in-Err-Kind.kind-is)

pub returns-in-Refused : goal.returns-in-Refused
returns-in-Refused c =
    let stands = rw c.in-Refused.is at c.in_ok-more.ensures in
    lexed_fails c.args.depth (open_of c.args.frames.reader) c.args.whole c.args.bytes.now c.split_at.result.1.now c.tokens.at (open_of c.tokens.reader) c.split_at.ensures.back c.tokens-test.true c.tokens.invariant.same c.in-Refused.kind stands

pub returns-in-Cut : goal.returns-in-Cut
returns-in-Cut c =
    let stands = rw c.in-Cut.is at c.in_ok-more.ensures in
    stops c.args.depth (open_of c.args.frames.reader) c.args.whole c.args.bytes.now c.tokens.reader c.tokens.at c.waits.result c.waits.ensures c.tokens.invariant.room c.tokens.invariant.same
    (λ whole _. ap lex (sym c.split_at.ensures.back) ∙ stands whole)

pub returns : goal.returns
returns c =
    stops c.args.depth (open_of c.args.frames.reader) c.args.whole c.args.bytes.now c.tokens.reader c.tokens.at c.waits-2.result c.waits-2.ensures c.tokens.invariant.room c.tokens.invariant.same
    (λ whole more. absurd (omega (arith, more, c.tokens-test.false)))
