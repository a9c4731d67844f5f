use Rattle.std.proofs.Common.{◌≡◌, ◌≤◌, ◌<◌, ◌+◌, ℕ, true, List, [], ◌++◌, drop, length, length-drop, Err, refl, ap, sym, subst, ◌∙◌, arith}
use Rattle.std.proofs.lemmas.List.{append-nil, drop_all}
use Rattle.ion_values.specs.declared.fault.IonKind.TheVariants as fault
use Rattle.ion_model.specs.Lex.{lex}
use Rattle.ion_model.specs.Table.{Open}
use Rattle.ion_model.specs.Read.{Answer, finish, refused, run}
use Rattle.ion_model.specs.declared.Lexed.TheVariants as lexed
use Rattle.ion_text.specs.Stream.{open_of, Gives}
use Rattle.ion_pieces.proofs.Steps.{Same, cut_first}
use Rattle.ion_pieces.proofs.held.finish_open.Goals as goal

less : (a b : ℕ) → a ≤ b → (a ≡ b → ⊥) → a < b
less a b h k = omega (arith, h, k)

-- no bytes are left
all_read : (depth at passed : ℕ) (fs gs : Open) (bytes : List ℕ) → Same depth fs true bytes passed gs → passed ≡ length bytes → run depth 0 at fs bytes ≡ finish (at + passed) gs
all_read depth at passed fs gs bytes same e =
    ap (λ y. run depth 0 at fs y) (sym (append-nil bytes)) ∙ same at [] refl ∙ ap (λ y. run depth 0 (at + passed) gs (y ++ [])) (drop_all passed bytes (omega arith))

-- the last token isn't complete
cut_read :
    (depth at passed : ℕ) (fs gs : Open) (bytes : List ℕ) → Same depth fs true bytes passed gs → passed < length bytes → lex (drop passed bytes) ≡ lexed.Cut →
    run depth 0 at fs bytes ≡ refused (at + length bytes) fault.Unclosed
cut_read depth at passed fs gs bytes same left cut =
    ap (λ y. run depth 0 at fs y) (sym (append-nil bytes)) ∙ same at [] refl ∙ ap (λ y. run depth 0 (at + passed) gs y) (append-nil (drop passed bytes))
    ∙ cut_first depth (at + passed) gs (drop passed bytes) cut (omega (arith, length-drop passed bytes))
    ∙ ap (λ k. refused k fault.Unclosed) (let same : at + passed + length (drop passed bytes) ≡ at + length bytes = omega (arith, length-drop passed bytes) in same)

pub returns-in_ok-sum-in-Waits-clause-gives : goal.returns-in_ok-sum-in-Waits-clause-gives
returns-in_ok-sum-in-Waits-clause-gives c =
    let stops = rw c.in-Waits.is at c.in_ok-passed.ensures in
    let gs = open_of c.in-Waits.frames.reader in
    let same = all_read c.args.depth c.args.at c.in-Waits.passed (open_of c.args.frames.reader) gs c.args.bytes.now stops.1 c.if-passed-bytes.true in
    subst (Gives c.finish.result) (sym (same ∙ ap (λ k. finish k gs) (sym c.in_ok-sum-in-Waits.ensures))) c.finish.ensures.gives

pub returns-in_ok-end-in-Waits-2-clause-gives : goal.returns-in_ok-end-in-Waits-2-clause-gives
returns-in_ok-end-in-Waits-2-clause-gives c =
    let stops = rw c.in-Waits.is at c.in_ok-passed.ensures in
    let left = less c.in-Waits.passed (length c.args.bytes.now) stops.0 c.if-passed-bytes.false in
    cut_read c.args.depth c.args.at c.in-Waits.passed (open_of c.args.frames.reader) (open_of c.in-Waits.frames.reader) c.args.bytes.now stops.1 left (stops.2 refl left)
    ∙ ap (λ k. refused k fault.Unclosed) (sym c.in_ok-end-in-Waits-2.ensures) ∙ ap (λ f. let answer : Answer = Err f in answer) (sym c.fault.ensures)

pub returns-in_ok-sum-in-Refused-clause-gives : goal.returns-in_ok-sum-in-Refused-clause-gives
returns-in_ok-sum-in-Refused-clause-gives c =
    let stops = rw c.in-Refused.is at c.in_ok-passed.ensures in
    let bytes = c.args.bytes.now in
    ap (λ y. run c.args.depth 0 c.args.at (open_of c.args.frames.reader) y) (sym (append-nil bytes)) ∙ stops c.args.at [] refl
    ∙ ap (λ k. refused k c.in-Refused.kind) (sym c.in_ok-sum-in-Refused.ensures) ∙ ap (λ f. let answer : Answer = Err f in answer) (sym c.fault-in-Refused.ensures)
