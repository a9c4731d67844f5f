use Rattle.std.proofs.Common.{◌≡◌, Bool, true, false, Option, subst}
use Rattle.ion_values.specs.declared.value.Value.{Value}
use Rattle.journal_text.specs.Lines.{GivesOne}
use Rattle.journal_text.proofs.LineReads.{no_value, not_written, line_read}
use Rattle.journal_text.proofs.lines.block_of.Goals as goal

never : (b : Bool) → b ≡ true → b ≡ false → ⊥
never b t f = cc

pub returns-in_default : goal.returns-in_default
returns-in_default c = no_value c.written_is_read.ensures c.args.text.now (subst (λ (x : Option Value). GivesOne c.args.text.now x) c.in_default.is c.in_ok-value.ensures)

pub returns-in_ok-found : goal.returns-in_ok-found
returns-in_ok-found c =
    let text = c.args.text.now in
    let reads = subst (λ (x : Option Value). GivesOne text x) c.in-Some.is c.in_ok-value.ensures in
    line_read c.written_is_read.ensures c.read_is_within.ensures text c.in-Some.value c.in_ok-found.found reads
    (c.is_text_of.ensures.0 c.if-is_text_of.true) c.in_ok-found.ensures

pub returns-else-is_text_of : goal.returns-else-is_text_of
returns-else-is_text_of c =
    let text = c.args.text.now in
    let reads = subst (λ (x : Option Value). GivesOne text x) c.in-Some.is c.in_ok-value.ensures in
    not_written c.written_is_read.ensures text c.in-Some.value reads (λ e. never c.is_text_of.result (c.is_text_of.ensures.1 e) c.if-is_text_of.false)
