use Rattle.std.proofs.Common.{sym, ap, ◌∙◌}
use Rattle.std.specs.List.{list_any}
use Rattle.ion_text.specs.Escapes.{has_escape}
use Rattle.ion_text.proofs.Escaped.{escapes-none}
use Rattle.ion_text.proofs.writing.quoted.put_inner.Goals as goal

pub returns-else-have_escapes : goal.returns-else-have_escapes
returns-else-have_escapes g c =
    let as_text = ap (list_any (has_escape c.args.quote)) c.as_bytes.ensures.value in
    let none = sym as_text ∙ sym c.have_escapes.ensures ∙ c.if-have_escapes.false in
    rw (escapes-none c.args.quote c.args.text.now none) c.push_str.ensures
