use Rattle.std.proofs.Common.{◌≡◌, ◌+◌, length, ap, sym, ◌∙◌, arith}
use Rattle.ion_pieces.specs.Checks.{ill_formed_at}
use Rattle.ion_pieces.specs.Pieces.{first_fault}
use Rattle.ion_pieces.proofs.Holding.{ill_formed_behind}
use Rattle.ion_pieces.proofs.held.Held.take.Goals as goal

pub returns-in-Err-Ion : goal.returns-in-Err-Ion
returns-in-Err-Ion c =
    let self = c.args.self in
    let more = c.args.more.now in
    let checked = rw c.in-Err-Ion.field-0-is at c.in-Err-Ion.ensures in
    let end : self.at + length self.bytes.items ≡ c.in_ok-end.end = omega (arith, c.in_ok-end.ensures, c.len.ensures) in
    let place : ill_formed_at (self.at + length self.bytes.items) more ≡ c.in-Err-Ion.fault = ap (λ n. ill_formed_at n more) end ∙ sym checked.1 in
    λ z.
    ill_formed_behind c.args.depth self.known self.at self.bytes.items more z c.requires checked.0
    ∙ ap (first_fault self.known) place
    ∙ sym (c.ill_formed.ensures c.args.depth z)
