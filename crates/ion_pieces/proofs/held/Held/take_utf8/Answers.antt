use Rattle.std.proofs.Common.{◌≡◌, ◌+◌, ◌++◌, List, ℕ, [], true, length, refl, ap, sym, subst, ◌∙◌, arith}
use Rattle.std.specs.Str.{is_utf8}
use Rattle.ion_pieces.specs.Fronts.{EndsWhite}
use Rattle.ion_pieces.specs.Pieces.{answer_in}
use Rattle.ion_pieces.specs.declared.frames.Frames.{Frames}
use Rattle.ion_pieces.specs.declared.held.Known.{Known}
use Rattle.ion_pieces.specs.declared.held.Known.TheVariants as known
use Rattle.ion_pieces.proofs.Holding.{ends_behind, extended, let_go_refused}
use Rattle.ion_pieces.proofs.held.Held.take_utf8.Goals as goal

-- what is held behind a fault is let go of
let_go : (depth : ℕ) (k : Known) (at : ℕ) (held z : List ℕ) → ((frames : Frames) → k ≡ known.Open frames → ⊥) → answer_in depth k at held z ≡ answer_in depth k (at + length held) [] z
let_go depth (known.Open frames) at held z closed = absurd (closed frames refl)
let_go depth (known.Refused f) at held z closed = let_go_refused depth f at held z
let_go depth (known.NotUtf8 f) at held z closed = refl

pub read_open-requires : goal.read_open-requires
read_open-requires c =
    subst EndsWhite (sym (c.deref.ensures.value ∙ c.in_ok-bytes.ensures)) (ends_behind c.args.self.bytes.items c.args.more.now c.requires.white)

-- the bytes are held behind the others
held_behind :
    (depth : ℕ) (k : Known) (at : ℕ) (held more all z : List ℕ) → is_utf8 more ≡ true → all ≡ held ++ more → answer_in depth k at held (more ++ z) ≡ answer_in depth k at all z
held_behind depth k at held more all z h e = extended depth k at held more z h ∙ ap (λ y. answer_in depth k at y z) (sym e)

pub returns-in_ok-read-in-Open : goal.returns-in_ok-read-in-Open
returns-in_ok-read-in-Open c =
    let self = c.args.self in
    let more = c.args.more.now in
    let open_known : Known = known.Open c.in-Open.frames in
    λ z.
    ap (λ k. answer_in c.args.depth k self.at self.bytes.items (more ++ z)) c.in-Open.is
    ∙ held_behind c.args.depth open_known self.at self.bytes.items more c.deref.result.now z c.requires.utf8 (c.deref.ensures.value ∙ c.in_ok-bytes.ensures)
    ∙ c.in_ok-read-in-Open.ensures z

pub returns-in-Open-2 : goal.returns-in-Open-2
returns-in-Open-2 c =
    let self = c.args.self in
    let more = c.args.more.now in
    λ z.
    ap (λ k. answer_in c.args.depth k self.at self.bytes.items (more ++ z)) c.in-Open.is
    ∙ held_behind c.args.depth (known.Open c.in-Open.frames) self.at self.bytes.items more c.in_ok-bytes.bytes.items z c.requires.utf8 c.in_ok-bytes.ensures

pub returns-in_ok-sum-in_default : goal.returns-in_ok-sum-in_default
returns-in_ok-sum-in_default c =
    let self = c.args.self in
    let bytes = c.in_ok-bytes.bytes in
    let end : self.at + length bytes.items ≡ c.in_ok-sum-in_default.field-0 = omega (arith, c.in_ok-sum-in_default.ensures, c.len-in_default.ensures) in
    let none : [] ≡ c.new.result.items = sym c.new.ensures.items in
    λ z.
    held_behind c.args.depth self.known self.at self.bytes.items c.args.more.now bytes.items z c.requires.utf8 c.in_ok-bytes.ensures
    ∙ let_go c.args.depth self.known self.at bytes.items z c.in_default.not-Open
    ∙ (λ i. answer_in c.args.depth self.known (end i) (none i) z)
