-- A journal grows by a line.
use Rattle.std.proofs.Common.{◌≡◌, ◌∙◌, ℕ, suc, ◌+◌, ◌≤◌, ◌-◌, List, [], ◌∷◌, ◌++◌, length, drop, Bool, true, false, not, Option, Some, None, if◌then◌else◌, refl, sym, ap, subst, arith, append_assoc, append-nil, length-append, length-drop, drop-drop}
use Rattle.std.proofs.lemmas.Bool.{not-false}
use Rattle.std.proofs.lemmas.List.Concat.{flat_map-append}
use Rattle.ledger_model.specs.declared.block.Block.{Block}
use Rattle.ledger_model.specs.declared.damage.Damage.{Damage}
use Rattle.ledger_model.specs.declared.damage.Damage.TheVariants as damage
use Rattle.ledger_model.specs.Journal.{line, journal_bytes}
use Rattle.ledger_model.specs.Whole.{IsWhole}
use Rattle.ledger_model.specs.Follows.{follows_blocks}
use Rattle.ledger_model.specs.Damages.{damage_behind, has_address, has_hashes, has_id, has_previous, has_time, strand_of, UndamagedBehind, Undamaged}
use Rattle.ledger_model.specs.Recovered.{Fails, IsLineOf, IsDamagedLine}
use Rattle.journal_text.specs.declared.registry.Registry.{Registry}
use Rattle.journal_text.specs.Stands.{Stands}
use Rattle.journal_text.specs.Reading.{StandsBehind}
use Rattle.journal_text.proofs.Feeds as feeds

pub journal_more : (blocks : List Block) (b : Block) (rest : List ℕ) → journal_bytes (blocks ++ b ∷ []) ++ rest ≡ journal_bytes blocks ++ (line b ++ rest)
journal_more blocks b rest =
    ap (λ z. z ++ rest) (flat_map-append line blocks (b ∷ []) ∙ ap (λ z. journal_bytes blocks ++ z) (append-nil (line b)))
    ∙ append_assoc (journal_bytes blocks) (line b) rest

-- what stands behind the line's text and its line feed
pub lines_more :
    (bytes text : List ℕ) (at : ℕ) (blocks : List Block) (b : Block) → bytes ≡ journal_bytes blocks ++ drop at bytes →
    drop at bytes ≡ text ++ 10 ∷ drop (length text + 1) (drop at bytes) → IsLineOf (text ++ 10 ∷ []) b →
    bytes ≡ journal_bytes (blocks ++ b ∷ []) ++ drop (at + (length text + 1)) bytes
lines_more bytes text at blocks b so_far next is =
    so_far ∙ ap (λ z. journal_bytes blocks ++ z) (
    next ∙ sym (append_assoc text (10 ∷ []) (drop (length text + 1) (drop at bytes)))
    ∙ ap (λ z. z ++ drop (length text + 1) (drop at bytes)) is.written ∙ ap (λ z. line b ++ z) (drop-drop (length text + 1) at bytes))
    ∙ sym (journal_more blocks b (drop (at + (length text + 1)) bytes))

pub within_more : (bytes text rest : List ℕ) (at : ℕ) → at ≤ length bytes → drop at bytes ≡ text ++ 10 ∷ rest → at + (length text + 1) ≤ length bytes
within_more bytes text rest at h e =
    let long : length bytes - at ≡ length text + suc (length rest) = sym (length-drop at bytes) ∙ ap length e ∙ length-append text (10 ∷ rest) in
    omega (arith, long, h)

undamaged_behind : (before blocks : List Block) (b : Block) → UndamagedBehind before blocks → IsWhole b → damage_behind (before ++ blocks) b ≡ None → UndamagedBehind before (blocks ++ b ∷ [])
undamaged_behind before [] b u w none = (w, subst (λ z. damage_behind z b ≡ None) (append-nil before) none, tt)
undamaged_behind before (a ∷ cs) b u w none =
    (u.0, u.1, undamaged_behind (before ++ a ∷ []) cs b u.2 w (subst (λ z. damage_behind z b ≡ None) (sym (append_assoc before (a ∷ []) cs)) none))

pub undamaged_more : (blocks : List Block) (b : Block) → Undamaged blocks → IsWhole b → damage_behind blocks b ≡ None → Undamaged (blocks ++ b ∷ [])
undamaged_more blocks b u w none = undamaged_behind [] blocks b u w none

-- the strand stays that of the first block
strand_more : (before : List Block) (b next : Block) → strand_of (before ++ b ∷ []) next ≡ strand_of before b
strand_more [] b next = refl
strand_more (first ∷ more) b next = refl

pub stands_more : (before : List Block) (b : Block) (r : Registry) → Stands (strand_of before b) (before ++ b ∷ []) r → StandsBehind (before ++ b ∷ []) r
stands_more before b r h = λ next. subst (λ strand. Stands strand (before ++ b ∷ []) r) (sym (strand_more before b next)) h

pub damaged :
    (bytes text rest : List ℕ) (at sequence : ℕ) (blocks : List Block) (kind : Damage) → bytes ≡ journal_bytes blocks ++ drop at bytes →
    drop at bytes ≡ text ++ 10 ∷ rest → feeds.NoFeed text → Undamaged blocks → sequence ≡ length blocks → Fails blocks (text ++ 10 ∷ []) kind → IsDamagedLine bytes sequence kind
damaged bytes text rest at sequence blocks kind so_far next one_line u is f = (
  blocks,
  is,
  record {
    text = text;
    rest = rest;
    lines = so_far ∙ ap (λ z. journal_bytes blocks ++ z) next;
    one_line = one_line;
    undamaged = u;
    fails = f;
  },
)

passed : (b : Bool) (d : Damage) (o : Option Damage) → (if b then Some d else o) ≡ None → (b ≡ false) × (o ≡ None)
passed true d o h = cc
passed false d o h = (refl, h)

-- a block that fails no check has its hashes
pub hashes_behind : (before : List Block) (b : Block) → damage_behind before b ≡ None → has_hashes b ≡ true
hashes_behind before b none =
    let strand = strand_of before b in
    let address = passed (not (has_address strand before b)) _ _ none in
    let id = passed (not (has_id strand before b)) _ _ address.1 in
    let time = passed (not (has_time before b)) _ _ id.1 in
    let previous = passed (not (has_previous strand before b)) _ _ time.1 in
    let hashes = passed (not (has_hashes b)) _ _ previous.1 in
    not-false (has_hashes b) hashes.0

-- the check that a whole block fails first isn't that of its bytes
never_unread :
    (a b c d e f : Bool) →
    (if a then Some damage.WrongAddress else if b then Some damage.WrongId else if c then Some damage.TimeFell else if d then Some damage.WrongPrevious
    else if e then Some damage.WrongHash else if f then Some damage.WrongState else None) ≡ Some damage.NotALine → ⊥
never_unread true b c d e f h = cc
never_unread false true c d e f h = cc
never_unread false false true d e f h = cc
never_unread false false false true e f h = cc
never_unread false false false false true f h = cc
never_unread false false false false false true h = cc
never_unread false false false false false false h = cc

not_unread : (before : List Block) (b : Block) → damage_behind before b ≡ Some damage.NotALine → ⊥
not_unread before b h =
    let strand = strand_of before b in
    never_unread (not (has_address strand before b)) (not (has_id strand before b)) (not (has_time before b)) (not (has_previous strand before b)) (not (has_hashes b))
    (not (follows_blocks strand before b)) h

pub fails : (before : List Block) (text : List ℕ) (kind : Damage) (b : Block) → IsLineOf text b → damage_behind before b ≡ Some kind → Fails before text kind
fails before text damage.NotALine b is e = absurd (not_unread before b e)
fails before text damage.WrongAddress b is e = (b, is, e)
fails before text damage.WrongId b is e = (b, is, e)
fails before text damage.TimeFell b is e = (b, is, e)
fails before text damage.WrongPrevious b is e = (b, is, e)
fails before text damage.WrongHash b is e = (b, is, e)
fails before text damage.WrongState b is e = (b, is, e)
fails before text damage.Unasked b is e = (b, is, e)
