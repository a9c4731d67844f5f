-- A tail after an append.
use Rattle.std.proofs.Common.{◌≡◌, ◌∙◌, ℕ, ◌+◌, Bool, true, List, [], ◌∷◌, ◌++◌, length, take, length-append, sym, ap, subst, inl, inr, Option, ◌⊎◌}
use Rattle.std.specs.Prelude.{option_map, IfSome, Some}
use Rattle.ledger_model.specs.declared.block.Block.{Block}
use Rattle.ledger_model.specs.Journal.{line, journal_bytes}
use Rattle.ledger_model.specs.State.{State, state, after}
use Rattle.laws_history.specs.Standings.{IsStanding}
use Rattle.journal_keeper.specs.declared.keeping.SettleFault.{SettleFault}
use Rattle.journal_keeper.specs.declared.keeping.SettleFault.TheVariants as settle
use Rattle.ledger_core.specs.Faults.{IsTriedWith}
use Rattle.journal_keeper.specs.Keeping.{HoldsPart, cleared}
use Rattle.ledger_core.specs.Tails.{IsTail, HoldsMarked, Leaves, MayHoldPart}
use Rattle.ledger_core.proofs.Kept.{holds-behind, unmarked, part-marked, part-holds}
use Rattle.ledger_core.proofs.Standings.{journal-more, state-more}

-- ---- after a fault

holds-faulted : (journal line : List ℕ) (marked now_marked : Bool) (size : ℕ) (before now : Option (List ℕ)) → size ≡ length journal → HoldsMarked journal marked before
    → (now ≡ before) ⊎ HoldsPart marked size line before now → ((now ≡ before) × (now_marked ≡ marked)) ⊎ (now_marked ≡ true) → HoldsMarked journal now_marked now
holds-faulted journal line marked now_marked size before now long held part (inl (e, m)) =
    subst (λ (b : Bool). HoldsMarked journal b now) (sym m) (subst (λ (b : Option (List ℕ)). HoldsMarked journal marked b) (sym e) held)
holds-faulted journal line marked now_marked size before now long held part (inr m) =
    subst (λ (b : Bool). HoldsMarked journal b now) (sym m) (part-marked journal line marked size before now long held part)

pub faulted : (mask last : ℕ) (blocks now_blocks : List Block) (marked now_marked : Bool) (size now_size : ℕ) (before now : Option (List ℕ)) (line : List ℕ) (version : State)
    → IsTail before (record { mask = mask; last = last; blocks = blocks }) marked size × (version ≡ state blocks)
    → now_blocks ≡ blocks → now_size ≡ size → (now ≡ before) ⊎ HoldsPart marked size line before now → ((now ≡ before) × (now_marked ≡ marked)) ⊎ (now_marked ≡ true)
    → IsTail now (record { mask = mask; last = last; blocks = now_blocks }) now_marked now_size × (version ≡ state now_blocks)
faulted mask last blocks now_blocks marked now_marked size now_size before now line version (tail, listed) same_blocks same_size part how = (
  record {
    stands = subst (λ (bs : List Block). IsStanding (record { mask = mask; last = last; blocks = bs })) (sym same_blocks) tail.stands;
    long = same_size ∙ tail.long ∙ ap (λ bs. length (journal_bytes bs)) (sym same_blocks);
    holds = subst (λ (bs : List Block). HoldsMarked (journal_bytes bs) now_marked now) (sym same_blocks)
        (holds-faulted (journal_bytes blocks) line marked now_marked size before now tail.long tail.holds part how);
  },
  listed ∙ ap state (sym same_blocks),
)

pub may-hold : (mask last : ℕ) (blocks : List Block) (b : Block) (marked : Bool) (size : ℕ) (before now : Option (List ℕ)) (text : List ℕ) (version : State)
    → IsTail before (record { mask = mask; last = last; blocks = blocks }) marked size × (version ≡ state blocks)
    → text ≡ line b → (now ≡ before) ⊎ HoldsPart marked size text before now → MayHoldPart blocks b before now
may-hold mask last blocks b marked size before now text version (tail, listed) is part =
    subst (λ (t : List ℕ). (now ≡ before) ⊎ ((kept : ℕ) × IfSome now (λ bytes. bytes ≡ journal_bytes blocks ++ take kept t))) is
    (part-holds (journal_bytes blocks) text marked size before now tail.long tail.holds part)

-- the block's line had come to the store
pub tried_with : (b tried : Block) (fault : SettleFault) → tried ≡ b → IsTriedWith b fault (Some tried)
tried_with b tried (settle.StoreFault count) is = is
tried_with b tried settle.OutOfMemory is = is

pub left_with : (blocks : List Block) (b tried : Block) (before now : Option (List ℕ)) → tried ≡ b → MayHoldPart blocks b before now
    → Leaves blocks (Some tried) before now
left_with blocks b tried before now is part = subst (λ (x : Block). MayHoldPart blocks x before now) (sym is) part

-- ---- after an append

pub holds-more : (mask last : ℕ) (blocks now_blocks : List Block) (b : Block) (marked : Bool) (size : ℕ) (before now : Option (List ℕ)) (text : List ℕ) (version : State)
    → IsTail before (record { mask = mask; last = last; blocks = blocks }) marked size × (version ≡ state blocks)
    → text ≡ line b → now_blocks ≡ blocks ++ b ∷ [] → now ≡ option_map (λ held. cleared marked size held ++ text) before
    → IfSome now (λ bytes. bytes ≡ journal_bytes now_blocks)
holds-more mask last blocks now_blocks b marked size before now text version (tail, listed) is more e =
    let journal : journal_bytes blocks ++ text ≡ journal_bytes now_blocks =
    ap (λ t. journal_bytes blocks ++ t) is ∙ sym (journal-more blocks b) ∙ ap journal_bytes (sym more) in
    subst (λ (j : List ℕ). IfSome now (λ bytes. bytes ≡ j)) journal
    (holds-behind (journal_bytes blocks) text marked size before now tail.long tail.holds e)

pub appended : (mask last : ℕ) (blocks now_blocks : List Block) (b : Block) (marked now_marked : Bool) (size now_size : ℕ) (before now : Option (List ℕ)) (text : List ℕ) (version now_version : State)
    → IsStanding (record { mask = mask; last = last; blocks = blocks ++ b ∷ [] })
    → IsTail before (record { mask = mask; last = last; blocks = blocks }) marked size × (version ≡ state blocks)
    → text ≡ line b → now_blocks ≡ blocks ++ b ∷ [] → now_size ≡ size + length text → now ≡ option_map (λ held. cleared marked size held ++ text) before
    → now_version ≡ after version b
    → IsTail now (record { mask = mask; last = last; blocks = now_blocks }) now_marked now_size × (now_version ≡ state now_blocks)
appended mask last blocks now_blocks b marked now_marked size now_size before now text version now_version stands (tail, listed) is more grown e joins = (
  record {
    stands = subst (λ (bs : List Block). IsStanding (record { mask = mask; last = last; blocks = bs })) (sym more) stands;
    long = grown ∙ ap (λ n. n + length text) tail.long ∙ sym (length-append (journal_bytes blocks) text)
        ∙ ap length (ap (λ t. journal_bytes blocks ++ t) is ∙ sym (journal-more blocks b) ∙ ap journal_bytes (sym more));
    holds = unmarked (journal_bytes now_blocks) now_marked now (holds-more mask last blocks now_blocks b marked size before now text version (tail, listed) is more e);
  },
  joins ∙ ap (λ (s : State). after s b) listed ∙ sym (state-more blocks b) ∙ ap state (sym more),
)
