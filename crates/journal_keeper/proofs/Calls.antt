-- How many calls of a store are made, one after another.
use Rattle.std.proofs.Common.{◌≡◌, ◌∙◌, ℕ, ◌+◌, ◌≤◌, List, [], ◌∷◌, length, take, length-append, arith, inl, inr, refl, sym, ap, subst, Option, Some, None, Result, Ok, Err}
use Rattle.std.specs.Prelude.{option_map}
use Rattle.outside.specs.Store.{AppendLeaves, Content, CutLeaves, SyncLeaves, appended, cut_to, lowered, moment, moment_of, past_after, synced_whole}
use Rattle.outside.specs.declared.traits.OutFault.{OutFault}
use Rattle.outside.specs.declared.traits.OutFault.TheVariants.{Failed, OutOfMemory}
use Rattle.journal_keeper.specs.Calls.{CallsAtMost}

none_made : (count : ℕ) (content : Option Content) → CallsAtMost count content content
none_made count None = tt
none_made count (Some c) = let within : length c.past ≤ length c.past + count = omega arith in within

-- the content is as before
pub no_call : (count : ℕ) (before now : Option Content) → now ≡ before → CallsAtMost count before now
no_call count before now e = subst (CallsAtMost count before) (sym e) (none_made count before)

-- some calls after others
pub calls_on : (m n : ℕ) (a b c : Option Content) → CallsAtMost m a b → CallsAtMost n b c → CallsAtMost (m + n) a c
calls_on m n a b None p q = tt
calls_on m n a None (Some z) p q = absurd q
calls_on m n None (Some y) (Some z) p q = absurd p
calls_on m n (Some x) (Some y) (Some z) p q =
    let first : length y.past ≤ length x.past + m = p in
    let second : length z.past ≤ length y.past + n = q in
    let both : length z.past ≤ length x.past + (m + n) = omega (arith, first, second) in
    both

-- ---- one call, by its answer

one_more : (c now : Content) → now.past ≡ past_after c → moment now ≤ moment c + 1
one_more c now e =
    let more : length now.past ≡ length c.past + 1 = ap length e ∙ length-append c.past (moment_of c ∷ []) in
    let within : length now.past ≤ length c.past + 1 = omega (arith, more) in
    within

one_call : (change : Content → Content) (before now : Option Content) → now ≡ option_map change before → ((c : Content) → (change c).past ≡ past_after c)
    → CallsAtMost 1 before now
one_call change None now e leaves = subst (CallsAtMost 1 None) (sym e) tt
one_call change (Some c) now e leaves = subst (CallsAtMost 1 (Some c)) (sym e) (one_more c (change c) (leaves c))

pub append_call : {T : Type 0} (r : Result T OutFault) (piece : List ℕ) (before now : Option Content) → AppendLeaves r before now piece
    → CallsAtMost 1 before now
append_call (Ok x) piece before now e = one_call (λ c. appended c piece) before now e (λ c. refl)
append_call (Err Failed) piece before now (kept, e) = one_call (λ c. appended c (take kept piece)) before now e (λ c. refl)
append_call (Err OutOfMemory) piece before now e = no_call 1 before now e

pub cut_call : {T : Type 0} (r : Result T OutFault) (size : ℕ) (before now : Option Content) → CutLeaves r before now size → CallsAtMost 1 before now
cut_call (Ok x) size before now e = one_call (λ c. cut_to c size) before now e (λ c. refl)
cut_call (Err Failed) size before now (inl e) = one_call (λ c. lowered c size) before now e (λ c. refl)
cut_call (Err Failed) size before now (inr e) = one_call (λ c. cut_to c size) before now e (λ c. refl)
cut_call (Err OutOfMemory) size before now e = no_call 1 before now e

pub sync_call : {T : Type 0} (r : Result T OutFault) (before now : Option Content) → SyncLeaves r before now → CallsAtMost 1 before now
sync_call (Ok x) before now e = one_call synced_whole before now e (λ c. refl)
sync_call (Err fault) before now e = no_call 1 before now e
