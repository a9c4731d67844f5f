-- What the calls of a store do to the bytes that it tells, and when all of them are synced.
use Rattle.std.proofs.Common.{◌≡◌, ◌∙◌, ℕ, inl, inr, List, ◌++◌, length, take, append-nil, refl, sym, ap, subst, Option, Some, None, Result, Ok, Err}
use Rattle.std.proofs.Math.Seq.{take-length}
use Rattle.std.specs.Prelude.{option_map, IfSome}
use Rattle.outside.specs.Store.{Content, AppendLeaves, CutLeaves, SyncLeaves, appended, cut_to, lowered, synced_whole}
use Rattle.outside.specs.declared.traits.OutFault.{OutFault}
use Rattle.outside.specs.declared.traits.OutFault.TheVariants.{Failed, OutOfMemory}
use Rattle.journal_keeper.specs.Keeping.{MayBeCut}

-- the bytes, where they are told
abbrev pub bytes_of : Option Content → Option (List ℕ)
bytes_of content = option_map (λ (c : Content). c.bytes) content

-- a change of the content that changes the bytes so
mapped : (change : Content → Content) (f : List ℕ → List ℕ) (before now : Option Content) → ((c : Content) → (change c).bytes ≡ f c.bytes)
    → now ≡ option_map change before → bytes_of now ≡ option_map f (bytes_of before)
mapped change f None now does e = ap bytes_of e
mapped change f (Some c) now does e = ap bytes_of e ∙ ap Some (does c)

-- ---- the bytes after a call

pub appended_bytes : (piece : List ℕ) (before now : Option Content) → now ≡ option_map (λ c. appended c piece) before
    → bytes_of now ≡ option_map (λ bytes. bytes ++ piece) (bytes_of before)
appended_bytes piece before now e = mapped (λ c. appended c piece) (λ bytes. bytes ++ piece) before now (λ c. refl) e

pub cut_bytes : (size : ℕ) (before now : Option Content) → now ≡ option_map (λ c. cut_to c size) before
    → bytes_of now ≡ option_map (take size) (bytes_of before)
cut_bytes size before now e = mapped (λ c. cut_to c size) (take size) before now (λ c. refl) e

same_bytes : (bytes : Option (List ℕ)) → option_map (λ (bs : List ℕ). bs) bytes ≡ bytes
same_bytes None = refl
same_bytes (Some bs) = refl

pub lowered_bytes : (size : ℕ) (before now : Option Content) → now ≡ option_map (λ c. lowered c size) before → bytes_of now ≡ bytes_of before
lowered_bytes size before now e = mapped (λ c. lowered c size) (λ bytes. bytes) before now (λ c. refl) e ∙ same_bytes (bytes_of before)

pub synced_bytes : (before now : Option Content) → now ≡ option_map synced_whole before → bytes_of now ≡ bytes_of before
synced_bytes before now e = mapped synced_whole (λ bytes. bytes) before now (λ c. refl) e ∙ same_bytes (bytes_of before)

-- ---- the calls, by their answer

pub sync_keeps : {T : Type 0} (r : Result T OutFault) (before now : Option Content) → SyncLeaves r before now → bytes_of now ≡ bytes_of before
sync_keeps (Ok x) before now e = synced_bytes before now e
sync_keeps (Err fault) before now e = ap bytes_of e

pub cut_may : {T : Type 0} (r : Result T OutFault) (size : ℕ) (before now : Option Content) → CutLeaves r before now size
    → MayBeCut (bytes_of before) (bytes_of now) size
cut_may (Ok x) size before now e = inr (cut_bytes size before now e)
cut_may (Err Failed) size before now (inl e) = inl (lowered_bytes size before now e)
cut_may (Err Failed) size before now (inr e) = inr (cut_bytes size before now e)
cut_may (Err OutOfMemory) size before now e = inl (ap bytes_of e)

pub may_then : (size : ℕ) (before between now : Option (List ℕ)) → MayBeCut before between size → now ≡ between → MayBeCut before now size
may_then size before between now (inl e) same = inl (same ∙ e)
may_then size before between now (inr e) same = inr (same ∙ e)

nothing_added : (piece : List ℕ) (bytes : Option (List ℕ)) → bytes ≡ option_map (λ held. held ++ take 0 piece) bytes
nothing_added piece None = refl
nothing_added piece (Some bs) = ap Some (sym (append-nil bs))

-- a part of the piece was added, perhaps none of it or all
pub append_part : {T : Type 0} (r : Result T OutFault) (piece : List ℕ) (before now : Option Content) → AppendLeaves r before now piece
    → (kept : ℕ) × (bytes_of now ≡ option_map (λ held. held ++ take kept piece) (bytes_of before))
append_part (Ok x) piece before now e = (length piece, simp take-length (appended_bytes piece before now e))
append_part (Err Failed) piece before now (kept, e) = (kept, appended_bytes (take kept piece) before now e)
append_part (Err OutOfMemory) piece before now e = (0, ap bytes_of e ∙ nothing_added piece (bytes_of before))

pub part_then : (piece : List ℕ) (before between now : Option (List ℕ)) → (kept : ℕ) × (between ≡ option_map (λ held. held ++ take kept piece) before)
    → now ≡ between → (kept : ℕ) × (now ≡ option_map (λ held. held ++ take kept piece) before)
part_then piece before between now (kept, e) same = (kept, same ∙ e)

-- all bytes are synced after a sync
pub all_synced : (before now : Option Content) → now ≡ option_map synced_whole before → IfSome now (λ content. content.synced ≡ length content.bytes)
all_synced None now e = subst (λ (c : Option Content). IfSome c (λ content. content.synced ≡ length content.bytes)) (sym e) tt
all_synced (Some c) now e = subst (λ (x : Option Content). IfSome x (λ content. content.synced ≡ length content.bytes)) (sym e) refl
