-- What the calls of a store keep of the invariant over its content.
use Rattle.std.proofs.Common.{◌≡◌, ◌∙◌, ℕ, ◌<◌, inl, inr, Bool, true, false, List, [], ◌∷◌, ◌++◌, length, take, append-nil, arith, refl, sym, ap, subst, Option, Some, None, Result, Ok, Err}
use Rattle.std.proofs.Math.Seq.{take-length}
use Rattle.std.specs.Prelude.{option_map, IfSome}
use Rattle.std.specs.List.{AllByRecursion}
use Rattle.ledger_model.specs.declared.block.Block.{Block}
use Rattle.ledger_model.specs.Damages.{Undamaged}
use Rattle.ledger_model.specs.HashesAsked.{AreAsked}
use Rattle.ledger_model.specs.Journal.{journal_bytes}
use Rattle.ledger_model.specs.Journal as journal
use Rattle.outside.specs.Store.{AppendLeaves, Content, CutLeaves, Moment, appended, cut_to, lowered, moment_of, past_after, synced_whole}
use Rattle.outside.specs.declared.traits.OutFault.{OutFault}
use Rattle.outside.specs.declared.traits.OutFault.TheVariants.{Failed, OutOfMemory}
use Rattle.laws_crash.specs.Passed.{Passes, PassesTold}
use Rattle.laws_crash.specs.Sound.{IsPart, IsSafe, IsSound, StandsAfter}
use Rattle.laws_crash.specs.Steps.{size_of}
use Rattle.laws_crash.proofs.Lists.{all_map}
use Rattle.laws_crash.proofs.Moments.{passes_on}
use Rattle.laws_crash.proofs.Steps.{append_and_sync_seals, append_keeps, cut_and_sync_settles, cut_keeps, lowered_keeps, mark_keeps, sync_keeps, try_keeps}
use Rattle.journal_keeper.specs.Images.{AppendKeeps, IsAmidLine, IsSoundTold, Keeps, LineKeeps, SettleKeeps}

-- ---- the blocks that were tried

any_part : (blocks tried : List Block) (part : List ℕ) → IsPart blocks [] part → IsPart blocks tried part
any_part blocks tried part (inl torn) = inl torn
any_part blocks tried part (inr p) = let none : p.among.0 < 0 = p.among.1 in let bad : ⊥ = omega (arith, none) in absurd bad

any_after : (blocks tried : List Block) (whole : List ℕ) → StandsAfter blocks [] whole → StandsAfter blocks tried whole
any_after blocks tried whole w = record { part = w.part; whole_is = w.whole_is; is_part = any_part blocks tried w.part w.is_part }

-- where none was tried, any may be said to be
any_sound : (blocks tried : List Block) (marked : Bool) (c : Content) → IsSound blocks [] marked c → IsSound blocks tried marked c
any_sound blocks tried marked c s = record {
  safe = record {
    long = s.safe.long;
    each = all_map (StandsAfter blocks []) (StandsAfter blocks tried) c.since (any_after blocks tried) s.safe.each;
  };
  now = any_after blocks tried c.bytes s.now;
  alone = s.alone;
  rests = s.rests;
}

-- where no cut is marked, none comes back
none_sound : (blocks tried : List Block) (c : Content) → IsSound blocks tried false c → IsSound blocks [] false c
none_sound blocks tried c s =
    let now : StandsAfter blocks [] c.bytes = record { part = []; whole_is = s.alone refl ∙ sym (append-nil (journal_bytes blocks)); is_part = inl refl } in
    record {
      safe = record {
        long = s.safe.long;
        each = subst (AllByRecursion (StandsAfter blocks [])) (sym (s.rests refl).since) (now, tt);
      };
      now = now;
      alone = s.alone;
      rests = s.rests;
    }

-- ---- moments

no_moment : (P : Moment → Type 0) (c : Content) → Passes P c c
no_moment P c = record { more = []; grows = sym (append-nil (past_after c)); each = tt }

one_moment : (P : Moment → Type 0) (c now : Content) → now.past ≡ past_after c → P (moment_of now) → Passes P c now
one_moment P c now e p = record { more = moment_of now ∷ []; grows = ap (λ (ms : List Moment). ms ++ moment_of now ∷ []) e; each = (p, tt) }

passes_map : (P Q : Moment → Type 0) (a b : Content) → ((m : Moment) → P m → Q m) → Passes P a b → Passes Q a b
passes_map P Q a b f p = record { more = p.more; grows = p.grows; each = all_map P Q p.more f p.each }

pub told_map : (P Q : Moment → Type 0) (a b : Option Content) → ((m : Moment) → P m → Q m) → PassesTold P a b → PassesTold Q a b
told_map P Q a None f p = tt
told_map P Q None (Some y) f p = absurd p
told_map P Q (Some x) (Some y) f p = passes_map P Q x y f p

pub told_on : (P : Moment → Type 0) (a b c : Option Content) → PassesTold P a b → PassesTold P b c → PassesTold P a c
told_on P a b None p q = tt
told_on P a None (Some z) p q = absurd q
told_on P None (Some y) (Some z) p q = absurd p
told_on P (Some x) (Some y) (Some z) p q = passes_on P x y z p q

-- ---- a call that leaves the content, and one that changes it

module _ (P : Moment → Type 0) (blocks tried : List Block) (marked : Bool) where
  pub stays : (before now : Option Content) → now ≡ before → IsSoundTold blocks tried marked before → Keeps P blocks tried marked before now
  stays None now e s = subst (λ (n : Option Content). Keeps P blocks tried marked None n) (sym e) (record { sound = tt; passes = tt })
  stays (Some c) now e s = subst (λ (n : Option Content). Keeps P blocks tried marked (Some c) n) (sym e) (record { sound = s; passes = no_moment P c })

  changes : (A : Content → Type 0) (change : Content → Content) (before now : Option Content) → now ≡ option_map change before
      → ((c : Content) → A c → IsSound blocks tried marked (change c)) → ((c : Content) → A c → Passes P c (change c))
      → IfSome before A → Keeps P blocks tried marked before now
  changes A change None now e f g s = subst (λ (n : Option Content). Keeps P blocks tried marked None n) (sym e) (record { sound = tt; passes = tt })
  changes A change (Some c) now e f g s =
      subst (λ (n : Option Content). Keeps P blocks tried marked (Some c) n) (sym e) (record { sound = f c s; passes = g c s })

pub if_some : (A B : Content → Type 0) (content : Option Content) → ((c : Content) → A c → B c) → IfSome content A → IfSome content B
if_some A B None f s = tt
if_some A B (Some c) f s = f c s

pub marked_told : (blocks tried : List Block) (marked : Bool) (content : Option Content) → IsSoundTold blocks tried marked content
    → IsSoundTold blocks tried true content
marked_told blocks tried marked content s = if_some (IsSound blocks tried marked) (IsSound blocks tried true) content (mark_keeps blocks tried marked) s

pub tried_told : (blocks tried : List Block) (b : Block) (marked : Bool) (content : Option Content) → IsSoundTold blocks tried marked content
    → IsSoundTold blocks (tried ++ b ∷ []) marked content
tried_told blocks tried b marked content s =
    if_some (IsSound blocks tried marked) (IsSound blocks (tried ++ b ∷ []) marked) content (try_keeps blocks tried b marked) s

pub any_told : (blocks tried : List Block) (marked : Bool) (content : Option Content) → IsSoundTold blocks [] marked content
    → IsSoundTold blocks tried marked content
any_told blocks tried marked content s = if_some (IsSound blocks [] marked) (IsSound blocks tried marked) content (any_sound blocks tried marked) s

pub none_told : (blocks tried : List Block) (content : Option Content) → IsSoundTold blocks tried false content
    → IsSoundTold blocks [] false content
none_told blocks tried content s = if_some (IsSound blocks tried false) (IsSound blocks [] false) content (none_sound blocks tried) s

-- two changes
twice : (f g : Content → Content) (before between now : Option Content) → between ≡ option_map f before → now ≡ option_map g between
    → now ≡ option_map (λ c. g (f c)) before
twice f g None between now e h = h ∙ ap (option_map g) e
twice f g (Some c) between now e h = h ∙ ap (option_map g) e

-- ---- the cut and its sync

module _ (blocks tried : List Block) (marked : Bool) where
  cut_passes : (c : Content) → IsSound blocks tried marked c → Passes (IsSafe blocks tried) c (cut_to c (size_of blocks))
  cut_passes c s = one_moment (IsSafe blocks tried) c (cut_to c (size_of blocks)) refl (cut_keeps blocks tried marked c s).safe

  settle_passes : (c : Content) → IsSound blocks tried marked c → Passes (IsSafe blocks tried) c (synced_whole (cut_to c (size_of blocks)))
  settle_passes c s =
      let cut = cut_to c (size_of blocks) in
      passes_on (IsSafe blocks tried) c cut (synced_whole cut) (cut_passes c s)
      (one_moment (IsSafe blocks tried) cut (synced_whole cut) refl (sync_keeps blocks tried true cut (cut_keeps blocks tried marked c s)).safe)

  cut_by : (before now : Option Content) → now ≡ option_map (λ c. cut_to c (size_of blocks)) before → IsSoundTold blocks tried marked before
      → Keeps (IsSafe blocks tried) blocks tried true before now
  cut_by before now e s =
      changes (IsSafe blocks tried) blocks tried true (IsSound blocks tried marked) (λ c. cut_to c (size_of blocks)) before now e
      (cut_keeps blocks tried marked) cut_passes s

  lowered_by : (before now : Option Content) → now ≡ option_map (λ c. lowered c (size_of blocks)) before → IsSoundTold blocks tried marked before
      → Keeps (IsSafe blocks tried) blocks tried true before now
  lowered_by before now e s =
      changes (IsSafe blocks tried) blocks tried true (IsSound blocks tried marked) (λ c. lowered c (size_of blocks)) before now e
      (lowered_keeps blocks tried marked)
      (λ c s. one_moment (IsSafe blocks tried) c (lowered c (size_of blocks)) refl (lowered_keeps blocks tried marked c s).safe) s

  failed_cut : (T : Type 0) (fault : OutFault) (before now : Option Content) → CutLeaves {T = T} (Err fault) before now (size_of blocks)
      → IsSoundTold blocks tried marked before → Keeps (IsSafe blocks tried) blocks tried true before now
  failed_cut T Failed before now (inl e) s = lowered_by before now e s
  failed_cut T Failed before now (inr e) s = cut_by before now e s
  failed_cut T OutOfMemory before now e s = stays (IsSafe blocks tried) blocks tried true before now e (marked_told blocks tried marked before s)

  settled_by : (before between now : Option Content) → between ≡ option_map (λ c. cut_to c (size_of blocks)) before → now ≡ option_map synced_whole between
      → IsSoundTold blocks tried marked before → Keeps (IsSafe blocks tried) blocks [] false before now
  settled_by before between now e f s =
      changes (IsSafe blocks tried) blocks [] false (IsSound blocks tried marked) (λ c. synced_whole (cut_to c (size_of blocks))) before now
      (twice (λ c. cut_to c (size_of blocks)) synced_whole before between now e f)
      (cut_and_sync_settles blocks tried marked) settle_passes s

pub cut_failed : (T : Type 0) (r : Result T OutFault) (fault : OutFault) (size : ℕ) (marked : Bool) (before now : Option Content) → r ≡ Err fault
    → CutLeaves {T = T} (Err fault) before now size → SettleKeeps r size marked before now
cut_failed T r fault size marked before now out left =
    subst (λ (x : Result T OutFault). SettleKeeps x size marked before now) (sym out)
    (λ blocks tried is s. failed_cut blocks tried marked T fault before now (subst (CutLeaves {T = T} (Err fault) before now) is left) s)

-- the cut was made, and its sync failed
pub sync_failed : (T : Type 0) (r : Result T OutFault) (fault : OutFault) (size : ℕ) (marked : Bool) (before between now : Option Content) → r ≡ Err fault
    → between ≡ option_map (λ c. cut_to c size) before → now ≡ between → SettleKeeps r size marked before now
sync_failed T r fault size marked before between now out e same =
    subst (λ (x : Result T OutFault). SettleKeeps x size marked before now) (sym out)
    (λ blocks tried is s.
    cut_by blocks tried marked before now (same ∙ subst (λ (n : ℕ). between ≡ option_map (λ c. cut_to c n) before) is e) s)

pub cut_synced : (T : Type 0) (done : T) (size : ℕ) (marked : Bool) (before between now : Option Content)
    → between ≡ option_map (λ c. cut_to c size) before → now ≡ option_map synced_whole between
    → SettleKeeps {T = T} {F = OutFault} (Ok done) size marked before now
cut_synced T done size marked before between now e f =
    λ blocks tried is s.
    settled_by blocks tried marked before between now (subst (λ (n : ℕ). between ≡ option_map (λ c. cut_to c n) before) is e) f s

-- nothing was marked
pub untouched : (T F : Type 0) (r : Result T F) (done : T) (size : ℕ) (marked : Bool) (before now : Option Content) → r ≡ Ok done
    → marked ≡ false → now ≡ before → SettleKeeps r size marked before now
untouched T F r done size marked before now out none same =
    subst (λ (x : Result T F). SettleKeeps x size marked before now) (sym out)
    (λ blocks tried is s.
    stays (IsSafe blocks tried) blocks [] false before now same
    (none_told blocks tried before (subst (λ (m : Bool). IsSoundTold blocks tried m before) none s)))

-- ---- the append and its sync

module _ (blocks tried : List Block) (b : Block) (sound : Undamaged (blocks ++ b ∷ []))
    (asked : AreAsked (blocks ++ b ∷ [])) where
  put_by : (kept : ℕ) (before now : Option Content) → now ≡ option_map (λ c. appended c (take kept (journal.line b))) before
      → IsSoundTold blocks tried false before → Keeps (IsSafe blocks (tried ++ b ∷ [])) blocks (tried ++ b ∷ []) true before now
  put_by kept before now e s =
      changes (IsSafe blocks (tried ++ b ∷ [])) blocks (tried ++ b ∷ []) true (IsSound blocks tried false)
      (λ c. appended c (take kept (journal.line b))) before now e
      (λ c s. append_keeps blocks tried b kept c s sound asked)
      (λ c s. one_moment (IsSafe blocks (tried ++ b ∷ [])) c (appended c (take kept (journal.line b))) refl (append_keeps blocks tried b kept c s sound asked).safe) s

  failed_put : (T : Type 0) (fault : OutFault) (before now : Option Content) → AppendLeaves {T = T} (Err fault) before now (journal.line b)
      → IsSoundTold blocks tried false before → Keeps (IsSafe blocks (tried ++ b ∷ [])) blocks (tried ++ b ∷ []) true before now
  failed_put T Failed before now (kept, e) s = put_by kept before now e s
  failed_put T OutOfMemory before now e s =
      stays (IsSafe blocks (tried ++ b ∷ [])) blocks (tried ++ b ∷ []) true before now e
      (marked_told blocks (tried ++ b ∷ []) false before (tried_told blocks tried b false before s))

  put_whole : (c : Content) → IsSound blocks tried false c → IsSound blocks (tried ++ b ∷ []) true (appended c (journal.line b))
  put_whole c s =
      subst (λ (l : List ℕ). IsSound blocks (tried ++ b ∷ []) true (appended c l)) (take-length (journal.line b))
      (append_keeps blocks tried b (length (journal.line b)) c s sound asked)

  put_passes : (c : Content) → IsSound blocks tried false c → Passes (IsAmidLine blocks tried b) c (synced_whole (appended c (journal.line b)))
  put_passes c s =
      let put = appended c (journal.line b) in
      passes_on (IsAmidLine blocks tried b) c put (synced_whole put)
      (one_moment (IsAmidLine blocks tried b) c put refl (inl (put_whole c s).safe))
      (one_moment (IsAmidLine blocks tried b) put (synced_whole put) refl (inr (append_and_sync_seals blocks tried b c s).safe))

  put_synced : (before between now : Option Content) → between ≡ option_map (λ c. appended c (journal.line b)) before
      → now ≡ option_map synced_whole between → IsSoundTold blocks tried false before
      → Keeps (IsAmidLine blocks tried b) (blocks ++ b ∷ []) [] false before now
  put_synced before between now e f s =
      changes (IsAmidLine blocks tried b) (blocks ++ b ∷ []) [] false (IsSound blocks tried false) (λ c. synced_whole (appended c (journal.line b)))
      before now (twice (λ c. appended c (journal.line b)) synced_whole before between now e f)
      (append_and_sync_seals blocks tried b) put_passes s

pub append_failed : (T : Type 0) (r : Result T OutFault) (fault : OutFault) (line : List ℕ) (before now : Option Content) → r ≡ Err fault
    → AppendLeaves {T = T} (Err fault) before now line → AppendKeeps r line before now
append_failed T r fault line before now out left =
    subst (λ (x : Result T OutFault). AppendKeeps x line before now) (sym out)
    (λ blocks tried b is sound asked s. failed_put blocks tried b sound asked T fault before now (subst (AppendLeaves {T = T} (Err fault) before now) is left) s)

-- the line was appended, and its sync failed
pub append_unsynced : (T : Type 0) (r : Result T OutFault) (fault : OutFault) (line : List ℕ) (before between now : Option Content) → r ≡ Err fault
    → between ≡ option_map (λ c. appended c line) before → now ≡ between → AppendKeeps r line before now
append_unsynced T r fault line before between now out e same =
    subst (λ (x : Result T OutFault). AppendKeeps x line before now) (sym out)
    (λ blocks tried b is sound asked s.
    let whole : take (length (journal.line b)) (journal.line b) ≡ line = take-length (journal.line b) ∙ sym is in
    put_by blocks tried b sound asked (length (journal.line b)) before now
    (same ∙ subst (λ (l : List ℕ). between ≡ option_map (λ c. appended c l) before) (sym whole) e) s)

pub append_synced : (T : Type 0) (done : T) (line : List ℕ) (before between now : Option Content)
    → between ≡ option_map (λ c. appended c line) before → now ≡ option_map synced_whole between
    → AppendKeeps {T = T} {F = OutFault} (Ok done) line before now
append_synced T done line before between now e f =
    λ blocks tried b is sound asked s.
    put_synced blocks tried b sound asked before between now (subst (λ (l : List ℕ). between ≡ option_map (λ c. appended c l) before) is e) f s

-- ---- the cut, if one is marked, and then the append

-- neither was made
pub line_unmade : (T F : Type 0) (r : Result T F) (fault : F) (line : List ℕ) (size : ℕ) (marked now_marked : Bool) (before now : Option Content)
    → r ≡ Err fault → now_marked ≡ marked → now ≡ before → LineKeeps r line size marked now_marked before now
line_unmade T F r fault line size marked now_marked before now out mark same =
    subst (λ (x : Result T F). LineKeeps x line size marked now_marked before now) (sym out)
    (λ blocks tried b is_long is sound asked s.
    stays (IsSafe blocks (tried ++ b ∷ [])) blocks (tried ++ b ∷ []) now_marked before now same
    (tried_told blocks tried b now_marked before (subst (λ (m : Bool). IsSoundTold blocks tried m before) (sym mark) s)))

-- the cut failed
pub line_unsettled : (T F : Type 0) (r : Result T F) (fault : F) (U : Type 0) (line : List ℕ) (size : ℕ) (marked now_marked : Bool) (before now : Option Content)
    → r ≡ Err fault → now_marked ≡ true → SettleKeeps {T = U} {F = F} (Err fault) size marked before now → LineKeeps r line size marked now_marked before now
line_unsettled T F r fault U line size marked now_marked before now out mark settles =
    subst (λ (x : Result T F). LineKeeps x line size marked now_marked before now) (sym out)
    (λ blocks tried b is_long is sound asked s.
    subst (λ (m : Bool). Keeps (IsSafe blocks (tried ++ b ∷ [])) blocks (tried ++ b ∷ []) m before now) (sym mark)
    (settles blocks (tried ++ b ∷ []) is_long (tried_told blocks tried b marked before s)))

-- the append failed
pub line_unkept : (T F : Type 0) (r : Result T F) (fault : F) (U : Type 0) (done : U) (line : List ℕ) (size : ℕ) (marked now_marked : Bool) (before between now : Option Content)
    → r ≡ Err fault → now_marked ≡ true → SettleKeeps {T = U} {F = F} (Ok done) size marked before between → AppendKeeps {T = U} {F = F} (Err fault) line between now
    → LineKeeps r line size marked now_marked before now
line_unkept T F r fault U done line size marked now_marked before between now out mark settles appends =
    subst (λ (x : Result T F). LineKeeps x line size marked now_marked before now) (sym out)
    (λ blocks tried b is_long is sound asked s.
    let cut = settles blocks (tried ++ b ∷ []) is_long (tried_told blocks tried b marked before s) in
    let put = appends blocks tried b is sound asked (any_told blocks tried false between cut.sound) in
    subst (λ (m : Bool). Keeps (IsSafe blocks (tried ++ b ∷ [])) blocks (tried ++ b ∷ []) m before now) (sym mark)
    (record { sound = put.sound; passes = told_on (IsSafe blocks (tried ++ b ∷ [])) before between now cut.passes put.passes }))

-- both were made
pub line_kept : (T F U : Type 0) (done : T) (settled : U) (added : U) (line : List ℕ) (size : ℕ) (marked now_marked : Bool) (before between now : Option Content)
    → now_marked ≡ false → SettleKeeps {T = U} {F = F} (Ok settled) size marked before between → AppendKeeps {T = U} {F = F} (Ok added) line between now
    → LineKeeps {T = T} {F = F} (Ok done) line size marked now_marked before now
line_kept T F U done settled added line size marked now_marked before between now mark settles appends =
    λ blocks tried b is_long is sound asked s.
    let cut = settles blocks (tried ++ b ∷ []) is_long (tried_told blocks tried b marked before s) in
    let put = appends blocks tried b is sound asked (any_told blocks tried false between cut.sound) in
    subst (λ (m : Bool). Keeps (IsAmidLine blocks tried b) (blocks ++ b ∷ []) [] m before now) (sym mark)
    (record {
      sound = put.sound;
      passes = told_on (IsAmidLine blocks tried b) before between now
          (told_map (IsSafe blocks (tried ++ b ∷ [])) (IsAmidLine blocks tried b) before between (λ m safe. inl safe) cut.passes) put.passes;
    })
