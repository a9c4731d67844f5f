-- What the calls of a tail keep of the invariant over its store's content.
use Rattle.std.proofs.Common.{◌≡◌, ◌∙◌, ℕ, inl, inr, Bool, true, false, List, [], ◌∷◌, ◌++◌, length, drop, refl, sym, ap, subst, Option, Some, None, Result, Ok, Err}
use Rattle.std.specs.Prelude.{IfSome, option_map, slice_index_or}
use Rattle.ledger_model.specs.declared.block.Block.{Block}
use Rattle.ledger_model.specs.Damages.{Undamaged}
use Rattle.ledger_model.specs.HashesAsked.{AreAsked}
use Rattle.ledger_model.specs.Journal.{journal_bytes}
use Rattle.ledger_model.specs.Journal as journal
use Rattle.outside.specs.Store.{Content, Moment, moment_of}
use Rattle.outside.specs.Told.{StoreTold, held}
use Rattle.laws_crash.specs.Pending.{ImagesAre, NothingPending}
use Rattle.laws_crash.specs.Sound.{IsSafe, IsSound, RecoversAlone}
use Rattle.laws_crash.proofs.Images.{unmarked_recovers}
use Rattle.laws_crash.proofs.Steps.{reload_is_sound}
use Rattle.laws_history.specs.Standings.{IsStanding, Standing}
use Rattle.journal_reader.specs.Loads.{IsLoaded}
use Rattle.journal_keeper.specs.Images.{IsAmidLine, IsSoundTold, Keeps, LineKeeps}
use Rattle.journal_keeper.specs.Images as keeper
use Rattle.journal_keeper.proofs.Images.{if_some, stays, told_map}
use Rattle.ledger_core.specs.declared.appending.Unkept.{Unkept}
use Rattle.ledger_core.specs.Images.{CommitKeeps, IsAcknowledged, IsAmid, IsSoundTail, KeepsSound, ReloadGives, SettleKeeps, Settles, tried_with}
use Rattle.ledger_core.specs.Tails.{TailHeld, joined}
use Rattle.ledger_core.specs.Unkept.{unkept_with}

-- ---- lists of blocks

abbrev standing_with : ℕ → ℕ → List Block → Standing
standing_with mask last blocks = record { mask = mask; last = last; blocks = blocks }

-- the standings of equal lists
pub same_blocks : (mask last : ℕ) (now blocks : List Block) → now ≡ blocks → standing_with mask last now ≡ standing_with mask last blocks
same_blocks mask last now blocks same = ap (standing_with mask last) same

last_same : (bs : List Block) (a b : Block) → bs ++ a ∷ [] ≡ bs ++ b ∷ [] → a ≡ b
last_same [] a b e = ap (λ (xs : List Block). slice_index_or xs 0 a) e
last_same (x ∷ bs) a b e = last_same bs a b (ap (λ (xs : List Block). drop 1 xs) e)

module _ {S C : Type 0} (told : S → StoreTold) (h n : TailHeld S C) where
  from_keeps : (P : Moment → Type 0) (blocks left amid : List Block) (marked : Bool)
      → Keeps P blocks left marked (told h.store).content (told n.store).content → n.standing.blocks ≡ blocks → n.marked ≡ marked
      → ((m : Moment) → P m → IsAmid told h n amid m) → KeepsSound told h n left amid
  from_keeps P blocks left amid marked k same mark f = record {
    sound = subst (λ (bs : List Block). IfSome (told n.store).content (IsSound bs left n.marked)) (sym same)
        (subst (λ (x : Bool). IfSome (told n.store).content (IsSound blocks left x)) (sym mark) k.sound);
    passes = told_map P (IsAmid told h n amid) (told h.store).content (told n.store).content f k.passes;
  }

  acknowledged : Undamaged n.standing.blocks → AreAsked n.standing.blocks → n.marked ≡ false → IsSoundTail told [] n → IsAcknowledged told n
  acknowledged whole asked mark s =
      if_some (IsSound n.standing.blocks [] false) (λ c. ImagesAre (RecoversAlone n.standing.blocks) (moment_of c)) (told n.store).content
      (λ c sound. unmarked_recovers n.standing.blocks [] c whole asked sound)
      (subst (λ (x : Bool). IfSome (told n.store).content (IsSound n.standing.blocks [] x)) mark s)

  -- ---- a call that leaves the store

  left_alone : (told n.store).content ≡ (told h.store).content → n.standing ≡ h.standing → n.marked ≡ h.marked
      → (tried : List Block) → IsSoundTail told tried h → KeepsSound told h n tried tried
  left_alone same stands mark tried s =
      from_keeps (IsSafe h.standing.blocks tried) h.standing.blocks tried tried h.marked
      (stays (IsSafe h.standing.blocks tried) h.standing.blocks tried h.marked (told h.store).content (told n.store).content same s)
      (ap (λ (x : Standing). x.blocks) stands) mark (λ m safe. inl safe)

  -- ---- an append

  module _ (b : Block) (size : ℕ) (line : List ℕ) (long : size ≡ length (journal_bytes h.standing.blocks)) (is : line ≡ journal.line b)
      (stands : IsStanding (joined h.standing b)) where
    unkept_images : (T : Type 0) {F : Type 0} (fault : F) → LineKeeps {T = T} {F = F} (Err fault) line size h.marked n.marked (told h.store).content (told n.store).content
        → n.standing ≡ h.standing → (tried : List Block) → IsSoundTail told tried h → KeepsSound told h n (tried ++ b ∷ []) (tried ++ b ∷ [])
    unkept_images T fault k same tried s =
        from_keeps (IsSafe h.standing.blocks (tried ++ b ∷ [])) h.standing.blocks (tried ++ b ∷ []) (tried ++ b ∷ []) n.marked
        (k h.standing.blocks tried b long is stands.undamaged stands.asked s) (ap (λ (x : Standing). x.blocks) same) refl (λ m safe. inl safe)

    pub unkept_line : (T : Type 0) {U F : Type 0} (r : Result U Unkept) (e : Unkept) (fault : F) → r ≡ Err e → option_map (λ x. x.value) e.tried ≡ Some b
        → LineKeeps {T = T} {F = F} (Err fault) line size h.marked n.marked (told h.store).content (told n.store).content
        → n.standing ≡ h.standing → CommitKeeps told r (unkept_with r) h n
    unkept_line T {U} {F} r e fault out came k same =
        subst (λ (x : Result U Unkept). CommitKeeps told x (unkept_with x) h n) (sym out)
        (λ tried s.
        subst (λ (t : List Block). KeepsSound told h n t t) (ap (tried_with tried) (sym came))
        (unkept_images T fault k same tried s))

    kept_images : (F : Type 0) {T : Type 0} (done : T) → LineKeeps {T = T} {F = F} (Ok done) line size h.marked n.marked (told h.store).content (told n.store).content
        → n.standing ≡ joined h.standing b → n.marked ≡ false → (tried : List Block) → IsSoundTail told tried h → Settles told h n (tried ++ b ∷ [])
    kept_images F done k now mark tried s =
        let more : n.standing.blocks ≡ h.standing.blocks ++ b ∷ [] = ap (λ (x : Standing). x.blocks) now in
        let keeps : KeepsSound told h n [] (tried ++ b ∷ []) =
        from_keeps (IsAmidLine h.standing.blocks tried b) (h.standing.blocks ++ b ∷ []) [] (tried ++ b ∷ []) n.marked
        (k h.standing.blocks tried b long is stands.undamaged stands.asked s) more refl
        (λ m amid. elim amid [
          | inl safe ↦ inl safe
          | inr safe ↦ inr (subst (λ (bs : List Block). IsSafe bs [] m) (sym more) safe)
        ]) in
        record { keeps = keeps; acknowledged = acknowledged (subst Undamaged (sym more) stands.undamaged) (subst AreAsked (sym more) stands.asked) mark keeps.sound }

    -- the block that came is the last one of the tail that is left
    pub kept_line : (F : Type 0) {T U : Type 0} (done : T) (d : U) (came : Option Block)
        → LineKeeps {T = T} {F = F} (Ok done) line size h.marked n.marked (told h.store).content (told n.store).content
        → n.standing ≡ joined h.standing b → n.marked ≡ false → CommitKeeps told {R = U} {F = Unkept} (Ok d) came h n
    kept_line F done d came k now mark = (
      mark,
      λ other is_last tried s.
          let same : b ≡ other = last_same h.standing.blocks b other (ap (λ (x : Standing). x.blocks) (sym now ∙ is_last)) in
          subst (λ (x : Block). Settles told h n (tried ++ x ∷ [])) same (kept_images F done k now mark tried s),
    )

  -- ---- a settle

  module _ (size : ℕ) (long : size ≡ length (journal_bytes h.standing.blocks)) (same : n.standing ≡ h.standing) where
    pub settled_images : (F : Type 0) {T U : Type 0} (done : T) (d : U) → Undamaged h.standing.blocks → AreAsked h.standing.blocks
        → keeper.SettleKeeps {T = T} {F = F} (Ok done) size h.marked (told h.store).content (told n.store).content
        → n.marked ≡ false → SettleKeeps told {R = U} {F = F} (Ok d) h n
    settled_images F done d whole asked k mark = (
      mark,
      λ tried s.
          let blocks : n.standing.blocks ≡ h.standing.blocks = ap (λ (x : Standing). x.blocks) same in
          let keeps : KeepsSound told h n [] tried =
          from_keeps (IsSafe h.standing.blocks tried) h.standing.blocks [] tried false (k h.standing.blocks tried long s) blocks mark (λ m safe. inl safe) in
          record { keeps = keeps; acknowledged = acknowledged (subst Undamaged (sym blocks) whole) (subst AreAsked (sym blocks) asked) mark keeps.sound },
    )

    pub unsettled_images : (T : Type 0) {U F : Type 0} (r : Result U F) (fault : F) → r ≡ Err fault
        → keeper.SettleKeeps {T = T} {F = F} (Err fault) size h.marked (told h.store).content (told n.store).content
        → n.marked ≡ true → SettleKeeps told r h n
    unsettled_images T {U} {F} r fault out k mark =
        subst (λ (x : Result U F). SettleKeeps told x h n) (sym out)
        (λ tried s.
        from_keeps (IsSafe h.standing.blocks tried) h.standing.blocks tried tried true (k h.standing.blocks tried long s)
        (ap (λ (x : Standing). x.blocks) same) mark (λ m safe. inl safe))

-- ---- a commit, from the tail before the clock was asked

module _ {S C : Type 0} (told : S → StoreTold) (h m : TailHeld S C) (clock : C) where
  asked_keeps : (left amid : List Block) → KeepsSound told (record h { clock = clock }) m left amid → KeepsSound told h m left amid
  asked_keeps left amid k = record { sound = k.sound; passes = k.passes }

  asked_settles : (amid : List Block) → Settles told (record h { clock = clock }) m amid → Settles told h m amid
  asked_settles amid s = record { keeps = asked_keeps [] amid s.keeps; acknowledged = s.acknowledged }

  pub asked_kept : (F G : Type 0) {R : Type 0} (d : R) (came other : Option Block) → CommitKeeps told {R = R} {F = F} (Ok d) came (record h { clock = clock }) m
      → CommitKeeps told {R = R} {F = G} (Ok d) other h m
  asked_kept F G d came other k = (k.0, λ b last tried s. asked_settles (tried ++ b ∷ []) (k.1 b last tried s))

  pub asked_unkept : (R Q : Type 0) {F G : Type 0} (e : F) (f : G) (came : Option Block) → CommitKeeps told {R = R} {F = F} (Err e) came (record h { clock = clock }) m
      → CommitKeeps told {R = Q} {F = G} (Err f) came h m
  asked_unkept R Q e f came k = λ tried s. asked_keeps (tried_with tried came) (tried_with tried came) (k tried s)

-- a commit that was refused by a check
pub refused_images : {S C F : Type 0} (R : Type 0) (told : S → StoreTold) (h : TailHeld S C) (fault : F) → CommitKeeps told {R = R} {F = F} (Err fault) None h h
refused_images R told h fault = λ tried s. left_alone told h h refl refl refl tried s

-- ---- a reload

loaded_sound : (blocks : List Block) (marked : Bool) (before now : Option Content) → now ≡ before
    → IsLoaded (option_map (λ (c : Content). c.bytes) before) blocks marked → IfSome before NothingPending → IsSoundTold blocks [] marked now
loaded_sound blocks marked None now same loaded rests = subst (IsSoundTold blocks [] marked) (sym same) tt
loaded_sound blocks marked (Some c) now same loaded rests =
    subst (IsSoundTold blocks [] marked) (sym same) (reload_is_sound blocks loaded.0 marked c rests loaded.1 (λ e. loaded.2.0 e))

pub reload_gives : {S C : Type 0} (told : S → StoreTold) (handed : StoreTold) (t : TailHeld S C) → IsLoaded (held handed) t.standing.blocks t.marked
    → (told t.store).content ≡ handed.content → ReloadGives told handed t
reload_gives told handed t loaded same rests = loaded_sound t.standing.blocks t.marked handed.content (told t.store).content same loaded rests

pub reload_tail : {S C : Type 0} (told : S → StoreTold) (handed : StoreTold) (store : S) (clock : C) (standing : Standing) (marked : Bool) (t : TailHeld S C)
    → t ≡ record { store = store; clock = clock; standing = standing; marked = marked } → IsLoaded (held handed) standing.blocks marked
    → (told store).content ≡ handed.content → ReloadGives told handed t
reload_tail told handed store clock standing marked t is loaded same =
    reload_gives told handed t
    (subst (λ (x : TailHeld _ _). IsLoaded (held handed) x.standing.blocks x.marked) (sym is) loaded)
    (subst (λ (x : TailHeld _ _). (told x.store).content ≡ handed.content) (sym is) same)
