-- The invariant over each step.
use Rattle.std.proofs.Common.{◌≡◌, ℕ, zero, suc, true, false, ◌≤◌, ◌<◌, ◌-◌, ◌==◌, not, List, [], ◌∷◌, ◌++◌, length, take, refl, sym, ap, subst, ◌∙◌, arith, inl, inr, append-nil, true≢false, length-append}
use Rattle.std.specs.Prelude.{Contains, slice_index_or}
use Rattle.std.specs.List.{AllByRecursion}
use Rattle.std.proofs.lemmas.Grind.{flat_map-append}
use Rattle.std.proofs.lemmas.Bool.{and_parts}
use Rattle.ledger_model.specs.declared.block.Block.{Block}
use Rattle.ledger_model.specs.Journal.{line, journal_bytes}
use Rattle.ledger_model.specs.Damages.{Undamaged}
use Rattle.ledger_model.specs.HashesAsked.{AreAsked}
use Rattle.ledger_model.specs.Recovered.{has_no_line_feed}
use Rattle.outside.specs.Store.{Content, appended, cut_to, synced_whole, fronts_from}
use Rattle.laws_crash.specs.Sound.{IsPart, IsSound, StandsAfter}
use Rattle.laws_crash.specs.Steps as say
use Rattle.laws_crash.specs.Steps.{size_of}
use Rattle.laws_crash.proofs.Lists.{all_append, all_fronts, all_map}

-- ---- fronts

pub torn_front : (k : ℕ) (text : List ℕ) → has_no_line_feed text ≡ true → has_no_line_feed (take k text) ≡ true
torn_front zero text one = refl
torn_front (suc k) [] one = refl
torn_front (suc k) (b ∷ text) one = let parts = and_parts (not (b == 10)) (has_no_line_feed text) one in rw (parts.0, torn_front k text parts.1) refl

take_less : (m n : ℕ) (xs : List ℕ) → (k : ℕ) × (take m (take n xs) ≡ take k xs)
take_less zero n xs = (0, refl)
take_less (suc m) zero xs = (0, refl)
take_less (suc m) (suc n) [] = (0, refl)
take_less (suc m) (suc n) (x ∷ xs) = let less = take_less m n xs in (suc less.0, ap (λ ys. x ∷ ys) less.1)

front_part : (blocks tried : List Block) (part : List ℕ) (k : ℕ) → IsPart blocks tried part → IsPart blocks tried (take k part)
front_part blocks tried part k (inl torn) = inl (torn_front k part torn)
front_part blocks tried part k (inr p) =
    let less = take_less k p.kept (line p.block) in
    inr (record { block = p.block; kept = less.0; among = p.among; part_is = ap (take k) p.part_is ∙ less.1; undamaged = p.undamaged; asked = p.asked })

take_after : (xs ys : List ℕ) (k : ℕ) → length xs ≤ k → take k (xs ++ ys) ≡ xs ++ take (k - length xs) ys
take_after [] ys k le = ap (λ n. take n ys) (omega arith)
take_after (x ∷ xs) ys zero le = let bad : ⊥ = omega (arith, le) in absurd bad
take_after (x ∷ xs) ys (suc k) le = ap (λ zs. x ∷ zs) (take_after xs ys k (omega (arith, le)) ∙ ap (λ n. xs ++ take n ys) (omega arith))

-- a front part that has all lines is such a list too
pub front_after : (blocks tried : List Block) (whole : List ℕ) (k : ℕ) → size_of blocks ≤ k → StandsAfter blocks tried whole
    → StandsAfter blocks tried (take k whole)
front_after blocks tried whole k le w = record {
  part = take (k - size_of blocks) w.part;
  whole_is = ap (take k) w.whole_is ∙ take_after (journal_bytes blocks) w.part k le;
  is_part = front_part blocks tried w.part (k - size_of blocks) w.is_part;
}

nothing_after : (blocks tried : List Block) (whole : List ℕ) → whole ≡ journal_bytes blocks → StandsAfter blocks tried whole
nothing_after blocks tried whole is = record { part = []; whole_is = is ∙ sym (append-nil (journal_bytes blocks)); is_part = inl refl }

cut_short : (blocks tried : List Block) (whole : List ℕ) → StandsAfter blocks tried whole → take (size_of blocks) whole ≡ journal_bytes blocks
cut_short blocks tried whole w =
    let none : size_of blocks - size_of blocks ≡ 0 = omega arith in
    ap (take (size_of blocks)) w.whole_is ∙ take_after (journal_bytes blocks) w.part (size_of blocks) (omega arith)
    ∙ ap (λ n. journal_bytes blocks ++ take n w.part) none ∙ append-nil (journal_bytes blocks)

not_so : {A : Type 0} → true ≡ false → A
not_so bad = absurd (true≢false bad)

-- ---- the mark

pub mark_keeps : say.MarkKeeps
mark_keeps blocks tried marked c s = record { safe = s.safe; now = s.now; alone = λ bad. not_so bad; rests = λ bad. not_so bad }

-- ---- the cut

pub cut_keeps : say.CutKeeps
cut_keeps blocks tried marked c s = record {
  safe = record {
    long = let h : size_of blocks ≤ c.synced = s.safe.long in omega (arith, h);
    each = all_append (StandsAfter blocks tried) c.since (fronts_from (size_of blocks) c.bytes) s.safe.each
        (all_fronts (StandsAfter blocks tried) (size_of blocks) c.bytes (λ k le. front_after blocks tried c.bytes k le s.now));
  };
  now = nothing_after blocks tried (take (size_of blocks) c.bytes) (cut_short blocks tried c.bytes s.now);
  alone = λ bad. not_so bad;
  rests = λ bad. not_so bad;
}

pub lowered_keeps : say.LoweredKeeps
lowered_keeps blocks tried marked c s = record {
  safe = record { long = let h : size_of blocks ≤ c.synced = s.safe.long in omega (arith, h); each = s.safe.each };
  now = s.now;
  alone = λ bad. not_so bad;
  rests = λ bad. not_so bad;
}

-- ---- the sync

lines_long : (blocks tried : List Block) (whole : List ℕ) → StandsAfter blocks tried whole → size_of blocks ≤ length whole
lines_long blocks tried whole w = omega (arith, ap length w.whole_is, length-append (journal_bytes blocks) w.part)

pub sync_keeps : say.SyncKeeps
sync_keeps blocks tried marked c s = record {
  safe = record { long = lines_long blocks tried c.bytes s.now; each = (s.now, tt) };
  now = s.now;
  alone = λ bad. not_so bad;
  rests = λ bad. not_so bad;
}

-- if the lines stand alone, a sync leaves nothing pending
synced_alone : (blocks : List Block) (c : Content) → c.bytes ≡ journal_bytes blocks → IsSound blocks [] false (synced_whole c)
synced_alone blocks c is = record {
  safe = record {
    long = lines_long blocks [] c.bytes (nothing_after blocks [] c.bytes is);
    each = (nothing_after blocks [] c.bytes is, tt);
  };
  now = nothing_after blocks [] c.bytes is;
  alone = λ _. is;
  rests = λ _. record { synced = refl; since = refl };
}

pub cut_and_sync_settles : say.CutAndSyncSettles
cut_and_sync_settles blocks tried marked c s = synced_alone blocks (cut_to c (size_of blocks)) (cut_short blocks tried c.bytes s.now)

-- ---- the append

at_front : {A : Type 0} (xs ys : List A) (k : ℕ) (d : A) → k < length xs → slice_index_or (xs ++ ys) k d ≡ slice_index_or xs k d
at_front [] ys k d less = let bad : ⊥ = omega (arith, less) in absurd bad
at_front (x ∷ xs) ys zero d less = refl
at_front (x ∷ xs) ys (suc k) d less = at_front xs ys k d (omega (arith, less))

in_front : (xs : List Block) (b x : Block) → Contains xs x → Contains (xs ++ b ∷ []) x
in_front xs b x h = (h.0, omega (arith, length-append xs (b ∷ []), h.1), at_front xs (b ∷ []) h.0 x h.1 ∙ h.2)

more_part : (blocks tried : List Block) (b : Block) (part : List ℕ) → IsPart blocks tried part → IsPart blocks (tried ++ b ∷ []) part
more_part blocks tried b part (inl torn) = inl torn
more_part blocks tried b part (inr p) =
    inr (record { block = p.block; kept = p.kept; among = in_front tried b p.block p.among; part_is = p.part_is; undamaged = p.undamaged; asked = p.asked })

more_after : (blocks tried : List Block) (b : Block) (whole : List ℕ) → StandsAfter blocks tried whole → StandsAfter blocks (tried ++ b ∷ []) whole
more_after blocks tried b whole w = record { part = w.part; whole_is = w.whole_is; is_part = more_part blocks tried b w.part w.is_part }

pub try_keeps : say.TryKeeps
try_keeps blocks tried b marked c s = record {
  safe = record {
    long = s.safe.long;
    each = all_map (StandsAfter blocks tried) (StandsAfter blocks (tried ++ b ∷ [])) c.since (more_after blocks tried b) s.safe.each;
  };
  now = more_after blocks tried b c.bytes s.now;
  alone = s.alone;
  rests = s.rests;
}

at_seam : (xs : List Block) (b : Block) → slice_index_or (xs ++ b ∷ []) (length xs) b ≡ b
at_seam [] b = refl
at_seam (x ∷ xs) b = at_seam xs b

at_end : (xs : List Block) (b : Block) → Contains (xs ++ b ∷ []) b
at_end xs b = (length xs, omega (arith, length-append xs (b ∷ [])), at_seam xs b)

-- a front part of the line after the lines
line_after : (blocks tried : List Block) (b : Block) (kept : ℕ) (c : Content) → c.bytes ≡ journal_bytes blocks → Undamaged (blocks ++ b ∷ [])
    → AreAsked (blocks ++ b ∷ []) → StandsAfter blocks (tried ++ b ∷ []) (c.bytes ++ take kept (line b))
line_after blocks tried b kept c is sound asked = record {
  part = take kept (line b);
  whole_is = ap (λ bs. bs ++ take kept (line b)) is;
  is_part = inr (record { block = b; kept = kept; among = at_end tried b; part_is = refl; undamaged = sound; asked = asked });
}

pub append_keeps : say.AppendKeeps
append_keeps blocks tried b kept c s sound asked =
    let more = try_keeps blocks tried b false c s in
    let whole = line_after blocks tried b kept c (s.alone refl) sound asked in
    let long : length c.bytes ≡ size_of blocks = ap length (s.alone refl) in
    record {
      safe = record {
        long = s.safe.long;
        each = all_append (StandsAfter blocks (tried ++ b ∷ [])) c.since (fronts_from (length c.bytes) (c.bytes ++ take kept (line b))) more.safe.each
            (all_fronts (StandsAfter blocks (tried ++ b ∷ [])) (length c.bytes) (c.bytes ++ take kept (line b))
            (λ k le. front_after blocks (tried ++ b ∷ []) (c.bytes ++ take kept (line b)) k (omega (arith, long, le)) whole));
      };
      now = whole;
      alone = λ bad. not_so bad;
      rests = λ bad. not_so bad;
    }

pub journal_more : (blocks : List Block) (b : Block) → journal_bytes blocks ++ line b ≡ journal_bytes (blocks ++ b ∷ [])
journal_more blocks b =
    sym (flat_map-append line blocks (b ∷ []) ∙ ap (λ (x : List ℕ). journal_bytes blocks ++ x) (append-nil (line b)))

pub append_and_sync_seals : say.AppendAndSyncSeals
append_and_sync_seals blocks tried b c s =
    synced_alone (blocks ++ b ∷ []) (appended c (line b)) (ap (λ bs. bs ++ line b) (s.alone refl) ∙ journal_more blocks b)

-- ---- at first

pub reload_is_sound : say.ReloadIsSound
reload_is_sound blocks rest marked c quiet journal none =
    let now : StandsAfter blocks [] c.bytes = record { part = rest; whole_is = journal.lines; is_part = inl journal.torn } in
    record {
      safe = record {
        long = subst (λ n. size_of blocks ≤ n) (sym quiet.synced) (lines_long blocks [] c.bytes now);
        each = subst (AllByRecursion (StandsAfter blocks [])) (sym quiet.since) (now, tt);
      };
      now = now;
      alone = λ e. journal.lines ∙ ap (λ r. journal_bytes blocks ++ r) (none e) ∙ append-nil (journal_bytes blocks);
      rests = λ _. quiet;
    }
