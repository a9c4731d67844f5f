-- What asks for a hash still does with a block more, and the block of a transaction asks for none.
use Rattle.std.proofs.Common.{◌≡◌, ℕ, ◌+◌, Bool, true, false, not, ◌&&◌, ◌||◌, List, [], ◌∷◌, ◌++◌, map, append_assoc, append-nil, Option, Some, None, refl, sym, ap, subst, if◌then◌else◌}
use Rattle.std.specs.List.{list_all, list_any}
use Rattle.std.proofs.lemmas.Bool.{and_parts, not_from_false}
use Rattle.ion_values.specs.declared.time.TimeParts.{TimeParts}
use Rattle.ql_types.specs.declared.Place.{Place}
use Rattle.ledger_model.specs.declared.block.Block.{Block}
use Rattle.ledger_model.specs.declared.block.Draft.{Draft}
use Rattle.ledger_model.specs.declared.block.Header.{Header}
use Rattle.ledger_model.specs.declared.script.Request.{Request}
use Rattle.ledger_model.specs.Follows.{is_redacted_in}
use Rattle.ledger_model.specs.HashesAsked.{AreAsked, has_asked_data, has_asked_statements, is_asked, redacts_any, unasked_from}
use Rattle.ledger_model.specs.Legal.{LegalFrom, Means, asked_in}
use Rattle.ledger_model.specs.Journal.{said_in}
use Rattle.ledger_model.specs.Making.{IsMadeOf, block_of, header_of, revision_of}
use Rattle.ledger_model.specs.Run.{Begun, Progress, final_revisions, ran, run}
use Rattle.ledger_model.specs.State.{Recorded, State, after, draft_of, recorded_in, state}
use Rattle.ledger_model.specs.Whole.{is_redacted, is_said}
use Rattle.laws_validity.specs.Asking.{AskedGrows, TellsAll}
use Rattle.laws_validity.proofs.Lists.{all_like, all_unmapped, passes}
use Rattle.laws_validity.proofs.Unredacted.{HasData, HaveData, run_has_data}

or_left : (a b : Bool) → a ≡ true → (a || b) ≡ true
or_left true b e = refl
or_left false b e = cc

or_more : (a b c : Bool) → (b ≡ true → c ≡ true) → (a || b) ≡ true → (a || c) ≡ true
or_more true b c f e = refl
or_more false b c f e = f e

both : (a b : Bool) → a ≡ true → b ≡ true → (a && b) ≡ true
both true b e f = f
both false b e f = cc

any_more : {A : Type 0} (p : A → Bool) (xs ys : List A) → list_any p xs ≡ true → list_any p (xs ++ ys) ≡ true
any_more p [] ys e = cc
any_more p (x ∷ xs) ys e = or_more (p x) (list_any p xs) (list_any p (xs ++ ys)) (λ f. any_more p xs ys f) e

all_more : {A : Type 0} (p q : A → Bool) → ((x : A) → p x ≡ true → q x ≡ true) → (xs : List A) → list_all p xs ≡ true → list_all q xs ≡ true
all_more p q f [] e = refl
all_more p q f (x ∷ xs) e =
    let parts = and_parts (p x) (list_all p xs) e in both (q x) (list_all q xs) (f x parts.0) (all_more p q f xs parts.1)

data_more : (blocks : List Block) (b : Block) (r : Recorded) → has_asked_data blocks r ≡ true → has_asked_data (blocks ++ b ∷ []) r ≡ true
data_more blocks b r e =
    or_more (not (is_redacted r.revision.content)) (is_redacted_in blocks r) (is_redacted_in (blocks ++ b ∷ []) r)
    (λ f. any_more _ blocks (b ∷ []) f) e

asked_more : (blocks : List Block) (b c : Block) (later : List Block) → is_asked blocks c later ≡ true → is_asked (blocks ++ b ∷ []) c (later ++ b ∷ []) ≡ true
asked_more blocks b c later e =
    let rs = recorded_in c.info.tables c.revisions in
    let parts = and_parts (has_asked_statements c later) (list_all (has_asked_data blocks) rs) e in
    both (has_asked_statements c (later ++ b ∷ [])) (list_all (has_asked_data (blocks ++ b ∷ [])) rs)
    (or_more (is_said c.info.said) (list_any redacts_any (c ∷ later)) (list_any redacts_any (c ∷ (later ++ b ∷ [])))
    (λ f. any_more redacts_any (c ∷ later) (b ∷ []) f) parts.0)
    (all_more (has_asked_data blocks) (has_asked_data (blocks ++ b ∷ [])) (λ r f. data_more blocks b r f) rs parts.1)

-- the block that comes last
last_asked : (blocks : List Block) (b : Block) → TellsAll b → is_asked (blocks ++ b ∷ []) b [] ≡ true
last_asked blocks b t =
    let rs = recorded_in b.info.tables b.revisions in
    both (has_asked_statements b []) (list_all (has_asked_data (blocks ++ b ∷ [])) rs)
    (or_left (is_said b.info.said) (list_any redacts_any (b ∷ [])) t.said)
    (all_more (λ r. not (is_redacted r.revision.content)) (has_asked_data (blocks ++ b ∷ []))
    (λ r f. or_left (not (is_redacted r.revision.content)) (is_redacted_in (blocks ++ b ∷ []) r) f) rs t.kept)

none_at : (asked : Bool) (n : ℕ) (o : Option ℕ) → (if asked then o else Some n) ≡ None → (asked ≡ true) × (o ≡ None)
none_at true n o e = (refl, e)
none_at false n o e = cc

still_none : (asked : Bool) (n : ℕ) (o : Option ℕ) → asked ≡ true → o ≡ None → (if asked then o else Some n) ≡ None
still_none true n o e f = f
still_none false n o e f = cc

unasked_more : (blocks : List Block) (b : Block) → TellsAll b → (n : ℕ) (bs : List Block) → unasked_from blocks n bs ≡ None
    → unasked_from (blocks ++ b ∷ []) n (bs ++ b ∷ []) ≡ None
unasked_more blocks b t n [] e = still_none (is_asked (blocks ++ b ∷ []) b []) n None (last_asked blocks b t) refl
unasked_more blocks b t n (c ∷ later) e =
    let parts = none_at (is_asked blocks c later) n (unasked_from blocks (n + 1) later) e in
    still_none (is_asked (blocks ++ b ∷ []) c (later ++ b ∷ [])) n (unasked_from (blocks ++ b ∷ []) (n + 1) (later ++ b ∷ []))
    (asked_more blocks b c later parts.0) (unasked_more blocks b t (n + 1) later parts.1)

pub asked_grows : AskedGrows
asked_grows blocks b asked t = unasked_more blocks b t 0 blocks asked

-- ---- the blocks of transactions

abbrev keeps : Recorded → Bool
keeps r = not (is_redacted r.revision.content)

recorded_keep : (rs : List Recorded) → HaveData (map draft_of rs) → list_all keeps rs ≡ true
recorded_keep rs h =
    passes keeps rs
    (all_like (λ (r : Recorded). HasData (draft_of r)) (λ (r : Recorded). keeps r ≡ true)
    (λ r have. not_from_false (is_redacted r.revision.content) have) rs (all_unmapped HasData draft_of rs h))

-- a block that is what its statements mean on a state
pub means_tells : (mask : ℕ) (s : State) (b : Block) → Means mask s b → TellsAll b
means_tells mask s b m = record {
  said = ap is_said m.said;
  kept = recorded_keep (recorded_in b.info.tables b.revisions)
      (subst HaveData (sym m.revisions)
      (run_has_data (record { mask = mask; number = m.number }) s (asked_in (said_in b.info.said)) m.progress m.runs));
}

drafts_keep : (h : Header) (ds : List Draft) → HaveData ds
    → list_all keeps (recorded_in (map (λ d. d.table) ds) (map (revision_of h) ds)) ≡ true
drafts_keep h [] have = refl
drafts_keep h (d ∷ ds) have =
    both (not (is_redacted d.content)) (list_all keeps (recorded_in (map (λ d. d.table) ds) (map (revision_of h) ds)))
    (not_from_false (is_redacted d.content) have.0) (drafts_keep h ds have.1)

-- the block that a transaction becomes
pub made_tells : (b : Begun) (before : List Block) (place : Place) (time : TimeParts) (asked : List Request)
    (p : Progress) → run b (state before) asked ≡ ran p → TellsAll (block_of b before place time p)
made_tells b before place time asked p runs = record {
  said = refl;
  kept = drafts_keep (header_of b before time (final_revisions p)) (final_revisions p)
      (run_has_data b (state before) asked p runs);
}

pub made_of_tells : (b : Begun) (before : List Block) (place : Place) (time : TimeParts) (asked : List Request)
    (made : Block) → IsMadeOf b before place time asked made → TellsAll made
made_of_tells b before place time asked made m =
    subst TellsAll (sym m.block_is) (made_tells b before place time asked m.progress m.runs)

-- so a journal stays asked with such blocks, however many
pub legal_stays_asked : (mask : ℕ) (s : State) (blocks bs : List Block) → AreAsked blocks → LegalFrom mask s bs
    → AreAsked (blocks ++ bs)
legal_stays_asked mask s blocks [] asked legal = subst AreAsked (sym (append-nil blocks)) asked
legal_stays_asked mask s blocks (b ∷ bs) asked legal =
    subst AreAsked (append_assoc blocks (b ∷ []) bs)
    (legal_stays_asked mask (after s b) (blocks ++ b ∷ []) bs
    (asked_grows blocks b asked (means_tells mask s b legal.0)) legal.1)
