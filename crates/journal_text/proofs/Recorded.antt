-- The latest revisions of documents after more revisions.
use Rattle.std.proofs.Common.{◌≡◌, ◌∙◌, ℕ, zero, suc, ◌<◌, ◌≤◌, ◌==◌, min, Bool, true, false, ◌&&◌, ◌||◌, cond, List, [], ◌∷◌, ◌++◌, length, drop, get_or, Option, Some, None, if◌then◌else◌, refl, sym, ap, arith}
use Rattle.std.specs.List.{list_all, list_any}
use Rattle.std.specs.Option.{option_map}
use Rattle.ql_types.specs.declared.TableId.{TableId}
use Rattle.ledger_model.specs.declared.block.Revision.{Revision}
use Rattle.ledger_model.specs.Script.{or_else}
use Rattle.ledger_model.specs.State.{Recorded, recorded_in}
use Rattle.ledger_model.specs.Follows.{latest_of}
use Rattle.journal_text.specs.declared.registry.documents.Latest.{Latest}
use Rattle.journal_text.specs.Stands.{latest_from}

or_none : {A : Type 0} (o : Option A) → or_else o None ≡ o
or_none None = refl
or_none (Some x) = refl

or_assoc : {A : Type 0} (a b c : Option A) → or_else (or_else a b) c ≡ or_else a (or_else b c)
or_assoc None b c = refl
or_assoc (Some x) b c = refl

pub latest_of-append : (rs xs : List Recorded) (id : ℕ) → latest_of (rs ++ xs) id ≡ or_else (latest_of xs id) (latest_of rs id)
latest_of-append [] xs id = sym (or_none (latest_of xs id))
latest_of-append (r ∷ rs) xs id =
    ap (λ o. or_else o (if r.revision.metadata.id.raw == id then Some r else None)) (latest_of-append rs xs id)
    ∙ or_assoc (latest_of xs id) (latest_of rs id) _

-- what is known of a document after these revisions, where `known` was known before
abbrev pub then_latest : List Recorded → ℕ → Option Latest → Option Latest
then_latest rs id known = or_else (option_map latest_from (latest_of rs id)) known

map_or : (a b : Option Recorded) → or_else (option_map latest_from a) (option_map latest_from b) ≡ option_map latest_from (or_else a b)
map_or None b = refl
map_or (Some x) b = refl

pub then_latest-append : (before rs : List Recorded) (id : ℕ) (known : Option Latest) → known ≡ option_map latest_from (latest_of before id)
    → then_latest rs id known ≡ option_map latest_from (latest_of (before ++ rs) id)
then_latest-append before rs id known h =
    ap (λ k. then_latest rs id k) h ∙ map_or (latest_of rs id) (latest_of before id) ∙ ap (option_map latest_from) (sym (latest_of-append before rs id))

step_cases : (b : Bool) (r : Recorded) (o : Option Recorded) (known new : Option Latest) → new ≡ cond b (Some (latest_from r)) known
    → or_else (option_map latest_from (or_else o (if b then Some r else None))) known ≡ or_else (option_map latest_from o) new
step_cases true r None known new h = sym h
step_cases true r (Some x) known new h = refl
step_cases false r None known new h = sym h
step_cases false r (Some x) known new h = refl

-- one revision more is known
pub then_latest-step : (r : Recorded) (rs : List Recorded) (id : ℕ) (known new : Option Latest) → new ≡ cond (r.revision.metadata.id.raw == id) (Some (latest_from r)) known
    → then_latest (r ∷ rs) id known ≡ then_latest rs id new
then_latest-step r rs id known new h = step_cases (r.revision.metadata.id.raw == id) r (latest_of rs id) known new h

-- ---- revisions with their tables, place by place

without_revisions : (ts : List TableId) → recorded_in ts [] ≡ []
without_revisions [] = refl
without_revisions (t ∷ ts) = refl

pub none_behind : (ts : List TableId) (rs : List Revision) (n : ℕ) → min (length ts) (length rs) ≤ n → recorded_in (drop n ts) (drop n rs) ≡ []
none_behind [] rs zero h = refl
none_behind [] rs (suc n) h = refl
none_behind (t ∷ ts) [] zero h = refl
none_behind (t ∷ ts) [] (suc n) h = without_revisions (drop n ts)
none_behind (t ∷ ts) (r ∷ rs) zero h = absurd (omega arith)
none_behind (t ∷ ts) (r ∷ rs) (suc n) h = none_behind ts rs n (omega arith)

pub next_recorded : (ts : List TableId) (rs : List Revision) (n : ℕ) (d t : TableId) (r : Revision) → n < min (length ts) (length rs) → t ≡ get_or ts n d → r ≡ get_or rs n r
    → recorded_in (drop n ts) (drop n rs) ≡ record { table = t; revision = r } ∷ recorded_in (drop (suc n) ts) (drop (suc n) rs)
next_recorded [] rs n d t r h e f = absurd (omega arith)
next_recorded (u ∷ ts) [] n d t r h e f = absurd (omega arith)
next_recorded (u ∷ ts) (s ∷ rs) zero d t r h e f = cc
next_recorded (u ∷ ts) (s ∷ rs) (suc n) d t r h e f = next_recorded ts rs n d t r (omega arith) e f

-- ---- revisions that pass a test, place by place

first_passed : (a b whole : Bool) → (a && b) ≡ whole → a ≡ true → b ≡ whole
first_passed true b whole h a = h
first_passed false b whole h a = cc

pub pass_next : (f : Recorded → Bool) (ts : List TableId) (rs : List Revision) (n j : ℕ) (d t : TableId) (r : Revision) (whole : Bool) → j ≡ suc n → n < min (length ts) (length rs)
    → t ≡ get_or ts n d → r ≡ get_or rs n r → list_all f (recorded_in (drop n ts) (drop n rs)) ≡ whole → f (record { table = t; revision = r }) ≡ true
    → list_all f (recorded_in (drop j ts) (drop j rs)) ≡ whole
pass_next f ts rs n j d t r whole next within e g before passed =
    rw next (first_passed (f (record { table = t; revision = r })) (list_all f (recorded_in (drop (suc n) ts) (drop (suc n) rs))) whole (sym (ap (list_all f) (next_recorded ts rs n d t r within e g)) ∙ before) passed)

first_stops : (a b whole : Bool) → (a && b) ≡ whole → a ≡ false → false ≡ whole
first_stops false b whole h a = h
first_stops true b whole h a = cc

pub pass_stops : (f : Recorded → Bool) (ts : List TableId) (rs : List Revision) (n : ℕ) (d t : TableId) (r : Revision) (whole : Bool) → n < min (length ts) (length rs)
    → t ≡ get_or ts n d → r ≡ get_or rs n r → list_all f (recorded_in (drop n ts) (drop n rs)) ≡ whole → f (record { table = t; revision = r }) ≡ false → false ≡ whole
pass_stops f ts rs n d t r whole within e g before failed =
    first_stops (f (record { table = t; revision = r })) (list_all f (recorded_in (drop (suc n) ts) (drop (suc n) rs))) whole (sym (ap (list_all f) (next_recorded ts rs n d t r within e g)) ∙ before) failed

-- ---- a revision that passes a test, place by place

pub any_next : (f : Recorded → Bool) (ts : List TableId) (rs : List Revision) (n j : ℕ) (d t : TableId) (r : Revision) (whole : Bool) → j ≡ suc n → n < min (length ts) (length rs)
    → t ≡ get_or ts n d → r ≡ get_or rs n r → list_any f (recorded_in (drop n ts) (drop n rs)) ≡ whole → f (record { table = t; revision = r }) ≡ false
    → list_any f (recorded_in (drop j ts) (drop j rs)) ≡ whole
any_next f ts rs n j d t r whole next within e g before failed =
    rw next (sym (ap (λ b. b || list_any f (recorded_in (drop (suc n) ts) (drop (suc n) rs))) failed) ∙ sym (ap (list_any f) (next_recorded ts rs n d t r within e g)) ∙ before)

pub any_stops : (f : Recorded → Bool) (ts : List TableId) (rs : List Revision) (n : ℕ) (d t : TableId) (r : Revision) (whole : Bool) → n < min (length ts) (length rs)
    → t ≡ get_or ts n d → r ≡ get_or rs n r → list_any f (recorded_in (drop n ts) (drop n rs)) ≡ whole → f (record { table = t; revision = r }) ≡ true → true ≡ whole
any_stops f ts rs n d t r whole within e g before passed =
    sym (ap (λ b. b || list_any f (recorded_in (drop (suc n) ts) (drop (suc n) rs))) passed) ∙ sym (ap (list_any f) (next_recorded ts rs n d t r within e g)) ∙ before
