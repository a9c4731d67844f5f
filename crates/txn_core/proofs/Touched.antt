-- Documents that a transaction touches, and what is held of them.
use Rattle.std.proofs.Common.{◌≡◌, ◌∙◌, ℕ, ◌+◌, ◌<◌, ◌||◌, Bool, true, false, cond, nat_eq, nat_lt, List, [], ◌∷◌, ◌++◌, length, get_or, take, map, is_some, Option, Some, None, refl, sym, ap, ap₂, add-zero, append_assoc, append-nil}
use Rattle.std.specs.Prelude.{codes, if◌then◌else◌, option_map}
use Rattle.std.specs.List.{find}
use Rattle.std.specs.Map.{lookup}
use Rattle.std.proofs.lemmas.Bool.{eq-eqb, eqb-true}
use Rattle.std.proofs.lemmas.List.{length-map, take_more}
use Rattle.indexmap.specs.IndexMap.{insert_entry}
use Rattle.ion_values.specs.declared.value.Value.{Value}
use Rattle.ql_types.specs.declared.DocId.{DocId}
use Rattle.ledger_model.specs.declared.block.Content.{Content}
use Rattle.ledger_model.specs.declared.block.Draft.{Draft}
use Rattle.ledger_model.specs.declared.block.Schema.{Schema}
use Rattle.ledger_model.specs.declared.outcome.Refusal.TheVariants.{TooManyRevisions}
use Rattle.ledger_model.specs.Follows.{is_kept, latest_of}
use Rattle.ledger_model.specs.Values.{named_id}
use Rattle.ledger_model.specs.Run.{Effect, Progress, tables_now}
use Rattle.ledger_model.specs.State as state
use Rattle.ledger_model.specs.State.{Recorded, all_changed}
use Rattle.ledger_model.specs.Views.{latest, put}
use Rattle.ledger_model.specs.Writing.{again_of, has_room_for, if_active, pending_of, revised, revised_by, touch, touched, touching}
use Rattle.txn_core.specs.declared.touching.Mark.{Mark}
use Rattle.txn_core.specs.declared.touching.Touching.{Touching}
use Rattle.txn_core.specs.Effects.{both, effect_of}
use Rattle.txn_core.specs.Inserts.{so_far}
use Rattle.txn_core.specs.Opened.{Opened}
use Rattle.txn_core.specs.Writes.{Stands, Touches, again_by, has_room_in, mark_of, marked, marks_of, not_ended}
use Rattle.txn_core.proofs.Inserted.{nothing-last}
use Rattle.txn_core.proofs.Logged.{latest_again}
use Rattle.txn_core.proofs.Overlaid.{latest_last}

-- ---- equal ids

turned : (a b : ℕ) → nat_eq a b ≡ nat_eq b a
turned a b = by (nat_eq a b) (nat_eq b a) refl refl
  where
    by : (x y : Bool) → nat_eq a b ≡ x → nat_eq b a ≡ y → x ≡ y
    by true true h k = refl
    by false false h k = refl
    by true false h k = let e : nat_eq b a ≡ true = eq-eqb b a (sym (eqb-true a b h)) in sym e ∙ k
    by false true h k = let e : nat_eq a b ≡ true = eq-eqb a b (sym (eqb-true b a k)) in sym h ∙ e

-- ---- a revision more

put-step : (b : Bool) (x d : Draft) (xs : List Draft) (es : List (ℕ × Mark)) → (b ≡ true → x.id.raw ≡ d.id.raw) → es ≡ map marked (put xs d)
    → (if b then (x.id.raw, mark_of d) ∷ map marked xs else marked x ∷ es) ≡ map marked (if b then d ∷ xs else x ∷ put xs d)
put-step true x d xs es same rest = ap (λ (n : ℕ). (n, mark_of d) ∷ map marked xs) (same refl)
put-step false x d xs es same rest = ap (λ (ys : List (ℕ × Mark)). marked x ∷ ys) rest

put-marked : (ds : List Draft) (d : Draft) → insert_entry nat_eq (map marked ds) d.id.raw (mark_of d) ≡ map marked (put ds d)
put-marked [] d = refl
put-marked (x ∷ xs) d =
    let es : List (ℕ × Mark) = insert_entry nat_eq (map marked xs) d.id.raw (mark_of d) in
    ap (λ (b : Bool). if b then (x.id.raw, mark_of d) ∷ map marked xs else marked x ∷ es) (turned d.id.raw x.id.raw)
    ∙ put-step (nat_eq x.id.raw d.id.raw) x d xs es (λ h. eqb-true x.id.raw d.id.raw h) (put-marked xs d)

marks_more : (log : List Draft) (d : Draft) → insert_entry nat_eq (marks_of log) d.id.raw (mark_of d) ≡ marks_of (log ++ d ∷ [])
marks_more log d = put-marked (latest log) d ∙ ap (map marked) (sym (latest_last log d))

-- one revision of a log after another
pub marks_next : (log : List Draft) (i : ℕ) (d : Draft) (before after : List (ℕ × Mark)) (m : Mark) → i < length log → d ≡ get_or log i d
    → before ≡ marks_of (take i log) → m ≡ mark_of d → after ≡ insert_entry nat_eq before d.id.raw m → after ≡ marks_of (take (i + 1) log)
marks_next log i d before after m within is before_is m_is after_is =
    let more : take (i + 1) log ≡ take i log ++ d ∷ [] = take_more log i d within ∙ ap (λ (x : Draft). take i log ++ x ∷ []) (sym is) in
    after_is ∙ ap₂ (λ (es : List (ℕ × Mark)) (x : Mark). insert_entry nat_eq es d.id.raw x) before_is m_is ∙ marks_more (take i log) d ∙ ap marks_of (sym more)

pub marks_newest : (log newest : List Draft) → newest ≡ latest log → marks_of newest ≡ marks_of log
marks_newest log newest are = ap marks_of are ∙ ap (map marked) (latest_again [] log)

-- ---- a document that was touched before

find-step : (b : Bool) (d : Draft) (o : Option Mark) (rest : Option Draft) → o ≡ option_map mark_of rest
    → cond b (Some (mark_of d)) o ≡ option_map mark_of (cond b (Some d) rest)
find-step true d o rest is = refl
find-step false d o rest is = is

found-mark : (ds : List Draft) (id : DocId) → lookup (nat_eq id.raw) (map marked ds) ≡ option_map mark_of (find (λ (d : Draft). nat_eq d.id.raw id.raw) ds)
found-mark [] id = refl
found-mark (x ∷ xs) id =
    ap (λ (b : Bool). cond b (Some (mark_of x)) (lookup (nat_eq id.raw) (map marked xs))) (turned id.raw x.id.raw)
    ∙ find-step (nat_eq x.id.raw id.raw) x (lookup (nat_eq id.raw) (map marked xs)) (find (λ (d : Draft). nat_eq d.id.raw id.raw) xs) (found-mark xs id)

found-step : (b : Bool) (n : ℕ) (x d : Draft) (rest : Option Draft) → (b ≡ true → x.id.raw ≡ n) → (rest ≡ Some d → d.id.raw ≡ n) → cond b (Some x) rest ≡ Some d → d.id.raw ≡ n
found-step true n x d rest same ih is = let e : x ≡ d = cc in ap (λ (y : Draft). y.id.raw) (sym e) ∙ same refl
found-step false n x d rest same ih is = ih is

found-id : (ds : List Draft) (id : DocId) (d : Draft) → find (λ (x : Draft). nat_eq x.id.raw id.raw) ds ≡ Some d → d.id.raw ≡ id.raw
found-id [] id d is = let bad : ⊥ = cc in absurd bad
found-id (x ∷ xs) id d is =
    found-step (nat_eq x.id.raw id.raw) id.raw x d (find (λ (y : Draft). nat_eq y.id.raw id.raw) xs) (λ h. eqb-true x.id.raw id.raw h) (λ h. found-id xs id d h) is

-- ---- room

some-map : {A B : Type 0} (f : A → B) (o : Option A) → is_some (option_map f o) ≡ is_some o
some-map f None = refl
some-map f (Some x) = refl

pub room_is : (marks : List (ℕ × Mark)) (p : Progress) (id : DocId) → marks ≡ marks_of p.log → has_room_in marks id ≡ has_room_for p id
room_is marks p id is =
    ap (λ (ms : List (ℕ × Mark)). has_room_in ms id) is
    ∙ ap₂ (λ (b : Bool) (n : ℕ). b || nat_lt n 40)
    (ap is_some (found-mark (latest p.log) id) ∙ some-map mark_of (pending_of p id)) (length-map (latest p.log) marked)

-- ---- the revision that a touch gives

again-step : (b : Bool) (c : Content) (id : DocId) (d : Draft) → d.id.raw ≡ id.raw
    → (if b then Some (record { table = d.table; id = id; version = d.version; content = c }) else None) ≡ (if b then Some (again_of d c) else None)
again-step true c id d same = λ i. Some (record { table = d.table; id = record { raw = sym same i }; version = d.version; content = c })
again-step false c id d same = refl

again-by : (o : Option Draft) (c : Content) (id : DocId) (m : Mark) (last : Option Recorded) → ((d : Draft) → o ≡ Some d → d.id.raw ≡ id.raw)
    → option_map mark_of o ≡ Some m → again_by c id m ≡ revised_by c o last
again-by None c id m last same is = let bad : ⊥ = cc in absurd bad
again-by (Some d) c id m last same is =
    let e : mark_of d ≡ m = cc in
    ap (again_by c id) (sym e) ∙ again-step (is_kept d.content) c id d (same d refl)

next-by : (o : Option Draft) (c : Content) (last : Option Recorded) → option_map mark_of o ≡ None → revised_by c None last ≡ revised_by c o last
next-by None c last is = refl
next-by (Some d) c last is = let bad : ⊥ = cc in absurd bad

-- the last committed revision of a document
abbrev pub state_last : Opened → DocId → Option Recorded
state_last t id = latest_of t.base.revisions id.raw

module _ (t : Opened) (e : Effect) (marks : List (ℕ × Mark)) (tables : List state.Table) (id : DocId) (c : Content)
    (marks_are : marks ≡ marks_of (so_far t e).log) (tables_are : tables ≡ tables_now t.base t.done) (none : e.schema ≡ []) where
  tables-same : tables ≡ tables_now t.base (so_far t e)
  tables-same =
      tables_are ∙ ap (all_changed t.base.tables) (sym (ap (λ (xs : List Schema). t.done.schema ++ xs) none ∙ append-nil t.done.schema))

  lookup-is : (o : Option Mark) → o ≡ lookup (nat_eq id.raw) marks → option_map mark_of (pending_of (so_far t e) id) ≡ o
  lookup-is o is =
      sym (is ∙ ap (lookup (nat_eq id.raw)) marks_are ∙ found-mark (latest (so_far t e).log) id)

  active-is : (d one : Option Draft) (last : Option Recorded) → one ≡ revised_by c (pending_of (so_far t e) id) last → last ≡ state_last t id → d ≡ if_active tables one
      → d ≡ revised t.base (so_far t e) id c
  active-is d one last one_is last_is is =
      is ∙ ap₂ if_active tables-same (one_is ∙ ap (revised_by c (pending_of (so_far t e) id)) last_is)

  -- it was touched before
  pub revised_again : (o : Option Mark) (m : Mark) (d one : Option Draft) → o ≡ lookup (nat_eq id.raw) marks → o ≡ Some m → one ≡ again_by c id m → d ≡ if_active tables one
      → d ≡ revised t.base (so_far t e) id c
  revised_again o m d one looked found again is =
      active-is d one (state_last t id)
      (again ∙ again-by (pending_of (so_far t e) id) c id m (state_last t id) (λ x h. found-id (latest (so_far t e).log) id x h) (lookup-is o looked ∙ found))
      refl is

  -- it wasn't
  pub revised_next : (o : Option Mark) (last : Option Recorded) (d one : Option Draft) → o ≡ lookup (nat_eq id.raw) marks → o ≡ None → last ≡ state_last t id
      → one ≡ revised_by c None last → d ≡ if_active tables one → d ≡ revised t.base (so_far t e) id c
  revised_next o last d one looked none_there last_is next is =
      active-is d one last (next ∙ next-by (pending_of (so_far t e) id) c last (lookup-is o looked ∙ none_there)) last_is is

-- ---- what a touch adds

pub touched_added : (e : Effect) (d : Draft) (row : Value) (rows : List Value) (log : List Draft) → row ≡ named_id (codes "documentId") d.id.raw
    → rows ≡ e.rows ++ row ∷ [] → log ≡ e.log ++ d ∷ []
    → record { rows = rows; schema = e.schema; log = log; made = e.made; footprint = e.footprint } ≡ both e (touch d)
touched_added e d row rows log row_is rows_is log_is =
    let rows_now : rows ≡ e.rows ++ named_id (codes "documentId") d.id.raw ∷ [] = rows_is ∙ ap (λ (x : Value). e.rows ++ x ∷ []) row_is in
    λ i. record {
      rows = rows_now i;
      schema = sym (append-nil e.schema) i;
      log = log_is i;
      made = sym (add-zero e.made) i;
      footprint = sym (append-nil e.footprint) i;
    }

-- ---- what is held after a touch

module _ (t : Opened) (e now : Effect) (d : Draft) (adds : now ≡ both e (touch d)) where
  log-now : (so_far t now).log ≡ (so_far t e).log ++ d ∷ []
  log-now = ap (λ (x : Effect). t.done.log ++ x.log) adds ∙ sym (append_assoc t.done.log e.log (d ∷ []))

  pub marks_now : (marks after : List (ℕ × Mark)) → marks ≡ marks_of (so_far t e).log → after ≡ insert_entry nat_eq marks d.id.raw (mark_of d)
      → after ≡ marks_of (so_far t now).log
  marks_now marks after marks_are is =
      is ∙ ap (λ (ms : List (ℕ × Mark)). insert_entry nat_eq ms d.id.raw (mark_of d)) marks_are ∙ marks_more (so_far t e).log d ∙ ap marks_of (sym log-now)

  pub schema_now : e.schema ≡ [] → now.schema ≡ []
  schema_now none = ap (λ (x : Effect). x.schema) adds ∙ append-nil e.schema ∙ none

  pub touches_is : (id : DocId) (c : Content) → Some d ≡ revised t.base (so_far t e) id c → now ≡ both e (touching t.base (so_far t e) id c)
  touches_is id c is = adds ∙ ap (λ (o : Option Draft). both e (touched o)) is

pub touches_none : (t : Opened) (e : Effect) (id : DocId) (c : Content) → None ≡ revised t.base (so_far t e) id c → e ≡ both e (touching t.base (so_far t e) id c)
touches_none t e id c is = sym (nothing-last e) ∙ ap (λ (o : Option Draft). both e (touched o)) is

-- ---- the same of what is held of a statement

pub touched_one : (t : Opened) (id : DocId) (c : Content) (before now : Touching) (d : Draft) → Stands t before
    → Some d ≡ revised t.base (so_far t (effect_of before.effect)) id c → now.tables ≡ before.tables
    → now.marks.entries ≡ insert_entry nat_eq before.marks.entries d.id.raw (mark_of d) → effect_of now.effect ≡ both (effect_of before.effect) (touch d)
    → Touches t id c before now
touched_one t id c before now d stands is tables marks adds = record {
  stands = record {
    tables = rw tables stands.tables;
    marks = marks_now t (effect_of before.effect) (effect_of now.effect) d adds before.marks.entries now.marks.entries stands.marks marks;
    schema = schema_now t (effect_of before.effect) (effect_of now.effect) d adds stands.schema;
  };
  effect = touches_is t (effect_of before.effect) (effect_of now.effect) d adds id c is;
}

pub touched_none : (t : Opened) (id : DocId) (c : Content) (before : Touching) → Stands t before
    → None ≡ revised t.base (so_far t (effect_of before.effect)) id c → Touches t id c before before
touched_none t id c before stands is = record { stands = stands; effect = touches_none t (effect_of before.effect) id c is }

pub room_held : (t : Opened) (id : DocId) (before : Touching) (b : Bool) → Stands t before → b ≡ has_room_in before.marks.entries id
    → b ≡ has_room_for (so_far t (effect_of before.effect)) id
room_held t id before b stands is = is ∙ room_is before.marks.entries (so_far t (effect_of before.effect)) id stands.marks

pub some_held : (t : Opened) (id : DocId) (before : Touching) (b : Bool) → Stands t before → b ≡ has_room_in before.marks.entries id → b ≡ true
    → not_ended t id before ≡ None
some_held t id before b stands is some =
    ap (λ (x : Bool). if x then None else Some (TooManyRevisions 41)) (sym (room_held t id before b stands is) ∙ some)

pub none_held : (t : Opened) (id : DocId) (before : Touching) (b : Bool) → Stands t before → b ≡ has_room_in before.marks.entries id → b ≡ false
    → not_ended t id before ≡ Some (TooManyRevisions 41)
none_held t id before b stands is none =
    ap (λ (x : Bool). if x then None else Some (TooManyRevisions 41)) (sym (room_held t id before b stands is) ∙ none)
