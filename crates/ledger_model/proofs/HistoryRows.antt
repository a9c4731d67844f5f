-- Rows of committed views and histories.
use Rattle.std.proofs.Common.{◌≡◌, ℕ, pos, [], ◌∷◌, refl, rules, arith, Option, Some, None}
use Rattle.ion_values.specs.declared.time.Precision.TheVariants.{Second}
use Rattle.ion_values.specs.declared.time.TimeParts.{TimeParts}
use Rattle.ion_values.specs.declared.value.Body.TheFolds.{the_lemmas}
use Rattle.ion_values.specs.declared.value.Body.TheVariants as body
use Rattle.ion_values.specs.declared.value.Kind.TheVariants as kind
use Rattle.ion_values.specs.declared.value.Value.{Value, roll-Value}
use Rattle.jiff_core.specs.Calendar.{days_from_civil}
use Rattle.jiff_core.proofs.CalendarLemmas.{days_from_civil-day_count}
use Rattle.jiff_core.proofs.MarchLemmas.{day_count-early, day_count-late}
use Rattle.jiff_core.proofs.SignedLemmas.{signed_arith}
use Rattle.ql_types.specs.declared.TableId.{TableId}
use Rattle.ledger_model.specs.declared.block.Content.{Content}
use Rattle.ledger_model.specs.declared.block.Content.TheVariants.{Deleted, Kept}
use Rattle.ledger_model.specs.CommittedViews.{committed_view, history_view, row_showing}
use Rattle.ledger_model.specs.State.{Recorded}

abbrev table : ℕ → TableId
table raw = record { raw = raw }

-- the first day of a month, in UTC
abbrev first_day : ℕ → ℕ → TimeParts
first_day year month = record {
  precision = Second;
  year = year;
  month = month;
  day = 1;
  hour = 0;
  minute = 0;
  second = 0;
  digits = 3;
  nanos = 0;
  offset = Some (pos 0);
}

abbrev value : ℕ → Value
value n = roll-Value (record { annotations = []; body = body.Int (pos n) })

abbrev bound : ℕ → ℕ → Option Value
bound year month = Some (roll-Value (record { annotations = []; body = body.Timestamp (first_day year month) }))

-- a revision of the document 7 of the table 5
abbrev revision : ℕ → TimeParts → Content → Recorded
revision version time c = record {
  table = table 5;
  revision = record {
    address = record { strand = record { raw = 0 }; sequence = version };
    hash = record { bytes = [] };
    content = c;
    metadata = record { id = record { raw = 7 }; version = version; time = time; tx = record { raw = 1 } };
  };
}

abbrev inserted : Recorded
inserted = revision 0 (first_day 2019 6) (Kept (value 5))

abbrev updated : Recorded
updated = revision 1 (first_day 2020 1) (Kept (value 6))

abbrev deleted : Recorded
deleted = revision 2 (first_day 2020 3) Deleted

-- ---- the days of these months' beginnings

in_june : days_from_civil (pos 2019) 6 1 ≡ pos 18_048
in_june =
    omega (
      arith,
      signed_arith,
      days_from_civil-day_count (pos 2019) 6 1,
      day_count-late (pos 2019) 12_019 6 1 refl (omega arith) (omega arith) (omega arith),
    )

in_january : days_from_civil (pos 2020) 1 1 ≡ pos 18_262
in_january =
    omega (
      arith,
      signed_arith,
      days_from_civil-day_count (pos 2020) 1 1,
      day_count-early (pos 2020) 12_019 1 1 refl (omega arith) (omega arith) (omega arith),
    )

in_february : days_from_civil (pos 2020) 2 1 ≡ pos 18_293
in_february =
    omega (
      arith,
      signed_arith,
      days_from_civil-day_count (pos 2020) 2 1,
      day_count-early (pos 2020) 12_019 2 1 refl (omega arith) (omega arith) (omega arith),
    )

in_march : days_from_civil (pos 2020) 3 1 ≡ pos 18_322
in_march =
    omega (
      arith,
      signed_arith,
      days_from_civil-day_count (pos 2020) 3 1,
      day_count-late (pos 2020) 12_020 3 1 refl (omega arith) (omega arith) (omega arith),
    )

in_april : days_from_civil (pos 2020) 4 1 ≡ pos 18_353
in_april =
    omega (
      arith,
      signed_arith,
      days_from_civil-day_count (pos 2020) 4 1,
      day_count-late (pos 2020) 12_020 4 1 refl (omega arith) (omega arith) (omega arith),
    )

-- ---- history

-- history(t, `2020-01-01T00:00:00Z`, `2020-01-01T00:00:00Z`): the document that was active then
before_update : history_view (table 5) (bound 2020 1) (bound 2020 1) (inserted ∷ []) ≡ row_showing inserted ∷ []
before_update = search (rules, the_lemmas, in_june, in_january, in_february, in_march, in_april)

-- an update at that moment is what was active then
after_update : history_view (table 5) (bound 2020 1) (bound 2020 1) (inserted ∷ updated ∷ []) ≡ row_showing updated ∷ []
after_update = search (rules, the_lemmas, in_june, in_january, in_february, in_march, in_april)

-- without bounds all committed revisions, a delete included
whole_history : history_view (table 5) None None (inserted ∷ updated ∷ deleted ∷ [])
    ≡ row_showing inserted ∷ row_showing updated ∷ row_showing deleted ∷ []
whole_history = refl

-- a delete was active at its own moment alone
at_delete :
    history_view (table 5) (bound 2020 3) (bound 2020 3) (inserted ∷ updated ∷ deleted ∷ []) ≡ row_showing deleted ∷ []
at_delete = search (rules, the_lemmas, in_june, in_january, in_february, in_march, in_april)

behind_delete : history_view (table 5) (bound 2020 4) None (inserted ∷ updated ∷ deleted ∷ []) ≡ []
behind_delete = search (rules, the_lemmas, in_june, in_january, in_february, in_march, in_april)

up_to_update :
    history_view (table 5) None (bound 2020 1) (inserted ∷ updated ∷ deleted ∷ [])
    ≡ row_showing inserted ∷ row_showing updated ∷ []
up_to_update = search (rules, the_lemmas, in_june, in_january, in_february, in_march, in_april)

-- bounds the wrong way round show nothing, nor does one that is no timestamp
turned : history_view (table 5) (bound 2020 2) (bound 2020 1) (inserted ∷ updated ∷ []) ≡ []
turned = search (rules, the_lemmas, in_june, in_january, in_february, in_march, in_april)

no_moment : history_view (table 5) (Some (value 5)) None (inserted ∷ updated ∷ []) ≡ []
no_moment = search (rules, the_lemmas)

null_moment :
    history_view (table 5) None (Some (roll-Value (record { annotations = []; body = body.Null kind.Timestamp })))
    (inserted ∷ [])
    ≡ []
null_moment = search (rules, the_lemmas)

other_table : history_view (table 6) None None (inserted ∷ updated ∷ []) ≡ []
other_table = refl

-- ---- the committed view

latest_alone : committed_view (table 5) (inserted ∷ updated ∷ []) ≡ row_showing updated ∷ []
latest_alone = refl

none_deleted : committed_view (table 5) (inserted ∷ updated ∷ deleted ∷ []) ≡ []
none_deleted = refl

of_another : committed_view (table 6) (inserted ∷ []) ≡ []
of_another = refl
