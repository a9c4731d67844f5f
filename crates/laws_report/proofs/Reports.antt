-- The text of a report tells its outcomes, line by line.
use Rattle.std.proofs.Common.{◌≡◌, ℕ, List, [], ◌∷◌, ◌++◌, drop, slice_index, codes, refl, ap}
use Rattle.std.specs.Fmt.{decimal}
use Rattle.std.proofs.lemmas.List.Elements.{All-head, All-tail}
use Rattle.ledger_model.specs.declared.block.Block.{Block}
use Rattle.ledger_model.specs.declared.outcome.PlacedOutcome.{PlacedOutcome}
use Rattle.ledger_model.specs.Report.{outcome_line, outcome_text, report}
use Rattle.laws_report.specs.Laws.{ReportTellsOutcomes}
use Rattle.laws_report.specs.Writable.{IsWritable}
use Rattle.laws_report.proofs.Runs.{apart, behind, number_tells, parted, right}
use Rattle.laws_report.proofs.Outcomes.{outcome_tells}

line_tells : (blocks : List Block) (a b : PlacedOutcome) (r s : List ℕ) → IsWritable a → IsWritable b
    → outcome_line blocks a ++ r ≡ outcome_line blocks b ++ s → (a ≡ b) × (r ≡ s)
line_tells blocks a b r s h k e =
    let end : List (List ℕ) = codes "}" ∷ (10 ∷ []) ∷ [] in
    let xs : List (List ℕ) = codes ",outcome:" ∷ outcome_text blocks a.outcome ∷ end in
    let us : List (List ℕ) = codes ",outcome:" ∷ outcome_text blocks b.outcome ∷ end in
    let ys : List (List ℕ) = codes ",transaction:" ∷ decimal a.place.transaction ∷ xs in
    let ws : List (List ℕ) = codes ",transaction:" ∷ decimal b.place.transaction ∷ us in
    let first = number_tells a.place.session b.place.session (right ys r) (right ws s) h.0 k.0 refl refl
    (parted (decimal a.place.session) (decimal b.place.session) ys ws r s (ap (behind (codes "{session:")) e)) in
    let second = number_tells a.place.transaction b.place.transaction (right xs r) (right us s) h.1 k.1 refl refl (ap (behind (codes ",transaction:")) first.1) in
    let third = outcome_tells blocks a.outcome b.outcome (right end r) (right end s) h.2 k.2 refl refl (ap (behind (codes ",outcome:")) second.1) in
    (λ i. record { place = record { session = first.0 i; transaction = second.0 i }; outcome = third.0 i }, ap (drop 2) third.1)

pub report_tells_outcomes : ReportTellsOutcomes
report_tells_outcomes blocks [] [] h k e = refl
report_tells_outcomes blocks [] (b ∷ more) h k e = absurd (apart (ap (λ l. slice_index l 0) e) refl)
report_tells_outcomes blocks (a ∷ more) [] h k e = absurd (apart (ap (λ l. slice_index l 0) e) refl)
report_tells_outcomes blocks (a ∷ rest) (b ∷ more) h k e =
    let line = line_tells blocks a b (report blocks rest) (report blocks more) (All-head IsWritable a rest h) (All-head IsWritable b more k) e in
    let behind_it = report_tells_outcomes blocks rest more (All-tail IsWritable a rest h) (All-tail IsWritable b more k) line.1 in
    λ i. line.0 i ∷ behind_it i
