use Rattle.std.proofs.Common.{◌≡◌, ◌++◌, ◌∙◌, ℕ, List, OnOk, ap, sym, subst, to_z-of_z}
use Rattle.ion_model.specs.Timestamp.{timestamp_text}
use Rattle.script_form.proofs.Moments.{text_in_years}
use Rattle.script_form.proofs.reports.moments.put_moment.Goals as goal

pub returns-then-has_timestamp : goal.returns-then-has_timestamp
returns-then-has_timestamp c =
    let e = to_z-of_z c.ranges.moment in
    let holds = rw e at c.has_timestamp.ensures in
    let time = rw e at c.utc_time.ensures in
    let is = text_in_years c.args.moment (sym holds ∙ c.if-has_timestamp.true) ∙ ap timestamp_text (sym time) in
    subst (λ (text : List ℕ). OnOk c.put_timestamp.result (c.put_timestamp.new.out ≡ c.args.out.now ++ text)) (sym is) c.put_timestamp.ensures
