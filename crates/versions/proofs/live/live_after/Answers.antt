use Rattle.std.proofs.Common.{◌≡◌, Option, sym, ◌∙◌, subst}
use Rattle.std.specs.Prelude.{option_map}
use Rattle.std.specs.Option.{option_copied}
use Rattle.std.specs.Arc.{arc_value}
use Rattle.ql_types.specs.declared.TableId.{TableId}
use Rattle.index_post.specs.Positions.{IsChangedBy}
use Rattle.versions.specs.ByTable.{by_table}
use Rattle.versions.specs.Filing.{old_key}
use Rattle.versions.specs.Live.{live_table}
use Rattle.versions.proofs.TablesHeld.{same_table}
use Rattle.versions.proofs.Spots.{filed_kept, filed_put}
use Rattle.versions.proofs.live.live_after.Goals as goal

pub returns-then-is_same : goal.returns-then-is_same
returns-then-is_same c = λ ds spot were.
    let same = sym c.old_table-old.ensures ∙ same_table _ _ (sym c.is_same.ensures ∙ c.if-is_same.true) ∙ c.live_table-new.ensures in
    rw c.in_ok-same.ensures (filed_kept by_table live_table ds c.args.item.now c.args.spot.now.at (option_copied c.args.spot.now.old) spot c.args.live.now same were)

pub returns : goal.returns
returns c = λ ds spot were.
    let old : option_map arc_value c.in_ok-old.old ≡ old_key live_table (option_copied c.args.spot.now.old) = c.in_ok-old.ensures ∙ c.old_table-old.ensures in
    let new : option_map arc_value c.in_ok-new.new ≡ live_table c.args.item.now = c.in_ok-new.ensures ∙ c.live_table-new.ensures in
    filed_put by_table live_table ds c.args.item.now c.args.spot.now.at (option_copied c.args.spot.now.old) spot c.args.live.now c.in_ok-after.after
    (subst (λ (o : Option TableId). IsChangedBy by_table c.args.spot.now.at o (live_table c.args.item.now) c.args.live.now c.in_ok-after.after) old
    (subst (λ (o : Option TableId). IsChangedBy by_table c.args.spot.now.at (option_map arc_value c.in_ok-old.old) o c.args.live.now c.in_ok-after.after) new
    c.in_ok-after.ensures)) were
