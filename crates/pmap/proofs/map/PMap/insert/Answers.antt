use Rattle.std.proofs.Common.{sym, ◌∙◌}
use Rattle.pmap.proofs.Counts.{put_is, inserted_put}
use Rattle.pmap.proofs.map.PMap.insert.Goals as goal

pub changed-requires-clause-put : goal.changed-requires-clause-put
changed-requires-clause-put g c = put_is _ _ _ _ (c.as_slice.ensures ∙ c.in_ok-put.ensures) (c.in_ok-share.ensures ∙ sym c.get-lent.ensures)

pub returns : goal.returns
returns g c =
    let order = g.K.Keyed.order in
    let met = g.met.K.Keyed in
    c.in_ok-new.ensures ∙ inserted_put order met.total met.same _ _ _ _ _ _ c.args.self.now (c.as_slice.ensures ∙ c.in_ok-put.ensures)
    (c.in_ok-share.ensures ∙ sym c.get-lent.ensures) (c.get-lent.ensures ∙ c.from_arc-key.ensures) c.from_arc.ensures
