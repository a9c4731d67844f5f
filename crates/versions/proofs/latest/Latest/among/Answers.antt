use Rattle.std.proofs.Common.{List, ap, ◌∙◌}
use Rattle.versions.specs.declared.recorded.Recorded.{Recorded}
use Rattle.versions.specs.Filing.{places_from}
use Rattle.versions.specs.Lookups.{is_one_of}
use Rattle.versions.proofs.Filing.{members_at}
use Rattle.versions.proofs.Members.{found}
use Rattle.versions.proofs.latest.Latest.among.Goals as goal

pub returns : goal.returns
returns c =
    c.in_ok-all.ensures
    ∙ ap (found c.self.inside.documents) c.in_ok-set.ensures
    ∙ ap (λ (ds : List Recorded). found ds (places_from (is_one_of c.args.ids.now) 0 c.args.self.now)) c.self.view_is
    ∙ members_at (is_one_of c.args.ids.now) c.args.self.now
