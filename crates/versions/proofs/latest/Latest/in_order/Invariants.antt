use Rattle.std.proofs.Common.{◌≡◌, take}
use Rattle.versions.specs.Filing.{places_from}
use Rattle.versions.specs.Lookups.{is_one_of}
use Rattle.versions.proofs.Among.{IsLast}
use Rattle.versions.proofs.Members.{found}
use Rattle.versions.proofs.Newest.{lent_values}
use Rattle.versions.proofs.latest.Latest.in_order.Given as goal

-- the documents of the ids so far, none of which is behind the last place
abbrev pub invariant-ids : goal.invariant-ids
invariant-ids l =
    (lent_values l.all ≡ found l.self (places_from (is_one_of (take l.id-index l.ids)) 0 l.self))
    × IsLast l.last (places_from (is_one_of (take l.id-index l.ids)) 0 l.self)
