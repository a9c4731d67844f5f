use Rattle.std.proofs.Common.{List, ℕ, subst}
use Rattle.stream_out.specs.ReadRecords.{IsTypedAs}
use Rattle.stream_out.proofs.OfRecords.{of_type, untyped_is}
use Rattle.stream_out.proofs.read_records.read_record.Goals as goal

pub returns-in_default : goal.returns-in_default
returns-in_default c = untyped_is c.args.v.now c.in_default.ensures

pub returns : goal.returns
returns c =
    of_type c.args.v.now c.in-Some.typed.0.now c.in-Some.typed.1.now c.in_ok-found.found c.in-Some.ensures
    (subst (λ (type : List ℕ). IsTypedAs type c.in-Some.typed.1.now c.in_ok-found.found) c.as_str.ensures c.in_ok-found.ensures)
