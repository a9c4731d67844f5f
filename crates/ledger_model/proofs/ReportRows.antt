-- Rows of outcomes with their lines in the report.
use Rattle.std.proofs.Common.{◌≡◌, pos, negsuc, [], ◌∷◌, ◌++◌, codes, None, Some, refl}
use Rattle.std.specs.Fmt.{digits}
use Rattle.ion_values.specs.declared.value.Key.TheVariants as key
use Rattle.pql_model.specs.declared.ParseKind.{ParseKind}
use Rattle.ql_types.specs.Ids.{digits_of}
use Rattle.ledger_model.specs.declared.outcome.Outcome.{Outcome}
use Rattle.ledger_model.specs.declared.outcome.Outcome.TheVariants as outcome
use Rattle.ledger_model.specs.declared.outcome.Item.TheVariants as item
use Rattle.ledger_model.specs.declared.outcome.Refusal.TheVariants as refusal
use Rattle.ledger_model.specs.declared.outcome.PlacedOutcome.{PlacedOutcome}
use Rattle.ledger_model.specs.Report.{report}

-- at the second transaction of session 3
abbrev ended : Outcome → PlacedOutcome
ended o = record { place = record { session = 3; transaction = 2 }; outcome = o }

spent :
    report [] (ended (outcome.IdsSpent 18446744073709551615) ∷ [])
    ≡ codes "{session:3,transaction:2,outcome:ids_spent,last:18446744073709551615}" ++ 10 ∷ []
unfolding digits
spent = refl

no_memory :
    report [] (ended outcome.OutOfMemory ∷ []) ≡ codes "{session:3,transaction:2,outcome:out_of_memory}" ++ 10 ∷ []
unfolding digits
no_memory = refl

given_up :
    report [] (ended (outcome.Aborted (record { raw = 16777216 }) 7) ∷ [])
    ≡ codes "{session:3,transaction:2,outcome:aborted,tx:\"0000000000000000018OWG\",since:7}" ++ 10 ∷ []
unfolding digits digits_of
given_up = refl

-- the rules deny its first statement, and none of them speaks of it
denied_by_none :
    report [] (ended (outcome.Denied 1 (codes "PartiQLCreateTable") (codes "t") None) ∷ [])
    ≡ codes "{session:3,transaction:2,outcome:denied,statement:1,action:PartiQLCreateTable,table:\"t\",rule:null}"
    ++ 10 ∷ []
unfolding digits
denied_by_none = refl

-- a rule denies its second statement
denied_by_rule :
    report [] (ended (outcome.Denied 2 (codes "PartiQLInsert") (codes "t") (Some (codes "r2"))) ∷ [])
    ≡ codes "{session:3,transaction:2,outcome:denied,statement:2,action:PartiQLInsert,table:\"t\",rule:\"r2\"}"
    ++ 10 ∷ []
unfolding digits
denied_by_rule = refl

-- the key's exponent is outside the limits of a decimal
touched :
    report [] (ended (outcome.Conflict (record { raw = 16777216 }) 4
    (record {
      block = 5;
      item = item.IndexValue (record { raw = 16777217 }) (codes "a")
          (key.Number (negsuc 4) (pos 32768));
    })) ∷ [])
    ≡ codes "{session:3,transaction:2,outcome:conflict,tx:\"0000000000000000018OWG\",since:4,block:5,item:"
    ++ codes "{kind:index_value,table:\"0000000000000000018OWH\",field:\"a\",value:-5d32768}}" ++ 10 ∷ []
unfolding digits digits_of
touched = refl

refused_text :
    report [] (ended (outcome.Refused (record { raw = 16777216 }) 0 1 (refusal.ParseFault 9 ParseKind.Unexpected)) ∷ [])
    ≡ codes "{session:3,transaction:2,outcome:refused,tx:\"0000000000000000018OWG\",since:0,statement:1,"
    ++ codes "cause:{code:1,at:9,kind:Unexpected}}" ++ 10 ∷ []
unfolding digits digits_of
refused_text = refl
