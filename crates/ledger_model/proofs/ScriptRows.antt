-- Rows of scripts with what they are read as, and of the first fault of a script.
use Rattle.std.proofs.Common.{◌≡◌, ℕ, ℤ, pos, List, [], ◌∷◌, codes, true, false, refl, rules, Ok, Err, None}
use Rattle.ion_values.specs.declared.value.Value.{Value, roll-Value}
use Rattle.ion_values.specs.declared.value.Field.{Field, roll-Field}
use Rattle.ion_values.specs.declared.value.Body.{Body}
use Rattle.ion_values.specs.declared.value.Body.TheFolds.{the_lemmas}
use Rattle.ion_values.specs.declared.value.Body.TheVariants as body
use Rattle.ledger_model.specs.declared.script.Job.{Job}
use Rattle.ledger_model.specs.declared.script.ScriptKind.TheVariants as kind
use Rattle.ledger_model.specs.ReadScript.{fault_at, read_script}

abbrev plain : Body → Value
plain b = roll-Value (record { annotations = []; body = b })

abbrev field : List ℕ → Value → Field
field name v = roll-Field (record { name = name; value = v })

abbrev list : List Value → Value
list vs = plain (body.List vs)

abbrev fields : List Field → Value
fields fs = plain (body.Struct fs)

abbrev text : List ℕ → Value
text t = plain (body.String t)

abbrev int : ℤ → Value
int n = plain (body.Int n)

-- `statements:[]`
abbrev nothing : Field
nothing = field (codes "statements") (list [])

abbrev whole : Job → List (List Job)
whole job = (job ∷ []) ∷ []

no_sessions : read_script [] ≡ Ok []
no_sessions = refl

-- `5`
no_session : read_script (int (pos 5) ∷ []) ≡ Err (fault_at 1 0 kind.NotASession)
no_session = search (rules, the_lemmas)

-- `[]` and `[5]`
no_transaction : read_script (list [] ∷ list (int (pos 5) ∷ []) ∷ []) ≡ Err (fault_at 2 1 kind.NotATransaction)
no_transaction = search (rules, the_lemmas)

-- `[{statements:["a"],end:abort,retries:0}]`
all_said :
    read_script (list (fields (field (codes "statements") (list (text (codes "a") ∷ []))
    ∷ field (codes "end") (plain (body.Symbol (codes "abort"))) ∷ field (codes "retries") (int (pos 0)) ∷ []) ∷ [])
    ∷ [])
    ≡ Ok (whole (record {
      statements = record { text = codes "a"; params = [] } ∷ [];
      retries = 0;
      digest = None;
      abort = true;
      denied = None;
    }))
all_said = search (rules, the_lemmas)

-- `[{statements:[]}]`
left_out :
    read_script (list (fields (nothing ∷ []) ∷ []) ∷ [])
    ≡ Ok (whole (record { statements = []; retries = 4; digest = None; abort = false; denied = None }))
left_out = search (rules, the_lemmas)

-- `[{statements:[],retries:101}]`
bad_retries :
    read_script (list (fields (nothing ∷ field (codes "retries") (int (pos 101)) ∷ []) ∷ []) ∷ [])
    ≡ Err (fault_at 1 1 kind.BadRetries)
bad_retries = search (rules, the_lemmas)

-- `[{retries:101,statements:5}]`: the kinds are tried in their order, wherever the fields stand
not_in_order_of_fields :
    read_script (list (fields (field (codes "retries") (int (pos 101)) ∷ field (codes "statements") (int (pos 5)) ∷ [])
    ∷ []) ∷ [])
    ≡ Err (fault_at 1 1 kind.NotAStatement)
not_in_order_of_fields = search (rules, the_lemmas)

-- `[{other:1,other:2}]`
repeated_first :
    read_script (list (fields (field (codes "other") (int (pos 1)) ∷ field (codes "other") (int (pos 2)) ∷ []) ∷ [])
    ∷ [])
    ≡ Err (fault_at 1 1 kind.RepeatedField)
repeated_first = search (rules, the_lemmas)

-- `[{statements:[]},{other:1}] 5`: the first fault in script order
first_of_two :
    read_script (list (fields (nothing ∷ []) ∷ fields (field (codes "other") (int (pos 1)) ∷ []) ∷ []) ∷ int (pos 5)
    ∷ [])
    ≡ Err (fault_at 1 2 kind.UnknownField)
first_of_two = search (rules, the_lemmas)

-- `[{}]`, `[{statements:[1]}]`, `[{statements:[],end:"commit"}]`, `[{statements:[],digest:{{YQ==}}}]`
without_statements : read_script (list (fields [] ∷ []) ∷ []) ≡ Err (fault_at 1 1 kind.MissingField)
without_statements = search (rules, the_lemmas)

not_a_statement :
    read_script (list (fields (field (codes "statements") (list (int (pos 1) ∷ [])) ∷ []) ∷ []) ∷ [])
    ≡ Err (fault_at 1 1 kind.NotAStatement)
not_a_statement = search (rules, the_lemmas)

bad_end :
    read_script (list (fields (nothing ∷ field (codes "end") (text (codes "commit")) ∷ []) ∷ []) ∷ [])
    ≡ Err (fault_at 1 1 kind.BadEnd)
bad_end = search (rules, the_lemmas)

bad_digest :
    read_script (list (fields (nothing ∷ field (codes "digest") (plain (body.Blob (97 ∷ []))) ∷ []) ∷ []) ∷ [])
    ≡ Err (fault_at 1 1 kind.BadDigest)
bad_digest = search (rules, the_lemmas)
