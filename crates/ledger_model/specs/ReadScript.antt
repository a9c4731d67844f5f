-- Scripts read from values, by the ledger's own rule: the script, or its first fault. Sessions come in order, and in a
-- session its transactions. Of one transaction the fault is the first that it shows of the kinds, tried in their order.
use Rattle.std.specs.Prelude.{ℕ, ◌+◌, ◌==◌, ◌&&◌, ◌||◌, not, Bool, true, false, nat_le, List, [], ◌∷◌, length, take, codes, ℤ, pos, int_le, unsigned_abs, Option, Some, None, Result, Ok, Err, if◌then◌else◌}
use Rattle.std.specs.List.{list_any}
use Rattle.std.specs.Option.{ok_or}
use Rattle.std.specs.Str.{bytes_eq}
use Rattle.ion_values.specs.declared.value.Value.{Value}
use Rattle.ion_values.specs.declared.value.Field.{Field}
use Rattle.ql_types.specs.declared.Hash32.{Hash32}
use Rattle.ledger_model.specs.declared.script.Request.{Request}
use Rattle.ledger_model.specs.declared.script.Job.{Job}
use Rattle.ledger_model.specs.declared.script.ScriptFault.{ScriptFault}
use Rattle.ledger_model.specs.declared.script.ScriptKind.{ScriptKind}
use Rattle.ledger_model.specs.declared.script.ScriptKind.TheVariants as kind
pub use Rattle.ledger_model.specs.Values.{blob_in, int_in, symbol_in}
use Rattle.ledger_model.specs.Values.{list_in, fields_in}
use Rattle.ledger_model.specs.Script.{and_then, each, request_of}

-- ---- the fields of a transaction

abbrev pub is_known : List ℕ → Bool
is_known name =
    bytes_eq name (codes "statements") || bytes_eq name (codes "retries") || bytes_eq name (codes "digest")
    || bytes_eq name (codes "end")

abbrev pub is_unknown : Field → Bool
is_unknown f = not (is_known f.name)

abbrev pub has_name : List ℕ → Field → Bool
has_name name f = bytes_eq f.name name

-- two fields have one name
abbrev pub repeats : List Field → Bool
repeats [] = false
repeats (f ∷ fs) = list_any (has_name f.name) fs || repeats fs

-- the value of the first field of that name
abbrev pub named : List ℕ → List Field → Option Value
named name [] = None
named name (f ∷ fs) = if has_name name f then Some f.value else named name fs

-- what a field says, or this where it is absent
abbrev pub said_or : {A : Type 0} → A → (Value → Option A) → Option Value → Option A
said_or absent read None = Some absent
said_or absent read (Some v) = read v

abbrev pub statements_in : Value → Option (List Request)
statements_in v = and_then (list_in v) (each request_of)

-- an int from 0 to 100
abbrev pub retries_of : ℤ → Option ℕ
retries_of n = if int_le (pos 0) n && int_le n (pos 100) then Some (unsigned_abs n) else None

abbrev pub retries_in : Value → Option ℕ
retries_in v = and_then (int_in v) retries_of

-- 32 bytes
abbrev pub digest_of : List ℕ → Option (Option Hash32)
digest_of bytes = if length bytes == 32 then Some (Some (record { bytes = bytes })) else None

abbrev pub digest_in : Value → Option (Option Hash32)
digest_in v = and_then (blob_in v) digest_of

-- whether it is aborted
abbrev pub abort_of : List ℕ → Option Bool
abort_of name =
    if bytes_eq name (codes "commit") then Some false else
    (if bytes_eq name (codes "abort") then Some true else None)

abbrev pub abort_in : Value → Option Bool
abort_in v = and_then (symbol_in v) abort_of

-- ---- a transaction

abbrev pub if_read : {A B E : Type 0} → Result A E → (A → Result B E) → Result B E
if_read (Ok x) f = f x
if_read (Err e) f = Err e

abbrev pub statements_said : List Field → Result (List Request) ScriptKind
statements_said fields =
    if_read (ok_or (named (codes "statements") fields) kind.MissingField)
    (λ v. ok_or (statements_in v) kind.NotAStatement)

abbrev pub retries_said : List Field → Result ℕ ScriptKind
retries_said fields = ok_or (said_or 4 retries_in (named (codes "retries") fields)) kind.BadRetries

abbrev pub digest_said : List Field → Result (Option Hash32) ScriptKind
digest_said fields = ok_or (said_or None digest_in (named (codes "digest") fields)) kind.BadDigest

abbrev pub abort_said : List Field → Result Bool ScriptKind
abort_said fields = ok_or (said_or false abort_in (named (codes "end") fields)) kind.BadEnd

-- what the fields say, one after another
abbrev pub job_said : List Field → Result Job ScriptKind
job_said fields =
    if_read (statements_said fields) (λ statements.
    if_read (retries_said fields) (λ retries.
    if_read (digest_said fields) (λ digest.
    if_read (abort_said fields) (λ abort.
    Ok (record { statements = statements; retries = retries; digest = digest; abort = abort; denied = None })))))

abbrev pub job_of_fields : List Field → Result Job ScriptKind
job_of_fields fields =
    if repeats fields then Err kind.RepeatedField else
    (if list_any is_unknown fields then Err kind.UnknownField else job_said fields)

abbrev pub read_job : Value → Result Job ScriptKind
read_job v = if_read (ok_or (fields_in v) kind.NotATransaction) job_of_fields

-- ---- sessions and scripts

abbrev pub fault_at : ℕ → ℕ → ScriptKind → ScriptFault
fault_at session transaction k = record { session = session; transaction = transaction; kind = k }

-- with the place of its fault
abbrev pub placed_at : {A : Type 0} → ℕ → ℕ → Result A ScriptKind → Result A ScriptFault
placed_at session transaction (Ok x) = Ok x
placed_at session transaction (Err k) = Err (fault_at session transaction k)

-- the first one has this number; all that they are read as, or the first fault
abbrev pub read_each : {A B E : Type 0} → (ℕ → A → Result B E) → ℕ → List A → Result (List B) E
read_each read number [] = Ok []
read_each read number (v ∷ vs) =
    if_read (read number v) (λ x. if_read (read_each read (number + 1) vs) (λ xs. Ok (x ∷ xs)))

abbrev pub read_placed : ℕ → ℕ → Value → Result Job ScriptFault
read_placed session transaction v = placed_at session transaction (read_job v)

abbrev pub read_session : ℕ → Value → Result (List Job) ScriptFault
read_session session v =
    if_read (placed_at session 0 (ok_or (list_in v) kind.NotASession))
    (λ members. read_each (read_placed session) 1 members)

-- at most 1,024 sessions are read; that there are more is found behind their faults
abbrev pub read_script : List Value → Result (List (List Job)) ScriptFault
read_script values =
    if_read (read_each read_session 1 (take 1024 values)) (λ script.
    if nat_le (length values) 1024 then Ok script else Err (fault_at 1025 0 kind.TooManySessions))
