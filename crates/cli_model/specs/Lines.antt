-- The lines that are written in place of an output, by the exit status.
use Rattle.std.specs.Prelude.{ℕ, List, [], ◌∷◌, ◌++◌, codes}
use Rattle.std.specs.Fmt.{decimal}
use Rattle.ion_values.specs.declared.fault.IonFault.{IonFault}
use Rattle.ion_values.specs.declared.fault.IonKind.{IonKind}
use Rattle.ion_values.specs.declared.fault.IonKind.TheVariants as kind
use Rattle.ion_values.specs.declared.value.Field.{Field}
use Rattle.ion_model.specs.Write.{value_text}
use Rattle.ledger_model.specs.declared.damage.Damage.{Damage}
use Rattle.ledger_model.specs.declared.damage.Damage.TheVariants as damage
use Rattle.ledger_model.specs.declared.script.ScriptFault.{ScriptFault}
use Rattle.ledger_model.specs.declared.script.ScriptKind.{ScriptKind}
use Rattle.ledger_model.specs.declared.script.ScriptKind.TheVariants as script
use Rattle.ledger_model.specs.Values.{field}
use Rattle.ledger_model.specs.Journal.{number, string, id_value, structure, hash_value, address_value}
use Rattle.proof_issue.specs.declared.NoSuch.{NoSuch}
use Rattle.proof_issue.specs.declared.NoSuch.TheVariants as none_such
use Rattle.proof_verify.specs.declared.ProofFault.{ProofFault}
use Rattle.proof_verify.specs.declared.ProofFault.TheVariants as fault

abbrev pub words_line : List ℕ
words_line = codes "{status:1}" ++ 10 ∷ []

-- if memory runs out
abbrev pub memory_line : List ℕ
memory_line = codes "{status:8}" ++ 10 ∷ []

-- a fault with the status 2
abbrev pub fault_line : List ℕ → List ℕ
fault_line text = codes "{status:2,fault:{" ++ text ++ codes "}}" ++ 10 ∷ []

-- ---- why an input is refused, with the status 2

pub data BadInput : Type 0 where
  too_long : BadInput
  faulty : IonFault → BadInput
  bad_rules : BadInput
  no_such_rules : BadInput
  misspelt : ScriptFault → BadInput
  not_a_record : (at : ℕ) → BadInput
  record_differs : (at : ℕ) → (sequence : ℕ) → BadInput

abbrev pub kind_name : IonKind → List ℕ
kind_name kind.NotUtf8 = codes "NotUtf8"
kind_name kind.BadToken = codes "BadToken"
kind_name kind.Unclosed = codes "Unclosed"
kind_name kind.FloatRefused = codes "FloatRefused"
kind_name kind.TooWide = codes "TooWide"
kind_name kind.TooDeep = codes "TooDeep"
kind_name kind.SymbolIdRefused = codes "SymbolIdRefused"
kind_name kind.BadTimestamp = codes "BadTimestamp"
kind_name kind.BadBase64 = codes "BadBase64"

abbrev pub script_kind_name : ScriptKind → List ℕ
script_kind_name script.TooManySessions = codes "TooManySessions"
script_kind_name script.NotASession = codes "NotASession"
script_kind_name script.NotATransaction = codes "NotATransaction"
script_kind_name script.RepeatedField = codes "RepeatedField"
script_kind_name script.UnknownField = codes "UnknownField"
script_kind_name script.MissingField = codes "MissingField"
script_kind_name script.NotAStatement = codes "NotAStatement"
script_kind_name script.BadRetries = codes "BadRetries"
script_kind_name script.BadDigest = codes "BadDigest"
script_kind_name script.BadEnd = codes "BadEnd"

-- the session, the transaction and the kind
abbrev pub script_fault_text : ScriptFault → List ℕ
script_fault_text f =
    codes "session:" ++ decimal f.session ++ codes ",transaction:" ++ decimal f.transaction ++ codes ",kind:"
    ++ script_kind_name f.kind

abbrev pub fault_text : BadInput → List ℕ
fault_text too_long = codes "kind:InputTooLong"
fault_text (faulty f) = codes "at:" ++ decimal f.at ++ codes ",kind:" ++ kind_name f.kind
fault_text bad_rules = codes "kind:BadRules"
fault_text no_such_rules = codes "kind:NoSuchRules"
fault_text (misspelt f) = script_fault_text f
fault_text (not_a_record at) = codes "kind:NotARecord,at:" ++ decimal at
fault_text (record_differs at sequence) =
    codes "kind:RecordDiffers,at:" ++ decimal at ++ codes ",sequence:" ++ decimal sequence

abbrev pub input_line : BadInput → List ℕ
input_line cause = fault_line (fault_text cause)

-- ---- why there is no such digest or proof, with the status 2

abbrev pub no_such_text : NoSuch → List ℕ
no_such_text (none_such.Block sequence blocks) =
    codes "kind:NoSuchBlock,sequence:" ++ decimal sequence ++ codes ",blocks:" ++ decimal blocks
no_such_text (none_such.Revision index count) =
    codes "kind:NoSuchRevision,index:" ++ decimal index ++ codes ",count:" ++ decimal count
no_such_text (none_such.PastTip sequence tip) =
    codes "kind:PastTip,sequence:" ++ decimal sequence ++ codes ",tip:" ++ decimal tip
no_such_text none_such.OutOfMemory = codes "kind:OutOfMemory"

abbrev pub no_such_line : NoSuch → List ℕ
no_such_line refused = fault_line (no_such_text refused)

-- ---- that the journal isn't empty, with the status 2

-- of a journal with this number of blocks
abbrev pub not_empty_line : ℕ → List ℕ
not_empty_line blocks = fault_line (codes "kind:JournalNotEmpty,blocks:" ++ decimal blocks)

-- ---- that a range of blocks ends before it begins, with the status 2

abbrev pub bad_range_line : ℕ → ℕ → List ℕ
bad_range_line from to = fault_line (codes "kind:BadRange,from:" ++ decimal from ++ codes ",to:" ++ decimal to)

-- ---- which line of the journal is damaged, with the status 3

abbrev pub damage_name : Damage → List ℕ
damage_name damage.NotALine = codes "NotALine"
damage_name damage.WrongAddress = codes "WrongAddress"
damage_name damage.WrongId = codes "WrongId"
damage_name damage.TimeFell = codes "TimeFell"
damage_name damage.WrongPrevious = codes "WrongPrevious"
damage_name damage.WrongHash = codes "WrongHash"
damage_name damage.WrongState = codes "WrongState"
damage_name damage.Unasked = codes "Unasked"

abbrev pub damaged_line : ℕ → Damage → List ℕ
damaged_line sequence kind =
    codes "{status:3,fault:{sequence:" ++ decimal sequence ++ codes ",kind:" ++ damage_name kind ++ codes "}}"
    ++ 10 ∷ []

-- ---- failures

-- of a source, with the status 4, or of a store, with the status 5, with the number of its failures
abbrev pub faults_line : List ℕ → ℕ → List ℕ
faults_line status faults = codes "{status:" ++ status ++ codes ",faults:" ++ decimal faults ++ codes "}" ++ 10 ∷ []

-- ---- why a proof isn't accepted, with the status 7

-- the number of the fault, and then its values
abbrev pub proof_fault_fields : ProofFault → List Field
proof_fault_fields (fault.Malformed name) = field (codes "code") (number 1) ∷ field (codes "field") (string name) ∷ []
proof_fault_fields (fault.WrongStrand proof digest) =
    field (codes "code") (number 2) ∷ field (codes "proof") (id_value proof.raw)
    ∷ field (codes "digest") (id_value digest.raw) ∷ []
proof_fault_fields (fault.AddressDiffers revision proof) =
    field (codes "code") (number 3) ∷ field (codes "revision") (address_value revision)
    ∷ field (codes "proof") (address_value proof) ∷ []
proof_fault_fields (fault.PastTip sequence tip) =
    field (codes "code") (number 4) ∷ field (codes "sequence") (number sequence) ∷ field (codes "tip") (number tip) ∷ []
proof_fault_fields (fault.IndexPastCount index count) =
    field (codes "code") (number 5) ∷ field (codes "index") (number index) ∷ field (codes "count") (number count) ∷ []
proof_fault_fields (fault.PathLength wanted given) =
    field (codes "code") (number 6) ∷ field (codes "wanted") (number wanted) ∷ field (codes "given") (number given) ∷ []
proof_fault_fields (fault.HashFieldDiffers stated computed) =
    field (codes "code") (number 7) ∷ field (codes "stated") (hash_value stated)
    ∷ field (codes "computed") (hash_value computed) ∷ []
proof_fault_fields (fault.RootDiffers computed published) =
    field (codes "code") (number 8) ∷ field (codes "computed") (hash_value computed)
    ∷ field (codes "published") (hash_value published) ∷ []
proof_fault_fields fault.OutOfMemory = field (codes "code") (number 9) ∷ []

abbrev pub proof_fault_line : ProofFault → List ℕ
proof_fault_line refused =
    codes "{status:7,fault:" ++ value_text (structure (proof_fault_fields refused)) ++ codes "}" ++ 10 ∷ []

-- that its digest isn't the journal's
abbrev pub unpublished_line : List ℕ
unpublished_line = codes "{status:7,fault:{kind:NotPublished}}" ++ 10 ∷ []
