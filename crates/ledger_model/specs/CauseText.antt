-- The text of a refusal, by the ledger's own rule: its code and its fields in order, names as strings and kinds as
-- symbols.
use Rattle.std.specs.Prelude.{ℕ, List, ◌++◌, codes}
use Rattle.std.specs.Fmt.{decimal}
use Rattle.ion_values.specs.declared.value.Kind.{Kind}
use Rattle.ion_model.specs.Write.{string_text}
use Rattle.pql_model.specs.declared.ParseKind.{ParseKind}
use Rattle.ledger_model.specs.declared.outcome.Refusal.{Refusal}
use Rattle.ledger_model.specs.declared.outcome.Refusal.TheVariants as refusal

-- the kind of a value
abbrev pub kind_name : Kind → List ℕ
kind_name Kind.Null = codes "Null"
kind_name Kind.Bool = codes "Bool"
kind_name Kind.Int = codes "Int"
kind_name Kind.Decimal = codes "Decimal"
kind_name Kind.Timestamp = codes "Timestamp"
kind_name Kind.Symbol = codes "Symbol"
kind_name Kind.String = codes "String"
kind_name Kind.Clob = codes "Clob"
kind_name Kind.Blob = codes "Blob"
kind_name Kind.List = codes "List"
kind_name Kind.Sexp = codes "Sexp"
kind_name Kind.Struct = codes "Struct"

-- why a text is no statement
abbrev pub parse_kind_name : ParseKind → List ℕ
parse_kind_name ParseKind.NotAToken = codes "NotAToken"
parse_kind_name ParseKind.Unexpected = codes "Unexpected"
parse_kind_name ParseKind.TextEnds = codes "TextEnds"
parse_kind_name ParseKind.TooLong = codes "TooLong"
parse_kind_name ParseKind.TooDeep = codes "TooDeep"
parse_kind_name ParseKind.TooWide = codes "TooWide"
parse_kind_name ParseKind.FloatRefused = codes "FloatRefused"
parse_kind_name ParseKind.IonLiteral = codes "IonLiteral"
parse_kind_name ParseKind.UnknownName = codes "UnknownName"
parse_kind_name ParseKind.BadTarget = codes "BadTarget"
parse_kind_name ParseKind.MixedAggregate = codes "MixedAggregate"

abbrev pub not_a_document_text : Kind → List ℕ
not_a_document_text k = codes "code:10,kind:" ++ kind_name k

abbrev pub parameter_count_text : ℕ → ℕ → List ℕ
parameter_count_text wanted given = codes "code:11,wanted:" ++ decimal wanted ++ codes ",given:" ++ decimal given

-- the code and the fields
abbrev pub cause_text : Refusal → List ℕ
cause_text (refusal.ParseFault at k) = codes "code:1,at:" ++ decimal at ++ codes ",kind:" ++ parse_kind_name k
cause_text (refusal.NoSuchTable name) = codes "code:2,name:" ++ string_text name
cause_text (refusal.TableExists name) = codes "code:3,name:" ++ string_text name
cause_text (refusal.ReservedName name) = codes "code:4,name:" ++ string_text name
cause_text (refusal.IndexExists name field) =
    codes "code:5,name:" ++ string_text name ++ codes ",field:" ++ string_text field
cause_text (refusal.TooManyTables count) = codes "code:6,count:" ++ decimal count
cause_text (refusal.TooManyIndexes count) = codes "code:7,count:" ++ decimal count
cause_text (refusal.TooManyRevisions count) = codes "code:8,count:" ++ decimal count
cause_text (refusal.DocumentTooLarge bytes) = codes "code:9,bytes:" ++ decimal bytes
cause_text (refusal.NotADocument k) = not_a_document_text k
cause_text (refusal.ParameterCount wanted given) = parameter_count_text wanted given
cause_text (refusal.TooDeep depth) = codes "code:12,depth:" ++ decimal depth
cause_text refusal.Ended = codes "code:13"
cause_text refusal.OutOfMemory = codes "code:14"
cause_text refusal.NoSuchRevision = codes "code:15"
cause_text (refusal.StillLatest version) = codes "code:16,version:" ++ decimal version
cause_text (refusal.AlreadyRedacted version) = codes "code:17,version:" ++ decimal version
cause_text (refusal.TooManyRedactions count) = codes "code:18,count:" ++ decimal count
