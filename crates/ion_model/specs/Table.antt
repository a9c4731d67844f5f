-- Which token of Ion text may come next, by the innermost open container and by what was read last in it (Ion 1.0,
-- "Text encoding", lists, S-expressions, structs and annotations; "Symbols", version markers and symbol tables).
use Rattle.std.specs.Prelude.{ℕ, ◌&&◌, ◌||◌, not, Bool, true, false, nat_le, List, [], ◌∷◌, ◌++◌, length, Result, Ok, Err, Option, Some, None, codes, if◌then◌else◌}
use Rattle.std.specs.Str.{bytes_eq}
use Rattle.ion_values.specs.declared.fault.IonKind.{IonKind}
use Rattle.ion_values.specs.declared.fault.IonKind.TheVariants as fault
use Rattle.ion_values.specs.declared.value.Value.{Value}
use Rattle.ion_values.specs.declared.value.Body.{Body}
use Rattle.ion_values.specs.declared.value.Body.TheVariants as body
use Rattle.ion_model.specs.declared.Scalar.{Scalar}
use Rattle.ion_model.specs.declared.Scalar.TheVariants as scalar
use Rattle.ion_model.specs.declared.Token.{Token}
use Rattle.ion_model.specs.declared.Token.TheVariants as token
use Rattle.ion_model.specs.declared.Members.{Members}
use Rattle.ion_model.specs.declared.Members.TheVariants as members
use Rattle.ion_model.specs.declared.Last.{Last}
use Rattle.ion_model.specs.declared.Last.TheVariants as last
use Rattle.ion_model.specs.declared.Frame.{Frame}

-- ---- the table: what may come next

-- A value comes first in a list or behind a comma, in a struct behind a colon, elsewhere behind any other, and behind
-- an annotation.
abbrev pub may_begin : Members → Last → Bool
may_begin ms last.Annotation = true
may_begin (members.Stream vs) last.Opening = true
may_begin (members.Stream vs) last.Value = true
may_begin (members.List vs) last.Opening = true
may_begin (members.List vs) last.Comma = true
may_begin (members.Sexp vs) last.Opening = true
may_begin (members.Sexp vs) last.Value = true
may_begin (members.Struct fs) last.Colon = true
may_begin _ _ = false

-- a field's name comes first in a struct, or behind a comma
abbrev pub may_name : Members → Last → Bool
may_name (members.Struct fs) last.Opening = true
may_name (members.Struct fs) last.Comma = true
may_name _ _ = false

-- a comma stands behind a member of a list or a struct
abbrev pub may_comma : Members → Last → Bool
may_comma (members.List vs) last.Value = true
may_comma (members.Struct fs) last.Value = true
may_comma _ _ = false

-- a container ends at once, behind a member, or behind a comma
abbrev pub may_close : Last → Bool
may_close last.Opening = true
may_close last.Value = true
may_close last.Comma = true
may_close _ = false

-- ---- open containers, the innermost first; the last one is the whole text

abbrev pub Open : Type 0
Open = List Frame

-- with the containers that are open now, or why the token is refused
abbrev pub Taken : Type 0
Taken = Result Open IonKind

abbrev pub opened : Members → Frame
opened ms = record { members = ms; name = []; annotations = []; is_table = false; last = last.Opening }

abbrev pub start : Open
start = opened (members.Stream []) ∷ []

abbrev pub then_last : Last → Frame → Frame
then_last l f =
    record { members = f.members; name = f.name; annotations = f.annotations; is_table = f.is_table; last = l }

-- the frame, or a refusal
abbrev pub taken_if : Bool → Frame → Open → Taken
taken_if may f fs = if may then Ok (f ∷ fs) else Err fault.BadToken

-- ---- values

abbrev pub body_of : Scalar → Body
body_of (scalar.Null k) = body.Null k
body_of (scalar.Bool b) = body.Bool b
body_of (scalar.Int n) = body.Int n
body_of (scalar.Decimal d) = body.Decimal d
body_of (scalar.Timestamp t) = body.Timestamp t
body_of (scalar.Clob bytes) = body.Clob bytes
body_of (scalar.Blob bytes) = body.Blob bytes

abbrev pub with_member : List ℕ → Value → Members → Members
with_member name v (members.Stream vs) = members.Stream (vs ++ v ∷ [])
with_member name v (members.List vs) = members.List (vs ++ v ∷ [])
with_member name v (members.Sexp vs) = members.Sexp (vs ++ v ∷ [])
with_member name v (members.Struct fs) = members.Struct (fs ++ record { name = name; value = v } ∷ [])

-- the frame with one value more, under the annotations and the name that were read before it
abbrev pub with_value : Body → Frame → Frame
with_value content f = record {
  members = with_member f.name (record { annotations = f.annotations; body = content }) f.members;
  name = [];
  annotations = [];
  is_table = false;
  last = last.Value;
}

abbrev pub add : Body → Frame → Open → Taken
add content f = taken_if (may_begin f.members f.last) (with_value content f)

-- ---- symbols and long strings, which are values where the next token doesn't belong to them

-- `$ion_1_0` without quotes and annotations at the top level marks the version and is no value
abbrev pub is_marker : List ℕ → Bool → List (List ℕ) → Members → Bool
is_marker text quoted [] (members.Stream vs) = not quoted && bytes_eq text (codes "$ion_1_0")
is_marker text quoted _ _ = false

abbrev pub symbol_settled : List ℕ → Bool → Frame → Frame
symbol_settled text quoted f =
    if is_marker text quoted f.annotations f.members then then_last last.Value f else with_value (body.Symbol text) f

abbrev pub settle : Last → Frame → Frame
settle (last.Symbol text quoted) f = symbol_settled text quoted f
settle (last.LongString text) f = with_value (body.String text) f
settle _ f = f

abbrev pub settled : Frame → Frame
settled f = settle f.last f

-- whether a token belongs to what was read last: `::` to a symbol, a segment to a long string
abbrev pub continues : Token → Last → Bool
continues token.DoubleColon (last.Symbol text quoted) = true
continues (token.Segment more) (last.LongString text) = true
continues _ _ = false

-- the frame as a token finds it
abbrev pub before : Token → Frame → Frame
before t f = if continues t f.last then f else settled f

-- ---- names, symbols and strings

abbrev pub named : List ℕ → Last → Frame → Frame
named text l f =
    record { members = f.members; name = text; annotations = f.annotations; is_table = f.is_table; last = l }

-- a name where one may come next, and else a value that may begin
abbrev pub named_or : List ℕ → Last → Frame → Frame → Open → Taken
named_or text l value f fs =
    if may_name f.members f.last then Ok (named text l f ∷ fs) else taken_if (may_begin f.members f.last) value fs

abbrev pub symbol : List ℕ → Bool → Frame → Open → Taken
symbol text quoted f = named_or text last.Name (then_last (last.Symbol text quoted) f) f

abbrev pub string : List ℕ → Frame → Open → Taken
string text f = named_or text last.Name (with_value (body.String text) f) f

abbrev pub first_segment : List ℕ → Frame → Open → Taken
first_segment text f = named_or text last.LongName (then_last (last.LongString text) f) f

-- segments are joined
abbrev pub segment : List ℕ → Last → Frame → Open → Taken
segment more (last.LongString text) f fs = Ok (then_last (last.LongString (text ++ more)) f ∷ fs)
segment more last.LongName f fs = Ok (named (f.name ++ more) last.LongName f ∷ fs)
segment more _ f fs = first_segment more f fs

-- an operator is a symbol in a sexp
abbrev pub operator : List ℕ → Members → Frame → Open → Taken
operator text (members.Sexp vs) f fs = symbol text false f fs
operator text _ f fs = Err fault.BadToken

-- ---- annotations

abbrev pub names_table : List ℕ → Bool → Bool
names_table text quoted = not quoted && bytes_eq text (codes "$ion_symbol_table")

abbrev pub annotated : List ℕ → Bool → Frame → Frame
annotated text quoted f = record {
  members = f.members;
  name = f.name;
  annotations = f.annotations ++ text ∷ [];
  is_table = f.is_table || names_table text quoted;
  last = last.Annotation;
}

-- `::` behind a symbol
abbrev pub annotate : Last → Frame → Open → Taken
annotate (last.Symbol text quoted) f fs = Ok (annotated text quoted f ∷ fs)
annotate _ f fs = Err fault.BadToken

-- ---- colons and commas

abbrev pub colon : Last → Frame → Open → Taken
colon last.Name f fs = Ok (then_last last.Colon f ∷ fs)
colon last.LongName f fs = Ok (then_last last.Colon f ∷ fs)
colon _ f fs = Err fault.BadToken

abbrev pub comma : Frame → Open → Taken
comma f = taken_if (may_comma f.members f.last) (then_last last.Comma f)

-- ---- containers

-- at most `depth` of them are open at once
abbrev pub begin : ℕ → Members → Frame → Open → Taken
begin depth ms f fs =
    if nat_le depth (length fs) then Err fault.TooDeep else taken_if (may_begin f.members f.last) (opened ms) (f ∷ fs)

abbrev pub is_symbol_table : Bool → Members → Bool
is_symbol_table is_table (members.Stream vs) = is_table
is_symbol_table is_table _ = false

-- a symbol table is refused
abbrev pub begin_struct : ℕ → Frame → Open → Taken
begin_struct depth f fs =
    if is_symbol_table f.is_table f.members then Err fault.SymbolIdRefused else begin depth (members.Struct []) f fs

abbrev pub list_of : Members → Option Body
list_of (members.List vs) = Some (body.List vs)
list_of _ = None

abbrev pub sexp_of : Members → Option Body
sexp_of (members.Sexp vs) = Some (body.Sexp vs)
sexp_of _ = None

abbrev pub struct_of : Members → Option Body
struct_of (members.Struct fs) = Some (body.Struct fs)
struct_of _ = None

abbrev pub closed : Option Body → Frame → Open → Taken
closed (Some content) g fs = Ok (with_value content g ∷ fs)
closed None g fs = Err fault.BadToken

-- a container that ended is a value of the one around it
abbrev pub close : (Members → Option Body) → Frame → Open → Taken
close content f [] = Err fault.BadToken
close content f (g ∷ fs) = if may_close f.last then closed (content f.members) g fs else Err fault.BadToken

-- ---- one token more

abbrev pub put : ℕ → Token → Frame → Open → Taken
put depth (token.Scalar s) f fs = add (body_of s) f fs
put depth (token.Symbol text quoted) f fs = symbol text quoted f fs
put depth (token.Operator text) f fs = operator text f.members f fs
put depth (token.String text) f fs = string text f fs
put depth (token.Segment text) f fs = segment text f.last f fs
put depth token.ListOpen f fs = begin depth (members.List []) f fs
put depth token.SexpOpen f fs = begin depth (members.Sexp []) f fs
put depth token.StructOpen f fs = begin_struct depth f fs
put depth token.ListClose f fs = close list_of f fs
put depth token.SexpClose f fs = close sexp_of f fs
put depth token.StructClose f fs = close struct_of f fs
put depth token.Comma f fs = comma f fs
put depth token.Colon f fs = colon f.last f fs
put depth token.DoubleColon f fs = annotate f.last f fs

abbrev pub accept : ℕ → Open → Token → Taken
accept depth [] t = Err fault.BadToken
accept depth (f ∷ fs) t = put depth t (before t f) fs
