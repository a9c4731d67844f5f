-- How a reader goes over the tokens of what was written: the open container that each of them leaves.
use Rattle.std.proofs.Common.{◌≡◌, ◌+◌, ◌<◌, ◌&&◌, ℕ, Bool, true, false, not, List, [], ◌∷◌, ◌++◌, length, Option, Some, Ok, refl, ap, ◌∙◌, inl, inr}
use Rattle.std.specs.Prelude.{codes}
use Rattle.std.specs.Str.{bytes_eq}
use Rattle.std.proofs.Math.Bool.{or-false}
use Rattle.std.proofs.lemmas.Bool.{cases_Bool, and_right, cond-false, lt-leb}
use Rattle.std.proofs.lemmas.Slice.Eq.{bytes_eq-Decides}
use Rattle.ion_values.specs.declared.value.Value.{Value}
use Rattle.ion_values.specs.declared.value.Field.{Field}
use Rattle.ion_values.specs.declared.value.Body.{Body}
use Rattle.ion_values.specs.declared.value.Body.TheVariants as body
use Rattle.ion_model.specs.Quoted.{is_bare}
use Rattle.ion_model.specs.Blanks.{begins}
use Rattle.ion_model.specs.Lex.{lex}
use Rattle.ion_model.specs.Table as table
use Rattle.ion_model.specs.Table.{Open}
use Rattle.ion_model.specs.Read.{run, go_on}
use Rattle.ion_model.specs.declared.Scalar.{Scalar}
use Rattle.ion_model.specs.declared.Token.{Token}
use Rattle.ion_model.specs.declared.Token.TheVariants as token
use Rattle.ion_model.specs.declared.Members.{Members}
use Rattle.ion_model.specs.declared.Members.TheVariants as members
use Rattle.ion_model.specs.declared.Last.TheVariants as last
use Rattle.ion_model.specs.declared.Frame.{Frame}
use Rattle.ion_model.specs.declared.Lexed.TheVariants as lexed
use Rattle.ion_text.specs.RoundTrip.{ReadsBefore}
use Rattle.ion_text.proofs.TokenTurns.{token_turn}

-- ---- frames

-- a value may begin
pub record Ready (f : Frame) : Type 0 where
  pub begins : table.may_begin f.members f.last ≡ true
  pub no_name : table.may_name f.members f.last ≡ false
  pub no_table : f.is_table ≡ false

-- From `at` on the reader goes over the text z and comes to the rest of it; the frame f becomes one that is g once it is settled.
pub record Reads (depth at : ℕ) (f : Frame) (fs : Open) (z : List ℕ) (g : Frame) (rest : List ℕ) : Type 0 where
  pub to : ℕ
  pub frame : Frame
  pub settles : table.settled frame ≡ g
  pub run : run depth 0 at (f ∷ fs) z ≡ run depth 0 to (frame ∷ fs) rest

-- ---- values of one token

added : (content : Body) (f : Frame) (fs : Open) → Ready f → table.add content f fs ≡ Ok (table.with_value content f ∷ fs)
added content f fs h = rw (h.begins) refl

pub scalar_turn :
    (depth at : ℕ) (f : Frame) (fs : Open) (text rest : List ℕ) (s : Scalar) → Ready (table.settled f) → ReadsBefore rest text (token.Scalar s) →
    Reads depth at f fs (text ++ rest) (table.with_value (table.body_of s) (table.settled f)) rest
scalar_turn depth at f fs text rest s h reads = record {
  to = at + length text;
  frame = table.with_value (table.body_of s) (table.settled f);
  settles = refl;
  run =
      token_turn depth at (f ∷ fs) text rest (token.Scalar s) reads
      ∙ ap (go_on at (λ gs. run depth 0 (at + length text) gs rest)) (added (table.body_of s) (table.settled f) fs h);
}

-- ---- symbols and strings

-- a text that is written without quotes begins with no `$`
dollar_quoted : (text more : List ℕ) → text ≡ 36 ∷ more → is_bare text ≡ false
dollar_quoted text more e = rw e refl

-- so it is neither of the symbols that have a meaning there
no_meaning : (text word : List ℕ) (more : List ℕ) → word ≡ 36 ∷ more → (not (not (is_bare text)) && bytes_eq text word) ≡ false
no_meaning text word more e =
    elim (cases_Bool (bytes_eq text word)) [
      | inl is ↦ let quoted : is_bare text ≡ false = dollar_quoted text more ((bytes_eq-Decides text word).0 is ∙ e) in rw quoted refl
      | inr other ↦ and_right (not (not (is_bare text))) (bytes_eq text word) other
    ]

no_marker : (text : List ℕ) (names : List (List ℕ)) (ms : Members) → table.is_marker text (not (is_bare text)) names ms ≡ false
no_marker text [] (members.Stream vs) = no_meaning text (codes "$ion_1_0") (codes "ion_1_0") refl
no_marker text [] (members.List vs) = refl
no_marker text [] (members.Sexp vs) = refl
no_marker text [] (members.Struct fs) = refl
no_marker text (name ∷ names) ms = refl

no_table : (text : List ℕ) → table.names_table text (not (is_bare text)) ≡ false
no_table text = no_meaning text (codes "$ion_symbol_table") (codes "ion_symbol_table") refl

-- a symbol that may be an annotation still
abbrev pending : List ℕ → Frame → Frame
pending text f = table.then_last (last.Symbol text (not (is_bare text))) f

symbol_added : (text : List ℕ) (f : Frame) (fs : Open) → Ready f → table.symbol text (not (is_bare text)) f fs ≡ Ok (pending text f ∷ fs)
symbol_added text f fs h = rw (h.no_name, h.begins) refl

symbol_settles : (text : List ℕ) (f : Frame) → table.settled (pending text f) ≡ table.with_value (body.Symbol text) f
symbol_settles text f = rw (no_marker text f.annotations f.members) refl

pub symbol_turn :
    (depth at : ℕ) (f : Frame) (fs : Open) (text rest : List ℕ) (t : List ℕ) → Ready (table.settled f) → ReadsBefore rest text (token.Symbol t (not (is_bare t))) →
    Reads depth at f fs (text ++ rest) (table.with_value (body.Symbol t) (table.settled f)) rest
symbol_turn depth at f fs text rest t h reads = record {
  to = at + length text;
  frame = pending t (table.settled f);
  settles = symbol_settles t (table.settled f);
  run =
      token_turn depth at (f ∷ fs) text rest (token.Symbol t (not (is_bare t))) reads
      ∙ ap (go_on at (λ gs. run depth 0 (at + length text) gs rest)) (symbol_added t (table.settled f) fs h);
}

string_added : (text : List ℕ) (f : Frame) (fs : Open) → Ready f → table.string text f fs ≡ Ok (table.with_value (body.String text) f ∷ fs)
string_added text f fs h = rw (h.no_name, h.begins) refl

pub string_turn :
    (depth at : ℕ) (f : Frame) (fs : Open) (text rest : List ℕ) (t : List ℕ) → Ready (table.settled f) → ReadsBefore rest text (token.String t) →
    Reads depth at f fs (text ++ rest) (table.with_value (body.String t) (table.settled f)) rest
string_turn depth at f fs text rest t h reads = record {
  to = at + length text;
  frame = table.with_value (body.String t) (table.settled f);
  settles = refl;
  run =
      token_turn depth at (f ∷ fs) text rest (token.String t) reads
      ∙ ap (go_on at (λ gs. run depth 0 (at + length text) gs rest)) (string_added t (table.settled f) fs h);
}

-- ---- annotations

-- with one annotation more
abbrev pub noted : List ℕ → Frame → Frame
noted text f = record { members = f.members; name = f.name; annotations = f.annotations ++ text ∷ []; is_table = f.is_table; last = last.Annotation }

begins_noted : (ms : Members) → table.may_begin ms last.Annotation ≡ true
begins_noted (members.Stream vs) = refl
begins_noted (members.List vs) = refl
begins_noted (members.Sexp vs) = refl
begins_noted (members.Struct fs) = refl

no_name_noted : (ms : Members) → table.may_name ms last.Annotation ≡ false
no_name_noted (members.Stream vs) = refl
no_name_noted (members.List vs) = refl
no_name_noted (members.Sexp vs) = refl
no_name_noted (members.Struct fs) = refl

pub ready_noted : (text : List ℕ) (f : Frame) → Ready f → Ready (noted text f)
ready_noted text f h = record { begins = begins_noted f.members; no_name = no_name_noted f.members; no_table = h.no_table }

annotated : (text : List ℕ) (f : Frame) → Ready f → table.annotated text (not (is_bare text)) (pending text f) ≡ noted text f
annotated text f h = rw (no_table text, or-false f.is_table) refl

pub annotation_turn :
    (depth at : ℕ) (f : Frame) (fs : Open) (text rest : List ℕ) (t : List ℕ) → Ready (table.settled f) →
    ReadsBefore (58 ∷ 58 ∷ rest) text (token.Symbol t (not (is_bare t))) →
    Reads depth at f fs (text ++ 58 ∷ 58 ∷ rest) (noted t (table.settled f)) rest
unfolding lex
annotation_turn depth at f fs text rest t h reads =
    record {
      to = at + length text + 2;
      frame = noted t (table.settled f);
      settles = refl;
      run =
          token_turn depth at (f ∷ fs) text (58 ∷ 58 ∷ rest) (token.Symbol t (not (is_bare t))) reads
          ∙ ap (go_on at (λ gs. run depth 0 (at + length text) gs (58 ∷ 58 ∷ rest))) (symbol_added t (table.settled f) fs h)
          ∙ token_turn depth (at + length text) (pending t (table.settled f) ∷ fs) (58 ∷ 58 ∷ []) rest token.DoubleColon refl
          ∙ ap (λ g. run depth 0 (at + length text + 2) (g ∷ fs) rest) (annotated t (table.settled f) h);
    }

-- ---- marks of one byte

mark_turn :
    (depth at : ℕ) (fs gs : Open) (b : ℕ) (rest : List ℕ) (t : Token) → ReadsBefore rest (b ∷ []) t → table.accept depth fs t ≡ Ok gs →
    run depth 0 at fs (b ∷ rest) ≡ run depth 0 (at + 1) gs rest
mark_turn depth at fs gs b rest t reads takes = token_turn depth at fs (b ∷ []) rest t reads ∙ ap (go_on at (λ hs. run depth 0 (at + 1) hs rest)) takes

begun : (depth : ℕ) (ms : Members) (f : Frame) (fs : Open) → Ready f → length fs < depth → table.begin depth ms f fs ≡ Ok (table.opened ms ∷ f ∷ fs)
begun depth ms f fs h room = rw (lt-leb depth (length fs) room, h.begins) refl

no_symbol_table : (is_table : Bool) (ms : Members) → is_table ≡ false → table.is_symbol_table is_table ms ≡ false
no_symbol_table is_table (members.Stream vs) h = h
no_symbol_table is_table (members.List vs) h = refl
no_symbol_table is_table (members.Sexp vs) h = refl
no_symbol_table is_table (members.Struct fs) h = refl

begun_struct : (depth : ℕ) (f : Frame) (fs : Open) → Ready f → length fs < depth → table.begin_struct depth f fs ≡ Ok (table.opened (members.Struct []) ∷ f ∷ fs)
begun_struct depth f fs h room = cond-false _ _ _ (no_symbol_table f.is_table f.members h.no_table) ∙ begun depth (members.Struct []) f fs h room

pub list_opens :
    (depth at : ℕ) (f : Frame) (fs : Open) (rest : List ℕ) → Ready (table.settled f) → length fs < depth →
    run depth 0 at (f ∷ fs) (91 ∷ rest) ≡ run depth 0 (at + 1) (table.opened (members.List []) ∷ table.settled f ∷ fs) rest
unfolding lex
list_opens depth at f fs rest h room = mark_turn depth at (f ∷ fs) _ 91 rest token.ListOpen refl (begun depth (members.List []) (table.settled f) fs h room)

pub sexp_opens :
    (depth at : ℕ) (f : Frame) (fs : Open) (rest : List ℕ) → Ready (table.settled f) → length fs < depth →
    run depth 0 at (f ∷ fs) (40 ∷ rest) ≡ run depth 0 (at + 1) (table.opened (members.Sexp []) ∷ table.settled f ∷ fs) rest
unfolding lex
sexp_opens depth at f fs rest h room = mark_turn depth at (f ∷ fs) _ 40 rest token.SexpOpen refl (begun depth (members.Sexp []) (table.settled f) fs h room)

-- a second brace would begin a clob or a blob
pub struct_opens :
    (depth at : ℕ) (f : Frame) (fs : Open) (rest : List ℕ) → Ready (table.settled f) → length fs < depth → begins (codes "{") rest ≡ false →
    run depth 0 at (f ∷ fs) (123 ∷ rest) ≡ run depth 0 (at + 1) (table.opened (members.Struct []) ∷ table.settled f ∷ fs) rest
unfolding lex
struct_opens depth at f fs rest h room apart =
    let reads : lex (123 ∷ rest) ≡ lexed.Token token.StructOpen 0 = rw apart refl in
    mark_turn depth at (f ∷ fs) _ 123 rest token.StructOpen reads (begun_struct depth (table.settled f) fs h room)

-- ---- the ends of containers

-- a container that may end, with these members
pub record Ends (ms : Members) (g : Frame) : Type 0 where
  pub members : (table.settled g).members ≡ ms
  pub closes : table.may_close (table.settled g).last ≡ true

ended :
    (content : Members → Option Body) (ms : Members) (c : Body) (g f : Frame) (fs : Open) → Ends ms g → content ms ≡ Some c →
    table.close content (table.settled g) (f ∷ fs) ≡ Ok (table.with_value c f ∷ fs)
ended content ms c g f fs h is = rw (h.closes, h.members, is) refl

pub list_ends :
    (depth at : ℕ) (g f : Frame) (fs : Open) (vs : List Value) (rest : List ℕ) → Ends (members.List vs) g →
    run depth 0 at (g ∷ f ∷ fs) (93 ∷ rest) ≡ run depth 0 (at + 1) (table.with_value (body.List vs) f ∷ fs) rest
unfolding lex
list_ends depth at g f fs vs rest h = mark_turn depth at (g ∷ f ∷ fs) _ 93 rest token.ListClose refl (ended table.list_of (members.List vs) (body.List vs) g f fs h refl)

pub sexp_ends :
    (depth at : ℕ) (g f : Frame) (fs : Open) (vs : List Value) (rest : List ℕ) → Ends (members.Sexp vs) g →
    run depth 0 at (g ∷ f ∷ fs) (41 ∷ rest) ≡ run depth 0 (at + 1) (table.with_value (body.Sexp vs) f ∷ fs) rest
unfolding lex
sexp_ends depth at g f fs vs rest h = mark_turn depth at (g ∷ f ∷ fs) _ 41 rest token.SexpClose refl (ended table.sexp_of (members.Sexp vs) (body.Sexp vs) g f fs h refl)

pub struct_ends :
    (depth at : ℕ) (g f : Frame) (fs : Open) (ms : List Field) (rest : List ℕ) → Ends (members.Struct ms) g →
    run depth 0 at (g ∷ f ∷ fs) (125 ∷ rest) ≡ run depth 0 (at + 1) (table.with_value (body.Struct ms) f ∷ fs) rest
unfolding lex
struct_ends depth at g f fs ms rest h = mark_turn depth at (g ∷ f ∷ fs) _ 125 rest token.StructClose refl (ended table.struct_of (members.Struct ms) (body.Struct ms) g f fs h refl)

-- ---- between members

-- an open container with these members, behind the last of them
abbrev pub filled : Members → Frame
filled ms = record { members = ms; name = []; annotations = []; is_table = false; last = last.Value }

comma_taken : (ms : Members) (f : Frame) (fs : Open) → f ≡ filled ms → table.may_comma ms last.Value ≡ true → table.comma f fs ≡ Ok (table.then_last last.Comma (filled ms) ∷ fs)
comma_taken ms f fs is may = rw (is, may) refl

pub comma_turn :
    (depth at : ℕ) (f : Frame) (fs : Open) (ms : Members) (rest : List ℕ) → table.settled f ≡ filled ms → table.may_comma ms last.Value ≡ true →
    run depth 0 at (f ∷ fs) (44 ∷ rest) ≡ run depth 0 (at + 1) (table.then_last last.Comma (filled ms) ∷ fs) rest
unfolding lex
comma_turn depth at f fs ms rest is may = mark_turn depth at (f ∷ fs) _ 44 rest token.Comma refl (comma_taken ms (table.settled f) fs is may)

pub space_turn : (depth at : ℕ) (fs : Open) (rest : List ℕ) → run depth 0 at fs (32 ∷ rest) ≡ run depth 0 (at + 1) fs rest
unfolding lex
space_turn depth at fs rest = refl

-- ---- names of fields

-- with the name and the colon of the field whose value comes next
abbrev pub called : List ℕ → Frame → Frame
called name f = table.then_last last.Colon (table.named name last.Name f)

named : (name : List ℕ) (quoted : Bool) (f : Frame) (fs : Open) → table.may_name f.members f.last ≡ true → table.symbol name quoted f fs ≡ Ok (table.named name last.Name f ∷ fs)
named name quoted f fs h = rw h refl

pub name_turn :
    (depth at : ℕ) (f : Frame) (fs : Open) (text name : List ℕ) (quoted : Bool) (rest : List ℕ) → table.may_name (table.settled f).members (table.settled f).last ≡ true →
    ReadsBefore (58 ∷ rest) text (token.Symbol name quoted) → begins (codes ":") rest ≡ false →
    run depth 0 at (f ∷ fs) (text ++ 58 ∷ rest) ≡ run depth 0 (at + length text + 1) (called name (table.settled f) ∷ fs) rest
unfolding lex
name_turn depth at f fs text name quoted rest h reads apart =
    let colon : lex (58 ∷ rest) ≡ lexed.Token token.Colon 0 = rw apart refl in
    token_turn depth at (f ∷ fs) text (58 ∷ rest) (token.Symbol name quoted) reads
    ∙ ap (go_on at (λ gs. run depth 0 (at + length text) gs (58 ∷ rest))) (named name quoted (table.settled f) fs h)
    ∙ mark_turn depth (at + length text) (table.named name last.Name (table.settled f) ∷ fs) _ 58 rest token.Colon colon refl
