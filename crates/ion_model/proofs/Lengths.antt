-- No list of the values that a text gives is longer than the text: each token adds at most one member, and one annotation.
use Rattle.std.proofs.Common.{◌≡◌, ◌+◌, ◌<◌, ◌≤◌, ◌&&◌, ℕ, zero, suc, Bool, true, false, nat_le, List, [], ◌∷◌, ◌++◌, map, length, length-append, Option, Some, None, Ok, Err, if◌then◌else◌, refl, ap, ◌∙◌, rules, arith}
use Rattle.std.specs.List.{list_all}
use Rattle.std.proofs.lemmas.Bool.{le-leb}
use Rattle.std.proofs.lemmas.List.{length-map}
use Rattle.std.proofs.lemmas.List.Folds.{list_all-append}
use Rattle.ion_values.specs.Within.{all_true}
use Rattle.ion_values.specs.declared.fault.IonKind.TheVariants as fault
use Rattle.ion_values.specs.declared.value.Value.{Value}
use Rattle.ion_values.specs.declared.value.Field.{Field}
use Rattle.ion_values.specs.declared.value.Body.{Body}
use Rattle.ion_values.specs.declared.value.Body.TheVariants as body
use Rattle.ion_values.specs.declared.value.Body.TheFolds.{the_lemmas}
use Rattle.ion_model.specs.Lex.{lex}
use Rattle.ion_model.specs.Short.{is_short, body_short, field_short, all_short}
use Rattle.ion_model.specs.Table as table
use Rattle.ion_model.specs.Table.{Open, Taken}
use Rattle.ion_model.specs.Read.{Answer, refused, may_end, values_of, finish, go_on, turn, run, read_utf8}
use Rattle.ion_model.specs.declared.Scalar.{Scalar}
use Rattle.ion_model.specs.declared.Scalar.TheVariants as scalar
use Rattle.ion_model.specs.declared.Token.{Token}
use Rattle.ion_model.specs.declared.Token.TheVariants as token
use Rattle.ion_model.specs.declared.Members.{Members}
use Rattle.ion_model.specs.declared.Members.TheVariants as members
use Rattle.ion_model.specs.declared.Last.{Last}
use Rattle.ion_model.specs.declared.Last.TheVariants as last
use Rattle.ion_model.specs.declared.Frame.{Frame}
use Rattle.ion_model.specs.declared.Lexed.{Lexed}
use Rattle.ion_model.specs.declared.Lexed.TheVariants as lexed

both : (a b : Bool) → a ≡ true → b ≡ true → (a && b) ≡ true
both a b h k = rw (h, k) refl

either : (P : Taken → Type 0) (b : Bool) (x y : Taken) → P x → P y → P (if b then x else y)
either P true x y px py = px
either P false x y px py = py

-- ---- values

at_value : (n : ℕ) (names : List (List ℕ)) (b : Body) → is_short n (record { annotations = names; body = b }) ≡ (nat_le (length names) n && body_short n b)
at_value n names b = search (rules, the_lemmas)

at_field : (n : ℕ) (name : List ℕ) (v : Value) → field_short n (record { name = name; value = v }) ≡ is_short n v
at_field n name v = search (rules, the_lemmas)

at_list : (n : ℕ) (vs : List Value) → body_short n (body.List vs) ≡ (nat_le (length (map (is_short n) vs)) n && all_true (map (is_short n) vs))
at_list n vs = search (rules, the_lemmas)

at_sexp : (n : ℕ) (vs : List Value) → body_short n (body.Sexp vs) ≡ (nat_le (length (map (is_short n) vs)) n && all_true (map (is_short n) vs))
at_sexp n vs = search (rules, the_lemmas)

at_struct : (n : ℕ) (fs : List Field) → body_short n (body.Struct fs) ≡ (nat_le (length (map (field_short n) fs)) n && all_true (map (field_short n) fs))
at_struct n fs = search (rules, the_lemmas)

scalar_short : (n : ℕ) (s : Scalar) → body_short n (table.body_of s) ≡ true
scalar_short n (scalar.Null k) = search (rules, the_lemmas)
scalar_short n (scalar.Bool b) = search (rules, the_lemmas)
scalar_short n (scalar.Int i) = search (rules, the_lemmas)
scalar_short n (scalar.Decimal d) = search (rules, the_lemmas)
scalar_short n (scalar.Timestamp t) = search (rules, the_lemmas)
scalar_short n (scalar.Clob bytes) = search (rules, the_lemmas)
scalar_short n (scalar.Blob bytes) = search (rules, the_lemmas)

symbol_short : (n : ℕ) (text : List ℕ) → body_short n (body.Symbol text) ≡ true
symbol_short n text = search (rules, the_lemmas)

string_short : (n : ℕ) (text : List ℕ) → body_short n (body.String text) ≡ true
string_short n text = search (rules, the_lemmas)

list_all_mapped : {X : Type 0} (p : X → Bool) (xs : List X) → all_true (map p xs) ≡ list_all p xs
list_all_mapped p [] = refl
list_all_mapped p (x ∷ xs) = ap (λ b. p x && b) (list_all_mapped p xs)

listed : {X : Type 0} (n : ℕ) (p : X → Bool) (xs : List X) → length xs ≤ n → list_all p xs ≡ true → (nat_le (length (map p xs)) n && all_true (map p xs)) ≡ true
listed n p xs h k = rw (length-map xs p, list_all_mapped p xs) (both _ _ (le-leb _ _ h) k)

one_more : {X : Type 0} (p : X → Bool) (xs : List X) (x : X) → list_all p xs ≡ true → p x ≡ true → list_all p (xs ++ x ∷ []) ≡ true
one_more p xs x h k = rw (list_all-append p xs (x ∷ []), h, k) refl

-- ---- members

abbrev count_of : Members → ℕ
count_of (members.Stream vs) = length vs
count_of (members.List vs) = length vs
count_of (members.Sexp vs) = length vs
count_of (members.Struct fs) = length fs

abbrev ShortMembers : ℕ → Members → Type 0
ShortMembers n (members.Stream vs) = list_all (is_short n) vs ≡ true
ShortMembers n (members.List vs) = list_all (is_short n) vs ≡ true
ShortMembers n (members.Sexp vs) = list_all (is_short n) vs ≡ true
ShortMembers n (members.Struct fs) = list_all (field_short n) fs ≡ true

more_members : (name : List ℕ) (v : Value) (ms : Members) → count_of (table.with_member name v ms) ≡ count_of ms + 1
more_members name v (members.Stream vs) = length-append vs (v ∷ [])
more_members name v (members.List vs) = length-append vs (v ∷ [])
more_members name v (members.Sexp vs) = length-append vs (v ∷ [])
more_members name v (members.Struct fs) = length-append fs (record { name = name; value = v } ∷ [])

short_with : (n : ℕ) (name : List ℕ) (v : Value) (ms : Members) → ShortMembers n ms → is_short n v ≡ true → ShortMembers n (table.with_member name v ms)
short_with n name v (members.Stream vs) h k = one_more (is_short n) vs v h k
short_with n name v (members.List vs) h k = one_more (is_short n) vs v h k
short_with n name v (members.Sexp vs) h k = one_more (is_short n) vs v h k
short_with n name v (members.Struct fs) h k = one_more (field_short n) fs _ h (at_field n name v ∙ k)

-- ---- open containers

-- a symbol or a long string that may become a member
abbrev waiting : Last → ℕ
waiting (last.Symbol text quoted) = 1
waiting (last.LongString text) = 1
waiting _ = 0

-- where `at` bytes were read, of a text of n bytes
record Fine (n at : ℕ) (f : Frame) : Type 0 where
  members : count_of f.members + waiting f.last ≤ at
  names : length f.annotations ≤ at
  short : ShortMembers n f.members

abbrev AllFine : ℕ → ℕ → Open → Type 0
AllFine n at [] = Unit {0}
AllFine n at (f ∷ fs) = Fine n at f × AllFine n at fs

abbrev FineTaken : ℕ → ℕ → Taken → Type 0
FineTaken n at (Ok fs) = AllFine n at fs
FineTaken n at (Err k) = Unit {0}

later : (n at : ℕ) (f : Frame) → Fine n at f → Fine n (at + 1) f
later n at f h = record { members = omega (arith, h.members); names = omega (arith, h.names); short = h.short }

all_later : (n at : ℕ) (fs : Open) → AllFine n at fs → AllFine n (at + 1) fs
all_later n at [] h = tt
all_later n at (f ∷ fs) h = (later n at f h.0, all_later n at fs h.1)

-- a value more
valued : (n at : ℕ) (content : Body) (f : Frame) → at ≤ n → count_of f.members < at → length f.annotations ≤ n → ShortMembers n f.members → body_short n content ≡ true → Fine n at (table.with_value content f)
valued n at content f within room names short h =
    let v : is_short n (record { annotations = f.annotations; body = content }) ≡ true = at_value n f.annotations content ∙ both _ _ (le-leb _ _ names) h in
    record {
      members = omega (arith, more_members f.name (record { annotations = f.annotations; body = content }) f.members);
      names = omega arith;
      short = short_with n f.name _ f.members short v;
    }

-- what was read last is a value by itself
symbol_fine : (n at : ℕ) (text : List ℕ) (quoted : Bool) (f : Frame) → at ≤ n → count_of f.members < at → length f.annotations ≤ at → ShortMembers n f.members → Fine n at (table.symbol_settled text quoted f)
symbol_fine n at text quoted f within room names short =
    elim (table.is_marker text quoted f.annotations f.members) as (λ b. Fine n at (if b then table.then_last last.Value f else table.with_value (body.Symbol text) f)) [
      | true ↦ record { members = omega arith; names = names; short = short }
      | false ↦ valued n at (body.Symbol text) f within room (omega arith) short (symbol_short n text)
    ]

settle_fine : (n at : ℕ) (l : Last) (f : Frame) → at ≤ n → count_of f.members + waiting l ≤ at → length f.annotations ≤ at → ShortMembers n f.members → Fine n at f → Fine n at (table.settle l f)
settle_fine n at (last.Symbol text quoted) f within room names short h = symbol_fine n at text quoted f within (omega arith) names short
settle_fine n at (last.LongString text) f within room names short h = valued n at (body.String text) f within (omega arith) (omega arith) short (string_short n text)
settle_fine n at last.Opening f within room names short h = h
settle_fine n at last.Name f within room names short h = h
settle_fine n at last.LongName f within room names short h = h
settle_fine n at last.Colon f within room names short h = h
settle_fine n at last.Annotation f within room names short h = h
settle_fine n at last.Value f within room names short h = h
settle_fine n at last.Comma f within room names short h = h

settled_fine : (n at : ℕ) (f : Frame) → at ≤ n → Fine n at f → Fine n at (table.settled f)
settled_fine n at f within h = settle_fine n at f.last f within h.members h.names h.short h

before_fine : (n at : ℕ) (t : Token) (f : Frame) → at ≤ n → Fine n at f → Fine n at (table.before t f)
before_fine n at t f within h =
    elim (table.continues t f.last) as (λ b. Fine n at (if b then f else table.settled f)) [ true ↦ h | false ↦ settled_fine n at f within h ]

-- ---- one token more

module _ (n at : ℕ) (within : at < n) where
  abbrev FineNext : Taken → Type 0
  FineNext = FineTaken n (at + 1)

  -- a frame in place of the innermost one, where the token may come next
  replaced : (may : Bool) (f : Frame) (fs : Open) → Fine n (at + 1) f → AllFine n at fs → FineNext (table.taken_if may f fs)
  replaced may f fs h hs = either FineNext may (Ok (f ∷ fs)) _ (h, all_later n at fs hs) tt

  added : (content : Body) (f : Frame) → Fine n at f → body_short n content ≡ true → Fine n (at + 1) (table.with_value content f)
  added content f h k = valued n (at + 1) content f (omega arith) (omega (arith, h.members)) (omega (arith, h.names)) h.short k

  then_fine : (l : Last) (f : Frame) → Fine n at f → waiting l ≤ 1 → Fine n (at + 1) (table.then_last l f)
  then_fine l f h k = record { members = omega (arith, h.members); names = omega (arith, h.names); short = h.short }

  named_fine : (text : List ℕ) (l : Last) (f : Frame) → Fine n at f → waiting l ≤ 1 → Fine n (at + 1) (table.named text l f)
  named_fine text l f h k = record { members = omega (arith, h.members); names = omega (arith, h.names); short = h.short }

  named_or_fine : (text : List ℕ) (l : Last) (value f : Frame) (fs : Open) → waiting l ≤ 1 → Fine n at f → Fine n (at + 1) value → AllFine n at fs → FineNext (table.named_or text l value f fs)
  named_or_fine text l value f fs k h hv hs =
      either FineNext (table.may_name f.members f.last) (Ok (table.named text l f ∷ fs)) _ (named_fine text l f h k, all_later n at fs hs)
      (replaced (table.may_begin f.members f.last) value fs hv hs)

  symbol_taken : (text : List ℕ) (quoted : Bool) (f : Frame) (fs : Open) → Fine n at f → AllFine n at fs → FineNext (table.symbol text quoted f fs)
  symbol_taken text quoted f fs h hs = named_or_fine text last.Name _ f fs (omega arith) h (then_fine (last.Symbol text quoted) f h (omega arith)) hs

  operator_taken : (text : List ℕ) (ms : Members) (f : Frame) (fs : Open) → Fine n at f → AllFine n at fs → FineNext (table.operator text ms f fs)
  operator_taken text (members.Sexp vs) f fs h hs = symbol_taken text false f fs h hs
  operator_taken text (members.Stream vs) f fs h hs = tt
  operator_taken text (members.List vs) f fs h hs = tt
  operator_taken text (members.Struct ms) f fs h hs = tt

  segment_taken : (more : List ℕ) (l : Last) (f : Frame) (fs : Open) → Fine n at f → AllFine n at fs → FineNext (table.segment more l f fs)
  segment_taken more (last.LongString text) f fs h hs = (then_fine (last.LongString (text ++ more)) f h (omega arith), all_later n at fs hs)
  segment_taken more last.LongName f fs h hs = (named_fine (f.name ++ more) last.LongName f h (omega arith), all_later n at fs hs)
  segment_taken more _ f fs h hs = named_or_fine more last.LongName _ f fs (omega arith) h (then_fine (last.LongString more) f h (omega arith)) hs

  annotated_taken : (l : Last) (f : Frame) (fs : Open) → count_of f.members + waiting l ≤ at → Fine n at f → AllFine n at fs → FineNext (table.annotate l f fs)
  annotated_taken (last.Symbol text quoted) f fs room h hs =
      (record { members = omega (arith, room); names = omega (arith, h.names, length-append f.annotations (text ∷ [])); short = h.short }, all_later n at fs hs)
  annotated_taken _ f fs room h hs = tt

  colon_taken : (l : Last) (f : Frame) (fs : Open) → Fine n at f → AllFine n at fs → FineNext (table.colon l f fs)
  colon_taken last.Name f fs h hs = (then_fine last.Colon f h (omega arith), all_later n at fs hs)
  colon_taken last.LongName f fs h hs = (then_fine last.Colon f h (omega arith), all_later n at fs hs)
  colon_taken _ f fs h hs = tt

  begun : (depth : ℕ) (ms : Members) (f : Frame) (fs : Open) → count_of ms ≡ 0 → ShortMembers n ms → Fine n at f → AllFine n at fs → FineNext (table.begin depth ms f fs)
  begun depth ms f fs none short h hs =
      either FineNext (nat_le depth (length fs)) _ _ tt
      (replaced (table.may_begin f.members f.last) (table.opened ms) (f ∷ fs) (record { members = omega (arith, none); names = omega arith; short = short }) (h, hs))

  begun_struct : (depth : ℕ) (f : Frame) (fs : Open) → Fine n at f → AllFine n at fs → FineNext (table.begin_struct depth f fs)
  begun_struct depth f fs h hs =
      either FineNext (table.is_symbol_table f.is_table f.members) _ _ tt (begun depth (members.Struct []) f fs refl refl h hs)

  abbrev ShortBody : Option Body → Type 0
  ShortBody (Some content) = body_short n content ≡ true
  ShortBody None = Unit {0}

  closed_fine : (content : Option Body) (g : Frame) (fs : Open) → ShortBody content → Fine n at g → AllFine n at fs → FineNext (table.closed content g fs)
  closed_fine (Some content) g fs k h hs = (added content g h k, all_later n at fs hs)
  closed_fine None g fs k h hs = tt

  -- the body that a container becomes is as short as its members are
  abbrev Ends : (Members → Option Body) → Type 0
  Ends content = (ms : Members) → count_of ms ≤ n → ShortMembers n ms → ShortBody (content ms)

  list_ends : Ends table.list_of
  list_ends (members.List vs) h k = at_list n vs ∙ listed n (is_short n) vs h k
  list_ends (members.Stream vs) h k = tt
  list_ends (members.Sexp vs) h k = tt
  list_ends (members.Struct fs) h k = tt

  sexp_ends : Ends table.sexp_of
  sexp_ends (members.Sexp vs) h k = at_sexp n vs ∙ listed n (is_short n) vs h k
  sexp_ends (members.Stream vs) h k = tt
  sexp_ends (members.List vs) h k = tt
  sexp_ends (members.Struct fs) h k = tt

  struct_ends : Ends table.struct_of
  struct_ends (members.Struct fs) h k = at_struct n fs ∙ listed n (field_short n) fs h k
  struct_ends (members.Stream vs) h k = tt
  struct_ends (members.List vs) h k = tt
  struct_ends (members.Sexp vs) h k = tt

  close_taken : (content : Members → Option Body) (f : Frame) (fs : Open) → Ends content → Fine n at f → AllFine n at fs → FineNext (table.close content f fs)
  close_taken content f [] ends h hs = tt
  close_taken content f (g ∷ fs) ends h hs =
      either FineNext (table.may_close f.last) _ _ (closed_fine (content f.members) g fs (ends f.members (omega (arith, h.members)) h.short) hs.0 hs.1) tt

  put_taken : (depth : ℕ) (t : Token) (f : Frame) (fs : Open) → Fine n at f → AllFine n at fs → FineNext (table.put depth t f fs)
  put_taken depth (token.Scalar s) f fs h hs = replaced (table.may_begin f.members f.last) _ fs (added (table.body_of s) f h (scalar_short n s)) hs
  put_taken depth (token.Symbol text quoted) f fs h hs = symbol_taken text quoted f fs h hs
  put_taken depth (token.Operator text) f fs h hs = operator_taken text f.members f fs h hs
  put_taken depth (token.String text) f fs h hs = named_or_fine text last.Name _ f fs (omega arith) h (added (body.String text) f h (string_short n text)) hs
  put_taken depth (token.Segment text) f fs h hs = segment_taken text f.last f fs h hs
  put_taken depth token.ListOpen f fs h hs = begun depth (members.List []) f fs refl refl h hs
  put_taken depth token.SexpOpen f fs h hs = begun depth (members.Sexp []) f fs refl refl h hs
  put_taken depth token.StructOpen f fs h hs = begun_struct depth f fs h hs
  put_taken depth token.ListClose f fs h hs = close_taken table.list_of f fs list_ends h hs
  put_taken depth token.SexpClose f fs h hs = close_taken table.sexp_of f fs sexp_ends h hs
  put_taken depth token.StructClose f fs h hs = close_taken table.struct_of f fs struct_ends h hs
  put_taken depth token.Comma f fs h hs = replaced (table.may_comma f.members f.last) _ fs (then_fine last.Comma f h (omega arith)) hs
  put_taken depth token.Colon f fs h hs = colon_taken f.last f fs h hs
  put_taken depth token.DoubleColon f fs h hs = annotated_taken f.last f fs h.members h hs

  accept_taken : (depth : ℕ) (fs : Open) (t : Token) → AllFine n at fs → FineNext (table.accept depth fs t)
  accept_taken depth [] t h = tt
  accept_taken depth (f ∷ fs) t h = put_taken depth t (table.before t f) fs (before_fine n at t f (omega arith) h.0) h.1

-- ---- the whole text

abbrev pub ShortAnswer : ℕ → Answer → Type 0
ShortAnswer n (Ok vs) = all_short n vs ≡ true
ShortAnswer n (Err f) = Unit {0}

values_short : (n at : ℕ) (ms : Members) → count_of ms ≤ n → ShortMembers n ms → ShortAnswer n (values_of at ms)
values_short n at (members.Stream vs) h k = both _ _ (le-leb _ _ h) k
values_short n at (members.List vs) h k = tt
values_short n at (members.Sexp vs) h k = tt
values_short n at (members.Struct fs) h k = tt

finish_short : (n at : ℕ) (fs : Open) → at ≤ n → AllFine n at fs → ShortAnswer n (finish at fs)
finish_short n at [] within h = tt
finish_short n at (f ∷ []) within h =
    let done = settled_fine n at f within h.0 in
    let values = values_short n at (table.settled f).members (omega (arith, done.members)) done.short in
    elim (may_end (table.settled f).last) as (λ b. ShortAnswer n (if b then values_of at (table.settled f).members else refused at fault.Unclosed)) [ true ↦ values | false ↦ tt ]
finish_short n at (f ∷ g ∷ fs) within h = tt

go_on_short : (n at : ℕ) (rest : Open → Answer) (taken : Taken) → ((fs : Open) → AllFine n (at + 1) fs → ShortAnswer n (rest fs)) → FineTaken n (at + 1) taken → ShortAnswer n (go_on at rest taken)
go_on_short n at rest (Ok fs) h k = h fs k
go_on_short n at rest (Err why) h k = tt

turn_short :
    (n depth at end : ℕ) (fs : Open) (rest : ℕ → Open → Answer) (l : Lexed) → at < n → AllFine n at fs →
    ((more : ℕ) (gs : Open) → AllFine n (at + 1) gs → ShortAnswer n (rest more gs)) → ShortAnswer n (turn depth at end fs rest l)
turn_short n depth at end fs rest (lexed.Blank more) within h k = k more fs (all_later n at fs h)
turn_short n depth at end fs rest (lexed.Token t more) within h k = go_on_short n at (rest more) (table.accept depth fs t) (k more) (accept_taken n at within depth fs t h)
turn_short n depth at end fs rest (lexed.Refused why) within h k = tt
turn_short n depth at end fs rest lexed.Cut within h k = tt

run_short : (n depth left at : ℕ) (fs : Open) (z : List ℕ) → at + length z ≡ n → AllFine n at fs → ShortAnswer n (run depth left at fs z)
run_short n depth left at fs [] e h = finish_short n at fs (omega arith) h
run_short n depth (suc left) at fs (b ∷ z) e h = run_short n depth left (at + 1) fs z (omega arith) (all_later n at fs h)
run_short n depth zero at fs (b ∷ z) e h =
    turn_short n depth at _ fs (λ more gs. run depth more (at + 1) gs z) (lex (b ∷ z)) (omega arith) h
    (λ more gs k. run_short n depth more (at + 1) gs z (omega arith) k)

-- the values of a text that is UTF-8
pub utf8_short : (depth : ℕ) (bytes : List ℕ) → ShortAnswer (length bytes) (read_utf8 depth bytes)
utf8_short depth bytes =
    run_short (length bytes) depth 0 0 table.start bytes (omega arith) (record { members = omega arith; names = omega arith; short = refl }, tt)
