-- The values that a text gives are within their ranges: each token is, and what stands in open containers stays so.
use Rattle.std.proofs.Common.{◌≡◌, ◌+◌, ◌&&◌, ℕ, zero, suc, Bool, true, false, nat_le, List, [], ◌∷◌, ◌++◌, map, length, Option, Some, None, Ok, Err, refl, ap, subst, ◌∙◌, rules}
use Rattle.std.specs.List.{list_all}
use Rattle.std.specs.Str.{is_utf8}
use Rattle.std.proofs.lemmas.Bool.{and_from, cond_both}
use Rattle.std.proofs.lemmas.List.Folds.{list_all-append}
use Rattle.std.proofs.lemmas.Str.{IsUtf8-append, IsUtf8-from_is_utf8, IsUtf8-nil}
use Rattle.ion_values.specs.Within as within
use Rattle.ion_values.specs.Within.{all_true, field_within, text_within}
use Rattle.ion_values.specs.declared.value.Value.{Value}
use Rattle.ion_values.specs.declared.value.Field.{Field}
use Rattle.ion_values.specs.declared.value.Body.{Body}
use Rattle.ion_values.specs.declared.value.Body.TheVariants as body
use Rattle.ion_values.specs.declared.value.Body.TheFolds.{the_lemmas}
use Rattle.ion_model.specs.Lex.{lex}
use Rattle.ion_model.specs.Table as table
use Rattle.ion_model.specs.Table.{Open, Taken}
use Rattle.ion_model.specs.Read.{Answer, may_end, values_of, finish, go_on, turn, run, read_text}
use Rattle.ion_model.specs.declared.Scalar.{Scalar}
use Rattle.ion_model.specs.declared.Scalar.TheVariants as scalar
use Rattle.ion_model.specs.declared.Token.{Token}
use Rattle.ion_model.specs.declared.Token.TheVariants as token
use Rattle.ion_model.specs.declared.Members.{Members}
use Rattle.ion_model.specs.declared.Members.TheVariants as members
use Rattle.ion_model.specs.declared.Last.{Last}
use Rattle.ion_model.specs.declared.Last.TheVariants as last
use Rattle.ion_model.specs.declared.Frame.{Frame}
use Rattle.ion_model.specs.declared.Lexed.{Lexed}
use Rattle.ion_model.specs.declared.Lexed.TheVariants as lexed
use Rattle.ion_text.proofs.ReadBack.{body_within, within_of_field, within_of_value}
use Rattle.ion_text.proofs.WrittenTexts.{utf8_within}
use Rattle.ion_text.proofs.TokensWithin.{LexedWithin, lex_within, scalar_within, text_from, token_within}

-- ---- values

at_scalar : (s : Scalar) → body_within (table.body_of s) ≡ scalar_within s
at_scalar (scalar.Null k) = search (rules, the_lemmas)
at_scalar (scalar.Bool b) = search (rules, the_lemmas)
at_scalar (scalar.Int i) = search (rules, the_lemmas)
at_scalar (scalar.Decimal d) = search (rules, the_lemmas)
at_scalar (scalar.Timestamp t) = search (rules, the_lemmas)
at_scalar (scalar.Clob bytes) = search (rules, the_lemmas)
at_scalar (scalar.Blob bytes) = search (rules, the_lemmas)

at_symbol : (text : List ℕ) → body_within (body.Symbol text) ≡ text_within text
at_symbol text = search (rules, the_lemmas)

at_string : (text : List ℕ) → body_within (body.String text) ≡ text_within text
at_string text = search (rules, the_lemmas)

at_list : (vs : List Value) → body_within (body.List vs) ≡ all_true (map within.within vs)
at_list vs = search (rules, the_lemmas)

at_sexp : (vs : List Value) → body_within (body.Sexp vs) ≡ all_true (map within.within vs)
at_sexp vs = search (rules, the_lemmas)

at_struct : (fs : List Field) → body_within (body.Struct fs) ≡ all_true (map field_within fs)
at_struct fs = search (rules, the_lemmas)

list_all_mapped : {X : Type 0} (p : X → Bool) (xs : List X) → all_true (map p xs) ≡ list_all p xs
list_all_mapped p [] = refl
list_all_mapped p (x ∷ xs) = ap (λ b. p x && b) (list_all_mapped p xs)

one_more : {X : Type 0} (p : X → Bool) (xs : List X) (x : X) → list_all p xs ≡ true → p x ≡ true → list_all p (xs ++ x ∷ []) ≡ true
one_more p xs x h k = rw (list_all-append p xs (x ∷ []), h, k) refl

-- segments, one behind the other
joined_within : (text more : List ℕ) → text_within text ≡ true → text_within more ≡ true → text_within (text ++ more) ≡ true
joined_within text more h k =
    text_from (text ++ more) (IsUtf8-append text more (IsUtf8-from_is_utf8 text (utf8_within text h)) (IsUtf8-from_is_utf8 more (utf8_within more k)))

-- ---- open containers

abbrev pub MembersWithin : Members → Type 0
MembersWithin (members.Stream vs) = list_all within.within vs ≡ true
MembersWithin (members.List vs) = list_all within.within vs ≡ true
MembersWithin (members.Sexp vs) = list_all within.within vs ≡ true
MembersWithin (members.Struct fs) = list_all field_within fs ≡ true

-- a symbol or a long string that may become a member
abbrev pub LastWithin : Last → Type 0
LastWithin (last.Symbol text quoted) = text_within text ≡ true
LastWithin (last.LongString text) = text_within text ≡ true
LastWithin _ = Unit {0}

pub record Fine (f : Frame) : Type 0 where
  pub members : MembersWithin f.members
  pub name : text_within f.name ≡ true
  pub annotations : list_all text_within f.annotations ≡ true
  pub last : LastWithin f.last

abbrev pub AllFine : Open → Type 0
AllFine [] = Unit {0}
AllFine (f ∷ fs) = Fine f × AllFine fs

abbrev pub FineTaken : Taken → Type 0
FineTaken (Ok fs) = AllFine fs
FineTaken (Err k) = Unit {0}

member_within : (name : List ℕ) (v : Value) (ms : Members) → text_within name ≡ true → within.within v ≡ true → MembersWithin ms → MembersWithin (table.with_member name v ms)
member_within name v (members.Stream vs) n h k = one_more within.within vs v k h
member_within name v (members.List vs) n h k = one_more within.within vs v k h
member_within name v (members.Sexp vs) n h k = one_more within.within vs v k h
member_within name v (members.Struct fs) n h k = one_more field_within fs _ k (within_of_field (record { name = name; value = v }) ∙ and_from _ _ n h)

-- no name
empty_within : text_within [] ≡ true
empty_within = text_from [] IsUtf8-nil

-- a value more
valued : (content : Body) (f : Frame) → Fine f → body_within content ≡ true → Fine (table.with_value content f)
valued content f h k =
    let v : Value = record { annotations = f.annotations; body = content } in
    record {
      members = member_within f.name v f.members h.name (within_of_value v ∙ and_from _ _ h.annotations k) h.members;
      name = empty_within;
      annotations = refl;
      last = tt;
    }

then_fine : (l : Last) (f : Frame) → Fine f → LastWithin l → Fine (table.then_last l f)
then_fine l f h k = record { members = h.members; name = h.name; annotations = h.annotations; last = k }

named_fine : (text : List ℕ) (l : Last) (f : Frame) → Fine f → text_within text ≡ true → LastWithin l → Fine (table.named text l f)
named_fine text l f h n k = record { members = h.members; name = n; annotations = h.annotations; last = k }

-- what was read last is a value by itself
settle_fine : (l : Last) (f : Frame) → LastWithin l → Fine f → Fine (table.settle l f)
settle_fine (last.Symbol text quoted) f k h =
    cond_both (table.is_marker text quoted f.annotations f.members) (table.then_last last.Value f) (table.with_value (body.Symbol text) f) Fine
    (λ _. then_fine last.Value f h tt) (λ _. valued (body.Symbol text) f h (at_symbol text ∙ k))
settle_fine (last.LongString text) f k h = valued (body.String text) f h (at_string text ∙ k)
settle_fine last.Opening f k h = h
settle_fine last.Name f k h = h
settle_fine last.LongName f k h = h
settle_fine last.Colon f k h = h
settle_fine last.Annotation f k h = h
settle_fine last.Value f k h = h
settle_fine last.Comma f k h = h

settled_fine : (f : Frame) → Fine f → Fine (table.settled f)
settled_fine f h = settle_fine f.last f h.last h

before_fine : (t : Token) (f : Frame) → Fine f → Fine (table.before t f)
before_fine t f h = cond_both (table.continues t f.last) f (table.settled f) Fine (λ _. h) (λ _. settled_fine f h)

-- ---- one token more

-- a frame in place of the innermost one, where the token may come next
replaced : (may : Bool) (f : Frame) (fs : Open) → Fine f → AllFine fs → FineTaken (table.taken_if may f fs)
replaced may f fs h hs = cond_both may _ _ FineTaken (λ _. (h, hs)) (λ _. tt)

named_or_fine : (text : List ℕ) (l : Last) (value f : Frame) (fs : Open) → text_within text ≡ true → LastWithin l → Fine f → Fine value → AllFine fs → FineTaken (table.named_or text l value f fs)
named_or_fine text l value f fs n k h hv hs =
    cond_both (table.may_name f.members f.last) _ _ FineTaken (λ _. (named_fine text l f h n k, hs)) (λ _. replaced (table.may_begin f.members f.last) value fs hv hs)

symbol_taken : (text : List ℕ) (quoted : Bool) (f : Frame) (fs : Open) → text_within text ≡ true → Fine f → AllFine fs → FineTaken (table.symbol text quoted f fs)
symbol_taken text quoted f fs n h hs = named_or_fine text last.Name _ f fs n tt h (then_fine (last.Symbol text quoted) f h n) hs

operator_taken : (text : List ℕ) (ms : Members) (f : Frame) (fs : Open) → text_within text ≡ true → Fine f → AllFine fs → FineTaken (table.operator text ms f fs)
operator_taken text (members.Sexp vs) f fs n h hs = symbol_taken text false f fs n h hs
operator_taken text (members.Stream vs) f fs n h hs = tt
operator_taken text (members.List vs) f fs n h hs = tt
operator_taken text (members.Struct ms) f fs n h hs = tt

segment_taken : (more : List ℕ) (l : Last) (f : Frame) (fs : Open) → text_within more ≡ true → LastWithin l → Fine f → AllFine fs → FineTaken (table.segment more l f fs)
segment_taken more (last.LongString text) f fs n k h hs = (then_fine (last.LongString (text ++ more)) f h (joined_within text more k n), hs)
segment_taken more last.LongName f fs n k h hs = (named_fine (f.name ++ more) last.LongName f h (joined_within f.name more h.name n) tt, hs)
segment_taken more _ f fs n k h hs = named_or_fine more last.LongName _ f fs n tt h (then_fine (last.LongString more) f h n) hs

annotated_taken : (l : Last) (f : Frame) (fs : Open) → LastWithin l → Fine f → AllFine fs → FineTaken (table.annotate l f fs)
annotated_taken (last.Symbol text quoted) f fs k h hs =
    (record { members = h.members; name = h.name; annotations = one_more text_within f.annotations text h.annotations k; last = tt }, hs)
annotated_taken _ f fs k h hs = tt

colon_taken : (l : Last) (f : Frame) (fs : Open) → Fine f → AllFine fs → FineTaken (table.colon l f fs)
colon_taken last.Name f fs h hs = (then_fine last.Colon f h tt, hs)
colon_taken last.LongName f fs h hs = (then_fine last.Colon f h tt, hs)
colon_taken _ f fs h hs = tt

pub opened_fine : (ms : Members) → MembersWithin ms → Fine (table.opened ms)
opened_fine ms h = record { members = h; name = empty_within; annotations = refl; last = tt }

begun : (depth : ℕ) (ms : Members) (f : Frame) (fs : Open) → MembersWithin ms → Fine f → AllFine fs → FineTaken (table.begin depth ms f fs)
begun depth ms f fs k h hs =
    cond_both (nat_le depth (length fs)) _ _ FineTaken (λ _. tt) (λ _. replaced (table.may_begin f.members f.last) (table.opened ms) (f ∷ fs) (opened_fine ms k) (h, hs))

begun_struct : (depth : ℕ) (f : Frame) (fs : Open) → Fine f → AllFine fs → FineTaken (table.begin_struct depth f fs)
begun_struct depth f fs h hs =
    cond_both (table.is_symbol_table f.is_table f.members) _ _ FineTaken (λ _. tt) (λ _. begun depth (members.Struct []) f fs refl h hs)

abbrev BodyWithin : Option Body → Type 0
BodyWithin (Some content) = body_within content ≡ true
BodyWithin None = Unit {0}

closed_fine : (content : Option Body) (g : Frame) (fs : Open) → BodyWithin content → Fine g → AllFine fs → FineTaken (table.closed content g fs)
closed_fine (Some content) g fs k h hs = (valued content g h k, hs)
closed_fine None g fs k h hs = tt

-- the body that a container becomes is within where its members are
abbrev Ends : (Members → Option Body) → Type 0
Ends content = (ms : Members) → MembersWithin ms → BodyWithin (content ms)

list_ends : Ends table.list_of
list_ends (members.List vs) h = at_list vs ∙ list_all_mapped within.within vs ∙ h
list_ends (members.Stream vs) h = tt
list_ends (members.Sexp vs) h = tt
list_ends (members.Struct fs) h = tt

sexp_ends : Ends table.sexp_of
sexp_ends (members.Sexp vs) h = at_sexp vs ∙ list_all_mapped within.within vs ∙ h
sexp_ends (members.Stream vs) h = tt
sexp_ends (members.List vs) h = tt
sexp_ends (members.Struct fs) h = tt

struct_ends : Ends table.struct_of
struct_ends (members.Struct fs) h = at_struct fs ∙ list_all_mapped field_within fs ∙ h
struct_ends (members.Stream vs) h = tt
struct_ends (members.List vs) h = tt
struct_ends (members.Sexp vs) h = tt

close_taken : (content : Members → Option Body) (f : Frame) (fs : Open) → Ends content → Fine f → AllFine fs → FineTaken (table.close content f fs)
close_taken content f [] ends h hs = tt
close_taken content f (g ∷ fs) ends h hs =
    cond_both (table.may_close f.last) _ _ FineTaken (λ _. closed_fine (content f.members) g fs (ends f.members h.members) hs.0 hs.1) (λ _. tt)

put_taken : (depth : ℕ) (t : Token) (f : Frame) (fs : Open) → token_within t ≡ true → Fine f → AllFine fs → FineTaken (table.put depth t f fs)
put_taken depth (token.Scalar s) f fs k h hs = replaced (table.may_begin f.members f.last) _ fs (valued (table.body_of s) f h (at_scalar s ∙ k)) hs
put_taken depth (token.Symbol text quoted) f fs k h hs = symbol_taken text quoted f fs k h hs
put_taken depth (token.Operator text) f fs k h hs = operator_taken text f.members f fs k h hs
put_taken depth (token.String text) f fs k h hs = named_or_fine text last.Name _ f fs k tt h (valued (body.String text) f h (at_string text ∙ k)) hs
put_taken depth (token.Segment text) f fs k h hs = segment_taken text f.last f fs k h.last h hs
put_taken depth token.ListOpen f fs k h hs = begun depth (members.List []) f fs refl h hs
put_taken depth token.SexpOpen f fs k h hs = begun depth (members.Sexp []) f fs refl h hs
put_taken depth token.StructOpen f fs k h hs = begun_struct depth f fs h hs
put_taken depth token.ListClose f fs k h hs = close_taken table.list_of f fs list_ends h hs
put_taken depth token.SexpClose f fs k h hs = close_taken table.sexp_of f fs sexp_ends h hs
put_taken depth token.StructClose f fs k h hs = close_taken table.struct_of f fs struct_ends h hs
put_taken depth token.Comma f fs k h hs = replaced (table.may_comma f.members f.last) _ fs (then_fine last.Comma f h tt) hs
put_taken depth token.Colon f fs k h hs = colon_taken f.last f fs h hs
put_taken depth token.DoubleColon f fs k h hs = annotated_taken f.last f fs h.last h hs

pub accept_taken : (depth : ℕ) (fs : Open) (t : Token) → token_within t ≡ true → AllFine fs → FineTaken (table.accept depth fs t)
accept_taken depth [] t k h = tt
accept_taken depth (f ∷ fs) t k h = put_taken depth t (table.before t f) fs k (before_fine t f h.0) h.1

-- ---- the whole text

abbrev pub AnswerWithin : Answer → Type 0
AnswerWithin (Ok vs) = list_all within.within vs ≡ true
AnswerWithin (Err f) = Unit {0}

values_within : (at : ℕ) (ms : Members) → MembersWithin ms → AnswerWithin (values_of at ms)
values_within at (members.Stream vs) h = h
values_within at (members.List vs) h = tt
values_within at (members.Sexp vs) h = tt
values_within at (members.Struct fs) h = tt

pub finish_within : (at : ℕ) (fs : Open) → AllFine fs → AnswerWithin (finish at fs)
finish_within at [] h = tt
finish_within at (f ∷ []) h =
    cond_both (may_end (table.settled f).last) _ _ AnswerWithin (λ _. values_within at (table.settled f).members (settled_fine f h.0).members) (λ _. tt)
finish_within at (f ∷ g ∷ fs) h = tt

go_on_within : (at : ℕ) (rest : Open → Answer) (taken : Taken) → ((fs : Open) → AllFine fs → AnswerWithin (rest fs)) → FineTaken taken → AnswerWithin (go_on at rest taken)
go_on_within at rest (Ok fs) h k = h fs k
go_on_within at rest (Err why) h k = tt

turn_within :
    (depth at end : ℕ) (fs : Open) (rest : ℕ → Open → Answer) (l : Lexed) → LexedWithin l → AllFine fs → ((more : ℕ) (gs : Open) → AllFine gs → AnswerWithin (rest more gs)) →
    AnswerWithin (turn depth at end fs rest l)
turn_within depth at end fs rest (lexed.Blank more) l h k = k more fs h
turn_within depth at end fs rest (lexed.Token t more) l h k = go_on_within at (rest more) (table.accept depth fs t) (k more) (accept_taken depth fs t l h)
turn_within depth at end fs rest (lexed.Refused why) l h k = tt
turn_within depth at end fs rest lexed.Cut l h k = tt

run_within : (depth left at : ℕ) (fs : Open) (z : List ℕ) → AllFine fs → AnswerWithin (run depth left at fs z)
run_within depth left at fs [] h = finish_within at fs h
run_within depth (suc left) at fs (b ∷ z) h = run_within depth left (at + 1) fs z h
run_within depth zero at fs (b ∷ z) h =
    turn_within depth at _ fs (λ more gs. run depth more (at + 1) gs z) (lex (b ∷ z)) (lex_within (b ∷ z)) h (λ more gs k. run_within depth more (at + 1) gs z k)

answer_within : (depth : ℕ) (bytes : List ℕ) → AnswerWithin (read_text depth bytes)
unfolding read_text
answer_within depth bytes = cond_both (is_utf8 bytes) _ _ AnswerWithin (λ _. run_within depth 0 0 table.start bytes (opened_fine (members.Stream []) refl, tt)) (λ _. tt)

pub read_within : (depth : ℕ) (bytes : List ℕ) (values : List Value) → read_text depth bytes ≡ Ok values → list_all within.within values ≡ true
read_within depth bytes values h = subst AnswerWithin h (answer_within depth bytes)
