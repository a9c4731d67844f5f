-- The values that a text gives nest as deep at most as its reader lets containers nest: with k containers open around it, a member
-- nests at most as deep as is left.
use Rattle.std.proofs.Common.{◌≡◌, ◌+◌, ◌≤◌, ℕ, zero, suc, Bool, false, nat_le, List, [], ◌∷◌, ◌++◌, map, length, Option, Some, None, Ok, Err, subst, rules, arith}
use Rattle.std.specs.List.{AllByRecursion}
use Rattle.std.specs.Str.{is_utf8}
use Rattle.std.proofs.lemmas.Bool.{cond_both, leb-false}
use Rattle.ion_values.specs.Depth as depth
use Rattle.ion_values.specs.Depth.{deepest, depth_of, field_depth}
use Rattle.ion_values.specs.declared.value.Value.{Value}
use Rattle.ion_values.specs.declared.value.Field.{Field}
use Rattle.ion_values.specs.declared.value.Body.{Body}
use Rattle.ion_values.specs.declared.value.Body.TheVariants as body
use Rattle.ion_values.specs.declared.value.Body.TheFolds.{fold-Body, the_lemmas}
use Rattle.ion_model.specs.Lex.{lex}
use Rattle.ion_model.specs.Table as table
use Rattle.ion_model.specs.Table.{Open, Taken}
use Rattle.ion_model.specs.Read.{Answer, may_end, values_of, finish, go_on, turn, run, read_text}
use Rattle.ion_model.specs.declared.Scalar.{Scalar}
use Rattle.ion_model.specs.declared.Scalar.TheVariants as scalar
use Rattle.ion_model.specs.declared.Token.{Token}
use Rattle.ion_model.specs.declared.Token.TheVariants as token
use Rattle.ion_model.specs.declared.Members.{Members}
use Rattle.ion_model.specs.declared.Members.TheVariants as members
use Rattle.ion_model.specs.declared.Last.{Last}
use Rattle.ion_model.specs.declared.Last.TheVariants as last
use Rattle.ion_model.specs.declared.Frame.{Frame}
use Rattle.ion_model.specs.declared.Lexed.{Lexed}
use Rattle.ion_model.specs.declared.Lexed.TheVariants as lexed

-- ---- values

abbrev body_depth : Body → ℕ
body_depth = fold-Body ℕ ℕ ℕ depth.body_step (λ f. f.value) (λ v. v.body)

at_value : (names : List (List ℕ)) (b : Body) → depth_of (record { annotations = names; body = b }) ≡ body_depth b
at_value names b = search (rules, the_lemmas)

at_field : (name : List ℕ) (v : Value) → field_depth (record { name = name; value = v }) ≡ depth_of v
at_field name v = search (rules, the_lemmas)

at_list : (vs : List Value) → body_depth (body.List vs) ≡ deepest (map depth_of vs) + 1
at_list vs = search (rules, the_lemmas)

at_sexp : (vs : List Value) → body_depth (body.Sexp vs) ≡ deepest (map depth_of vs) + 1
at_sexp vs = search (rules, the_lemmas)

at_struct : (fs : List Field) → body_depth (body.Struct fs) ≡ deepest (map field_depth fs) + 1
at_struct fs = search (rules, the_lemmas)

at_scalar : (s : Scalar) → body_depth (table.body_of s) ≡ 0
at_scalar (scalar.Null k) = search (rules, the_lemmas)
at_scalar (scalar.Bool b) = search (rules, the_lemmas)
at_scalar (scalar.Int i) = search (rules, the_lemmas)
at_scalar (scalar.Decimal d) = search (rules, the_lemmas)
at_scalar (scalar.Timestamp t) = search (rules, the_lemmas)
at_scalar (scalar.Clob bytes) = search (rules, the_lemmas)
at_scalar (scalar.Blob bytes) = search (rules, the_lemmas)

at_symbol : (text : List ℕ) → body_depth (body.Symbol text) ≡ 0
at_symbol text = search (rules, the_lemmas)

at_string : (text : List ℕ) → body_depth (body.String text) ≡ 0
at_string text = search (rules, the_lemmas)

-- ---- members, with k containers open around them, of at most d

abbrev Each : {X : Type 0} → (X → ℕ) → ℕ → ℕ → List X → Type 0
Each f d k = AllByRecursion (λ x. f x + k ≤ d)

one_more : {X : Type 0} (f : X → ℕ) (d k : ℕ) (xs : List X) (x : X) → Each f d k xs → f x + k ≤ d → Each f d k (xs ++ x ∷ [])
one_more f d k [] x h e = (e, tt)
one_more f d k (y ∷ ys) x h e = (h.0, one_more f d k ys x h.1 e)

deepest_fits : {X : Type 0} (f : X → ℕ) (d k : ℕ) (xs : List X) → k ≤ d → Each f d k xs → deepest (map f xs) + k ≤ d
deepest_fits f d k [] within h = omega arith
deepest_fits f d k (x ∷ xs) within h = omega (arith, h.0, deepest_fits f d k xs within h.1)

abbrev ShallowMembers : ℕ → ℕ → Members → Type 0
ShallowMembers d k (members.Stream vs) = Each depth_of d k vs
ShallowMembers d k (members.List vs) = Each depth_of d k vs
ShallowMembers d k (members.Sexp vs) = Each depth_of d k vs
ShallowMembers d k (members.Struct fs) = Each field_depth d k fs

shallow_with : (d k : ℕ) (name : List ℕ) (v : Value) (ms : Members) → ShallowMembers d k ms → depth_of v + k ≤ d → ShallowMembers d k (table.with_member name v ms)
shallow_with d k name v (members.Stream vs) h e = one_more depth_of d k vs v h e
shallow_with d k name v (members.List vs) h e = one_more depth_of d k vs v h e
shallow_with d k name v (members.Sexp vs) h e = one_more depth_of d k vs v h e
shallow_with d k name v (members.Struct fs) h e = one_more field_depth d k fs _ h (omega (arith, at_field name v, e))

-- ---- open containers

record Fine (d k : ℕ) (f : Frame) : Type 0 where
  within : k ≤ d
  members : ShallowMembers d k f.members

-- a container has those around it open
abbrev AllFine : ℕ → Open → Type 0
AllFine d [] = Unit {0}
AllFine d (f ∷ fs) = Fine d (length fs) f × AllFine d fs

abbrev FineTaken : ℕ → Taken → Type 0
FineTaken d (Ok fs) = AllFine d fs
FineTaken d (Err k) = Unit {0}

then_fine : (d k : ℕ) (l : Last) (f : Frame) → Fine d k f → Fine d k (table.then_last l f)
then_fine d k l f h = record { within = h.within; members = h.members }

named_fine : (d k : ℕ) (text : List ℕ) (l : Last) (f : Frame) → Fine d k f → Fine d k (table.named text l f)
named_fine d k text l f h = record { within = h.within; members = h.members }

-- a value more
valued : (d k : ℕ) (content : Body) (f : Frame) → Fine d k f → body_depth content + k ≤ d → Fine d k (table.with_value content f)
valued d k content f h e =
    record { within = h.within; members = shallow_with d k f.name (record { annotations = f.annotations; body = content }) f.members h.members (omega (arith, at_value f.annotations content, e)) }

-- a value that is no container
plain : (d k : ℕ) (content : Body) (f : Frame) → Fine d k f → body_depth content ≡ 0 → Fine d k (table.with_value content f)
plain d k content f h e = valued d k content f h (omega (arith, e, h.within))

-- what was read last is a value by itself
settle_fine : (d k : ℕ) (l : Last) (f : Frame) → Fine d k f → Fine d k (table.settle l f)
settle_fine d k (last.Symbol text quoted) f h =
    cond_both (table.is_marker text quoted f.annotations f.members) (table.then_last last.Value f) (table.with_value (body.Symbol text) f) (Fine d k)
    (λ _. then_fine d k last.Value f h) (λ _. plain d k (body.Symbol text) f h (at_symbol text))
settle_fine d k (last.LongString text) f h = plain d k (body.String text) f h (at_string text)
settle_fine d k last.Opening f h = h
settle_fine d k last.Name f h = h
settle_fine d k last.LongName f h = h
settle_fine d k last.Colon f h = h
settle_fine d k last.Annotation f h = h
settle_fine d k last.Value f h = h
settle_fine d k last.Comma f h = h

settled_fine : (d k : ℕ) (f : Frame) → Fine d k f → Fine d k (table.settled f)
settled_fine d k f h = settle_fine d k f.last f h

before_fine : (d k : ℕ) (t : Token) (f : Frame) → Fine d k f → Fine d k (table.before t f)
before_fine d k t f h = cond_both (table.continues t f.last) f (table.settled f) (Fine d k) (λ _. h) (λ _. settled_fine d k f h)

-- ---- one token more

module _ (d : ℕ) where
  -- a frame in place of the innermost one, where the token may come next
  replaced : (may : Bool) (f : Frame) (fs : Open) → Fine d (length fs) f → AllFine d fs → FineTaken d (table.taken_if may f fs)
  replaced may f fs h hs = cond_both may _ _ (FineTaken d) (λ _. (h, hs)) (λ _. tt)

  named_or_fine : (text : List ℕ) (l : Last) (value f : Frame) (fs : Open) → Fine d (length fs) f → Fine d (length fs) value → AllFine d fs → FineTaken d (table.named_or text l value f fs)
  named_or_fine text l value f fs h hv hs =
      cond_both (table.may_name f.members f.last) _ _ (FineTaken d) (λ _. (named_fine d (length fs) text l f h, hs)) (λ _. replaced (table.may_begin f.members f.last) value fs hv hs)

  symbol_taken : (text : List ℕ) (quoted : Bool) (f : Frame) (fs : Open) → Fine d (length fs) f → AllFine d fs → FineTaken d (table.symbol text quoted f fs)
  symbol_taken text quoted f fs h hs = named_or_fine text last.Name _ f fs h (then_fine d (length fs) (last.Symbol text quoted) f h) hs

  operator_taken : (text : List ℕ) (ms : Members) (f : Frame) (fs : Open) → Fine d (length fs) f → AllFine d fs → FineTaken d (table.operator text ms f fs)
  operator_taken text (members.Sexp vs) f fs h hs = symbol_taken text false f fs h hs
  operator_taken text (members.Stream vs) f fs h hs = tt
  operator_taken text (members.List vs) f fs h hs = tt
  operator_taken text (members.Struct ms) f fs h hs = tt

  segment_taken : (more : List ℕ) (l : Last) (f : Frame) (fs : Open) → Fine d (length fs) f → AllFine d fs → FineTaken d (table.segment more l f fs)
  segment_taken more (last.LongString text) f fs h hs = (then_fine d (length fs) (last.LongString (text ++ more)) f h, hs)
  segment_taken more last.LongName f fs h hs = (named_fine d (length fs) (f.name ++ more) last.LongName f h, hs)
  segment_taken more _ f fs h hs = named_or_fine more last.LongName _ f fs h (then_fine d (length fs) (last.LongString more) f h) hs

  annotated_taken : (l : Last) (f : Frame) (fs : Open) → Fine d (length fs) f → AllFine d fs → FineTaken d (table.annotate l f fs)
  annotated_taken (last.Symbol text quoted) f fs h hs = (record { within = h.within; members = h.members }, hs)
  annotated_taken _ f fs h hs = tt

  colon_taken : (l : Last) (f : Frame) (fs : Open) → Fine d (length fs) f → AllFine d fs → FineTaken d (table.colon l f fs)
  colon_taken last.Name f fs h hs = (then_fine d (length fs) last.Colon f h, hs)
  colon_taken last.LongName f fs h hs = (then_fine d (length fs) last.Colon f h, hs)
  colon_taken _ f fs h hs = tt

  -- one container more is open, where this is let
  begun : (ms : Members) (f : Frame) (fs : Open) → ((k : ℕ) → ShallowMembers d k ms) → Fine d (length fs) f → AllFine d fs → FineTaken d (table.begin d ms f fs)
  begun ms f fs empty h hs =
      cond_both (nat_le d (length fs)) _ _ (FineTaken d) (λ _. tt)
      (λ room. replaced (table.may_begin f.members f.last) (table.opened ms) (f ∷ fs) (record { within = omega (arith, leb-false d (length fs) room); members = empty (length (f ∷ fs)) }) (h, hs))

  begun_struct : (f : Frame) (fs : Open) → Fine d (length fs) f → AllFine d fs → FineTaken d (table.begin_struct d f fs)
  begun_struct f fs h hs =
      cond_both (table.is_symbol_table f.is_table f.members) _ _ (FineTaken d) (λ _. tt) (λ _. begun (members.Struct []) f fs (λ _. tt) h hs)

  abbrev ShallowBody : ℕ → Option Body → Type 0
  ShallowBody k (Some content) = body_depth content + k ≤ d
  ShallowBody k None = Unit {0}

  closed_fine : (content : Option Body) (g : Frame) (fs : Open) → ShallowBody (length fs) content → Fine d (length fs) g → AllFine d fs → FineTaken d (table.closed content g fs)
  closed_fine (Some content) g fs e h hs = (valued d (length fs) content g h e, hs)
  closed_fine None g fs e h hs = tt

  -- a container nests one level deeper than its members, and one container less is open around it
  abbrev Ends : (Members → Option Body) → Type 0
  Ends content = (k : ℕ) (ms : Members) → suc k ≤ d → ShallowMembers d (suc k) ms → ShallowBody k (content ms)

  list_ends : Ends table.list_of
  list_ends k (members.List vs) within h = omega (arith, at_list vs, deepest_fits depth_of d (suc k) vs within h)
  list_ends k (members.Stream vs) within h = tt
  list_ends k (members.Sexp vs) within h = tt
  list_ends k (members.Struct fs) within h = tt

  sexp_ends : Ends table.sexp_of
  sexp_ends k (members.Sexp vs) within h = omega (arith, at_sexp vs, deepest_fits depth_of d (suc k) vs within h)
  sexp_ends k (members.Stream vs) within h = tt
  sexp_ends k (members.List vs) within h = tt
  sexp_ends k (members.Struct fs) within h = tt

  struct_ends : Ends table.struct_of
  struct_ends k (members.Struct fs) within h = omega (arith, at_struct fs, deepest_fits field_depth d (suc k) fs within h)
  struct_ends k (members.Stream vs) within h = tt
  struct_ends k (members.List vs) within h = tt
  struct_ends k (members.Sexp vs) within h = tt

  close_taken : (content : Members → Option Body) (f : Frame) (fs : Open) → Ends content → Fine d (length fs) f → AllFine d fs → FineTaken d (table.close content f fs)
  close_taken content f [] ends h hs = tt
  close_taken content f (g ∷ fs) ends h hs =
      cond_both (table.may_close f.last) _ _ (FineTaken d) (λ _. closed_fine (content f.members) g fs (ends (length fs) f.members h.within h.members) hs.0 hs.1) (λ _. tt)

  put_taken : (t : Token) (f : Frame) (fs : Open) → Fine d (length fs) f → AllFine d fs → FineTaken d (table.put d t f fs)
  put_taken (token.Scalar s) f fs h hs = replaced (table.may_begin f.members f.last) _ fs (plain d (length fs) (table.body_of s) f h (at_scalar s)) hs
  put_taken (token.Symbol text quoted) f fs h hs = symbol_taken text quoted f fs h hs
  put_taken (token.Operator text) f fs h hs = operator_taken text f.members f fs h hs
  put_taken (token.String text) f fs h hs = named_or_fine text last.Name _ f fs h (plain d (length fs) (body.String text) f h (at_string text)) hs
  put_taken (token.Segment text) f fs h hs = segment_taken text f.last f fs h hs
  put_taken token.ListOpen f fs h hs = begun (members.List []) f fs (λ _. tt) h hs
  put_taken token.SexpOpen f fs h hs = begun (members.Sexp []) f fs (λ _. tt) h hs
  put_taken token.StructOpen f fs h hs = begun_struct f fs h hs
  put_taken token.ListClose f fs h hs = close_taken table.list_of f fs list_ends h hs
  put_taken token.SexpClose f fs h hs = close_taken table.sexp_of f fs sexp_ends h hs
  put_taken token.StructClose f fs h hs = close_taken table.struct_of f fs struct_ends h hs
  put_taken token.Comma f fs h hs = replaced (table.may_comma f.members f.last) _ fs (then_fine d (length fs) last.Comma f h) hs
  put_taken token.Colon f fs h hs = colon_taken f.last f fs h hs
  put_taken token.DoubleColon f fs h hs = annotated_taken f.last f fs h hs

  accept_taken : (fs : Open) (t : Token) → AllFine d fs → FineTaken d (table.accept d fs t)
  accept_taken [] t h = tt
  accept_taken (f ∷ fs) t h = put_taken t (table.before t f) fs (before_fine d (length fs) t f h.0) h.1

  -- ---- the whole text

  abbrev ShallowAnswer : Answer → Type 0
  ShallowAnswer (Ok vs) = AllByRecursion (λ v. depth_of v ≤ d) vs
  ShallowAnswer (Err f) = Unit {0}

  none_open : (vs : List Value) → Each depth_of d 0 vs → AllByRecursion (λ v. depth_of v ≤ d) vs
  none_open [] h = tt
  none_open (v ∷ vs) h = (omega (arith, h.0), none_open vs h.1)

  values_shallow : (at : ℕ) (ms : Members) → ShallowMembers d 0 ms → ShallowAnswer (values_of at ms)
  values_shallow at (members.Stream vs) h = none_open vs h
  values_shallow at (members.List vs) h = tt
  values_shallow at (members.Sexp vs) h = tt
  values_shallow at (members.Struct fs) h = tt

  finish_shallow : (at : ℕ) (fs : Open) → AllFine d fs → ShallowAnswer (finish at fs)
  finish_shallow at [] h = tt
  finish_shallow at (f ∷ []) h =
      cond_both (may_end (table.settled f).last) _ _ ShallowAnswer (λ _. values_shallow at (table.settled f).members (settled_fine d 0 f h.0).members) (λ _. tt)
  finish_shallow at (f ∷ g ∷ fs) h = tt

  go_on_shallow : (at : ℕ) (rest : Open → Answer) (taken : Taken) → ((fs : Open) → AllFine d fs → ShallowAnswer (rest fs)) → FineTaken d taken → ShallowAnswer (go_on at rest taken)
  go_on_shallow at rest (Ok fs) h k = h fs k
  go_on_shallow at rest (Err why) h k = tt

  turn_shallow :
      (at end : ℕ) (fs : Open) (rest : ℕ → Open → Answer) (l : Lexed) → AllFine d fs → ((more : ℕ) (gs : Open) → AllFine d gs → ShallowAnswer (rest more gs)) →
      ShallowAnswer (turn d at end fs rest l)
  turn_shallow at end fs rest (lexed.Blank more) h k = k more fs h
  turn_shallow at end fs rest (lexed.Token t more) h k = go_on_shallow at (rest more) (table.accept d fs t) (k more) (accept_taken fs t h)
  turn_shallow at end fs rest (lexed.Refused why) h k = tt
  turn_shallow at end fs rest lexed.Cut h k = tt

  run_shallow : (left at : ℕ) (fs : Open) (z : List ℕ) → AllFine d fs → ShallowAnswer (run d left at fs z)
  run_shallow left at fs [] h = finish_shallow at fs h
  run_shallow (suc left) at fs (b ∷ z) h = run_shallow left (at + 1) fs z h
  run_shallow zero at fs (b ∷ z) h =
      turn_shallow at _ fs (λ more gs. run d more (at + 1) gs z) (lex (b ∷ z)) h (λ more gs k. run_shallow more (at + 1) gs z k)

  answer_shallow : (text : List ℕ) → ShallowAnswer (read_text d text)
  unfolding read_text
  answer_shallow text = cond_both (is_utf8 text) _ _ ShallowAnswer (λ _. run_shallow 0 0 table.start text (record { within = omega arith; members = tt }, tt)) (λ _. tt)

-- Each value of a text whose containers nest at most d deep nests at most d deep.
pub read_is_shallow : (d : ℕ) (text : List ℕ) (vs : List Value) → read_text d text ≡ Ok vs → AllByRecursion (λ v. depth_of v ≤ d) vs
read_is_shallow d text vs h = subst (ShallowAnswer d) h (answer_shallow d text)
