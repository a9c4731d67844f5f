-- Values in front of those of the whole text go with all that is read behind them.
use Rattle.std.proofs.Common.{◌≡◌, ◌+◌, ℕ, zero, suc, Bool, true, false, nat_le, List, [], ◌∷◌, ◌++◌, length, reverse, Option, Some, None, Ok, Err, if◌then◌else◌, refl, ap, sym, ◌∙◌}
use Rattle.std.proofs.lemmas.List.{append_assoc, reverse-append}
use Rattle.ion_values.specs.declared.fault.IonKind.TheVariants as fault
use Rattle.ion_values.specs.declared.value.Value.{Value}
use Rattle.ion_values.specs.declared.value.Body.{Body}
use Rattle.ion_values.specs.declared.value.Body.TheVariants as body
use Rattle.ion_model.specs.Lex.{lex}
use Rattle.ion_model.specs.Table as table
use Rattle.ion_model.specs.Table.{Open, Taken}
use Rattle.ion_model.specs.Read.{Answer, may_end, values_of, finish, go_on, refused, turn, run}
use Rattle.ion_model.specs.declared.Token.{Token}
use Rattle.ion_model.specs.declared.Token.TheVariants as token
use Rattle.ion_model.specs.declared.Members.{Members}
use Rattle.ion_model.specs.declared.Members.TheVariants as members
use Rattle.ion_model.specs.declared.Last.{Last}
use Rattle.ion_model.specs.declared.Last.TheVariants as last
use Rattle.ion_model.specs.declared.Frame.{Frame}
use Rattle.ion_model.specs.declared.Lexed.{Lexed}
use Rattle.ion_model.specs.declared.Lexed.TheVariants as lexed
use Rattle.ion_pieces.specs.Frames.{led_members, led_frame, led_open}
use Rattle.ion_pieces.specs.Pieces.{led}

module _ (vs : List Value) where
  abbrev led_taken : Taken → Taken
  led_taken (Ok fs) = Ok (led_open vs fs)
  led_taken (Err k) = Err k

  -- ---- what the table asks of a frame

  begins_same : (ms : Members) (l : Last) → table.may_begin (led_members vs ms) l ≡ table.may_begin ms l
  begins_same (members.Stream ws) last.Opening = refl
  begins_same (members.Stream ws) last.Value = refl
  begins_same (members.Stream ws) last.Annotation = refl
  begins_same (members.Stream ws) _ = refl
  begins_same (members.List ws) l = refl
  begins_same (members.Sexp ws) l = refl
  begins_same (members.Struct fs) l = refl

  names_same : (ms : Members) (l : Last) → table.may_name (led_members vs ms) l ≡ table.may_name ms l
  names_same (members.Stream ws) l = refl
  names_same (members.List ws) l = refl
  names_same (members.Sexp ws) l = refl
  names_same (members.Struct fs) l = refl

  commas_same : (ms : Members) (l : Last) → table.may_comma (led_members vs ms) l ≡ table.may_comma ms l
  commas_same (members.Stream ws) l = refl
  commas_same (members.List ws) l = refl
  commas_same (members.Sexp ws) l = refl
  commas_same (members.Struct fs) l = refl

  marker_same : (text : List ℕ) (quoted : Bool) (names : List (List ℕ)) (ms : Members) → table.is_marker text quoted names (led_members vs ms) ≡ table.is_marker text quoted names ms
  marker_same text quoted [] (members.Stream ws) = refl
  marker_same text quoted [] (members.List ws) = refl
  marker_same text quoted [] (members.Sexp ws) = refl
  marker_same text quoted [] (members.Struct fs) = refl
  marker_same text quoted (name ∷ names) ms = refl

  table_same : (is_table : Bool) (ms : Members) → table.is_symbol_table is_table (led_members vs ms) ≡ table.is_symbol_table is_table ms
  table_same is_table (members.Stream ws) = refl
  table_same is_table (members.List ws) = refl
  table_same is_table (members.Sexp ws) = refl
  table_same is_table (members.Struct fs) = refl

  -- ---- a member more

  member_led : (name : List ℕ) (v : Value) (ms : Members) → table.with_member name v (led_members vs ms) ≡ led_members vs (table.with_member name v ms)
  member_led name v (members.Stream ws) = ap (λ xs. members.Stream xs) (append_assoc vs ws (v ∷ []))
  member_led name v (members.List ws) = refl
  member_led name v (members.Sexp ws) = refl
  member_led name v (members.Struct fs) = refl

  value_led : (content : Body) (f : Frame) → table.with_value content (led_frame vs f) ≡ led_frame vs (table.with_value content f)
  value_led content f =
      ap (λ ms. let g : Frame = record { members = ms; name = []; annotations = []; is_table = false; last = last.Value } in g)
      (member_led f.name (record { annotations = f.annotations; body = content }) f.members)

  if_led : (t : Bool) (f g h k : Frame) → f ≡ led_frame vs h → g ≡ led_frame vs k → (if t then f else g) ≡ led_frame vs (if t then h else k)
  if_led true f g h k e d = e
  if_led false f g h k e d = d

  symbol_led : (text : List ℕ) (quoted : Bool) (f : Frame) → table.symbol_settled text quoted (led_frame vs f) ≡ led_frame vs (table.symbol_settled text quoted f)
  symbol_led text quoted f =
      rw (marker_same text quoted f.annotations f.members)
      (if_led (table.is_marker text quoted f.annotations f.members) _ _ (table.then_last last.Value f) (table.with_value (body.Symbol text) f) refl (value_led (body.Symbol text) f))

  settle_led : (l : Last) (f : Frame) → table.settle l (led_frame vs f) ≡ led_frame vs (table.settle l f)
  settle_led (last.Symbol text quoted) f = symbol_led text quoted f
  settle_led (last.LongString text) f = value_led (body.String text) f
  settle_led last.Opening f = refl
  settle_led last.Name f = refl
  settle_led last.LongName f = refl
  settle_led last.Colon f = refl
  settle_led last.Annotation f = refl
  settle_led last.Value f = refl
  settle_led last.Comma f = refl

  settled_led : (f : Frame) → table.settled (led_frame vs f) ≡ led_frame vs (table.settled f)
  settled_led f = settle_led f.last f

  before_led : (t : Token) (f : Frame) → table.before t (led_frame vs f) ≡ led_frame vs (table.before t f)
  before_led t f = if_led (table.continues t f.last) _ _ f (table.settled f) refl (settled_led f)

  -- ---- a token, where the whole text is innermost

  if_taken : (t : Bool) (a b c d : Taken) → a ≡ led_taken c → b ≡ led_taken d → (if t then a else b) ≡ led_taken (if t then c else d)
  if_taken true a b c d e f = e
  if_taken false a b c d e f = f

  alone_if : (may : Bool) (h k : Frame) → h ≡ led_frame vs k → table.taken_if may h [] ≡ led_taken (table.taken_if may k [])
  alone_if true h k e = ap (λ f. let taken : Taken = Ok (f ∷ []) in taken) e
  alone_if false h k e = refl

  alone_named : (text : List ℕ) (l : Last) (value new f : Frame) → new ≡ led_frame vs value → table.named_or text l new (led_frame vs f) [] ≡ led_taken (table.named_or text l value f [])
  alone_named text l value new f e =
      rw (names_same f.members f.last, begins_same f.members f.last)
      (if_taken (table.may_name f.members f.last) _ _ (Ok (table.named text l f ∷ [])) (table.taken_if (table.may_begin f.members f.last) value []) refl
      (alone_if (table.may_begin f.members f.last) new value e))

  alone_add : (content : Body) (f : Frame) → table.add content (led_frame vs f) [] ≡ led_taken (table.add content f [])
  alone_add content f = rw (begins_same f.members f.last) (alone_if (table.may_begin f.members f.last) _ (table.with_value content f) (value_led content f))

  alone_symbol : (text : List ℕ) (quoted : Bool) (f : Frame) → table.symbol text quoted (led_frame vs f) [] ≡ led_taken (table.symbol text quoted f [])
  alone_symbol text quoted f = alone_named text last.Name (table.then_last (last.Symbol text quoted) f) _ f refl

  alone_operator : (text : List ℕ) (ms : Members) (f : Frame) → table.operator text (led_members vs ms) (led_frame vs f) [] ≡ led_taken (table.operator text ms f [])
  alone_operator text (members.Sexp ws) f = alone_symbol text false f
  alone_operator text (members.Stream ws) f = refl
  alone_operator text (members.List ws) f = refl
  alone_operator text (members.Struct fs) f = refl

  alone_first : (text : List ℕ) (f : Frame) → table.first_segment text (led_frame vs f) [] ≡ led_taken (table.first_segment text f [])
  alone_first text f = alone_named text last.LongName (table.then_last (last.LongString text) f) _ f refl

  alone_segment : (more : List ℕ) (l : Last) (f : Frame) → table.segment more l (led_frame vs f) [] ≡ led_taken (table.segment more l f [])
  alone_segment more (last.LongString text) f = refl
  alone_segment more last.LongName f = refl
  alone_segment more _ f = alone_first more f

  alone_annotation : (l : Last) (f : Frame) → table.annotate l (led_frame vs f) [] ≡ led_taken (table.annotate l f [])
  alone_annotation (last.Symbol text quoted) f = refl
  alone_annotation _ f = refl

  alone_colon : (l : Last) (f : Frame) → table.colon l (led_frame vs f) [] ≡ led_taken (table.colon l f [])
  alone_colon last.Name f = refl
  alone_colon last.LongName f = refl
  alone_colon _ f = refl

  alone_comma : (f : Frame) → table.comma (led_frame vs f) [] ≡ led_taken (table.comma f [])
  alone_comma f = rw (commas_same f.members f.last) (alone_if (table.may_comma f.members f.last) _ (table.then_last last.Comma f) refl)

  alone_opened : (may : Bool) (ms : Members) (f : Frame) → table.taken_if may (table.opened ms) (led_frame vs f ∷ []) ≡ led_taken (table.taken_if may (table.opened ms) (f ∷ []))
  alone_opened true ms f = refl
  alone_opened false ms f = refl

  alone_begin : (depth : ℕ) (ms : Members) (f : Frame) → table.begin depth ms (led_frame vs f) [] ≡ led_taken (table.begin depth ms f [])
  alone_begin depth ms f =
      rw (begins_same f.members f.last)
      (if_taken (nat_le depth 0) _ _ (Err fault.TooDeep) (table.taken_if (table.may_begin f.members f.last) (table.opened ms) (f ∷ [])) refl
      (alone_opened (table.may_begin f.members f.last) ms f))

  alone_struct : (depth : ℕ) (f : Frame) → table.begin_struct depth (led_frame vs f) [] ≡ led_taken (table.begin_struct depth f [])
  alone_struct depth f =
      rw (table_same f.is_table f.members)
      (if_taken (table.is_symbol_table f.is_table f.members) _ _ (Err fault.SymbolIdRefused) (table.begin depth (members.Struct []) f []) refl (alone_begin depth (members.Struct []) f))

  alone_put : (depth : ℕ) (t : Token) (f : Frame) → table.put depth t (led_frame vs f) [] ≡ led_taken (table.put depth t f [])
  alone_put depth (token.Scalar s) f = alone_add (table.body_of s) f
  alone_put depth (token.Symbol text quoted) f = alone_symbol text quoted f
  alone_put depth (token.Operator text) f = alone_operator text f.members f
  alone_put depth (token.String text) f = alone_named text last.Name (table.with_value (body.String text) f) _ f (value_led (body.String text) f)
  alone_put depth (token.Segment text) f = alone_segment text f.last f
  alone_put depth token.ListOpen f = alone_begin depth (members.List []) f
  alone_put depth token.SexpOpen f = alone_begin depth (members.Sexp []) f
  alone_put depth token.StructOpen f = alone_struct depth f
  alone_put depth token.ListClose f = refl
  alone_put depth token.SexpClose f = refl
  alone_put depth token.StructClose f = refl
  alone_put depth token.Comma f = alone_comma f
  alone_put depth token.Colon f = alone_colon f.last f
  alone_put depth token.DoubleColon f = alone_annotation f.last f

  -- ---- a token, where another container is

  length_led : (fs : Open) → length (led_open vs fs) ≡ length fs
  length_led [] = refl
  length_led (f ∷ []) = refl
  length_led (f ∷ g ∷ fs) = ap suc (length_led (g ∷ fs))

  module _ (g : Frame) (gs : Open) where
    inside_if : (may : Bool) (h : Frame) → table.taken_if may h (led_open vs (g ∷ gs)) ≡ led_taken (table.taken_if may h (g ∷ gs))
    inside_if true h = refl
    inside_if false h = refl

    inside_named : (text : List ℕ) (l : Last) (value f : Frame) → table.named_or text l value f (led_open vs (g ∷ gs)) ≡ led_taken (table.named_or text l value f (g ∷ gs))
    inside_named text l value f =
        if_taken (table.may_name f.members f.last) _ _ (Ok (table.named text l f ∷ g ∷ gs)) (table.taken_if (table.may_begin f.members f.last) value (g ∷ gs)) refl
        (inside_if (table.may_begin f.members f.last) value)

    inside_symbol : (text : List ℕ) (quoted : Bool) (f : Frame) → table.symbol text quoted f (led_open vs (g ∷ gs)) ≡ led_taken (table.symbol text quoted f (g ∷ gs))
    inside_symbol text quoted f = inside_named text last.Name (table.then_last (last.Symbol text quoted) f) f

    inside_operator : (text : List ℕ) (ms : Members) (f : Frame) → table.operator text ms f (led_open vs (g ∷ gs)) ≡ led_taken (table.operator text ms f (g ∷ gs))
    inside_operator text (members.Sexp ws) f = inside_symbol text false f
    inside_operator text (members.Stream ws) f = refl
    inside_operator text (members.List ws) f = refl
    inside_operator text (members.Struct fs) f = refl

    inside_segment : (more : List ℕ) (l : Last) (f : Frame) → table.segment more l f (led_open vs (g ∷ gs)) ≡ led_taken (table.segment more l f (g ∷ gs))
    inside_segment more (last.LongString text) f = refl
    inside_segment more last.LongName f = refl
    inside_segment more _ f = inside_named more last.LongName (table.then_last (last.LongString more) f) f

    inside_annotation : (l : Last) (f : Frame) → table.annotate l f (led_open vs (g ∷ gs)) ≡ led_taken (table.annotate l f (g ∷ gs))
    inside_annotation (last.Symbol text quoted) f = refl
    inside_annotation _ f = refl

    inside_colon : (l : Last) (f : Frame) → table.colon l f (led_open vs (g ∷ gs)) ≡ led_taken (table.colon l f (g ∷ gs))
    inside_colon last.Name f = refl
    inside_colon last.LongName f = refl
    inside_colon _ f = refl

    inside_opened : (may : Bool) (h f : Frame) → table.taken_if may h (f ∷ led_open vs (g ∷ gs)) ≡ led_taken (table.taken_if may h (f ∷ g ∷ gs))
    inside_opened true h f = refl
    inside_opened false h f = refl

    inside_begin : (depth : ℕ) (ms : Members) (f : Frame) → table.begin depth ms f (led_open vs (g ∷ gs)) ≡ led_taken (table.begin depth ms f (g ∷ gs))
    inside_begin depth ms f =
        rw (length_led (g ∷ gs))
        (if_taken (nat_le depth (length (g ∷ gs))) _ _ (Err fault.TooDeep) (table.taken_if (table.may_begin f.members f.last) (table.opened ms) (f ∷ g ∷ gs)) refl
        (inside_opened (table.may_begin f.members f.last) (table.opened ms) f))

    inside_struct : (depth : ℕ) (f : Frame) → table.begin_struct depth f (led_open vs (g ∷ gs)) ≡ led_taken (table.begin_struct depth f (g ∷ gs))
    inside_struct depth f =
        if_taken (table.is_symbol_table f.is_table f.members) _ _ (Err fault.SymbolIdRefused) (table.begin depth (members.Struct []) f (g ∷ gs)) refl
        (inside_begin depth (members.Struct []) f)

  closed_alone : (content : Option Body) (g : Frame) → table.closed content (led_frame vs g) [] ≡ led_taken (table.closed content g [])
  closed_alone (Some content) g = ap (λ f. let taken : Taken = Ok (f ∷ []) in taken) (value_led content g)
  closed_alone None g = refl

  closed_inside : (content : Option Body) (g h : Frame) (gs : Open) → table.closed content g (led_open vs (h ∷ gs)) ≡ led_taken (table.closed content g (h ∷ gs))
  closed_inside (Some content) g h gs = refl
  closed_inside None g h gs = refl

  close_led : (content : Members → Option Body) (f g : Frame) (gs : Open) → table.close content f (led_open vs (g ∷ gs)) ≡ led_taken (table.close content f (g ∷ gs))
  close_led content f g [] =
      if_taken (table.may_close f.last) _ _ (table.closed (content f.members) g []) (Err fault.BadToken) (closed_alone (content f.members) g) refl
  close_led content f g (h ∷ gs) =
      if_taken (table.may_close f.last) _ _ (table.closed (content f.members) g (h ∷ gs)) (Err fault.BadToken) (closed_inside (content f.members) g h gs) refl

  inside_put : (depth : ℕ) (t : Token) (f g : Frame) (gs : Open) → table.put depth t f (led_open vs (g ∷ gs)) ≡ led_taken (table.put depth t f (g ∷ gs))
  inside_put depth (token.Scalar s) f g gs = inside_if g gs (table.may_begin f.members f.last) _
  inside_put depth (token.Symbol text quoted) f g gs = inside_symbol g gs text quoted f
  inside_put depth (token.Operator text) f g gs = inside_operator g gs text f.members f
  inside_put depth (token.String text) f g gs = inside_named g gs text last.Name _ f
  inside_put depth (token.Segment text) f g gs = inside_segment g gs text f.last f
  inside_put depth token.ListOpen f g gs = inside_begin g gs depth (members.List []) f
  inside_put depth token.SexpOpen f g gs = inside_begin g gs depth (members.Sexp []) f
  inside_put depth token.StructOpen f g gs = inside_struct g gs depth f
  inside_put depth token.ListClose f g gs = close_led table.list_of f g gs
  inside_put depth token.SexpClose f g gs = close_led table.sexp_of f g gs
  inside_put depth token.StructClose f g gs = close_led table.struct_of f g gs
  inside_put depth token.Comma f g gs = inside_if g gs (table.may_comma f.members f.last) _
  inside_put depth token.Colon f g gs = inside_colon g gs f.last f
  inside_put depth token.DoubleColon f g gs = inside_annotation g gs f.last f

  accept_led : (depth : ℕ) (fs : Open) (t : Token) → table.accept depth (led_open vs fs) t ≡ led_taken (table.accept depth fs t)
  accept_led depth [] t = refl
  accept_led depth (f ∷ []) t = rw (before_led t f) (alone_put depth t (table.before t f))
  accept_led depth (f ∷ g ∷ gs) t = inside_put depth t (table.before t f) g gs

  -- ---- the whole text

  values_led : (at : ℕ) (ms : Members) → values_of at (led_members vs ms) ≡ led vs (values_of at ms)
  values_led at (members.Stream ws) = refl
  values_led at (members.List ws) = refl
  values_led at (members.Sexp ws) = refl
  values_led at (members.Struct fs) = refl

  if_answer : (t : Bool) (a c : Answer) (at : ℕ) → a ≡ led vs c → (if t then a else refused at fault.Unclosed) ≡ led vs (if t then c else refused at fault.Unclosed)
  if_answer true a c at e = e
  if_answer false a c at e = refl

  finish_led : (at : ℕ) (fs : Open) → finish at (led_open vs fs) ≡ led vs (finish at fs)
  finish_led at [] = refl
  finish_led at (f ∷ []) =
      rw (settled_led f) (if_answer (may_end (table.settled f).last) _ (values_of at (table.settled f).members) at (values_led at (table.settled f).members))
  finish_led at (f ∷ g ∷ []) = refl
  finish_led at (f ∷ g ∷ h ∷ fs) = refl

  go_on_led : (at : ℕ) (rest : Open → Answer) (taken : Taken) → ((fs : Open) → rest (led_open vs fs) ≡ led vs (rest fs)) → go_on at rest (led_taken taken) ≡ led vs (go_on at rest taken)
  go_on_led at rest (Ok fs) same = same fs
  go_on_led at rest (Err k) same = refl

  turn_led :
      (depth at end : ℕ) (fs : Open) (rest : ℕ → Open → Answer) (l : Lexed) → ((more : ℕ) (gs : Open) → rest more (led_open vs gs) ≡ led vs (rest more gs)) →
      turn depth at end (led_open vs fs) rest l ≡ led vs (turn depth at end fs rest l)
  turn_led depth at end fs rest (lexed.Blank more) same = same more fs
  turn_led depth at end fs rest (lexed.Token t more) same = rw (accept_led depth fs t) (go_on_led at (rest more) (table.accept depth fs t) (same more))
  turn_led depth at end fs rest (lexed.Refused k) same = refl
  turn_led depth at end fs rest lexed.Cut same = refl

  pub run_led : (depth left at : ℕ) (fs : Open) (z : List ℕ) → run depth left at (led_open vs fs) z ≡ led vs (run depth left at fs z)
  run_led depth left at fs [] = finish_led at fs
  run_led depth (suc left) at fs (b ∷ z) = run_led depth left (at + 1) fs z
  run_led depth zero at fs (b ∷ z) =
      turn_led depth at (at + length (b ∷ z)) fs (λ more gs. run depth more (at + 1) gs z) (lex (b ∷ z)) (λ more gs. run_led depth more (at + 1) gs z)

  -- ---- the outermost container

  last_led : (xs : Open) (f : Frame) → led_open vs (xs ++ f ∷ []) ≡ xs ++ led_frame vs f ∷ []
  last_led [] f = refl
  last_led (g ∷ []) f = refl
  last_led (g ∷ h ∷ xs) f = ap (λ fs. let all : Open = g ∷ fs in all) (last_led (h ∷ xs) f)

  pub outermost_led : (inner g : Frame) (fs : List Frame) → inner ∷ reverse (led_frame vs g ∷ fs) ≡ led_open vs (inner ∷ reverse (g ∷ fs))
  outermost_led inner g fs =
      ap (λ xs. let all : Open = inner ∷ xs in all) (reverse-append (led_frame vs g ∷ []) fs) ∙ sym (last_led (inner ∷ reverse fs) g)
      ∙ ap (λ xs. led_open vs (inner ∷ xs)) (sym (reverse-append (g ∷ []) fs))
