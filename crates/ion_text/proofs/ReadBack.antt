-- What is written of a value is read back, by induction over values.
use Rattle.std.proofs.Common.{◌≡◌, ◌+◌, ◌≤◌, ◌&&◌, ℕ, Bool, true, false, List, [], ◌∷◌, ◌++◌, map, length, Ok, refl, ap, sym, subst, ◌∙◌, rules, arith, append_assoc, append-nil}
use Rattle.std.specs.Prelude.{codes}
use Rattle.std.specs.Fmt.{signed_decimal}
use Rattle.std.specs.List.{AllByRecursion, flat_map, list_all}
use Rattle.std.proofs.lemmas.Bool.{and_parts}
use Rattle.std.proofs.lemmas.Bool.Decides.{nat_tests}
use Rattle.ion_values.specs.Within as within
use Rattle.ion_values.specs.Within.{all_true, field_within, text_within}
use Rattle.ion_values.specs.Depth as depth
use Rattle.ion_values.specs.Depth.{depth_of, field_depth, deepest}
use Rattle.ion_values.specs.declared.value.Value.{Value}
use Rattle.ion_values.specs.declared.value.Field.{Field}
use Rattle.ion_values.specs.declared.value.Body.{Body, out-Body, roll-Body, roll-out-Body}
use Rattle.ion_values.specs.declared.value.Body.TheVariants as body
use Rattle.ion_values.specs.declared.value.Body.TheOpen.{Body-F}
use Rattle.ion_values.specs.declared.value.Body.TheFolds.{fold-Body, map-Body, the_lemmas}
use Rattle.ion_values.proofs.Induction.{EachMember, by_members}
use Rattle.ion_model.specs.Write.{value_text, body_text, field_text, body_step, symbol_text, annotation_text, joined, parted, null_text, bool_text, decimal_text, string_text, clob_text, blob_text}
use Rattle.ion_model.specs.Timestamp.{timestamp_text}
use Rattle.ion_model.specs.Blanks.{begins}
use Rattle.ion_model.specs.Table as table
use Rattle.ion_model.specs.Table.{Open}
use Rattle.ion_model.specs.Read.{run, finish, read_utf8}
use Rattle.ion_model.specs.declared.Scalar.TheVariants as scalar
use Rattle.ion_model.specs.declared.Token.TheVariants as token
use Rattle.ion_model.specs.declared.Members.TheVariants as members
use Rattle.ion_model.specs.declared.Last.TheVariants as last
use Rattle.ion_model.specs.declared.Frame.{Frame}
use Rattle.ion_text.specs.RoundTrip.{MayFollow, ReadsBefore}
use Rattle.ion_text.proofs.ReadTurns as turns
use Rattle.ion_text.proofs.ReadTurns.{Ready, Reads, noted, filled, called}
use Rattle.ion_text.proofs.ReadMembers.{members_read, First, Next}
use Rattle.ion_text.proofs.ReadFronts.{in_front, symbol_in_front, symbol_front, no_colon}
use Rattle.ion_text.proofs.WrittenWords.{null_read, bool_read}
use Rattle.ion_text.proofs.WrittenNumbers.{int_read, decimal_read}
use Rattle.ion_text.proofs.WrittenTimes.{time_read}
use Rattle.ion_text.proofs.WrittenTexts.{string_read}
use Rattle.ion_text.proofs.WrittenSymbols.{ends_symbol}
use Rattle.ion_text.proofs.WrittenLobs.{clob_read, blob_read}

-- ---- annotations

-- Annotations that were read from `at` on, up to the rest of the text: a value may begin that has them behind those before.
record Notes (depth at : ℕ) (f : Frame) (fs : Open) (z : List ℕ) (names : List (List ℕ)) (rest : List ℕ) : Type 0 where
  to : ℕ
  frame : Frame
  run : run depth 0 at (f ∷ fs) z ≡ run depth 0 to (frame ∷ fs) rest
  ready : Ready (table.settled frame)
  members : (table.settled frame).members ≡ (table.settled f).members
  name : (table.settled frame).name ≡ (table.settled f).name
  annotations : (table.settled frame).annotations ≡ (table.settled f).annotations ++ names

-- one annotation before others
noted_before :
    (depth at : ℕ) (f : Frame) (fs : Open) (z : List ℕ) (name : List ℕ) (y : List ℕ) (names : List (List ℕ)) (rest : List ℕ) (first : Reads depth at f fs z (noted name (table.settled f)) y) →
    Notes depth first.to first.frame fs y names rest → Notes depth at f fs z (name ∷ names) rest
noted_before depth at f fs z name y names rest first others = record {
  to = others.to;
  frame = others.frame;
  run = first.run ∙ others.run;
  ready = others.ready;
  members = others.members ∙ ap (λ (g : Frame). g.members) first.settles;
  name = others.name ∙ ap (λ (g : Frame). g.name) first.settles;
  annotations = others.annotations ∙ ap (λ (g : Frame). g.annotations ++ names) first.settles ∙ append_assoc (table.settled f).annotations (name ∷ []) names;
}

annotations_read :
    (names : List (List ℕ)) → list_all text_within names ≡ true → (depth at : ℕ) (f : Frame) (fs : Open) (rest : List ℕ) → Ready (table.settled f) →
    Notes depth at f fs (flat_map annotation_text names ++ rest) names rest
annotations_read [] h depth at f fs rest ready =
    record { to = at; frame = f; run = refl; ready = ready; members = refl; name = refl; annotations = sym (append-nil (table.settled f).annotations) }
annotations_read (name ∷ names) h depth at f fs rest ready =
    let both = and_parts (text_within name) (list_all text_within names) h in
    let more : List ℕ = flat_map annotation_text names in
    let first : Reads depth at f fs (symbol_text name ++ 58 ∷ 58 ∷ (more ++ rest)) (noted name (table.settled f)) (more ++ rest) =
    turns.annotation_turn depth at f fs (symbol_text name) (more ++ rest) name ready (symbol_in_front (58 ∷ 58 ∷ (more ++ rest)) name both.0 refl) in
    let others = annotations_read names both.1 depth first.to first.frame fs rest (subst Ready (sym first.settles) (turns.ready_noted name (table.settled f) ready)) in
    let z_is : ((symbol_text name ++ 58 ∷ 58 ∷ []) ++ more) ++ rest ≡ symbol_text name ++ 58 ∷ 58 ∷ (more ++ rest) =
    append_assoc (symbol_text name ++ 58 ∷ 58 ∷ []) more rest ∙ append_assoc (symbol_text name) (58 ∷ 58 ∷ []) (more ++ rest) in
    subst (λ (z : List ℕ). Notes depth at f fs z (name ∷ names) rest) (sym z_is) (noted_before depth at f fs _ name (more ++ rest) names rest first others)

-- ---- one level

abbrev pub body_within : Body → Bool
body_within = fold-Body Bool Bool Bool within.body_step within.field_step within.value_step

abbrev pub body_depth : Body → ℕ
body_depth = fold-Body ℕ ℕ ℕ depth.body_step (λ f. f.value) (λ v. v.body)

-- a level's text, range and depth, with those of its members
abbrev pub level : Body-F Body Field Value → List ℕ
level b = body_step (map-Body _ _ _ _ _ _ body_text field_text value_text b)

abbrev pub level_within : Body-F Body Field Value → Bool
level_within b = within.body_step (map-Body _ _ _ _ _ _ body_within field_within within.within b)

abbrev pub level_depth : Body-F Body Field Value → ℕ
level_depth b = depth.body_step (map-Body _ _ _ _ _ _ body_depth field_depth depth_of b)

pub text_of_body : (b : Body-F Body Field Value) → body_text (roll-Body b) ≡ level b
text_of_body b = search (rules, the_lemmas)

pub within_of_body : (b : Body-F Body Field Value) → body_within (roll-Body b) ≡ level_within b
within_of_body b = search (rules, the_lemmas)

pub depth_of_body : (b : Body-F Body Field Value) → body_depth (roll-Body b) ≡ level_depth b
depth_of_body b = search (rules, the_lemmas)

pub text_of_field : (f : Field) → field_text f ≡ symbol_text f.name ++ codes ":" ++ value_text f.value
text_of_field f = search (rules, the_lemmas)

pub within_of_field : (f : Field) → field_within f ≡ (text_within f.name && within.within f.value)
within_of_field f = search (rules, the_lemmas)

pub depth_of_field : (f : Field) → field_depth f ≡ depth_of f.value
depth_of_field f = search (rules, the_lemmas)

pub text_of_value : (v : Value) → value_text v ≡ flat_map annotation_text v.annotations ++ body_text v.body
text_of_value v = search (rules, the_lemmas)

pub within_of_value : (v : Value) → within.within v ≡ (list_all text_within v.annotations && body_within v.body)
within_of_value v = search (rules, the_lemmas)

pub depth_of_value : (v : Value) → depth_of v ≡ body_depth v.body
depth_of_value v = search (rules, the_lemmas)

-- ---- no value's text begins with a colon

string_in_front : (rest s : List ℕ) → text_within s ≡ true → ReadsBefore rest (string_text s) (token.String s)
string_in_front rest s h = in_front rest (string_text s) (token.String s) (omega arith) (string_read s rest h)

clob_in_front : (rest bytes : List ℕ) → within.bytes_within bytes ≡ true → ReadsBefore rest (clob_text bytes) (token.Scalar (scalar.Clob bytes))
clob_in_front rest bytes h = in_front rest (clob_text bytes) _ (omega arith) (clob_read bytes rest h)

blob_in_front : (rest bytes : List ℕ) → within.bytes_within bytes ≡ true → ReadsBefore rest (blob_text bytes) (token.Scalar (scalar.Blob bytes))
blob_in_front rest bytes h = in_front rest (blob_text bytes) _ (omega arith) (blob_read bytes rest h)

level_front : (b : Body-F Body Field Value) (rest : List ℕ) → level_within b ≡ true → MayFollow rest → begins (codes ":") (level b ++ rest) ≡ false
level_front (Body-F.Null kind) rest h follows = no_colon rest (null_text kind) _ refl (null_read kind rest follows)
level_front (Body-F.Bool truth) rest h follows = no_colon rest (bool_text truth) _ refl (bool_read truth rest follows)
level_front (Body-F.Int n) rest h follows = no_colon rest (signed_decimal n) _ refl (int_read n h rest follows)
level_front (Body-F.Decimal d) rest h follows = no_colon rest (decimal_text d) _ refl (decimal_read d h rest follows)
level_front (Body-F.Timestamp t) rest h follows = no_colon rest (timestamp_text t) _ refl (time_read t h rest follows)
level_front (Body-F.Symbol text) rest h follows = symbol_front 58 text rest refl refl
level_front (Body-F.String text) rest h follows = refl
level_front (Body-F.Clob bytes) rest h follows = refl
level_front (Body-F.Blob bytes) rest h follows = refl
level_front (Body-F.List vs) rest h follows = refl
level_front (Body-F.Sexp vs) rest h follows = refl
level_front (Body-F.Struct fs) rest h follows = refl

body_front : (content : Body) (rest : List ℕ) → body_within content ≡ true → MayFollow rest → begins (codes ":") (body_text content ++ rest) ≡ false
body_front content rest h follows =
    subst (λ c. begins (codes ":") (body_text c ++ rest) ≡ false) (roll-out-Body content)
    (rw (text_of_body (out-Body content)) (level_front (out-Body content) rest (sym (within_of_body (out-Body content)) ∙ ap body_within (roll-out-Body content) ∙ h) follows))

names_front :
    (names : List (List ℕ)) (content : Body) (rest : List ℕ) → body_within content ≡ true → MayFollow rest →
    begins (codes ":") ((flat_map annotation_text names ++ body_text content) ++ rest) ≡ false
names_front [] content rest h follows = body_front content rest h follows
names_front (name ∷ names) content rest h follows =
    let more : List ℕ = flat_map annotation_text names in
    rw (append_assoc (annotation_text name ++ more) (body_text content) rest, append_assoc (annotation_text name) more (body_text content ++ rest), append_assoc (symbol_text name) (codes "::") (more ++ (body_text content ++ rest)))
    (symbol_front 58 name _ refl refl)

value_front : (v : Value) (rest : List ℕ) → within.within v ≡ true → MayFollow rest → begins (codes ":") (value_text v ++ rest) ≡ false
value_front v rest h follows =
    rw (text_of_value v) (names_front v.annotations v.body rest (and_parts (list_all text_within v.annotations) (body_within v.body) (sym (within_of_value v) ∙ h)).1 follows)

-- ---- what is shown of each value

-- a frame with one value more, with its annotations, behind which no name is pending
abbrev valued : Value → Frame → Frame
valued v f = record { members = table.with_member f.name v f.members; name = []; annotations = []; is_table = false; last = last.Value }

abbrev ReadBack : Value → Type 0
ReadBack v =
    within.within v ≡ true → (depth at : ℕ) (f : Frame) (fs : Open) (rest : List ℕ) → Ready (table.settled f) → (table.settled f).annotations ≡ [] →
    depth_of v + length fs ≤ depth → MayFollow rest → Reads depth at f fs (value_text v ++ rest) (valued v (table.settled f)) rest

-- ---- members of lists and sexps

module _ (depth : ℕ) (fs : Open) where
  list_first : (v : Value) → ReadBack v → within.within v ≡ true → depth_of v + length fs ≤ depth → First depth fs Value value_text members.List 44 refl v
  list_first v reads h room at rest follows =
      reads h depth at (table.opened (members.List [])) fs rest (record { begins = refl; no_name = refl; no_table = refl }) refl room follows

  list_next : (v : Value) → ReadBack v → within.within v ≡ true → depth_of v + length fs ≤ depth → Next depth fs Value value_text members.List 44 refl v
  list_next v reads h room at f vs rest is follows =
      let value : Reads depth (at + 1) (table.then_last last.Comma (filled (members.List vs))) fs (value_text v ++ rest) (filled (members.List (vs ++ v ∷ []))) rest =
      reads h depth (at + 1) (table.then_last last.Comma (filled (members.List vs))) fs rest (record { begins = refl; no_name = refl; no_table = refl }) refl room follows in
      record {
        to = value.to;
        frame = value.frame;
        settles = value.settles;
        run = turns.comma_turn depth at f fs (members.List vs) (value_text v ++ rest) is refl ∙ value.run;
      }

  sexp_first : (v : Value) → ReadBack v → within.within v ≡ true → depth_of v + length fs ≤ depth → First depth fs Value value_text members.Sexp 32 refl v
  sexp_first v reads h room at rest follows =
      reads h depth at (table.opened (members.Sexp [])) fs rest (record { begins = refl; no_name = refl; no_table = refl }) refl room follows

  -- behind a space what was read last is pending still
  sexp_next : (v : Value) → ReadBack v → within.within v ≡ true → depth_of v + length fs ≤ depth → Next depth fs Value value_text members.Sexp 32 refl v
  sexp_next v reads h room at f vs rest is follows =
      let ready : Ready (filled (members.Sexp vs)) = record { begins = refl; no_name = refl; no_table = refl } in
      let value : Reads depth (at + 1) f fs (value_text v ++ rest) (valued v (table.settled f)) rest =
      reads h depth (at + 1) f fs rest (subst Ready (sym is) ready) (ap (λ (g : Frame). g.annotations) is) room follows in
      record {
        to = value.to;
        frame = value.frame;
        settles = value.settles ∙ ap (valued v) is;
        run = turns.space_turn depth at (f ∷ fs) (value_text v ++ rest) ∙ value.run;
      }

  each_value :
      (P : Value → Type 0) → ((v : Value) → ReadBack v → within.within v ≡ true → depth_of v + length fs ≤ depth → P v) → (vs : List Value) → AllByRecursion ReadBack vs →
      all_true (map within.within vs) ≡ true → deepest (map depth_of vs) + length fs ≤ depth → AllByRecursion P vs
  each_value P one [] all h room = tt
  each_value P one (v ∷ vs) all h room =
      let both = and_parts (within.within v) (all_true (map within.within vs)) h in
      (one v all.0 both.0 (omega arith), each_value P one vs all.1 both.1 (omega arith))

  -- ---- fields of structs

  -- behind the name and the colon stands the value
  field_reads :
      (x : Field) → ReadBack x.value → field_within x ≡ true → field_depth x + length fs ≤ depth → (at : ℕ) (f : Frame) (xs : List Field) (rest : List ℕ) →
      (table.settled f).members ≡ members.Struct xs → (table.settled f).annotations ≡ [] → (table.settled f).is_table ≡ false →
      table.may_name (table.settled f).members (table.settled f).last ≡ true → MayFollow rest →
      Reads depth at f fs (field_text x ++ rest) (filled (members.Struct (xs ++ x ∷ []))) rest
  field_reads x reads h room at f xs rest is none no_table may follows =
      let both = and_parts (text_within x.name) (within.within x.value) (sym (within_of_field x) ∙ h) in
      let z_is : field_text x ++ rest ≡ symbol_text x.name ++ 58 ∷ (value_text x.value ++ rest) =
      ap (λ text. text ++ rest) (text_of_field x) ∙ append_assoc (symbol_text x.name ++ 58 ∷ []) (value_text x.value) rest
      ∙ append_assoc (symbol_text x.name) (58 ∷ []) (value_text x.value ++ rest) in
      let g : Frame = record { members = members.Struct xs; name = x.name; annotations = []; is_table = false; last = last.Colon } in
      let g_is : called x.name (table.settled f) ≡ g = rw (is, none, no_table) refl in
      let value : Reads depth (at + length (symbol_text x.name) + 1) g fs (value_text x.value ++ rest) (filled (members.Struct (xs ++ x ∷ []))) rest =
      reads both.1 depth (at + length (symbol_text x.name) + 1) g fs rest (record { begins = refl; no_name = refl; no_table = refl }) refl (rw (← depth_of_field x) room) follows in
      record {
        to = value.to;
        frame = value.frame;
        settles = value.settles;
        run =
            ap (λ z. run depth 0 at (f ∷ fs) z) z_is
            ∙ turns.name_turn depth at f fs (symbol_text x.name) x.name _ (value_text x.value ++ rest) may (symbol_in_front (58 ∷ (value_text x.value ++ rest)) x.name both.0 refl) (value_front x.value rest both.1 follows)
            ∙ ap (λ h. run depth 0 (at + length (symbol_text x.name) + 1) (h ∷ fs) (value_text x.value ++ rest)) g_is
            ∙ value.run;
      }

  struct_first : (x : Field) → ReadBack x.value → field_within x ≡ true → field_depth x + length fs ≤ depth → First depth fs Field field_text members.Struct 44 refl x
  struct_first x reads h room at rest follows = field_reads x reads h room at (table.opened (members.Struct [])) [] rest refl refl refl refl follows

  struct_next : (x : Field) → ReadBack x.value → field_within x ≡ true → field_depth x + length fs ≤ depth → Next depth fs Field field_text members.Struct 44 refl x
  struct_next x reads h room at f xs rest is follows =
      let value = field_reads x reads h room (at + 1) (table.then_last last.Comma (filled (members.Struct xs))) xs rest refl refl refl refl follows in
      record {
        to = value.to;
        frame = value.frame;
        settles = value.settles;
        run = turns.comma_turn depth at f fs (members.Struct xs) (field_text x ++ rest) is refl ∙ value.run;
      }

  each_field :
      (P : Field → Type 0) → ((x : Field) → ReadBack x.value → field_within x ≡ true → field_depth x + length fs ≤ depth → P x) → (xs : List Field) →
      AllByRecursion (λ f. ReadBack f.value) xs → all_true (map field_within xs) ≡ true → deepest (map field_depth xs) + length fs ≤ depth → AllByRecursion P xs
  each_field P one [] all h room = tt
  each_field P one (x ∷ xs) all h room =
      let both = and_parts (field_within x) (all_true (map field_within xs)) h in
      (one x all.0 both.0 (omega arith), each_field P one xs all.1 both.1 (omega arith))

-- ---- containers

list_read :
    (vs : List Value) → AllByRecursion ReadBack vs → all_true (map within.within vs) ≡ true → (depth at : ℕ) (f : Frame) (fs : Open) (rest : List ℕ) → Ready (table.settled f) →
    deepest (map depth_of vs) + 1 + length fs ≤ depth → Reads depth at f fs (level (Body-F.List vs) ++ rest) (table.with_value (body.List vs) (table.settled f)) rest
list_read vs each h depth at f fs rest ready room =
    let inside : Open = table.settled f ∷ fs in
    let pieces : List ℕ = joined (map value_text vs) in
    let read =
    members_read depth inside Value value_text members.List 44 refl vs (at + 1) (93 ∷ rest) (each_value depth inside _ (list_first depth inside) vs each h (omega arith))
    (each_value depth inside _ (list_next depth inside) vs each h (omega arith)) refl in
    record {
      to = read.to + 1;
      frame = table.with_value (body.List vs) (table.settled f);
      settles = refl;
      run =
          ap (λ z. run depth 0 at (f ∷ fs) (91 ∷ z)) (append_assoc pieces (93 ∷ []) rest)
          ∙ turns.list_opens depth at f fs (pieces ++ 93 ∷ rest) ready (omega arith)
          ∙ read.run
          ∙ turns.list_ends depth read.to read.frame (table.settled f) fs vs rest read.ends;
    }

sexp_read :
    (vs : List Value) → AllByRecursion ReadBack vs → all_true (map within.within vs) ≡ true → (depth at : ℕ) (f : Frame) (fs : Open) (rest : List ℕ) → Ready (table.settled f) →
    deepest (map depth_of vs) + 1 + length fs ≤ depth → Reads depth at f fs (level (Body-F.Sexp vs) ++ rest) (table.with_value (body.Sexp vs) (table.settled f)) rest
sexp_read vs each h depth at f fs rest ready room =
    let inside : Open = table.settled f ∷ fs in
    let pieces : List ℕ = parted 32 (map value_text vs) in
    let read =
    members_read depth inside Value value_text members.Sexp 32 refl vs (at + 1) (41 ∷ rest) (each_value depth inside _ (sexp_first depth inside) vs each h (omega arith))
    (each_value depth inside _ (sexp_next depth inside) vs each h (omega arith)) refl in
    record {
      to = read.to + 1;
      frame = table.with_value (body.Sexp vs) (table.settled f);
      settles = refl;
      run =
          ap (λ z. run depth 0 at (f ∷ fs) (40 ∷ z)) (append_assoc pieces (41 ∷ []) rest)
          ∙ turns.sexp_opens depth at f fs (pieces ++ 41 ∷ rest) ready (omega arith)
          ∙ read.run
          ∙ turns.sexp_ends depth read.to read.frame (table.settled f) fs vs rest read.ends;
    }

-- no second brace stands behind the first
fields_front : (xs : List Field) (rest : List ℕ) → begins (codes "{") (joined (map field_text xs) ++ 125 ∷ rest) ≡ false
fields_front [] rest = refl
fields_front (x ∷ xs) rest =
    let more : List ℕ = flat_map (λ next. 44 ∷ next) (map field_text xs) in
    rw (text_of_field x, append_assoc ((symbol_text x.name ++ 58 ∷ []) ++ value_text x.value) more (125 ∷ rest), append_assoc (symbol_text x.name ++ 58 ∷ []) (value_text x.value) (more ++ 125 ∷ rest), append_assoc (symbol_text x.name) (58 ∷ []) (value_text x.value ++ (more ++ 125 ∷ rest)))
    (symbol_front 123 x.name _ refl refl)

struct_read :
    (xs : List Field) → AllByRecursion (λ f. ReadBack f.value) xs → all_true (map field_within xs) ≡ true → (depth at : ℕ) (f : Frame) (fs : Open) (rest : List ℕ) →
    Ready (table.settled f) → deepest (map field_depth xs) + 1 + length fs ≤ depth →
    Reads depth at f fs (level (Body-F.Struct xs) ++ rest) (table.with_value (body.Struct xs) (table.settled f)) rest
struct_read xs each h depth at f fs rest ready room =
    let inside : Open = table.settled f ∷ fs in
    let pieces : List ℕ = joined (map field_text xs) in
    let read =
    members_read depth inside Field field_text members.Struct 44 refl xs (at + 1) (125 ∷ rest) (each_field depth inside _ (struct_first depth inside) xs each h (omega arith))
    (each_field depth inside _ (struct_next depth inside) xs each h (omega arith)) refl in
    record {
      to = read.to + 1;
      frame = table.with_value (body.Struct xs) (table.settled f);
      settles = refl;
      run =
          ap (λ z. run depth 0 at (f ∷ fs) (123 ∷ z)) (append_assoc pieces (125 ∷ []) rest)
          ∙ turns.struct_opens depth at f fs (pieces ++ 125 ∷ rest) ready (omega arith) (fields_front xs rest)
          ∙ read.run
          ∙ turns.struct_ends depth read.to read.frame (table.settled f) fs xs rest read.ends;
    }

-- ---- each level

ends_name : (rest : List ℕ) → MayFollow rest → ends_symbol rest ≡ true
ends_name [] follows = refl
ends_name (b ∷ rest) follows = grind (arith, nat_tests)

-- the body of a level
abbrev content : Body-F Body Field Value → Body
content (Body-F.Null kind) = body.Null kind
content (Body-F.Bool truth) = body.Bool truth
content (Body-F.Int n) = body.Int n
content (Body-F.Decimal d) = body.Decimal d
content (Body-F.Timestamp t) = body.Timestamp t
content (Body-F.Symbol text) = body.Symbol text
content (Body-F.String text) = body.String text
content (Body-F.Clob bytes) = body.Clob bytes
content (Body-F.Blob bytes) = body.Blob bytes
content (Body-F.List vs) = body.List vs
content (Body-F.Sexp vs) = body.Sexp vs
content (Body-F.Struct xs) = body.Struct xs

content_is : (b : Body-F Body Field Value) → content b ≡ roll-Body b
content_is (Body-F.Null kind) = search (rules, the_lemmas)
content_is (Body-F.Bool truth) = search (rules, the_lemmas)
content_is (Body-F.Int n) = search (rules, the_lemmas)
content_is (Body-F.Decimal d) = search (rules, the_lemmas)
content_is (Body-F.Timestamp t) = search (rules, the_lemmas)
content_is (Body-F.Symbol text) = search (rules, the_lemmas)
content_is (Body-F.String text) = search (rules, the_lemmas)
content_is (Body-F.Clob bytes) = search (rules, the_lemmas)
content_is (Body-F.Blob bytes) = search (rules, the_lemmas)
content_is (Body-F.List vs) = search (rules, the_lemmas)
content_is (Body-F.Sexp vs) = search (rules, the_lemmas)
content_is (Body-F.Struct xs) = search (rules, the_lemmas)

level_read :
    (b : Body-F Body Field Value) → EachMember ReadBack b → level_within b ≡ true → (depth at : ℕ) (f : Frame) (fs : Open) (rest : List ℕ) → Ready (table.settled f) →
    level_depth b + length fs ≤ depth → MayFollow rest → Reads depth at f fs (level b ++ rest) (table.with_value (content b) (table.settled f)) rest
level_read (Body-F.Null kind) each h depth at f fs rest ready room follows =
    turns.scalar_turn depth at f fs (null_text kind) rest (scalar.Null kind) ready (null_read kind rest follows)
level_read (Body-F.Bool truth) each h depth at f fs rest ready room follows =
    turns.scalar_turn depth at f fs (bool_text truth) rest (scalar.Bool truth) ready (bool_read truth rest follows)
level_read (Body-F.Int n) each h depth at f fs rest ready room follows =
    turns.scalar_turn depth at f fs (signed_decimal n) rest (scalar.Int n) ready (int_read n h rest follows)
level_read (Body-F.Decimal d) each h depth at f fs rest ready room follows =
    turns.scalar_turn depth at f fs (decimal_text d) rest (scalar.Decimal d) ready (decimal_read d h rest follows)
level_read (Body-F.Timestamp t) each h depth at f fs rest ready room follows =
    turns.scalar_turn depth at f fs (timestamp_text t) rest (scalar.Timestamp t) ready (time_read t h rest follows)
level_read (Body-F.Symbol text) each h depth at f fs rest ready room follows =
    turns.symbol_turn depth at f fs (symbol_text text) rest text ready (symbol_in_front rest text h (ends_name rest follows))
level_read (Body-F.String text) each h depth at f fs rest ready room follows =
    turns.string_turn depth at f fs (string_text text) rest text ready (string_in_front rest text h)
level_read (Body-F.Clob bytes) each h depth at f fs rest ready room follows =
    turns.scalar_turn depth at f fs (clob_text bytes) rest (scalar.Clob bytes) ready (clob_in_front rest bytes h)
level_read (Body-F.Blob bytes) each h depth at f fs rest ready room follows =
    turns.scalar_turn depth at f fs (blob_text bytes) rest (scalar.Blob bytes) ready (blob_in_front rest bytes h)
level_read (Body-F.List vs) each h depth at f fs rest ready room follows = list_read vs each h depth at f fs rest ready room
level_read (Body-F.Sexp vs) each h depth at f fs rest ready room follows = sexp_read vs each h depth at f fs rest ready room
level_read (Body-F.Struct xs) each h depth at f fs rest ready room follows = struct_read xs each h depth at f fs rest ready room

-- ---- each value

valued_is :
    (names : List (List ℕ)) (content : Body) (g f : Frame) → g.members ≡ f.members → g.name ≡ f.name → g.annotations ≡ f.annotations ++ names → f.annotations ≡ [] →
    table.with_value content g ≡ valued (record { annotations = names; body = content }) f
valued_is names content g f ms name all none = rw (ms, name, all, none) refl

-- a body behind its annotations
body_behind :
    (names : List (List ℕ)) (content : Body) (depth at : ℕ) (f : Frame) (fs : Open) (z y rest : List ℕ) (notes : Notes depth at f fs z names y) → (table.settled f).annotations ≡ [] →
    Reads depth notes.to notes.frame fs y (table.with_value content (table.settled notes.frame)) rest →
    Reads depth at f fs z (valued (record { annotations = names; body = content }) (table.settled f)) rest
body_behind names content depth at f fs z y rest notes none inside = record {
  to = inside.to;
  frame = inside.frame;
  settles = inside.settles ∙ valued_is names content (table.settled notes.frame) (table.settled f) notes.members notes.name notes.annotations none;
  run = notes.run ∙ inside.run;
}

body_read :
    (b : Body-F Body Field Value) → EachMember ReadBack b → level_within b ≡ true → (depth at : ℕ) (f : Frame) (fs : Open) (rest : List ℕ) → Ready (table.settled f) →
    level_depth b + length fs ≤ depth → MayFollow rest → Reads depth at f fs (level b ++ rest) (table.with_value (roll-Body b) (table.settled f)) rest
body_read b each h depth at f fs rest ready room follows =
    subst (λ c. Reads depth at f fs (level b ++ rest) (table.with_value c (table.settled f)) rest) (content_is b) (level_read b each h depth at f fs rest ready room follows)

value_read : (names : List (List ℕ)) (b : Body-F Body Field Value) → EachMember ReadBack b → ReadBack (record { annotations = names; body = roll-Body b })
value_read names b each h depth at f fs rest ready none room follows =
    let v : Value = record { annotations = names; body = roll-Body b } in
    let both = and_parts (list_all text_within names) (body_within (roll-Body b)) (sym (within_of_value v) ∙ h) in
    let notes = annotations_read names both.0 depth at f fs (level b ++ rest) ready in
    let deep : level_depth b ≡ depth_of v = sym (depth_of_value v ∙ depth_of_body b) in
    let inside = body_read b each (sym (within_of_body b) ∙ both.1) depth notes.to notes.frame fs rest notes.ready (omega (arith, deep)) follows in
    let z_is : value_text v ++ rest ≡ flat_map annotation_text names ++ (level b ++ rest) =
    ap (λ text. text ++ rest) (text_of_value v ∙ ap (λ text. flat_map annotation_text names ++ text) (text_of_body b)) ∙ append_assoc (flat_map annotation_text names) (level b) rest in
    subst (λ (z : List ℕ). Reads depth at f fs z (valued v (table.settled f)) rest) (sym z_is) (body_behind names (roll-Body b) depth at f fs _ _ rest notes none inside)

pub read_back : (v : Value) → ReadBack v
read_back = by_members ReadBack value_read

-- the whole text
finished : (at : ℕ) (v : Value) (f : Frame) → table.settled f ≡ valued v (table.opened (members.Stream [])) → finish at (f ∷ []) ≡ Ok (v ∷ [])
finished at v f is = rw is refl

pub run_back : (v : Value) (depth : ℕ) → within.within v ≡ true → depth_of v ≤ depth → read_utf8 depth (value_text v) ≡ Ok (v ∷ [])
run_back v depth h room =
    let reads = read_back v h depth 0 (table.opened (members.Stream [])) [] [] (record { begins = refl; no_name = refl; no_table = refl }) refl (omega arith) tt in
    ap (λ text. run depth 0 0 table.start text) (sym (append-nil (value_text v))) ∙ reads.run ∙ finished reads.to v reads.frame reads.settles
