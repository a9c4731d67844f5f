-- Readings of what a transaction said and did are inverse to their writings.
use Rattle.std.proofs.Common.{◌≡◌, ◌∙◌, ◌&&◌, ◌==◌, ℕ, suc, ◌^◌, Bool, true, false, List, [], ◌∷◌, map, length, Option, Some, None, refl, ap, subst, codes, bytes_eq, if◌then◌else◌, arith}
use Rattle.std.specs.Prelude.{option_map}
use Rattle.std.specs.List.{list_all}
use Rattle.std.specs.Cmp.Derive.{both_true}
use Rattle.std.proofs.lemmas.Bool.{eqb-true}
use Rattle.std.proofs.lemmas.Bool.Decides.{nat_tests}
use Rattle.std.proofs.lemmas.Slice.Eq.{bytes_eq-Decides}
use Rattle.ion_values.specs.declared.value.Value.{Value}
use Rattle.ion_values.specs.declared.value.Field.{Field}
use Rattle.ql_types.specs.declared.Hash32.{Hash32}
use Rattle.ql_types.specs.declared.Place.{Place}
use Rattle.ql_types.specs.declared.TableId.{TableId}
use Rattle.ledger_model.specs.declared.block.Said.{Said}
use Rattle.ledger_model.specs.declared.block.Schema.{Schema}
use Rattle.ledger_model.specs.declared.block.Schema.TheVariants.{Create, Index, Drop, Redact}
use Rattle.ledger_model.specs.declared.block.Revision.{Revision}
use Rattle.ledger_model.specs.declared.block.Told.{Told}
use Rattle.ledger_model.specs.declared.block.Told.TheVariants as told
use Rattle.ledger_model.specs.declared.block.Info.{Info}
use Rattle.ledger_model.specs.Values.{field, fields_in, list_in, string_in}
use Rattle.ledger_model.specs.Journal.{structure, list, string, number, id_value, address_value, place_value, said_value, change_value, schema_value, document_value, document_values, told_field, info_value}
use Rattle.ledger_model.specs.Script.{and_then, each}
use Rattle.ledger_model.specs.Whole.{id_fits, table_fits, place_fits, schema_fits, info_fits, revision_fits, told_fits, address_fits}
use Rattle.value_codec.specs.ReadParts.{address_in, hash_in, named, number_in, id_in}
use Rattle.block_form.specs.ReadBack.{place_of, place_in, said_of, said_in, change_of, redaction_of, schema_of, schema_in, table_of, table_in, tables_of, told_of, info_of, info_in}
use Rattle.value_codec.proofs.Inverse.{Gets, Puts, took, fields-gets, left, right, cons}
use Rattle.value_codec.proofs.SmallParts.{fields-puts, list-gets, list-puts, string-gets, string-puts, below, number-gets, number-puts, id-gets, id-puts, hash-gets, hash-puts}
use Rattle.value_codec.proofs.Fields.{named-is, taken, taken_all, always, each-gets, each-puts, address-gets, address-puts}

-- ---- places

place_of-is : (fs : List Field) (p : Place) → place_of fs ≡ Some p → (structure fs ≡ place_value p) × (place_fits p ≡ true)
place_of-is (f ∷ g ∷ []) p e =
    let a = taken (number_in (2 ^ 32)) number (below (2 ^ 32)) (number-gets (2 ^ 32)) (codes "session") f _ p e in
    let b = taken (number_in (2 ^ 32)) number (below (2 ^ 32)) (number-gets (2 ^ 32)) (codes "transaction") g _ p a.3 in
    let made : Place = record { session = a.0; transaction = b.0 } in
    let same : made ≡ p = cc in
    subst (λ x. (structure (f ∷ g ∷ []) ≡ place_value x) × (place_fits x ≡ true)) same
    (ap structure (cons a.1 (cons b.1 refl)), both_true a.2 b.2)
place_of-is [] p e = cc
place_of-is (f ∷ []) p e = cc
place_of-is (f ∷ g ∷ h ∷ fs) p e = cc

place-gets : Gets place_in place_value place_fits
place-gets v p e =
    let t = took (fields_in v) place_of p e in
    let s = place_of-is t.0 p t.2 in
    (fields-gets v t.0 t.1 ∙ s.0, s.1)

place-puts : Puts place_in place_value place_fits
place-puts p fits =
    let a = number-puts (2 ^ 32) p.session (left _ _ fits) in
    let b = number-puts (2 ^ 32) p.transaction (right _ _ fits) in
    rw (fields-puts _, a, b) refl

-- ---- statements

said_of-is : (fs : List Field) (s : Said) → said_of fs ≡ Some s → structure fs ≡ said_value s
said_of-is (f ∷ g ∷ h ∷ []) s e =
    let a = taken string_in string always (λ v t is. (string-gets v t is, refl)) (codes "statement") f _ s e in
    let b = taken list_in list always (λ v t is. (list-gets v t is, refl)) (codes "parameters") g _ s a.3 in
    let c = taken list_in list always (λ v t is. (list-gets v t is, refl)) (codes "answer") h _ s b.3 in
    let made : Said = record { text = a.0; params = b.0; answer = record { rows = c.0 } } in
    let same : made ≡ s = cc in
    subst (λ x. structure (f ∷ g ∷ h ∷ []) ≡ said_value x) same (ap structure (cons a.1 (cons b.1 (cons c.1 refl))))
said_of-is [] s e = cc
said_of-is (f ∷ []) s e = cc
said_of-is (f ∷ g ∷ []) s e = cc
said_of-is (f ∷ g ∷ h ∷ i ∷ fs) s e = cc

said-gets : Gets said_in said_value always
said-gets v s e =
    let t = took (fields_in v) said_of s e in
    (fields-gets v t.0 t.1 ∙ said_of-is t.0 s t.2, refl)

said-puts : Puts said_in said_value always
said-puts s fits = rw (fields-puts _, string-puts s.text, list-puts s.params, list-puts s.answer.rows) refl

-- ---- changes of the schema

-- the change is of this kind and fits where its table does
abbrev IsChange : List ℕ → List ℕ → TableId → Schema → Type 0
IsChange kind name table s = (change_value kind name table ≡ schema_value s) × (schema_fits s ≡ table_fits table)

change_of-is : (kind name : List ℕ) (table : TableId) (s : Schema) → change_of kind name table ≡ Some s
    → IsChange kind name table s
change_of-is kind name table s e = go (bytes_eq kind (codes "create")) refl e where
  at : (c : List ℕ) (made : Schema) → bytes_eq kind c ≡ true → IsChange c name table made
      → Some made ≡ Some s → IsChange kind name table s
  at c made t e is =
      let same : made ≡ s = cc in
      let k : kind ≡ c = (bytes_eq-Decides kind c).0 t in
      subst (λ x. IsChange kind name table x) same (ap (λ k. change_value k name table) k ∙ e.0, e.1)

  third : (b : Bool) → bytes_eq kind (codes "drop") ≡ b → (if b then Some (Drop name table) else None) ≡ Some s
      → IsChange kind name table s
  third true t e = at (codes "drop") (Drop name table) t (refl, refl) e
  third false t e = cc

  second : (b : Bool) → bytes_eq kind (codes "index") ≡ b
      → (if b then Some (Index name table) else if bytes_eq kind (codes "drop") then Some (Drop name table) else None) ≡ Some s
      → IsChange kind name table s
  second true t e = at (codes "index") (Index name table) t (refl, refl) e
  second false t e = third (bytes_eq kind (codes "drop")) refl e

  go : (b : Bool) → bytes_eq kind (codes "create") ≡ b
      → (if b then Some (Create name table) else if bytes_eq kind (codes "index") then Some (Index name table) else if bytes_eq kind (codes "drop") then Some (Drop name table) else None) ≡ Some s
      → IsChange kind name table s
  go true t e = at (codes "create") (Create name table) t (refl, refl) e
  go false t e = second (bytes_eq kind (codes "index")) refl e

redaction_of-is : (fs : List Field) (s : Schema) → redaction_of fs ≡ Some s → (structure fs ≡ schema_value s) × (schema_fits s ≡ true)
redaction_of-is (f ∷ g ∷ h ∷ []) s e =
    let a = taken address_in address_value address_fits address-gets (codes "redact") f _ s e in
    let b = taken id_in id_value id_fits id-gets (codes "tableId") g _ s a.3 in
    let c = taken id_in id_value id_fits id-gets (codes "documentId") h _ s b.3 in
    let made : Schema = Redact a.0 (record { raw = b.0 }) (record { raw = c.0 }) in
    let same : made ≡ s = cc in
    subst (λ (x : Schema). (structure (f ∷ g ∷ h ∷ []) ≡ schema_value x) × (schema_fits x ≡ true)) same
    (ap structure (cons a.1 (cons b.1 (cons c.1 refl))), both_true (both_true a.2 b.2) c.2)
redaction_of-is [] s e = cc
redaction_of-is (f ∷ []) s e = cc
redaction_of-is (f ∷ g ∷ []) s e = cc
redaction_of-is (f ∷ g ∷ h ∷ i ∷ fs) s e = cc

schema_of-is : (fs : List Field) (s : Schema) → schema_of fs ≡ Some s → (structure fs ≡ schema_value s) × (schema_fits s ≡ true)
schema_of-is (f ∷ g ∷ []) s e =
    let a = took (string_in f.value) _ s e in
    let b = taken id_in id_value id_fits id-gets (codes "tableId") g _ s a.2 in
    let c = change_of-is f.name a.0 (record { raw = b.0 }) s b.3 in
    (ap structure (cons (ap (field f.name) (string-gets f.value a.0 a.1)) (cons b.1 refl)) ∙ c.0, c.1 ∙ b.2)
schema_of-is [] s e = cc
schema_of-is (f ∷ []) s e = cc
schema_of-is (f ∷ g ∷ h ∷ fs) s e = redaction_of-is (f ∷ g ∷ h ∷ fs) s e

schema-gets : Gets schema_in schema_value schema_fits
schema-gets v s e =
    let t = took (fields_in v) schema_of s e in
    let c = schema_of-is t.0 s t.2 in
    (fields-gets v t.0 t.1 ∙ c.0, c.1)

schema-puts : Puts schema_in schema_value schema_fits
schema-puts (Create name table) fits = let a = id-puts table.raw fits in rw (fields-puts _, string-puts name, a) refl
schema-puts (Index name table) fits = let a = id-puts table.raw fits in rw (fields-puts _, string-puts name, a) refl
schema-puts (Drop name table) fits = let a = id-puts table.raw fits in rw (fields-puts _, string-puts name, a) refl
schema-puts (Redact address table document) fits =
    let both = left (address_fits address && table_fits table) _ fits in
    let a = address-puts address (left (address_fits address) _ both) in
    let b = id-puts table.raw (right (address_fits address) _ both) in
    let c = id-puts document.raw (right (address_fits address && table_fits table) _ fits) in
    rw (fields-puts _, a, b, c) refl

-- ---- documents

table_of-is : (r : Revision) (fs : List Field) (t : TableId) → table_of r fs ≡ Some t → (structure fs ≡ document_value t r) × (table_fits t ≡ true)
table_of-is r (f ∷ g ∷ []) t e =
    let a = taken id_in id_value id_fits id-gets (codes "documentId") f _ t e in
    let b = taken id_in id_value id_fits id-gets (codes "tableId") g _ t a.3 in
    go a.0 b.0 a.1 b.1 b.2 (a.0 == r.metadata.id.raw) refl b.3 where
      go : (document table : ℕ) → f ≡ field (codes "documentId") (id_value document) → g ≡ field (codes "tableId") (id_value table) → id_fits table ≡ true
          → (b : Bool) → (document == r.metadata.id.raw) ≡ b → (if b then Some (record { raw = table }) else None) ≡ Some t
          → (structure (f ∷ g ∷ []) ≡ document_value t r) × (table_fits t ≡ true)
      go document table fe ge fits true is e =
          let same : document ≡ r.metadata.id.raw = eqb-true document r.metadata.id.raw is in
          let made : TableId = record { raw = table } in
          let here : made ≡ t = cc in
          subst (λ x. (structure (f ∷ g ∷ []) ≡ document_value x r) × (table_fits x ≡ true)) here
          (ap structure (cons (fe ∙ ap (λ d. field (codes "documentId") (id_value d)) same) (cons ge refl)), fits)
      go document table fe ge fits false is e = cc
table_of-is r [] t e = cc
table_of-is r (f ∷ []) t e = cc
table_of-is r (f ∷ g ∷ h ∷ fs) t e = cc

table-gets : (r : Revision) (v : Value) (t : TableId) → table_in r v ≡ Some t → (v ≡ document_value t r) × (table_fits t ≡ true)
table-gets r v t e =
    let s = took (fields_in v) (table_of r) t e in
    let c = table_of-is r s.0 t s.2 in
    (fields-gets v s.0 s.1 ∙ c.0, c.1)

table-puts : (r : Revision) (t : TableId) → id_fits r.metadata.id.raw ≡ true → table_fits t ≡ true → table_in r (document_value t r) ≡ Some t
table-puts r t document fits =
    let a = id-puts r.metadata.id.raw document in
    let b = id-puts t.raw fits in
    let same : (r.metadata.id.raw == r.metadata.id.raw) ≡ true = grind (arith, nat_tests) in
    rw (fields-puts _, a, b, same) refl

abbrev TablesOf : List Value → List Revision → List TableId → Type 0
TablesOf vs rs ts = (vs ≡ document_values ts rs) × (list_all table_fits ts ≡ true) × (length ts ≡ length rs)

tables-gets : (vs : List Value) (rs : List Revision) (ts : List TableId) → tables_of vs rs ≡ Some ts → TablesOf vs rs ts
tables-gets [] [] [] e = (refl, refl, refl)
tables-gets [] [] (t ∷ ts) e = cc
tables-gets [] (r ∷ rs) ts e = cc
tables-gets (v ∷ vs) [] ts e = cc
tables-gets (v ∷ vs) (r ∷ rs) ts e =
    let s = took (table_in r v) (λ t. option_map (λ ts. t ∷ ts) (tables_of vs rs)) ts e in
    more s.0 (table-gets r v s.0 s.1) (λ us is. tables-gets vs rs us is) (tables_of vs rs) refl s.2 where
      more : (t : TableId) → (v ≡ document_value t r) × (table_fits t ≡ true) → ((us : List TableId) → tables_of vs rs ≡ Some us → TablesOf vs rs us)
          → (o : Option (List TableId)) → tables_of vs rs ≡ o → option_map (λ us. t ∷ us) o ≡ Some ts → TablesOf (v ∷ vs) (r ∷ rs) ts
      more t c ih None is e = cc
      more t c ih (Some us) is e =
          let same : t ∷ us ≡ ts = cc in
          let i = ih us is in
          subst (λ x. TablesOf (v ∷ vs) (r ∷ rs) x) same (cons c.0 i.0, both_true c.1 i.1, ap suc i.2)

tables-puts : (ts : List TableId) (rs : List Revision) → length ts ≡ length rs → list_all table_fits ts ≡ true → list_all revision_fits rs ≡ true
    → tables_of (document_values ts rs) rs ≡ Some ts
tables-puts [] [] long fits revisions = refl
tables-puts [] (r ∷ rs) long fits revisions = absurd (omega arith)
tables-puts (t ∷ ts) [] long fits revisions = absurd (omega arith)
tables-puts (t ∷ ts) (r ∷ rs) long fits revisions =
    let shorter : length ts ≡ length rs = omega arith in
    let of_r = right _ _ (left _ _ (left (revision_fits r) _ revisions)) in
    let this = table-puts r t (left _ _ (left _ _ of_r)) (left _ _ fits) in
    let more = tables-puts ts rs shorter (right (table_fits t) _ fits) (right (revision_fits r) _ revisions) in
    rw (this, more) refl

-- ---- the whole

-- the statements, or their hash
abbrev ToldOf : Field → Told → Type 0
ToldOf g t = (g ≡ told_field t) × (told_fits t ≡ true)

told-gets : (g : Field) (t : Told) → told_of g ≡ Some t → ToldOf g t
told-gets g t e = go (bytes_eq g.name (codes "statementsHash")) refl e where
  hashed : bytes_eq g.name (codes "statementsHash") ≡ true → (o : Option Hash32) → hash_in g.value ≡ o → option_map (λ h. told.Hashed h) o ≡ Some t
      → ToldOf g t
  hashed same None is e = cc
  hashed same (Some h) is e =
      let s = hash-gets g.value h is in
      let this : told.Hashed h ≡ t = cc in
      let name : g.name ≡ codes "statementsHash" = (bytes_eq-Decides g.name (codes "statementsHash")).0 same in
      subst (λ x. ToldOf g x) this (ap (λ n. field n g.value) name ∙ ap (field (codes "statementsHash")) s.0, s.1)

  said : (o : Option (List Said)) → and_then (and_then (named (codes "statements") g) list_in) (each said_in) ≡ o
      → option_map (λ xs. told.Said xs) o ≡ Some t → ToldOf g t
  said None is e = cc
  said (Some xs) is e =
      let u = took (and_then (named (codes "statements") g) list_in) (each said_in) xs is in
      let w = took (named (codes "statements") g) list_in u.0 u.1 in
      let s = each-gets said_in said_value always said-gets u.0 xs u.2 in
      let this : told.Said xs ≡ t = cc in
      subst (λ x. ToldOf g x) this
      (named-is (codes "statements") g w.0 w.1 ∙ ap (field (codes "statements")) (list-gets w.0 u.0 w.2 ∙ ap list s.0), refl)

  go : (b : Bool) → bytes_eq g.name (codes "statementsHash") ≡ b
      → (if b then option_map (λ h. told.Hashed h) (hash_in g.value)
      else option_map (λ xs. told.Said xs) (and_then (and_then (named (codes "statements") g) list_in) (each said_in))) ≡ Some t → ToldOf g t
  go true same e = hashed same (hash_in g.value) refl e
  go false same e = said (and_then (and_then (named (codes "statements") g) list_in) (each said_in)) refl e

all_always : {A : Type 0} → (xs : List A) → list_all always xs ≡ true
all_always [] = refl
all_always (x ∷ xs) = all_always xs

told-puts : (t : Told) → told_fits t ≡ true → told_of (told_field t) ≡ Some t
told-puts (told.Said said) fits =
    let b = each-puts said_in said_value always said-puts said (all_always said) in
    rw (list-puts (map said_value said), b) refl
told-puts (told.Hashed hash) fits = rw (hash-puts hash fits) refl

-- the value holds what was said and done, which fits
abbrev pub IsInfo : Value → List Revision → Info → Type 0
IsInfo v rs i = (v ≡ info_value i rs) × (info_fits i ≡ true) × (length i.tables ≡ length rs)

info_of-is : (rs : List Revision) (fs : List Field) (i : Info) → info_of rs fs ≡ Some i
    → IsInfo (structure fs) rs i
info_of-is rs (f ∷ g ∷ h ∷ j ∷ []) i e =
    let a = taken place_in place_value place_fits place-gets (codes "place") f _ i e in
    let t = took (told_of g) _ i a.3 in
    let b = told-gets g t.0 t.1 in
    let c = taken_all schema_in schema_value schema_fits schema-gets (codes "schema") h _ i t.2 in
    let d = took (and_then (and_then (named (codes "documents") j) list_in) (λ values. tables_of values rs)) _ i c.3 in
    let u = took (and_then (named (codes "documents") j) list_in) (λ values. tables_of values rs) d.0 d.1 in
    let w = took (named (codes "documents") j) list_in u.0 u.1 in
    let s = tables-gets u.0 rs d.0 u.2 in
    let made : Info = record { place = a.0; said = t.0; schema = c.0; tables = d.0 } in
    let same : made ≡ i = cc in
    subst (λ (x : Info). IsInfo (structure (f ∷ g ∷ h ∷ j ∷ [])) rs x) same (
      ap structure (cons a.1 (cons b.0 (cons c.1 (cons (named-is (codes "documents") j w.0 w.1 ∙ ap (field (codes "documents")) (list-gets w.0 u.0 w.2 ∙ ap list s.0)) refl)))),
      both_true (both_true (both_true a.2 c.2) s.1) b.1,
      s.2,
    )
info_of-is rs [] i e = cc
info_of-is rs (f ∷ []) i e = cc
info_of-is rs (f ∷ g ∷ []) i e = cc
info_of-is rs (f ∷ g ∷ h ∷ []) i e = cc
info_of-is rs (f ∷ g ∷ h ∷ j ∷ k ∷ fs) i e = cc

pub info-gets : (rs : List Revision) (v : Value) (i : Info) → info_in rs v ≡ Some i → IsInfo v rs i
info-gets rs v i e =
    let t = took (fields_in v) (info_of rs) i e in
    let c = info_of-is rs t.0 i t.2 in
    (fields-gets v t.0 t.1 ∙ c.0, c.1, c.2)

-- what was said and done, by its parts
abbrev info_with : Place → Told → List Schema → List TableId → Info
info_with place t schema tables = record { place = place; said = t; schema = schema; tables = tables }

put_info : (rs : List Revision) (place : Place) (t : Told) (schema : List Schema) (tables : List TableId) → info_fits (info_with place t schema tables) ≡ true
    → length tables ≡ length rs → list_all revision_fits rs ≡ true
    → info_in rs (info_value (info_with place t schema tables) rs) ≡ Some (info_with place t schema tables)
put_info rs place t schema tables fits long revisions =
    let three = left (place_fits place && list_all schema_fits schema && list_all table_fits tables) _ fits in
    let two = left (place_fits place && list_all schema_fits schema) _ three in
    let a = place-puts place (left (place_fits place) _ two) in
    let b = told-puts t (right (place_fits place && list_all schema_fits schema && list_all table_fits tables) _ fits) in
    let c = each-puts schema_in schema_value schema_fits schema-puts schema (right (place_fits place) _ two) in
    let d = tables-puts tables rs long (right (place_fits place && list_all schema_fits schema) _ three) revisions in
    rw (fields-puts _, a, b, list-puts (map schema_value schema), c, list-puts (document_values tables rs), d) refl

pub info-puts : (rs : List Revision) (i : Info) → info_fits i ≡ true → length i.tables ≡ length rs → list_all revision_fits rs ≡ true
    → info_in rs (info_value i rs) ≡ Some i
info-puts rs i fits long revisions = put_info rs i.place i.said i.schema i.tables fits long revisions
