-- Names after one change more, and after the changes of one block more.
use Rattle.std.proofs.Common.{◌≡◌, ◌∙◌, ℕ, ◌+◌, ◌<◌, ◌==◌, Bool, true, false, cond, if◌then◌else◌, List, [], ◌∷◌, ◌++◌, take, length, get_or, Option, Some, None, refl, sym, ap, append_assoc, append-nil}
use Rattle.std.specs.Option.{unwrap_or}
use Rattle.std.specs.Ordering.{nat_cmp}
use Rattle.std.specs.BTreeMap.{get, is_at}
use Rattle.std.proofs.lemmas.List.{take_more}
use Rattle.ql_types.specs.declared.TableId.{TableId}
use Rattle.ledger_model.specs.declared.block.Schema.{Schema}
use Rattle.ledger_model.specs.declared.block.Schema.TheVariants.{Create}
use Rattle.ledger_model.specs.declared.block.Block.{Block}
use Rattle.ledger_model.specs.Script.{or_else}
use Rattle.stream_out.specs.Streams.{created_name, name_in, name_of, changes_in}
use Rattle.stream_out.specs.declared.names.Names.{Names}
use Rattle.stream_out.specs.Named.{NamesStand, Takes}
use Rattle.stream_out.proofs.Kept.{is_eq-nat_cmp}

or_none : {A : Type 0} (o : Option A) → o ≡ or_else o None
or_none None = refl
or_none (Some x) = refl

or_assoc : {A : Type 0} (a b c : Option A) → or_else (or_else a b) c ≡ or_else a (or_else b c)
or_assoc None b c = refl
or_assoc (Some x) b c = refl

pub name_in-push : (cs : List Schema) (c : Schema) (id : ℕ) → name_in (cs ++ c ∷ []) id ≡ or_else (created_name c id) (name_in cs id)
name_in-push [] c id = or_none (created_name c id)
name_in-push (d ∷ ds) c id =
    ap (λ o. or_else o (created_name d id)) (name_in-push ds c id) ∙ or_assoc (created_name c id) (name_in ds id) (created_name d id)

pub with_change : (before : List Schema) (c : Schema) (old new : Names) → NamesStand before old
    → Takes c old new → NamesStand (before ++ c ∷ []) new
with_change before c old new stand h = λ id. h id ∙ ap (or_else (created_name c id)) (stand id) ∙ sym (name_in-push before c id)

pub push_more : {A : Type 0} (before xs : List A) (i : ℕ) (x : A) → i < length xs → x ≡ get_or xs i x → (before ++ take i xs) ++ x ∷ [] ≡ before ++ take (i + 1) xs
push_more {A} before xs i x within is =
    append_assoc before (take i xs) (x ∷ [])
    ∙ ap (λ (y : A). before ++ (take i xs ++ y ∷ [])) is ∙ ap (λ (ys : List A). before ++ ys) (sym (take_more xs i x within))

pub changes_in-push : (bs : List Block) (b : Block) → changes_in (bs ++ b ∷ []) ≡ changes_in bs ++ b.info.schema
changes_in-push [] b = append-nil b.info.schema
changes_in-push (c ∷ cs) b = ap (λ x. c.info.schema ++ x) (changes_in-push cs b) ∙ sym (append_assoc c.info.schema (changes_in cs) b.info.schema)

pub changes_more : (bs : List Block) (i : ℕ) (b : Block) → i < length bs → b ≡ get_or bs i b → changes_in (take i bs) ++ b.info.schema ≡ changes_in (take (i + 1) bs)
changes_more bs i b within is =
    sym (changes_in-push (take i bs) b) ∙ ap changes_in (push_more [] bs i b within is)

-- ---- one change, and one name, by what the map says

both_of_keys : (b : Bool) (x : List ℕ) (o : Option (List ℕ)) → cond b (Some x) o ≡ or_else (if b then Some x else None) o
both_of_keys true x o = refl
both_of_keys false x o = refl

pub taken : (c : Schema) (name copied : List ℕ) (table : TableId) (old new : Names) → c ≡ Create name table → copied ≡ name
    → ((q : ℕ) → get nat_cmp new.created q ≡ cond (is_at (nat_cmp table.raw) q) (Some copied) (get nat_cmp old.created q)) → Takes c old new
taken c name copied table old new is same updates = λ id.
    updates id ∙ ap (λ (b : Bool). cond b (Some copied) (get nat_cmp old.created id)) (is_eq-nat_cmp table.raw id)
    ∙ ap (λ (x : List ℕ). cond (table.raw == id) (Some x) (get nat_cmp old.created id)) same
    ∙ both_of_keys (table.raw == id) name (get nat_cmp old.created id)
    ∙ ap (λ (x : Schema). or_else (created_name x id) (get nat_cmp old.created id)) (sym is)

pub untaken : (c d : Schema) (held : Names) → c ≡ d → ((id : ℕ) → created_name d id ≡ None) → Takes c held held
untaken c d held is none = λ id.
    ap (λ (o : Option (List ℕ)). or_else o (get nat_cmp held.created id)) (sym (none id))
    ∙ ap (λ (x : Schema). or_else (created_name x id) (get nat_cmp held.created id)) (sym is)

pub named : (before : List Schema) (names : Names) (raw : ℕ) (found : Option (List ℕ)) → NamesStand before names
    → found ≡ get nat_cmp names.created raw → unwrap_or found [] ≡ name_of before raw
named before names raw found stand is = ap (λ (o : Option (List ℕ)). unwrap_or o []) (is ∙ stand raw)
