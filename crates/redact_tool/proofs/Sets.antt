-- Redactions that are taken in, one behind the other.
use Rattle.std.proofs.Common.{◌≡◌, ◌∙◌, ◌==◌, ℕ, zero, suc, ◌+◌, ◌<◌, ◌≤◌, Bool, true, false, ◌&&◌, ◌||◌, cond, List, [], ◌∷◌, ◌++◌, length, take, get_or, refl, sym, ap, subst, arith}
use Rattle.std.specs.List.{list_any}
use Rattle.std.specs.Ordering.{is_eq, nat_cmp, ordering_then}
use Rattle.std.specs.Prelude.{nat_lt}
use Rattle.std.specs.declared.cmp.Ordering.{Ordering}
use Rattle.std.specs.declared.cmp.Ordering.TheVariants.{Less, Equal, Greater}
use Rattle.std.specs.BTreeMap.{is_at}
use Rattle.std.specs.BTreeSet.{contains}
use Rattle.std.specs.Cmp.{nat_eq_equiv}
use Rattle.std.proofs.lemmas.Bool.{ltb-true, ne_eqb}
use Rattle.std.proofs.lemmas.List.{take_more}
use Rattle.std.proofs.lemmas.List.Folds.{list_any-append}
use Rattle.ql_types.specs.declared.BlockAddress.{BlockAddress}
use Rattle.ql_types.specs.declared.DocId.{DocId}
use Rattle.ql_types.specs.declared.TableId.{TableId}
use Rattle.ledger_model.specs.declared.block.Block.{Block}
use Rattle.ledger_model.specs.declared.block.Schema.{Schema}
use Rattle.ledger_model.specs.declared.block.Schema.TheVariants.{Redact}
use Rattle.ledger_model.specs.State.{names_revision}
use Rattle.redact_tool.specs.declared.redactions.Redactions.{Redactions}
use Rattle.redact_tool.specs.Redacting.{AreRedactions, Takes, has_redaction}

-- ---- the numbers of a revision: its block's strand and place, its table and its document

compared : (l e : Bool) → (l ≡ true → e ≡ false) → is_eq (cond l Less (cond e Equal Greater)) ≡ e
compared true e h = sym (h refl)
compared false true h = refl
compared false false h = refl

is_eq-nat_cmp : (a b : ℕ) → is_eq (nat_cmp a b) ≡ (a == b)
is_eq-nat_cmp a b = compared (nat_lt a b) (a == b)
    (λ l. let less = ltb-true a b l in ne_eqb a b (λ e. absurd (omega (arith, less, e))))

is_eq-both : (a b : Ordering) → is_eq (ordering_then a b) ≡ (is_eq a && is_eq b)
is_eq-both Less b = refl
is_eq-both Equal b = refl
is_eq-both Greater b = refl

abbrev pub key_cmp : ℕ × ℕ × ℕ × ℕ → ℕ × ℕ × ℕ × ℕ → Ordering
key_cmp x y = ordering_then (ordering_then (ordering_then (nat_cmp x.0 y.0) (nat_cmp x.1 y.1)) (nat_cmp x.2 y.2))
    (nat_cmp x.3 y.3)

turned : (x y : ℕ) → is_eq (nat_cmp x y) ≡ (y == x)
turned x y = is_eq-nat_cmp x y ∙ nat_eq_equiv.symm x y

all_equal : (o p q r : Ordering) (w x y z : Bool) → is_eq o ≡ w → is_eq p ≡ x → is_eq q ≡ y → is_eq r ≡ z
    → is_eq (ordering_then (ordering_then (ordering_then o p) q) r) ≡ (((w && x) && y) && z)
all_equal o p q r w x y z e f g h =
    is_eq-both (ordering_then (ordering_then o p) q) r
    ∙ ap (λ b. b && is_eq r) (is_eq-both (ordering_then o p) q
    ∙ ap (λ b. b && is_eq q) (is_eq-both o p ∙ ap (λ b. b && is_eq p) e ∙ ap (λ b. w && b) f)
    ∙ ap (λ b. (w && x) && b) g)
    ∙ ap (λ b. ((w && x) && y) && b) h

key_is : (a b : BlockAddress) (t u : TableId) (d e : DocId)
    → is_at (key_cmp (a.strand.raw, a.sequence, t.raw, d.raw))
    (b.strand.raw, b.sequence, u.raw, e.raw) ≡ names_revision b u e (Redact a t d)
key_is a b t u d e =
    all_equal (nat_cmp a.strand.raw b.strand.raw) (nat_cmp a.sequence b.sequence) (nat_cmp t.raw u.raw)
    (nat_cmp d.raw e.raw)
    (b.strand.raw == a.strand.raw) (b.sequence == a.sequence) (u.raw == t.raw) (e.raw == d.raw)
    (turned a.strand.raw b.strand.raw) (turned a.sequence b.sequence) (turned t.raw u.raw) (turned d.raw e.raw)

-- ---- one change

put_in : (n x : Bool) → cond n true x ≡ (x || (n || false))
put_in true true = refl
put_in true false = refl
put_in false true = refl
put_in false false = refl

no_more : (x : Bool) → x ≡ (x || (false || false))
no_more true = refl
no_more false = refl

pub redaction_taken : (a : BlockAddress) (t : TableId) (d : DocId) (r n : Redactions)
    → ((q : ℕ × ℕ × ℕ × ℕ)
    → contains key_cmp n.revisions q ≡ cond (is_at (key_cmp (a.strand.raw, a.sequence, t.raw, d.raw)) q) true
    (contains key_cmp r.revisions q))
    → Takes r (Redact a t d ∷ []) n
redaction_taken a t d r n updates b u e =
    updates (b.strand.raw, b.sequence, u.raw, e.raw)
    ∙ ap (λ (x : Bool). cond x true (has_redaction r b u e)) (key_is a b t u d e)
    ∙ put_in (names_revision b u e (Redact a t d)) (has_redaction r b u e)

pub other_taken : (c : Schema) (r : Redactions)
    → ((b : BlockAddress) (u : TableId) (e : DocId) → names_revision b u e c ≡ false) → Takes r (c ∷ []) r
other_taken c r none b u e =
    no_more (has_redaction r b u e) ∙ ap (λ (x : Bool). has_redaction r b u e || (x || false)) (sym (none b u e))

-- ---- changes in order

none : (x : Bool) → x ≡ (x || false)
none true = refl
none false = refl

pub taken_none : (r : Redactions) → Takes r [] r
taken_none r b u e = none (has_redaction r b u e)

joined : (x y z : Bool) → ((x || y) || z) ≡ (x || (y || z))
joined true y z = refl
joined false y z = refl

pub taken_more : (cs : List Schema) (i : ℕ) (c : Schema) (r m n : Redactions) → i < length cs → c ≡ get_or cs i c
    → Takes r (take i cs) m
    → Takes m (c ∷ []) n → Takes r (take (i + 1) cs) n
taken_more cs i c r m n within is so_far one b u e =
    let names : List Schema → Bool = list_any (names_revision b u e) in
    one b u e ∙ ap (λ (x : Bool). x || names (c ∷ [])) (so_far b u e)
    ∙ joined (has_redaction r b u e) (names (take i cs)) (names (c ∷ []))
    ∙ ap (λ (x : Bool). has_redaction r b u e || x)
    (sym (list_any-append (names_revision b u e) (take i cs) (c ∷ []))
    ∙ ap (λ (x : Schema). names (take i cs ++ x ∷ [])) is ∙ ap names (sym (take_more cs i c within)))

take_end : {A : Type 0} → (xs : List A) (n : ℕ) → length xs ≤ n → take n xs ≡ xs
take_end [] zero h = refl
take_end [] (suc n) h = refl
take_end (x ∷ xs) zero h = absurd (omega arith)
take_end (x ∷ xs) (suc n) h = ap (λ ys. x ∷ ys) (take_end xs n (omega arith))

pub taken_all : (cs : List Schema) (i : ℕ) (r n : Redactions) → length cs ≤ i → Takes r (take i cs) n → Takes r cs n
taken_all cs i r n h so_far = subst (λ (xs : List Schema). Takes r xs n) (take_end cs i h) so_far

-- ---- blocks in order

pub blocks_more : (bs : List Block) (i : ℕ) (b : Block) (r n : Redactions) → i < length bs → b ≡ get_or bs i b
    → AreRedactions (take i bs) r
    → Takes r b.info.schema n → AreRedactions (take (i + 1) bs) n
blocks_more bs i b r n within is so_far one a t d =
    let names : List Block → Bool = list_any (λ (x : Block). list_any (names_revision a t d) x.info.schema) in
    one a t d ∙ ap (λ (x : Bool). x || list_any (names_revision a t d) b.info.schema) (so_far a t d)
    ∙ ap (λ (x : Bool). names (take i bs) || x) (none (list_any (names_revision a t d) b.info.schema))
    ∙ sym (list_any-append (λ (x : Block). list_any (names_revision a t d) x.info.schema) (take i bs) (b ∷ []))
    ∙ ap (λ (x : Block). names (take i bs ++ x ∷ [])) is ∙ ap names (sym (take_more bs i b within))

pub blocks_all : (bs : List Block) (i : ℕ) (r : Redactions) → length bs ≤ i → AreRedactions (take i bs) r
    → AreRedactions bs r
blocks_all bs i r h so_far = subst (λ (xs : List Block). AreRedactions xs r) (take_end bs i h) so_far
