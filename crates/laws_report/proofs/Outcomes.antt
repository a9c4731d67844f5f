-- The text of an outcome tells it.
use Rattle.std.proofs.Common.{◌≡◌, ◌∙◌, ◌*◌, ◌+◌, ℕ, List, [], ◌∷◌, ◌++◌, slice_index, codes, Option, Some, None, refl, sym, ap}
use Rattle.std.specs.Prelude.{slice_get}
use Rattle.std.specs.Fmt.{decimal}
use Rattle.std.proofs.lemmas.List.{append_cancel_left}
use Rattle.ion_model.specs.Write.{blob_text, string_text}
use Rattle.ion_text.specs.RoundTrip.{MayFollow}
use Rattle.ql_types.specs.declared.Hash32.{Hash32}
use Rattle.ql_types.specs.declared.TxId.{TxId}
use Rattle.ledger_model.specs.declared.block.Block.{Block}
use Rattle.ledger_model.specs.declared.outcome.Item.{Item}
use Rattle.ledger_model.specs.declared.outcome.Refusal.{Refusal}
use Rattle.ledger_model.specs.declared.outcome.Outcome.{Outcome}
use Rattle.ledger_model.specs.declared.outcome.Outcome.TheVariants as outcome
use Rattle.ledger_model.specs.Report.{answers_text, cause_text, item_text, outcome_text, quoted_id, rule_text, since_text}
use Rattle.laws_report.specs.Writable.{AreBytes, IsCause, IsItem, IsName, IsNumber, IsOutcome, IsRule, IsText, is_of_name}
use Rattle.laws_report.proofs.Runs.{apart, behind, id_tells, number_tells, parted, right, run_tells}
use Rattle.laws_report.proofs.Tokens.{blob_tells, text_tells}
use Rattle.laws_report.proofs.Items.{item_tells}
use Rattle.laws_report.proofs.Causes.{cause_tells}

-- ---- a transaction and a number

-- an id, what parts them, and a number
numbered : (middle : List ℕ) (t v m n : ℕ) (r s : List ℕ) → IsNumber t → IsNumber v → IsNumber m → IsNumber n → MayFollow r → MayFollow s
    → (quoted_id t ++ middle ++ decimal m) ++ r ≡ (quoted_id v ++ middle ++ decimal n) ++ s → (t ≡ v) × (m ≡ n) × (r ≡ s)
numbered middle t v m n r s ht hv hm hn p q e =
    let xs : List (List ℕ) = middle ∷ decimal m ∷ [] in
    let us : List (List ℕ) = middle ∷ decimal n ∷ [] in
    let first = id_tells t v (right xs r) (right us s) ht hv (parted (quoted_id t) (quoted_id v) xs us r s e) in
    let second = number_tells m n r s hm hn p q (append_cancel_left middle (decimal m ++ r) (decimal n ++ s) first.1) in
    (first.0, second.0, second.1)

since_tells : (t v : TxId) (m n : ℕ) (r s : List ℕ) → IsNumber t.raw → IsNumber v.raw → IsNumber m → IsNumber n → MayFollow r → MayFollow s
    → since_text t m ++ r ≡ since_text v n ++ s → (t ≡ v) × (m ≡ n) × (r ≡ s)
since_tells t v m n r s ht hv hm hn p q e =
    let all = numbered (codes ",since:") t.raw v.raw m n r s ht hv hm hn p q (ap (behind (codes ",tx:")) e) in
    (λ i. record { raw = all.0 i }, all.1, all.2)

-- ---- outcomes

commits_tell : (blocks : List Block) (t v m n : ℕ) (r s : List ℕ) → IsNumber t → IsNumber v → IsNumber m → IsNumber n
    → (quoted_id t ++ codes ",block:" ++ decimal m ++ codes ",answers:[" ++ answers_text (slice_get blocks m) ++ codes "]") ++ r
    ≡ (quoted_id v ++ codes ",block:" ++ decimal n ++ codes ",answers:[" ++ answers_text (slice_get blocks n) ++ codes "]") ++ s
    → (t ≡ v) × (m ≡ n) × (r ≡ s)
commits_tell blocks t v m n r s ht hv hm hn e =
    let answers : ℕ → List ℕ = λ k. answers_text (slice_get blocks k) in
    let xs : List (List ℕ) = codes ",answers:[" ∷ answers m ∷ codes "]" ∷ [] in
    let us : List (List ℕ) = codes ",answers:[" ∷ answers n ∷ codes "]" ∷ [] in
    let ys : List (List ℕ) = codes ",block:" ∷ decimal m ∷ xs in
    let ws : List (List ℕ) = codes ",block:" ∷ decimal n ∷ us in
    let first = id_tells t v (right ys r) (right ws s) ht hv (parted (quoted_id t) (quoted_id v) ys ws r s e) in
    let second = number_tells m n (right xs r) (right us s) hm hn refl refl (ap (behind (codes ",block:")) first.1) in
    let rest : answers m ++ (codes "]" ++ r) ≡ answers n ++ (codes "]" ++ s) = ap (behind (codes ",answers:[")) second.1 in
    let same : answers m ++ (codes "]" ++ r) ≡ answers m ++ (codes "]" ++ s) = rest ∙ ap (λ k. answers k ++ (codes "]" ++ s)) (sym second.0) in
    (first.0, second.0, ap (behind (codes "]")) (append_cancel_left (answers m) (codes "]" ++ r) (codes "]" ++ s) same))

conflicts_tell : (t v : TxId) (m n f g : ℕ) (a b : Item) (r s : List ℕ) → IsNumber t.raw × IsNumber m × IsNumber f × IsItem a
    → IsNumber v.raw × IsNumber n × IsNumber g × IsItem b
    → (since_text t m ++ codes ",block:" ++ decimal f ++ codes ",item:{" ++ item_text a ++ codes "}") ++ r
    ≡ (since_text v n ++ codes ",block:" ++ decimal g ++ codes ",item:{" ++ item_text b ++ codes "}") ++ s
    → (t ≡ v) × (m ≡ n) × (f ≡ g) × (a ≡ b) × (r ≡ s)
conflicts_tell t v m n f g a b r s h k e =
    let xs : List (List ℕ) = codes ",item:{" ∷ item_text a ∷ codes "}" ∷ [] in
    let us : List (List ℕ) = codes ",item:{" ∷ item_text b ∷ codes "}" ∷ [] in
    let ys : List (List ℕ) = codes ",block:" ∷ decimal f ∷ xs in
    let ws : List (List ℕ) = codes ",block:" ∷ decimal g ∷ us in
    let first = since_tells t v m n (right ys r) (right ws s) h.0 k.0 h.1 k.1 refl refl (parted (since_text t m) (since_text v n) ys ws r s e) in
    let second = number_tells f g (right xs r) (right us s) h.2 k.2 refl refl (ap (behind (codes ",block:")) first.2) in
    let third = item_tells a b (codes "}" ++ r) (codes "}" ++ s) h.3 k.3 refl refl (ap (behind (codes ",item:{")) second.1) in
    (first.0, first.1, second.0, third.0, ap (behind (codes "}")) third.1)

refusals_tell : (t v : TxId) (m n f g : ℕ) (a b : Refusal) (r s : List ℕ) → IsNumber t.raw × IsNumber m × IsNumber f × IsCause a
    → IsNumber v.raw × IsNumber n × IsNumber g × IsCause b
    → (since_text t m ++ codes ",statement:" ++ decimal f ++ codes ",cause:{" ++ cause_text a ++ codes "}") ++ r
    ≡ (since_text v n ++ codes ",statement:" ++ decimal g ++ codes ",cause:{" ++ cause_text b ++ codes "}") ++ s
    → (t ≡ v) × (m ≡ n) × (f ≡ g) × (a ≡ b) × (r ≡ s)
refusals_tell t v m n f g a b r s h k e =
    let xs : List (List ℕ) = codes ",cause:{" ∷ cause_text a ∷ codes "}" ∷ [] in
    let us : List (List ℕ) = codes ",cause:{" ∷ cause_text b ∷ codes "}" ∷ [] in
    let ys : List (List ℕ) = codes ",statement:" ∷ decimal f ∷ xs in
    let ws : List (List ℕ) = codes ",statement:" ∷ decimal g ∷ us in
    let first = since_tells t v m n (right ys r) (right ws s) h.0 k.0 h.1 k.1 refl refl (parted (since_text t m) (since_text v n) ys ws r s e) in
    let second = number_tells f g (right xs r) (right us s) h.2 k.2 refl refl (ap (behind (codes ",statement:")) first.2) in
    let third = cause_tells a b (codes "}" ++ r) (codes "}" ++ s) h.3 k.3 refl refl (ap (behind (codes ",cause:{")) second.1) in
    (first.0, first.1, second.0, third.0, ap (behind (codes "}")) third.1)

digests_tell : (t v : TxId) (m n : ℕ) (a b c d : Hash32) (r s : List ℕ) → IsNumber t.raw × IsNumber m × AreBytes a.bytes × AreBytes c.bytes
    → IsNumber v.raw × IsNumber n × AreBytes b.bytes × AreBytes d.bytes
    → (since_text t m ++ codes ",mine:" ++ blob_text a.bytes ++ codes ",given:" ++ blob_text c.bytes) ++ r
    ≡ (since_text v n ++ codes ",mine:" ++ blob_text b.bytes ++ codes ",given:" ++ blob_text d.bytes) ++ s
    → (t ≡ v) × (m ≡ n) × (a.bytes ≡ b.bytes) × (c.bytes ≡ d.bytes) × (r ≡ s)
digests_tell t v m n a b c d r s h k e =
    let xs : List (List ℕ) = codes ",given:" ∷ blob_text c.bytes ∷ [] in
    let us : List (List ℕ) = codes ",given:" ∷ blob_text d.bytes ∷ [] in
    let ys : List (List ℕ) = codes ",mine:" ∷ blob_text a.bytes ∷ xs in
    let ws : List (List ℕ) = codes ",mine:" ∷ blob_text b.bytes ∷ us in
    let first = since_tells t v m n (right ys r) (right ws s) h.0 k.0 h.1 k.1 refl refl (parted (since_text t m) (since_text v n) ys ws r s e) in
    let second = blob_tells a.bytes b.bytes (right xs r) (right us s) h.2 k.2 (ap (behind (codes ",mine:")) first.2) in
    let third = blob_tells c.bytes d.bytes r s h.3 k.3 (ap (behind (codes ",given:")) second.1) in
    (first.0, first.1, second.0, third.0, third.1)

rule_tells : (x y : Option (List ℕ)) (r s : List ℕ) → IsRule x → IsRule y → rule_text x ++ r ≡ rule_text y ++ s → (x ≡ y) × (r ≡ s)
rule_tells None None r s h k e = (refl, ap (behind (codes "null")) e)
rule_tells (Some a) (Some b) r s h k e = let both = text_tells a b r s h k e in (ap Some both.0, both.1)
rule_tells None (Some b) r s h k e = absurd (apart (ap (λ l. slice_index l 0) e) refl)
rule_tells (Some a) None r s h k e = absurd (apart (ap (λ l. slice_index l 0) e) refl)

denials_tell : (m n : ℕ) (a b t v : List ℕ) (x z : Option (List ℕ)) (r s : List ℕ) → IsNumber m × IsName a × IsText t × IsRule x
    → IsNumber n × IsName b × IsText v × IsRule z
    → (decimal m ++ codes ",action:" ++ a ++ codes ",table:" ++ string_text t ++ codes ",rule:" ++ rule_text x) ++ r
    ≡ (decimal n ++ codes ",action:" ++ b ++ codes ",table:" ++ string_text v ++ codes ",rule:" ++ rule_text z) ++ s
    → (m ≡ n) × (a ≡ b) × (t ≡ v) × (x ≡ z) × (r ≡ s)
denials_tell m n a b t v x z r s h k e =
    let xs : List (List ℕ) = codes ",rule:" ∷ rule_text x ∷ [] in
    let us : List (List ℕ) = codes ",rule:" ∷ rule_text z ∷ [] in
    let ys : List (List ℕ) = codes ",table:" ∷ string_text t ∷ xs in
    let ws : List (List ℕ) = codes ",table:" ∷ string_text v ∷ us in
    let vs : List (List ℕ) = codes ",action:" ∷ a ∷ ys in
    let zs : List (List ℕ) = codes ",action:" ∷ b ∷ ws in
    let first = number_tells m n (right vs r) (right zs s) h.0 k.0 refl refl (parted (decimal m) (decimal n) vs zs r s e) in
    let second = run_tells is_of_name a b (right ys r) (right ws s) h.1 k.1 refl refl (ap (behind (codes ",action:")) first.1) in
    let third = text_tells t v (right xs r) (right us s) h.2 k.2 (ap (behind (codes ",table:")) second.1) in
    let fourth = rule_tells x z r s h.3 k.3 (ap (behind (codes ",rule:")) third.1) in
    (first.0, second.0, third.0, fourth.0, fourth.1)

-- the first and the third byte, which differ from outcome to outcome
abbrev mark : List ℕ → ℕ
mark text = slice_index text 0 * 256 + slice_index text 2

pub outcome_tells : (blocks : List Block) (a b : Outcome) (r s : List ℕ) → IsOutcome a → IsOutcome b → MayFollow r → MayFollow s
    → outcome_text blocks a ++ r ≡ outcome_text blocks b ++ s → (a ≡ b) × (r ≡ s)
outcome_tells blocks (outcome.Committed t m) (outcome.Committed v n) r s h k p q e =
    let all = commits_tell blocks t.raw v.raw m n r s h.0 k.0 h.1 k.1 (ap (behind (codes "committed,tx:")) e) in
    (λ i. outcome.Committed (record { raw = all.0 i }) (all.1 i), all.2)
outcome_tells blocks (outcome.Conflict t m x) (outcome.Conflict v n z) r s h k p q e =
    let all = conflicts_tell t v m n x.block z.block x.item z.item r s h k (ap (behind (codes "conflict")) e) in
    (λ i. outcome.Conflict (all.0 i) (all.1 i) (record { block = all.2 i; item = all.3 i }), all.4)
outcome_tells blocks (outcome.Refused t m f a) (outcome.Refused v n g b) r s h k p q e =
    let all = refusals_tell t v m n f g a b r s h k (ap (behind (codes "refused")) e) in
    (λ i. outcome.Refused (all.0 i) (all.1 i) (all.2 i) (all.3 i), all.4)
outcome_tells blocks (outcome.DigestDiffers t m a c) (outcome.DigestDiffers v n b d) r s h k p q e =
    let all = digests_tell t v m n a b c d r s h k (ap (behind (codes "digest_differs")) e) in
    (λ i. outcome.DigestDiffers (all.0 i) (all.1 i) (record { bytes = all.2 i }) (record { bytes = all.3 i }), all.4)
outcome_tells blocks (outcome.StoreFault t m) (outcome.StoreFault v n) r s h k p q e =
    let all = numbered (codes ",count:") t.raw v.raw m n r s h.0 k.0 h.1 k.1 p q (ap (behind (codes "store_fault,tx:")) e) in
    (λ i. outcome.StoreFault (record { raw = all.0 i }) (all.1 i), all.2)
outcome_tells blocks (outcome.JournalFull t m) (outcome.JournalFull v n) r s h k p q e =
    let all = numbered (codes ",blocks:") t.raw v.raw m n r s h.0 k.0 h.1 k.1 p q (ap (behind (codes "journal_full,tx:")) e) in
    (λ i. outcome.JournalFull (record { raw = all.0 i }) (all.1 i), all.2)
outcome_tells blocks (outcome.IdsSpent m) (outcome.IdsSpent n) r s h k p q e =
    let both = number_tells m n r s h k p q (ap (behind (codes "ids_spent,last:")) e) in (ap outcome.IdsSpent both.0, both.1)
outcome_tells blocks (outcome.Aborted t m) (outcome.Aborted v n) r s h k p q e =
    let all = since_tells t v m n r s h.0 k.0 h.1 k.1 p q (ap (behind (codes "aborted")) e) in
    (λ i. outcome.Aborted (all.0 i) (all.1 i), all.2)
outcome_tells blocks (outcome.Denied m a t x) (outcome.Denied n b v z) r s h k p q e =
    let all = denials_tell m n a b t v x z r s h k (ap (behind (codes "denied,statement:")) e) in
    (λ i. outcome.Denied (all.0 i) (all.1 i) (all.2 i) (all.3 i), all.4)
outcome_tells blocks outcome.OutOfMemory outcome.OutOfMemory r s h k p q e = (refl, ap (behind (codes "out_of_memory")) e)
outcome_tells blocks a b r s h k p q e = absurd (apart (ap mark e) refl)
