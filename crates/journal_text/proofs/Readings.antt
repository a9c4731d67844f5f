-- The bytes of a journal have one reading: the first line feed ends the first line, a line is that of one block, and behind
-- the same blocks a line fails one check first.
use Rattle.std.proofs.Common.{◌≡◌, ◌∙◌, ◌⊎◌, inl, inr, ℕ, suc, ◌+◌, ◌-◌, ◌≤◌, List, [], ◌∷◌, ◌++◌, length, drop, Option, Some, None, Ok, refl, sym, ap, subst, append_assoc, append-nil, length-append, length-drop, arith}
use Rattle.ion_values.specs.declared.value.Value.{Value}
use Rattle.ion_model.specs.Write.{value_text}
use Rattle.ion_model.specs.Read.{Answer, read_text}
use Rattle.ion_text.specs.Laws.{WrittenIsRead}
use Rattle.block_form.specs.ReadBack.{ValuesTellBlocks}
use Rattle.ledger_model.specs.declared.block.Block.{Block}
use Rattle.ledger_model.specs.declared.damage.Damage.{Damage}
use Rattle.ledger_model.specs.declared.damage.Damage.TheVariants as damage
use Rattle.ledger_model.specs.Journal.{block_value, line, journal_bytes}
use Rattle.ledger_model.specs.Whole.{IsWhole}
use Rattle.ledger_model.specs.Damages.{damage_behind, UndamagedBehind, Undamaged}
use Rattle.ledger_model.specs.Recovered.{IsLineOf, Fails, IsDamagedLine}
use Rattle.ledger_model.specs.HashesAsked.{AreAsked, unasked}
use Rattle.journal_text.specs.Laws.{JournalsTell}
use Rattle.journal_text.proofs.Written.{written}
use Rattle.journal_text.proofs.Feeds as feeds

-- what is written of a value is read back, and whole blocks of one value are one
pub record Laws : Type 0 where
  pub back : WrittenIsRead
  pub tells : ValuesTellBlocks

-- ---- one line

-- a block's line without its line feed
abbrev pub front : Block → List ℕ
front b = value_text (block_value b)

front_one_line : (b : Block) → feeds.NoFeed (front b)
front_one_line b = written (block_value b)

pub one_value : (answer : Answer) (v w : Value) → answer ≡ Ok (v ∷ []) → answer ≡ Ok (w ∷ []) → v ≡ w
one_value answer v w e f = cc

one_block : Laws → (a b : Block) → IsWhole a → IsWhole b → front a ≡ front b → a ≡ b
one_block laws a b wa wb e =
    laws.tells a b wa wb
    (one_value (read_text 256 (front a)) (block_value a) (block_value b) (laws.back (block_value a) 256 wa.ranges wa.depth)
    (subst (λ text. read_text 256 text ≡ Ok (block_value b ∷ [])) (sym e) (laws.back (block_value b) 256 wb.ranges wb.depth)))

pub line_from : (text : List ℕ) (b : Block) → IsWhole b → text ≡ front b → IsLineOf (text ++ 10 ∷ []) b
line_from text b w e = record { whole = w; written = ap (λ z. z ++ 10 ∷ []) e }

pub line_front : (text : List ℕ) (b : Block) → feeds.NoFeed text → IsLineOf (text ++ 10 ∷ []) b → text ≡ front b
line_front text b h is = (feeds.first_line text (front b) [] [] h (front_one_line b) is.written).0

line_tells : Laws → (text : List ℕ) (a b : Block) → IsLineOf text a → IsLineOf text b → a ≡ b
line_tells laws text a b x y =
    one_block laws a b x.whole y.whole (feeds.first_line (front a) (front b) [] [] (front_one_line a) (front_one_line b) (sym x.written ∙ y.written)).0

peeled : (b : Block) (bs : List Block) (rest : List ℕ) → journal_bytes (b ∷ bs) ++ rest ≡ front b ++ 10 ∷ (journal_bytes bs ++ rest)
peeled b bs rest = append_assoc (line b) (journal_bytes bs) rest ∙ append_assoc (front b) (10 ∷ []) (journal_bytes bs ++ rest)

-- ---- one damage

-- the line is that of no whole block, or it is that of a block that fails this check first
abbrev FailsBy : List Block → List ℕ → Damage → Type 0
FailsBy before text kind =
    ((kind ≡ damage.NotALine) × ((b : Block) → IsLineOf text b → ⊥)) ⊎ ((b : Block) × IsLineOf text b × (damage_behind before b ≡ Some kind))

fails_by : (before : List Block) (text : List ℕ) (kind : Damage) → Fails before text kind → FailsBy before text kind
fails_by before text damage.NotALine f = inl (refl, f)
fails_by before text damage.WrongAddress f = inr f
fails_by before text damage.WrongId f = inr f
fails_by before text damage.TimeFell f = inr f
fails_by before text damage.WrongPrevious f = inr f
fails_by before text damage.WrongHash f = inr f
fails_by before text damage.WrongState f = inr f
fails_by before text damage.Unasked f = inr f

clash : (o : Option Damage) (kind : Damage) → o ≡ None → o ≡ Some kind → ⊥
clash o kind e f = cc

one_kind : (o : Option Damage) (j k : Damage) → o ≡ Some j → o ≡ Some k → j ≡ k
one_kind o j k e f = cc

fails_not : Laws → (before : List Block) (text : List ℕ) (kind : Damage) (b : Block) → IsLineOf text b → damage_behind before b ≡ None → Fails before text kind → ⊥
fails_not laws before text kind b is none f = elim (fails_by before text kind f) [
  | inl n ↦ n.1 b is
  | inr g ↦ clash (damage_behind before g.0) kind (subst (λ x. damage_behind before x ≡ None) (line_tells laws text b g.0 is g.1) none) g.2
]

fails_one : Laws → (before : List Block) (text : List ℕ) (j k : Damage) → Fails before text j → Fails before text k → j ≡ k
fails_one laws before text j k f g = elim (fails_by before text j f) [
  | inl m ↦ elim (fails_by before text k g) [ inl n ↦ m.0 ∙ sym n.0 | inr h ↦ absurd (m.1 h.0 h.1) ]
  | inr h ↦ elim (fails_by before text k g) [
    | inl n ↦ absurd (n.1 h.0 h.1)
    | inr i ↦ one_kind (damage_behind before i.0) j k (subst (λ x. damage_behind before x ≡ Some j) (line_tells laws text h.0 i.0 h.1 i.1) h.2) i.2
  ]
]

-- ---- two readings

together : (a b : Block) (cs bs : List Block) → a ≡ b → cs ≡ bs → a ∷ cs ≡ b ∷ bs
together a b cs bs e f = cc

-- undamaged blocks behind the same ones
abbrev Behind : List Block → List Block → Type 0
Behind = UndamagedBehind

one_more : (before : List Block) (a b : Block) (bs : List Block) → a ≡ b → Behind (before ++ b ∷ []) bs → Behind (before ++ a ∷ []) bs
one_more before a b bs e u = subst (λ x. Behind (before ++ x ∷ []) bs) (sym e) u

fails_more : (before : List Block) (b : Block) (bs : List Block) (text : List ℕ) (kind : Damage) → Fails (before ++ b ∷ bs) text kind → Fails ((before ++ b ∷ []) ++ bs) text kind
fails_more before b bs text kind f = subst (λ blocks. Fails blocks text kind) (sym (append_assoc before (b ∷ []) bs)) f

fails_last : (before : List Block) (text : List ℕ) (kind : Damage) → Fails (before ++ []) text kind → Fails before text kind
fails_last before text kind f = subst (λ blocks. Fails blocks text kind) (append-nil before) f

-- the first lines of two journals are one, and so is what stands behind them
same_first :
    Laws → (a b : Block) (cs bs : List Block) (r s : List ℕ) → IsWhole a → IsWhole b → journal_bytes (a ∷ cs) ++ r ≡ journal_bytes (b ∷ bs) ++ s →
    (a ≡ b) × (journal_bytes cs ++ r ≡ journal_bytes bs ++ s)
same_first laws a b cs bs r s wa wb e =
    let split = feeds.first_line (front a) (front b) (journal_bytes cs ++ r) (journal_bytes bs ++ s) (front_one_line a) (front_one_line b) (sym (peeled a cs r) ∙ e ∙ peeled b bs s) in
    (one_block laws a b wa wb split.0, split.1)

-- a rest without a line feed is no journal's line
no_line : (b : Block) (bs : List Block) (rest text : List ℕ) → feeds.NoFeed rest → rest ≡ journal_bytes (b ∷ bs) ++ text → ⊥
no_line b bs rest text h e = feeds.stands_in (front b) (journal_bytes bs ++ text) (subst feeds.NoFeed (e ∙ peeled b bs text) h)

one_journal :
    Laws → (before cs bs : List Block) (r s : List ℕ) → Behind before cs → Behind before bs → feeds.NoFeed r → feeds.NoFeed s →
    journal_bytes cs ++ r ≡ journal_bytes bs ++ s → (cs ≡ bs) × (r ≡ s)
one_journal laws before [] [] r s u v h k e = (refl, e)
one_journal laws before [] (b ∷ bs) r s u v h k e = absurd (no_line b bs r s h e)
one_journal laws before (a ∷ cs) [] r s u v h k e = absurd (no_line a cs s r k (sym e))
one_journal laws before (a ∷ cs) (b ∷ bs) r s u v h k e =
    let first = same_first laws a b cs bs r s u.0 v.0 e in
    let more = one_journal laws (before ++ a ∷ []) cs bs r s u.2 (one_more before a b bs first.0 v.2) h k first.1 in
    (together a b cs bs first.0 more.0, more.1)

-- a journal's block whose line this is
first_is : (text rest : List ℕ) (b : Block) (bs : List Block) (r : List ℕ) → feeds.NoFeed text → IsWhole b → text ++ 10 ∷ rest ≡ journal_bytes (b ∷ bs) ++ r → IsLineOf (text ++ 10 ∷ []) b
first_is text rest b bs r h w e = line_from text b w (feeds.first_line text (front b) rest (journal_bytes bs ++ r) h (front_one_line b) (e ∙ peeled b bs r)).0

not_both :
    Laws → (before xs cs : List Block) (text rest r : List ℕ) (kind : Damage) → Behind before xs → Behind before cs → feeds.NoFeed text → feeds.NoFeed r →
    Fails (before ++ xs) (text ++ 10 ∷ []) kind → journal_bytes xs ++ (text ++ 10 ∷ rest) ≡ journal_bytes cs ++ r → ⊥
not_both laws before [] [] text rest r kind u v h k f e = feeds.stands_in text rest (subst feeds.NoFeed (sym e) k)
not_both laws before [] (a ∷ cs) text rest r kind u v h k f e =
    fails_not laws before (text ++ 10 ∷ []) kind a (first_is text rest a cs r h v.0 e) v.1 (fails_last before (text ++ 10 ∷ []) kind f)
not_both laws before (x ∷ xs) [] text rest r kind u v h k f e = no_line x xs r (text ++ 10 ∷ rest) k (sym e)
not_both laws before (x ∷ xs) (a ∷ cs) text rest r kind u v h k f e =
    let first = same_first laws x a xs cs (text ++ 10 ∷ rest) r u.0 v.0 e in
    not_both laws (before ++ x ∷ []) xs cs text rest r kind u.2 (one_more before x a cs first.0 v.2) h k (fails_more before x xs (text ++ 10 ∷ []) kind f) first.1

one_damage :
    Laws → (before xs ys : List Block) (text rest line behind : List ℕ) (j k : Damage) → Behind before xs → Behind before ys → feeds.NoFeed text → feeds.NoFeed line →
    Fails (before ++ xs) (text ++ 10 ∷ []) j → Fails (before ++ ys) (line ++ 10 ∷ []) k →
    journal_bytes xs ++ (text ++ 10 ∷ rest) ≡ journal_bytes ys ++ (line ++ 10 ∷ behind) → (length xs ≡ length ys) × (j ≡ k)
one_damage laws before [] [] text rest line behind j k u v h i f g e =
    let same = (feeds.first_line text line rest behind h i e).0 in
    (refl, fails_one laws (before ++ []) (text ++ 10 ∷ []) j k f (subst (λ z. Fails (before ++ []) (z ++ 10 ∷ []) k) (sym same) g))
one_damage laws before [] (y ∷ ys) text rest line behind j k u v h i f g e =
    absurd (fails_not laws before (text ++ 10 ∷ []) j y (first_is text rest y ys (line ++ 10 ∷ behind) h v.0 e) v.1 (fails_last before (text ++ 10 ∷ []) j f))
one_damage laws before (x ∷ xs) [] text rest line behind j k u v h i f g e =
    absurd (fails_not laws before (line ++ 10 ∷ []) k x (first_is line behind x xs (text ++ 10 ∷ rest) i u.0 (sym e)) u.1 (fails_last before (line ++ 10 ∷ []) k g))
one_damage laws before (x ∷ xs) (y ∷ ys) text rest line behind j k u v h i f g e =
    let first = same_first laws x y xs ys (text ++ 10 ∷ rest) (line ++ 10 ∷ behind) u.0 v.0 e in
    let more =
    one_damage laws (before ++ x ∷ []) xs ys text rest line behind j k u.2 (one_more before x y ys first.0 v.2) h i (fails_more before x xs (text ++ 10 ∷ []) j f)
    (subst (λ z. Fails ((before ++ z ∷ []) ++ ys) (line ++ 10 ∷ []) k) (sym first.0) (fails_more before y ys (line ++ 10 ∷ []) k g)) first.1 in
    (ap suc more.0, more.1)

same_place : (at : ℕ) (front rest : List ℕ) → at ≤ length (front ++ rest) → drop at (front ++ rest) ≡ rest → at ≡ length front
same_place at front rest h e =
    let left : length (front ++ rest) - at ≡ length rest = sym (length-drop at (front ++ rest)) ∙ ap length e in
    let whole : length (front ++ rest) ≡ length front + length rest = length-append front rest in
    omega (arith, left, whole, h)

-- ---- damage

no_line_damaged :
    Laws → (bytes : List ℕ) (blocks : List Block) (rest : List ℕ) (sequence : ℕ) (kind : Damage) → bytes ≡ journal_bytes blocks ++ rest → feeds.NoFeed rest →
    Undamaged blocks → IsDamagedLine bytes sequence kind → ⊥
no_line_damaged laws bytes blocks rest sequence kind lines torn u y =
    let d = y.2 in
    not_both laws [] y.0 blocks d.text d.rest rest kind d.undamaged u d.one_line torn d.fails (sym d.lines ∙ lines)

not_asked : (sequence : ℕ) (o : Option ℕ) → o ≡ None → o ≡ Some sequence → ⊥
not_asked sequence o e f = cc

one_place : (m n : ℕ) (o : Option ℕ) → o ≡ Some m → o ≡ Some n → m ≡ n
one_place m n o e f = cc

-- ---- the law

pub journals_tell : Laws → JournalsTell
journals_tell laws = record {
  written = λ blocks rest u asked h. record { lines = refl; torn = h; undamaged = u; asked = asked };
  one_journal = λ bytes a b r s x y. one_journal laws [] a b r s x.undamaged y.undamaged x.torn y.torn (sym x.lines ∙ y.lines);
  offset = λ blocks read rest at u h within x.
      let one = one_journal laws [] read blocks (drop at (journal_bytes blocks ++ rest)) rest x.undamaged u x.torn h (sym x.lines) in
      (one.0, same_place at (journal_bytes blocks) rest within one.1);
  undamaged = λ bytes blocks rest sequence kind x y. elim y [
    | inl z ↦ no_line_damaged laws bytes blocks rest sequence kind x.lines x.torn x.undamaged z
    | inr z ↦
        let u = z.1 in
        let same = one_journal laws [] blocks u.blocks rest u.rest x.undamaged u.undamaged x.torn u.torn (sym x.lines ∙ u.lines) in
        not_asked sequence (unasked u.blocks) (subst (λ (bs : List Block). AreAsked bs) same.0 x.asked) u.first
  ];
  one_damage = λ bytes m n j k x y. elim x [
    | inl w ↦ elim y [
      | inl z ↦
          let d = w.2 in
          let e = z.2 in
          let one = one_damage laws [] w.0 z.0 d.text d.rest e.text e.rest j k d.undamaged e.undamaged d.one_line e.one_line d.fails e.fails (sym d.lines ∙ e.lines) in
          (w.1 ∙ one.0 ∙ sym z.1, one.1)
      | inr z ↦ let u = z.1 in absurd (no_line_damaged laws bytes u.blocks u.rest m j u.lines u.torn u.undamaged w)
    ]
    | inr w ↦
        let t = w.1 in
        elim y [
          | inl z ↦ absurd (no_line_damaged laws bytes t.blocks t.rest n k t.lines t.torn t.undamaged z)
          | inr z ↦
              let u = z.1 in
              let same = one_journal laws [] t.blocks u.blocks t.rest u.rest t.undamaged u.undamaged t.torn u.torn (sym t.lines ∙ u.lines) in
              (one_place m n (unasked u.blocks) (subst (λ (bs : List Block). unasked bs ≡ Some m) same.0 t.first) u.first, w.0 ∙ sym z.0)
        ]
  ];
}
