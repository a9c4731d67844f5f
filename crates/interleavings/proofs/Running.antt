-- One event more behind those that were done, and how all end.
use Rattle.std.proofs.Common.{◌≡◌, ℕ, zero, suc, ◌+◌, ◌<◌, List, [], ◌∷◌, ◌++◌, length, take, get_or, take-suc, Some, None, refl, sym, ap, subst, ◌∙◌, arith}
use Rattle.std.specs.Prelude.{slice_get}
use Rattle.ion_values.specs.declared.value.Value.{Value}
use Rattle.ledger_model.specs.declared.block.Block.{Block}
use Rattle.interleavings.specs.declared.events.Event.{Event}
use Rattle.interleavings.specs.Events.{event_in}
use Rattle.interleavings.specs.Lines as line
use Rattle.interleavings.specs.declared.desk.OpenTxn.{OpenTxn}
use Rattle.interleavings.specs.declared.Ended.TheVariants as ended
use Rattle.interleavings.specs.Desks.{Answers, AreOpen, MemoryTail, Puts}
use Rattle.interleavings.specs.Runs.{Ends, Reads, Runs}

pub joined : {A : Type 0} (xs ys zs : List A) → (xs ++ ys) ++ zs ≡ xs ++ (ys ++ zs)
joined [] ys zs = refl
joined (x ∷ xs) ys zs = ap (λ l. x ∷ l) (joined xs ys zs)

with_none : {A : Type 0} (xs : List A) → xs ++ [] ≡ xs
with_none [] = refl
with_none (x ∷ xs) = ap (λ l. x ∷ l) (with_none xs)

taken_next : (vs : List Value) (at : ℕ) (v : Value) → at < length vs → v ≡ get_or vs at v → take (at + 1) vs ≡ take at vs ++ v ∷ []
taken_next vs at v within is =
    let step : at + 1 ≡ suc at = omega arith in
    ap (λ n. take n vs) step ∙ take-suc vs at v within ∙ ap (λ x. take at vs ++ x ∷ []) (sym is)

taken_all : (vs : List Value) → take (length vs) vs ≡ vs
taken_all [] = refl
taken_all (v ∷ vs) = ap (λ l. v ∷ l) (taken_all vs)

got : (vs : List Value) (at : ℕ) (d : Value) → at < length vs → slice_get vs at ≡ Some (get_or vs at d)
got [] at d within = absurd (omega arith)
got (v ∷ vs) zero d within = refl
got (v ∷ vs) (suc at) d within = got vs at d (omega arith)

-- ---- one event more

runs_more : (t : MemoryTail) (xs : List OpenTxn) (vs : List Value) (said : List ℕ) (mid : MemoryTail) (zs : List OpenTxn) (v : Value) (line : List ℕ)
    (now : MemoryTail) (ys : List OpenTxn) → Runs t xs vs said mid zs → Reads mid zs v line now ys → Runs t xs (vs ++ v ∷ []) (said ++ line) now ys
runs_more t xs [] said mid zs v line now ys (e, m, z) reads = (
  line,
  [],
  now,
  ys,
  ap (λ s. s ++ line) e ∙ sym (with_none line),
  subst (λ (x : MemoryTail). Reads x xs v line now ys) m (subst (λ (l : List OpenTxn). Reads mid l v line now ys) z reads),
  (refl, refl, refl),
)
runs_more t xs (w ∷ ws) said mid zs v line now ys (first, more, m, z, e, reads_first, rest) reads = (
  first,
  more ++ line,
  m,
  z,
  ap (λ s. s ++ line) e ∙ joined first more line,
  reads_first,
  runs_more m z ws more mid zs v line now ys rest reads,
)

-- the events before this index were done, and what was said stands behind what stood there
pub record SoFar (t : MemoryTail) (vs : List Value) (at : ℕ) (before now : List ℕ) (tail : MemoryTail) (xs : List OpenTxn) : Type 0 where
  pub lines : List ℕ
  pub now_is : now ≡ before ++ lines
  pub runs : Runs t [] (take at vs) lines tail xs
  pub sound : AreOpen tail.standing xs

pub none_done : (t : MemoryTail) (vs : List Value) (out : List ℕ) (xs : List OpenTxn) → xs ≡ [] → SoFar t vs 0 out out t xs
none_done t vs out xs none = record {
  lines = [];
  now_is = sym (with_none out);
  runs = (refl, refl, none);
  sound = subst (λ (l : List OpenTxn). AreOpen t.standing l) (sym none) (record { each = tt; apart = tt });
}

pub one_done : (t : MemoryTail) (vs : List Value) (at : ℕ) (before mid now : List ℕ) (tail next : MemoryTail) (xs ys : List OpenTxn) (v : Value) (event : Event)
    (said : List ℕ) → at < length vs → v ≡ get_or vs at v → Some event ≡ event_in v → now ≡ mid ++ said → Answers tail xs event said next ys
    → AreOpen next.standing ys → SoFar t vs at before mid tail xs → SoFar t vs (at + 1) before now next ys
one_done t vs at before mid now tail next xs ys v event said within is read puts answers open_now so = record {
  lines = so.lines ++ said;
  now_is = puts ∙ ap (λ l. l ++ said) so.now_is ∙ joined before so.lines said;
  runs =
      subst (λ (l : List Value). Runs t [] l (so.lines ++ said) next ys) (sym (taken_next vs at v within is))
      (runs_more t [] (take at vs) so.lines tail xs v said next ys so.runs (record { event = event; read = sym read; answers = answers }));
  sound = open_now;
}

-- ---- the end

pub all_done : (t : MemoryTail) (first : ℕ) (vs : List Value) (at : ℕ) (before mid now : List ℕ) (tail : MemoryTail) (xs : List OpenTxn) (blocks : List Block)
    → at ≡ length vs → blocks ≡ tail.standing.blocks → now ≡ mid ++ line.blocks blocks → SoFar t vs at before mid tail xs
    → Puts before now (λ said. Ends ended.Done t first vs said)
all_done t first vs at before mid now tail xs blocks end is puts so = (
  so.lines ++ line.blocks blocks,
  puts ∙ ap (λ l. l ++ line.blocks blocks) so.now_is ∙ joined before so.lines (line.blocks blocks),
  record {
    lines = so.lines;
    now = tail;
    left = xs;
    runs = subst (λ (l : List Value). Runs t [] l so.lines tail xs) (ap (λ n. take n vs) end ∙ taken_all vs) so.runs;
    said_is = ap (λ bs. so.lines ++ line.blocks bs) is;
  },
)

pub stopped : (t : MemoryTail) (first : ℕ) (vs : List Value) (at : ℕ) (before mid now : List ℕ) (tail : MemoryTail) (xs : List OpenTxn) (v : Value)
    → at < length vs → v ≡ get_or vs at v → None ≡ event_in v → now ≡ mid ++ line.bad_event (first + at) → SoFar t vs at before mid tail xs
    → Puts before now (λ said. Ends ended.BadEvent t first vs said)
stopped t first vs at before mid now tail xs v within is unread puts so = (
  so.lines ++ line.bad_event (first + at),
  puts ∙ ap (λ l. l ++ line.bad_event (first + at)) so.now_is ∙ joined before so.lines (line.bad_event (first + at)),
  record {
    count = at;
    lines = so.lines;
    now = tail;
    left = xs;
    runs = so.runs;
    value = v;
    value_is = got vs at v within ∙ ap (λ (x : Value). Some x) (sym is);
    unread = sym unread;
    said_is = refl;
  },
)
