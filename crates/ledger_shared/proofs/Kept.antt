-- The entries that are kept behind the turn, as they are told with one more.
use Rattle.std.proofs.Common.{◌≡◌, ℕ, ◌+◌, ◌<◌, ◌^◌, List, [], ◌∷◌, ◌++◌, append-nil, length, refl, sym, ap, ◌∙◌, arith, Option, Some, None, Ok}
use Rattle.std.proofs.lemmas.List.{map-append}
use Rattle.ql_types.specs.Ids.{raw_id, transaction_in}
use Rattle.ql_types.specs.declared.Place.{Place}
use Rattle.ql_types.specs.declared.TxId.{TxId}
use Rattle.ledger_model.specs.declared.block.Block.{Block}
use Rattle.ledger_model.specs.State.{state}
use Rattle.laws_history.specs.Standings.{Standing}
use Rattle.laws_machine.specs.Entries.{Entry, Opening, begun_at, reach_at, sealed}
use Rattle.laws_history.specs.Seen.{reach}
use Rattle.laws_history.proofs.Reaches.{reached_mask}
use Rattle.txn_core.specs.Opened.{Opened}
use Rattle.ledger_core.specs.Beginning.{begun_on, drawn}
use Rattle.ledger_core.specs.declared.commit.CommitFault.{CommitFault}
use Rattle.ledger_shared.specs.declared.entry.Entry as kept
use Rattle.ledger_shared.specs.declared.entry.Entry.TheVariants.{Begun}
use Rattle.ledger_shared.specs.Behind.{IsBehind}
use Rattle.ledger_shared.specs.Calls.{Begins, Extends, Opens, refusal_of}
use Rattle.ledger_shared.specs.Told.{all_told, told}
use Rattle.ledger_shared.proofs.Behind.{behind_push}
use Rattle.ledger_shared.proofs.Commits.{listed}
use Rattle.ledger_shared.proofs.Numbers.{transaction_of}

pub told_more : (mask : ℕ) (items : List kept.Entry) (e : kept.Entry)
    → all_told mask (items ++ e ∷ []) ≡ all_told mask items ++ told mask e ∷ []
told_more mask items e = map-append (told mask) items (e ∷ [])

-- the number of a transaction stands in its id
pub number_in : (mask own n raw : ℕ) → raw ≡ raw_id own n 0 → own ≡ mask → transaction_in mask raw ≡ n
number_in mask own n raw is same =
    ap (transaction_in mask) (is ∙ ap (λ m. raw_id m n 0) same) ∙ transaction_of mask n 0 (omega arith)

-- nothing was added
pub nothing : (es : List Entry) (P : List Entry → Type 0) → P [] → Extends es es P
nothing es P p = ([], sym (append-nil es), p)

-- ---- a transaction has begun

module _ (o : Opening) (opened s : Standing) (count : ℕ) (items : List kept.Entry)
    (h : IsBehind o opened s count (all_told s.mask items)) (place : Place) (t : Opened) (tx : TxId) (since : ℕ) (t_is : t ≡ begun_on s place)
    (tx_is : tx.raw ≡ raw_id t.begun.mask t.begun.number 0) (since_is : since ≡ t.since) (counted : s.last + 1 < 2 ^ 64) where
  abbrev es : List Entry
  es = all_told s.mask items

  abbrev pub begun_entry : Entry
  begun_entry = begun_at place (s.last + 1) (length s.blocks)

  entry_is : told s.mask (Begun place tx since) ≡ begun_entry
  entry_is =
      ap (λ n. begun_at place n since)
      (number_in s.mask t.begun.mask t.begun.number tx.raw tx_is (ap (λ (x : Opened). x.begun.mask) t_is) ∙ ap (λ (x : Opened). x.begun.number) t_is)
      ∙ ap (λ n. begun_at place (s.last + 1) n) (since_is ∙ ap (λ (x : Opened). x.since) t_is)

  last_is : s.last + 1 ≡ (reach o es).last + 1
  last_is = ap (λ n. n + 1) h.last

  pub begun_more : all_told s.mask (items ++ Begun place tx since ∷ []) ≡ es ++ begun_entry ∷ []
  begun_more = told_more s.mask items (Begun place tx since) ∙ ap (λ e. es ++ e ∷ []) entry_is

  pub begun_behind : IsBehind o opened (drawn s) count (es ++ begun_entry ∷ [])
  begun_behind =
      behind_push o opened s (drawn s) count count es begun_entry h (last_is, ap length h.blocks) (record {
        mask = h.mask ∙ sym (reached_mask (reach_at o) es);
        blocks = h.blocks;
        last = refl;
        counts = h.counts;
      })

  opens : Opens o es place t (begun_entry ∷ [])
  opens =
      let number : t.begun.number ≡ s.last + 1 = ap (λ (x : Opened). x.begun.number) t_is in
      record {
        number_is = number ∙ last_is;
        counted = omega (arith, number, counted);
        txn_is = λ i. record {
          begun = record { mask = (ap (λ (x : Opened). x.begun.mask) t_is ∙ h.mask) i; number = t.begun.number };
          place = (ap (λ (x : Opened). x.place) t_is) i;
          base = (ap (λ (x : Opened). x.base) t_is ∙ ap state h.blocks) i;
          since = (ap (λ (x : Opened). x.since) t_is ∙ ap length h.blocks) i;
          done = (ap (λ (x : Opened). x.done) t_is) i;
          ended = (ap (λ (x : Opened). x.ended) t_is) i;
        };
        adds = ap (λ e. e ∷ []) (ap (λ n. begun_at place n (length s.blocks)) (sym number) ∙ ap (λ n. begun_at place t.begun.number n) (ap length h.blocks));
      }

  pub begun_extends : Extends es (es ++ begun_entry ∷ []) (λ added. Begins o es place (Ok t) added)
  begun_extends = (begun_entry ∷ [], refl, opens)

-- ---- a commit's entry

module _ (mask : ℕ) (items : List kept.Entry) (t : Opened) (tx : TxId) (tx_is : tx.raw ≡ raw_id t.begun.mask t.begun.number 0)
    (of_mask : t.begun.mask ≡ mask) where
  number_is : transaction_in mask tx.raw ≡ t.begun.number
  number_is = number_in mask t.begun.mask t.begun.number tx.raw tx_is of_mask

  pub seal_more : (e : kept.Entry) (b : Block) → told mask e ≡ sealed (transaction_in mask tx.raw) b
      → all_told mask (items ++ e ∷ []) ≡ all_told mask items ++ sealed t.begun.number b ∷ []
  seal_more e b e_is =
      told_more mask items e ∙ ap (λ x. all_told mask items ++ x ∷ []) (e_is ∙ ap (λ n. sealed n b) number_is)

  module _ (f : CommitFault) (tried : Option Block) where
    refusal : refusal_of (transaction_in mask tx.raw) f tried ≡ refusal_of t.begun.number f tried
    refusal = ap (λ n. refusal_of n f tried) number_is

    pub refuse_more : (e : kept.Entry) → Some (told mask e) ≡ refusal_of (transaction_in mask tx.raw) f tried
        → all_told mask (items ++ e ∷ []) ≡ all_told mask items ++ listed (refusal_of t.begun.number f tried)
    refuse_more e e_is = told_more mask items e ∙ ap (λ x. all_told mask items ++ listed x) (e_is ∙ refusal)

    pub refuse_none : None ≡ refusal_of (transaction_in mask tx.raw) f tried
        → all_told mask items ≡ all_told mask items ++ listed (refusal_of t.begun.number f tried)
    refuse_none none = sym (append-nil (all_told mask items)) ∙ ap (λ x. all_told mask items ++ listed x) (none ∙ refusal)
