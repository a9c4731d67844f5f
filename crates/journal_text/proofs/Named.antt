-- The revision that a redaction names: it is among the revisions of the blocks where the block at its place has it.
use Rattle.std.proofs.Common.{◌≡◌, ◌∙◌, ℕ, zero, suc, ◌+◌, ◌<◌, ◌==◌, Bool, true, false, ◌&&◌, ◌||◌, cond, List, [], ◌∷◌, Some, slice_get, refl, sym, ap, arith}
use Rattle.std.specs.List.{find, list_all, list_any}
use Rattle.std.specs.Option.{option_map_or}
use Rattle.std.proofs.lemmas.Bool.{and_parts, eqb-true, false_from_ne_true, or_from, or_parts}
use Rattle.std.proofs.lemmas.List.Folds.{list_any-append}
use Rattle.ql_types.specs.declared.BlockAddress.{BlockAddress}
use Rattle.ql_types.specs.declared.DocId.{DocId}
use Rattle.ql_types.specs.declared.TableId.{TableId}
use Rattle.ledger_model.specs.declared.block.Block.{Block}
use Rattle.ledger_model.specs.declared.block.Schema.{Schema}
use Rattle.ledger_model.specs.declared.block.Schema.TheVariants.{Redact}
use Rattle.ledger_model.specs.State.{State, Recorded, after, empty, recorded_in, redacts, revisions_after, same_address, state, state_from}
use Rattle.ledger_model.proofs.Redactions.{any_after}
use Rattle.journal_text.specs.Stands.{are_placed, has_in, has_named}

wrong : false ≡ true → ⊥
wrong h = cc

or_assoc : (a b c : Bool) → ((a || b) || c) ≡ (a || (b || c))
or_assoc true b c = refl
or_assoc false b c = refl

or_nothing : (b : Bool) → (b || false) ≡ b
or_nothing true = refl
or_nothing false = refl

-- the redaction of a revision at this address, of a document of this table, names it
pub record IsNamed (a : BlockAddress) (t : TableId) (d : DocId) (r : Recorded) : Type 0 where
  pub strand : r.revision.address.strand.raw ≡ a.strand.raw
  pub sequence : r.revision.address.sequence ≡ a.sequence
  pub table : r.table.raw ≡ t.raw
  pub document : r.revision.metadata.id.raw ≡ d.raw

module _ (a : BlockAddress) (t : TableId) (d : DocId) where
  abbrev entry : Schema
  entry = Redact a t d

  abbrev named : Recorded → Bool
  named r = redacts r entry

  pub is_named : (r : Recorded) → redacts r (Redact a t d) ≡ true → IsNamed a t d r
  is_named r h =
      let all = and_parts (same_address r.revision.address a && (r.table.raw == t.raw)) (r.revision.metadata.id.raw == d.raw) h in
      let front = and_parts (same_address r.revision.address a) (r.table.raw == t.raw) all.0 in
      let at = and_parts (r.revision.address.strand.raw == a.strand.raw) (r.revision.address.sequence == a.sequence) front.0 in
      record {
        strand = eqb-true r.revision.address.strand.raw a.strand.raw at.0;
        sequence = eqb-true r.revision.address.sequence a.sequence at.1;
        table = eqb-true r.table.raw t.raw front.1;
        document = eqb-true r.revision.metadata.id.raw d.raw all.1;
      }

  -- ---- block by block

  named_from : (s : State) (bs : List Block) → list_any named (state_from s bs).revisions ≡ (list_any named s.revisions || list_any (has_in entry) bs)
  named_from s [] = sym (or_nothing (list_any named s.revisions))
  named_from s (b ∷ bs) =
      let old = revisions_after b.info.schema s.revisions in
      let own = recorded_in b.info.tables b.revisions in
      named_from (after s b) bs
      ∙ ap (λ x. x || list_any (has_in entry) bs) (list_any-append named old own ∙ ap (λ x. x || list_any named own) (any_after b.info.schema named (λ c r. refl) s.revisions))
      ∙ or_assoc (list_any named s.revisions) (list_any named own) (list_any (has_in entry) bs)

  -- ---- place by place

  -- a block at another place doesn't have it
  elsewhere : (n : ℕ) (rs : List Recorded) → (n ≡ a.sequence → ⊥) → list_all (λ (r : Recorded). r.revision.address.sequence == n) rs ≡ true → list_any named rs ≡ false
  elsewhere n [] apart h = refl
  elsewhere n (r ∷ rs) apart h =
      let parts = and_parts (r.revision.address.sequence == n) (list_all (λ (x : Recorded). x.revision.address.sequence == n) rs) h in
      let not_here : named r ≡ false = false_from_ne_true (named r) (λ y. apart (sym (eqb-true r.revision.address.sequence n parts.0) ∙ (is_named r y).sequence)) in
      or_from (named r) (list_any named rs) not_here (elsewhere n rs apart parts.1)

  none_behind : (n : ℕ) (bs : List Block) → a.sequence < n → are_placed n bs ≡ true → list_any (has_in entry) bs ≡ false
  none_behind n [] less h = refl
  none_behind n (b ∷ bs) less h =
      let own = recorded_in b.info.tables b.revisions in
      let parts = and_parts (list_all (λ (r : Recorded). r.revision.address.sequence == n) own) (are_placed (n + 1) bs) h in
      or_from (has_in entry b) (list_any (has_in entry) bs) (elsewhere n own (λ e. absurd (omega (arith, e))) parts.0) (none_behind (n + 1) bs (omega arith) parts.1)

  at_place : (n k : ℕ) (bs : List Block) → a.sequence ≡ n + k → are_placed n bs ≡ true → list_any (has_in entry) bs ≡ option_map_or (has_in entry) (slice_get bs k) false
  at_place n k [] is h = refl
  at_place n zero (b ∷ bs) is h =
      let own = recorded_in b.info.tables b.revisions in
      let parts = and_parts (list_all (λ (r : Recorded). r.revision.address.sequence == n) own) (are_placed (n + 1) bs) h in
      ap (λ x. has_in entry b || x) (none_behind (n + 1) bs (omega arith) parts.1) ∙ or_nothing (has_in entry b)
  at_place n (suc k) (b ∷ bs) is h =
      let own = recorded_in b.info.tables b.revisions in
      let parts = and_parts (list_all (λ (r : Recorded). r.revision.address.sequence == n) own) (are_placed (n + 1) bs) h in
      ap (λ x. x || list_any (has_in entry) bs) (elsewhere n own (λ e. absurd (omega (arith, e))) parts.0) ∙ at_place (n + 1) k bs (omega arith) parts.1

  pub named_among : (before : List Block) → are_placed 0 before ≡ true → list_any (λ r. redacts r (Redact a t d)) (state before).revisions ≡ has_named before (Redact a t d)
  named_among before h = named_from empty before ∙ at_place 0 a.sequence before (omega arith) h

-- ---- what is found

module _ (p f : Recorded → Bool) where
  pub none_found : (rs : List Recorded) → list_any p rs ≡ false → option_map_or f (find p rs) false ≡ false
  none_found [] h = refl
  none_found (r ∷ rs) h =
      let parts = or_parts (p r) (list_any p rs) h in
      ap (λ b. option_map_or f (cond b (Some r) (find p rs)) false) parts.0 ∙ none_found rs parts.1

  found_by : (answer : Bool) (r : Recorded) (rs : List Recorded) (b : Bool) → p r ≡ b → (b || list_any p rs) ≡ true → ((x : Recorded) → p x ≡ true → f x ≡ answer)
      → (list_any p rs ≡ true → option_map_or f (find p rs) false ≡ answer) → option_map_or f (cond b (Some r) (find p rs)) false ≡ answer
  found_by answer r rs true is h each more = each r is
  found_by answer r rs false is h each more = more h

  pub one_found : (answer : Bool) (rs : List Recorded) → list_any p rs ≡ true → ((x : Recorded) → p x ≡ true → f x ≡ answer) → option_map_or f (find p rs) false ≡ answer
  one_found answer [] h each = absurd (wrong h)
  one_found answer (r ∷ rs) h each = found_by answer r rs (p r) refl h each (λ more. one_found answer rs more each)
