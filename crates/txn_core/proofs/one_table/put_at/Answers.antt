use Rattle.std.proofs.Common.{◌≡◌, ℕ, true, false, List, length, sym, ap, subst, ◌∙◌, arith}
use Rattle.std.specs.Prelude.{slice_get}
use Rattle.std.specs.List.{insert}
use Rattle.std.proofs.lemmas.List.{length-map, map-set}
use Rattle.ledger_model.specs.declared.block.Draft.{Draft}
use Rattle.view_rows.specs.declared.seen.Seen.{Seen}
use Rattle.view_rows.specs.Seen.{draft_seen, drafts_seen}
use Rattle.txn_core.specs.Layered.{KeepsLayers, below, is_place}
use Rattle.txn_core.proofs.Layered.{below_within, keeps_found, keeps_lacking, keeps_put, mapped_insert}
use Rattle.txn_core.proofs.one_table.put_at.Goals as goal

pub returns-then-is_place : goal.returns-then-is_place
returns-then-is_place c =
    let places = c.args.places.now.items in
    let seen : List Draft = drafts_seen c.args.documents.now.items in
    let there : is_place c.args.at (slice_get places c.below-index.result) ≡ true =
    ap (λ (ps : List ℕ). is_place c.args.at (slice_get ps c.below-index.result)) (sym c.as_slice-2.ensures.value) ∙ sym c.is_place.ensures ∙ c.if-is_place.true in
    subst (λ (xs : List Draft). KeepsLayers c.args.table c.args.at (draft_seen c.args.draft) places seen places xs)
    (sym (map-set draft_seen c.args.documents.now.items c.below-index.result c.args.draft))
    (keeps_found c.args.table c.args.at c.below-index.result (draft_seen c.args.draft) places seen there)

pub returns-then-not-is_live : goal.returns-then-not-is_live
returns-then-not-is_live c =
    let places = c.args.places.now.items in
    let missing : is_place c.args.at (slice_get places c.below-index.result) ≡ false =
    ap (λ (ps : List ℕ). is_place c.args.at (slice_get ps c.below-index.result)) (sym c.as_slice-2.ensures.value) ∙ sym c.is_place.ensures ∙ c.if-is_place.false in
    keeps_lacking c.args.table c.args.at c.below-index.result (draft_seen c.args.draft) places (drafts_seen c.args.documents.now.items)
    (c.below-index.ensures ∙ ap (below c.args.at) c.as_slice.ensures.value) missing (sym c.is_live.ensures ∙ c.if-not-is_live.true)

pub insert-requires : goal.insert-requires
insert-requires c =
    let index : c.below-index.result ≡ below c.args.at c.args.places.now.items = c.below-index.ensures ∙ ap (below c.args.at) c.as_slice.ensures.value in
    omega (arith, index, below_within c.args.at c.args.places.now.items)

pub insert-requires-2 : goal.insert-requires-2
insert-requires-2 c =
    let index : c.below-index.result ≡ below c.args.at c.args.places.now.items = c.below-index.ensures ∙ ap (below c.args.at) c.as_slice.ensures.value in
    omega (arith, index, below_within c.args.at c.args.places.now.items, c.requires.1, length-map c.args.documents.now.items draft_seen)

pub returns : goal.returns
returns c =
    let places = c.args.places.now.items in
    let seen : List Draft = drafts_seen c.args.documents.now.items in
    let i : ℕ = c.below-index.result in
    let missing : is_place c.args.at (slice_get places i) ≡ false =
    ap (λ (ps : List ℕ). is_place c.args.at (slice_get ps i)) (sym c.as_slice-2.ensures.value) ∙ sym c.is_place.ensures ∙ c.if-is_place.false in
    let keeps : KeepsLayers c.args.table c.args.at (draft_seen c.args.draft) places seen (insert places i c.args.at) (insert seen i (draft_seen c.args.draft)) =
    keeps_put c.args.table c.args.at i (draft_seen c.args.draft) places seen (c.below-index.ensures ∙ ap (below c.args.at) c.as_slice.ensures.value) missing in
    subst (λ (ps : List ℕ). KeepsLayers c.args.table c.args.at (draft_seen c.args.draft) places seen ps (drafts_seen c.insert-2.new.self.items))
    (sym c.in_ok-insert.ensures.items)
    (subst (λ (xs : List Seen). KeepsLayers c.args.table c.args.at (draft_seen c.args.draft) places seen (insert places i c.args.at) (drafts_seen xs))
    (sym c.in_ok-insert-2.ensures.items)
    (subst (λ (xs : List Draft). KeepsLayers c.args.table c.args.at (draft_seen c.args.draft) places seen (insert places i c.args.at) xs)
    (sym (mapped_insert draft_seen c.args.documents.now.items i c.args.draft)) keeps))
