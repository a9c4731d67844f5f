-- The records so far and those of what is left, one step on.
use Rattle.std.proofs.Common.{◌≡◌, ◌∙◌, ℕ, zero, suc, ◌+◌, ◌-◌, ◌<◌, ◌≤◌, min, List, [], ◌∷◌, ◌++◌, map, take, drop, length, get_or, refl, sym, ap, append_assoc, append-nil, arith}
use Rattle.std.proofs.lemmas.List.{drop_more}
use Rattle.ql_types.specs.declared.TableId.{TableId}
use Rattle.ledger_model.specs.declared.block.Schema.{Schema}
use Rattle.ledger_model.specs.declared.block.Revision.{Revision}
use Rattle.ledger_model.specs.declared.block.Block.{Block}
use Rattle.stream_out.specs.declared.record.Details.{Details}
use Rattle.stream_out.specs.declared.record.Record.{Record}
use Rattle.stream_out.specs.declared.record.Record.TheVariants as kind
use Rattle.stream_out.specs.declared.record.Summary.{Summary}
use Rattle.stream_out.specs.declared.names.Names.{Names}
use Rattle.stream_out.specs.Named.{NamesStand}
use Rattle.stream_out.specs.Streams.{name_of, changes_in, summary_of, details_of, block_records, records_behind, records_of, stream}
use Rattle.stream_out.proofs.Named.{changes_more}

front_is : {A : Type 0} (xs : List A) (i : ℕ) (x : A) → i < length xs → x ≡ get_or xs i x → drop i xs ≡ x ∷ drop (i + 1) xs
front_is {A} xs i x within is = drop_more xs i x within ∙ ap (λ (y : A). y ∷ drop (i + 1) xs) (sym is)

-- ---- the details of a block

without_revisions : (changes : List Schema) (ts : List TableId) → details_of changes ts [] ≡ []
without_revisions changes [] = refl
without_revisions changes (t ∷ ts) = refl

pub no_details : (changes : List Schema) (ts : List TableId) (rs : List Revision) (n : ℕ) → min (length ts) (length rs) ≤ n
    → details_of changes (drop n ts) (drop n rs) ≡ []
no_details changes [] rs zero h = refl
no_details changes [] rs (suc n) h = refl
no_details changes (t ∷ ts) [] zero h = refl
no_details changes (t ∷ ts) [] (suc n) h = without_revisions changes (drop n ts)
no_details changes (t ∷ ts) (r ∷ rs) zero h = absurd (omega arith)
no_details changes (t ∷ ts) (r ∷ rs) (suc n) h = no_details changes ts rs n (omega arith)

pub details_step : (changes : List Schema) (ts : List TableId) (rs : List Revision) (i : ℕ) (t : TableId) (r : Revision) (d : Details)
    → i < length ts → i < length rs → t ≡ get_or ts i t → r ≡ get_or rs i r → d ≡ record { table = t; name = name_of changes t.raw; revision = r }
    → (records made total : List Record) → records ++ map kind.Details (details_of changes (drop i ts) (drop i rs)) ≡ total
    → made ≡ records ++ kind.Details d ∷ [] → made ++ map kind.Details (details_of changes (drop (i + 1) ts) (drop (i + 1) rs)) ≡ total
details_step changes ts rs i t r d in-ts in-rs t-is r-is d-is records made total so_far one =
    let rest = map kind.Details (details_of changes (drop (i + 1) ts) (drop (i + 1) rs)) in
    ap (λ (x : List Record). x ++ rest) one ∙ append_assoc records (kind.Details d ∷ []) rest
    ∙ ap (λ (x : Details). records ++ kind.Details x ∷ rest) d-is
    ∙ (λ j. records ++ map kind.Details (details_of changes (sym (front_is ts i t in-ts t-is) j) (sym (front_is rs i r in-rs r-is) j))) ∙ so_far

pub details_end : (changes : List Schema) (ts : List TableId) (rs : List Revision) (i : ℕ) → min (length ts) (length rs) ≤ i
    → (records total : List Record) → records ++ map kind.Details (details_of changes (drop i ts) (drop i rs)) ≡ total → records ≡ total
details_end changes ts rs i past records total so_far =
    sym (append-nil records) ∙ ap (λ (ds : List Details). records ++ map kind.Details ds) (sym (no_details changes ts rs i past)) ∙ so_far

-- ---- blocks

pub changes_step : (changes : List Schema) (bs : List Block) (i : ℕ) (b : Block) → i < length bs → b ≡ get_or bs i b
    → (changes ++ changes_in (take i bs)) ++ b.info.schema ≡ changes ++ changes_in (take (i + 1) bs)
changes_step changes bs i b within is =
    append_assoc changes (changes_in (take i bs)) b.info.schema ∙ ap (λ (x : List Schema). changes ++ x) (changes_more bs i b within is)

pub blocks_step : (changes : List Schema) (bs : List Block) (i : ℕ) (b : Block) → i < length bs → b ≡ get_or bs i b
    → (records made total : List Record) → records ++ records_behind (changes ++ changes_in (take i bs)) (drop i bs) ≡ total
    → made ≡ records ++ block_records ((changes ++ changes_in (take i bs)) ++ b.info.schema) b
    → made ++ records_behind (changes ++ changes_in (take (i + 1) bs)) (drop (i + 1) bs) ≡ total
blocks_step changes bs i b within is records made total so_far one =
    let before = changes ++ changes_in (take i bs) in
    let more = before ++ b.info.schema in
    let own = block_records more b in
    ap (λ (x : List Schema). made ++ records_behind x (drop (i + 1) bs)) (sym (changes_step changes bs i b within is))
    ∙ ap (λ (x : List Record). x ++ records_behind more (drop (i + 1) bs)) one
    ∙ append_assoc records own (records_behind more (drop (i + 1) bs))
    ∙ ap (λ (x : List Block). records ++ records_behind before x) (sym (front_is bs i b within is)) ∙ so_far

pub block_pushed : (changes : List Schema) (b : Block) (old held new : List Record) (summary : Summary) (ts : List TableId) (rs : List Revision)
    → summary ≡ summary_of b → ts ≡ b.info.tables → rs ≡ b.revisions → held ≡ old ++ kind.Summary summary ∷ []
    → new ≡ held ++ map kind.Details (details_of changes ts rs) → new ≡ old ++ block_records changes b
block_pushed changes b old held new summary ts rs summed tables revisions one rest =
    rest ∙ (λ i. one i ++ map kind.Details (details_of changes (tables i) (revisions i)))
    ∙ append_assoc old (kind.Summary summary ∷ []) (map kind.Details (details_of changes b.info.tables b.revisions))
    ∙ ap (λ (s : Summary). old ++ kind.Summary s ∷ map kind.Details (details_of changes b.info.tables b.revisions)) summed

pub streamed : (journal before behind told : List Block) (from to : ℕ) (names : Names) (first second third last : List Record)
    → before ≡ take from journal → behind ≡ drop from journal → told ≡ take (to - from) behind → first ≡ []
    → second ≡ first ++ kind.Created ∷ [] → NamesStand (changes_in before) names
    → ((changes : List Schema) → NamesStand changes names → third ≡ second ++ records_behind changes told)
    → last ≡ third ++ kind.Completed ∷ [] → last ≡ stream journal from to
streamed journal before behind told from to names first second third last front back own none begun stand more ended =
    let created : second ≡ kind.Created ∷ [] = begun ∙ ap (λ (rs : List Record). rs ++ kind.Created ∷ []) none in
    let records : records_behind (changes_in before) told ≡ records_of journal from to =
    (λ i. records_behind (changes_in (front i)) ((own ∙ ap (λ (bs : List Block). take (to - from) bs) back) i)) in
    ended ∙ ap (λ (rs : List Record). rs ++ kind.Completed ∷ []) (more (changes_in before) stand ∙ (λ i. created i ++ records i))

nothing_left : (bs : List Block) (i : ℕ) → length bs ≤ i → drop i bs ≡ []
nothing_left [] zero h = refl
nothing_left [] (suc i) h = refl
nothing_left (b ∷ bs) zero h = absurd (omega (arith, h))
nothing_left (b ∷ bs) (suc i) h = nothing_left bs i (omega (arith, h))

pub blocks_end : (changes : List Schema) (bs : List Block) (i : ℕ) → length bs ≤ i
    → (records total : List Record) → records ++ records_behind changes (drop i bs) ≡ total → records ≡ total
blocks_end changes bs i past records total so_far =
    sym (append-nil records) ∙ ap (λ (rest : List Block). records ++ records_behind changes rest) (sym (nothing_left bs i past)) ∙ so_far
