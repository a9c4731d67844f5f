-- Worked rows: what the commands print, with which status.
use Rattle.std.proofs.Common.{◌≡◌, ◌<◌, [], ◌∷◌, Some, None, refl, rules, arith}
use Rattle.std.specs.Prelude.{codes}
use Rattle.std.specs.Fmt.{digits}
use Rattle.ion_values.specs.declared.value.Body.TheFolds.{the_lemmas}
use Rattle.ledger_model.specs.declared.block.Block.{Block}
use Rattle.ledger_model.specs.declared.damage.Damage.TheVariants as damage
use Rattle.ledger_model.specs.declared.script.ScriptKind.TheVariants as script
use Rattle.proof_issue.specs.declared.NoSuch.TheVariants as none_such
use Rattle.proof_model.specs.declared.Digest.{Digest}
use Rattle.proof_verify.specs.declared.ProofFault.TheVariants as fault
use Rattle.proof_extract.specs.declared.Extracted.TheVariants as extracted
use Rattle.cli_model.specs.Lines.{words_line, misspelt, not_a_record, record_differs, input_line, no_such_line, not_empty_line, bad_range_line, damaged_line, faults_line, proof_fault_line, unpublished_line}
use Rattle.cli_model.specs.Extracts.{IsUnpublished}
use Rattle.cli_model.specs.Journals.{HasNone, tip_in}
use Rattle.cli_model.specs.declared.Question.TheVariants as asks
use Rattle.cli_model.specs.Outputs.{verified_text, extracted_text, counts_text}
use Rattle.cli_model.specs.Claims.{number_of, bad_words, bad_input, damaged, not_accepted}

-- the line begins with the status
row_words : (number_of bad_words ≡ 1) × (words_line ≡ codes "{status:1}\n")
row_words = (refl, refl)

-- a digest of three blocks with the tip 3
row_no_block : (number_of bad_input ≡ 2)
    × (no_such_line (none_such.Block 3 3) ≡ codes "{status:2,fault:{kind:NoSuchBlock,sequence:3,blocks:3}}\n")
unfolding digits
row_no_block = (refl, refl)

row_past_tip : no_such_line (none_such.PastTip 5 4) ≡ codes "{status:2,fault:{kind:PastTip,sequence:5,tip:4}}\n"
unfolding digits
row_past_tip = refl

row_no_revision :
    no_such_line (none_such.Revision 99 5) ≡ codes "{status:2,fault:{kind:NoSuchRevision,index:99,count:5}}\n"
unfolding digits
row_no_revision = refl

-- an empty journal has no digest: its default tip is 0, which is no block's
row_empty : HasNone (asks.Digest None) [] (none_such.Block 0 0)
row_empty = refl

row_tip_of_three : (a b c : Block) → tip_in None (a ∷ b ∷ c ∷ []) ≡ 2
row_tip_of_three a b c = refl

row_three : (a b c : Block) → HasNone (asks.Digest (Some 3)) (a ∷ b ∷ c ∷ []) (none_such.Block 3 3)
row_three a b c = refl

-- the tip is judged before the block, and the block before the index
row_order : (a b c : Block) → HasNone (asks.Proof 4 9 (Some 3)) (a ∷ b ∷ c ∷ []) (none_such.Block 3 3)
    × HasNone (asks.Proof 2 9 (Some 1)) (a ∷ b ∷ c ∷ []) (none_such.PastTip 2 1)
row_order a b c = (refl, refl)

-- a workload on a journal of two blocks
row_not_empty : not_empty_line 2 ≡ codes "{status:2,fault:{kind:JournalNotEmpty,blocks:2}}\n"
unfolding digits
row_not_empty = refl

row_script : input_line (misspelt (record { session = 1; transaction = 0; kind = script.NotASession }))
    ≡ codes "{status:2,fault:{session:1,transaction:0,kind:NotASession}}\n"
unfolding digits
row_script = refl

-- a stream up to a block behind the next one, and one that ends before it begins
row_past_end : no_such_line (none_such.Block 2 1) ≡ codes "{status:2,fault:{kind:NoSuchBlock,sequence:2,blocks:1}}\n"
unfolding digits
row_past_end = refl

row_bad_range : bad_range_line 2 1 ≡ codes "{status:2,fault:{kind:BadRange,from:2,to:1}}\n"
unfolding digits
row_bad_range = refl

row_no_record : input_line (not_a_record 0) ≡ codes "{status:2,fault:{kind:NotARecord,at:0}}\n"
unfolding digits
row_no_record = refl

row_differs : input_line (record_differs 1 0) ≡ codes "{status:2,fault:{kind:RecordDiffers,at:1,sequence:0}}\n"
unfolding digits
row_differs = refl

row_damaged :
    (number_of damaged ≡ 3) × (damaged_line 2 damage.WrongHash ≡ codes "{status:3,fault:{sequence:2,kind:WrongHash}}\n")
unfolding digits
row_damaged = (refl, refl)

row_source : faults_line (codes "4") 1 ≡ codes "{status:4,faults:1}\n"
unfolding digits
row_source = refl

row_verified : verified_text ≡ codes "{verified:true}\n"
row_verified = refl

row_found : extracted_text (extracted.Found 0) ≡ codes "{found:0}\n"
unfolding digits
row_found = search (rules, the_lemmas)

row_unpublished : unpublished_line ≡ codes "{status:7,fault:{kind:NotPublished}}\n"
row_unpublished = refl

-- no digest is that of an empty journal
row_none_published : (d : Digest) → IsUnpublished d []
row_none_published d is =
    let below : d.tip.sequence < 0 = is.0 in
    omega (arith, below)

row_counts : counts_text [] ≡ codes "{blocks:0,revisions:0}\n"
unfolding digits
row_counts = refl

-- one value is no bundle
row_malformed : (number_of not_accepted ≡ 7)
    × (proof_fault_line (fault.Malformed (codes "count")) ≡ codes "{status:7,fault:{code:1,field:\"count\"}}\n")
unfolding digits
row_malformed = (refl, search (rules, the_lemmas))

row_path_length : proof_fault_line (fault.PathLength 5 6) ≡ codes "{status:7,fault:{code:6,wanted:5,given:6}}\n"
unfolding digits
row_path_length = search (rules, the_lemmas)

row_index : proof_fault_line (fault.IndexPastCount 1 1) ≡ codes "{status:7,fault:{code:5,index:1,count:1}}\n"
unfolding digits
row_index = search (rules, the_lemmas)
