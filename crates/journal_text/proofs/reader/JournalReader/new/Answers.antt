use Rattle.journal_text.proofs.Fed.{reads_nothing}
use Rattle.journal_text.proofs.reader.JournalReader.new.Goals as goal

pub invariant_of-result : goal.invariant_of-result
invariant_of-result c =
    reads_nothing c.new-blocks.result.list c.new-line.result.items c.new-registry.result c.new-blocks.ensures.list c.new-line.ensures.items c.new-registry.ensures
