-- A line that was read may be sent to another thread.
use denote.Param.Send.{IsSend, sendable}
use denote.Param.SendFields.{declared_send}
use Rattle.std.proofs.Crossing.{crosses}
use Rattle.block_form.specs.contracts.checked.CheckedBlock as CheckedBlock
use Rattle.journal_text.specs.contracts.shares.ReadLine as ReadLine
use Rattle.journal_text.proofs.BlocksCross.{block_send}

checked_send : IsSend CheckedBlock.the_row
checked_send = declared_send CheckedBlock.the_type (block_send, (search sendable depth 8, tt))

pub line_send : IsSend ReadLine.the_row
line_send =
    let c = checked_send in
    declared_send ReadLine.the_type (search sendable depth 8, (search sendable depth 8, (search (sendable, crosses) depth 10, tt)))
