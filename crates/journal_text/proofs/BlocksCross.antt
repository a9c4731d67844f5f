-- What blocks are made of, blocks and lists of them may be sent to another thread.
use denote.Param.Send.{IsSend, IsSync, sendable}
use denote.Param.SendFields.{declared_send, declared_sync}
use Rattle.std.proofs.Crossing.{crosses}
use Rattle.ion_values.proofs.value.Body.TheLaws.TheKnot as knot
use Rattle.ion_values.specs.contracts.value.Value as Value
use Rattle.pql_model.specs.contracts.tables.Answer as Answer
use Rattle.ql_types.proofs.BlockAddress.TheSendSync as address
use Rattle.ql_types.proofs.TableId.TheSendSync as table
use Rattle.ql_types.proofs.Hash.TheSendSync as hash
use Rattle.ql_types.proofs.Hash32.TheSendSync as hash32
use Rattle.ql_types.proofs.Place.TheSendSync as place
use Rattle.containers.proofs.text.Text.TheSendSync as text
use Rattle.containers.proofs.sequence.Sequence.TheSendSync as sequence
use Rattle.ledger_model.proofs.block.Header.TheSendSync as header
use Rattle.ledger_model.proofs.block.Metadata.TheSendSync as metadata
use Rattle.ledger_model.proofs.block.Schema.TheSendSync as schema
use Rattle.ledger_model.specs.contracts.block.Content as Content
use Rattle.ledger_model.specs.contracts.block.Revision as Revision
use Rattle.ledger_model.specs.contracts.block.Said as Said
use Rattle.ledger_model.specs.contracts.block.Told as Told
use Rattle.ledger_model.specs.contracts.block.Info as Info
use Rattle.ledger_model.specs.contracts.block.Block as Block
use Rattle.ledger_model.specs.contracts.blocks.Blocks as Blocks

pub value_send : IsSend (Value.the_field).row
value_send = search (sendable, crosses, knot.send-Value) depth 40 fits 5000

pub value_sync : IsSync (Value.the_field).row
value_sync = search (sendable, crosses, knot.sync-Value) depth 40 fits 5000

pub answer_send : IsSend Answer.the_row
answer_send = let v = value_send in search (sendable, sequence.the_send) depth 10

pub content_send : IsSend Content.the_row
content_send = let v = value_send in search sendable depth 10

pub content_sync : IsSync Content.the_row
content_sync = let v = value_sync in search sendable depth 10

pub revision_send : IsSend Revision.the_row
revision_send = declared_send Revision.the_type (address.the_send, (hash32.the_send, (content_send, (metadata.the_send, tt))))

pub revision_sync : IsSync Revision.the_row
revision_sync = declared_sync Revision.the_type (address.the_sync, (hash32.the_sync, (content_sync, (metadata.the_sync, tt))))

pub said_send : IsSend Said.the_row
said_send = let v = value_send in declared_send Said.the_type (text.the_send, (search (sendable, sequence.the_send) depth 8, (answer_send, tt)))

pub told_send : IsSend Told.the_row
told_send = let s = said_send in search (sendable, sequence.the_send) depth 10

pub info_send : IsSend Info.the_row
info_send = declared_send Info.the_type (place.the_send, (told_send, (search (sendable, sequence.the_send, schema.the_send) depth 8, (search (sendable, sequence.the_send, table.the_send) depth 8, tt))))

pub block_send : IsSend Block.the_row
block_send = let r = revision_send in declared_send Block.the_type
    (header.the_send, (hash32.the_send, (hash32.the_send, (hash32.the_send, (search (sendable, hash.the_send) depth 8, (info_send, (search (sendable, sequence.the_send) depth 8, tt)))))))

pub blocks_send : IsSend Blocks.the_row
blocks_send = let b = block_send in search (sendable, crosses) depth 20
