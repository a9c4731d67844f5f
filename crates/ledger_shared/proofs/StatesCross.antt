-- So may the versions of a state.
use denote.Param.Send.{IsSend, IsSync, sendable, view_send}
use denote.Param.SendFields.{declared_send, declared_sync}
use Rattle.ql_types.proofs.TableId.TheSendSync as table
use Rattle.pvec.proofs.shared.Shared.TheSendSync as owner
use Rattle.pvec.proofs.vector.PVec.TheSendSync as pvec
use Rattle.pmap.proofs.map.PMap.TheSendSync as pmap
use Rattle.ql_types.proofs.DocId.TheSendSync as document
use Rattle.index_post.proofs.filed.Filed.TheSendSync as filed
use Rattle.index_post.proofs.postings.Postings.TheSendSync as postings
use Rattle.versions.proofs.tables.Table.TheSendSync as table_row
use Rattle.versions.proofs.tables.Indexed.TheSendSync as indexed
use Rattle.versions.proofs.kept.Kept.TheSendSync as kept
use Rattle.versions.specs.contracts.recorded.Recorded as Recorded
use Rattle.versions.specs.contracts.latest.Latest as Latest
use Rattle.versions.specs.contracts.shelf.Shelf as Shelf
use Rattle.versions.specs.contracts.shelf.Shelf.TheInside as ShelfInside
use Rattle.versions.specs.contracts.documents.Documents as Documents
use Rattle.versions.specs.contracts.versions.Versions as Versions
use Rattle.journal_text.proofs.BlocksCross.{revision_send, revision_sync}

pub recorded_send : IsSend Recorded.the_row
recorded_send = declared_send Recorded.the_type (table.the_send, (revision_send, tt))

pub recorded_sync : IsSync Recorded.the_row
recorded_sync = declared_sync Recorded.the_type (table.the_sync, (revision_sync, tt))

pub latest_send : IsSend Latest.the_row
latest_send =
    let s = recorded_send in let y = recorded_sync in
    search (sendable, pvec.the_send, pmap.the_send, document.the_send, document.the_sync) depth 14

pub shelf_send : IsSend Shelf.the_row
shelf_send =
    let s = recorded_send in let y = recorded_sync in
    view_send _ _ _ _ _
    (declared_send ShelfInside.the_type (
      search sendable depth 10,
      (
        search (sendable, pvec.the_send) depth 10,
        (
          latest_send,
          (
            search (sendable, pvec.the_send, pvec.the_sync) depth 10,
            (
              search (sendable, pmap.the_send, pvec.the_send, pvec.the_sync, table.the_send, table.the_sync) depth 10,
              (search (sendable, filed.the_send, table.the_send, table.the_sync) depth 10, tt),
            ),
          ),
        ),
      ),
    ))

pub documents_send : IsSend Documents.the_row
documents_send =
    let s = shelf_send in
    search (sendable, kept.the_send, owner.the_send, owner.the_sync, indexed.the_send, indexed.the_sync, postings.the_send, postings.the_sync) depth 14

pub versions_send : IsSend Versions.the_row
versions_send =
    let d = documents_send in
    search (sendable, kept.the_send, table_row.the_send, table_row.the_sync) depth 14
