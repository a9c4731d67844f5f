use Rattle.pql_change.specs.Contexts.{context_of}
use Rattle.pql_change.specs.Touched.{alteration_of}
use Rattle.pql_change.proofs.Touching.{touched_once}
use Rattle.pql_change.proofs.documents.touch.Goals as goal

pub returns : goal.returns
returns c =
    touched_once
    (alteration_of (context_of c.args.context.now) c.args.alteration).made
    c.args.id
    c.args.in_row.now
    c.vacant.result
    c.args.touched.now.entries
    c.insert.new.self.entries
    c.insert-2.new.self.entries
    c.in_ok-changed.changed
    c.in_ok-document.document
    c.in_ok-document-2.document
    c.in_ok-changed.ensures.old
    c.in_ok-changed.ensures.entries
    c.in_ok-document.ensures
    c.in_ok-document-2.ensures
    c.in_ok-insert.ensures.entries
