use Rattle.txn_core.proofs.Overlaid.{count_both}
use Rattle.txn_core.proofs.views.count_touched.Goals as goal

pub returns : goal.returns
returns c =
    count_both c.new-documents.result c.put_log.new.documents c.put_all.new.documents c.args.log.now c.args.more.now c.len.result c.new-documents.ensures
    c.in_ok-put_log.ensures c.in_ok-put_all.ensures c.len.ensures
