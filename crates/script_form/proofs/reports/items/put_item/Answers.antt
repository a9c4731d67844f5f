use Rattle.script_form.proofs.reports.items.put_item.Goals as goal

pub returns-in-TableList : goal.returns-in-TableList
returns-in-TableList c = rw c.in-TableList.is c.push_str.ensures.ok
