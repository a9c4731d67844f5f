-- One change more is noted.
use Rattle.std.proofs.Common.{◌∙◌, ap, refl}
use Rattle.outside.specs.Store.{content_of}
use Rattle.outside.specs.StoreForms.{content_after, opened_with}
use Rattle.outside.proofs.Noted.{one_more, pushed, still_none}
use Rattle.outside.proofs.memory.changes.Changes.note.Goals as goal

pub returns-clause-noted : goal.returns-clause-noted
returns-clause-noted c bytes =
    let start = content_of (opened_with c.args.self.now.opened bytes) in
    ap (content_after start) (pushed c.push.result _ _ _ _ c.unwrap.ensures c.push.ensures.items)
    ∙ one_more start c.args.self.now.made.items c.args.change

pub returns-clause-begun : goal.returns-clause-begun
returns-clause-begun c = still_none c.args.self.now.opened _ _ c.requires.opened refl
