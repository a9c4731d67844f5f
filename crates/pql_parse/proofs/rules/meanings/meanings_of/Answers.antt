use Rattle.std.proofs.Common.{◌∙◌, ap, Some}
use Rattle.std.proofs.lemmas.Map.Text.{btree_map_updates_str}
use Rattle.pql_parse.specs.declared.rules.meanings.Meaning.TheVariants as meaning
use Rattle.pql_parse.specs.Ruled.{found}
use Rattle.pql_parse.proofs.SourceTables.{meaning_with_id, meaning_without_id, meanings_at}
use Rattle.pql_parse.proofs.rules.meanings.meanings_of.Goals as goal
use Rattle.pql_parse.proofs.rules.meanings.meanings_of.Goals.{in-Some+in_ok-insert-2, in_default}

pub sources-preserved : goal.sources-preserved
sources-preserved c = λ name.
    let s = c.source-item.result in
    let old = found name c.sources.meanings in
    let middle = found name c.insert.new.self in
    let at = meanings_at name c.args.sources.now c.sources.source-index s old in
    let put = btree_map_updates_str c.as_str.result.now c.sources.meanings c.insert.new.self (Some c.meaning_of.result) c.in_ok-insert.ensures.updates name in
    elim c.match-source.branch [
      | in-Some+in_ok-insert-2 w ↦
          let put_id = btree_map_updates_str w.as_str-in-Some.result.now c.insert.new.self w.insert-in-Some.new.self (Some meaning.Id) w.in_ok-insert-2.ensures.updates name in
          ap (found name) w.meanings-is
          ∙ at (found name w.insert-in-Some.new.self) c.sources-test.true c.source-item.is (c.sources.invariant name)
          (meaning_with_id name s _ c.meaning_of.result old middle _ w.in-Some.is c.meaning_of.ensures (rw c.as_str.ensures at put) (rw w.as_str-in-Some.ensures at put_id))
      | in_default w ↦
          ap (found name) w.meanings-is
          ∙ at middle c.sources-test.true c.source-item.is (c.sources.invariant name)
          (meaning_without_id name s c.meaning_of.result old middle w.in_default.is c.meaning_of.ensures (rw c.as_str.ensures at put))
    ]
