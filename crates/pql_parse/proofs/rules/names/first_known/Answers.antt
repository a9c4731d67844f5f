use Rattle.std.proofs.Common.{Some, ◌-◌, arith}
use Rattle.std.proofs.lemmas.Map.Text.{btree_map_updates_str}
use Rattle.pql_parse.specs.Ruled.{found, has_name}
use Rattle.pql_parse.proofs.SourceTables.{firsts_at, with_id, without_id}
use Rattle.pql_parse.proofs.rules.names.first_known.Goals as goal

pub sources-preserved-in_ok-insert-2 : goal.sources-preserved-in_ok-insert-2
sources-preserved-in_ok-insert-2 c = record {
  within = omega arith;
  firsts = λ name n.
      let s = c.index-sources-left.result in
      let at = c.sources.left - 1 in
      let old = found name c.sources.firsts in
      let put = btree_map_updates_str c.as_str.result.now c.sources.firsts c.insert.new.self (Some at) c.in_ok-insert.ensures.updates name in
      let put_id = btree_map_updates_str c.as_str-in-Some.result.now c.insert.new.self c.insert-in-Some.new.self (Some at) c.in_ok-insert-2.ensures.updates name in
      firsts_at (has_name name) c.args.sources.now c.sources.left n s old (found name c.insert-in-Some.new.self)
      (omega arith) (omega arith) c.index-sources-left.is
      (with_id name s _ at old _ _ c.in-Some.is (rw c.as_str.ensures at put) (rw c.as_str-in-Some.ensures at put_id)) (c.sources.invariant.firsts name);
}

pub sources-preserved : goal.sources-preserved
sources-preserved c = record {
  within = omega arith;
  firsts = λ name n.
      let s = c.index-sources-left.result in
      let at = c.sources.left - 1 in
      let old = found name c.sources.firsts in
      let put = btree_map_updates_str c.as_str.result.now c.sources.firsts c.insert.new.self (Some at) c.in_ok-insert.ensures.updates name in
      firsts_at (has_name name) c.args.sources.now c.sources.left n s old (found name c.insert.new.self)
      (omega arith) (omega arith) c.index-sources-left.is
      (without_id name s at old _ c.in_default.is (rw c.as_str.ensures at put)) (c.sources.invariant.firsts name);
}
