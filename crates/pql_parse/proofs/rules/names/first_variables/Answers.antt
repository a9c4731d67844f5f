use Rattle.std.proofs.Common.{Some, ◌-◌, arith}
use Rattle.std.proofs.lemmas.Map.Text.{btree_map_updates_str}
use Rattle.pql_parse.specs.Ruled.{found, has_variable}
use Rattle.pql_parse.proofs.SourceTables.{firsts_at}
use Rattle.pql_parse.proofs.rules.names.first_variables.Goals as goal

pub sources-preserved : goal.sources-preserved
sources-preserved c = record {
  within = omega arith;
  firsts = λ name n.
      let s = c.index-sources-left.result in
      let put = btree_map_updates_str c.as_str.result.now c.sources.firsts c.insert.new.self (Some (c.sources.left - 1)) c.in_ok-insert.ensures.updates name in
      firsts_at (has_variable name) c.args.sources.now c.sources.left n s (found name c.sources.firsts) (found name c.insert.new.self)
      (omega arith) (omega arith) c.index-sources-left.is (rw c.as_str.ensures at put) (c.sources.invariant.firsts name);
}
