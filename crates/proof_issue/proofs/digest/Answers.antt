use Rattle.std.proofs.Common.{rules}
use Rattle.std.specs.Prelude.{slice_get, Some, ◌≡◌}
use Rattle.proof_model.proofs.Chains.{place_is, strand_is}
use Rattle.proof_issue.proofs.digest.Goals as goal

pub returns-clause-digest : goal.returns-clause-digest
returns-clause-digest c =
    let blocks = c.args.blocks.now.list in
    let last = c.in-Some-get.last.now in
    let at : slice_get blocks c.args.tip ≡ Some last = search rules in record {
      root = search rules;
      sequence = place_is blocks c.requires c.args.tip last at;
      strand = λ first e. strand_is blocks c.requires c.args.tip last first at e;
    }
