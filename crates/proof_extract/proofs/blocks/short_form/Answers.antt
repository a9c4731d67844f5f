use Rattle.std.proofs.Common.{◌∙◌, sym, ap, arith}
use Rattle.ql_types.specs.declared.Hash32.{Hash32}
use Rattle.proof_extract.proofs.Chain.{entries_by, hashes_here}
use Rattle.proof_extract.proofs.Firsts.{other_bytes, same_bytes}
use Rattle.proof_extract.proofs.Pairs.{second_of}
use Rattle.proof_extract.proofs.Strings.{pair_sum}
use Rattle.proof_extract.proofs.blocks.short_form.Goals as goal

pub entries_of-entries-requires : goal.entries_of-entries-requires
entries_of-entries-requires c =
    hashes_here c.args.blocks.now c.requires.chained c.args.number c.args.block.now c.requires.at

pub returns-then-eq : goal.returns-then-eq
returns-then-eq c =
    let b = c.args.block.now in
    let h = c.args.hash.now in
    let e = c.entries_of-entries.result in
    let changes = c.changes_of-changes.result in
    let long = c.in_ok-pair.ensures.long in
    record {
      form = pair_sum changes e.header h c.in_ok-pair.pair c.in_ok-pair.ensures.form
          (same_bytes h b.entries c.eq.result c.eq.ensures c.if-eq.true
          ∙ entries_by b e changes (hashes_here c.args.blocks.now c.requires.chained c.args.number b c.requires.at)
          c.entries_of-entries.ensures c.changes_of-changes.ensures);
      short = omega (arith, long);
    }

pub returns : goal.returns
returns c =
    let b = c.args.block.now in
    let h = c.args.hash.now in
    record {
      form = c.in_ok-form.ensures.form
          ∙ ap (λ (x : Hash32). x.bytes)
          (sym (second_of h b.entries b.previous c.requires.either (other_bytes h b.entries c.eq.result c.eq.ensures c.if-eq.false)));
      short = c.in_ok-form.ensures.short;
    }
