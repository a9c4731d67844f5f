use Rattle.std.proofs.Common.{append_assoc}
use Rattle.block_form.proofs.values.put_hashes.Goals as goal

pub returns : goal.returns
returns c = rw (c.in_ok-put-4.ensures, c.in_ok-put-3.ensures, c.in_ok-put-2.ensures, c.in_ok-put.ensures, c.in_ok-hash_value.ensures, c.in_ok-hash_value-2.ensures, c.in_ok-hash_value-3.ensures, c.list.ensures, c.in_ok-hashes.ensures) (simp append_assoc)
