use Rattle.std.proofs.Common.{◌≡◌, ℕ, ◌≤◌, Bool, false, arith}
use Rattle.std.proofs.lemmas.Bool.Decides.{nat_tests}
use Rattle.std.specs.Char.{is_ascii}
use Rattle.ion_text.proofs.Escaped.{escapes-encode}
use Rattle.ion_text.proofs.writing.quoted.put_escaped.Goals as goal

high_of : (c : ℕ) (r : Bool) → r ≡ is_ascii c → r ≡ false → 128 ≤ c
high_of c r is above = grind (arith, nat_tests)

pub returns-else-is_ascii : goal.returns-else-is_ascii
returns-else-is_ascii g c =
    rw (escapes-encode c.args.quote c.args.character c.requires (high_of c.args.character _ c.is_ascii.ensures c.if-is_ascii.false)) c.push.ensures
