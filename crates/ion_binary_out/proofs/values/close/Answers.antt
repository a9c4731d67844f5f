use Rattle.std.proofs.Common.{ℕ, List, ◌≡◌, ◌∙◌, ◌-◌, ◌++◌, length, sym, ap}
use Rattle.ion_binary_out.specs.BinaryText.{descriptor}
use Rattle.ion_binary_out.proofs.Closing.{closed}
use Rattle.ion_binary_out.proofs.values.close.Goals as goal

pub returns : goal.returns
returns c = λ front bytes e l.
    let end = c.len-end.ensures in
    let put = c.in_ok-put_descriptor.ensures ∙ ap (λ n. c.args.out.now ++ descriptor c.args.ion_type (n - c.args.start)) end in
    let counts = λ (a b d : List ℕ) (h : c.put_descriptor.new.out ≡ a ++ b ++ d) (k : length a ≡ c.args.start) (m : length d ≡ length c.put_descriptor.new.out - length c.args.out.now).
    c.move_last.ensures a b d h k (m ∙ (λ i. sym c.len.ensures i - sym end i)) in
    closed c.args.ion_type c.args.start front bytes c.args.out.now c.put_descriptor.new.out c.move_last.new.self e l put counts
