use Rattle.std.proofs.Common.{◌∙◌, ◌++◌, map, ap}
use Rattle.hash_model.specs.Serialize.{joined}
use Rattle.ion_binary_out.specs.BinaryText.{symbols_of, value_bytes}
use Rattle.ion_binary_out.proofs.Written.{bytes_written}
use Rattle.ion_binary_out.proofs.stream.write_stream.Goals as goal

pub returns : goal.returns
returns c =
    let symbols = c.in_ok-symbols.symbols in
    let begun = c.in_ok-out.out in
    bytes_written c.args.values.now symbols begun c.into_bytes.result
    (c.in_ok-symbols.ensures ∙ ap symbols_of c.as_slice.ensures) c.in_ok-out.ensures
    (c.into_bytes.ensures ∙ c.in_ok-put_values.ensures ∙ ap (λ values. begun ++ joined (map (value_bytes symbols) values)) c.as_slice-2.ensures)
