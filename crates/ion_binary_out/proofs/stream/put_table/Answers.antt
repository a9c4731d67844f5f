use Rattle.std.proofs.Common.{◌∙◌, ◌++◌, map, ap}
use Rattle.std.specs.Prelude.{string_bytes}
use Rattle.ion_binary_out.proofs.Closing.{table_put, typed_texts}
use Rattle.ion_binary_out.proofs.stream.put_table.Goals as goal

pub returns : goal.returns
returns c =
    table_put c.args.out.now c.put_var_uint.new.out c.put_var_uint-2.new.out c.put_var_uint-3.new.out c.put_texts.new.out c.close.new.out
    c.close-2.new.out c.close-3.new.out (map string_bytes c.args.texts.now) c.len-table.result c.len-symbols.result c.len-list.result
    c.len-table.ensures c.in_ok-put_var_uint.ensures c.in_ok-put_var_uint-2.ensures c.len-symbols.ensures c.in_ok-put_var_uint-3.ensures
    c.len-list.ensures (c.in_ok-put_texts.ensures ∙ ap (λ bytes. c.put_var_uint-3.new.out ++ bytes) (typed_texts c.args.texts.now))
    c.in_ok-close.ensures c.in_ok-close-2.ensures c.in_ok-close-3.ensures
