use Rattle.std.proofs.Common.{◌≡◌, subst}
use Rattle.std.specs.Prelude.{OnOk, fold}
use Rattle.std.specs.List.{flat_map}
use Rattle.ion_binary_out.specs.BinaryText.{texts_in, texts_in_body, texts_in_field, with_symbol}
use Rattle.ion_binary_out.proofs.Levels.{texts_in_list, texts_in_sexp, texts_in_struct}
use Rattle.ion_binary_out.proofs.occurrences.+occurrences.Goals as goal

pub add_body-returns-in-List : goal.add_body-returns-in-List
add_body-returns-in-List t c =
    let own = texts_in_list c.as_slice.result.now in
    let same : flat_map texts_in c.as_slice.result.now ≡ texts_in_body c.args.body.now = cc in
    subst (λ texts. OnOk c.add_values.result (c.add_values.new.symbols ≡ fold with_symbol c.args.symbols.now texts)) same c.add_values.ensures

pub add_body-returns-in-Sexp : goal.add_body-returns-in-Sexp
add_body-returns-in-Sexp t c =
    let own = texts_in_sexp c.as_slice-in-Sexp.result.now in
    let same : flat_map texts_in c.as_slice-in-Sexp.result.now ≡ texts_in_body c.args.body.now = cc in
    subst (λ texts. OnOk c.add_values-in-Sexp.result (c.add_values-in-Sexp.new.symbols ≡ fold with_symbol c.args.symbols.now texts)) same c.add_values-in-Sexp.ensures

pub add_body-returns-in-Struct : goal.add_body-returns-in-Struct
add_body-returns-in-Struct t c =
    let own = texts_in_struct c.as_slice-in-Struct.result.now in
    let same : flat_map texts_in_field c.as_slice-in-Struct.result.now ≡ texts_in_body c.args.body.now = cc in
    subst (λ texts. OnOk c.add_fields.result (c.add_fields.new.symbols ≡ fold with_symbol c.args.symbols.now texts)) same c.add_fields.ensures
