-- Texts with their values, and texts that are refused, with the place and the kind of the fault.
use Rattle.std.proofs.Common.{◌≡◌, ℕ, pos, true, List, [], ◌∷◌, map, Ok, codes, refl}
use Rattle.std.specs.Char.{encode_utf8}
use Rattle.std.specs.Str.{chars, is_utf8}
use Rattle.ion_values.specs.declared.fault.IonKind.{IonKind}
use Rattle.ion_values.specs.declared.fault.IonKind.TheVariants as fault
use Rattle.ion_values.specs.declared.value.Value.{Value}
use Rattle.ion_values.specs.declared.value.Field.{Field}
use Rattle.ion_values.specs.declared.value.Body.{Body}
use Rattle.ion_values.specs.declared.value.Body.TheVariants as body
use Rattle.ion_model.specs.Lex.{lex}
use Rattle.ion_model.specs.Numbers.{is_spelled, lex_number}
use Rattle.ion_model.specs.Read.{Answer, read_utf8, refused}
use Rattle.ion_model.specs.Texts.{lex_quoted, lex_segment, lex_string}

abbrev plain : Body → Value
plain b = record { annotations = []; body = b }

abbrev symbol : List ℕ → Value
symbol text = plain (body.Symbol text)

abbrev noted : List (List ℕ) → Body → Value
noted names b = record { annotations = names; body = b }

abbrev field : List ℕ → Value → Field
field name v = record { name = name; value = v }

-- ---- texts that are read

nothing : read_utf8 0 (codes " //a") ≡ Ok []
unfolding lex
nothing = refl

marker : read_utf8 0 (codes "$ion_1_0 a") ≡ Ok (symbol (codes "a") ∷ [])
unfolding lex
marker = refl

marker_in_quotes : read_utf8 0 (codes "'$ion_1_0'") ≡ Ok (symbol (codes "$ion_1_0") ∷ [])
unfolding lex lex_quoted chars is_utf8 encode_utf8
marker_in_quotes = refl

annotated : read_utf8 0 (codes "a :: $ion_1_0::$ion_1_0") ≡ Ok (noted (codes "a" ∷ codes "$ion_1_0" ∷ []) (body.Symbol (codes "$ion_1_0")) ∷ [])
unfolding lex
annotated = refl

operators : read_utf8 1 (codes "(a+b+//x)") ≡ Ok (plain (body.Sexp (map symbol (codes "a" ∷ codes "+" ∷ codes "b" ∷ codes "+//" ∷ codes "x" ∷ []))) ∷ [])
unfolding lex
operators = refl

signs : read_utf8 1 (codes "(+-1 +info)") ≡ Ok (plain (body.Sexp (symbol (codes "+-") ∷ plain (body.Int (pos 1)) ∷ symbol (codes "+") ∷ symbol (codes "info") ∷ [])) ∷ [])
unfolding lex lex_number is_spelled
signs = refl

sign_of_a_word : read_utf8 1 (codes "(+inf+1)") ≡ Ok (plain (body.Sexp (symbol (codes "+") ∷ symbol (codes "inf") ∷ symbol (codes "+") ∷ plain (body.Int (pos 1)) ∷ [])) ∷ [])
unfolding lex lex_number is_spelled
sign_of_a_word = refl

operator_annotates : read_utf8 1 (codes "(+::-::a b)") ≡ Ok (plain (body.Sexp (noted (codes "+" ∷ codes "-" ∷ []) (body.Symbol (codes "a")) ∷ symbol (codes "b") ∷ [])) ∷ [])
unfolding lex
operator_annotates = refl

commas :
    read_utf8 2 (codes "[a,/*b*/{c:d,c:true,},]")
    ≡ Ok (plain (body.List (symbol (codes "a") ∷ plain (body.Struct (field (codes "c") (symbol (codes "d")) ∷ field (codes "c") (plain (body.Bool true)) ∷ [])) ∷ [])) ∷ [])
unfolding lex
commas = refl

-- segments are joined, also in a name
segments :
    read_utf8 1 (codes "{'''a''' '''b''':c::'''d'''/*e*/'''f'''}")
    ≡ Ok (plain (body.Struct (field (codes "ab") (noted (codes "c" ∷ []) (body.String (codes "df"))) ∷ [])) ∷ [])
unfolding lex lex_segment chars is_utf8 encode_utf8
segments = refl

strings : read_utf8 1 (codes "('''a''' \"b\" '''c''')") ≡ Ok (plain (body.Sexp (map (λ text. plain (body.String text)) (codes "a" ∷ codes "b" ∷ codes "c" ∷ []))) ∷ [])
unfolding lex lex_string lex_segment chars is_utf8 encode_utf8
strings = refl

-- no symbol table: not at the top level, in quotes, and no struct
other_tables :
    read_utf8 2 (codes "[$ion_symbol_table::{}]'$ion_symbol_table'::{}$ion_symbol_table::[]")
    ≡ Ok (plain (body.List (noted (codes "$ion_symbol_table" ∷ []) (body.Struct []) ∷ [])) ∷ noted (codes "$ion_symbol_table" ∷ []) (body.Struct []) ∷ noted (codes "$ion_symbol_table" ∷ []) (body.List []) ∷ [])
unfolding lex lex_quoted chars is_utf8 encode_utf8
other_tables = refl

-- ---- texts that are refused, with at most two containers open

abbrev all_refused : IonKind → List ℕ → List Answer
all_refused why = map (λ at. refused at why)

-- a token that may not come next
unexpected :
    map (read_utf8 2)
    (codes "[a b" ∷ codes "a.b" ∷ codes "{a::b}" ∷ codes "[a::]" ∷ codes "null::a" ∷ codes "[,]" ∷ codes "[a,,b]" ∷ codes "(a,b)" ∷ codes "a,b" ∷ codes "{a b}" ∷ codes "{a:b c}" ∷ codes "{true:a}" ∷ codes "{a:b:c}"
    ∷ codes "]" ∷ codes "[a)" ∷ codes "{a:}" ∷ codes "{a}" ∷ codes "::a" ∷ codes "+" ∷ codes "[+]" ∷ [])
    ≡ all_refused fault.BadToken (3 ∷ 1 ∷ 2 ∷ 4 ∷ 4 ∷ 1 ∷ 3 ∷ 2 ∷ 1 ∷ 3 ∷ 5 ∷ 1 ∷ 4 ∷ 0 ∷ 2 ∷ 3 ∷ 2 ∷ 0 ∷ 0 ∷ 1 ∷ [])
unfolding lex
unexpected = refl

-- a word that is none, and a byte that begins no token
ill_formed : map (read_utf8 2) (codes "[null." ∷ codes "null.symbols" ∷ codes "a \\" ∷ []) ≡ all_refused fault.BadToken (1 ∷ 0 ∷ 2 ∷ [])
unfolding lex
ill_formed = refl

after_texts : map (read_utf8 2) (codes "\"a\"::b" ∷ codes "'''a'''::b" ∷ codes "{a \"b\":c}" ∷ codes "{\"a\" '''b''':c}" ∷ codes "['''a''' b]" ∷ []) ≡ all_refused fault.BadToken (3 ∷ 7 ∷ 3 ∷ 5 ∷ 9 ∷ [])
unfolding lex lex_string lex_segment chars is_utf8 encode_utf8
after_texts = refl

unclosed : map (read_utf8 2) (codes "/*a*" ∷ codes "a::" ∷ codes "[1,2" ∷ codes "{a:" ∷ codes "(a" ∷ codes "[a \"b" ∷ codes "{a 'b" ∷ []) ≡ all_refused fault.Unclosed (4 ∷ 3 ∷ 4 ∷ 3 ∷ 2 ∷ 5 ∷ 5 ∷ [])
unfolding lex lex_number is_spelled lex_string lex_quoted
unclosed = refl

floats : map (read_utf8 2) (codes "nan" ∷ codes "+inf" ∷ codes "(a-inf)" ∷ codes "null.float" ∷ codes "[a 2e5]" ∷ codes "{nan:a}" ∷ []) ≡ all_refused fault.FloatRefused (0 ∷ 0 ∷ 2 ∷ 0 ∷ 3 ∷ 1 ∷ [])
unfolding lex lex_number
floats = refl

infinities : map (read_utf8 2) (codes "-inf" ∷ codes "[+inf,1]" ∷ codes "(-inf)" ∷ []) ≡ all_refused fault.FloatRefused (0 ∷ 1 ∷ 1 ∷ [])
unfolding lex
infinities = refl

sign_outside : map (read_utf8 2) (codes "params+inf:" ∷ codes "+inf:" ∷ codes "[-infinite]" ∷ []) ≡ all_refused fault.BadToken (6 ∷ 0 ∷ 1 ∷ [])
unfolding lex
sign_outside = refl

symbol_ids : map (read_utf8 0) (codes "$10" ∷ codes "a $1::b" ∷ codes "$ion_symbol_table::{" ∷ codes "a::$ion_symbol_table::b::{}" ∷ []) ≡ all_refused fault.SymbolIdRefused (0 ∷ 2 ∷ 19 ∷ 25 ∷ [])
unfolding lex
symbol_ids = refl

too_deep : map (read_utf8 2) (codes "[[[" ∷ codes "[({a:b})]" ∷ codes "[[a [" ∷ []) ≡ all_refused fault.TooDeep (2 ∷ 2 ∷ 4 ∷ [])
unfolding lex
too_deep = refl
