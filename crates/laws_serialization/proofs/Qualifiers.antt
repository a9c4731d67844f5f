-- Nulls and bools are determined by their type qualifiers.
use Rattle.std.proofs.Common.{◌≡◌, ◌∙◌, ℕ, ◌==◌, Bool, true, false, if◌then◌else◌, refl, sym, ap, arith}
use Rattle.ion_values.specs.declared.value.Kind.{Kind}
use Rattle.hash_model.specs.Serialize.{null_qualifier}

kind_at : ℕ → Kind
kind_at q =
    if q == 0x0F then Kind.Null else if q == 0x1F then Kind.Bool else if q == 0x2F then Kind.Int else if q == 0x5F then Kind.Decimal
    else if q == 0x6F then Kind.Timestamp else if q == 0x7F then Kind.Symbol else if q == 0x8F then Kind.String
    else if q == 0x9F then Kind.Clob else if q == 0xAF then Kind.Blob else if q == 0xBF then Kind.List
    else if q == 0xCF then Kind.Sexp else Kind.Struct

kind_back : (k : Kind) → kind_at (null_qualifier k) ≡ k
unfolding kind_at
kind_back Kind.Null = refl
kind_back Kind.Bool = refl
kind_back Kind.Int = refl
kind_back Kind.Decimal = refl
kind_back Kind.Timestamp = refl
kind_back Kind.Symbol = refl
kind_back Kind.String = refl
kind_back Kind.Clob = refl
kind_back Kind.Blob = refl
kind_back Kind.List = refl
kind_back Kind.Sexp = refl
kind_back Kind.Struct = refl

pub same_null : (a b : Kind) → null_qualifier a ≡ null_qualifier b → a ≡ b
same_null a b e = sym (kind_back a) ∙ ap kind_at e ∙ kind_back b

pub same_truth : (a b : Bool) → ◌≡◌ {A = ℕ} (if a then 0x11 else 0x10) (if b then 0x11 else 0x10) → a ≡ b
same_truth true true e = refl
same_truth false false e = refl
same_truth true false e = absurd (omega arith)
same_truth false true e = absurd (omega arith)
