-- What the reader of Ion text holds and answers, in the words of the definitions (Ion 1.0, "Text encoding").
use Rattle.std.specs.Prelude.{◌≡◌, List, ◌∷◌, reverse, Option, Some, None, Result, Ok, Err}
use Rattle.ion_values.specs.declared.fault.IonKind.TheVariants as fault
use Rattle.ion_values.specs.declared.value.Value.{Value}
use Rattle.ion_values.specs.declared.value.Body.{Body}
use Rattle.ion_model.specs.Table.{Open, Taken, closed, close}
use Rattle.ion_model.specs.Read.{Answer}
use Rattle.ion_model.specs.declared.Members.{Members}
use Rattle.ion_text.specs.declared.stream.ReadFault.{ReadFault}
use Rattle.ion_text.specs.declared.stream.ReadFault.TheVariants as fails
use Rattle.ion_text.specs.declared.stream.reader.Reader.{Reader}
use Rattle.ion_text.specs.declared.stream.reader.Refused.{Refused}
use Rattle.ion_text.specs.declared.stream.reader.Refused.TheVariants as refused

abbrev pub open_of : Reader → Open
open_of r = r.inner ∷ reverse r.outer.items

-- a token is taken, or refused with its kind, as the definition says, unless memory runs out
abbrev pub Takes : Open → Result (Unit {0}) Refused → Taken → Type 0
Takes new (Ok x) taken = taken ≡ Ok new
Takes new (Err (refused.Kind k)) taken = taken ≡ Err k
Takes new (Err refused.Memory) taken = Unit {0}

-- The innermost container ends with these members, so that it only remains to make a value of them.
abbrev pub Leaves : Reader → Option Members → Reader → Type 0
Leaves old None new =
    (content : Members → Option Body) → close content old.inner (reverse old.outer.items) ≡ Err fault.BadToken
Leaves old (Some ms) new =
    (content : Members → Option Body) →
    close content old.inner (reverse old.outer.items) ≡ closed (content ms) new.inner (reverse new.outer.items)

-- values or a fault are those of the definition, unless memory runs out
abbrev pub Gives : Result (List Value) ReadFault → Answer → Type 0
Gives (Ok values) answer = answer ≡ Ok values
Gives (Err (fails.Ion f)) answer = answer ≡ Err f
Gives (Err fails.OutOfMemory) answer = Unit {0}
