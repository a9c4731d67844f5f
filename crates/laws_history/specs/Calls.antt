-- What was told at entry and at the end.

pub record Span (T : Type 0) : Type 0 where
  pub before : T
  pub after : T

abbrev pub span : {T : Type 0} → T → T → Span T
span before after = record { before = before; after = after }
