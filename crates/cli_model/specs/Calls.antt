-- What a call of the program was told by its source, its store, its clock and its sink.
use Rattle.std.specs.Prelude.{ℤ, List, Option, String}
use Rattle.std.specs.declared.alloc.Global.{Global}
use Rattle.outside.specs.Told.{SourceTold, SinkTold, StoreTold}
use Rattle.laws_history.specs.Calls.{Span}

-- what the source and the store told at entry and at the end, and the answers that the clock had given, where it tells
-- them
pub record Outside : Type 0 where
  pub source : Span SourceTold
  pub store : Span StoreTold
  pub clock : Span (Option (List ℤ))

abbrev pub outside : Span SourceTold → Span StoreTold → Span (Option (List ℤ)) → Outside
outside source store clock = record { source = source; store = store; clock = clock }

-- a call with these words, and what its sink told
pub record Call : Type 0 where
  pub words : List (String Global)
  pub told : Outside
  pub sink : Span SinkTold
