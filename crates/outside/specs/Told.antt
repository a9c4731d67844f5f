-- What a source, a sink and a store tell: their meanings, and how often they failed.
use Rattle.std.specs.Prelude.{ℕ, Bool, List, Option, option_map}
use Rattle.outside.specs.Store.{Content}

-- the bytes that are left, where the source tells them, and how often it failed
pub record SourceTold : Type 0 where
  pub left : Option (List ℕ)
  pub faults : ℕ

-- the bytes that were written, where the sink tells them, and how often it failed
pub record SinkTold : Type 0 where
  pub written : Option (List ℕ)
  pub faults : ℕ

-- the content, where the store tells it, whether the last call by `&mut` answered `Failed`, and how often the store
-- failed
pub record StoreTold : Type 0 where
  pub content : Option Content
  pub last_failed : Bool
  pub faults : ℕ

-- the bytes that the store holds, where it tells them
abbrev pub held : StoreTold → Option (List ℕ)
held told = option_map (λ content. content.bytes) told.content
