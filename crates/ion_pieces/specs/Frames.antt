-- The open containers of a text whose values so far are within their ranges, and those that a reader hands out (Ion
-- 1.0, "Text encoding").
use Rattle.std.specs.Prelude.{◌&&◌, Bool, true, List, [], ◌∷◌, ◌++◌}
use Rattle.std.specs.List.{list_all}
use Rattle.ion_values.specs.Within.{within, field_within, text_within}
use Rattle.ion_values.specs.declared.value.Value.{Value}
use Rattle.ion_model.specs.Table.{Open}
use Rattle.ion_model.specs.declared.Members.{Members}
use Rattle.ion_model.specs.declared.Members.TheVariants as members
use Rattle.ion_model.specs.declared.Last.{Last}
use Rattle.ion_model.specs.declared.Last.TheVariants as last
use Rattle.ion_model.specs.declared.Frame.{Frame}

-- ---- within their ranges

abbrev pub members_within : Members → Bool
members_within (members.Stream vs) = list_all within vs
members_within (members.List vs) = list_all within vs
members_within (members.Sexp vs) = list_all within vs
members_within (members.Struct fs) = list_all field_within fs

-- a symbol or a long string that may become a member
abbrev pub last_within : Last → Bool
last_within (last.Symbol text quoted) = text_within text
last_within (last.LongString text) = text_within text
last_within _ = true

abbrev pub frame_within : Frame → Bool
frame_within f =
    members_within f.members && text_within f.name && list_all text_within f.annotations && last_within f.last

abbrev pub frames_within : Open → Bool
frames_within = list_all frame_within

-- ---- with values before those of the whole text

abbrev pub led_members : List Value → Members → Members
led_members vs (members.Stream ws) = members.Stream (vs ++ ws)
led_members vs ms = ms

abbrev pub led_frame : List Value → Frame → Frame
led_frame vs f = record {
  members = led_members vs f.members;
  name = f.name;
  annotations = f.annotations;
  is_table = f.is_table;
  last = f.last;
}

-- the outermost container is the last
abbrev pub led_open : List Value → Open → Open
led_open vs [] = []
led_open vs (f ∷ []) = led_frame vs f ∷ []
led_open vs (f ∷ g ∷ fs) = f ∷ led_open vs (g ∷ fs)
