-- How a reader goes over the members of a container that was written, where it reads each of them.
use Rattle.std.proofs.Common.{◌≡◌, ℕ, List, [], ◌∷◌, ◌++◌, map, refl, ap, sym, subst, ◌∙◌, append_assoc, append-nil}
use Rattle.std.specs.List.{AllByRecursion, flat_map}
use Rattle.ion_model.specs.Write.{parted}
use Rattle.ion_model.specs.Table as table
use Rattle.ion_model.specs.Table.{Open}
use Rattle.ion_model.specs.Read.{run}
use Rattle.ion_model.specs.declared.Members.{Members}
use Rattle.ion_model.specs.declared.Frame.{Frame}
use Rattle.ion_text.specs.RoundTrip.{MayFollow}
use Rattle.ion_text.proofs.ReadTurns.{Reads, Ends, filled}

-- what follows a part of the text, with members behind it
behind : (separator : ℕ) (pieces : List (List ℕ)) (rest : List ℕ) → MayFollow (separator ∷ []) → MayFollow rest → MayFollow (flat_map (λ next. separator ∷ next) pieces ++ rest)
behind separator [] rest s h = h
behind separator (piece ∷ pieces) rest s h = s

-- one reading behind another
pub then_reads :
    (depth at : ℕ) (f : Frame) (fs : Open) (z : List ℕ) (mid : Frame) (y : List ℕ) (g : Frame) (rest : List ℕ) → Reads depth at f fs z mid y →
    ((to : ℕ) (h : Frame) → table.settled h ≡ mid → Reads depth to h fs y g rest) → Reads depth at f fs z g rest
then_reads depth at f fs z mid y g rest first next =
    let second = next first.to first.frame first.settles in
    record { to = second.to; frame = second.frame; settles = second.settles; run = first.run ∙ second.run }

-- members X of the containers `made`, in frames `fs`
module _ (depth : ℕ) (fs : Open) (X : Type 0) (text : X → List ℕ) (made : List X → Members) (separator : ℕ) (follows : MayFollow (separator ∷ [])) where
  -- a member in front, and behind others
  abbrev pub First : X → Type 0
  First x = (at : ℕ) (rest : List ℕ) → MayFollow rest → Reads depth at (table.opened (made [])) fs (text x ++ rest) (filled (made (x ∷ []))) rest

  abbrev pub Next : X → Type 0
  Next x =
      (at : ℕ) (f : Frame) (xs : List X) (rest : List ℕ) → table.settled f ≡ filled (made xs) → MayFollow rest →
      Reads depth at f fs (separator ∷ text x ++ rest) (filled (made (xs ++ x ∷ []))) rest

  next_read :
      (ys : List X) → AllByRecursion Next ys → (at : ℕ) (f : Frame) (xs : List X) (rest : List ℕ) → table.settled f ≡ filled (made xs) → MayFollow rest →
      Reads depth at f fs (flat_map (λ next. separator ∷ next) (map text ys) ++ rest) (filled (made (xs ++ ys))) rest
  next_read [] each at f xs rest is h = record { to = at; frame = f; settles = is ∙ ap (λ all. filled (made all)) (sym (append-nil xs)); run = refl }
  next_read (y ∷ ys) each at f xs rest is h =
      let more : List ℕ = flat_map (λ next. separator ∷ next) (map text ys) in
      let z_is : separator ∷ text y ++ (more ++ rest) ≡ (separator ∷ text y ++ more) ++ rest = sym (append_assoc (separator ∷ text y) more rest) in
      let all_is : (xs ++ y ∷ []) ++ ys ≡ xs ++ y ∷ ys = append_assoc xs (y ∷ []) ys in
      let reads : Reads depth at f fs (separator ∷ text y ++ (more ++ rest)) (filled (made ((xs ++ y ∷ []) ++ ys))) rest =
      then_reads depth at f fs _ (filled (made (xs ++ y ∷ []))) (more ++ rest) _ rest (each.0 at f xs (more ++ rest) is (behind separator (map text ys) rest follows h))
      (λ to g settles. next_read ys each.1 to g (xs ++ y ∷ []) rest settles h) in
      subst (λ (z : List ℕ). Reads depth at f fs z (filled (made (xs ++ y ∷ ys))) rest) z_is
      (subst (λ (all : List X). Reads depth at f fs (separator ∷ text y ++ (more ++ rest)) (filled (made all)) rest) all_is reads)

  -- what is left to read of the container once its members are read
  pub record MembersRead (at : ℕ) (z : List ℕ) (xs : List X) (rest : List ℕ) : Type 0 where
    pub to : ℕ
    pub frame : Frame
    pub ends : Ends (made xs) frame
    pub run : run depth 0 at (table.opened (made []) ∷ fs) z ≡ run depth 0 to (frame ∷ fs) rest

  pub members_read :
      (xs : List X) (at : ℕ) (rest : List ℕ) → AllByRecursion First xs → AllByRecursion Next xs → MayFollow rest →
      MembersRead at (parted separator (map text xs) ++ rest) xs rest
  members_read [] at rest first each h = record { to = at; frame = table.opened (made []); ends = record { members = refl; closes = refl }; run = refl }
  members_read (x ∷ xs) at rest first each h =
      let more : List ℕ = flat_map (λ next. separator ∷ next) (map text xs) in
      let z_is : text x ++ (more ++ rest) ≡ (text x ++ more) ++ rest = sym (append_assoc (text x) more rest) in
      let reads : Reads depth at (table.opened (made [])) fs (text x ++ (more ++ rest)) (filled (made (x ∷ xs))) rest =
      then_reads depth at (table.opened (made [])) fs _ (filled (made (x ∷ []))) (more ++ rest) _ rest (first.0 at (more ++ rest) (behind separator (map text xs) rest follows h))
      (λ to g settles. next_read xs each.1 to g (x ∷ []) rest settles h) in
      record {
        to = reads.to;
        frame = reads.frame;
        ends = record { members = ap (λ (g : Frame). g.members) reads.settles; closes = ap (λ (g : Frame). table.may_close g.last) reads.settles };
        run = ap (λ z. run depth 0 at (table.opened (made []) ∷ fs) z) (sym z_is) ∙ reads.run;
      }
