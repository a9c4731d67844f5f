-- What an append leaves, where it appended nothing, and for a caller that returns it as its own.
use Rattle.std.proofs.Common.{◌≡◌, Bool, inl, le_refl, refl, subst, sym, None, Result, Ok, Err}
use Rattle.ledger_model.specs.declared.block.Block.{Block}
use Rattle.laws_history.specs.Standings.{Standing}
use Rattle.outside.specs.Told.{StoreTold}
use Rattle.journal_keeper.specs.declared.keeping.SettleFault.TheVariants as settle
use Rattle.journal_keeper.proofs.Calls.{no_call}
use Rattle.ledger_core.specs.declared.appending.Unkept.{Unkept}
use Rattle.ledger_core.specs.Leaving.{AppendLeaves}
use Rattle.ledger_core.specs.Tails.{TailHeld}
use Rattle.ledger_core.proofs.Imaging.{refused_images}

abbrev pub tail_of : {S C : Type 0} → S → C → Standing → Bool → TailHeld S C
tail_of store clock standing marked = record { store = store; clock = clock; standing = standing; marked = marked }

-- tails of equal parts
pub equal_tails : {S C : Type 0} (a b : S) (clock : C) (s n : Standing) (x y : Bool) → a ≡ b → s ≡ n → x ≡ y
    → tail_of a clock s x ≡ tail_of b clock n y
equal_tails a b clock s n x y stores standings marks = λ i. tail_of (stores i) clock (standings i) (marks i)

-- memory ran out before the line came to the store
abbrev pub no_memory : Unkept
no_memory = record { fault = settle.OutOfMemory; tried = None }

module _ {S C : Type 0} (told : S → StoreTold) where
  as_it_was : (R : Type 0) (h : TailHeld S C) (b : Block) → AppendLeaves told {R = R} h h b (Err no_memory)
  as_it_was R h b = record {
    standing = tt;
    same = refl;
    clock = refl;
    holds = tt;
    synced = tt;
    settled = tt;
    part = inl refl;
    tried = tt;
    left = refl;
    marked = inl (refl, refl);
    images = refused_images R told h no_memory;
    calls = no_call 4 _ _ refl;
    later = le_refl _;
    fine = tt;
    fault = refl;
  }

  pub nothing_appended : {R : Type 0} (h n : TailHeld S C) (b : Block) (r : Result R Unkept) → r ≡ Err no_memory → n ≡ h
      → AppendLeaves told h n b r
  nothing_appended {R} h n b r out same =
      subst (λ (x : Result R Unkept). AppendLeaves told h n b x) (sym out)
      (subst (λ (x : TailHeld S C). AppendLeaves told {R = R} h x b (Err no_memory)) (sym same) (as_it_was R h b))

  module _ (h n : TailHeld S C) (made b : Block) (is : made ≡ b) where
    unkept_as : (T R : Type 0) (e : Unkept) → AppendLeaves told {R = T} h n b (Err e) → AppendLeaves told {R = R} h n b (Err e)
    unkept_as T R e l = record {
      standing = tt;
      same = l.same;
      clock = l.clock;
      holds = tt;
      synced = tt;
      settled = tt;
      part = l.part;
      tried = l.tried;
      left = l.left;
      marked = l.marked;
      images = l.images;
      calls = l.calls;
      later = l.later;
      fine = tt;
      fault = l.fault;
    }

    kept_as : {T R : Type 0} (done : T) (d : R) → AppendLeaves told h n b (Ok done) → AppendLeaves told h n b (Ok d)
    kept_as done d l = record {
      standing = l.standing;
      same = tt;
      clock = l.clock;
      holds = l.holds;
      synced = l.synced;
      settled = l.settled;
      part = tt;
      tried = tt;
      left = tt;
      marked = tt;
      images = l.images;
      calls = l.calls;
      later = l.later;
      fine = l.fine;
      fault = tt;
    }

    pub passed_on : (T : Type 0) {R : Type 0} (r : Result R Unkept) (e : Unkept) → r ≡ Err e → AppendLeaves told {R = T} h n made (Err e)
        → AppendLeaves told h n b r
    passed_on T {R} r e out l =
        subst (λ (x : Result R Unkept). AppendLeaves told h n b x) (sym out)
        (unkept_as T R e (subst (λ (x : Block). AppendLeaves told {R = T} h n x (Err e)) is l))

    pub kept_on : {T R : Type 0} (done : T) (d : R) → AppendLeaves told h n made (Ok done) → AppendLeaves told h n b (Ok d)
    kept_on done d l = kept_as done d (subst (λ (x : Block). AppendLeaves told h n x (Ok done)) is l)
