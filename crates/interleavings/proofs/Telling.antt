-- How an input is answered, from how the events that its values spell are.
use Rattle.std.proofs.Common.{◌≡◌, ℕ, ◌-◌, List, ◌++◌, length, length-drop, take, drop, arith, Option, Some, None, Result, Ok, Err, ℤ, refl, sym, subst}
use Rattle.std.proofs.lemmas.List.{take_all}
use Rattle.std.specs.Prelude.{IfOk}
use Rattle.ion_values.specs.declared.fault.IonFault.{IonFault}
use Rattle.ion_values.specs.declared.value.Value.{Value}
use Rattle.ion_model.specs.Read.{Answer}
use Rattle.interleavings.specs.Lines as line
use Rattle.interleavings.specs.declared.Ended.{Ended}
use Rattle.interleavings.specs.declared.Ended.TheVariants as ended
use Rattle.interleavings.specs.Desks.{MemoryTail, Puts}
use Rattle.interleavings.specs.Runs.{Ends, EndsFresh, IsFresh, IsTold, Tells, events_of, first_of, first_times, times_or}

ok_so : {E : Type 0} (r : Result Ended E) (P Q : Ended → Type 0) → ((end : Ended) → P end → Q end) → IfOk r P → IfOk r Q
ok_so (Ok end) P Q f h = f end h
ok_so (Err e) P Q f h = tt

puts_so : (before after : List ℕ) (P Q : List ℕ → Type 0) → ((said : List ℕ) → P said → Q said) → Puts before after P → Puts before after Q
puts_so before after P Q f (said, is, p) = (said, is, f said p)

-- the values behind the first one
pub behind_first : (vs : List Value) → take (length vs - 1) (drop 1 vs) ≡ drop 1 vs
behind_first vs = take_all (length vs - 1) (drop 1 vs) (omega (arith, length-drop 1 vs))

module _ {E : Type 0} (r : Result Ended E) (before after : List ℕ) where
  pub fresh_ends : (times : List ℤ) (t : MemoryTail) (first : ℕ) (vs : List Value) → IsFresh times t
      → IfOk r (λ end. Puts before after (λ said. Ends end t first vs said)) → IfOk r (λ end. Puts before after (λ said. EndsFresh end times first vs said))
  fresh_ends times t first vs fresh =
      ok_so r (λ end. Puts before after (λ said. Ends end t first vs said)) (λ end. Puts before after (λ said. EndsFresh end times first vs said))
      (λ end. puts_so before after (λ said. Ends end t first vs said) (λ said. EndsFresh end times first vs said) (λ said e. (t, fresh, e)))

  pub first_told : (vs ws : List Value) (times : List ℤ) → Some times ≡ first_times vs → ws ≡ drop 1 vs
      → IfOk r (λ end. Puts before after (λ said. EndsFresh end times 1 ws said)) → IfOk r (λ end. Puts before after (λ said. Tells vs end said))
  first_told vs ws times is rest h =
      subst (λ (o : Option (List ℤ)). IfOk r (λ end. Puts before after (λ said. EndsFresh end (times_or o) (first_of o) (events_of o vs) said))) is
      (subst (λ (l : List Value). IfOk r (λ end. Puts before after (λ said. EndsFresh end times 1 l said))) rest h)

  pub usual_told : (vs : List Value) (times : List ℤ) → None ≡ first_times vs → times ≡ times_or None
      → IfOk r (λ end. Puts before after (λ said. EndsFresh end times 0 vs said)) → IfOk r (λ end. Puts before after (λ said. Tells vs end said))
  usual_told vs times is usual h =
      subst (λ (o : Option (List ℤ)). IfOk r (λ end. Puts before after (λ said. EndsFresh end (times_or o) (first_of o) (events_of o vs) said))) is
      (subst (λ (l : List ℤ). IfOk r (λ end. Puts before after (λ said. EndsFresh end l 0 vs said))) usual h)

  pub values_told : (read : Answer) (vs ws : List Value) → read ≡ Ok vs → ws ≡ vs
      → IfOk r (λ end. Puts before after (λ said. Tells ws end said)) → IfOk r (λ end. Puts before after (λ said. IsTold read end said))
  values_told read vs ws is same h =
      subst (λ (a : Answer). IfOk r (λ end. Puts before after (λ said. IsTold a end said))) (sym is)
      (subst (λ (l : List Value). IfOk r (λ end. Puts before after (λ said. Tells l end said))) same h)

pub unread_told : (before after : List ℕ) (read : Answer) (fault : IonFault) → read ≡ Err fault → after ≡ before ++ line.bad_event 0
    → Puts before after (λ said. IsTold read ended.BadEvent said)
unread_told before after read fault is puts =
    (line.bad_event 0, puts, subst (λ (a : Answer). IsTold a ended.BadEvent (line.bad_event 0)) (sym is) refl)
