use Rattle.std.proofs.Common.{◌≡◌, ◌∙◌, [], ◌∷◌, ◌++◌, ap, arith, length, refl, rules, sym, subst, inl, inr, Some, None, Err}
use Rattle.ledger_model.specs.Journal.{line}
use Rattle.laws_history.specs.Standings.{IsStanding}
use Rattle.ledger_core.specs.Tails.{TailHeld, joined}
use Rattle.journal_reader.proofs.Bounds.{undamaged_bound}
use Rattle.journal_keeper.specs.declared.keeping.SettleFault.{SettleFault}
use Rattle.ledger_core.specs.declared.appending.Unkept.{Unkept}
use Rattle.ledger_core.proofs.Appends.{equal_tails, no_memory, nothing_appended}
use Rattle.ledger_core.proofs.Imaging.{kept_line, same_blocks, unkept_line}
use Rattle.ledger_core.proofs.Joined.{appended, faulted, holds-more, left_with, may-hold, tried_with}
use Rattle.outside.specs.Told.{held}
use Rattle.ledger_core.proofs.tail.Tail.append_block.Goals as goal

pub invariant_of-self-in-Err : goal.invariant_of-self-in-Err
invariant_of-self-in-Err g c =
    faulted _ _ _ _ _ _ _ _ _ _ c.as_bytes.result.now _ c.self.invariant c.make_room.ensures.list c.in-Err.ensures.same c.in-Err.ensures.part
    (elim c.in-Err.ensures.marked [
      | inl same ↦ inl (ap (λ k. held (g.S.JournalStore.told k.store)) same.1, ap (λ k. k.marked) same.1)
      | inr marked ↦ inr marked
    ])

pub push-requires-clause-few : goal.push-requires-clause-few
push-requires-clause-few g c =
    let kept = ap length c.make_room.ensures.list in
    let bound = undamaged_bound c.self.inside.blocks.list c.self.invariant.0.stands.undamaged in
    omega (arith, kept, bound)

pub invariant_of-self-2 : goal.invariant_of-self-2
invariant_of-self-2 g c =
    let is : c.as_bytes.result.now ≡ line c.args.block = c.as_bytes.ensures.value ∙ c.as_str.ensures ∙ c.requires.written in
    let more = c.push.ensures ∙ ap (λ bs. bs ++ c.args.block ∷ []) c.make_room.ensures.list in
    let stands = subst (λ (t : TailHeld _ _). IsStanding (joined t.standing c.args.block)) (sym c.self.view_is) c.requires.stands in
    appended _ _ _ _ c.args.block _ _ _ _ _ _ c.as_bytes.result.now _ _ stands c.self.invariant is more
    c.in-Ok.ensures.size c.in-Ok.ensures.bytes c.in_ok-version.ensures

pub returns-in_err-version : goal.returns-in_err-version
returns-in_err-version g c =
    let out : c.from_residual.result ≡ Err no_memory = search rules in
    rw (← c.self.view_is) (nothing_appended g.S.JournalStore.told _ _ c.args.block _ out refl)

pub returns-in_err-make_room : goal.returns-in_err-make_room
returns-in_err-make_room g c =
    let out : c.from_residual-in_err-make_room.result ≡ Err no_memory = search rules in
    rw (← c.self.view_is)
    (nothing_appended g.S.JournalStore.told _ _ c.args.block _ out
    (equal_tails _ _ c.self.inside.clock _ _ _ _ refl (same_blocks c.self.inside.mask.bits c.self.inside.last _ _ c.make_room.ensures.list) refl))

pub returns-in-Err : goal.returns-in-Err
returns-in-Err g c =
    let is : c.as_bytes.result.now ≡ line c.args.block = c.as_bytes.ensures.value ∙ c.as_str.ensures ∙ c.requires.written in
    let stands = subst (λ (t : TailHeld _ _). IsStanding (joined t.standing c.args.block)) (sym c.self.view_is) c.requires.stands in
    let e : Unkept = record { fault = c.in-Err.fault; tried = Some c.of.result } in
    let same = same_blocks c.self.inside.mask.bits c.self.inside.last _ _ c.make_room.ensures.list in
    let part = may-hold _ _ _ c.args.block _ _ _ _ c.as_bytes.result.now _ c.self.invariant is c.in-Err.ensures.part in
    rw (← c.self.view_is) (record {
      standing = tt;
      same = same;
      clock = refl;
      holds = tt;
      synced = tt;
      settled = tt;
      part = part;
      tried = tried_with c.args.block c.of.result.value c.in-Err.fault c.of.ensures;
      left = left_with _ c.args.block c.of.result.value _ _ c.of.ensures part;
      marked = elim c.in-Err.ensures.marked [
        | inl kept ↦ inl (kept.0, equal_tails _ _ c.self.inside.clock _ _ _ _ (ap (λ k. k.store) kept.1) same (ap (λ k. k.marked) kept.1))
        | inr marked ↦ inr marked
      ];
      images = unkept_line g.S.JournalStore.told _ _ c.args.block c.self.inside.keeper.size c.as_bytes.result.now c.self.invariant.0.long is stands
          (Unit {0}) {U = Unit {0}} (Err e) e c.in-Err.fault refl (ap Some c.of.ensures) c.in-Err.ensures.images same;
      calls = c.in-Err.ensures.calls;
      later = c.in-Err.ensures.store.later;
      fine = tt;
      fault = c.in-Err.ensures.store.fault;
    })

pub returns : goal.returns
returns g c =
    let is : c.as_bytes.result.now ≡ line c.args.block = c.as_bytes.ensures.value ∙ c.as_str.ensures ∙ c.requires.written in
    let more = c.push.ensures ∙ ap (λ bs. bs ++ c.args.block ∷ []) c.make_room.ensures.list in
    let stands = subst (λ (t : TailHeld _ _). IsStanding (joined t.standing c.args.block)) (sym c.self.view_is) c.requires.stands in
    let now = same_blocks c.self.inside.mask.bits c.self.inside.last _ _ more in
    rw (← c.self.view_is) (record {
      standing = now;
      same = tt;
      clock = refl;
      holds = holds-more _ _ _ _ c.args.block _ _ _ _ c.as_bytes.result.now _ c.self.invariant is more c.in-Ok.ensures.bytes;
      synced = c.in-Ok.ensures.synced;
      settled = c.in-Ok.ensures.settled;
      part = tt;
      tried = tt;
      left = tt;
      marked = tt;
      images = kept_line g.S.JournalStore.told _ _ c.args.block c.self.inside.keeper.size c.as_bytes.result.now c.self.invariant.0.long is stands
          SettleFault {T = Unit {0}} {U = Unit {0}} tt tt None c.in-Ok.ensures.images now c.in-Ok.ensures.settled;
      calls = c.in-Ok.ensures.calls;
      later = c.in-Ok.ensures.store.later;
      fine = c.in-Ok.ensures.store.fine;
      fault = tt;
    })
