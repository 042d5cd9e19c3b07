use Rattle.std.proofs.Common.{◌≡◌, ◌+◌, Bool, Result, Ok, Err, length, subst, arith, inl, inr}
use Rattle.host_base.specs.declared.bytes.Memory.{Memory}
use Rattle.hub_core.specs.Book.{Ticked}
use Rattle.hub_core.specs.Ticking.{added_by}
use Rattle.tick_desk.specs.Clocked.{last_after}
use Rattle.tick_desk.proofs.Through.{counts_after, counts_failed, counts_none, has_ticked, if_ok, in_time_ok, judged_ok, stays, still_there}
use Rattle.tick_desk.proofs.tick_desk.TickDeskDesk.verdict.Goals as goal

pub invariant_of-self : goal.invariant_of-self
invariant_of-self g c =
    let none = c.verdict.ensures.none in
    stays _ _ c.self.inside.ticks c.self.inside.last none.later (omega (arith, none.accepted)) c.self.invariant

pub returns-then-not-is_due-clause-clock : goal.returns-then-not-is_due-clause-clock
returns-then-not-is_due-clause-clock g c = rw (← c.self.view_is) (
  c.now-moment.result,
  c.now-moment.ensures,
  counts_none c.now-moment.result c.self.inside.ticks c.self.inside.last _,
  if_ok c.verdict.result _ (inr (c.is_due.ensures c.if-not-is_due.true)),
)

pub returns-then-not-is_due-clause-on_time : goal.returns-then-not-is_due-clause-on_time
returns-then-not-is_due-clause-on_time g c =
    in_time_ok (g.D.Desk.book c.self.inside.desk) (g.D.Desk.book c.verdict.new.self) c.self.inside.last c.args.key.now c.verdict.result
    (still_there c.now-moment.result c.self.inside.last (c.is_due.ensures c.if-not-is_due.true)) c.self.invariant.2 c.verdict.ensures.none.later
    c.verdict.ensures.judged c.verdict.ensures.onward

pub invariant_of-self-in-Ok : goal.invariant_of-self-in-Ok
invariant_of-self-in-Ok g c =
    let none = c.verdict-in-Ok.ensures.none in
    stays _ _ c.self-2.inside.ticks c.self-2.inside.last none.later (omega (arith, none.accepted)) c.self-2.invariant

pub returns-in-Ok-clause-gave : goal.returns-in-Ok-clause-gave
returns-in-Ok-clause-gave g c = if_ok c.verdict-in-Ok.result _ (c.self-2.inside.desk, c.verdict-in-Ok.ensures.gave)

pub returns-in-Ok-clause-judged : goal.returns-in-Ok-clause-judged
returns-in-Ok-clause-judged g c =
    let m = c.now-moment.result in
    let old = g.D.Desk.book c.self.inside.desk in
    let mid = g.D.Desk.book c.self-2.inside.desk in
    let t : Ticked old mid m c.advance-ticked.result.0 c.advance-ticked.result.1 = rw (← c.self-2.view_is) at c.advance-ticked.ensures.ticked in
    rw (← c.self.view_is)
    (judged_ok old mid (g.D.Desk.book c.verdict-in-Ok.new.self) m c.advance-ticked.result.0 c.advance-ticked.result.1 t c.self-2.inside.ticks c.args.key.now
    c.verdict-in-Ok.result c.verdict-in-Ok.ensures.judged)

pub returns-in-Ok-clause-clock : goal.returns-in-Ok-clause-clock
returns-in-Ok-clause-clock g c =
    let m = c.now-moment.result in
    let old = g.D.Desk.book c.self.inside.desk in
    let mid = g.D.Desk.book c.self-2.inside.desk in
    let t : Ticked old mid m c.advance-ticked.result.0 (Ok c.in-Ok.field-0) =
    subst (λ (a : Result Bool Memory). Ticked old mid m c.advance-ticked.result.0 a) c.in-Ok.is (rw (← c.self-2.view_is) at c.advance-ticked.ensures.ticked) in
    let ticks : c.self-2.inside.ticks ≡ c.self.inside.ticks + length (added_by m (Ok c.in-Ok.field-0)) =
    subst (λ (a : Result Bool Memory). c.self-2.inside.ticks ≡ c.self.inside.ticks + length (added_by m a)) c.in-Ok.is (rw (← c.self-2.view_is) at c.advance-ticked.ensures.ticks) in
    let last : c.self-2.inside.last ≡ last_after c.self.inside.last m c.advance-ticked.result.0 (Ok c.in-Ok.field-0) =
    subst (λ (a : Result Bool Memory). c.self-2.inside.last ≡ last_after c.self.inside.last m c.advance-ticked.result.0 a) c.in-Ok.is (rw (← c.self-2.view_is) at c.advance-ticked.ensures.last) in
    let clock : c.self-2.inside.clock ≡ c.now-moment.new.self = rw (← c.self-2.view_is) at c.advance-ticked.ensures.clock in
    rw (← c.self.view_is, ticks, last, clock) (
      m,
      c.now-moment.ensures,
      counts_after old mid (g.D.Desk.book c.verdict-in-Ok.new.self) m c.advance-ticked.result.0 c.self.inside.ticks c.in-Ok.field-0 c.self.inside.last t c.verdict-in-Ok.ensures.none.later,
      if_ok c.verdict-in-Ok.result _ (inl (has_ticked old mid m c.advance-ticked.result.0 c.in-Ok.field-0 c.self.inside.last t)),
    )

pub returns-in-Ok-clause-on_time : goal.returns-in-Ok-clause-on_time
returns-in-Ok-clause-on_time g c =
    let m = c.now-moment.result in
    let last : c.self-2.inside.last ≡ last_after c.self.inside.last m c.advance-ticked.result.0 (Ok c.in-Ok.field-0) =
    subst (λ (a : Result Bool Memory). c.self-2.inside.last ≡ last_after c.self.inside.last m c.advance-ticked.result.0 a) c.in-Ok.is (rw (← c.self-2.view_is) at c.advance-ticked.ensures.last) in
    in_time_ok (g.D.Desk.book c.self-2.inside.desk) (g.D.Desk.book c.verdict-in-Ok.new.self) c.self-2.inside.last c.args.key.now c.verdict-in-Ok.result
    (record { moment = m; place = c.advance-ticked.result.0 }, last) c.self-2.invariant.2 c.verdict-in-Ok.ensures.none.later
    c.verdict-in-Ok.ensures.judged c.verdict-in-Ok.ensures.onward

pub returns-in-Err-clause-clock : goal.returns-in-Err-clause-clock
returns-in-Err-clause-clock g c =
    let m = c.now-moment.result in
    let ticks : c.advance-ticked.new.self.ticks ≡ c.self.inside.ticks + length (added_by m (Err c.in-Err.memory)) =
    subst (λ (a : Result Bool Memory). c.advance-ticked.new.self.ticks ≡ c.self.inside.ticks + length (added_by m a)) c.in-Err.is c.advance-ticked.ensures.ticks in
    rw (← c.self.view_is, c.advance-ticked.ensures.clock)
    (m, c.now-moment.ensures, counts_failed m c.self.inside.ticks c.advance-ticked.new.self.ticks c.advance-ticked.new.self.last _ (omega (arith, ticks)), tt)
