use Rattle.std.proofs.Common.{◌≡◌, ◌+◌, Bool, Result, Ok, Err, length, subst, arith}
use Rattle.host_base.specs.declared.bytes.Memory.{Memory}
use Rattle.hub_core.specs.Book.{Ticked}
use Rattle.hub_core.specs.Ticking.{added_by}
use Rattle.tick_desk.specs.Clocked.{last_after}
use Rattle.tick_desk.proofs.Through.{counts_after, counts_failed, has_ticked, in_time, ordered_through, ordered_without, stays, unless_memory}
use Rattle.tick_desk.proofs.tick_desk.TickDeskDesk.order.Goals as goal

pub invariant_of-self-in-Ok : goal.invariant_of-self-in-Ok
invariant_of-self-in-Ok g c =
    let o = c.order.ensures.ordered in
    stays _ _ c.self-2.inside.ticks c.self-2.inside.last o.later (omega (arith, o.accepted)) c.self-2.invariant

pub returns-in-Ok-clause-ordered : goal.returns-in-Ok-clause-ordered
returns-in-Ok-clause-ordered g c =
    let m = c.now-moment.result in
    let old = g.D.Desk.book c.self.inside.desk in
    let mid = g.D.Desk.book c.self-2.inside.desk in
    let t : Ticked old mid m c.advance-place.result.0 (Ok c.in-Ok.field-0) =
    subst (λ (a : Result Bool Memory). Ticked old mid m c.advance-place.result.0 a) c.in-Ok.is (rw (← c.self-2.view_is) at c.advance-place.ensures.ticked) in
    let ticks : c.self-2.inside.ticks ≡ c.self.inside.ticks + length (added_by m (Ok c.in-Ok.field-0)) =
    subst (λ (a : Result Bool Memory). c.self-2.inside.ticks ≡ c.self.inside.ticks + length (added_by m a)) c.in-Ok.is (rw (← c.self-2.view_is) at c.advance-place.ensures.ticks) in
    rw (← c.self.view_is, ticks)
    (ordered_through old mid m c.advance-place.result.0 c.self.inside.ticks (Ok c.in-Ok.field-0) t c.self.invariant.0 (g.D.Desk.book c.order.new.self) c.args.order
    c.order.result.0 c.order.result.1 c.order.ensures.ordered)

pub returns-in-Ok-clause-clock : goal.returns-in-Ok-clause-clock
returns-in-Ok-clause-clock g c =
    let m = c.now-moment.result in
    let old = g.D.Desk.book c.self.inside.desk in
    let mid = g.D.Desk.book c.self-2.inside.desk in
    let t : Ticked old mid m c.advance-place.result.0 (Ok c.in-Ok.field-0) =
    subst (λ (a : Result Bool Memory). Ticked old mid m c.advance-place.result.0 a) c.in-Ok.is (rw (← c.self-2.view_is) at c.advance-place.ensures.ticked) in
    let ticks : c.self-2.inside.ticks ≡ c.self.inside.ticks + length (added_by m (Ok c.in-Ok.field-0)) =
    subst (λ (a : Result Bool Memory). c.self-2.inside.ticks ≡ c.self.inside.ticks + length (added_by m a)) c.in-Ok.is (rw (← c.self-2.view_is) at c.advance-place.ensures.ticks) in
    let last : c.self-2.inside.last ≡ last_after c.self.inside.last m c.advance-place.result.0 (Ok c.in-Ok.field-0) =
    subst (λ (a : Result Bool Memory). c.self-2.inside.last ≡ last_after c.self.inside.last m c.advance-place.result.0 a) c.in-Ok.is (rw (← c.self-2.view_is) at c.advance-place.ensures.last) in
    let clock : c.self-2.inside.clock ≡ c.now-moment.new.self = rw (← c.self-2.view_is) at c.advance-place.ensures.clock in
    rw (← c.self.view_is, ticks, last, clock) (
      m,
      c.now-moment.ensures,
      counts_after old mid (g.D.Desk.book c.order.new.self) m c.advance-place.result.0 c.self.inside.ticks c.in-Ok.field-0 c.self.inside.last t c.order.ensures.ordered.later,
      unless_memory _ c.order.result.1 (has_ticked old mid m c.advance-place.result.0 c.in-Ok.field-0 c.self.inside.last t),
    )

pub returns-in-Ok-clause-on_time : goal.returns-in-Ok-clause-on_time
returns-in-Ok-clause-on_time g c =
    let m = c.now-moment.result in
    let last : c.self-2.inside.last ≡ last_after c.self.inside.last m c.advance-place.result.0 (Ok c.in-Ok.field-0) =
    subst (λ (a : Result Bool Memory). c.self-2.inside.last ≡ last_after c.self.inside.last m c.advance-place.result.0 a) c.in-Ok.is (rw (← c.self-2.view_is) at c.advance-place.ensures.last) in
    let o = c.order.ensures.ordered in
    unless_memory _ c.order.result.1
    (in_time (g.D.Desk.book c.self-2.inside.desk) (g.D.Desk.book c.order.new.self) c.self-2.inside.last c.order.result.0
    (record { moment = m; place = c.advance-place.result.0 }, last) c.self-2.invariant.2 o.later o.placed.low_is c.order.ensures.onward)

pub returns-in-Err-clause-ordered : goal.returns-in-Err-clause-ordered
returns-in-Err-clause-ordered g c =
    let m = c.now-moment.result in
    let old = g.D.Desk.book c.self.inside.desk in
    let mid = g.D.Desk.book c.advance-place.new.self.desk in
    let t : Ticked old mid m c.advance-place.result.0 (Err c.in-Err.field-0) =
    subst (λ (a : Result Bool Memory). Ticked old mid m c.advance-place.result.0 a) c.in-Err.is c.advance-place.ensures.ticked in
    let ticks : c.advance-place.new.self.ticks ≡ c.self.inside.ticks + length (added_by m (Err c.in-Err.field-0)) =
    subst (λ (a : Result Bool Memory). c.advance-place.new.self.ticks ≡ c.self.inside.ticks + length (added_by m a)) c.in-Err.is c.advance-place.ensures.ticks in
    let same : c.advance-place.new.self.ticks ≡ c.self.inside.ticks = omega (arith, ticks) in
    rw (← c.self.view_is, same) (ordered_without old mid m c.advance-place.result.0 c.self.inside.ticks c.in-Err.field-0 t c.args.order)

pub returns-in-Err-clause-clock : goal.returns-in-Err-clause-clock
returns-in-Err-clause-clock g c =
    let m = c.now-moment.result in
    let ticks : c.advance-place.new.self.ticks ≡ c.self.inside.ticks + length (added_by m (Err c.in-Err.field-0)) =
    subst (λ (a : Result Bool Memory). c.advance-place.new.self.ticks ≡ c.self.inside.ticks + length (added_by m a)) c.in-Err.is c.advance-place.ensures.ticks in
    rw (← c.self.view_is, c.advance-place.ensures.clock)
    (m, c.now-moment.ensures, counts_failed m c.self.inside.ticks c.advance-place.new.self.ticks c.advance-place.new.self.last _ (omega (arith, ticks)), tt)
