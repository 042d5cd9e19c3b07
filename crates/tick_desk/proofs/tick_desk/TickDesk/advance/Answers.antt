use Rattle.std.proofs.Common.{Bool, Result, Ok, true, ap, ◌∙◌, subst, arith}
use Rattle.host_base.specs.declared.bytes.Memory.{Memory}
use Rattle.hub_core.specs.Book.{Ticked}
use Rattle.tick_desk.proofs.Through.{counted_after, known_after, stays, still_known, ticks_few, within_after}
use Rattle.tick_desk.proofs.tick_desk.TickDesk.advance.Goals as goal
use Rattle.tick_desk.proofs.tick_desk.TickDesk.advance.Goals.{then-changed, else-changed}

pub overflow_add-self : goal.overflow_add-self
overflow_add-self g c =
    let old = g.D.Desk.book c.self.inside.desk in
    let new = g.D.Desk.book c.tick-place.new.self in
    let t : Ticked old new c.args.moment c.tick-place.result.0 (Ok true) =
    subst (λ (a : Result Bool Memory). Ticked old new c.args.moment c.tick-place.result.0 a) (c.in-Ok.is ∙ ap Ok c.if-changed.true) c.tick-place.ensures.ticked in
    let within = within_after old new c.args.moment c.tick-place.result.0 c.self.inside.ticks (Ok true) t c.self.invariant.1 in
    let few = ticks_few new.seen in
    grind (arith, within, few, c.place-seen.ensures, c.place-seen.type_inv)

pub invariant_of-self : goal.invariant_of-self
invariant_of-self g c =
    let old = g.D.Desk.book c.self.inside.desk in
    let new = g.D.Desk.book c.tick-place.new.self in
    let t : Ticked old new c.args.moment c.tick-place.result.0 (Ok c.in-Ok.changed) =
    subst (λ (a : Result Bool Memory). Ticked old new c.args.moment c.tick-place.result.0 a) c.in-Ok.is c.tick-place.ensures.ticked in
    let known = known_after old new c.args.moment c.tick-place.result.0 (Ok c.in-Ok.changed) c.self.inside.last t c.self.invariant.2 in
    elim c.if-changed.branch [
      | then-changed w ↦
          let up : Ticked old new c.args.moment c.tick-place.result.0 (Ok true) =
          subst (λ (b : Bool). Ticked old new c.args.moment c.tick-place.result.0 (Ok b)) w.if-changed.true t in
          rw (w.self-inside-is) (
            counted_after old new c.args.moment c.tick-place.result.0 c.self.inside.ticks (Ok true) up c.self.invariant.0,
            within_after old new c.args.moment c.tick-place.result.0 c.self.inside.ticks (Ok true) up c.self.invariant.1,
            known,
          )
      | else-changed w ↦
          let same = stays old new c.self.inside.ticks c.self.inside.last t.later (omega (arith, t.accepted)) c.self.invariant in
          rw (w.self-inside-is) (same.0, same.1, known)
    ]

pub invariant_of-self-in_default : goal.invariant_of-self-in_default
invariant_of-self-in_default g c =
    let t = c.tick-place.ensures.ticked in
    stays _ _ c.self.inside.ticks c.self.inside.last t.later (omega (arith, t.accepted)) c.self.invariant

pub returns-in_default-clause-known : goal.returns-in_default-clause-known
returns-in_default-clause-known g c = still_known _ _ c.self.inside.last c.tick-place.ensures.ticked.later c.self.invariant.2
