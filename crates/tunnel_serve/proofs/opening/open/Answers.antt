use Rattle.std.proofs.Common.{[], ◌∷◌, inl, inr}
use Rattle.tunnel_serve.specs.Tunnels.{said}
use Rattle.tunnel_serve.proofs.Moving.{cause_from, given_as, left_none, moved_end, moved_next, moved_trans}
use Rattle.tunnel_serve.proofs.opening.open.Goals as goal

pub returns-in-None : goal.returns-in-None
returns-in-None g c =
    let old = g.M.Messages.hall c.args.messages.now in
    let new = g.M.Messages.hall c.next.new.self in
    let given = given_as old.left new c.in-Ok.next _ c.in-None.is c.in-Ok.ensures.given in
    inl (record {
      ends = tt;
      moved = moved_end old new given c.next.ensures.put c.next.ensures.whole c.next.ensures.counts;
      left = left_none old new given;
      cause = c.in-Ok.ensures.ends c.in-None.is;
    })

pub returns-in-Some-session_in : goal.returns-in-Some-session_in
returns-in-Some-session_in g c =
    let old = g.M.Messages.hall c.args.messages.now in
    let new = g.M.Messages.hall c.next.new.self in
    record {
      first = c.in-Some.first;
      opened = c.in-Some-session_in.ensures;
      moved = moved_next old new c.in-Some.first (given_as old.left new c.in-Ok.next _ c.in-Some.is c.in-Ok.ensures.given) c.next.ensures.put c.next.ensures.whole c.next.ensures.counts;
    }

pub returns-in-Ok : goal.returns-in-Ok
returns-in-Ok g c =
    let old = g.M.Messages.hall c.args.messages.now in
    let mid = g.M.Messages.hall c.next.new.self in
    let new = g.M.Messages.hall c.refuse.new.messages in
    let took = moved_next old mid c.in-Some.first (given_as old.left mid c.in-Ok.next _ c.in-Some.is c.in-Ok.ensures.given) c.next.ensures.put c.next.ensures.whole c.next.ensures.counts in
    inr (record {
      first = c.in-Some.first;
      no_key = c.in-None-session_in.ensures;
      ends = c.refuse.ensures.ends;
      moved = moved_trans old mid new (c.in-Some.first ∷ []) [] [] (said c.refuse.result) took c.refuse.ensures.moved;
      cause = cause_from c.refuse.result old mid new c.next.ensures.counts c.refuse.ensures.moved.counts c.refuse.ensures.cause;
    })
