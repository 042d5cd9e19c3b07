use Rattle.std.proofs.Common.{◌≡◌, List, ℕ, nat_lt, subst, sym, ap}
use Rattle.front_http.specs.Reading.{Reading}
use Rattle.front_http.specs.Pending.{IsPending, GivesMore}
use Rattle.front_http.proofs.Pieces.{pending_more, gives_more}
use Rattle.front_http.proofs.reader.RequestReader.take_piece.Goals as goal
use Rattle.front_http.proofs.reader.RequestReader.take_piece.Goals.{in-Ok-put, in-Err-put}

pub invariant_of-self : goal.invariant_of-self
invariant_of-self g c =
    let old = c.self.inside in
    let known : IsPending old.held old.pending = c.self.invariant in
    elim c.match-put.branch [
      | in-Ok-put w ↦ subst (λ (xs : List ℕ). IsPending xs old.pending) (sym w.in-Ok-put.ensures.ok) (pending_more old.held _ old.pending known)
      | in-Err-put w ↦ subst (λ (xs : List ℕ). IsPending xs old.pending) (sym w.in-Err-put.ensures.err) known
    ]

pub returns-after-put-clause-given : goal.returns-after-put-clause-given
returns-after-put-clause-given g c = λ left told. elim c.match-put.branch [
  | in-Ok-put w ↦
      let held_is : c.self.inside.held ≡ c.args.self.now.held = ap (λ (r : Reading). r.held) c.self.view_is in
      let more : GivesMore c.self.inside.held left (nat_lt 0 c.in-Ok.count) c.put.new.self (g.I.Source.inlet c.take.new.self).left =
      gives_more c.self.inside.held left c.take.new.buf c.put.new.self c.in-Ok.count (g.I.Source.inlet c.take.new.self) (c.in-Ok.ensures.given left told) w.in-Ok-put.ensures.ok in
      rw (w.result-is, ← held_is) more
  | in-Err-put w ↦ rw w.result-is tt
]
