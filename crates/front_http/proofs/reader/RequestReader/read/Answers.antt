use Rattle.std.proofs.Common.{◌≡◌, ◌++◌, ℕ, List, Err, ap, sym, subst, ◌∙◌, rules}
use Rattle.host_base.specs.declared.request.Request.{Request}
use Rattle.front_http.specs.declared.fault.FrontFault.{FrontFault}
use Rattle.front_http.specs.Reading.{Reading, Next, Gave, fault_at}
use Rattle.front_http.specs.Stream.{IsFront, Refused, Whole}
use Rattle.front_http.specs.Pending.{partial}
use Rattle.front_http.proofs.Pieces.{append-nil}
use Rattle.front_http.proofs.Fronts.{whole_within}
use Rattle.front_http.proofs.Remaining.{Goes, refused_next, whole_next, end_next}
use Rattle.front_http.proofs.reader.RequestReader.read.Goals as goal

pub returns-in-Ok-Refused-clause-given : goal.returns-in-Ok-Refused-clause-given
returns-in-Ok-Refused-clause-given g c = λ left told.
    let inv = c.pieces.invariant.same left told in
    let now : Reading = c.pieces.self in
    let goes : Goes c.args.self.now left now inv.0 = record { unclosed = c.requires; at = c.pieces.invariant.at; same = inv.2 } in
    let sees : IsFront now.held (Refused c.in-Ok-Refused.refusal) = rw c.in-Ok-Refused.field-0-is at c.in-Ok-Refused.ensures.sees in
    let at_is : c.self.inside.at ≡ now.at = ap (λ (r : Reading). r.at) (c.self.view_is ∙ c.see.ensures.same) in
    let fault_is : c.fault_at.result ≡ fault_at c.in-Ok-Refused.refusal now.at = c.fault_at.ensures ∙ ap (fault_at c.in-Ok-Refused.refusal) at_is in
    let inlet_left = (g.I.Source.inlet c.pieces.input).left in
    let P : FrontFault → Type 0 = λ (fault : FrontFault). Next c.args.self.now left (Err fault) c.see.new.self inlet_left in
    subst P (sym fault_is) (refused_next c.args.self.now left now inv.0 c.in-Ok-Refused.refusal c.see.new.self inlet_left goes sees)

pub hand_out-requires : goal.hand_out-requires
hand_out-requires g c =
    let sees = rw c.in-Ok-Whole.field-0-is at c.in-Ok-Whole.ensures.sees in
    let held_is : c.see.new.self.held ≡ c.pieces.self.held = ap (λ (r : Reading). r.held) c.see.ensures.same in
    rw held_is (whole_within c.pieces.self.held c.in-Ok-Whole.request c.in-Ok-Whole.count sees).1

pub returns-in-Ok-clause-given : goal.returns-in-Ok-clause-given
returns-in-Ok-clause-given g c = λ left told.
    let inv = c.pieces.invariant.same left told in
    let now : Reading = c.see.new.self in
    let same : c.see.new.self ≡ c.pieces.self = c.see.ensures.same in
    let goes : Goes c.args.self.now left now inv.0 = record {
      unclosed = c.requires;
      at = ap (λ (r : Reading). r.at) same ∙ c.pieces.invariant.at;
      same = ap (λ (r : Reading). r.held ++ inv.0) same ∙ inv.2;
    } in
    let sees : IsFront c.pieces.self.held (Whole c.in-Ok-Whole.request c.in-Ok-Whole.count) = rw c.in-Ok-Whole.field-0-is at c.in-Ok-Whole.ensures.sees in
    let front : IsFront now.held (Whole c.in-Ok-Whole.request c.in-Ok-Whole.count) = subst (λ (r : Reading). IsFront r.held (Whole c.in-Ok-Whole.request c.in-Ok-Whole.count)) (sym same) sees in
    let inlet_left = (g.I.Source.inlet c.pieces.input).left in
    let P : Request → Type 0 = λ (request : Request). Gave c.args.self.now left request c.hand_out.new.self inlet_left in
    subst P (sym c.in-Ok.ensures.request)
    (whole_next c.args.self.now left now inv.0 c.in-Ok-Whole.request c.in-Ok-Whole.count c.hand_out.new.self inlet_left goes front c.in-Ok.ensures.reader inv.1)

pub pieces-preserved : goal.pieces-preserved
pieces-preserved g c = record {
  counts = search rules;
  whole = search rules;
  at = search rules;
  closed = search rules;
  stopped = search rules;
  same = λ left told.
      let inv = c.pieces.invariant.same left told in
      let more = c.in-Ok-true.ensures.given inv.0 inv.1 in
      let held_is : c.see.new.self.held ++ inv.0 ≡ c.pieces.self.held ++ inv.0 = ap (λ (r : Reading). r.held ++ inv.0) c.see.ensures.same in
      (more.rest, more.told_is, more.same ∙ held_is ∙ inv.2);
}

pub returns-in-Ok-false-clause-given : goal.returns-in-Ok-false-clause-given
returns-in-Ok-false-clause-given g c = λ left told.
    let inv = c.pieces.invariant.same left told in
    let more = c.in-Ok-false.ensures.given inv.0 inv.1 in
    let sees = rw c.in-Ok-Part.field-0-is at c.in-Ok-Part.ensures.sees in
    let now : Reading = c.take_piece.new.self in
    let ended = more.end c.in-Ok-false.field-0-test in
    let held_was : c.see.new.self.held ≡ c.pieces.self.held = ap (λ (r : Reading). r.held) c.see.ensures.same in
    let at_is : now.at ≡ c.args.self.now.at = ap (λ (r : Reading). r.at) c.in-Ok-false.ensures.rest ∙ ap (λ (r : Reading). r.at) c.see.ensures.same ∙ c.pieces.invariant.at in
    let all_held : c.pieces.self.held ≡ c.args.self.now.held ++ left = sym (append-nil c.pieces.self.held) ∙ ap (λ (xs : List ℕ). c.pieces.self.held ++ xs) (sym ended.1) ∙ inv.2 in
    let front : IsFront now.held (partial now.held) = subst (λ (xs : List ℕ). IsFront xs (partial xs)) (sym (ended.0 ∙ held_was)) sees.0 in
    end_next c.args.self.now left now c.take_piece.new.self (g.I.Source.inlet c.take_piece.new.input).left c.end.result c.requires at_is (ended.0 ∙ held_was ∙ all_held) front c.end.ensures
