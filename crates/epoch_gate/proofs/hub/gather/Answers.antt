use Rattle.std.proofs.Common.{All, List, [], ◌∷◌, ◌≡◌, map, refl, ap, sym, subst, ◌∙◌, arith, rules, length-append}
use Rattle.std.proofs.lemmas.Iterator.Adapters.{YieldsList-from_vec}
use Rattle.std.proofs.lemmas.Iterator.Consumers.{YieldsList-end}
use Rattle.std.proofs.lemmas.List.Elements.{All-push}
use Rattle.std.proofs.lemmas.List.Sums.{sum_by-append}
use mathlib.Core.List.{IsPrefix}
use Rattle.epoch_gate.specs.Passes.{Passing}
use Rattle.epoch_gate.proofs.hub.gather.Goals as goal

unchanged : {A : Type 0} (xs : List A) → map (λ x. x) xs ≡ xs
unchanged [] = refl
unchanged {A} (x ∷ xs) = ap (λ (ys : List A). x ∷ ys) (unchanged xs)

pub loop-pass-preserved : goal.loop-pass-preserved
loop-pass-preserved g c =
    let so_far = c.loop-pass.invariant in
    let sum = sum_by-append (λ (p : Passing g.row.T-Entry.Denot g.row.T-View.Denot). p.orders) c.loop-pass.yielded (c.in-Some.pass ∷ []) in
    let own = ap (λ (p : Passing g.row.T-Entry.Denot g.row.T-View.Denot). p.orders) c.pass.view_is in
    record {
      parts = omega (arith, so_far.parts, c.merge.ensures.parts, c.pass.invariant.1, length-append c.loop-pass.yielded (c.in-Some.pass ∷ []));
      few = search rules;
      amount = omega (arith, c.merge.ensures.amount, so_far.amount, sum, own);
      same = c.tell.ensures.same ∙ so_far.same;
      seen = All-push (λ pass. IsPrefix pass.seen c.args.vault.now) c.loop-pass.yielded c.in-Some.pass so_far.seen
          (rw (← c.pass.view_is, ← so_far.same) c.tell.ensures.begins);
    }

pub returns-clause-seen : goal.returns-clause-seen
returns-clause-seen g c =
    let passes = c.args.passes.items in
    let yielded = c.loop-pass.yielded in
    let made = c.into_iter-pass-iterator.ensures.into_iter_gives in
    let whole = YieldsList-from_vec {s = c.into_iter-pass-iterator.result} passes made.0 (omega arith) in
    let all = YieldsList-end whole yielded c.loop-pass.pass-iterator c.loop-pass.yielded_by c.next.result c.next.new.self c.in-None.is c.next.ensures.steps in
    subst (All (λ pass. IsPrefix pass.seen c.args.vault.now)) (sym (unchanged yielded) ∙ all.0) c.loop-pass.invariant.seen
