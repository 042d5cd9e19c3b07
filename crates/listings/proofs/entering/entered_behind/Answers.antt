use Rattle.std.proofs.Common.{◌+◌, ◌<◌, ◌≡◌, ◌≢◌, ℕ, List, AllPairs, Contains, ap, get_or, sym, subst, take, arith}
use Rattle.std.specs.Global.{Vec}
use Rattle.std.proofs.lemmas.List.{get_or_default}
use Rattle.listings.specs.Terms.{GrainId}
use Rattle.listings.proofs.Chosen.{AreChosen, all_chosen, none_chosen, one_chosen, passed_over}
use Rattle.listings.proofs.entering.entered_behind.Goals as goal
use Rattle.listings.proofs.entering.entered_behind.Goals.{then-grain-after+in_ok-push, else-grain-after}

abbrev blank : GrainId
blank = record { 0 = 0 }

abbrev grain_of : ℕ → GrainId
grain_of n = record { 0 = n }

-- grains whose numbers ascend differ
apart : (grains : List GrainId) → AllPairs (λ (n : GrainId) (m : GrainId). n.0 < m.0) grains → AllPairs (λ (n : GrainId) (m : GrainId). n ≢ m) grains
apart grains ascend i j d less within same = omega (arith, ascend i j d less within, ap (λ (n : GrainId). n.0) same)

pub loop-grain-init : goal.loop-grain-init
loop-grain-init c = none_chosen grain_of (λ n. c.args.after < n) _ c.new-numbers.ensures.items

pub loop-grain-preserved : goal.loop-grain-preserved
loop-grain-preserved c =
    let grains = c.as_slice-grain-items.result.now in
    let i = c.loop-grain.grain-index in
    let within = c.loop-grain-test.true in
    let number : ℕ = (get_or grains i blank).0 in
    let here : get_or grains i (grain_of number) ≡ grain_of number = get_or_default grains i (grain_of number) blank within in
    let ascend : AllPairs (λ (n : GrainId) (m : GrainId). n.0 < m.0) grains = subst (λ (xs : List GrainId). AllPairs (λ (n : GrainId) (m : GrainId). n.0 < m.0) xs) (sym c.as_slice-grain-items.ensures.value) c.in_ok-grains.ensures.ascend in
    let same : (n m : ℕ) → grain_of n ≡ grain_of m → n ≡ m = λ n m is. ap (λ (x : GrainId). x.0) is in
    elim c.if-grain-after.branch [
      | then-grain-after+in_ok-push w ↦
          subst (λ (xs : List ℕ). AreChosen grain_of (λ n. c.args.after < n) (take (i + 1) grains) xs) (sym (ap (λ (v : Vec ℕ). v.items) w.numbers-is))
          (one_chosen grain_of (λ n. c.args.after < n) grains (apart grains ascend) same i number within here c.loop-grain.numbers.items c.loop-grain.invariant w.push.new.self.items w.in_ok-push.ensures.items w.if-grain-after.true)
      | else-grain-after w ↦
          subst (λ (xs : List ℕ). AreChosen grain_of (λ n. c.args.after < n) (take (i + 1) grains) xs) (sym (ap (λ (v : Vec ℕ). v.items) w.numbers-is))
          (passed_over grain_of (λ n. c.args.after < n) grains (apart grains ascend) same i number within here c.loop-grain.numbers.items c.loop-grain.invariant (λ less. omega (arith, less, w.if-grain-after.false)))
    ]

pub returns : goal.returns
returns c =
    let grains = c.as_slice-grain-items.result.now in
    let all = all_chosen grain_of (λ n. c.args.after < n) grains c.loop-grain.numbers.items c.loop-grain.grain-index c.loop-grain-test.false c.loop-grain.invariant in
    let listed : (n : ℕ) → Contains grains (grain_of n) → Contains c.in_ok-grains.grains.items (grain_of n) = λ n there. subst (λ (xs : List GrainId). Contains xs (grain_of n)) c.as_slice-grain-items.ensures.value there in
    record {
      once = all.once;
      exact = λ n. (
        λ there. (let was = (all.exact n).0 there in (was.1, (c.in_ok-grains.ensures.exact (grain_of n)).0 (listed n was.0))),
        λ (less, enters). (all.exact n).1 (subst (λ (xs : List GrainId). Contains xs (grain_of n)) (sym c.as_slice-grain-items.ensures.value) ((c.in_ok-grains.ensures.exact (grain_of n)).1 enters), less),
      );
    }
