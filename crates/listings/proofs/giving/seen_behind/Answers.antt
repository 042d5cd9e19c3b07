use Rattle.std.proofs.Common.{◌+◌, ◌<◌, ◌≡◌, ◌≢◌, ℕ, List, AllPairs, Contains, ap, get_or, sym, subst, take}
use Rattle.std.specs.Global.{Vec}
use Rattle.std.proofs.lemmas.List.{get_or_default}
use Rattle.least_access.proofs.Lacking.{not_so}
use Rattle.region_access.specs.declared.tie.Tie.TheVariants as tie
use Rattle.listings.specs.Lines.{MaySee}
use Rattle.listings.specs.Terms.{GrantId}
use Rattle.listings.proofs.Chosen.{AreChosen, all_chosen, none_chosen, one_chosen, passed_over}
use Rattle.listings.proofs.giving.seen_behind.Goals as goal
use Rattle.listings.proofs.giving.seen_behind.Goals.{then-is_seen+in_ok-push, else-is_seen}

abbrev blank : GrantId
blank = record { 0 = 0 }

abbrev grant_of : ℕ → GrantId
grant_of n = record { 0 = n }

pub is_seen-requires-clause-there : goal.is_seen-requires-clause-there
is_seen-requires-clause-there c =
    let grants = c.tied_by-grant-items.result.now in
    let here = get_or grants c.loop-grant.grant-index blank in
    let listed : Contains grants here = (c.loop-grant.grant-index, c.loop-grant-test.true, get_or_default grants c.loop-grant.grant-index here blank c.loop-grant-test.true) in
    (c.requires.ties.exact (tie.Grain c.args.num) here).0 (subst (λ (xs : List GrantId). Contains xs here) c.tied_by-grant-items.ensures listed)

pub loop-grant-init : goal.loop-grant-init
loop-grant-init c = none_chosen grant_of (λ n. (c.args.after < n) × MaySee c.args.tables.now c.args.account c.args.num n) _ c.new-numbers.ensures.items

pub loop-grant-preserved : goal.loop-grant-preserved
loop-grant-preserved c =
    let grants = c.tied_by-grant-items.result.now in
    let i = c.loop-grant.grant-index in
    let within = c.loop-grant-test.true in
    let number : ℕ = (get_or grants i blank).0 in
    let here : get_or grants i (grant_of number) ≡ grant_of number = get_or_default grants i (grant_of number) blank within in
    let apart : AllPairs (λ (g : GrantId) (h : GrantId). g ≢ h) grants = subst (λ (xs : List GrantId). AllPairs (λ (g : GrantId) (h : GrantId). g ≢ h) xs) (sym c.tied_by-grant-items.ensures) (c.requires.ties.once (tie.Grain c.args.num)) in
    let same : (n m : ℕ) → grant_of n ≡ grant_of m → n ≡ m = λ n m is. ap (λ (x : GrantId). x.0) is in
    elim c.if-is_seen.branch [
      | then-is_seen+in_ok-push w ↦
          subst (λ (xs : List ℕ). AreChosen grant_of (λ n. (c.args.after < n) × MaySee c.args.tables.now c.args.account c.args.num n) (take (i + 1) grants) xs) (sym (ap (λ (v : Vec ℕ). v.items) w.numbers-is))
          (one_chosen grant_of (λ n. (c.args.after < n) × MaySee c.args.tables.now c.args.account c.args.num n) grants apart same i number within here c.loop-grant.numbers.items c.loop-grant.invariant
          w.push.new.self.items w.in_ok-push.ensures.items (c.is_seen.ensures.0 w.if-is_seen.true))
      | else-is_seen w ↦
          subst (λ (xs : List ℕ). AreChosen grant_of (λ n. (c.args.after < n) × MaySee c.args.tables.now c.args.account c.args.num n) (take (i + 1) grants) xs) (sym (ap (λ (v : Vec ℕ). v.items) w.numbers-is))
          (passed_over grant_of (λ n. (c.args.after < n) × MaySee c.args.tables.now c.args.account c.args.num n) grants apart same i number within here c.loop-grant.numbers.items c.loop-grant.invariant
          (not_so _ c.is_seen.result c.is_seen.ensures w.if-is_seen.false))
    ]

pub returns : goal.returns
returns c =
    let grants = c.tied_by-grant-items.result.now in
    let all = all_chosen grant_of (λ n. (c.args.after < n) × MaySee c.args.tables.now c.args.account c.args.num n) grants c.loop-grant.numbers.items c.loop-grant.grant-index c.loop-grant-test.false c.loop-grant.invariant in
    record {
      once = all.once;
      exact = λ n. (
        λ there. ((all.exact n).0 there).1,
        λ both. (all.exact n).1 (subst (λ (xs : List GrantId). Contains xs (grant_of n)) (sym c.tied_by-grant-items.ensures) ((c.requires.ties.exact (tie.Grain c.args.num) (grant_of n)).1 both.1.0), both),
      );
    }
