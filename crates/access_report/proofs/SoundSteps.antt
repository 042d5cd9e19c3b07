-- What sound steps say is so.
use Rattle.std.proofs.Common.{◌≡◌, ◌<◌, ◌≤◌, ◌+◌, ◌⊎◌, ◌↔◌, ℕ, zero, suc, Bool, IsTrue, List, Option, Some, None, length, slice_get, sym, subst, inl, inr, arith}
use Rattle.std.proofs.lemmas.Option.{slice_get_within}
use Rattle.host_base.specs.declared.ids.GrantId.{GrantId}
use Rattle.share_graph.specs.declared.facts.Fact.{Fact}
use Rattle.share_graph.specs.declared.facts.Node.{Node}
use Rattle.share_graph.specs.declared.grants.Grant.{Grant}
use Rattle.share_graph.specs.declared.state.Tables.{Tables}
use Rattle.share_graph.specs.Derivation.{own, Holds, Follows}
use Rattle.share_graph.specs.Rows.{IsGrant}
use Rattle.share_graph.proofs.Least.{derived, follows_more}
use Rattle.least_access.proofs.Following.{follows_row}
use Rattle.access_report.specs.declared.step.Step.{Step}
use Rattle.access_report.specs.Steps.{Cites, IsBy, IsLawful, AreSound}

-- what is lawful by some facts is lawful by more
pub by_more : (t : Tables) (R S : Node → Fact → Type 0) → ((at : Node) (fact : Fact) → R at fact → S at fact) → (by : Option GrantId) (at : Node) (fact : Fact)
    → IsBy t R by at fact → IsBy t S by at fact
by_more t R S more None at fact is = is
by_more t R S more (Some g) at fact (grant, f) = (grant, follows_more t R S more g grant at fact f)

-- what is lawful by what holds, holds
pub by_holds : (t : Tables) (by : Option GrantId) (at : Node) (fact : Fact) → IsBy t (Holds t) by at fact → Holds t at fact
by_holds t None at fact is = subst (λ (n : Node). Holds t n fact) is.of_owner (own is.owns is.is_fact)
by_holds t (Some g) at fact (grant, f) = derived t g grant at fact f

module _ (t : Tables) (steps : List Step) (sound : AreSound t steps) where
  below : (n i : ℕ) → i < n → (step : Step) → slice_get steps i ≡ Some step → Holds t step.node step.fact
  below zero i less step is = absurd (omega arith)
  below (suc n) i less step is =
      by_holds t step.grant step.node step.fact
      (by_more t (Cites steps i step.from) (Holds t)
      (λ at fact (place, listed, says).
      (let earlier : place < i = says.earlier in
      let there = below n place (omega arith) says.step says.there in
      subst (λ (f : Fact). Holds t at f) says.of_fact (subst (λ (m : Node). Holds t m says.step.fact) says.of_node there)))
      step.grant step.node step.fact (sound i step is))

  -- THE LAW OF SOUND STEPS
  pub sound_holds : (i : ℕ) (step : Step) → slice_get steps i ≡ Some step → Holds t step.node step.fact
  sound_holds i step is = below (suc i) i (omega arith) step is

-- a step by a grant that is there is lawful where it follows by that grant
pub by_grant : (t : Tables) (R : Node → Fact → Type 0) (by : Option GrantId) (g : GrantId) (grant : Grant) (at : Node) (fact : Fact) (test : Bool)
    → by ≡ Some g → IsGrant t g grant → IsTrue test ↔ Follows t R g grant at fact → IsTrue test ↔ IsBy t R by at fact
by_grant t R by g grant at fact test is there exact =
    subst (λ (o : Option GrantId). IsTrue test ↔ IsBy t R o at fact) (sym is) (
      λ h. (grant, exact.0 h),
      λ (other, f).
          (let row : IsGrant t g other = follows_row t R g other at fact f in
          let same : other ≡ grant = cc in
          exact.1 (subst (λ (x : Grant). Follows t R g x at fact) same f)),
    )

-- the first steps are lawful
abbrev pub SoundBelow : Tables → List Step → ℕ → Type 0
SoundBelow t steps n = (i : ℕ) (step : Step) → i < n → slice_get steps i ≡ Some step → IsLawful t (Cites steps i step.from) step

pub sound_more : (t : Tables) (steps : List Step) (n : ℕ) (step : Step) → slice_get steps n ≡ Some step → IsLawful t (Cites steps n step.from) step → SoundBelow t steps n → SoundBelow t steps (n + 1)
sound_more t steps n step there lawful earlier i other less is =
    let sides : (i < n) ⊎ (n ≡ i) = grind arith in
    elim sides [
      | inl before ↦ earlier i other before is
      | inr last ↦
          let here : slice_get steps i ≡ Some step = subst (λ (k : ℕ). slice_get steps k ≡ Some step) last there in
          let same : step ≡ other = cc in
          subst (λ (k : ℕ). IsLawful t (Cites steps k other.from) other) last (subst (λ (s : Step). IsLawful t (Cites steps n s.from) s) same lawful)
    ]

pub sound_all : (t : Tables) (steps : List Step) (n : ℕ) → length steps ≤ n → SoundBelow t steps n → AreSound t steps
sound_all t steps n all below i step is = let within : i < length steps = slice_get_within steps i step is in below i step (omega arith) is
