-- Each command makes one step at the most.
use Rattle.std.proofs.Common.{◌≡◌, ◌∙◌, ◌<◌, ◌≤◌, ◌+◌, ◌⊎◌, ◌==◌, ℕ, Bool, true, List, Option, Some, None, cond, count_by, take, slice_get, sym, ap, subst, arith, inl, inr}
use Rattle.std.proofs.lemmas.Bool.{eq-eqb}
use Rattle.std.proofs.lemmas.List.{take-take}
use Rattle.std.proofs.lemmas.List.Sums.{count_by_more_yes, sum_by-take-le}
use Rattle.std.proofs.lemmas.Option.{slice_get_within, get_or_from_slice_get}
use Rattle.desk_base.specs.Terms.{AccountId, Assignment, Caller, Digest, GrainId, Grant, GrantId, Handle, IsHandleOf}
use Rattle.desk_base.specs.Terms.{IsOne, IsOneOf, IsWellFormed, Offer, PermSet, Run, RunId, State, Tables}
use Rattle.powerbox_match.specs.Descriptor.{DescriptorData}
use Rattle.share_graph.specs.declared.desk.Offer.TheVariants as offer
use Rattle.share_graph.specs.declared.facts.Node.TheVariants as node
use Rattle.share_graph.specs.declared.grants.Target.TheVariants as target
use Rattle.share_graph.specs.WellFormed.{AreNumberedByRun}
use Rattle.share_graph.proofs.Apart.{reference_one, run_token_one, token_one}
use Rattle.share_graph.proofs.Contained.{place_of}
use Rattle.share_graph.proofs.MissingOne.{entry_one}
use Rattle.share_graph.proofs.OneAnswer.{answers_one, when_one, unless_one, some_of_one, found_or_none_one}
use Rattle.share_graph.proofs.WaysOne.{maker_one}
use Rattle.desk_base.specs.Steps.{Step, denies}
use Rattle.desk_base.specs.Wording.{secret_of}
use Rattle.desk_base.proofs.OneWord.{numbered_one, by_account_one, known_grain_one, adds_one}
use Rattle.desk_base.proofs.FirstRow.{keeps_one}
use Rattle.desk_base.proofs.GivenRoles.{role_one}
use Rattle.saved_refs.specs.Commands.{by_run, ChooseOffer, Choose, Claim, Save, Restore, DropSaved}
use Rattle.saved_refs.specs.Rows.{IsClaim, with_maker}

-- more are counted up to a later place
counted_later : {X : Type 0} (p : X → Bool) (xs : List X) (i j : ℕ) (x : X) → slice_get xs i ≡ Some x → p x ≡ true → i < j → count_by p (take i xs) + 1 ≤ count_by p (take j xs)
counted_later {X} p xs i j x is has less =
    let more = count_by_more_yes p xs i x (slice_get_within xs i x is) (ap p (get_or_from_slice_get xs i x x is) ∙ has) in
    let front : count_by p (take (i + 1) xs) ≤ count_by p (take j xs) = rw (take-take (i + 1) j xs (omega arith)) at (sum_by-take-le (λ (y : X). cond (p y) 1 0) (take j xs) (i + 1)) in
    omega arith

handle_before : (handles : List Handle) → AreNumberedByRun handles → (i j : ℕ) (x y : Handle) → slice_get handles i ≡ Some x → slice_get handles j ≡ Some y → x.run ≡ y.run → x.num ≡ y.num → i < j → ⊥
handle_before handles numbered i j x y at there runs nums less =
    let own : (x.run.0 == y.run.0) ≡ true = eq-eqb x.run.0 y.run.0 (ap (λ (r : RunId). r.0) runs) in
    let counted = counted_later (λ (other : Handle). other.run.0 == y.run.0) handles i j x at own less in
    let here : x.num ≡ count_by (λ (other : Handle). other.run.0 == y.run.0) (take i handles) + 1 =
    numbered i x at ∙ ap (λ (r : RunId). count_by (λ (other : Handle). other.run.0 == r.0) (take i handles) + 1) runs in
    let later = numbered j y there in
    omega arith

-- and so a run has one handle of a number
handle_one : (s : State) → IsWellFormed s → (r : RunId) (n : ℕ) → IsOne (λ handle. IsOneOf s.handles (IsHandleOf r n) handle)
handle_one s formed r n = record {
  one = λ x y a b.
      (let (i, at) = place_of s.handles x a.listed in
      let (j, there) = place_of s.handles y b.listed in
      let runs : x.run ≡ y.run = a.is.0 ∙ sym b.is.0 in
      let nums : x.num ≡ y.num = a.is.1 ∙ sym b.is.1 in
      let sides : (i < j) ⊎ ((i ≡ j) ⊎ (j < i)) = grind arith in
      elim sides [
        | inl less ↦ absurd (handle_before s.handles formed.numbered.handles i j x y at there runs nums less)
        | inr (inl same) ↦ (let both : Some x ≡ Some y = sym at ∙ ap (λ (k : ℕ). slice_get s.handles k) same ∙ there in cc)
        | inr (inr more) ↦ absurd (handle_before s.handles formed.numbered.handles j i y x there at (sym runs) (sym nums) more)
      ]);
}

-- the run that calls is one
by_run_one : (s : State) → IsWellFormed s → (who : Caller) {Rest : Run → Step → Type 0} → ((run : Run) → IsOne (Rest run)) → IsOne (by_run s who Rest)
by_run_one s formed who rest = some_of_one (run_token_one s formed (secret_of who)) (λ run. unless_one (when_one (rest run)))

-- a grant that may be claimed by a token is one, and so is the grain that may claim it
claim_of_one : (s : State) → IsWellFormed s → (d : Digest) → IsOne (IsClaim s.tables d)
claim_of_one s formed d = record {
  one = λ p q (is, to) (also, other).
      (let grants : p.0 ≡ q.0 = (token_one s formed d).one p.0 q.0 is also in
      let targets : target.Claim p.1 ≡ target.Claim q.1 = sym to ∙ ap (λ (grant : Grant). grant.target) grants ∙ other in
      let holders : p.1 ≡ q.1 = cc in
      let both : (p.0, p.1) ≡ (q.0, q.1) = cc in
      both);
}

-- the root maker of a grant is one
with_maker_one : (t : Tables) (g : GrantId) {Rest : AccountId → Step → Type 0} → ((maker : AccountId) → IsOne (Rest maker)) → IsOne (with_maker t g Rest)
with_maker_one t g {Rest} rest = record {
  one = λ a b (maker, is, x) (other, also, y). (rest maker).one a b x (subst (λ (z : AccountId). Rest z b) ((maker_one t g).one other maker also is) y);
}

-- a choice by its offer
choose_offer_one : (s : State) (n : GrainId) (what : Offer) (query : List DescriptorData) (assignment : Assignment) (found : Option Bool) (from : AccountId)
    → IsOne (ChooseOffer s n what query assignment found from)
choose_offer_one s n (offer.Grain m) query assignment found from =
    when_one (
    found_or_none_one (numbered_one _) λ grain.
    entry_one denies s.tables (node.User m from) (
    unless_one (
    role_one s m assignment (
    adds_one s _))))
choose_offer_one s n (offer.Site tag item) query assignment None from = answers_one _
choose_offer_one s n (offer.Site tag item) query assignment (Some admin_only) from = adds_one s _

-- the commands
pub choose_one : (s : State) → IsWellFormed s → (who : Caller) (n : GrainId) (what : Offer) (query : List DescriptorData) (assignment : Assignment) (found : Option Bool)
    → IsOne (Choose s who n what query assignment found)
choose_one s formed who n what query assignment found =
    by_account_one s formed who λ account.
    known_grain_one s n λ grain.
    entry_one denies s.tables (node.User n account.num) (
    choose_offer_one s n what query assignment found account.num)

pub claim_one : (s : State) → IsWellFormed s → (who : Caller) (token : Digest) (set : PermSet) → IsOne (Claim s who token set)
claim_one s formed who token set =
    by_run_one s formed who λ run.
    found_or_none_one (claim_of_one s formed token) λ claim.
    unless_one (
    when_one (
    entry_one denies s.tables (node.Grant claim.0.num) (
    unless_one (
    with_maker_one s.tables claim.0.num λ maker.
    adds_one s _))))

pub save_one : (s : State) → IsWellFormed s → (who : Caller) (num : ℕ) (label : List ℕ) → IsOne (Save s who num label)
save_one s formed who num label =
    by_run_one s formed who λ run.
    some_of_one (handle_one s formed run.num num) λ handle.
    entry_one denies s.tables (node.Grant handle.grant) (
    adds_one s _)

pub restore_one : (s : State) → IsWellFormed s → (who : Caller) (token : Digest) → IsOne (Restore s who token)
restore_one s formed who token =
    by_run_one s formed who λ run.
    some_of_one (reference_one s formed token) λ saved.
    unless_one (
    when_one (
    entry_one denies s.tables (node.Grant saved.grant) (
    keeps_one (
    adds_one s _))))

pub drop_saved_one : (s : State) → IsWellFormed s → (who : Caller) (token : Digest) → IsOne (DropSaved s who token)
drop_saved_one s formed who token =
    by_run_one s formed who λ run.
    some_of_one (reference_one s formed token) λ saved.
    unless_one (
    when_one (
    adds_one s _))
