-- Places at which something is said.
use Rattle.std.proofs.Common.{◌≡◌, ◌<◌, ◌≤◌, ◌+◌, ◌⊎◌, ℕ, List, Some, Contains, length, slice_get, sym, subst, inl, inr, arith}
use Rattle.std.proofs.lemmas.Option.{slice_get_within}
use Rattle.perm_roles.specs.declared.perm_set.PermSet.{PermSet}
use Rattle.perm_roles.specs.PermSet.{Has}
use Rattle.perm_roles.proofs.Sets.{always_within}
use Rattle.share_graph.specs.declared.facts.Fact.{Fact}
use Rattle.share_graph.specs.declared.facts.Fact.TheVariants.{Open, Perm}
use Rattle.share_graph.specs.declared.facts.Node.{Node}
use Rattle.share_graph.specs.declared.grants.Need.{Need}
use Rattle.share_graph.specs.declared.grants.Need.TheVariants as need
use Rattle.share_graph.specs.Derivation.{Asks}
use Rattle.share_graph.proofs.Contained.{place_of}
use Rattle.access_report.specs.declared.step.Step.{Step}
use Rattle.access_report.specs.Telling.{IsSaid, IsCited, CitesNeeds}

abbrev pub Keeps : List ℕ → List ℕ → Type 0
Keeps old new = (p : ℕ) → Contains old p → Contains new p

pub cited_more : (steps : List Step) (old new : List ℕ) → Keeps old new → (at : Node) (fact : Fact) → IsCited steps old at fact → IsCited steps new at fact
cited_more steps old new keeps at fact cited said = let (place, listed, says) = cited said in (place, keeps place listed, says)

-- what the first needs ask is cited
abbrev pub CitesBelow : List Step → List Need → List ℕ → ℕ → Type 0
CitesBelow steps needs from n = (k : ℕ) (q : Need) → k < n → slice_get needs k ≡ Some q → (at : Node) (asked : Fact) → Asks q at asked → IsCited steps from at asked

pub cites_next : (steps : List Step) (needs : List Need) (old new : List ℕ) (n : ℕ) (q : Need) → slice_get needs n ≡ Some q → Keeps old new
    → ((at : Node) (asked : Fact) → Asks q at asked → IsCited steps new at asked) → CitesBelow steps needs old n → CitesBelow steps needs new (n + 1)
cites_next steps needs old new n q here keeps cited earlier k other less is at asked a =
    let sides : (k < n) ⊎ (n ≡ k) = grind arith in
    elim sides [
      | inl before ↦ cited_more steps old new keeps at asked (earlier k other before is at asked a)
      | inr last ↦
          let there : slice_get needs k ≡ Some q = subst (λ (j : ℕ). slice_get needs j ≡ Some q) last here in
          let same : other ≡ q = cc in
          cited at asked (subst (λ (x : Need). Asks x at asked) same a)
    ]

pub cites_needs : (steps : List Step) (needs : List Need) (from : List ℕ) (n : ℕ) → length needs ≤ n → CitesBelow steps needs from n → CitesNeeds steps needs from
cites_needs steps needs from n all below q listed =
    let (k, is) = place_of needs q listed in
    let within : k < length needs = slice_get_within needs k q is in
    below k q (omega arith) is

-- the first permissions of a set are cited
abbrev pub CitesSet : List Step → PermSet → List ℕ → Node → ℕ → Type 0
CitesSet steps set from at n = (p : ℕ) → p < n → Has set p → IsCited steps from at (Perm p)

pub cites_pos : (steps : List Step) (set : PermSet) (old new : List ℕ) (at : Node) (n : ℕ) → Keeps old new → (Has set n → IsCited steps new at (Perm n)) → CitesSet steps set old at n → CitesSet steps set new at (n + 1)
cites_pos steps set old new at n keeps cited earlier p less has =
    let sides : (p < n) ⊎ (n ≡ p) = grind arith in
    elim sides [
      | inl before ↦ cited_more steps old new keeps at (Perm p) (earlier p before has)
      | inr last ↦ subst (λ (k : ℕ). IsCited steps new at (Perm k)) last (cited (subst (λ (k : ℕ). Has set k) (sym last) has))
    ]

pub cites_set : (steps : List Step) (set : PermSet) (from : List ℕ) (at : Node) (n : ℕ) → 64 ≤ n → CitesSet steps set from at n → (p : ℕ) → Has set p → IsCited steps from at (Perm p)
cites_set steps set from at n all below p has = let within : p < 64 = always_within set p has in below p (omega arith) has

-- entry and the permissions are what a need of permissions asks
pub cites_held : (steps : List Step) (holder : Node) (set : PermSet) (from : List ℕ) → IsCited steps from holder Open → ((p : ℕ) → Has set p → IsCited steps from holder (Perm p))
    → (at : Node) (asked : Fact) → Asks (need.PermissionsHeld holder set) at asked → IsCited steps from at asked
cites_held steps holder set from entry each at Open a = rw a entry
cites_held steps holder set from entry each at (Perm p) a = rw a.0 (each p a.1)
