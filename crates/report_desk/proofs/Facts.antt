-- The facts that are held, up to a place among all facts.
use Rattle.std.proofs.Common.{◌≡◌, ◌<◌, ◌≤◌, ◌+◌, ◌⊎◌, ◌↔◌, ◌++◌, ◌∷◌, [], ℕ, zero, suc, List, Contains, map, get_or, refl, sym, ◌∙◌, ap, subst, inl, inr, arith}
use Rattle.std.specs.List.Sorted.{IsStrictlyIncreasing}
use Rattle.std.proofs.lemmas.Grind.{elements}
use Rattle.std.proofs.lemmas.List.{get_or_push, length-append}
use Rattle.std.proofs.lemmas.List.Elements.{Contains-append_left, Contains-get_or, Contains-push, Contains-push_cases}
use Rattle.perm_roles.proofs.Sets.{always_within}
use Rattle.share_graph.specs.declared.facts.Fact.{Fact}
use Rattle.share_graph.specs.declared.facts.Fact.TheVariants.{Open, Perm}
use Rattle.least_access.specs.declared.held.Held.{Held}
use Rattle.least_access.specs.Held.{IsIn}
use Rattle.report_desk.specs.Reasons.{fact_number}
use Rattle.report_desk.specs.Showing.{AreFactsOf}

-- the facts that are held and stand before a place
pub record AreBefore (held : Held) (facts : List Fact) (n : ℕ) : Type 0 where
  pub exact : (fact : Fact) → Contains facts fact ↔ ((fact_number fact < n) × IsIn held fact)
  pub ascend : IsStrictlyIncreasing (map fact_number facts)

-- facts of one place are one
one_fact : (a b : Fact) → fact_number a ≡ fact_number b → a ≡ b
one_fact Open Open same = refl
one_fact Open (Perm q) same = absurd (omega arith)
one_fact (Perm p) Open same = absurd (omega arith)
one_fact (Perm p) (Perm q) same = let e : p ≡ q = omega arith in ap Perm e

-- a larger number at the end of an ascending list
ascend_push : (ns : List ℕ) (n : ℕ) → IsStrictlyIncreasing ns → ((p : ℕ) → Contains ns p → p < n) → IsStrictlyIncreasing (ns ++ n ∷ [])
ascend_push ns n up below k less =
    let long = length-append ns (n ∷ []) in
    let inside = up k in
    let last = below (get_or ns k 0) in
    let listed = Contains-get_or ns k 0 in
    grind (arith, elements, get_or_push)

map_push : (facts : List Fact) (fact : Fact) → map fact_number (facts ++ fact ∷ []) ≡ map fact_number facts ++ fact_number fact ∷ []
map_push [] fact = refl
map_push (f ∷ facts) fact = ap (λ (ns : List ℕ). fact_number f ∷ ns) (map_push facts fact)

-- a place of a list of facts
from_map : (facts : List Fact) (p : ℕ) → Contains (map fact_number facts) p → (fact : Fact) × Contains facts fact × (fact_number fact ≡ p)
from_map [] p (k, less, is) = absurd (omega arith)
from_map (f ∷ facts) p (zero, less, is) = (f, (zero, omega arith, refl), is)
from_map (f ∷ facts) p (suc k, less, is) = let (fact, (j, below, there), same) = from_map facts p (k, omega arith, is) in (fact, (suc j, omega arith, there), same)

pub none_before : (held : Held) → AreBefore held [] 0
none_before held = record {
  exact = λ fact. (λ listed. absurd (let less : listed.0 < 0 = listed.1 in omega arith), λ h. absurd (let less : fact_number fact < 0 = h.0 in omega arith));
  ascend = λ k less. absurd (omega arith);
}

module _ (held : Held) (facts more : List Fact) (n : ℕ) (fact : Fact) (so : AreBefore held facts n) (at : fact_number fact ≡ n) where
  below_or_at : (other : Fact) → fact_number other < n + 1 → (fact_number other < n) ⊎ (fact ≡ other)
  below_or_at other less =
      let sides : (fact_number other < n) ⊎ (fact_number other ≡ n) = grind arith in
      elim sides [
        | inl below ↦ inl below
        | inr same ↦ inr (one_fact fact other (at ∙ sym same))
      ]

  -- a fact that isn't held
  pub one_less : (IsIn held fact → ⊥) → more ≡ facts → AreBefore held more (n + 1)
  one_less none same =
      subst (λ (xs : List Fact). AreBefore held xs (n + 1)) (sym same) (record {
        exact = λ other. (
          λ listed. let (less, is) = (so.exact other).0 listed in (omega arith, is),
          λ h. elim (below_or_at other h.0) [
            | inl below ↦ (so.exact other).1 (below, h.1)
            | inr here ↦ absurd (none (subst (λ (f : Fact). IsIn held f) (sym here) h.1))
          ],
        );
        ascend = so.ascend;
      })

  -- a fact that is held
  pub one_more : IsIn held fact → more ≡ facts ++ fact ∷ [] → AreBefore held more (n + 1)
  one_more is added =
      subst (λ (xs : List Fact). AreBefore held xs (n + 1)) (sym added) (record {
        exact = λ other. (
          λ listed. elim (Contains-push_cases facts fact other listed) [
            | inl before ↦ let (less, holds) = (so.exact other).0 before in (omega arith, holds)
            | inr here ↦ (let same : fact_number fact ≡ fact_number other = ap fact_number here in omega arith, subst (λ (f : Fact). IsIn held f) here is)
          ],
          λ h. elim (below_or_at other h.0) [
            | inl below ↦ Contains-append_left facts (fact ∷ []) other ((so.exact other).1 (below, h.1))
            | inr here ↦ subst (λ (f : Fact). Contains (facts ++ fact ∷ []) f) here (Contains-push facts fact)
          ],
        );
        ascend = subst IsStrictlyIncreasing (sym (map_push facts fact))
            (ascend_push (map fact_number facts) (fact_number fact) so.ascend
            (λ p listed. (let (other, there, same) = from_map facts p listed in let less : fact_number other < n = ((so.exact other).0 there).0 in omega arith)));
      })

-- no fact stands behind them
pub all_before : (held : Held) (facts : List Fact) (n : ℕ) → AreBefore held facts n → 65 ≤ n → AreFactsOf held facts
all_before held facts n so end = record {
  exact = λ fact. (λ listed. ((so.exact fact).0 listed).1, λ is. (so.exact fact).1 (early fact is, is));
  ascend = so.ascend;
}
  where
    early : (fact : Fact) → IsIn held fact → fact_number fact < n
    early Open is = omega arith
    early (Perm p) is = let less : p < 64 = always_within held.perms p is in omega arith
