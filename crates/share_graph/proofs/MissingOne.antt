-- A node has one first missing step at the most.
use Rattle.std.proofs.Common.{◌≡◌, ◌<◌, ◌≤◌, ◌⊎◌, ℕ, List, Option, Some, None, sym, ◌∙◌, ap, subst, arith, inl, inr}
use Rattle.host_base.specs.declared.verdict.Denial.{Denial}
use Rattle.host_base.specs.declared.verdict.Denial.TheVariants.{Expired, Unmet}
use Rattle.host_base.specs.declared.ids.GrantId.{GrantId}
use Rattle.share_graph.specs.declared.facts.Fact.TheVariants.{Open}
use Rattle.share_graph.specs.declared.facts.Node.{Node}
use Rattle.share_graph.specs.declared.facts.Node.TheVariants as node
use Rattle.share_graph.specs.declared.grants.Grant.{Grant}
use Rattle.share_graph.specs.declared.grants.Need.{Need}
use Rattle.share_graph.specs.declared.state.Tables.{Tables}
use Rattle.share_graph.specs.Callers.{entry}
use Rattle.share_graph.specs.Derivation.{Holds}
use Rattle.share_graph.specs.Expiry.{Lasts}
use Rattle.share_graph.specs.Forms.{IsOne}
use Rattle.share_graph.specs.Missing.{AreMet, HasEnded, IsFirstUnmet, IsUnmet, GrantMissing, IsMissing}
use Rattle.share_graph.proofs.Contained.{contains_at}
use Rattle.share_graph.proofs.OneAnswer.{answers_one, when_one, unless_one, must_one}

unmet_same : (t : Tables) (needs : List Need) (i j : ℕ) → IsFirstUnmet t needs i → IsFirstUnmet t needs j → i ≡ j
unmet_same t needs i j a b =
    let sides : (i < j) ⊎ ((i ≡ j) ⊎ (j < i)) = grind arith in
    elim sides [
      | inl less ↦ absurd (a.unmet (b.earlier i a.need less a.there))
      | inr (inl same) ↦ same
      | inr (inr more) ↦ absurd (b.unmet (a.earlier j b.need more b.there))
    ]

unmet_one : (t : Tables) (g : GrantId) (grant : Grant) → IsOne (IsUnmet t g grant)
unmet_one t g grant = record { one = λ a b x y. x.1 ∙ ap (λ (i : ℕ). Some (Unmet g i)) (unmet_same t grant.needs x.0 y.0 x.2 y.2) ∙ sym y.1 }

met_apart : (t : Tables) (g : GrantId) (grant : Grant) (a : Option Denial) → AreMet t grant.needs → IsUnmet t g grant a → ⊥
met_apart t g grant a met x = x.2.unmet (met x.2.need (contains_at grant.needs x.0 x.2.need x.2.there))

ended_one : (t : Tables) (g : GrantId) (grant : Grant) → IsOne (HasEnded t g grant)
ended_one t g grant = record {
  one = λ a b x y.
      let both : Some x.0 ≡ Some y.0 = sym x.2 ∙ y.2 in
      let same : x.0 ≡ y.0 = cc both in
      x.1 ∙ ap (λ (end : ℕ). Some (Expired g end)) same ∙ sym y.1;
}

lasts_apart_by : (now : ℕ) (expires : Option ℕ) (end : ℕ) → expires ≡ Some end → Lasts now expires → end ≤ now → ⊥
lasts_apart_by now None end is lasts come = cc is
lasts_apart_by now (Some other) end is lasts come = let same : other ≡ end = cc is in omega (arith, lasts, come, same)

lasts_apart : (t : Tables) (g : GrantId) (grant : Grant) (a : Option Denial) → Lasts t.moment grant.expires → HasEnded t g grant a → ⊥
lasts_apart t g grant a lasts x = lasts_apart_by t.moment grant.expires x.0 x.2 lasts x.3

grant_one : (t : Tables) (g : GrantId) (grant : Grant) → IsOne (GrantMissing t g grant)
grant_one t g grant =
    when_one (unless_one (when_one (must_one (lasts_apart t g grant) (ended_one t g grant) (must_one (met_apart t g grant) (unmet_one t g grant) (answers_one _)))))

missing_cases : (t : Tables) (at : Node) (a b : Option Denial) → IsMissing t at a → IsMissing t at b → a ≡ b
missing_cases t (node.User n u) a b x y = (when_one (unless_one (unless_one (answers_one _)))).one a b x y
missing_cases t (node.Grant g) a b (grant, is, x) (other, there, y) =
    let same : grant ≡ other = (let both : Some grant ≡ Some other = sym is ∙ there in cc) in
    (grant_one t g grant).one a b x (subst (λ (row : Grant). GrantMissing t g row b) (sym same) y)

-- One answer to what is missing at a node.
pub missing_one : (t : Tables) (at : Node) → IsOne (IsMissing t at)
missing_one t at = record { one = missing_cases t at }

-- where a step is missing, entry isn't held
pub lacks_none : (t : Tables) (at : Node) (reason : Denial) → IsMissing t at (Some reason) → Holds t at Open → ⊥
lacks_none t (node.User n u) reason (inl (e, held)) h = cc
lacks_none t (node.User n u) reason (inr (never, x)) h = never h
lacks_none t (node.Grant g) reason (grant, is, inl (e, held)) h = cc
lacks_none t (node.Grant g) reason (grant, is, inr (never, x)) h = never h

-- and so the test of entry leads to one answer
pub entry_one : {A : Type 0} (deny : Denial → A) (t : Tables) (at : Node) {Rest : A → Type 0} → IsOne Rest → IsOne (entry deny t at Rest)
entry_one {A} deny t at rest =
    must_one (λ a held lacks. lacks_none t at lacks.0 lacks.2 held)
    (record { one = λ a b x y. let same : Some x.0 ≡ Some y.0 = missing_cases t at (Some x.0) (Some y.0) x.2 y.2 in let one : x.0 ≡ y.0 = cc in x.1 ∙ ap deny one ∙ sym y.1 })
    rest

-- where nothing is missing, entry is held
pub none_held : (t : Tables) (at : Node) → IsMissing t at None → Holds t at Open
none_held t (node.User n u) (inl (e, held)) = held
none_held t (node.User n u) (inr (never, inl (e, out))) = cc
none_held t (node.User n u) (inr (never, inr (kept, inl (e, off)))) = cc
none_held t (node.User n u) (inr (never, inr (kept, inr (on, e)))) = cc
none_held t (node.Grant g) (grant, is, inl (e, held)) = held
none_held t (node.Grant g) (grant, is, inr (never, inl (e, out))) = cc
none_held t (node.Grant g) (grant, is, inr (never, inr (kept, inl (e, gone)))) = cc
none_held t (node.Grant g) (grant, is, inr (never, inr (kept, inr (live, inl (end, e, expires, come))))) = cc
none_held t (node.Grant g) (grant, is, inr (never, inr (kept, inr (live, inr (lasts, inl (i, e, first)))))) = cc
none_held t (node.Grant g) (grant, is, inr (never, inr (kept, inr (live, inr (lasts, inr (met, e)))))) = cc
