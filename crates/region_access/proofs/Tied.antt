-- What grants hang on.
use Rattle.std.proofs.Common.{◌≡◌, ◌⊎◌, ◌↔◌, ℕ, List, Option, Some, None, Contains, refl, ap, subst, inl, inr}
use Rattle.std.specs.Prelude.{option_map}
use Rattle.host_base.specs.declared.ids.AccountId.{AccountId}
use Rattle.host_base.specs.declared.ids.GrainId.{GrainId}
use Rattle.host_base.specs.declared.ids.GrantId.{GrantId}
use Rattle.share_graph.specs.declared.facts.Node.{Node}
use Rattle.share_graph.specs.declared.grants.Grant.{Grant}
use Rattle.share_graph.specs.declared.grants.Need.{Need}
use Rattle.share_graph.specs.declared.grants.Need.TheVariants as need
use Rattle.share_graph.specs.declared.state.Tables.{Tables}
use Rattle.region_access.specs.declared.tie.Tie.{Tie}
use Rattle.region_access.specs.declared.tie.Tie.TheVariants as tie
use Rattle.region_access.specs.Seeds.{IsSeedOfGrants, IsSeedOfTie}
use Rattle.region_access.specs.Ties.{IsTied, IsTiesOf, IsAskedBy, tie_of}

asks_no_grain : (q : Need) (n : GrainId) → tie_of q ≡ Some (tie.Grain n) → ⊥
asks_no_grain (need.UserIsAdmin a) n e = cc e
asks_no_grain (need.TokenValid h) n e = cc e
asks_no_grain (need.PermissionsHeld holder set) n e = cc e

asks_admin : (q : Need) (a : AccountId) → tie_of q ≡ Some (tie.Admin a) → q ≡ need.UserIsAdmin a
asks_admin (need.UserIsAdmin b) a e = let same : b ≡ a = cc e in ap (λ (x : AccountId). need.UserIsAdmin x) same
asks_admin (need.TokenValid h) a e = cc e
asks_admin (need.PermissionsHeld holder set) a e = cc e

asks_no_end : (q : Need) (end : ℕ) → tie_of q ≡ Some (tie.End end) → ⊥
asks_no_end (need.UserIsAdmin a) end e = cc e
asks_no_end (need.TokenValid h) end e = cc e
asks_no_end (need.PermissionsHeld holder set) end e = cc e

-- the moment at which a grant ends, as a tie
abbrev pub end_of : Option ℕ → Option Tie
end_of expires = option_map (λ end. tie.End end) expires

end_is : (expires : Option ℕ) (end : ℕ) → end_of expires ≡ Some (tie.End end) → expires ≡ Some end
end_is None end e = cc e
end_is (Some other) end e = let same : other ≡ end = cc e in ap (λ (n : ℕ). Some n) same

end_no_grain : (expires : Option ℕ) (n : GrainId) → end_of expires ≡ Some (tie.Grain n) → ⊥
end_no_grain None n e = cc e
end_no_grain (Some end) n e = cc e

end_no_admin : (expires : Option ℕ) (a : AccountId) → end_of expires ≡ Some (tie.Admin a) → ⊥
end_no_admin None a e = cc e
end_no_admin (Some end) a e = cc e

-- what a grant hangs on is its grain, its end, or asked by a need
pub tied_either : (grant : Grant) (on : Tie)
    → IsTied on grant ↔ ((Some (tie.Grain grant.grain) ≡ Some on) ⊎ (end_of grant.expires ≡ Some on) ⊎ IsAskedBy grant.needs on)
tied_either grant (tie.Grain n) = (
  λ same. inl (ap (λ (m : GrainId). Some (tie.Grain m)) same),
  elim [
    | inl same ↦ cc same
    | inr (inl ends) ↦ absurd (end_no_grain grant.expires n ends)
    | inr (inr (q, c, asked)) ↦ absurd (asks_no_grain q n asked)
  ],
)
tied_either grant (tie.Admin a) = (
  λ c. inr (inr (need.UserIsAdmin a, c, refl)),
  elim [
    | inl never ↦ cc never
    | inr (inl ends) ↦ absurd (end_no_admin grant.expires a ends)
    | inr (inr (q, c, asked)) ↦ subst (λ (x : Need). Contains grant.needs x) (asks_admin q a asked) c
  ],
)
tied_either grant (tie.End end) = (
  λ ends. inr (inl (ap end_of ends)),
  elim [
    | inl never ↦ cc never
    | inr (inl ends) ↦ end_is grant.expires end ends
    | inr (inr (q, c, asked)) ↦ absurd (asks_no_end q end asked)
  ],
)

-- the grant hangs on the tie, whatever its number
abbrev pub Hangs : Tie → GrantId → Grant → Type 0
Hangs on g grant = IsTied on grant

-- the nodes of the grants that an index has for a tie are those of the grants that hang on it
pub seeds_tied : (t : Tables) (tied : Tie → List GrantId) → IsTiesOf t tied → (on : Tie) (at : Node) → IsSeedOfGrants t (tied on) at ↔ IsSeedOfTie t on at
seeds_tied t tied ties on at = (
  λ (g, c, (grant, is, same)).
      let (other, there, has) = (ties.exact on g).0 c in
      let one : other ≡ grant = cc in
      (g, grant, is, subst (λ (x : Grant). IsTied on x) one has, same),
  λ (g, grant, is, has, same). (g, (ties.exact on g).1 (grant, is, has), (grant, is, same)),
)
