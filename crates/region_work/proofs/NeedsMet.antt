-- When what a node holds meets a need.
use Rattle.std.proofs.Common.{◌≡◌, ◌↔◌, ℕ, Bool, true, false, IsTrue, Some, refl, sym, subst, arith}
use Rattle.std.specs.Prelude.{nat_eq, ◌==◌}
use Rattle.std.specs.Int.{bit_at}
use Rattle.std.proofs.lemmas.Bool.{and_parts, and_from}
use Rattle.std.proofs.lemmas.Bool.Decides.{nat_tests}
use Rattle.std.proofs.lemmas.List.Elements.{All-contains, Contains-get_or}
use Rattle.std.proofs.lemmas.List.Sums.{AllPass-from_list_all, list_all-from_AllPass}
use Rattle.perm_roles.specs.declared.perm_set.PermSet.{PermSet}
use Rattle.perm_roles.specs.PermSet.{Has, positions}
use Rattle.perm_roles.proofs.Sets.{positions_has}
use Rattle.share_graph.specs.declared.facts.Fact.{Fact}
use Rattle.share_graph.specs.declared.facts.Fact.TheVariants.{Open, Perm}
use Rattle.share_graph.specs.declared.facts.Node.{Node}
use Rattle.share_graph.specs.declared.facts.Node.TheVariants as node
use Rattle.share_graph.specs.declared.grants.Need.{Need}
use Rattle.share_graph.specs.declared.grants.Need.TheVariants as need
use Rattle.share_graph.specs.declared.state.Tables.{Tables}
use Rattle.share_graph.specs.Derivation.{Asks}
use Rattle.least_access.specs.declared.held.Held.{Held}
use Rattle.least_access.specs.Held.{IsIn}
use Rattle.least_access.proofs.NeedTests.{token_met, set_met}
use Rattle.region_work.specs.Owed.{covers, meets, holder_of}

same_test : (x y : ℕ) → IsTrue (nat_eq x y) ↔ (x ≡ y)
same_test x y = grind (arith, nat_tests)

pub covers_is : (a b : PermSet) → (covers a b ≡ true) ↔ ((p : ℕ) → Has b p → Has a p)
unfolding covers Has
covers_is a b = (
  λ yes p has. (same_test _ _).0 (All-contains (λ q. (bit_at a.bits q == 1) ≡ true) (positions b) p (AllPass-from_list_all (λ q. bit_at a.bits q == 1) (positions b) yes) ((positions_has b p).1 has)),
  λ all. list_all-from_AllPass (λ q. bit_at a.bits q == 1) (positions b) (λ k d below. (same_test _ _).1 (all _ ((positions_has b _).0 (Contains-get_or (positions b) k d below)))),
)

-- what meets a need is all that it asks of the node that it names
pub meets_is : (t : Tables) (R : Node → Fact → Type 0) (q : Need) (at : Node) (held : Held) → holder_of q ≡ Some at → ((fact : Fact) → IsIn held fact ↔ R at fact)
    → (meets held q ≡ true) ↔ ((n : Node) (asked : Fact) → Asks q n asked → R n asked)
meets_is t R (need.TokenValid h) at held named exact =
    let here : at ≡ node.Grant h = cc in
    let there : (fact : Fact) → IsIn held fact ↔ R (node.Grant h) fact = subst (λ (n : Node). (fact : Fact) → IsIn held fact ↔ R n fact) here exact in
    let met = token_met t R h held there in
    (λ yes. (met.0 yes).1, λ asks. met.1 (tt, asks))
meets_is t R (need.PermissionsHeld holder set) at held named exact =
    let here : at ≡ holder = cc in
    let there : (fact : Fact) → IsIn held fact ↔ R holder fact = subst (λ (n : Node). (fact : Fact) → IsIn held fact ↔ R n fact) here exact in (
      λ yes. let both = and_parts held.entry (covers held.perms set) yes in ((set_met t R holder set held there both.0 (covers held.perms set) (covers_is held.perms set)).0 both.1).1,
      λ asks.
          let entry : held.entry ≡ true = (there Open).1 (asks holder Open refl) in
          and_from held.entry (covers held.perms set) entry ((set_met t R holder set held there entry (covers held.perms set) (covers_is held.perms set)).1 (tt, asks)),
    )
meets_is t R (need.UserIsAdmin a) at held named exact = cc named

-- more meets what less meets
pub meets_more : (before after : Held) → ((fact : Fact) → IsIn before fact → IsIn after fact) → (q : Need) → meets before q ≡ true → meets after q ≡ true
meets_more before after more (need.TokenValid h) met = more Open met
meets_more before after more (need.PermissionsHeld holder set) met =
    let both = and_parts before.entry (covers before.perms set) met in
    and_from after.entry (covers after.perms set) (more Open both.0) ((covers_is after.perms set).1 (λ p has. more (Perm p) ((covers_is before.perms set).0 both.1 p has)))
meets_more before after more (need.UserIsAdmin a) met = refl

-- a need asks of the node that it names alone
pub asks_at : (q : Need) (at n : Node) (asked : Fact) → holder_of q ≡ Some at → Asks q n asked → n ≡ at
asks_at (need.TokenValid h) at n asked named a = let e = a.0 in cc
asks_at (need.PermissionsHeld holder set) at n Open named a = cc
asks_at (need.PermissionsHeld holder set) at n (Perm p) named a = let e = a.0 in cc
asks_at (need.UserIsAdmin u) at n asked named a = absurd a

-- and entry at least
pub asks_open : (q : Need) (at : Node) → holder_of q ≡ Some at → Asks q at Open
asks_open (need.TokenValid h) at named = (cc, refl)
asks_open (need.PermissionsHeld holder set) at named = cc
asks_open (need.UserIsAdmin u) at named = cc named

same_bool : (a b : Bool) → (a ≡ true → b ≡ true) → (b ≡ true → a ≡ true) → a ≡ b
same_bool true b there back = sym (there refl)
same_bool false true there back = back refl
same_bool false false there back = refl

-- a test that tells the same is the same
pub covers_tells : (a b : PermSet) (r : Bool) → IsTrue r ↔ ((p : ℕ) → Has b p → Has a p) → r ≡ covers a b
covers_tells a b r tells = same_bool r (covers a b) (λ yes. (covers_is a b).1 (tells.0 yes)) (λ yes. tells.1 ((covers_is a b).0 yes))
