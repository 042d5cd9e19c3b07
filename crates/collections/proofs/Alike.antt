-- What the derived tests of assignments and needs tell.
use Rattle.std.proofs.Common.{◌≡◌, ◌∙◌, ℕ, refl, ap}
use Rattle.std.specs.Bool.{Decides}
use Rattle.std.proofs.lemmas.Bool.{false≢true}
use Rattle.std.proofs.lemmas.Bool.Decides.{Decides-and, Decides-eqb, Decides-like}
use Rattle.host_base.specs.declared.ids.AccountId.{AccountId}
use Rattle.host_base.specs.declared.ids.GrainId.{GrainId}
use Rattle.host_base.specs.declared.ids.GrantId.{GrantId}
use Rattle.perm_roles.specs.PermSet.{bits_of}
use Rattle.perm_roles.specs.contracts.perm_set.PermSetPartialEq.TheImpl as set_eq
use Rattle.perm_roles.specs.contracts.roles.AssignmentPartialEq.TheImpl as assignment_eq
use Rattle.perm_roles.specs.contracts.roles.BasePartialEq.TheImpl as base_eq
use Rattle.perm_roles.specs.declared.perm_set.PermSet.{PermSet}
use Rattle.perm_roles.specs.declared.roles.Assignment.{Assignment}
use Rattle.perm_roles.specs.declared.roles.Base.{Base}
use Rattle.perm_roles.specs.declared.roles.Base.TheVariants as base
use Rattle.perm_roles.proofs.Sets.{same_word}
use Rattle.share_graph.specs.contracts.facts.NodePartialEq.TheImpl as node_eq
use Rattle.share_graph.specs.contracts.grants.NeedPartialEq.TheImpl as need_eq
use Rattle.share_graph.specs.declared.facts.Node.{Node}
use Rattle.share_graph.specs.declared.facts.Node.TheVariants as node
use Rattle.share_graph.specs.declared.grants.Need.{Need}
use Rattle.share_graph.specs.declared.grants.Need.TheVariants as need

set_decides : (a b : PermSet) → Decides (set_eq.ghosts.eq a b) (a ≡ b)
unfolding bits_of
set_decides a b = Decides-like _ (same_word a b) (ap (λ (s : PermSet). s.bits)) (Decides-eqb a.bits b.bits)

base_decides : (a b : Base) → Decides (base_eq.ghosts.eq a b) (a ≡ b)
base_decides base.NoRole base.NoRole = (λ _. refl, λ _. refl)
base_decides base.AllAccess base.AllAccess = (λ _. refl, λ _. refl)
base_decides (base.Role m) (base.Role n) = Decides-like _ (λ e. ap base.Role e) (λ e. cc) (Decides-eqb m n)
base_decides a b = (λ h. absurd (false≢true h), λ e. cc)

-- what is told by its fields
grain_is : (n m : GrainId) → n.0 ≡ m.0 → n ≡ m
grain_is n m = ap (λ (k : ℕ). let id : GrainId = record { 0 = k } in id)

account_is : (a b : AccountId) → a.0 ≡ b.0 → a ≡ b
account_is a b = ap (λ (k : ℕ). let id : AccountId = record { 0 = k } in id)

pub grant_is : (g h : GrantId) → g.0 ≡ h.0 → g ≡ h
grant_is g h = ap (λ (k : ℕ). let id : GrantId = record { 0 = k } in id)

assignment_is : (a b : Assignment) → a.base ≡ b.base → a.add ≡ b.add → a.remove ≡ b.remove → a ≡ b
assignment_is a b e f g =
    ap (λ (x : Base). let made : Assignment = record { base = x; add = a.add; remove = a.remove } in made) e
    ∙ ap (λ (x : PermSet). let made : Assignment = record { base = b.base; add = x; remove = a.remove } in made) f
    ∙ ap (λ (x : PermSet). let made : Assignment = record { base = b.base; add = b.add; remove = x } in made) g

pub assignment_decides : (a b : Assignment) → Decides (assignment_eq.ghosts.eq a b) (a ≡ b)
assignment_decides a b =
    Decides-like _ (λ (e, both). assignment_is a b e both.0 both.1) (λ e. (ap (λ (x : Assignment). x.base) e, (ap (λ (x : Assignment). x.add) e, ap (λ (x : Assignment). x.remove) e)))
    (Decides-and _ _ (base_decides a.base b.base) (Decides-and _ _ (set_decides a.add b.add) (set_decides a.remove b.remove)))

node_decides : (a b : Node) → Decides (node_eq.ghosts.eq a b) (a ≡ b)
node_decides (node.User n a) (node.User m b) =
    Decides-like _ (λ (e, f). (let grain = grain_is n m e in let account = account_is a b f in cc)) (λ e. (cc, cc)) (Decides-and _ _ (Decides-eqb n.0 m.0) (Decides-eqb a.0 b.0))
node_decides (node.Grant g) (node.Grant h) = Decides-like _ (λ e. ap node.Grant (grant_is g h e)) (λ e. cc) (Decides-eqb g.0 h.0)
node_decides a b = (λ h. absurd (false≢true h), λ e. cc)

pub need_decides : (a b : Need) → Decides (need_eq.ghosts.eq a b) (a ≡ b)
need_decides (need.TokenValid g) (need.TokenValid h) = Decides-like _ (λ e. ap need.TokenValid (grant_is g h e)) (λ e. cc) (Decides-eqb g.0 h.0)
need_decides (need.PermissionsHeld n s) (need.PermissionsHeld m r) = Decides-like _ (λ (e, f). cc) (λ e. (cc, cc)) (Decides-and _ _ (node_decides n m) (set_decides s r))
need_decides (need.UserIsAdmin a) (need.UserIsAdmin b) = Decides-like _ (λ e. ap need.UserIsAdmin (account_is a b e)) (λ e. cc) (Decides-eqb a.0 b.0)
need_decides a b = (λ h. absurd (false≢true h), λ e. cc)
