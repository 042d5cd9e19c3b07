-- Whether sets have a position.
use Rattle.std.proofs.Common.{◌≡◌, ◌<◌, ◌≤◌, ◌↔◌, ℕ, IsTrue, List, Contains, length, get_or, nat_lt, inl, inr, arith}
use Rattle.std.proofs.lemmas.Bool.Decides.{nat_tests}
use Rattle.std.proofs.lemmas.List.Elements.{Contains-get_or}
use Rattle.perm_roles.specs.declared.perm_set.PermSet.{PermSet}
use Rattle.perm_roles.specs.declared.roles.Assignment.{Assignment}
use Rattle.perm_roles.specs.PermSet.{Has}
use Rattle.report_desk.specs.Reasons.{ChangesBase}

module _ (set : PermSet) (n : ℕ) (ps : List ℕ) (count : n ≡ length ps) (members : (p : ℕ) → Contains ps p ↔ Has set p) where
  pub some_position : 0 < n → (p : ℕ) × Has set p
  some_position more = let less : 0 < length ps = omega arith in (get_or ps 0 0, (members (get_or ps 0 0)).0 (Contains-get_or ps 0 0 less))

  pub has_some : ((p : ℕ) × Has set p) → 0 < n
  has_some (p, has) = let (k, less, same) = (members p).1 has in omega arith

-- a position is added
pub changed_first : (a : Assignment) (m : ℕ) (ps : List ℕ) → m ≡ length ps → ((p : ℕ) → Contains ps p ↔ Has a.add p) → 0 < m → IsTrue (nat_lt 0 m) ↔ ChangesBase a
changed_first a m ps count members more = (
  λ h. (let (p, has) = some_position a.add m ps count members more in (p, inl has)),
  λ h. grind (arith, nat_tests),
)

-- without a position that is added, one is removed or none is
pub changed_by : (a : Assignment) (m n : ℕ) (ps qs : List ℕ) → m ≡ length ps → ((p : ℕ) → Contains ps p ↔ Has a.add p) → n ≡ length qs → ((p : ℕ) → Contains qs p ↔ Has a.remove p) → m ≤ 0
    → IsTrue (nat_lt 0 n) ↔ ChangesBase a
changed_by a m n ps qs first adds second removes none = (
  λ h. (let more : 0 < n = grind (arith, nat_tests) in let (p, has) = some_position a.remove n qs second removes more in (p, inr has)),
  λ (p, has). elim has [
    | inl add ↦ absurd (let more = has_some a.add m ps first adds (p, add) in omega arith)
    | inr remove ↦ (let more = has_some a.remove n qs second removes (p, remove) in grind (arith, nat_tests))
  ],
)
