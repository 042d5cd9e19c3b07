-- How much more can be held after a union: at most as much as a part can, and as much only where the union is that part.
use Rattle.std.proofs.Common.{◌≡◌, ◌+◌, ◌≤◌, ℕ, Bool, true, false, length, arith, refl, sym, ap, ◌∙◌, if◌then◌else◌}
use Rattle.perm_roles.specs.declared.perm_set.PermSet.{PermSet}
use Rattle.perm_roles.specs.PermSet.{Has, positions}
use Rattle.perm_roles.proofs.Measures.{length-positions-part, same_length, length-positions-64}
use Rattle.least_access.specs.declared.held.Held.{Held}
use Rattle.least_access.specs.Held.{gain, room}

gain_falls : (part whole : PermSet) → ((p : ℕ) → Has part p → Has whole p) → gain whole ≤ gain part
unfolding gain
gain_falls part whole within = let longer = length-positions-part part whole within in omega arith

gain_same : (part whole : PermSet) → ((p : ℕ) → Has part p → Has whole p) → gain whole ≡ gain part → whole ≡ part
unfolding gain
gain_same part whole within same =
    let longer = length-positions-part part whole within in
    let few = length-positions-64 part in
    let few_more = length-positions-64 whole in
    let long : length (positions part) ≡ length (positions whole) = omega arith in
    sym (same_length part whole within long)

falls : (x z : Bool) (m n : ℕ) → (x ≡ true → z ≡ true) → m ≤ n → (if z then 0 else 1) + m ≤ (if x then 0 else 1) + n
falls true true m n keeps less = omega arith
falls true false m n keeps less = absurd (cc (keeps refl))
falls false true m n keeps less = omega arith
falls false false m n keeps less = omega arith

stays : (x z : Bool) (m n : ℕ) → (x ≡ true → z ≡ true) → m ≤ n → (if z then 0 else 1) + m ≡ (if x then 0 else 1) + n → (z ≡ x) × (m ≡ n)
stays true true m n keeps less same = (refl, omega arith)
stays true false m n keeps less same = absurd (cc (keeps refl))
stays false true m n keeps less same = absurd (omega arith)
stays false false m n keeps less same = (refl, omega arith)

abbrev held_of : Bool → PermSet → Held
held_of entry perms = record { entry = entry; perms = perms }

module _ (part whole : Held) (keeps : part.entry ≡ true → whole.entry ≡ true) (within : (p : ℕ) → Has part.perms p → Has whole.perms p) where
  pub room_falls : room whole ≤ room part
  room_falls = falls part.entry whole.entry (gain whole.perms) (gain part.perms) keeps (gain_falls part.perms whole.perms within)

  pub room_same : room whole ≡ room part → whole ≡ part
  room_same same =
      let both = stays part.entry whole.entry (gain whole.perms) (gain part.perms) keeps (gain_falls part.perms whole.perms within) same in
      ap (λ (b : Bool). held_of b whole.perms) both.0 ∙ ap (λ (set : PermSet). held_of part.entry set) (gain_same part.perms whole.perms within both.1)
