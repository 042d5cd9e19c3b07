use Rattle.std.proofs.Common.{◌≡◌, ◌⊎◌, ◌↔◌, ℕ, ◌+◌, ◌*◌, ◌%◌, ◌^◌, ◌<◌, Bool, true, false, List, Some, length, slice_get, slice_index_or, ◌∙◌, sym, ap, inl, inr, arith}
use Rattle.std.specs.Prelude.{bit_or}
use Rattle.std.specs.Int.{bit_at}
use Rattle.std.proofs.lemmas.Option.{slice_get_within, slice_get-get_or}
use Rattle.perm_roles.specs.PermSet.{Has}
use Rattle.perm_roles.proofs.Bits.{bit_of_set}
use Rattle.perm_roles.proofs.Words.{is_set_of}
use Rattle.perm_roles.proofs.perm_set.PermSet.from_list.Goals as goal
use Rattle.perm_roles.proofs.perm_set.PermSet.from_list.Goals.{then-is_in, else-is_in}

-- the bit is set exactly where the list has true, as far as it was read
abbrev IsRead : List Bool → ℕ → ℕ → ℕ → Type 0
IsRead list n k p = (bit_at n p ≡ 1) ↔ ((p < k) × (slice_get list p ≡ Some true))

read_true : (list : List Bool) (n k p : ℕ) → k < length list → k < 64 → slice_index_or list k false ≡ true → IsRead list n k p → IsRead list (bit_or n (1 * 2 ^ k % 2 ^ 64)) (k + 1) p
read_true list n k p within small is before =
    let bit = bit_of_set n k p small in
    let here = slice_get-get_or list k false within ∙ ap (λ b. Some b) is in (
      λ h. elim (bit.0 h) [
        | inl low ↦ (omega (arith, (before.0 low).0), (before.0 low).1)
        | inr at ↦ (omega arith, ap (λ i. slice_get list i) at ∙ here)
      ],
      λ h.
          let sides : (p < k) ⊎ (p ≡ k) = grind (arith, h.0) in
          elim sides [ inl low ↦ bit.1 (inl (before.1 (low, h.1))) | inr at ↦ bit.1 (inr at) ],
    )

read_false : (list : List Bool) (n k p : ℕ) → k < length list → slice_index_or list k false ≡ false → IsRead list n k p → IsRead list n (k + 1) p
read_false list n k p within is before =
    let here = slice_get-get_or list k false within ∙ ap (λ b. Some b) is in (
      λ h. (omega (arith, (before.0 h).0), (before.0 h).1),
      λ h.
          let sides : (p < k) ⊎ (p ≡ k) = grind (arith, h.0) in
          elim sides [ inl low ↦ before.1 (low, h.1) | inr at ↦ let e = sym (h.1) ∙ ap (λ i. slice_get list i) at ∙ here in absurd cc ],
    )

pub loop-place-preserved : goal.loop-place-preserved
loop-place-preserved c p =
    elim c.if-is_in.branch [
      | then-is_in w ↦ rw w.bits-is (read_true c.args.list.now c.loop-place.bits c.loop-place.place p c.loop-place-test.true (omega arith) w.if-is_in.true (c.loop-place.invariant p))
      | else-is_in w ↦ rw w.bits-is (read_false c.args.list.now c.loop-place.bits c.loop-place.place p c.loop-place-test.true w.if-is_in.false (c.loop-place.invariant p))
    ]

pub returns-clause-members : goal.returns-clause-members
unfolding Has
returns-clause-members c p = (
  λ h. ((c.loop-place.invariant p).0 h).1,
  λ h. (c.loop-place.invariant p).1 (let inside = slice_get_within c.args.list.now p true h in omega arith, h),
)

pub returns-clause-value : goal.returns-clause-value
returns-clause-value c = is_set_of _ c.args.list.now (omega arith) (returns-clause-members c)
