-- An aid for proofs: the format of a grant has one spelling for each value.
use Rattle.std.proofs.Common.{◌≡◌, ℕ, [], ◌∷◌, None, ap, sym, refl, ◌∙◌, lit≤}
use Rattle.std.specs.Prelude.{nat_lt}
use Rattle.std.specs.Int.{w16, w32, w64}
use Rattle.row_formats.specs.declared.fault.RowFault.TheVariants.{BadField, BadVersion}
use Rattle.share_graph.specs.declared.grants.Grant.{Grant}
use Rattle.row_formats.specs.Format.{number}
use Rattle.row_formats.specs.Exact.{IsExact}
use Rattle.row_formats.proofs.Fields.{number_exact, wide16, wide32, wide64}
use Rattle.row_formats.proofs.Parts.{always_exact, pair_exact, made_exact, only_exact}
use Rattle.row_formats.proofs.Choices.{numbered_exact}
use Rattle.row_formats.proofs.Chains.{chain_exact}
use Rattle.row_formats.proofs.Basics.{digest_exact, flag_exact, set_exact}
use Rattle.row_codec.specs.GrantRow.{givers, targets, bases, nodes, needs, tokens, giver_number, giver_format, target_number, target_format, base_number, base_format, assignment, node_number, node_format, need_number, need_format, token_number, token, without_expiry, expiry, with_expiry, grant_version, grant}
use Rattle.row_codec.specs.RowsExact.{account_id_exact, grain_id_exact, grant_id_exact}

giver_exact : IsExact giver_format
giver_exact = numbered_exact (λ at n. BadField at) 1 giver_number givers (lit≤ tt) (
  made_exact _ _ _ (λ y h. refl) account_id_exact,
  λ x h. sym (ap giver_number h.1),
  (
    made_exact _ _ _ (λ y h. refl) grant_id_exact,
    λ x h. sym (ap giver_number h.1),
    (made_exact _ _ _ (λ y h. refl) (pair_exact _ _ account_id_exact (pair_exact _ _ (number_exact w64 wide64) (number_exact w32 wide32))), λ x h. sym (ap giver_number h.1), tt),
  ),
)

target_exact : IsExact target_format
target_exact = numbered_exact (λ at n. BadField at) 1 target_number targets (lit≤ tt) (
  made_exact _ _ _ (λ y h. refl) flag_exact,
  λ x h. sym (ap target_number h.1),
  (
    made_exact _ _ _ (λ y h. refl) account_id_exact,
    λ x h. sym (ap target_number h.1),
    (
      made_exact _ _ _ (λ y h. refl) grain_id_exact,
      λ x h. sym (ap target_number h.1),
      (made_exact _ _ _ (λ y h. refl) grain_id_exact, λ x h. sym (ap target_number h.1), tt),
    ),
  ),
)

base_exact : IsExact base_format
base_exact = numbered_exact (λ at n. BadField at) 0 base_number bases (lit≤ tt) (
  always_exact _,
  λ x h. ap base_number h,
  (
    always_exact _,
    λ x h. ap base_number h,
    (made_exact _ _ _ (λ y h. refl) (number_exact w16 wide16), λ x h. sym (ap base_number h.1), tt),
  ),
)

assignment_exact : IsExact assignment
assignment_exact = made_exact _ _ _ (λ y h. refl) (pair_exact _ _ base_exact (pair_exact _ _ set_exact set_exact))

node_exact : IsExact node_format
node_exact = numbered_exact (λ at n. BadField at) 1 node_number nodes (lit≤ tt) (
  made_exact _ _ _ (λ y h. refl) (pair_exact _ _ grain_id_exact account_id_exact),
  λ x h. sym (ap node_number h.1),
  (made_exact _ _ _ (λ y h. refl) grant_id_exact, λ x h. sym (ap node_number h.1), tt),
)

pub need_exact : IsExact need_format
need_exact = numbered_exact (λ at n. BadField at) 1 need_number needs (lit≤ tt) (
  made_exact _ _ _ (λ y h. refl) grant_id_exact,
  λ x h. sym (ap need_number h.1),
  (
    made_exact _ _ _ (λ y h. refl) (pair_exact _ _ node_exact set_exact),
    λ x h. sym (ap need_number h.1),
    (made_exact _ _ _ (λ y h. refl) account_id_exact, λ x h. sym (ap need_number h.1), tt),
  ),
)

token_exact : IsExact token
token_exact = numbered_exact (λ at n. BadField at) 0 token_number tokens (lit≤ tt) (
  always_exact _,
  λ x h. ap token_number h,
  (made_exact _ _ _ (λ y h. refl) digest_exact, λ x h. sym (ap token_number h.1), tt),
)

without_exact : (num : ℕ) → IsExact (without_expiry num)
without_exact num = made_exact _ _ _ (λ y h. refl)
    (pair_exact _ _ grain_id_exact (pair_exact _ _ giver_exact (pair_exact _ _ target_exact (pair_exact _ _ assignment_exact
    (pair_exact _ _ (chain_exact 65535 (λ last. need_format) (λ last. need_exact)) (pair_exact _ _ token_exact flag_exact))))))

expiry_exact : IsExact expiry
expiry_exact = only_exact (λ end. nat_lt 0 end) (number w64) (number_exact w64 wide64)

-- a grant in the format of one without an expiry has none
no_expiry : (num : ℕ) (g : Grant) → (without_expiry num).fits g → record g { expires = None } ≡ g
no_expiry num g h = sym (ap (λ (k : Grant). record k { expires = None }) h.1) ∙ h.1

with_exact : (num : ℕ) → IsExact (with_expiry num)
with_exact num = made_exact _ _ _ (λ y h. ap (λ (g : Grant). (g, y.1)) (no_expiry num y.0 h.0)) (pair_exact _ _ (without_exact num) expiry_exact)

pub grant_exact : (num : ℕ) → IsExact (grant num)
grant_exact num = numbered_exact (λ at n. BadVersion n) 1 grant_version (without_expiry num ∷ with_expiry num ∷ []) (lit≤ tt)
    (without_exact num, λ x h. sym (ap grant_version h.1), (with_exact num, λ x h. sym (ap grant_version h.1), tt))
