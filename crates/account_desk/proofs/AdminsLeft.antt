-- Whether an enabled admin is left once a mark of an account is set.
use Rattle.std.proofs.Common.{◌≡◌, ◌≢◌, ◌⊎◌, ◌↔◌, ◌∙◌, ℕ, zero, suc, Bool, true, false, IsTrue, List, [], ◌∷◌, Some, All, get_or, refl, sym, ap, subst, arith, inl, inr}
use Rattle.std.proofs.lemmas.List.Elements.{All-contains, Contains-get_or}
use Rattle.desk_base.specs.Terms.{Account, AccountId, IsNoneOf, IsWellFormed, row, State}
use Rattle.share_graph.specs.Changing.{change_row}
use Rattle.share_graph.specs.Setting.{with_admin, with_enabled}
use Rattle.share_graph.proofs.Contained.{contains_at, listed_row, place_of, row_listed}
use Rattle.share_graph.proofs.Marked.{change_row_other}
use Rattle.state_step.proofs.Touched.{change_row_touches, each_touched, numbered_touched, touched_listed}
use Rattle.account_desk.specs.Rows.{IsEnabledAdmin, IsOnlyAdmin, LeavesNoAdmin, mark_set}
use Rattle.account_desk.specs.declared.admins.Mark.{Mark}
use Rattle.account_desk.specs.declared.admins.Mark.TheVariants as mark

-- f sets a mark, with which an enabled admin stays one, and without which there is none
record Marks (f : Bool → Account → Account) : Type 0 where
  num : (on : Bool) (x : Account) → (f on x).num ≡ x.num
  on : (x : Account) → IsEnabledAdmin x → IsEnabledAdmin (f true x)
  off : (x : Account) → IsEnabledAdmin (f false x) → ⊥

admin_mark : Marks with_admin
admin_mark = record { num = λ on x. refl; on = λ x (enabled, admin). (enabled, refl); off = λ x (enabled, admin). cc }

enabled_mark : Marks with_enabled
enabled_mark = record { num = λ on x. refl; on = λ x (enabled, admin). (refl, admin); off = λ x (enabled, admin). cc }

-- the row of the changed number was changed
changed : (f : Account → Account) (rows : List Account) (n : ℕ) (y : Account) → row (change_row f rows n) n ≡ Some y → (x : Account) × (f x ≡ y)
changed f rows zero y is = cc is
changed f [] (suc i) y is = cc is
changed f (x ∷ rows) (suc zero) y is = let same : Some (f x) ≡ Some y = is in (x, (cc))
changed f (x ∷ rows) (suc (suc i)) y is = changed f rows (suc i) y is

account_id : (x y : AccountId) → x.0 ≡ y.0 → x ≡ y
account_id x y same = ap (λ (n : ℕ). let i : AccountId = record { 0 = n } in i) same

module _ (s : State) (a : AccountId) (f : Bool → Account → Account) (mark : Marks f) where
  -- with the mark an admin is left
  some_marked : (IsNoneOf s.tables.accounts IsEnabledAdmin → ⊥) → IsNoneOf (change_row (f true) s.tables.accounts a.0) IsEnabledAdmin → ⊥
  some_marked some none = some λ x listed is.
      let (y, there, same) = touched_listed (f true) s.tables.accounts (change_row (f true) s.tables.accounts a.0) (change_row_touches (f true) s.tables.accounts a.0) x listed in
      none y there (elim same [
        | inl e ↦ subst (λ (z : Account). IsEnabledAdmin z) e is
        | inr e ↦ subst (λ (z : Account). IsEnabledAdmin z) e (mark.on x is)
      ])

module _ (s : State) (formed : IsWellFormed s) (a : AccountId) (f : Bool → Account → Account) (mark : Marks f) where
  none_left : All (IsOnlyAdmin a) s.tables.accounts → IsNoneOf (change_row (f false) s.tables.accounts a.0) IsEnabledAdmin
  none_left only y listed is =
      let xs = s.tables.accounts in
      let ys = change_row (f false) xs a.0 in
      let touched = change_row_touches (f false) xs a.0 in
      let numbered = numbered_touched (f false) (λ (x : Account). x.num.0) (λ x. ap (λ (i : AccountId). i.0) (mark.num false x)) xs ys touched formed.numbered.accounts in
      let (k, at) = place_of ys y listed in
      let its : y.num ≡ a = each_touched (f false) (λ i (x : Account). IsOnlyAdmin a x) (λ i x is_only admin. absurd (mark.off x admin)) xs ys touched
      (λ i x there. All-contains (IsOnlyAdmin a) xs x only (contains_at xs i x there)) k y at is in
      let there : row ys a.0 ≡ Some y = subst (λ (i : AccountId). row ys i.0 ≡ Some y) its (listed_row (λ (x : Account). x.num.0) ys y numbered listed) in
      let (x, made) = changed (f false) xs a.0 y there in
      mark.off x (subst (λ (z : Account). IsEnabledAdmin z) (sym made) is)

  only_admin : IsNoneOf (change_row (f false) s.tables.accounts a.0) IsEnabledAdmin → All (IsOnlyAdmin a) s.tables.accounts
  only_admin none k d less is =
      let xs = s.tables.accounts in
      let x : Account = get_or xs k d in
      let was : row xs x.num.0 ≡ Some x = listed_row (λ (y : Account). y.num.0) xs x formed.numbered.accounts (Contains-get_or xs k d less) in
      let sides : (x.num.0 ≡ a.0) ⊎ (x.num.0 ≢ a.0) = grind arith in
      elim sides [
        | inl same ↦ account_id x.num a same
        | inr other ↦ absurd (none x (row_listed _ x.num.0 x (change_row_other (f false) xs a.0 x.num.0 other ∙ was)) is)
      ]

  -- without it none is where no other account is an enabled admin
  only_marked : (test : Bool) → IsTrue test ↔ All (IsOnlyAdmin a) s.tables.accounts → IsTrue test ↔ IsNoneOf (change_row (f false) s.tables.accounts a.0) IsEnabledAdmin
  only_marked test tells = (λ yes. none_left (tells.0 yes), λ none. tells.1 (only_admin none))

-- and so it is after the event of either mark
module _ (s : State) (a : AccountId) where
  pub some_left : (m : Mark) → (IsNoneOf s.tables.accounts IsEnabledAdmin → ⊥) → LeavesNoAdmin s.tables (mark_set m a true) → ⊥
  unfolding LeavesNoAdmin
  some_left mark.Admin = some_marked s a with_admin admin_mark
  some_left mark.Enabled = some_marked s a with_enabled enabled_mark

  pub only_left : (m : Mark) → IsWellFormed s → (test : Bool) → IsTrue test ↔ All (IsOnlyAdmin a) s.tables.accounts → IsTrue test ↔ LeavesNoAdmin s.tables (mark_set m a false)
  unfolding LeavesNoAdmin
  only_left mark.Admin formed = only_marked s formed a with_admin admin_mark
  only_left mark.Enabled formed = only_marked s formed a with_enabled enabled_mark
