-- Grants that wait.
use Rattle.std.proofs.Common.{◌≡◌, ◌<◌, ◌≤◌, ◌+◌, ◌⊎◌, ◌∷◌, ◌++◌, [], ℕ, Bool, true, false, List, Contains, length, take, get_or, sym, ◌∙◌, ap, subst, refl, inl, inr, arith}
use Rattle.std.proofs.lemmas.Bool.{eqb-true}
use Rattle.std.proofs.lemmas.List.{length_push, take_more, take_all}
use Rattle.std.proofs.lemmas.List.Elements.{Contains-append_left, Contains-push, Contains-push_cases}
use Rattle.std.specs.BTreeMap.{is_at}
use Rattle.std.specs.BTreeSet.{BTreeSet, Updates}
use Rattle.std.specs.Cmp.{unsigned_tied}
use Rattle.std.specs.Ordering.{is_eq}
use Rattle.host_base.specs.contracts.ids.GrantIdOrd.TheImpl as id_order
use Rattle.host_base.specs.declared.ids.GrantId.{GrantId}
use Rattle.least_access.proofs.Turns.{grant_id}
use Rattle.region_work.proofs.StepWorks.{same_grant}
use Rattle.region_work.proofs.Sums.{contains_cons, contains_none}
use Rattle.access_report.specs.Waiting.{AreListed, IsQueued, AreQueued}

-- numbers that the order can't tell apart are one
same_id : (a b : GrantId) → is_eq (id_order.ghosts.cmp a b) ≡ true → a ≡ b
same_id a b h = ap (λ n. grant_id n) (eqb-true a.0 b.0 (sym (unsigned_tied a.0 b.0) ∙ h))

-- a grant that is put into the set and at the list's end
pub listed_push : (there more : BTreeSet GrantId) (waiting : List GrantId) (num : GrantId) → Updates id_order.ghosts.cmp there more num true → AreListed there waiting → AreListed more (waiting ++ num ∷ [])
listed_push there more waiting num updates listed g has = by_test (is_at (id_order.ghosts.cmp num) g) refl
  where
    by_test : (test : Bool) → is_at (id_order.ghosts.cmp num) g ≡ test → Contains (waiting ++ num ∷ []) g
    by_test true is = subst (λ (h : GrantId). Contains (waiting ++ num ∷ []) h) (same_id num g is) (Contains-push waiting num)
    by_test false is = Contains-append_left waiting (num ∷ []) g (listed g (sym (updates.2 g is) ∙ has))

pub queued_push : (g : GrantId) (waiting : List GrantId) → IsQueued g waiting (waiting ++ g ∷ [])
queued_push g waiting = record {
  there = Contains-push waiting g;
  keeps = λ h c. Contains-append_left waiting (g ∷ []) h c;
  only = λ h c. Contains-push_cases waiting g h c;
  long = let long = length_push waiting g in omega arith;
}

-- ---- the first of a list

pub queued_none : (gs waiting : List GrantId) → AreQueued (take 0 gs) waiting waiting
queued_none gs waiting = record {
  there = λ h c. absurd (contains_none h c);
  keeps = λ h c. c;
  only = λ h c. inl c;
  long = omega arith;
}

pub queued_next : (gs old mid new : List GrantId) (n : ℕ) (d : GrantId) → n < length gs → AreQueued (take n gs) old mid → IsQueued (get_or gs n d) mid new → AreQueued (take (n + 1) gs) old new
queued_next gs old mid new n d within so_far one =
    subst (λ (xs : List GrantId). AreQueued xs old new) (sym (take_more gs n d within)) (record {
      there = λ h c.
          elim (Contains-push_cases (take n gs) (get_or gs n d) h c) [
            | inl earlier ↦ one.keeps h (so_far.there h earlier)
            | inr here ↦ subst (λ (k : GrantId). Contains new k) here one.there
          ];
      keeps = λ h c. one.keeps h (so_far.keeps h c);
      only = λ h c.
          elim (one.only h c) [
            | inl before ↦
                elim (so_far.only h before) [
                  | inl first ↦ inl first
                  | inr earlier ↦ inr (Contains-append_left (take n gs) (get_or gs n d ∷ []) h earlier)
                ]
            | inr here ↦ inr (subst (λ (k : GrantId). Contains (take n gs ++ get_or gs n d ∷ []) k) here (Contains-push (take n gs) (get_or gs n d)))
          ];
      long = let a = one.long in let b = so_far.long in let long = length_push (take n gs) (get_or gs n d) in omega arith;
    })

pub queued_all : (gs old new : List GrantId) (n : ℕ) → length gs ≤ n → AreQueued (take n gs) old new → AreQueued gs old new
queued_all gs old new n all done = subst (λ (xs : List GrantId). AreQueued xs old new) (take_all n gs all) done

-- a grant is in a list, or isn't
pub grant_in : (gs : List GrantId) (g : GrantId) → Contains gs g ⊎ (Contains gs g → ⊥)
grant_in [] g = inr (contains_none g)
grant_in (h ∷ gs) g =
    elim (same_grant h g) [
      | inl one ↦ inl ((contains_cons h gs g).1 (inl one))
      | inr other ↦
          elim (grant_in gs g) [
            | inl there ↦ inl ((contains_cons h gs g).1 (inr there))
            | inr not ↦ inr (λ c. elim ((contains_cons h gs g).0 c) [ inl e ↦ other e | inr l ↦ not l ])
          ]
    ]
