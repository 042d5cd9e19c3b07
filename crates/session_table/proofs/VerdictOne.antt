-- A key has one verdict.
use Rattle.std.proofs.Common.{◌≡◌, ◌<◌, ◌≤◌, ◌+◌, ◌⊎◌, ◌==◌, ◌++◌, ℕ, Bool, true, List, Option, Some, None, count_by, take, drop, slice_get, get_or, sym, ◌∙◌, ap, subst, arith, inl, inr, cond}
use Rattle.std.proofs.lemmas.List.{take-take, take-append-drop}
use Rattle.std.proofs.lemmas.List.Sums.{count_by_more_yes, sum_by-append}
use Rattle.std.proofs.lemmas.Option.{slice_get_within, get_or_from_slice_get}
use Rattle.host_base.specs.declared.ids.AccountId.{AccountId}
use Rattle.host_base.specs.declared.ids.GrainId.{GrainId}
use Rattle.host_base.specs.declared.ids.GrantId.{GrantId}
use Rattle.host_base.specs.declared.ids.RunId.{RunId}
use Rattle.host_base.specs.declared.key.Key.{Key}
use Rattle.host_base.specs.declared.key.Key.TheVariants as key
use Rattle.host_base.specs.declared.permit.Permit.{Permit}
use Rattle.host_base.specs.declared.permit.Shown.{Shown}
use Rattle.host_base.specs.declared.permit.Shown.TheVariants as shown
use Rattle.host_base.specs.declared.permit.TabMark.{TabMark}
use Rattle.host_base.specs.declared.verdict.Verdict.TheVariants as verdict
use Rattle.share_graph.specs.declared.grants.Grant.{Grant}
use Rattle.share_graph.specs.declared.rows.Account.{Account}
use Rattle.share_graph.specs.declared.rows.App.{App}
use Rattle.share_graph.specs.declared.sessions.Handle.{Handle}
use Rattle.share_graph.specs.declared.sessions.Root.{Root}
use Rattle.share_graph.specs.declared.sessions.Root.TheVariants as root
use Rattle.share_graph.specs.declared.sessions.Run.{Run}
use Rattle.share_graph.specs.declared.state.State.{State}
use Rattle.share_graph.specs.declared.state.Tables.{Tables}
use Rattle.share_graph.specs.declared.ways.Origin.{Origin}
use Rattle.share_graph.specs.declared.ways.Origin.TheVariants as origin
use Rattle.share_graph.specs.Forms.{IsOne}
use Rattle.share_graph.specs.Keys.{IsOneOf, IsLiveRun, IsHandleOf}
use Rattle.share_graph.specs.WellFormed.{IsWellFormed, AreNumberedByRun}
use Rattle.share_graph.proofs.Apart.{bearer_one, key_one, run_token_one}
use Rattle.share_graph.proofs.Contained.{place_of}
use Rattle.share_graph.proofs.Fits.{app_unique}
use Rattle.share_graph.proofs.MissingOne.{entry_one}
use Rattle.share_graph.proofs.OneAnswer.{answers_one, when_one, unless_one, some_of_one}
use Rattle.share_graph.proofs.WaysOne.{origin_one, shown_one}
use Rattle.session_table.specs.Standing.{Standing, behind_grant, IsShownBy, IsShownFor}
use Rattle.session_table.specs.Verdict.{names_at, IsPermit, Goes, Stands, VerdictAtEnd, Reaches, IsVerdict}
use Rattle.session_table.proofs.Ascending.{same_ascending}

-- a grain has one live run
live_one : (s : State) → IsWellFormed s → (n : GrainId) → IsOne (λ run. IsOneOf s.runs (IsLiveRun n) run)
live_one s formed n = record {
  one = λ x y a b.
      (let (i, at) = place_of s.runs x a.listed in
      let (j, there) = place_of s.runs y b.listed in
      let same : i ≡ j = formed.live n i j x y at there a.is b.is in
      let both : Some x ≡ Some y = sym at ∙ ap (λ (k : ℕ). slice_get s.runs k) same ∙ there in
      cc);
}

-- more are counted up to a later place
counted_later : {X : Type 0} (p : X → Bool) (xs : List X) (i j : ℕ) (x : X) → slice_get xs i ≡ Some x → p x ≡ true → i < j → count_by p (take i xs) + 1 ≤ count_by p (take j xs)
counted_later {X} p xs i j x is has less =
    let at : get_or xs i x ≡ x = get_or_from_slice_get xs i x x is in
    let more : count_by p (take (i + 1) xs) ≡ count_by p (take i xs) + 1 = count_by_more_yes p xs i x (slice_get_within xs i x is) (ap p at ∙ has) in
    let front : take (i + 1) (take j xs) ≡ take (i + 1) xs = take-take (i + 1) j xs (omega arith) in
    let parts : take (i + 1) xs ++ drop (i + 1) (take j xs) ≡ take j xs = ap (λ (ys : List X). ys ++ drop (i + 1) (take j xs)) (sym front) ∙ take-append-drop (i + 1) (take j xs) in
    let sums : count_by p (take j xs) ≡ count_by p (take (i + 1) xs) + count_by p (drop (i + 1) (take j xs)) =
    ap (λ (ys : List X). count_by p ys) (sym parts) ∙ sum_by-append (λ (y : X). cond (p y) 1 0) (take (i + 1) xs) (drop (i + 1) (take j xs)) in
    omega arith

handle_before : (handles : List Handle) → AreNumberedByRun handles → (i j : ℕ) (x y : Handle) → slice_get handles i ≡ Some x → slice_get handles j ≡ Some y → x.run ≡ y.run → x.num ≡ y.num → i < j → ⊥
handle_before handles numbered i j x y at there runs nums less =
    let own : (x.run.0 == y.run.0) ≡ true = rw runs (eq_refl y.run.0) in
    let counted = counted_later (λ (other : Handle). other.run.0 == y.run.0) handles i j x at own less in
    let here : x.num ≡ count_by (λ (other : Handle). other.run.0 == y.run.0) (take i handles) + 1 =
    numbered i x at ∙ ap (λ (r : RunId). count_by (λ (other : Handle). other.run.0 == r.0) (take i handles) + 1) runs in
    let later = numbered j y there in
    omega arith
  where
    eq_refl : (n : ℕ) → (n == n) ≡ true
    eq_refl n = grind arith

-- a run has one handle of a number
pub handle_one : (s : State) → IsWellFormed s → (r : RunId) (n : ℕ) → IsOne (λ handle. IsOneOf s.handles (IsHandleOf r n) handle)
handle_one s formed r n = record {
  one = λ x y a b.
      (let (i, at) = place_of s.handles x a.listed in
      let (j, there) = place_of s.handles y b.listed in
      let runs : x.run ≡ y.run = a.is.0 ∙ sym b.is.0 in
      let nums : x.num ≡ y.num = a.is.1 ∙ sym b.is.1 in
      let sides : (i < j) ⊎ ((i ≡ j) ⊎ (j < i)) = grind arith in
      elim sides [
        | inl less ↦ absurd (handle_before s.handles formed.numbered.handles i j x y at there runs nums less)
        | inr (inl same) ↦ (let both : Some x ≡ Some y = sym at ∙ ap (λ (k : ℕ). slice_get s.handles k) same ∙ there in cc)
        | inr (inr more) ↦ absurd (handle_before s.handles formed.numbered.handles j i y x there at (sym runs) (sym nums) more)
      ]);
}

shown_by_one : (t : Tables) (who : Option AccountId) (a b : Shown) → IsShownBy t who a → IsShownBy t who b → a ≡ b
shown_by_one t None a b x y = x ∙ sym y
shown_by_one t (Some u) a b (account, is, e) (other, there, f) =
    let same : account ≡ other = (let both : Some account ≡ Some other = sym is ∙ there in cc) in
    e ∙ ap (λ (row : Account). shown.Account u row.handle row.name) same ∙ sym f

shown_for_one : (t : Tables) (r : Root) (a b : Shown) → IsShownFor t r a → IsShownFor t r b → a ≡ b
shown_for_one t (root.Account u) a b x y = shown_by_one t (Some u) a b x y
shown_for_one t (root.Grant g) a b (who, face, x) (other, same, y) =
    let one : who ≡ other = (shown_one t g).one who other face same in
    shown_by_one t who a b x (subst (λ (w : Option AccountId). IsShownBy t w b) (sym one) y)

abbrev permit_of : RunId → GrainId → List (List ℕ) → Shown → Option TabMark → Permit
permit_of run grain names face tab = record { run = run; grain = grain; names = names; shown = face; tab = tab }

-- one permit
permit_one : (s : State) (standing : Standing) (run : Run) (a b : Permit) → IsPermit s standing run a → IsPermit s standing run b → a ≡ b
permit_one s standing run a b x y =
    let apps : x.app ≡ y.app = app_unique s.tables standing.grain x.app y.app x.is_app y.is_app in
    let held : x.held ≡ y.held = same_ascending x.held y.held x.access.ascends y.access.ascends (λ p. (
      λ c. (y.access.exact p).1 ((x.access.exact p).0 c),
      λ c. (x.access.exact p).1 ((y.access.exact p).0 c),
    )) in
    let runs : a.run ≡ b.run = x.run_is ∙ sym y.run_is in
    let grains : a.grain ≡ b.grain = x.grain_is ∙ sym y.grain_is in
    let names : a.names ≡ b.names = x.names_are ∙ ap (λ (app : App). names_at app x.held) apps ∙ ap (λ (held : List ℕ). names_at y.app held) held ∙ sym y.names_are in
    let faces : a.shown ≡ b.shown = shown_for_one s.tables standing.root a.shown b.shown x.shown_is y.shown_is in
    let tabs : a.tab ≡ b.tab = x.tab_is ∙ sym y.tab_is in
    ap (λ (r : RunId). permit_of r a.grain a.names a.shown a.tab) runs ∙ ap (λ (n : GrainId). permit_of b.run n a.names a.shown a.tab) grains
    ∙ ap (λ (names : List (List ℕ)). permit_of b.run b.grain names a.shown a.tab) names ∙ ap (λ (face : Shown). permit_of b.run b.grain b.names face a.tab) faces
    ∙ ap (λ (tab : Option TabMark). permit_of b.run b.grain b.names b.shown tab) tabs

goes_one : (s : State) (standing : Standing) (run : Run) → IsOne (Goes s standing run)
goes_one s standing run = record { one = λ v w x y. x.1 ∙ ap (λ (p : Permit). verdict.Forward p) (permit_one s standing run x.0 y.0 x.2 y.2) ∙ sym y.1 }

stands_one : (s : State) → IsWellFormed s → (standing : Standing) → IsOne (Stands s standing)
stands_one s formed standing = entry_one verdict.Deny s.tables _ (some_of_one (live_one s formed standing.grain) (λ run. goes_one s standing run))

end_one : (s : State) → IsWellFormed s → (g : GrantId) (grant : Grant) (end : Origin) → IsOne (VerdictAtEnd s g grant end)
end_one s formed g grant (origin.Account a) = stands_one s formed (behind_grant g grant)
end_one s formed g grant (origin.Site by tag item) = entry_one verdict.Deny s.tables _ (answers_one (verdict.Site tag item))

reaches_one : (s : State) → IsWellFormed s → (g : GrantId) → IsOne (Reaches s g)
reaches_one s formed g = record {
  one = λ v w (grant, end, is, on, x) (other, last, there, along, y).
      (let rows : grant ≡ other = (let both : Some grant ≡ Some other = sym is ∙ there in cc) in
      let ends : end ≡ last = (origin_one s.tables g).one end last on along in
      (end_one s formed g grant end).one v w x
      (subst (λ (e : Origin). VerdictAtEnd s g grant e w) (sym ends) (subst (λ (row : Grant). VerdictAtEnd s g row last w) (sym rows) y)));
}

-- ONE VERDICT on each key, in a well-formed state.
pub verdict_one : (s : State) → IsWellFormed s → (k : Key) → IsOne (IsVerdict s k)
verdict_one s formed (key.Session d) = some_of_one (key_one s formed d) (λ session. when_one (stands_one s formed _))
verdict_one s formed (key.Bearer d) = some_of_one (bearer_one s formed d) (λ grant. stands_one s formed _)
verdict_one s formed (key.Handle d n) =
    some_of_one (run_token_one s formed d) (λ run. unless_one (when_one (some_of_one (handle_one s formed run.num n) (λ handle. reaches_one s formed handle.grant))))
