-- That the changes of a command fit is proved along its row, check by check, with what each check has shown.
use Rattle.std.proofs.Common.{◌≡◌, Bool, true, false, List, None, sym, subst, inl, inr}
use Rattle.desk_base.specs.Terms.{Caller, Event, EventFits, found◌or◌then◌, Grant, IsBearerOf, IsOneOf, Made}
use Rattle.desk_base.specs.Terms.{must◌or◌then◌, Node, none, Refusal, some◌of◌or◌then◌, State, unless◌then◌else◌}
use Rattle.desk_base.specs.Terms.{when◌then◌else◌}
use Rattle.share_graph.specs.declared.refusal.Refusal.TheVariants.{Denied}
use Rattle.desk_base.specs.Fitting.{ChangeFits, RowFits, StartsNoRun}
use Rattle.desk_base.specs.Limits.{limit_at, adds}
use Rattle.desk_base.specs.Steps.{Step, Refuses, Keeps, Makes, Change, Plain, refusing}
use Rattle.desk_base.specs.Wording.{secret_of, by_bearer, access◌of◌then◌, keeps◌of◌showing◌else◌}

-- the step is no change
abbrev pub IsEnd : Step → Type 0
IsEnd (Makes change made) = ⊥
IsEnd (Refuses r) = Unit {0}
IsEnd (Keeps made) = Unit {0}

no_end : (step : Step) (change : Change) (made : Made) → IsEnd step → Makes change made ≡ step → ⊥
no_end (Makes c m) change made end same = end
no_end (Refuses r) change made end same = cc
no_end (Keeps m) change made end same = cc

adds_cases : (s : State) (draws : Bool) (change : Change) (made : Made) → (limit_at s (Makes change made) ≡ None → ChangeFits s draws change) → (c : Change) (m : Made)
    → adds s (Makes change made) (Makes c m) → ChangeFits s draws c
adds_cases s draws change made fits c m (inl (r, same, over)) = absurd (no_end (Refuses r) c m tt same)
adds_cases s draws change made fits c m (inr (same, room)) = let e : c ≡ change = cc in subst (ChangeFits s draws) (sym e) (fits room)

module _ (s : State) {draws : Bool} where
  when_cases : (P : Type 0) (step : Step) (Rest : Step → Type 0) → IsEnd step → ((P → ⊥) → RowFits s draws Rest) → (change : Change) (made : Made)
      → (when P then step else Rest) (Makes change made) → ChangeFits s draws change
  when_cases P step Rest end rest change made (inl (same, p)) = absurd (no_end step change made end same)
  when_cases P step Rest end rest change made (inr (never, is)) = (rest never).fits change made is

  pub when_fits : {P : Type 0} {step : Step} {Rest : Step → Type 0} → IsEnd step → ((P → ⊥) → RowFits s draws Rest) → RowFits s draws (when P then step else Rest)
  when_fits {P} {step} {Rest} end rest = record { fits = when_cases P step Rest end rest }

  unless_cases : (P : Type 0) (step : Step) (Rest : Step → Type 0) → IsEnd step → (P → RowFits s draws Rest) → (change : Change) (made : Made)
      → (unless P then step else Rest) (Makes change made) → ChangeFits s draws change
  unless_cases P step Rest end rest change made (inl (same, never)) = absurd (no_end step change made end same)
  unless_cases P step Rest end rest change made (inr (p, is)) = (rest p).fits change made is

  pub unless_fits : {P : Type 0} {step : Step} {Rest : Step → Type 0} → IsEnd step → (P → RowFits s draws Rest) → RowFits s draws (unless P then step else Rest)
  unless_fits {P} {step} {Rest} end rest = record { fits = unless_cases P step Rest end rest }

  must_cases : (P : Type 0) (T : Refusal → Type 0) (Rest : Step → Type 0) → (P → RowFits s draws Rest) → (change : Change) (made : Made)
      → (must P or refusing T then Rest) (Makes change made) → ChangeFits s draws change
  must_cases P T Rest rest change made (inl (r, same, t)) = absurd (no_end (Refuses r) change made tt same)
  must_cases P T Rest rest change made (inr (p, is)) = (rest p).fits change made is

  pub must_fits : {P : Type 0} {T : Refusal → Type 0} {Rest : Step → Type 0} → (P → RowFits s draws Rest) → RowFits s draws (must P or refusing T then Rest)
  must_fits {P} {T} {Rest} rest = record { fits = must_cases P T Rest rest }

  found_cases : {X : Type 0} (P : X → Type 0) (step : Step) (Rest : X → Step → Type 0) → IsEnd step → ((x : X) → P x → RowFits s draws (Rest x)) → (change : Change) (made : Made)
      → (found P or none P step then Rest) (Makes change made) → ChangeFits s draws change
  found_cases P step Rest end rest change made (inl (same, never)) = absurd (no_end step change made end same)
  found_cases P step Rest end rest change made (inr (x, p, is)) = (rest x p).fits change made is

  pub found_fits : {X : Type 0} {P : X → Type 0} {step : Step} {Rest : X → Step → Type 0} → IsEnd step → ((x : X) → P x → RowFits s draws (Rest x)) → RowFits s draws (found P or none P step then Rest)
  found_fits {X} {P} {step} {Rest} end rest = record { fits = found_cases P step Rest end rest }

  some_cases : {X : Type 0} (P : X → Type 0) (rows : List X) (step : Step) (Rest : X → Step → Type 0) → IsEnd step → ((x : X) → IsOneOf rows P x → RowFits s draws (Rest x))
      → (change : Change) (made : Made) → (some P of rows or step then Rest) (Makes change made) → ChangeFits s draws change
  some_cases P rows step Rest end rest change made (inl (same, never)) = absurd (no_end step change made end same)
  some_cases P rows step Rest end rest change made (inr (x, p, is)) = (rest x p).fits change made is

  pub some_fits : {X : Type 0} {P : X → Type 0} {rows : List X} {step : Step} {Rest : X → Step → Type 0} → IsEnd step → ((x : X) → IsOneOf rows P x → RowFits s draws (Rest x))
      → RowFits s draws (some P of rows or step then Rest)
  some_fits {X} {P} {rows} {step} {Rest} end rest = record { fits = some_cases P rows step Rest end rest }

  pub adds_fits : (change : Change) (made : Made) → (limit_at s (Makes change made) ≡ None → ChangeFits s draws change) → RowFits s draws (adds s (Makes change made))
  adds_fits change made fits = record { fits = adds_cases s draws change made fits }

  -- a change that comes after the test of entry
  access_cases : (at : Node) (Rest : Step → Type 0) → RowFits s draws Rest → (change : Change) (made : Made) → (access at of s then Rest) (Makes change made) → ChangeFits s draws change
  access_cases at Rest rest change made (inl (reason, same, missing)) = absurd (no_end (Refuses (Denied reason)) change made tt same)
  access_cases at Rest rest change made (inr (held, is)) = rest.fits change made is

  pub access_fits : {at : Node} {Rest : Step → Type 0} → RowFits s draws Rest → RowFits s draws (access at of s then Rest)
  access_fits {at} {Rest} rest = record { fits = access_cases at Rest rest }

  -- a change that comes where no row of a list is so
  keeps_cases : {X : Type 0} (P : X → Type 0) (rows : List X) (shown : X → Made) (Rest : Step → Type 0) → RowFits s draws Rest → (change : Change) (made : Made)
      → (keeps P of rows showing shown else Rest) (Makes change made) → ChangeFits s draws change
  keeps_cases P rows shown Rest rest change made (inl (x, same, first)) = absurd (no_end (Keeps (shown x)) change made tt same)
  keeps_cases P rows shown Rest rest change made (inr (none, is)) = rest.fits change made is

  pub keeps_fits : {X : Type 0} {P : X → Type 0} {rows : List X} {shown : X → Made} {Rest : Step → Type 0} → RowFits s draws Rest → RowFits s draws (keeps P of rows showing shown else Rest)
  keeps_fits {X} {P} {rows} {shown} {Rest} rest = record { fits = keeps_cases P rows shown Rest rest }

  pub bearer_fits : (who : Caller) {Rest : Grant → Step → Type 0} → ((grant : Grant) → IsOneOf s.tables.grants (IsBearerOf (secret_of who)) grant → RowFits s draws (Rest grant)) → RowFits s draws (by_bearer s who Rest)
  bearer_fits who rest =
      some_fits tt λ grant is.
      access_fits (rest grant is)

  -- no change is made where there is no step
  pub none_fits : RowFits s draws (λ step. ⊥)
  none_fits = record { fits = λ change made never. absurd never }

-- a change without a secret
pub plain_adds : (s : State) (e : Event) → StartsNoRun e → (made : Made) → (limit_at s (Makes (Plain e) made) ≡ None → EventFits s e) → RowFits s false (adds s (Makes (Plain e) made))
plain_adds s e quiet made fits = adds_fits s (Plain e) made λ room. (fits room, quiet)

-- which changes fit, by whether the command draws
pub plain_fits : (s : State) (draws : Bool) (e : Event) → ChangeFits s draws (Plain e) → EventFits s e
plain_fits s false e is = is.0
plain_fits s true e is = absurd is

pub plain_starts_none : (s : State) (draws : Bool) (e : Event) → ChangeFits s draws (Plain e) → StartsNoRun e
plain_starts_none s false e is = is.1
plain_starts_none s true e is = absurd is
