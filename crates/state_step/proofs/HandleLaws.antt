-- A handle that is made, and a grant that a grain claims with the handle to it, leave a well-formed state so.
use Rattle.std.proofs.Common.{◌≡◌, ◌==◌, ◌≤◌, ◌+◌, ◌∙◌, ℕ, List, [], ◌∷◌, ◌++◌, Some, count_by, length, take, sym, ap, subst, arith, inl, inr}
use Rattle.std.proofs.lemmas.List.{take-append-le}
use Rattle.std.proofs.lemmas.List.Elements.{All-push, All-weaker}
use Rattle.std.proofs.Math.Seq.{take-append_seam}
use Rattle.host_base.specs.declared.ids.GrantId.{GrantId}
use Rattle.share_graph.specs.declared.event.Event.TheVariants as event
use Rattle.share_graph.specs.declared.grants.Grant.{Grant}
use Rattle.share_graph.specs.declared.sessions.Handle.{Handle}
use Rattle.share_graph.specs.declared.state.State.{State}
use Rattle.share_graph.specs.EventFits.{EventFits}
use Rattle.share_graph.specs.Rows.{row}
use Rattle.share_graph.specs.WellFormed.{IsRootedHandle, AreNumberedByRun, IsWellFormed}
use Rattle.share_graph.proofs.Contained.{row_after}
use Rattle.state_step.specs.NewRows.{handles_of, IsNewHandle, IsNewClaim}
use Rattle.state_step.proofs.Each.{push_cases}
use Rattle.state_step.proofs.GrantLaws.{with_new_grant}
use Rattle.state_step.proofs.NextTables.{with_tables}
use Rattle.state_step.proofs.LastPlace.{last_place}

-- the handles of a handle's run in a list
abbrev before : List Handle → Handle → ℕ
before handles handle = count_by (λ (other : Handle). other.run.0 == handle.run.0) handles

-- handles are numbered by their runs where the next has the next number of its run
numbered_by_run_pushed : (handles : List Handle) (handle : Handle) → AreNumberedByRun handles → handle.num ≡ handles_of handles handle + 1 → AreNumberedByRun (handles ++ handle ∷ [])
numbered_by_run_pushed handles handle numbered next i x is = elim (push_cases handles handle i x is) [
  | inl (less, there) ↦ (
      let upto : i ≤ length handles = omega arith in
      numbered i x there ∙ ap (λ (hs : List Handle). before hs x + 1) (sym (take-append-le i handles (handle ∷ []) upto)))
  | inr (last, same) ↦ (
      let all : take i (handles ++ handle ∷ []) ≡ handles = rw last (take-append_seam handles (handle ∷ [])) in
      subst (λ (y : Handle). y.num ≡ before (take i (handles ++ handle ∷ [])) y + 1) same (next ∙ ap (λ (hs : List Handle). before hs handle + 1) (sym all)))
]

abbrev with_handle : State → Handle → State
with_handle s handle = record s { handles = s.handles ++ handle ∷ [] }

-- the handles that were there are rooted as before
still_rooted : (s : State) (handle other : Handle) → IsRootedHandle s other → IsRootedHandle (with_handle s handle) other
still_rooted s handle other is = record { run = is.run; grant = is.grant; is_run = is.is_run; is_grant = is.is_grant; claimed = is.claimed }

-- the state with a new handle is well formed
with_new_handle : (s : State) → IsWellFormed s → (handle : Handle) → IsNewHandle s handle → IsWellFormed (with_handle s handle)
with_new_handle s formed handle new = record {
  tables = formed.tables;
  limits = formed.limits;
  numbered = record {
    accounts = formed.numbered.accounts;
    apps = formed.numbered.apps;
    grains = formed.numbered.grains;
    grants = formed.numbered.grants;
    saved = formed.numbered.saved;
    sessions = formed.numbered.sessions;
    runs = formed.numbered.runs;
    handles = numbered_by_run_pushed s.handles handle formed.numbered.handles new.num;
  };
  apart = record { one = formed.apart.one };
  live = formed.live;
  rooted = record {
    sessions = formed.rooted.sessions;
    runs = formed.rooted.runs;
    handles = All-weaker (IsRootedHandle s) (IsRootedHandle (with_handle s handle)) (still_rooted s handle) (s.handles ++ handle ∷ [])
        (All-push (IsRootedHandle s) s.handles handle formed.rooted.handles new.rooted);
  };
}

-- a new handle fits
pub handle_made_fits : (s : State) → IsWellFormed s → (handle : Handle) → IsNewHandle s handle → EventFits s (event.HandleMade handle)
handle_made_fits s formed handle new = record { changed = tt; formed = with_new_handle s formed handle new }

-- the new grant is the row of its number
new_row : (grants : List Grant) (grant : Grant) (g : GrantId) → g ≡ grant.num → grant.num.0 ≡ length grants + 1 → row (grants ++ grant ∷ []) g.0 ≡ Some grant
new_row grants grant g names num =
    let at : g.0 ≡ length grants + 1 = ap (λ (h : GrantId). h.0) names ∙ num in
    rw at (row_after (grants ++ grant ∷ []) (length grants) grant (last_place grants grant))

-- a new claim fits
pub claimed_fits : (s : State) → IsWellFormed s → (grant : Grant) (handle : Handle) → IsNewClaim s grant handle → EventFits s (event.Claimed grant handle)
claimed_fits s formed grant handle new =
    let u : State = with_tables s (record s.tables { grants = s.tables.grants ++ grant ∷ [] }) in
    record {
      changed = tt;
      formed = with_new_handle u (with_new_grant s formed grant new.new_grant) handle (record {
        num = new.num;
        rooted = record {
          run = new.run;
          grant = grant;
          is_run = new.is_run;
          is_grant = new_row s.tables.grants grant handle.grant new.names new.new_grant.num;
          claimed = new.target;
        };
      });
    }
