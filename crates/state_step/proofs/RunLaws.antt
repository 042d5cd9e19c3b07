-- A run that is started or stopped leaves a well-formed state so.
use Rattle.std.proofs.Common.{◌≡◌, ◌∙◌, List, [], ◌∷◌, ◌++◌, All, Contains, Option, Some, None, refl, sym, ap, subst, inl, inr}
use Rattle.std.proofs.lemmas.Bool.{false≢true}
use Rattle.std.proofs.lemmas.List.Elements.{All-push, Contains-append_left}
use Rattle.host_base.specs.declared.ids.GrainId.{GrainId}
use Rattle.host_base.specs.declared.ids.RunId.{RunId}
use Rattle.share_graph.specs.declared.event.Event.TheVariants as event
use Rattle.share_graph.specs.declared.fault.Kind.TheVariants as kind
use Rattle.share_graph.specs.declared.grants.Target.TheVariants as target
use Rattle.share_graph.specs.declared.sessions.Handle.{Handle}
use Rattle.share_graph.specs.declared.sessions.Run.{Run}
use Rattle.share_graph.specs.declared.state.State.{State}
use Rattle.share_graph.specs.Changing.{change_row}
use Rattle.share_graph.specs.EventFits.{EventFits}
use Rattle.share_graph.specs.Keys.{IsNoneOf, IsLiveRun}
use Rattle.share_graph.specs.Kinds.{KnownDigest, IsUnused}
use Rattle.share_graph.specs.Known.{HasGrain}
use Rattle.share_graph.specs.Rows.{IsRun}
use Rattle.share_graph.specs.Setting.{stopped}
use Rattle.share_graph.specs.WellFormed.{IsRootedHandle, AreNumbered, HaveOneLiveRun, IsWellFormed}
use Rattle.share_graph.proofs.Apart.{logins, tokens, references, keys, run_tokens}
use Rattle.share_graph.proofs.Contained.{contains_at}
use Rattle.state_step.specs.NewRows.{IsNewRun}
use Rattle.state_step.proofs.Digests.{Adds, adds_none, adds_pushed, apart_after, one_unused, none_unused}
use Rattle.state_step.proofs.Each.{push_cases, all_from_each, each_from_all, numbered_pushed}
use Rattle.state_step.proofs.Touched.{IsSameOr, AreTouched, change_row_touches, touched_from, touched_listed, same_key, each_touched, numbered_touched, map_touched}

abbrev with_runs : State → List Run → State
with_runs s runs = record s { runs = runs }

-- the digest of a run's token, with its number
abbrev run_token_of : Run → KnownDigest
run_token_of run = record { kind = kind.Run; num = run.num.0; digest = run.digest }

-- The runs may come next in the state: with one token more, which was unused, or with none.
record AreNextRuns (s : State) (runs : List Run) (added : Option KnownDigest) : Type 0 where
  there : (x : Run) → Contains s.runs x → (y : Run) × Contains runs y × (y.num ≡ x.num) × (y.grain ≡ x.grain)
  numbered : AreNumbered (λ (run : Run). run.num.0) runs
  live : HaveOneLiveRun runs
  grains : All (λ (run : Run). HasGrain s.tables run.grain) runs
  adds : Adds added (run_tokens s) (run_tokens (with_runs s runs))
  unused : (e : KnownDigest) → added ≡ Some e → IsUnused s e.digest

-- a handle's run is there again
still_rooted : (s : State) (runs : List Run) → ((x : Run) → Contains s.runs x → (y : Run) × Contains runs y × (y.num ≡ x.num) × (y.grain ≡ x.grain)) → (handle : Handle) → IsRootedHandle s handle → IsRootedHandle (with_runs s runs) handle
still_rooted s runs there handle is =
    let (y, listed, num, grain) = there is.run is.is_run.listed in
    record {
      run = y;
      grant = is.grant;
      is_run = record { listed = listed; is = num ∙ is.is_run.is };
      is_grant = is.is_grant;
      claimed = is.claimed ∙ ap (λ (n : GrainId). target.Grain n) (sym grain);
    }

-- the state with them is well formed
next_runs : (s : State) → IsWellFormed s → (runs : List Run) (added : Option KnownDigest) → AreNextRuns s runs added → IsWellFormed (with_runs s runs)
next_runs s formed runs added next = record {
  tables = formed.tables;
  limits = formed.limits;
  numbered = record {
    accounts = formed.numbered.accounts;
    apps = formed.numbered.apps;
    grains = formed.numbered.grains;
    grants = formed.numbered.grants;
    saved = formed.numbered.saved;
    sessions = formed.numbered.sessions;
    runs = next.numbered;
    handles = formed.numbered.handles;
  };
  apart = apart_after added s (with_runs s runs) formed.apart next.unused (record {
    accounts = adds_none added (logins s) (logins s) refl;
    grants = adds_none added (tokens s) (tokens s) refl;
    saved = adds_none added (references s) (references s) refl;
    sessions = adds_none added (keys s) (keys s) refl;
    runs = next.adds;
  });
  live = next.live;
  rooted = record {
    sessions = formed.rooted.sessions;
    runs = next.grains;
    handles = λ k d less. still_rooted s runs next.there _ (formed.rooted.handles k d less);
  };
}

-- a run of a grain that has no live one
one_live_pushed : (runs : List Run) (run : Run) → HaveOneLiveRun runs → IsNoneOf runs (IsLiveRun run.grain) → HaveOneLiveRun (runs ++ run ∷ [])
one_live_pushed runs run one alone n i j a b at there live also = elim (push_cases runs run i a at) [
  | inl (below, old) ↦ elim (push_cases runs run j b there) [
    | inl (less, was) ↦ one n i j a b old was live also
    | inr (last, new) ↦ absurd (alone a (contains_at runs i a old) (live.0 ∙ sym also.0 ∙ sym (ap (λ (r : Run). r.grain) new), live.1))
  ]
  | inr (end, new) ↦ elim (push_cases runs run j b there) [
    | inl (less, old) ↦ absurd (alone b (contains_at runs j b old) (also.0 ∙ sym live.0 ∙ sym (ap (λ (r : Run). r.grain) new), also.1))
    | inr (last, was) ↦ end ∙ sym last
  ]
]

-- a run that is live among runs of which some were stopped was live
was_live : (n : GrainId) (x y : Run) → IsSameOr stopped x y → IsLiveRun n y → x ≡ y
was_live n x y (inl same) live = same
was_live n x y (inr changed) live = absurd (false≢true (sym live.1 ∙ sym (ap (λ (r : Run). r.stopped) changed)))

-- so a grain has one live run at the most where some are stopped
one_live_touched : (runs more : List Run) → AreTouched stopped runs more → HaveOneLiveRun runs → HaveOneLiveRun more
one_live_touched runs more touched one n i j a b at there live also =
    let (x, was, from) = touched_from stopped runs more touched i a at in
    let (y, were, of) = touched_from stopped runs more touched j b there in
    one n i j x y was were (subst (IsLiveRun n) (sym (was_live n x a from live)) live) (subst (IsLiveRun n) (sym (was_live n y b of also)) also)

-- a new run fits
pub run_started_fits : (s : State) → IsWellFormed s → (run : Run) → IsNewRun s run → EventFits s (event.RunStarted run)
run_started_fits s formed run new = record {
  changed = tt;
  formed = next_runs s formed (s.runs ++ run ∷ []) (Some (run_token_of run)) (record {
    there = λ x listed. (x, Contains-append_left s.runs (run ∷ []) x listed, refl, refl);
    numbered = numbered_pushed (λ (x : Run). x.num.0) s.runs run formed.numbered.runs new.num;
    live = one_live_pushed s.runs run formed.live new.alone;
    grains = All-push (λ (x : Run). HasGrain s.tables x.grain) s.runs run formed.rooted.runs new.grain;
    adds = adds_pushed run_token_of s.runs run;
    unused = one_unused s (run_token_of run) new.unused;
  });
}

-- a run that is there may be stopped
pub run_stopped_fits : (s : State) → IsWellFormed s → (r : RunId) → (run : Run) × IsRun s r run → EventFits s (event.RunStopped r)
run_stopped_fits s formed r there =
    let xs = s.runs in
    let ys = change_row stopped s.runs r.0 in
    let touched : AreTouched stopped xs ys = change_row_touches stopped xs r.0 in
    record {
      changed = there;
      formed = next_runs s formed ys None (record {
        there = λ x listed. (let (y, again, same) = touched_listed stopped xs ys touched x listed in
            (y, again, same_key stopped (λ (z : Run). z.num) (λ z. refl) x y same, same_key stopped (λ (z : Run). z.grain) (λ z. refl) x y same));
        numbered = numbered_touched stopped (λ (x : Run). x.num.0) (λ x. refl) xs ys touched formed.numbered.runs;
        live = one_live_touched xs ys touched formed.live;
        grains = all_from_each (λ (x : Run). HasGrain s.tables x.grain) ys
            (each_touched stopped (λ k (x : Run). HasGrain s.tables x.grain) (λ k x is. is) xs ys touched (each_from_all (λ (x : Run). HasGrain s.tables x.grain) xs formed.rooted.runs));
        adds = adds_none None (run_tokens s) _ (map_touched stopped run_token_of (λ x. refl) xs ys touched);
        unused = none_unused s;
      });
    }
