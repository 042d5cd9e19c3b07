-- Which run calls, and what of a grain's own it names: what each test establishes, and its refusals.
use Rattle.std.specs.Prelude.{◌≡◌, ◌⊎◌, true}
use Rattle.desk_base.specs.Terms.{Digest, GrainId, Grant, HasRunToken, IsNoneOf, IsOneOf, none, Refusal, Run, Saved}
use Rattle.desk_base.specs.Terms.{State, Tables}
use Rattle.host_base.specs.declared.verdict.Denial.TheVariants.{UnknownKey, GrainTrashed, GrainStopped, NotHolder}
use Rattle.share_graph.specs.declared.refusal.Refusal.TheVariants.{Denied}
use Rattle.share_graph.specs.Keys.{HasReference}
use Rattle.share_graph.specs.Rows.{IsKept}
use Rattle.saved_refs.specs.Rows.{IsClaim}

-- the caller is this run, which isn't stopped, and whose grain isn't in the trash
pub record IsCallingRun (s : State) (d : Digest) (run : Run) : Type 0 where
  pub one : IsOneOf s.runs (HasRunToken d) run
  pub kept : IsKept s.tables run.grain
  pub live : run.stopped ≡ true → ⊥

-- the caller is no run, or one of a grain in the trash, or a stopped one
abbrev pub IsNoCallingRun : State → Digest → Refusal → Type 0
IsNoCallingRun s d r =
    ((r ≡ Denied UnknownKey) × IsNoneOf s.runs (HasRunToken d))
    ⊎ (((run : Run) × (r ≡ Denied (GrainTrashed run.grain)) × IsOneOf s.runs (HasRunToken d) run × (IsKept s.tables run.grain → ⊥))
    ⊎ ((run : Run) × (r ≡ Denied (GrainStopped run.grain)) × IsOneOf s.runs (HasRunToken d) run × IsKept s.tables run.grain × (run.stopped ≡ true)))

-- the saved reference has the token, and is the grain's
pub record IsReferenceOf (t : Tables) (d : Digest) (n : GrainId) (saved : Saved) : Type 0 where
  pub one : IsOneOf t.saved (HasReference d) saved
  pub holder : saved.holder ≡ n

-- no saved reference has the token, or one of another grain has it
abbrev pub IsNoReferenceOf : Tables → Digest → GrainId → Refusal → Type 0
IsNoReferenceOf t d n r =
    ((r ≡ Denied UnknownKey) × IsNoneOf t.saved (HasReference d))
    ⊎ ((saved : Saved) × (r ≡ Denied (NotHolder saved.holder)) × IsOneOf t.saved (HasReference d) saved × (saved.holder ≡ n → ⊥))

-- no grant that may be claimed has the token, or one for another grain has it
abbrev pub IsNoClaimBy : Tables → Digest → GrainId → Refusal → Type 0
IsNoClaimBy t d n r =
    none (IsClaim t d) (Denied UnknownKey) r
    ⊎ ((claim : Grant × GrainId) × (r ≡ Denied (NotHolder claim.1)) × IsClaim t d claim × (claim.1 ≡ n → ⊥))
