-- An aid of proofs: the test of one run.
use Rattle.std.specs.Prelude.{All, Bool, true, false, List}
use Rattle.host_base.specs.declared.ids.GrainId.{GrainId}
use Rattle.share_graph.specs.declared.sessions.Run.{Run}
use Rattle.share_graph.specs.Keys.{IsLiveRun}

-- a run is stopped, or none of the earlier ones is a live one of its grain
abbrev pub IsFirstLive : List Run → GrainId → Bool → Type 0
IsFirstLive earlier n true = Unit {0}
IsFirstLive earlier n false = All (λ run. IsLiveRun n run → ⊥) earlier
