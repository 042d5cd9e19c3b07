-- Requests that were made and served over memory.
use Rattle.std.proofs.Common.{◌≡◌, ◌∙◌, ℕ, List, [], Some, ap}
use Rattle.host_base.specs.CallCounts.{CallCounts}
use Rattle.host_base.specs.InMemory.{MemInput, MemOutput, is_at_end}
use Rattle.host_base.specs.Outside.{Inlet, Outlet}
use Rattle.grain_supervise.specs.Line.{Line}
use Rattle.cloud_serve.specs.Served.{Wired}
use Rattle.admin_run.specs.Making.{over_memory}

-- what a source and a sink in memory tell
abbrev pub told_in : MemInput → Inlet
told_in s = record { faults = s.count.faults; ended = is_at_end s.left; left = Some s.left; whole = Some s.whole }

abbrev pub told_out : MemOutput → Outlet
told_out s = record { faults = s.count.faults; written = Some s.written }

abbrev all_left : List ℕ → Inlet
all_left bytes = record { faults = 0; ended = is_at_end bytes; left = Some bytes; whole = Some bytes }

abbrev nothing_written : Outlet
nothing_written = record { faults = 0; written = Some [] }

abbrev outlet_by : CallCounts → List ℕ → Outlet
outlet_by count written = record { faults = count.faults; written = Some written }

abbrev fresh_count : List ℕ → CallCounts
fresh_count fails = record { calls = 0; faults = 0; listed = fails }

abbrev pub the_wire : Inlet → Outlet → Line → Wired
the_wire inlet outlet line = record { inlet = inlet; outlet = outlet; line = line }

-- a source of bytes and a sink in memory, new, are a connection over memory
pub over_memory_is : (input : MemInput) (output : MemOutput) (line : Line) (text fails fails' bytes : List ℕ) (most : ℕ) → text ≡ bytes → input ≡ record { whole = text; left = text; most = most; count = fresh_count fails }
    → output.written ≡ [] → output.count ≡ fresh_count fails' → the_wire (told_in input) (told_out output) line ≡ over_memory bytes line
over_memory_is input output line text fails fails' bytes most text_is input_is unwritten uncounted =
    let inlet_is : told_in input ≡ all_left bytes = ap told_in input_is ∙ ap all_left text_is in
    let outlet_is : told_out output ≡ nothing_written = ap (outlet_by output.count) unwritten ∙ ap (λ (c : CallCounts). outlet_by c []) uncounted in
    ap (λ (i : Inlet). the_wire i (told_out output) line) inlet_is ∙ ap (λ (o : Outlet). the_wire (all_left bytes) o line) outlet_is
