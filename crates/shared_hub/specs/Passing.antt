-- What a desk tells that decides by a pass.
use Rattle.std.specs.Prelude.{false, None}
use Rattle.host_base.specs.declared.verdict.Verdict.{Verdict}
use Rattle.share_graph.specs.declared.event.Event.{Event}
use Rattle.share_graph.specs.declared.state.State.{State}
use Rattle.site_caps.specs.Law.{Law}
use Rattle.hub_core.specs.Book.{Book}
use Rattle.epoch_gate.specs.Passes.{Passing}

-- What the pass has seen, how many of its own orders were accepted, and how many met faults. The rows, the secrets to come
-- and the runs are others' too, so nothing is told of them.
abbrev pub book_by : Law → State → Passing Event Verdict → Book
book_by law start pass = record {
  law = law;
  start = start;
  seen = pass.seen;
  accepted = pass.orders;
  holds = record {
    keeping = record { faults = pass.faults.store; clean = false; rows = None };
    drawer = record { faults = pass.faults.secrets; coming = None };
    spawns = record { faults = pass.faults.starts; starts = None; stops = None };
  };
}
