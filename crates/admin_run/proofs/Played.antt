-- One connection that was served from the small book by a desk of one's own.
use Rattle.std.proofs.Common.{◌≡◌, ℕ, List, [], Option, sym, subst, arith}
use Rattle.host_base.specs.Outside.{Inlet, Outlet}
use Rattle.grain_supervise.specs.Line.{Line}
use Rattle.serve_door.specs.Doors.{Doorway}
use Rattle.share_graph.specs.declared.state.State.{State}
use Rattle.share_graph.specs.History.{replay}
use Rattle.cloud_serve.specs.declared.serve.ConnEnd.{ConnEnd}
use Rattle.cloud_serve.specs.declared.serve.End.{End}
use Rattle.cloud_serve.specs.declared.serve.End.TheVariants as end
use Rattle.cloud_serve.specs.Served.{Wired, Served, with_book}
use Rattle.site_caps.specs.Law.{Law}
use Rattle.hub_core.specs.Book.{Backing}
use Rattle.hub_core.specs.Sharing.{Sharing, book_of}
use Rattle.row_tables.specs.Kept.{IsStored}
use Rattle.small_book.specs.SmallBook.{small_book}
use Rattle.admin_run.specs.Connection.{ServesBook, book_with}
use Rattle.admin_run.specs.Outside.{Outside}
use Rattle.admin_run.specs.Statuses.{status_by}

-- what the program's objects tell, one by one
abbrev pub the_world : Inlet → Outlet → Line → Backing → Option (List ℕ) → Doorway → Doorway → Outside
the_world inlet outlet line holds moments doorway hallway =
    record { inlet = inlet; outlet = outlet; line = line; holds = holds; moments = moments; doorway = doorway; hallway = hallway }

-- no end of a connection has the status of a keeper's fault
pub not_nine : (e : End) → status_by e ≡ 9 → ⊥
not_nine end.Done is = omega (arith, is)
not_nine (end.Refused status at) is = omega (arith, is)
not_nine end.ReadFault is = omega (arith, is)
not_nine end.WriteFault is = omega (arith, is)
not_nine (end.CutOff n) is = omega (arith, is)
not_nine end.Memory is = omega (arith, is)
not_nine end.Spent is = omega (arith, is)

module _ {K : Type 0} (law : Law) (wire wire' : Wired) (old new : Backing) (e : ConnEnd) where
  -- it ended with this desk
  abbrev Ends : Sharing K → Type 0
  Ends desk = Served (with_book wire (book_with law [] old)) (with_book wire' (book_of law desk)) e.end e.from e.places e.served e.forwarded

  abbrev pub serves_book : (desk desk' : Sharing K) (keeper : K) → desk ≡ record { start = small_book; history = []; holds = old; keeper = keeper } → new ≡ desk'.holds
      → Served (with_book wire (book_of law desk)) (with_book wire' (book_of law desk')) e.end e.from e.places e.served e.forwarded
      → IsStored new.keeping (replay desk'.start desk'.history).tables → ServesBook law wire wire' old new
  serves_book desk desk' keeper fresh back s stored =
      let begun : Ends desk' = subst (λ (x : Sharing K). Served (with_book wire (book_of law x)) (with_book wire' (book_of law desk')) e.end e.from e.places e.served e.forwarded) fresh s in
      let same_start = begun.ordered_of.later.start in
      let started : Ends (record desk' { start = small_book }) = subst (λ (x : State). Ends (record desk' { start = x })) same_start begun in
      let one : Ends (record desk' { start = small_book; holds = new }) = subst (λ (x : Backing). Ends (record desk' { start = small_book; holds = x })) (sym back) started in
      record {
        end = e;
        history = desk'.history;
        headline = one;
        written = one.ordered_of.alone (omega (arith, one.ordered_of.accepted));
        stored = subst (λ (x : State). IsStored new.keeping (replay x desk'.history).tables) same_start stored;
      }
