-- The words that the definitions here speak in, each defined in the crate that its line names.
pub use Rattle.cloud_keeper.specs.Keeping.{Keeping, RowsFollow}
pub use Rattle.cloud_keeper.specs.declared.row.Row.{Row}
pub use Rattle.cloud_serve.specs.Acts.{added_by}
pub use Rattle.cloud_serve.specs.Collecting.{EndsWith}
pub use Rattle.cloud_serve.specs.Effects.{Came}
pub use Rattle.cloud_serve.specs.Served.{limit, Served, turns_in, Wired, with_book}
pub use Rattle.cloud_serve.specs.declared.{serve.ConnEnd.ConnEnd, serve.End.End, sharing.Collecting.Collecting}
pub use Rattle.command_line.specs.Words.{IsLine, tunnels_in}
pub use Rattle.desk_orders.specs.Secrets.{DrawsAll}
pub use Rattle.desk_orders.specs.declared.reply.{OrderFault.OrderFault, Reply.Reply}
pub use Rattle.first_account.specs.Drawn.{DrewOneAtMost, IsTokenOfNext}
pub use Rattle.first_account.specs.First.{first_tables}
pub use Rattle.front_http.specs.Stream.{Bad, Cut, Ending, IsStream, Requests}
pub use Rattle.grain_program.specs.Answering.{Prints}
pub use Rattle.grain_program.specs.Taking.{Takes}
pub use Rattle.grain_program.specs.declared.grain.GrainEnd.{GrainEnd}
pub use Rattle.hex.specs.Hex.{encode_lower}
pub use Rattle.host_base.specs.Drawing.{Coming, Drawer}
pub use Rattle.host_base.specs.InMemory.{is_at_end}
pub use Rattle.host_base.specs.Outside.{CountStands, Inlet, Outlet, Rose}
pub use Rattle.host_base.specs.declared.{digest.Digest.Digest, ids.AccountId.AccountId}
pub use Rattle.host_clock.specs.Ticking.{Ticks}
pub use Rattle.hub_core.specs.Book.{Backing, Book, CountsOn}
pub use Rattle.hub_core.specs.Opening.{AreLoaded, AreOfKeeper, HasBadRow, opened}
pub use Rattle.hub_core.specs.Sharing.{book_at}
pub use Rattle.hub_core.specs.Stopping.{OutliveStops}
pub use Rattle.hub_jobs.specs.Jobs.{DoneAtOnce}
pub use Rattle.report_desk.specs.Lines.{AreAccessLines, AreLossLines}
pub use Rattle.report_desk.specs.declared.holder.ReportLine.{ReportLine}
pub use Rattle.reply_texts.specs.Refusals.{command_body}
pub use Rattle.report_texts.specs.Lines.{access_text, preview_text, shared_text}
pub use Rattle.request_maker.specs.Generated.{generated}
pub use Rattle.row_tables.specs.Checks.{GivesTables, IsBadRow}
pub use Rattle.row_tables.specs.Kept.{AreRowsOf, IsStored}
pub use Rattle.row_tables.specs.TablesRows.{tables_of}
pub use Rattle.row_tables.specs.declared.stored.BadRow.{BadRow}
pub use Rattle.serve_door.specs.Doors.{Doorway, expecting, given_and_back, IsInOrder}
pub use Rattle.serve_door.specs.Working.{all_together, AreStaff, Post, Posts, together, with_handles, workers_at, WorksBoth}
pub use Rattle.serve_door.specs.declared.{serving.Stop.Stop, serving.Stopped.Stopped}
pub use Rattle.sha2.specs.Sha256.{sha256}
pub use Rattle.share_graph.specs.Checked.{IsChecked}
pub use Rattle.share_graph.specs.History.{replay}
pub use Rattle.share_graph.specs.Known.{HasGrain, HasGrant}
pub use Rattle.share_graph.specs.Rows.{IsAccount}
pub use Rattle.share_graph.specs.WellFormed.{IsWellFormed}
pub use Rattle.share_graph.specs.declared.{event.Event.Event, refusal.Refusal.Refusal, rows.Account.Account, state.State.State, state.Tables.Tables}
pub use Rattle.shared_hub.specs.Since.{HasKept, SpawnedSince}
pub use Rattle.site_caps.specs.Law.{Law}
pub use Rattle.small_book.specs.SmallBook.{small_book}
