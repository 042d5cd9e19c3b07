-- The words that the definitions here speak in, each defined in the crate that its line names.
pub use Rattle.bridge_headers.specs.Relay.{Relays}
pub use Rattle.bridge_headers.specs.Text.{grain_text}
pub use Rattle.bridge_headers.specs.declared.fault.RelayFault.{RelayFault}
pub use Rattle.cloud_serve.specs.declared.{serve.End.End, sharing.Collecting.Collecting, showing.Showing.Showing, turn.Answered.Answered}
pub use Rattle.desk_bodies.specs.Bodies.{account_body, after_body, child_body, choose_body, claim_body, collect_body, grain_body, grant_body, manifest_body, mark_body, plain_body, query_body, redeem_body, save_body, share_body, tab_body, token_body, why_body}
pub use Rattle.desk_bodies.specs.declared.fault.BodyFault.{BodyFault}
pub use Rattle.desk_orders.specs.Commands.{Asked}
pub use Rattle.desk_orders.specs.Secrets.{DrawsAll}
pub use Rattle.desk_orders.specs.declared.{order.Command.Command, reply.Listing.Listing, reply.OrderFault.OrderFault, reply.Reply.Reply}
pub use Rattle.desk_page.specs.Page.{desk_page_text}
pub use Rattle.front_http.specs.Reading.{IsRemaining, Reading}
pub use Rattle.front_http.specs.Routes.{IsRoute, IsUse}
pub use Rattle.front_http.specs.Stream.{Bad, Cut, Done, Ending, IsStream, Last, Requests}
pub use Rattle.front_http.specs.declared.{fault.FrontFault.FrontFault, refusal.Refusal.Refusal, route.Route.Route}
pub use Rattle.grain_supervise.specs.Line.{Line}
pub use Rattle.grain_supervise.specs.declared.{ask.Ask.Ask, start.Start.Start}
pub use Rattle.host_base.specs.Outside.{Grew, Inlet, Outlet, Rose}
pub use Rattle.host_base.specs.declared.{bytes.Memory.Memory, digest.Digest.Digest, ids.AccountId.AccountId, ids.AppId.AppId, ids.GrainId.GrainId, ids.GrantId.GrantId, ids.RunId.RunId, key.Key.Key, permit.Permit.Permit, request.Request.Request, verdict.Verdict.Verdict}
pub use Rattle.hub_core.specs.Book.{Book, Judged, Later, Placed}
pub use Rattle.hub_core.specs.Spawning.{starts_by, stops_by, token_of, WasTold}
pub use Rattle.listings.specs.declared.asking.Subject.{Subject}
pub use Rattle.reply_texts.specs.Done.{done_text}
pub use Rattle.reply_texts.specs.Faults.{fault_text}
pub use Rattle.reply_texts.specs.Options.{options_text}
pub use Rattle.reply_texts.specs.Refusals.{command_text}
pub use Rattle.reply_texts.specs.Texts.{denial_text, memory_text, own_text, refusal_status, refused_text, site_text, wants_head}
pub use Rattle.reply_texts.specs.declared.done.Handed.{Handed}
pub use Rattle.report_texts.specs.Answers.{access_data, data_text, missing_data, preview_data, shared_data, why_data}
pub use Rattle.report_texts.specs.Pages.{page_data}
pub use Rattle.share_graph.specs.declared.{desk.Caller.Caller, desk.Made.Made, event.Event.Event}
pub use Rattle.site_caps.specs.Answering.{GivesText}
pub use Rattle.site_caps.specs.Law.{Law}
pub use Rattle.site_caps.specs.declared.fault.SiteFault.{SiteFault}
