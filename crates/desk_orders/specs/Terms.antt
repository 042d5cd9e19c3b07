-- The words that the definitions here speak in, each defined in the crate that its line names.
pub use Rattle.account_desk.specs.Commands.{AddAccount, AddApp, NewGrain, RenewLogin, SetAdmin, SetEnabled, Trash, UpgradeApp}
pub use Rattle.collections.specs.Commands.{Collect, Missing}
pub use Rattle.collections.specs.Members.{IsPlanFor}
pub use Rattle.desk_base.specs.Accepting.{Accepts, IsRefusal, Ready, WantsSecret}
pub use Rattle.desk_base.specs.Calling.{ByBearer, ByEither, ByLogin, ByRun, IsCaller, IsCallerOn, IsNoCallerOn}
pub use Rattle.desk_base.specs.Fitting.{StartsNoRun}
pub use Rattle.desk_base.specs.Made.{nothing_made}
pub use Rattle.desk_base.specs.Outcomes.{draft_step, with_digest}
pub use Rattle.desk_base.specs.Steps.{Keeps, Makes, Plain, Refuses, Step}
pub use Rattle.desk_base.specs.Terms.{Account, Caller, DeskFault, Digest, Event, EventFits, GrainId, is_handle, IsOfTables, IsOne, IsSoundManifest, IsUnused, Made, Offer, Refusal, State}
pub use Rattle.desk_base.specs.Wording.{secret_of}
pub use Rattle.desk_orders.specs.declared.{deciding.Decision.Decision, order.Command.Command, reply.Listing.Listing, reply.OrderFault.OrderFault, reply.Reply.Reply, secrets.SecretUse.SecretUse}
pub use Rattle.host_base.specs.Drawing.{Coming, Draws}
pub use Rattle.listings.specs.Asking.{IsPageOf, Lists}
pub use Rattle.powerbox_match.specs.Descriptor.{DescriptorData}
pub use Rattle.powerbox_match.specs.Matching.{match_of, same_quality}
pub use Rattle.powerbox_match.specs.declared.{choices.Choice.Choice, value.Quality.Quality}
pub use Rattle.powerbox_match.specs.declared.value.Quality.TheVariants.{Acceptable, Preferred}
pub use Rattle.report_desk.specs.Commands.{Access, Preview, Why}
pub use Rattle.report_desk.specs.Lines.{AreAccessLines, AreLossLines}
pub use Rattle.report_desk.specs.Reasons.{AreReasons}
pub use Rattle.saved_refs.specs.Commands.{Choose, Claim, DropSaved, Restore, Save}
pub use Rattle.saved_refs.specs.Options.{AreOptions, Options}
pub use Rattle.saved_refs.specs.declared.listed.Listed.{Listed}
pub use Rattle.session_desk.specs.Calling.{NamesGrain}
pub use Rattle.session_desk.specs.Commands.{CloseSession, OpenSession, StartRun, StopRun}
pub use Rattle.sha2.specs.Sha256.{sha256}
pub use Rattle.share_desk.specs.Commands.{Child, MakeToken, Redeem, Revoke, Share}
pub use Rattle.share_graph.specs.History.{IsOfRuns}
pub use Rattle.share_tokens.specs.Texts.{key_text_of, token_text_of}
pub use Rattle.site_caps.specs.Finding.{HasNoOffer, HasOffer}
pub use Rattle.site_caps.specs.Law.{Law}
pub use Rattle.site_caps.specs.Sites.{IsSites}
pub use Rattle.site_caps.specs.declared.offer.SiteOffer.{SiteOffer}
