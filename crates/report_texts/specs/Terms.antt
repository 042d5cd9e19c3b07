-- The words that the definitions here speak in, each defined in the crate that its line names.
pub use Rattle.front_http.specs.Texts.{reply_text}
pub use Rattle.host_base.specs.declared.ids.AccountId.{AccountId}
pub use Rattle.listings.specs.declared.{asking.Page.Page, line.AccountLine.AccountLine, line.AppLine.AppLine, line.GivenTo.GivenTo, line.GrainLine.GrainLine, line.GrantLine.GrantLine, line.RoleLine.RoleLine}
pub use Rattle.report_desk.specs.declared.{holder.Holder.Holder, holder.ReportLine.ReportLine, passing.GivenAs.GivenAs, passing.GivenBy.GivenBy, passing.Passing.Passing, step.ReasonStep.ReasonStep}
pub use Rattle.serde_json.specs.Data.{Data, Items, Members}
pub use Rattle.serde_json.specs.Written.{compact_text}
pub use Rattle.share_graph.specs.declared.grants.Target.{Target}
