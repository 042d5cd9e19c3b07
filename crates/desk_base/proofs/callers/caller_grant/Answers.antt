use Rattle.std.proofs.Common.{inl, inr, refl}
use Rattle.desk_base.specs.Terms.{Grant}
use Rattle.share_graph.specs.declared.facts.Node.TheVariants as node
use Rattle.share_graph.proofs.Contained.{listed_row}
use Rattle.desk_base.proofs.Words.{bearer_is_no_user, handed_on, lacking}
use Rattle.desk_base.proofs.callers.caller_grant.Goals as goal

pub returns-in_default : goal.returns-in_default
returns-in_default c = inl (refl, rw c.secret_of.ensures at c.in_default.ensures)

pub has_entry-requires-clause-there : goal.has_entry-requires-clause-there
has_entry-requires-clause-there c =
    let grant = c.in-Some.grant.now in
    record {
      grant = grant;
      is_row = listed_row (λ (row : Grant). row.num.0) c.args.state.now.tables.grants grant c.requires.formed.numbered.grants c.in-Some.ensures.listed;
      no_user = bearer_is_no_user grant.target c.in-Some.ensures.is.bearer;
    }

pub returns-in_err-has_entry : goal.returns-in_err-has_entry
returns-in_err-has_entry c =
    handed_on _ _ c.from_residual.result c.in_err-has_entry.field-0.0 c.from_residual.ensures.1
    (inr (_, rw c.secret_of.ensures at c.in-Some.ensures, inl (lacking c.args.state.now.tables (node.Grant c.in-Some.grant.now.num) c.in_err-has_entry.field-0.0 c.in_err-has_entry.ensures)))

pub returns : goal.returns
returns c step = inr (_, rw c.secret_of.ensures at c.in-Some.ensures, inr (c.in_ok-has_entry.ensures, refl))
