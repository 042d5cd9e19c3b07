-- THE PAGES of lists, as JSON. The keys of an object stand in the order of their bytes.
use Rattle.std.specs.Prelude.{ℕ, true, false, List, Option, Some, None, codes}
use Rattle.listings.specs.declared.asking.Page.TheVariants as page
use Rattle.listings.specs.declared.line.GivenTo.TheVariants as to
use Rattle.report_desk.specs.declared.passing.GivenAs.TheVariants as shown_as
use Rattle.report_desk.specs.declared.passing.GivenBy.TheVariants as shown_by
use Rattle.serde_json.specs.Data.{boolean, member, no_members, null, object, string}
use Rattle.report_texts.specs.Answers.{array_of, number_of, single}
use Rattle.report_texts.specs.Terms.{AccountLine, AppLine, Data, GivenAs, GivenBy, GivenTo, GrainLine, GrantLine, Page, RoleLine}

unfoldable pub account_data : AccountLine → Data
account_data line =
    object (
    member (codes "account") (number_of line.account.0) (
    member (codes "admin") (boolean line.admin) (
    member (codes "enabled") (boolean line.enabled) (
    member (codes "handle") (string line.handle) (
    member (codes "name") (string line.name) no_members)))))

unfoldable pub role_line_data : RoleLine → Data
role_line_data line =
    object (
    member (codes "obsolete") (boolean line.obsolete) (
    member (codes "title") (string line.title) no_members))

unfoldable pub app_data : AppLine → Data
app_data line =
    object (
    member (codes "app") (number_of line.app.0) (
    member (codes "permissions") (array_of string line.permissions) (
    member (codes "roles") (array_of role_line_data line.roles) (
    member (codes "title") (string line.title) (
    member (codes "version") (number_of line.version) no_members)))))

unfoldable pub grain_data : GrainLine → Data
grain_data line =
    object (
    member (codes "app") (number_of line.app.0) (
    member (codes "grain") (number_of line.grain.0) (
    member (codes "owner") (string line.owner) (
    member (codes "permissions") (array_of string line.permissions) (
    member (codes "running") (boolean line.running) (
    member (codes "title") (string line.title) no_members))))))

-- an account by its handle
unfoldable pub named_data : List ℕ → Data
named_data handle = single (codes "account") (string handle)

-- whom a grant was given by
unfoldable pub by_data : GivenBy → Data
by_data (shown_by.Account handle) = named_data handle
by_data (shown_by.Grant g) = single (codes "grant") (number_of g.0)
by_data shown_by.Site = string (codes "site")

-- as what: a role by its title, or all access
unfoldable pub role_data : GivenAs → Data
role_data shown_as.NoRole = null
role_data shown_as.AllAccess = string (codes "all")
role_data (shown_as.Role title) = single (codes "title") (string title)

-- to whom
unfoldable pub to_data : GivenTo → Data
to_data (to.Account handle) = named_data handle
to_data (to.Bearer true) = string (codes "link")
to_data (to.Bearer false) = string (codes "token")
to_data (to.Grain n) = single (codes "grain") (number_of n.0)

abbrev pub expires_data : Option ℕ → Data
expires_data (Some moment) = number_of moment
expires_data None = null

unfoldable pub grant_line_data : GrantLine → Data
grant_line_data line =
    object (
    member (codes "by") (by_data line.passing.by) (
    member (codes "changed") (boolean line.passing.changed) (
    member (codes "expires") (expires_data line.expires) (
    member (codes "grant") (number_of line.passing.grant.0) (
    member (codes "needs") (number_of line.needs) (
    member (codes "revoked") (boolean line.revoked) (
    member (codes "role") (role_data line.passing.base) (
    member (codes "to") (to_data line.to) no_members))))))))

-- a page: its lines, under what they are lines of
unfoldable pub page_data : Page → Data
page_data (page.Accounts lines) = single (codes "accounts") (array_of account_data lines)
page_data (page.Apps lines) = single (codes "apps") (array_of app_data lines)
page_data (page.Grains lines) = single (codes "grains") (array_of grain_data lines)
page_data (page.Grants lines) = single (codes "grants") (array_of grant_line_data lines)
