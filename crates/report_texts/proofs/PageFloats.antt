-- The pages have no float, so their texts are exact.
use Rattle.std.proofs.Common.{◌≡◌, ℕ, false, true, List, Option, Some, None, refl}
use Rattle.serde_json.specs.Data.{string}
use Rattle.serde_json.specs.Written.{has_float}
use Rattle.listings.specs.declared.asking.Page.TheVariants as page
use Rattle.listings.specs.declared.line.GivenTo.TheVariants as to
use Rattle.report_desk.specs.declared.passing.GivenAs.TheVariants as shown_as
use Rattle.report_desk.specs.declared.passing.GivenBy.TheVariants as shown_by
use Rattle.report_texts.specs.Pages.{account_data, app_data, by_data, expires_data, grain_data, grant_line_data, named_data, page_data, role_data, role_line_data, to_data}
use Rattle.report_texts.specs.Terms.{AccountLine, AppLine, GivenAs, GivenBy, GivenTo, GrainLine, GrantLine, Page, RoleLine}
use Rattle.report_texts.proofs.Floats.{items_exact}

account_exact : (line : AccountLine) → has_float (account_data line) ≡ false
unfolding account_data
account_exact line = refl

role_line_exact : (line : RoleLine) → has_float (role_line_data line) ≡ false
unfolding role_line_data
role_line_exact line = refl

app_exact : (line : AppLine) → has_float (app_data line) ≡ false
unfolding app_data
app_exact line = rw (items_exact string (λ _. refl) line.permissions, items_exact role_line_data role_line_exact line.roles) refl

grain_exact : (line : GrainLine) → has_float (grain_data line) ≡ false
unfolding grain_data
grain_exact line = rw (items_exact string (λ _. refl) line.permissions) refl

named_exact : (handle : List ℕ) → has_float (named_data handle) ≡ false
unfolding named_data
named_exact handle = refl

by_exact : (by : GivenBy) → has_float (by_data by) ≡ false
unfolding by_data
by_exact (shown_by.Account handle) = named_exact handle
by_exact (shown_by.Grant g) = refl
by_exact shown_by.Site = refl

role_exact : (role : GivenAs) → has_float (role_data role) ≡ false
unfolding role_data
role_exact shown_as.NoRole = refl
role_exact shown_as.AllAccess = refl
role_exact (shown_as.Role title) = refl

to_exact : (whom : GivenTo) → has_float (to_data whom) ≡ false
unfolding to_data
to_exact (to.Account handle) = named_exact handle
to_exact (to.Bearer true) = refl
to_exact (to.Bearer false) = refl
to_exact (to.Grain n) = refl

expires_exact : (expires : Option ℕ) → has_float (expires_data expires) ≡ false
expires_exact (Some moment) = refl
expires_exact None = refl

grant_line_exact : (line : GrantLine) → has_float (grant_line_data line) ≡ false
unfolding grant_line_data
grant_line_exact line = rw (by_exact line.passing.by, expires_exact line.expires, role_exact line.passing.base, to_exact line.to) refl

pub page_exact : (told : Page) → has_float (page_data told) ≡ false
unfolding page_data
page_exact (page.Accounts lines) = rw (items_exact account_data account_exact lines) refl
page_exact (page.Apps lines) = rw (items_exact app_data app_exact lines) refl
page_exact (page.Grains lines) = rw (items_exact grain_data grain_exact lines) refl
page_exact (page.Grants lines) = rw (items_exact grant_line_data grant_line_exact lines) refl
