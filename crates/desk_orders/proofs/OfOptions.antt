-- A question changes nothing, and chooses nothing.
use Rattle.std.proofs.Common.{◌≡◌, true, false, None, inl, inr}
use Rattle.desk_base.specs.Terms.{AccountId, answers, Caller, entry, GrainId, GrantId, Made, Node, State}
use Rattle.share_graph.specs.declared.facts.Node.TheVariants as node
use Rattle.share_graph.specs.declared.refusal.Refusal.TheVariants.{Denied}
use Rattle.desk_base.specs.Fitting.{ChangeFits, RowFits}
use Rattle.desk_base.specs.Made.{nothing_made}
use Rattle.desk_base.specs.Steps.{Refuses, Keeps, Makes, Change, denies}
use Rattle.desk_base.proofs.FitForms.{unless_fits, found_fits, some_fits}
use Rattle.collections.specs.Commands.{Missing}
use Rattle.collections.proofs.FitRow.{curator_fits}
use Rattle.listings.specs.Asking.{Lists}
use Rattle.listings.specs.Commands.{Asks}
use Rattle.listings.specs.declared.asking.Subject.{Subject}
use Rattle.listings.specs.declared.asking.Subject.TheVariants as subject
use Rattle.report_desk.specs.Commands.{Access, Preview, Why}
use Rattle.saved_refs.specs.Options.{Options}
use Rattle.desk_orders.specs.declared.order.Command.{Command}
use Rattle.desk_orders.specs.declared.order.Command.TheVariants as command
use Rattle.desk_orders.specs.Commands.{lists}
use Rattle.site_caps.specs.Law.{Law}
use Rattle.desk_orders.specs.Sites.{IsFoundBy}

no_change : (s : State) (at : Node) (change : Change) (made : Made) → entry denies s.tables at (answers (Keeps nothing_made)) (Makes change made) → ChangeFits s false change
no_change s at change made (inl (reason, same, missing)) = let odd : Makes change made ≡ Refuses (Denied reason) = same in cc
no_change s at change made (inr (held, same)) = let odd : Makes change made ≡ Keeps nothing_made = same in cc

pub options_fits : (s : State) (who : Caller) (n : GrainId) → RowFits s false (Options s who n)
options_fits s who n =
    some_fits s tt λ account is.
    unless_fits s tt λ enabled.
    found_fits s tt λ grain there.
    record { fits = no_change s (node.User n account.num) }

keeps_only : (s : State) (change : Change) (made : Made) → answers (Keeps nothing_made) (Makes change made) → ChangeFits s false change
keeps_only s change made same = let odd : Makes change made ≡ Keeps nothing_made = same in cc

pub access_fits : (s : State) (who : Caller) (n : GrainId) → RowFits s false (Access s who n)
access_fits s who n =
    some_fits s tt λ account is.
    unless_fits s tt λ enabled.
    found_fits s tt λ grain there.
    unless_fits s tt λ owner.
    record { fits = keeps_only s }

pub preview_fits : (s : State) (who : Caller) (g : GrantId) → RowFits s false (Preview s who g)
preview_fits s who g =
    some_fits s tt λ account is.
    unless_fits s tt λ enabled.
    found_fits s tt λ grant there.
    unless_fits s tt λ may.
    record { fits = keeps_only s }

pub why_fits : (s : State) (who : Caller) (n : GrainId) (a : AccountId) → RowFits s false (Why s who n a)
why_fits s who n a =
    some_fits s tt λ account is.
    unless_fits s tt λ enabled.
    found_fits s tt λ grain there.
    found_fits s tt λ asked known.
    unless_fits s tt λ may.
    record { fits = keeps_only s }

pub missing_fits : (s : State) (who : Caller) (c : GrainId) (g : GrantId) → RowFits s false (Missing s who c g)
missing_fits s who c g =
    curator_fits s who c g _ λ account link.
    record { fits = keeps_only s }

asks_fits : (s : State) (who : Caller) → RowFits s false (Asks s who)
asks_fits s who =
    some_fits s tt λ account is.
    unless_fits s tt λ enabled.
    record { fits = keeps_only s }

pub lists_fits : (s : State) (who : Caller) (what : Subject) → RowFits s false (Lists s who what)
lists_fits s who subject.Own = asks_fits s who
lists_fits s who (subject.Accounts after) = asks_fits s who
lists_fits s who (subject.Apps after) = asks_fits s who
lists_fits s who (subject.Entered after) = asks_fits s who
lists_fits s who (subject.Given n after) =
    some_fits s tt λ account is.
    unless_fits s tt λ enabled.
    found_fits s tt λ grain there.
    record { fits = keeps_only s }

-- it chooses nothing
pub none_found : (law : Law) (s : State) (who : Caller) (c : Command) → lists c ≡ true → IsFoundBy law s who c None
none_found law s who (command.Options n query) asks = tt
none_found law s who (command.Access n) asks = tt
none_found law s who (command.Preview g) asks = tt
none_found law s who (command.Why n a) asks = tt
none_found law s who (command.Missing c g) asks = tt
none_found law s who (command.List subject) asks = tt
none_found law s who _ asks = cc
