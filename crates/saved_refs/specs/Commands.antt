-- THE COMMANDS of the powerbox and of saved references. Each definition reads like its row of the table of commands.
use Rattle.std.specs.Prelude.{◌≡◌, ℕ, Bool, true, List, [], Option, Some, None}
use Rattle.desk_base.specs.Terms.{AccountId, Assignment, Caller, Digest, found◌or◌then◌, GrainId, Handle, IsGrain}
use Rattle.desk_base.specs.Terms.{IsHandleOf, none, Offer, PermSet, Run, SetFits, some◌of◌or◌then◌, State}
use Rattle.desk_base.specs.Terms.{unless◌then◌else◌, when◌then◌else◌}
use Rattle.host_base.specs.declared.verdict.Denial.TheVariants.{UnknownKey, NotHolder, Dropped}
use Rattle.powerbox_match.specs.Descriptor.{DescriptorData}
use Rattle.share_graph.specs.declared.desk.Offer.TheVariants as offer
use Rattle.share_graph.specs.declared.event.Event.TheVariants.{SavedAdded, SavedDropped, Claimed, HandleMade}
use Rattle.share_graph.specs.declared.facts.Node.TheVariants as node
use Rattle.share_graph.specs.declared.grants.Giver.TheVariants as giver
use Rattle.share_graph.specs.declared.grants.Target.TheVariants as target
use Rattle.share_graph.specs.declared.refusal.Refusal.TheVariants.{AlreadyClaimed, LongSet, NoMatch, NoSuchOffer, UnknownHandle}
use Rattle.share_graph.specs.Callers as callers
use Rattle.share_graph.specs.Keys.{HasReference, IsHandleTo}
use Rattle.desk_base.specs.Granting.{token_step}
use Rattle.desk_base.specs.Limits.{adds}
use Rattle.desk_base.specs.Made.{nothing_made}
use Rattle.desk_base.specs.Steps.{Step, Refuses, Keeps, Makes, Plain, Drawn, denies}
use Rattle.desk_base.specs.Wording.{secret_of, by_account, known_grain, access◌of◌then◌, role◌on◌of◌then◌, keeps◌of◌showing◌else◌}
use Rattle.saved_refs.specs.Rows.{no_role, admin_needs, claimed_grant, claimed_handle, made_claim, new_saved, made_saved, new_handle, shown_handle, IsClaim, IsClaimed, IsMatching, with_maker}

-- the run that calls: Denied(UnknownKey), Denied(GrainTrashed) of its grain, Denied(GrainStopped) where it is stopped
abbrev pub by_run : State → Caller → (Run → Step → Type 0) → Step → Type 0
by_run s who Rest = callers.by_run denies s (secret_of who) Rest

-- choose, of a grain m: NoSuchOffer where m is n or isn't there; access(m); NoMatch; role
abbrev pub ChooseGrain : State → GrainId → GrainId → List DescriptorData → Assignment → AccountId → Step → Type 0
ChooseGrain s n m query assignment from =
    when m ≡ n then (Refuses NoSuchOffer) else
    found (IsGrain s.tables m) or (none (IsGrain s.tables m) (Refuses NoSuchOffer)) then λ grain.
    access (node.User m from) of s then
    unless IsMatching s.tables m query then (Refuses NoMatch) else
    role assignment on m of s then
    adds s (token_step s.tables m (giver.Account from) (target.Claim n) assignment [] None)

-- choose, of an item of a site: NoSuchOffer where the sites have none; else it is told whether the offer is for admins alone
abbrev pub ChooseSite : State → GrainId → ℕ → ℕ → Option Bool → AccountId → Step → Type 0
ChooseSite s n tag item None from step = step ≡ Refuses NoSuchOffer
ChooseSite s n tag item (Some admin_only) from step =
    adds s (token_step s.tables n (giver.Site from tag item) (target.Claim n) no_role (admin_needs admin_only from) None) step

abbrev pub ChooseOffer : State → GrainId → Offer → List DescriptorData → Assignment → Option Bool → AccountId → Step → Type 0
ChooseOffer s n (offer.Grain m) query assignment offered from step = ChooseGrain s n m query assignment from step
ChooseOffer s n (offer.Site tag item) query assignment offered from step = ChooseSite s n tag item offered from step

-- choose: Unknown(3, n); access(n); then by the offer. What the sites have of it is told for an item of a site.
abbrev pub Choose : State → Caller → GrainId → Offer → List DescriptorData → Assignment → Option Bool → Step → Type 0
Choose s who n chosen query assignment offered =
    by_account s who λ account.
    known_grain s n λ grain.
    access (node.User n account.num) of s then
    ChooseOffer s n chosen query assignment offered account.num

-- claim: Denied(UnknownKey) where no grant that may be claimed has the digest; Denied(NotHolder(h)) where its grain h is another;
-- AlreadyClaimed(c) where a grant from c exists; Denied of the first step that is missing for c's entry; LongSet against the holder's
-- application. The claimed grant needs that the root maker of c holds the set on the holder.
abbrev pub Claim : State → Caller → Digest → PermSet → Step → Type 0
Claim s who token set =
    by_run s who λ run.
    found (IsClaim s.tables token) or (none (IsClaim s.tables token) (denies UnknownKey)) then λ (chosen, holder).
    unless holder ≡ run.grain then denies (NotHolder holder) else
    when IsClaimed s.tables chosen.num then (Refuses (AlreadyClaimed chosen.num)) else
    access (node.Grant chosen.num) of s then
    unless SetFits s.tables run.grain set then (Refuses LongSet) else
    with_maker s.tables chosen.num λ maker.
    let handle = claimed_handle s run.num in
    adds s (Makes (Plain (Claimed (claimed_grant s.tables run.grain chosen set maker) handle)) (made_claim s.tables handle))

-- save: UnknownHandle; Denied of the first step that is missing for the entry of the handle's grant
abbrev pub Save : State → Caller → ℕ → List ℕ → Step → Type 0
Save s who num label =
    by_run s who λ run.
    some IsHandleOf run.num num of s.handles or (Refuses (UnknownHandle num)) then λ handle.
    access (node.Grant handle.grant) of s then
    adds s (Makes (Drawn λ d. SavedAdded (new_saved s.tables run.grain handle.grant label d)) (made_saved s.tables))

-- restore: Denied(UnknownKey), Denied(NotHolder), Denied(Dropped), Denied of the first step that is missing for the entry of its grant;
-- same where the run has a handle to the grant, the first such
abbrev pub Restore : State → Caller → Digest → Step → Type 0
Restore s who token =
    by_run s who λ run.
    some HasReference token of s.tables.saved or denies UnknownKey then λ saved.
    unless saved.holder ≡ run.grain then denies (NotHolder saved.holder) else
    when saved.dropped ≡ true then denies (Dropped saved.num) else
    access (node.Grant saved.grant) of s then
    keeps IsHandleTo run.num saved.grant of s.handles showing (λ (handle : Handle). shown_handle handle.num) else
    let handle = new_handle s run.num saved.grant in
    adds s (Makes (Plain (HandleMade handle)) (shown_handle handle.num))

-- drop_saved: Denied(UnknownKey), Denied(NotHolder); same where it is dropped. Live handles stay.
abbrev pub DropSaved : State → Caller → Digest → Step → Type 0
DropSaved s who token =
    by_run s who λ run.
    some HasReference token of s.tables.saved or denies UnknownKey then λ saved.
    unless saved.holder ≡ run.grain then denies (NotHolder saved.holder) else
    when saved.dropped ≡ true then (Keeps nothing_made) else
    adds s (Makes (Plain (SavedDropped saved.num)) nothing_made)
