-- The changes of each command fit.
use Rattle.std.proofs.Common.{◌≡◌, ◌∙◌, ◌≤◌, ℕ, Bool, true, false, All, List, [], ◌∷◌, Option, Some, None, length, refl, sym, ap, subst, arith}
use Rattle.std.proofs.lemmas.List.Elements.{All-nil, All-cons}
use Rattle.desk_base.specs.Terms.{AccountId, Assignment, Caller, Digest, ForApp, Giver, GrainId, GrantId, HasAccount}
use Rattle.desk_base.specs.Terms.{HasGrain, HasRunToken, IsOneOf, IsRootMaker, IsWellFormed, KnowsNeed, Manifest, Need}
use Rattle.desk_base.specs.Terms.{NeedFits, NeedSetFits, Offer, PermSet, Refusal, Run, Saved, State, Target}
use Rattle.perm_roles.specs.PermSet.{no_permissions}
use Rattle.perm_roles.specs.Roles.{IsInRoles}
use Rattle.perm_roles.specs.declared.roles.Base.{Base}
use Rattle.perm_roles.specs.declared.roles.Base.TheVariants as base
use Rattle.powerbox_match.specs.Descriptor.{DescriptorData}
use Rattle.share_graph.specs.declared.desk.Offer.TheVariants as offer
use Rattle.share_graph.specs.declared.event.Event.TheVariants.{GrantAdded, SavedAdded, SavedDropped, Claimed, HandleMade}
use Rattle.share_graph.specs.declared.facts.Node.TheVariants as node
use Rattle.share_graph.specs.declared.fault.Kind.TheVariants as kind
use Rattle.share_graph.specs.declared.grants.Giver.TheVariants as giver
use Rattle.share_graph.specs.declared.grants.Need.TheVariants as need
use Rattle.share_graph.specs.declared.grants.Target.TheVariants as target
use Rattle.share_graph.specs.Fitting.{IsAssignmentFor}
use Rattle.share_graph.specs.Known.{KnowsGiver}
use Rattle.share_graph.specs.Parents.{GiverFits, PassesTo}
use Rattle.share_graph.proofs.Coherence.{coherent}
use Rattle.share_graph.proofs.Contained.{listed_row}
use Rattle.state_step.proofs.GrantLaws.{grant_added_fits}
use Rattle.state_step.proofs.HandleLaws.{handle_made_fits, claimed_fits}
use Rattle.state_step.proofs.SavedLaws.{saved_added_fits, saved_dropped_fits}
use Rattle.desk_base.specs.Fitting.{RowFits}
use Rattle.desk_base.specs.Limits.{adds, first_of}
use Rattle.desk_base.specs.Made.{nothing_made, made_grant}
use Rattle.desk_base.specs.Steps.{Step, Drawn}
use Rattle.desk_base.specs.Wording.{secret_of}
use Rattle.desk_base.specs.Granting.{new_grant, token_step}
use Rattle.desk_base.proofs.FitForms.{when_fits, unless_fits, must_fits, found_fits, some_fits, adds_fits, plain_adds, access_fits, keeps_fits}
use Rattle.desk_base.proofs.Room.{room_of}
use Rattle.desk_base.proofs.GivenRoles.{assignment_for, none_within}
use Rattle.desk_base.proofs.Words.{listed_account}
use Rattle.saved_refs.specs.Commands.{by_run, ChooseOffer, Choose, Claim, Save, Restore, DropSaved}
use Rattle.saved_refs.specs.Rows.{no_role, admin_needs, claimed_grant, claimed_handle, made_claim, new_saved, made_saved, new_handle, shown_handle, with_maker}
use Rattle.saved_refs.proofs.Named.{run_grain, grant_row, handle_grant, reference_grant, maker_is_there}

module _ (s : State) {draws : Bool} where
  -- a change with the root maker of a grant
  maker_fits : (g : GrantId) {Rest : AccountId → Step → Type 0} → ((maker : AccountId) → IsRootMaker s.tables g maker → RowFits s draws (Rest maker)) → RowFits s draws (with_maker s.tables g Rest)
  maker_fits g rest = record { fits = λ change made (maker, is, x). (rest maker is).fits change made x }

  -- a change of a run that calls
  run_fits : (who : Caller) {Rest : Run → Step → Type 0} → ((run : Run) → IsOneOf s.runs (HasRunToken (secret_of who)) run → RowFits s draws (Rest run)) → RowFits s draws (by_run s who Rest)
  run_fits who rest =
      some_fits s tt λ run is.
      unless_fits s tt λ kept.
      when_fits s tt λ live.
      rest run is

all_one : (P : Need → Type 0) (one : Need) → P one → All P (one ∷ [])
all_one P one is = All-cons P one [] is (All-nil P)

-- an account may need to be an admin
admin_needs_all : (P : Need → Type 0) (admin_only : Bool) (a : AccountId) → P (need.UserIsAdmin a) → All P (admin_needs admin_only a)
admin_needs_all P true a is = all_one P (need.UserIsAdmin a) is
admin_needs_all P false a is = All-nil P

few_admin_needs : (admin_only : Bool) (a : AccountId) → length (admin_needs admin_only a) ≤ 8
few_admin_needs true a = omega arith
few_admin_needs false a = omega arith

-- an assignment without sets fits
bare : (m : Manifest) (b : Base) → IsInRoles m.roles b → IsAssignmentFor m (record { base = b; add = no_permissions; remove = no_permissions })
bare m b listed = record { add = none_within _; remove = none_within _; listed = listed }

module _ (s : State) (formed : IsWellFormed s) where
  -- what is chosen for a grain to claim fits
  choice_fits : (n m : GrainId) (from : Giver) (assignment : Assignment) (admin_only : Bool) (by : AccountId) → HasGrain s.tables n → HasGrain s.tables m → HasAccount s.tables by → KnowsGiver s.tables from
      → ((d : Digest) → GiverFits s.tables from (new_grant s.tables m from (target.Claim n) assignment (admin_needs admin_only by) None (Some d))) → ForApp s.tables m (λ app. IsAssignmentFor app.manifest assignment)
      → RowFits s true (adds s (token_step s.tables m from (target.Claim n) assignment (admin_needs admin_only by) None))
  choice_fits n m from assignment admin_only by there other account giver may assigned =
      adds_fits s (Drawn λ d. GrantAdded (new_grant s.tables m from (target.Claim n) assignment (admin_needs admin_only by) None (Some d))) (made_grant s.tables) λ room d unused.
      grant_added_fits s formed (new_grant s.tables m from (target.Claim n) assignment (admin_needs admin_only by) None (Some d)) (record {
        num = refl;
        room = room_of kind.Grant 65536 _ room;
        knows = record { grain = other; giver = giver; target = there; needs = admin_needs_all (KnowsNeed s.tables) admin_only by account };
        parent = record { giver = may d; needs = admin_needs_all (NeedFits s.tables) admin_only by tt };
        sets = record { assignment = assigned; needs = admin_needs_all (NeedSetFits s.tables) admin_only by tt };
        shares = record { token = (d, refl); few_needs = few_admin_needs admin_only by; ends = tt };
        unused = unused;
      })

  -- a choice by its offer
  offer_fits : (n : GrainId) (what : Offer) (query : List DescriptorData) (assignment : Assignment) (found : Option Bool) (from : AccountId) → HasGrain s.tables n → HasAccount s.tables from
      → RowFits s true (ChooseOffer s n what query assignment found from)
  offer_fits n (offer.Grain m) query assignment found from there account =
      when_fits s tt λ another.
      found_fits s tt λ grain other.
      access_fits s (
      unless_fits s tt λ matches.
      must_fits s λ may.
      choice_fits n m (giver.Account from) assignment false from there (grain, other) account account (λ d. tt) (may.0, may.1, assignment_for may.0.manifest assignment may.2))
  offer_fits n (offer.Site tag item) query assignment None from there account = record { fits = λ change made same. cc same }
  offer_fits n (offer.Site tag item) query assignment (Some admin_only) from (grain, is) account =
      let (app, its) = ((coherent s.tables formed.tables).grains n grain is).app in
      choice_fits n n (giver.Site from tag item) no_role admin_only from (grain, is) (grain, is) account account (λ d. refl) (app, (grain, is, its), bare app.manifest base.NoRole tt)

first_free : (a b : Option Refusal) → first_of a b ≡ None → a ≡ None
first_free (Some r) b is = is
first_free None b is = refl

-- the commands
pub choose_fits : (s : State) → IsWellFormed s → (who : Caller) (n : GrainId) (what : Offer) (query : List DescriptorData) (assignment : Assignment) (found : Option Bool)
    → RowFits s true (Choose s who n what query assignment found)
choose_fits s formed who n what query assignment found =
    some_fits s tt λ from is.
    unless_fits s tt λ enabled.
    found_fits s tt λ grain there.
    access_fits s (
    offer_fits s formed n what query assignment found from.num (grain, there) (listed_account s formed from is.listed))

pub claim_fits : (s : State) → IsWellFormed s → (who : Caller) (token : Digest) (set : PermSet) → RowFits s false (Claim s who token set)
claim_fits s formed who token set =
    run_fits s who λ run is.
    found_fits s tt λ claim one.
    unless_fits s tt λ own.
    when_fits s tt λ first.
    access_fits s (
    unless_fits s tt λ fits.
    maker_fits s claim.0.num λ maker made.
    let chosen = claim.0 in
    let row = grant_row s formed chosen one.0.listed in
    let to : chosen.target ≡ target.Claim run.grain = one.1 ∙ ap (λ (h : GrainId). target.Claim h) own in
    let old = (coherent s.tables formed.tables).grants chosen.num chosen row in
    let (app, its, assigned) = old.sets.assignment in
    let there = run_grain s formed run is.listed in
    let added = claimed_grant s.tables run.grain chosen set maker in
    let holds : Need = need.PermissionsHeld (node.User run.grain maker) set in
    plain_adds s (Claimed added (claimed_handle s run.num)) tt (made_claim s.tables (claimed_handle s run.num)) λ room.
    claimed_fits s formed added (claimed_handle s run.num) (record {
      new_grant = record {
        num = refl;
        room = room_of kind.Grant 65536 _ (first_free _ _ room);
        knows = record { grain = old.knows.grain; giver = (chosen, row); target = there; needs = all_one (KnowsNeed s.tables) holds (there, maker_is_there s formed chosen.num maker made) };
        parent = record {
          giver = record { parent = chosen; is_row = row; same_grain = refl; passes = subst (λ (x : Target). PassesTo x (target.Grain run.grain)) (sym to) refl };
          needs = all_one (NeedFits s.tables) holds tt;
        };
        sets = record { assignment = (app, its, bare app.manifest base.AllAccess tt); needs = all_one (NeedSetFits s.tables) holds fits };
        shares = record { token = refl; few_needs = omega arith; ends = tt };
        unused = tt;
      };
      run = run;
      is_run = record { listed = is.listed; is = refl };
      target = refl;
      names = refl;
      num = refl;
    }))

pub save_fits : (s : State) → IsWellFormed s → (who : Caller) (num : ℕ) (label : List ℕ) → RowFits s true (Save s who num label)
save_fits s formed who num label =
    run_fits s who λ run is.
    some_fits s tt λ handle own.
    access_fits s (
    let (grant, there, claimed) = handle_grant s formed run handle is.listed own.listed own.is.0 in
    adds_fits s (Drawn λ d. SavedAdded (new_saved s.tables run.grain handle.grant label d)) (made_saved s.tables) λ room d unused.
    saved_added_fits s formed (new_saved s.tables run.grain handle.grant label d) (record {
      num = refl;
      room = room_of kind.Saved 65536 _ room;
      knows = record { holder = run_grain s formed run is.listed; grant = (grant, there) };
      reference = (grant, there, claimed);
      unused = unused;
    }))

pub restore_fits : (s : State) → IsWellFormed s → (who : Caller) (token : Digest) → RowFits s false (Restore s who token)
restore_fits s formed who token =
    run_fits s who λ run is.
    some_fits s tt λ saved one.
    unless_fits s tt λ own.
    when_fits s tt λ kept.
    access_fits s (
    keeps_fits s (
    let (grant, there, claimed) = reference_grant s formed saved one.listed in
    plain_adds s (HandleMade (new_handle s run.num saved.grant)) tt (shown_handle (new_handle s run.num saved.grant).num) λ room.
    handle_made_fits s formed (new_handle s run.num saved.grant) (record {
      num = refl;
      rooted = record {
        run = run;
        grant = grant;
        is_run = record { listed = is.listed; is = refl };
        is_grant = there;
        claimed = claimed ∙ ap (λ (h : GrainId). target.Grain h) own;
      };
    })))

pub drop_saved_fits : (s : State) → IsWellFormed s → (who : Caller) (token : Digest) → RowFits s false (DropSaved s who token)
drop_saved_fits s formed who token =
    run_fits s who λ run is.
    some_fits s tt λ saved one.
    unless_fits s tt λ own.
    when_fits s tt λ kept.
    plain_adds s (SavedDropped saved.num) tt nothing_made λ room.
    saved_dropped_fits s formed saved.num (saved, listed_row (λ (x : Saved). x.num.0) s.tables.saved saved formed.numbered.saved one.listed)
