-- The changes of each command fit.
use Rattle.std.proofs.Common.{◌≡◌, ℕ, Bool, true, false, Contains, List, [], Option, Some, None, length, refl, arith}
use Rattle.desk_base.specs.Terms.{AccountId, Assignment, Caller, Digest, EventFits, Giver, GrainId, Grant, GrantId}
use Rattle.desk_base.specs.Terms.{HasGrain, IsGrant, IsWellFormed, Need, State, Target}
use Rattle.share_graph.specs.declared.event.Event.TheVariants.{GrantAdded, GrantRevoked}
use Rattle.share_graph.specs.declared.fault.Kind.TheVariants as kind
use Rattle.share_graph.specs.declared.grants.Giver.TheVariants as giver
use Rattle.share_graph.specs.declared.grants.Target.TheVariants as target
use Rattle.share_graph.specs.Expiry.{Lasts, IsExpiry}
use Rattle.share_graph.specs.Fitting.{TokenFits}
use Rattle.share_graph.specs.Keys.{IsBearer}
use Rattle.share_graph.specs.Known.{KnowsGiver, KnowsTarget}
use Rattle.share_graph.specs.Parents.{GiverFits, PassesTo, IsUnclaimed}
use Rattle.share_graph.proofs.Coherence.{coherent}
use Rattle.share_graph.proofs.Contained.{listed_row}
use Rattle.state_step.specs.NewRows.{IsUnusedBy}
use Rattle.state_step.proofs.GrantLaws.{grant_added_fits, grant_revoked_fits}
use Rattle.desk_base.specs.Fitting.{RowFits}
use Rattle.desk_base.specs.Limits.{too_many}
use Rattle.desk_base.specs.Made.{nothing_made, made_grant}
use Rattle.desk_base.specs.Steps.{Drawn}
use Rattle.desk_base.specs.Needs.{AreGood}
use Rattle.desk_base.specs.Roles.{MayGiveOn}
use Rattle.desk_base.specs.Granting.{new_grant, all_access}
use Rattle.desk_base.proofs.FitForms.{when_fits, unless_fits, must_fits, found_fits, some_fits, adds_fits, plain_adds, access_fits, keeps_fits, bearer_fits}
use Rattle.desk_base.proofs.Room.{room_of}
use Rattle.desk_base.proofs.GivenRoles.{assignment_for, none_within}
use Rattle.desk_base.proofs.GoodNeeds.{known_needs, fitting_needs, fitting_sets, few_needs}
use Rattle.desk_base.proofs.Words.{listed_account}
use Rattle.share_desk.specs.Commands.{Gives, Share, MakeToken, Child, Redeem, Revoke}

-- whoever gives may give so on the grain, which is there
record MayGiveTo (s : State) (n : GrainId) (from : Giver) (to : Target) : Type 0 where
  grain : HasGrain s.tables n
  giver : KnowsGiver s.tables from
  target : KnowsTarget s.tables to
  parent : (assignment : Assignment) (wanted : List Need) (expires : Option ℕ) (digest : Option Digest) → GiverFits s.tables from (new_grant s.tables n from to assignment wanted expires digest)

-- an expiry above the moment is above 0
lasts_from : (now : ℕ) (expires : Option ℕ) → Lasts now expires → IsExpiry expires
lasts_from now None later = tt
lasts_from now (Some end) later = omega arith

-- a bearer's grant is passed on to an account, and to whoever bears a token
passes_to : (from to : Target) → IsBearer from → IsUnclaimed to → PassesTo from to
passes_to (target.Bearer for_sharing) to is unclaimed = unclaimed
passes_to (target.User b) to is unclaimed = absurd is
passes_to (target.Claim h) to is unclaimed = absurd is
passes_to (target.Grain h) to is unclaimed = absurd is

module _ (s : State) (formed : IsWellFormed s) where
  bearer_gives : (from : Grant) → Contains s.tables.grants from → IsBearer from.target → (to : Target) → KnowsTarget s.tables to → IsUnclaimed to → MayGiveTo s from.grain (giver.Grant from.num) to
  bearer_gives from listed bearer to known unclaimed =
      let there : IsGrant s.tables from.num from = listed_row (λ (x : Grant). x.num.0) s.tables.grants from formed.numbered.grants listed in
      record {
        grain = ((coherent s.tables formed.tables).grants from.num from there).knows.grain;
        giver = (from, there);
        target = known;
        parent = λ assignment wanted expires digest. record { parent = from; is_row = there; same_grain = refl; passes = passes_to from.target to bearer unclaimed };
      }

  -- a grant by an assignment and needs that passed their tests fits
  given_fits : (n : GrainId) (from : Giver) (to : Target) → MayGiveTo s n from to → (digest : Option Digest) → TokenFits to digest → IsUnusedBy s digest → (assignment : Assignment) (wanted : List Need)
      (expires : Option ℕ) → MayGiveOn s.tables n assignment → AreGood s.tables wanted → Lasts s.tables.moment expires → too_many kind.Grant (length s.tables.grants) ≡ None
      → EventFits s (GrantAdded (new_grant s.tables n from to assignment wanted expires digest))
  given_fits n from to may digest token unused assignment wanted expires (app, its, gives) good later room = grant_added_fits s formed (new_grant s.tables n from to assignment wanted expires digest) (record {
    num = refl;
    room = room_of kind.Grant 65536 _ room;
    knows = record { grain = may.grain; giver = may.giver; target = may.target; needs = known_needs s.tables wanted good };
    parent = record { giver = may.parent assignment wanted expires digest; needs = fitting_needs s.tables wanted good };
    sets = record { assignment = (app, its, assignment_for app.manifest assignment gives); needs = fitting_sets s.tables wanted good };
    shares = record { token = token; few_needs = few_needs s.tables wanted good; ends = lasts_from s.tables.moment expires later };
    unused = unused;
  })

  -- and so does one to whoever bears a token
  token_fits : (n : GrainId) (from : Giver) (for_sharing : Bool) → MayGiveTo s n from (target.Bearer for_sharing) → (assignment : Assignment) (wanted : List Need) (expires : Option ℕ)
      → RowFits s true (Gives s n from (target.Bearer for_sharing) assignment wanted expires)
  token_fits n from for_sharing may assignment wanted expires =
      must_fits s λ given.
      must_fits s λ good.
      unless_fits s tt λ later.
      adds_fits s (Drawn λ d. GrantAdded (new_grant s.tables n from (target.Bearer for_sharing) assignment wanted expires (Some d))) (made_grant s.tables) λ room d unused.
      given_fits n from (target.Bearer for_sharing) may (Some d) (d, refl) unused assignment wanted expires given good later room

module _ (s : State) (formed : IsWellFormed s) (who : Caller) where
  pub share_fits : (n : GrainId) (to : AccountId) (assignment : Assignment) (wanted : List Need) (expires : Option ℕ) → RowFits s false (Share s who n to assignment wanted expires)
  share_fits n to assignment wanted expires =
      some_fits s tt λ from is.
      unless_fits s tt λ enabled.
      found_fits s tt λ grain there.
      found_fits s tt λ account known.
      access_fits s (
      when_fits s tt λ another.
      must_fits s λ given.
      must_fits s λ good.
      unless_fits s tt λ later.
      let may : MayGiveTo s n (giver.Account from.num) (target.User to) =
      record { grain = (grain, there); giver = listed_account s formed from is.listed; target = (account, known); parent = λ any some expires digest. tt } in
      plain_adds s (GrantAdded (new_grant s.tables n (giver.Account from.num) (target.User to) assignment wanted expires None)) tt (made_grant s.tables)
      (given_fits s formed n (giver.Account from.num) (target.User to) may None refl tt assignment wanted expires given good later))

  pub make_token_fits : (n : GrainId) (for_sharing : Bool) (assignment : Assignment) (wanted : List Need) (expires : Option ℕ) → RowFits s true (MakeToken s who n for_sharing assignment wanted expires)
  make_token_fits n for_sharing assignment wanted expires =
      some_fits s tt λ from is.
      unless_fits s tt λ enabled.
      found_fits s tt λ grain there.
      access_fits s (
      let may : MayGiveTo s n (giver.Account from.num) (target.Bearer for_sharing) =
      record { grain = (grain, there); giver = listed_account s formed from is.listed; target = tt; parent = λ any some expires digest. tt } in
      token_fits s formed n (giver.Account from.num) for_sharing may assignment wanted expires)

  pub child_fits : (for_sharing : Bool) (assignment : Assignment) (wanted : List Need) (expires : Option ℕ) → RowFits s true (Child s who for_sharing assignment wanted expires)
  child_fits for_sharing assignment wanted expires =
      bearer_fits s who λ from is.
      let may = bearer_gives s formed from is.listed is.is.bearer (target.Bearer for_sharing) tt tt in
      token_fits s formed from.grain (giver.Grant from.num) for_sharing may assignment wanted expires

  pub redeem_fits : (token : Digest) → RowFits s false (Redeem s who token)
  redeem_fits token =
      some_fits s tt λ account is.
      unless_fits s tt λ enabled.
      some_fits s tt λ link one.
      unless_fits s tt λ shared.
      access_fits s (
      keeps_fits s (
      let may = bearer_gives s formed link one.listed one.is.bearer (target.User account.num) (listed_account s formed account is.listed) tt in
      let (app, its, fits) = ((coherent s.tables formed.tables).grants link.num link (listed_row (λ (x : Grant). x.num.0) s.tables.grants link formed.numbered.grants one.listed)).sets.assignment in
      let given : MayGiveOn s.tables link.grain all_access = (app, its, record { given = tt; sets = record { add = none_within _; remove = none_within _ } }) in
      plain_adds s (GrantAdded (new_grant s.tables link.grain (giver.Grant link.num) (target.User account.num) all_access [] None None)) tt (made_grant s.tables)
      (given_fits s formed link.grain (giver.Grant link.num) (target.User account.num) may None refl tt all_access [] None given (λ i q odd. cc) tt)))

  pub revoke_fits : (g : GrantId) → RowFits s false (Revoke s who g)
  revoke_fits g =
      some_fits s tt λ account is.
      unless_fits s tt λ enabled.
      found_fits s tt λ grant there.
      unless_fits s tt λ may.
      when_fits s tt λ live.
      plain_adds s (GrantRevoked g) tt nothing_made λ room.
      grant_revoked_fits s formed g (grant, there)
