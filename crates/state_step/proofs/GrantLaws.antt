-- A grant that is added or revoked leaves a well-formed state so.
use Rattle.std.proofs.Common.{◌≡◌, ◌<◌, ◌≤◌, ◌+◌, ℕ, zero, suc, List, [], ◌∷◌, ◌++◌, Option, Some, None, length, refl, subst, arith, length-append}
use Rattle.std.specs.Option.{option_map}
use Rattle.std.proofs.lemmas.List.Elements.{All-weaker}
use Rattle.std.proofs.lemmas.Option.{slice_get_within}
use Rattle.host_base.specs.declared.digest.Digest.{Digest}
use Rattle.host_base.specs.declared.ids.GrantId.{GrantId}
use Rattle.share_graph.specs.declared.event.Event.TheVariants as event
use Rattle.share_graph.specs.declared.facts.Node.TheVariants as node
use Rattle.share_graph.specs.declared.grants.Giver.{Giver}
use Rattle.share_graph.specs.declared.grants.Giver.TheVariants as giver
use Rattle.share_graph.specs.declared.grants.Grant.{Grant}
use Rattle.share_graph.specs.declared.grants.Need.{Need}
use Rattle.share_graph.specs.declared.grants.Need.TheVariants as need
use Rattle.share_graph.specs.declared.state.State.{State}
use Rattle.share_graph.specs.declared.state.Tables.{Tables}
use Rattle.share_graph.specs.Changing.{change_row}
use Rattle.share_graph.specs.EventFits.{EventFits}
use Rattle.share_graph.specs.Kinds.{KnownDigest, IsUnused}
use Rattle.share_graph.specs.Known.{HasGrant, KnowsGiver, KnowsNeed, KnowsOfGrant}
use Rattle.share_graph.specs.Parents.{GiverFits, GiverIsEarlier, NeedIsEarlier, NamesEarlier}
use Rattle.share_graph.specs.Rows.{row, IsGrant}
use Rattle.share_graph.specs.Setting.{revoked}
use Rattle.share_graph.specs.WellFormed.{AreNumbered, IsWellFormed}
use Rattle.share_graph.proofs.Apart.{known_token, token_of, logins, tokens, references, keys, run_tokens}
use Rattle.state_step.specs.NewRows.{IsUnusedBy, IsNewGrant}
use Rattle.state_step.proofs.Digests.{Adds, adds_none, adds_filtered, apart_after, none_unused}
use Rattle.state_step.proofs.Each.{Each, push_old_row, each_pushed, numbered_pushed}
use Rattle.state_step.proofs.Extending.{Extends, fits_same, knows_of_grain}
use Rattle.state_step.proofs.NextTables.{with_tables, still_sound_grant, still_sound_saved, next_tables, tables_numbered}
use Rattle.state_step.proofs.Sound.{SoundGrant, sound_of}
use Rattle.state_step.proofs.Touched.{AreTouched, change_row_touches, touched_row, same_key, length_touched, each_touched, numbered_touched, filter_map_touched}

abbrev with_grants : Tables → List Grant → Tables
with_grants t grants = record t { grants = grants }

-- The grants may come next in the state: with one token more, which was unused, or with none.
record AreNextGrants (s : State) (grants : List Grant) (added : Option KnownDigest) : Type 0 where
  there : (g : GrantId) (x : Grant) → IsGrant s.tables g x → (y : Grant) × IsGrant (with_grants s.tables grants) g y × (y.grain ≡ x.grain) × (y.target ≡ x.target)
  few : length grants ≤ 65536
  numbered : AreNumbered (λ (grant : Grant). grant.num.0) grants
  sound : Each (SoundGrant s.tables) grants
  adds : Adds added (tokens s) (tokens (with_tables s (with_grants s.tables grants)))
  unused : (e : KnownDigest) → added ≡ Some e → IsUnused s e.digest

-- the state with them is well formed
next_grants : (s : State) → IsWellFormed s → (grants : List Grant) (added : Option KnownDigest) → AreNextGrants s grants added → IsWellFormed (with_tables s (with_grants s.tables grants))
next_grants s formed grants added next =
    let u = with_grants s.tables grants in
    let sound = sound_of s.tables formed.tables in
    let numbered = tables_numbered s formed in
    let more : Extends s.tables u = record {
      accounts = λ a is. is;
      apps = λ p x is. (x, is, fits_same x.manifest);
      grains = λ n x is. (x, is, refl);
      grants = next.there;
    } in
    next_tables s formed u (record {
      more = more;
      sound = record {
        formed = sound.formed;
        handles = sound.handles;
        apps = sound.apps;
        grains = λ k grain is. knows_of_grain s.tables u more grain (sound.grains k grain is);
        grants = λ k grant is. still_sound_grant s.tables u more k grant (next.sound k grant is);
        saved = λ k saved is. still_sound_saved s.tables u more saved (sound.saved k saved is);
      };
      limits = record { accounts = formed.limits.accounts; apps = formed.limits.apps; grains = formed.limits.grains; grants = next.few; saved = formed.limits.saved };
      numbered = record { accounts = numbered.accounts; apps = numbered.apps; grains = numbered.grains; grants = next.numbered; saved = numbered.saved };
      apart = apart_after added s (with_tables s u) formed.apart next.unused (record {
        accounts = adds_none added (logins s) (logins s) refl;
        grants = next.adds;
        saved = adds_none added (references s) (references s) refl;
        sessions = adds_none added (keys s) (keys s) refl;
        runs = adds_none added (run_tokens s) (run_tokens s) refl;
      });
    })

-- rows that are there have smaller numbers than the next
row_within : {X : Type 0} (rows : List X) (n : ℕ) (x : X) → row rows n ≡ Some x → n < length rows + 1
row_within rows zero x is = omega arith
row_within rows (suc k) x is = let within : k < length rows = slice_get_within rows k x is in omega arith

there_is_earlier : (t : Tables) (g : GrantId) → HasGrant t g → g.0 < length t.grants + 1
there_is_earlier t g (grant, is) = row_within t.grants g.0 grant is

giver_is_earlier : (t : Tables) (from : Giver) → KnowsGiver t from → GiverIsEarlier (length t.grants + 1) from
giver_is_earlier t (giver.Grant p) is = there_is_earlier t p is
giver_is_earlier t (giver.Account a) is = tt
giver_is_earlier t (giver.Site by tag item) is = tt

need_is_earlier : (t : Tables) (q : Need) → KnowsNeed t q → NeedIsEarlier (length t.grants + 1) q
need_is_earlier t (need.TokenValid h) is = there_is_earlier t h is
need_is_earlier t (need.PermissionsHeld (node.Grant h) set) is = there_is_earlier t h is
need_is_earlier t (need.PermissionsHeld (node.User n a) set) is = tt
need_is_earlier t (need.UserIsAdmin a) is = tt

-- so a new grant names earlier ones
names_earlier : (t : Tables) (grant : Grant) → KnowsOfGrant t grant → NamesEarlier (length t.grants + 1) grant
names_earlier t grant knows = record {
  giver = giver_is_earlier t grant.giver knows.giver;
  needs = All-weaker (KnowsNeed t) (NeedIsEarlier (length t.grants + 1)) (need_is_earlier t) grant.needs knows.needs;
}

-- the token of a new grant, where it has one, is unused
token_unused : (s : State) (num : ℕ) (digest : Option Digest) → IsUnusedBy s digest → (e : KnownDigest) → option_map (λ (d : Digest). known_token num d) digest ≡ Some e → IsUnused s e.digest
token_unused s num None unused e is = cc is
token_unused s num (Some d) unused e is = let same : known_token num d ≡ e = cc in subst (λ (k : KnownDigest). IsUnused s k.digest) same unused

-- the state with a new grant is well formed
pub with_new_grant : (s : State) → IsWellFormed s → (grant : Grant) → IsNewGrant s grant → IsWellFormed (with_tables s (with_grants s.tables (s.tables.grants ++ grant ∷ [])))
with_new_grant s formed grant new =
    let sound = sound_of s.tables formed.tables in
    let room = new.room in
    next_grants s formed (s.tables.grants ++ grant ∷ []) (token_of grant) (record {
      there = λ g x is. (x, push_old_row s.tables.grants (grant ∷ []) g.0 x is, refl, refl);
      few = omega (arith, length-append {A = Grant});
      numbered = numbered_pushed (λ (x : Grant). x.num.0) s.tables.grants grant formed.numbered.grants new.num;
      sound = each_pushed (SoundGrant s.tables) s.tables.grants grant sound.grants (record {
        knows = new.knows;
        parent = new.parent;
        earlier = names_earlier s.tables grant new.knows;
        sets = new.sets;
        shares = new.shares;
      });
      adds = adds_filtered token_of s.tables.grants grant;
      unused = token_unused s grant.num.0 grant.digest new.unused;
    })

-- a new grant fits
pub grant_added_fits : (s : State) → IsWellFormed s → (grant : Grant) → IsNewGrant s grant → EventFits s (event.GrantAdded grant)
grant_added_fits s formed grant new = record { changed = tt; formed = with_new_grant s formed grant new }

revoked_giver : (t : Tables) (from : Giver) (grant : Grant) → GiverFits t from grant → GiverFits t from (revoked grant)
revoked_giver t (giver.Account a) grant is = is
revoked_giver t (giver.Grant p) grant is = record { parent = is.parent; is_row = is.is_row; same_grain = is.same_grain; passes = is.passes }
revoked_giver t (giver.Site by tag item) grant is = is

-- a revoked grant is as sound as it was
revoked_sound : (t : Tables) (k : ℕ) (grant : Grant) → SoundGrant t k grant → SoundGrant t k (revoked grant)
revoked_sound t k grant sound =
    let knows = sound.knows in let parent = sound.parent in let earlier = sound.earlier in let sets = sound.sets in let shares = sound.shares in
    record {
      knows = record { grain = knows.grain; giver = knows.giver; target = knows.target; needs = knows.needs };
      parent = record { giver = revoked_giver t grant.giver grant parent.giver; needs = parent.needs };
      earlier = record { giver = earlier.giver; needs = earlier.needs };
      sets = record { assignment = sets.assignment; needs = sets.needs };
      shares = record { token = shares.token; few_needs = shares.few_needs; ends = shares.ends };
    }

-- a grant that is there may be revoked
pub grant_revoked_fits : (s : State) → IsWellFormed s → (g : GrantId) → HasGrant s.tables g → EventFits s (event.GrantRevoked g)
grant_revoked_fits s formed g there =
    let sound = sound_of s.tables formed.tables in
    let xs = s.tables.grants in
    let ys = change_row revoked s.tables.grants g.0 in
    let touched : AreTouched revoked xs ys = change_row_touches revoked xs g.0 in
    record {
      changed = there;
      formed = next_grants s formed ys None (record {
        there = λ h x is. (let (y, again, same) = touched_row revoked xs ys touched h.0 x is in
            (y, again, same_key revoked (λ (z : Grant). z.grain) (λ z. refl) x y same, same_key revoked (λ (z : Grant). z.target) (λ z. refl) x y same));
        few = subst (λ (len : ℕ). len ≤ 65536) (length_touched revoked xs ys touched) formed.limits.grants;
        numbered = numbered_touched revoked (λ (x : Grant). x.num.0) (λ x. refl) xs ys touched formed.numbered.grants;
        sound = each_touched revoked (SoundGrant s.tables) (revoked_sound s.tables) xs ys touched sound.grants;
        adds = adds_none None (tokens s) _ (filter_map_touched revoked token_of (λ x. refl) xs ys touched);
        unused = none_unused s;
      });
    }
