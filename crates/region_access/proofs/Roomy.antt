-- What is made ready is prepared for a change that touches the region alone.
use Rattle.std.proofs.Common.{◌≡◌, Bool, true, false, List, [], Contains, sym, subst}
use Rattle.share_graph.specs.declared.facts.Node.{Node}
use Rattle.share_graph.specs.declared.state.Tables.{Tables}
use Rattle.share_graph.specs.Coherent.{IsCoherent}
use Rattle.share_graph.specs.Region.{GivesOutside, along, seed}
use Rattle.least_access.specs.Solved.{Table, IsSolutionOf}
use Rattle.region_access.specs.declared.room.Room.{Room}
use Rattle.region_access.specs.Clearing.{IsWhatWas}
use Rattle.region_work.specs.Prepared.{Clears, IsToGrow, LeadsNowhere, Touches, IsPrepared}
use Rattle.region_access.specs.Reaching.{IsRegionOf}
use Rattle.region_access.specs.Room.{IsOpened, IsRoom}

-- no share or need leads out of a region
pub region_closed : (t : Tables) (seeds nodes : List Node) → IsRegionOf t seeds nodes → LeadsNowhere t nodes
region_closed t seeds nodes region from g grant is feeds inside = (region.exact _).1 (along ((region.exact from).0 inside) g grant is feeds)

-- what a room that isn't to grow has made ready
pub cleared_room : (t : Tables) (seeds : List Node) (old new : Table) (room : Room) (ready : IsRoom t seeds old new room) → room.grows ≡ false
    → Clears room.nodes.items ready.start new × IsWhatWas ready.start room.nodes.items room.before.items
cleared_room t seeds old new room ready cleared = subst (λ (b : Bool). IsOpened b room ready.start new) cleared ready.opened

pub room_prepared : (t u : Tables) (seeds : List Node) (old new : Table) (room : Room) → room.grows ≡ false → IsRoom t seeds old new room → IsSolutionOf t old → Touches room.nodes.items t u
    → IsPrepared u room.nodes.items new
room_prepared t u seeds old new room cleared ready solved touches = record {
  tables = t;
  start = ready.start;
  solved = λ at fact. (λ h. (solved at fact).0 ((ready.same at fact).0 h), λ d. (ready.same at fact).1 ((solved at fact).1 d));
  clears = (cleared_room t seeds old new room ready cleared).0;
  touches = touches;
}

-- a room that is to grow is ready for a change that only adds
pub room_grows : (t u : Tables) (seeds : List Node) (old new : Table) (room : Room) → room.grows ≡ true → IsRoom t seeds old new room → IsCoherent t → IsSolutionOf t old
    → GivesOutside (Contains []) t u → GivesOutside (Contains seeds) u t → LeadsNowhere u room.nodes.items → IsToGrow u seeds room.nodes.items new
room_grows t u seeds old new room grown ready coherent solved adds only closed =
    let stays : new ≡ ready.start = subst (λ (b : Bool). IsOpened b room ready.start new) grown ready.opened in
    record {
      tables = t;
      coherent = coherent;
      solved = subst (λ (table : Table). IsSolutionOf t table) (sym stays) (λ at fact. (λ h. (solved at fact).0 ((ready.same at fact).0 h), λ d. (ready.same at fact).1 ((solved at fact).1 d)));
      adds = adds;
      only = only;
      within = λ at inside. (ready.region.exact at).1 (seed inside);
      places = ready.places;
      closed = closed;
    }
