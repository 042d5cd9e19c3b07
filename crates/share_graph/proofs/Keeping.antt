-- Rows keep their room and their index where one of them is changed so that it has no further clue.
use Rattle.std.proofs.Common.{if◌then◌else◌, ◌≡◌, ◌<◌, ℕ, Bool, true, false, Option, Some, None, inl, inr, slice_index_or, slice_set, vec_len, length, refl, subst, sym, ◌∙◌, arith}
use Rattle.std.proofs.lemmas.List.{length-set}
use Rattle.std.specs.Global.{Vec}
use Rattle.std.specs.Vec.{with_item}
use Rattle.host_base.specs.declared.ids.GrainId.{GrainId}
use Rattle.row_index.specs.declared.clues.Clues.{Clues}
use Rattle.row_index.specs.declared.index.Index.{Index}
use Rattle.row_index.specs.declared.ways.Link.{Link}
use Rattle.row_index.specs.declared.ways.Ways.{Ways}
use Rattle.row_index.specs.Index.{HasClue, IsIndexBut, IsIndexOf}
use Rattle.row_index.specs.Marks.{ForgetsPlace}
use Rattle.row_index.proofs.Indexed.{index_but, index_keeps, index_loses}
use Rattle.row_index.proofs.Leading.{ways_keep}
use Rattle.share_graph.specs.declared.grants.Giver.{Giver}
use Rattle.share_graph.specs.declared.grants.Giver.TheVariants as giver
use Rattle.share_graph.specs.declared.grants.Grant.{Grant}
use Rattle.share_graph.specs.declared.grants.Target.{Target}
use Rattle.share_graph.specs.declared.grants.Target.TheVariants as target
use Rattle.share_graph.specs.declared.sessions.Run.{Run}
use Rattle.share_graph.specs.Clues.{share_of, grant_clues, run_clues, live_clue}
use Rattle.share_graph.specs.Keys.{IsLiveRun}
use Rattle.share_graph.specs.Rooms.{IsRowsOf}
use Rattle.share_graph.specs.Setting.{revoked, stopped}

module _ {X : Type 0} (clues_of : X → Clues) (mark_of : X → Option ℕ) (link_of : X → Link) (f : X → X) (items : Vec X) (index : Index) (ways : Ways) (i : ℕ) (row : X)
    (fewer : (c : ℕ) → HasClue (clues_of (f row)) c → HasClue (clues_of row) c) (stands : link_of (f row) ≡ link_of row) where
  same_number : length items.items ≡ length (slice_set items.items i (f row))
  same_number = sym (length-set items.items i (f row))

  pub rows_keep : {starved : Bool} → mark_of (f row) ≡ mark_of row → i < vec_len items → row ≡ slice_index_or items.items i row → IsRowsOf clues_of mark_of link_of items index ways starved
      → IsRowsOf clues_of mark_of link_of (with_item items i (f row)) index ways starved
  rows_keep same within read is = record {
    room = is.room;
    index_of = index_keeps clues_of mark_of f items.items index i row fewer (omega (arith, within, items.ok.0)) read is.index_of same;
    ways_of = ways_keep link_of f items.items ways i row stands (omega (arith, within, items.ok.0)) read is.ways_of;
    all = λ fed. let (indexed, led) = is.all fed in (indexed ∙ same_number, led ∙ same_number);
  }

  pub rows_lose : {starved : Bool} → (after : Index) (mark : ℕ) → mark_of row ≡ Some mark → mark_of (f row) ≡ None → after.slots ≡ index.slots → after.covered ≡ index.covered → ForgetsPlace index.marks after.marks mark i
      → i < length items.items → row ≡ slice_index_or items.items i row → IsRowsOf clues_of mark_of link_of items index ways starved → IsRowsOf clues_of mark_of link_of (with_item items i (f row)) after ways starved
  rows_lose after mark had none slots covered forgets within read is = record {
    room = is.room;
    index_of = index_loses clues_of mark_of f items.items index i row fewer within read is.index_of mark after had none slots covered forgets;
    ways_of = ways_keep link_of f items.items ways i row stands within read is.ways_of;
    all = λ fed. let (indexed, led) = is.all fed in (covered ∙ (indexed ∙ same_number), led ∙ same_number);
  }

-- a row whose clues have changed, once its index has learnt them
module _ {X : Type 0} (clues_of : X → Clues) (mark_of : X → Option ℕ) (link_of : X → Link) (f : X → X) (items : Vec X) (index : Index) (ways : Ways) (i : ℕ) (row : X)
    (stands : link_of (f row) ≡ link_of row) (within : i < vec_len items) (read : row ≡ slice_index_or items.items i row) where
  inside : i < length items.items
  inside = omega (arith, within, items.ok.0)

  pub within_set : i < length (slice_set items.items i (f row))
  within_set = subst (λ n. i < n) (sym (length-set items.items i (f row))) inside

  pub others_known : {starved : Bool} → mark_of (f row) ≡ mark_of row → IsRowsOf clues_of mark_of link_of items index ways starved → IsIndexBut clues_of (slice_set items.items i (f row)) mark_of i index
  others_known same is = index_but clues_of mark_of items.items index i row (f row) inside read same is.index_of

  pub rows_learn : {starved : Bool} → (after : Index) (still : Bool) → IsIndexOf clues_of (slice_set items.items i (f row)) mark_of after → (still ≡ false → (starved ≡ false) × (after.covered ≡ index.covered))
      → IsRowsOf clues_of mark_of link_of items index ways starved → IsRowsOf clues_of mark_of link_of (with_item items i (f row)) after ways still
  rows_learn after still learnt fed is = record {
    room = is.room;
    index_of = learnt;
    ways_of = ways_keep link_of f items.items ways i row stands inside read is.ways_of;
    all = λ not_starved. let (was, kept) = fed not_starved in let (indexed, led) = is.all was in
        (kept ∙ (indexed ∙ sym (length-set items.items i (f row))), led ∙ sym (length-set items.items i (f row)));
  }

pub stopped_fewer : (run : Run) (c : ℕ) → HasClue (run_clues (stopped run)) c → HasClue (run_clues run) c
stopped_fewer run c (inl token) = inl token
stopped_fewer run c (inr (inl live)) = cc
stopped_fewer run c (inr (inr third)) = inr (inr third)

no_share : (from : Giver) (to : Target) → share_of from to true ≡ None
no_share (giver.Grant g) (target.User a) = refl
no_share (giver.Grant g) (target.Bearer for_sharing) = refl
no_share (giver.Grant g) (target.Claim n) = refl
no_share (giver.Grant g) (target.Grain n) = refl
no_share (giver.Account a) to = refl
no_share (giver.Site by tag item) to = refl

pub revoked_fewer : (grant : Grant) (c : ℕ) → HasClue (grant_clues (revoked grant)) c → HasClue (grant_clues grant) c
revoked_fewer grant c (inl token) = inl token
revoked_fewer grant c (inr (inl share)) = (let none = no_share grant.giver grant.target in cc)
revoked_fewer grant c (inr (inr given)) = inr (inr given)

-- a live run of the grain has the clue of one
pub live_clue_of : (run : Run) (n : GrainId) → IsLiveRun n run → (run_clues run).second ≡ Some (live_clue n)
live_clue_of run n (of, live) = λ i. if live i then None else Some (live_clue (of i))
