-- What a stop may leave as entries are added to a history.
use Rattle.std.proofs.Common.{◌≡◌, ◌⊎◌, ◌++◌, [], ◌∷◌, ℕ, true, IsTrue, List, Option, Some, None, Result, Ok, Err, length, refl, sym, ◌∙◌, ap, subst, inl, inr, arith, length-append}
use Rattle.std.proofs.Common.{append-nil}
use Rattle.std.proofs.lemmas.List.{append_cancel_left}
use Rattle.std.specs.Prelude.{⊤}
use Rattle.cloud_keeper.specs.InMemory.{MemRows}
use Rattle.cloud_keeper.specs.Keeping.{Keeping, LeavesAsBefore, LeavesItsRows, NoOther, RowsFollow, TheRowsAfter, put}
use Rattle.cloud_keeper.specs.declared.row.Row.{Row}
use Rattle.desk_base.specs.Terms.{Event, EventFits, IsWellFormed, State, Tables, tables_after}
use Rattle.desk_orders.specs.declared.reply.OrderFault.{OrderFault}
use Rattle.row_tables.specs.Kept.{AreRowsOf, IsStored, with_row}
use Rattle.row_tables.specs.RowAfter.{row_after}
use Rattle.hub_core.specs.Inner.{KeepsRows, LeavesBy, Outlasts, SettlesEntry, entry_of, kept_by}
use Rattle.hub_core.specs.Sharing.{Objects, Past, state_of}
use Rattle.hub_core.specs.Stopping.{OutliveStops}

-- a list isn't longer than itself
not_longer : {X : Type 0} (xs : List X) (x : X) → xs ≡ xs ++ x ∷ [] → ⊥
not_longer xs x same = omega (arith, ap length same, length-append xs (x ∷ []))

some_same : (xs ys : List Row) → Some xs ≡ Some ys → xs ≡ ys
some_same xs ys is = cc

-- what a store that is clean leaves alone settles what outlives a stop
pub settled_outlives : (now : Keeping) (may_leave : List Row → Type 0) → LeavesItsRows now may_leave → OutliveStops now may_leave
settled_outlives now may_leave settled = record { leaves = λ clean rows left told may. inl (settled.only clean rows left told may) }

-- what a keeper in memory leaves is its rows
pub memory_outlives : (k : MemRows) → OutliveStops (record { faults = k.count.faults; clean = true; rows = Some k.rows }) (λ rows. rows ≡ k.rows)
memory_outlives k = record { leaves = λ clean rows left told may. inl (may ∙ some_same k.rows rows told) }

module _ {K : Type 0} (may_leave : K → List Row → Type 0) (past past' : Past) (old new : Objects K) where
  -- a history that didn't grow settles nothing
  unsettled : past'.entries ≡ past.entries → SettlesEntry past past' new.tell.keeping (may_leave new.keeper)
  unsettled same e row grew is = absurd (not_longer past.entries e (sym same ∙ grew))

  -- the keeper's store wasn't touched
  untouched_stops : new.keeper ≡ old.keeper → (InHand : List Row → Type 0) → LeavesAsBefore new.tell.keeping.clean (may_leave old.keeper) (may_leave new.keeper) InHand
  untouched_stops keeper InHand = record { leaves = λ clean rows may. inl (subst (λ (k : K). may_leave k rows) keeper may) }

  untouched_outlives : new.keeper ≡ old.keeper → new.tell.keeping ≡ old.tell.keeping → OutliveStops old.tell.keeping (may_leave old.keeper) → OutliveStops new.tell.keeping (may_leave new.keeper)
  untouched_outlives keeper keeping before =
      subst (λ (k : Keeping). OutliveStops k (may_leave new.keeper)) (sym keeping) (subst (λ (k : K). OutliveStops old.tell.keeping (may_leave k)) (sym keeper) before)

  -- nothing was added, and the keeper not called
  pub untouched : past'.entries ≡ past.entries → new.keeper ≡ old.keeper → new.tell.keeping ≡ old.tell.keeping → (InHand : List Row → Type 0) → Outlasts may_leave past past' old new InHand
  untouched same keeper keeping InHand = record {
    stops = λ stored. untouched_stops keeper InHand;
    settled = unsettled same;
    outlives = λ stored. untouched_outlives keeper keeping;
  }

  -- what is in hand may be told more widely
  pub widened : (InHand Wider : List Row → Type 0) → ((rows : List Row) → InHand rows → Wider rows) → Outlasts may_leave past past' old new InHand → Outlasts may_leave past past' old new Wider
  widened InHand Wider wider o = record {
    stops = λ stored. record {
      leaves = λ clean rows may. elim ((o.stops stored).leaves clean rows may) [ inl before ↦ inl before | inr hand ↦ inr (wider rows hand) ];
    };
    settled = o.settled;
    outlives = o.outlives;
  }

  -- a draw before it changes neither the keeper nor its rows
  pub drawn_before : (mid : Objects K) → mid.keeper ≡ old.keeper → mid.tell.keeping ≡ old.tell.keeping → (InHand : List Row → Type 0) → Outlasts may_leave past past' mid new InHand → Outlasts may_leave past past' old new InHand
  drawn_before mid keeper keeping InHand o = record {
    stops = λ stored. subst (λ (k : K). LeavesAsBefore new.tell.keeping.clean (may_leave k) (may_leave new.keeper) InHand) keeper
        (o.stops (subst (λ (k : Keeping). IsStored k (state_of past).tables) (sym keeping) stored));
    settled = o.settled;
    outlives = λ stored before.
        o.outlives (subst (λ (k : Keeping). IsStored k (state_of past).tables) (sym keeping) stored)
        (subst (λ (k : Keeping). OutliveStops k (may_leave mid.keeper)) (sym keeping) (subst (λ (k : K). OutliveStops old.tell.keeping (may_leave k)) (sym keeper) before));
  }

  -- the rows with the event's row are those of the tables after it
  module _ (e : Event) (row : Row) (formed : IsWellFormed (state_of past)) (fits : EventFits (state_of past) e)
      (keeps : KeepsRows (state_of past).tables e (Some row)) where
    abbrev After : List Row → Type 0
    After = AreRowsOf (tables_after (state_of past).tables e)

    in_hand : IsStored old.tell.keeping (state_of past).tables → (rows : List Row) → TheRowsAfter old.tell.keeping (put row) rows → After rows
    in_hand stored rows (before, told, same) =
        subst (λ (xs : List Row). After xs) (sym same) (keeps (state_of past) before formed refl fits (stored.told before told))

    row_stops : LeavesAsBefore new.tell.keeping.clean (may_leave old.keeper) (may_leave new.keeper) (TheRowsAfter old.tell.keeping (put row))
        → IsStored old.tell.keeping (state_of past).tables → LeavesAsBefore new.tell.keeping.clean (may_leave old.keeper) (may_leave new.keeper) After
    row_stops stops stored = record {
      leaves = λ clean rows may. elim (stops.leaves clean rows may) [ inl before ↦ inl before | inr hand ↦ inr (in_hand stored rows hand) ];
    }

    -- the keeper was told of the row, and failed: what it may have kept is one event on
    failed_outlives : LeavesAsBefore new.tell.keeping.clean (may_leave old.keeper) (may_leave new.keeper) (TheRowsAfter old.tell.keeping (put row))
        → (IsTrue new.tell.keeping.clean → IsTrue old.tell.keeping.clean) → RowsFollow old.tell.keeping new.tell.keeping (λ rows. rows)
        → IsStored old.tell.keeping (state_of past).tables → OutliveStops old.tell.keeping (may_leave old.keeper) → OutliveStops new.tell.keeping (may_leave new.keeper)
    failed_outlives stops was_clean follows stored before = record {
      leaves = λ clean rows left told may.
          (let (kept, was, same) = follows.told rows told in
          let was_told : old.tell.keeping.rows ≡ Some rows = was ∙ ap (λ (xs : List Row). Some xs) (sym same) in
          elim (stops.leaves clean left may) [
            | inl might ↦ before.leaves (was_clean clean) rows left was_told might
            | inr hand ↦ inr (state_of past, e, formed, fits, stored.told rows was_told, in_hand stored left hand)
          ]);
    }

  -- an event without a row is no entry that has one
  rowless : (e e' : Event) (row : Row) → None ≡ row_after (state_of past).tables e → past'.entries ≡ past.entries ++ e ∷ []
      → past'.entries ≡ past.entries ++ e' ∷ [] → row_after (state_of past).tables e' ≡ Some row → ⊥
  rowless e e' row none grew also has =
      let same : e ∷ [] ≡ e' ∷ [] = append_cancel_left past.entries (e ∷ []) (e' ∷ []) (sym grew ∙ also) in
      cc

  -- the outside was told of an event, or a fault kept it from being
  pub told_outlasts : (e : Event) (row : Option Row) (result : Result ⊤ OrderFault) → row ≡ row_after (state_of past).tables e
      → past'.entries ≡ past.entries ++ entry_of e result → IsWellFormed (state_of past) → EventFits (state_of past) e
      → KeepsRows (state_of past).tables e row → (IsTrue new.tell.keeping.clean → IsTrue old.tell.keeping.clean)
      → RowsFollow old.tell.keeping new.tell.keeping (kept_by row result) → LeavesBy may_leave old new row result
      → Outlasts may_leave past past' old new (AreRowsOf (tables_after (state_of past).tables e))
  told_outlasts e None (Ok done) none grew formed fits keeps clean follows (keeper, keeping) = record {
    stops = λ stored. untouched_stops keeper (AreRowsOf (tables_after (state_of past).tables e));
    settled = λ e' row also has. absurd (rowless e e' row none grew also has);
    outlives = λ stored. untouched_outlives keeper keeping;
  }
  told_outlasts e None (Err why) none grew formed fits keeps clean follows (keeper, keeping) =
      untouched (grew ∙ append-nil past.entries) keeper keeping (AreRowsOf (tables_after (state_of past).tables e))
  told_outlasts e (Some row) (Ok done) has grew formed fits keeps clean follows (stops, settled) = record {
    stops = row_stops e row formed fits keeps stops;
    settled = λ e' row' also is. settled;
    outlives = λ stored before. settled_outlives new.tell.keeping (may_leave new.keeper) settled;
  }
  told_outlasts e (Some row) (Err why) has grew formed fits keeps clean follows (stops, settled) = record {
    stops = row_stops e row formed fits keeps stops;
    settled = unsettled (grew ∙ append-nil past.entries);
    outlives = failed_outlives e row formed fits keeps stops clean follows;
  }
