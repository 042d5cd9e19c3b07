-- What a statement makes of the rows that are told, and of what a stop may leave.
use Rattle.std.proofs.Common.{◌≡◌, ◌⊎◌, inl, inr, ℕ, ◌^◌, ◌<◌, ◌≤◌, Bool, true, false, not, ◌&&◌, cond, List, [], ◌∷◌, filter, Option, Some, None, Result, Ok, Err, IsTrue, refl, sym, ap, subst, subst₂, ◌∙◌, arith, append-nil}
use Rattle.std.specs.List.{AllZip}
use Rattle.std.proofs.lemmas.Bool.{cases_Bool}
use Rattle.sqlite_value.specs.Order.{Row as Values}
use Rattle.sqlite_trees.specs.Tree.{Trees}
use Rattle.sqlite_trees.specs.Objects.{catalog_tree}
use Rattle.sqlite_trees.specs.View.{doubt}
use Rattle.sqlite_trees.proofs.Doubt.{clean_of, no_doubt}
use Rattle.sqlite_catalog.specs.Listing.{IsSound, IsTableRow, IsIndexRow, IsViewRow, is_table_row, is_index_row, is_view_row}
use Rattle.sqlite.specs.declared.error.Error.{Error}
use Rattle.sqlite.specs.Command.{Command}
use Rattle.sqlite.specs.Schema.{Schema}
use Rattle.sqlite.specs.Effect.{Database, IsDatabase}
use Rattle.sqlite.specs.Does.{Tally, Does}
use Rattle.sqlite.specs.Listing.{understood}
use Rattle.sqlite.specs.State.{State, HasCleanDisk, mode_of, Executes, ExecutesIn, IsNotRun, IsUnchanged, IsRolledBack, Survives, CommitsBy, MayCommit, shows_rows}
use Rattle.sqlite.proofs.Callers.{IsPlain, command_of, statement_of, runs_as}
use Rattle.cloud_keeper.specs.declared.row.Row.{Row}
use Rattle.cloud_keeper.specs.Keeping.{put, NoOther}
use Rattle.sql_keeper.specs.Schema.{no_schema, rows_schema}
use Rattle.sql_keeper.specs.Statements.{upsert_text, values_of}
use Rattle.sql_keeper.specs.Told.{put_told, kept}
use Rattle.sql_keeper.specs.KeptRows.{rows_listed, rows_in, told, Stop, stop_of, StopsAsBefore, ToldFollow, StillTold, Changed, LeavesTold, IsOver}
use Rattle.sql_keeper.proofs.Texts.{upsert, upsert_is, upsert_plain}
use Rattle.sql_keeper.proofs.Upserting.{upserted}
use Rattle.sql_keeper.proofs.Replacing.{added, replaced, number_after, number_before}

-- ---- a database of the table, and an empty one

pub rows_are : (db : Trees) → IsSound rows_schema db → rows_in db ≡ kept (db 0)
rows_are db sound = go (db catalog_tree) sound.lists.listed.tables
  where
    go : (objects : List Values) → AllZip IsTableRow (filter is_table_row objects) rows_schema.tables → rows_listed objects (db 0) ≡ kept (db 0)
    go [] zipped = absurd zipped
    go (object ∷ objects) zipped = refl

pub no_rows_are : (db : Trees) → IsSound no_schema db → rows_in db ≡ Some []
no_rows_are db sound = go (db catalog_tree) sound.lists.listed.tables sound.lists.listed.views sound.lists.listed.indexes
  where
    none : (object : Values) (objects : List Values) (table view : Bool) → AllZip IsTableRow (cond table (object ∷ filter is_table_row objects) (filter is_table_row objects)) []
        → AllZip IsViewRow (cond view (object ∷ filter is_view_row objects) (filter is_view_row objects)) []
        → AllZip (IsIndexRow []) (cond (not (Rattle.std.specs.Prelude.◌||◌ table view)) (object ∷ filter is_index_row objects) (filter is_index_row objects)) [] → ⊥
    none object objects true view t v i = t
    none object objects false true t v i = v
    none object objects false false t v i = i

    go : (objects : List Values) → AllZip IsTableRow (filter is_table_row objects) [] → AllZip IsViewRow (filter is_view_row objects) [] → AllZip (IsIndexRow []) (filter is_index_row objects) [] → rows_listed objects (db 0) ≡ Some []
    go [] t v i = refl
    go (object ∷ objects) t v i = absurd (none object objects (is_table_row object) (is_view_row object) t v i)

-- ---- a connection that tells its rows

pub record Tells (s : State) (rows : List Row) : Type 0 where
  pub clean : IsTrue s.is_clean
  pub is_open : IsTrue s.is_open
  pub rows_are : rows_in s.now.trees ≡ Some rows

pub tells : (s : State) (rows : List Row) → told s ≡ Some rows → Tells s rows
tells s rows is = go s.is_clean refl s.is_open refl is
  where
    go : (clean : Bool) → s.is_clean ≡ clean → (open_now : Bool) → s.is_open ≡ open_now → cond (clean && open_now) (rows_in s.now.trees) None ≡ Some rows → Tells s rows
    go true clean_is true open_is at = record { clean = clean_is; is_open = open_is; rows_are = at }
    go true clean_is false open_is at = absurd (let e = at in cc)
    go false clean_is b open_is at = absurd (let e = at in cc)

pub told_is : (s : State) → IsTrue s.is_clean → IsTrue s.is_open → told s ≡ rows_in s.now.trees
told_is s clean is_open = rw (clean, is_open) refl

pub was_clean : (old new : State) → doubt old.is_clean ≤ doubt new.is_clean → IsTrue new.is_clean → IsTrue old.is_clean
was_clean old new falls clean = let none = no_doubt new.is_clean clean in clean_of old.is_clean (omega (arith, falls, none))

-- ---- where nothing changed, or all was undone

pub same_rows : (old new : State) → doubt old.is_clean ≤ doubt new.is_clean → (HasCleanDisk new → IsUnchanged old new) → ToldFollow (told old) (told new) (λ rows. rows)
same_rows old new falls same rows is =
    let t = tells new rows is in
    let u = same (no_doubt new.is_clean t.clean) in
    (rows, told_is old (was_clean old new falls t.clean) u.0.was_open ∙ (ap (λ (d : Database). rows_in d.trees) (sym u.0.now_is) ∙ t.rows_are), refl)

pub undone_rows : (schema : Schema) (old new : State) → IsOver schema old → doubt old.is_clean ≤ doubt new.is_clean → (HasCleanDisk new → IsUnchanged old new ⊎ IsRolledBack old new) → ToldFollow (told old) (told new) (λ rows. rows)
undone_rows schema old new own falls either rows is =
    let t = tells new rows is in
    elim (either (no_doubt new.is_clean t.clean)) [
      | inl same ↦ same_rows old new falls (λ clean. same) rows is
      | inr back ↦
          let was = back.was_open t.is_open in
          let now : new.now ≡ old.now = (back.undone t.is_open).0 ∙ sym (own.settled was) in
          (rows, told_is old (was_clean old new falls t.clean) was ∙ (ap (λ (d : Database). rows_in d.trees) (sym now) ∙ t.rows_are), refl)
    ]

pub not_run : (old new : State) (sql : List ℕ) (params : Values) (e : Error) → IsNotRun old new sql params e → IsUnchanged old new ⊎ IsRolledBack old new
unfolding IsNotRun
not_run old new sql params e (inl h) = inl h.1
not_run old new sql params e (inr h) = inr h.3

pub not_executed : (old new : State) (sql : List ℕ) (params : Values) (e : Error) → Executes sql params old new (Err e) → IsUnchanged old new ⊎ IsRolledBack old new
unfolding ExecutesIn
not_executed old new sql params e (inl h) = not_run old new sql params e h
not_executed old new sql params e (inr h) = elim (cases_Bool (shows_rows false h.0)) [
  | inl shows ↦ inl (rw shows at h.2).1
  | inr runs ↦ elim (rw runs at h.2) [ inl stayed ↦ inl stayed.1 | inr fails ↦ inr fails.3 ]
]

-- ---- what a statement commits

pub commits_as : (sql : List ℕ) (params : Values) (s : State) (schema : Schema) → s.now.schema ≡ schema → (command : Command) → command_of (understood schema sql) ≡ command → IsPlain (understood schema sql) → (db : Trees)
    → CommitsBy sql params s db → MayCommit s None command (statement_of sql (understood schema sql)) params db
unfolding CommitsBy
commits_as sql params s schema has command is plain db h =
    let known = sym h.1.is ∙ ap (λ x. understood x sql) has in
    let bare = subst IsPlain (sym known) plain in
    subst₂ (λ k t. MayCommit s None k t params db) (ap command_of known ∙ is) (ap (statement_of sql) known) (rw (bare.0, bare.1, append-nil params) at h.2)

-- ---- THE UPSERT

unput : (row : Row) (o : Option (List Row)) (rows : List Row) → put_told (Some row) o ≡ Some rows → (before : List Row) × (o ≡ Some before) × (rows ≡ put row before)
unput row None rows is = absurd (let e = is in cc)
unput row (Some before) rows is = let same : put row before ≡ rows = cc in (before, refl, sym same)

module _ (row : Row) (low : row.kind < 2 ^ 8) (small_num : row.num < 2 ^ 32) (old : State) (own : IsOver rows_schema old) where
  rows_after : (text : List ℕ) (tally : Tally) (after : Database) → IsDatabase old.now → Does old.step_limit (mode_of old) (values_of row) old.now text None upsert (Ok (tally, after)) → IsDatabase after
      → (rows : List Row) → rows_in after.trees ≡ Some rows → (before : List Row) × (rows_in old.now.trees ≡ Some before) × (rows ≡ put row before)
  rows_after text tally after sound does sound_after rows is =
      let u = upserted old.step_limit (mode_of old) row old.now after text tally own.schema_is does in
      let before_sound : IsSound rows_schema old.now.trees = subst (λ (s : Schema). IsSound s old.now.trees) own.schema_is sound in
      let after_sound : IsSound rows_schema after.trees = subst (λ (s : Schema). IsSound s after.trees) u.0 sound_after in
      let all : kept (after.trees 0) ≡ Some rows = sym (rows_are after.trees after_sound) ∙ is in
      let made : kept (after.trees 0) ≡ put_told (Some row) (kept (old.now.trees 0)) = elim u.1 [
        | inl a ↦ added row old.now.trees after.trees low small_num a
        | inr r ↦ replaced (mode_of old).keys row old.now.trees after.trees low small_num before_sound.obeys r (number_after (mode_of old).keys row old.now.trees after.trees r rows all)
      ] in
      let it = unput row (kept (old.now.trees 0)) rows (sym made ∙ all) in
      (it.0, rows_are old.now.trees before_sound ∙ it.1, it.2)

  rows_on : (text : List ℕ) (tally : Tally) (after : Database) → IsDatabase old.now → Does old.step_limit (mode_of old) (values_of row) old.now text None upsert (Ok (tally, after)) → IsDatabase after
      → (before : List Row) → rows_in old.now.trees ≡ Some before → rows_in after.trees ≡ Some (put row before)
  rows_on text tally after sound does sound_after before is =
      let u = upserted old.step_limit (mode_of old) row old.now after text tally own.schema_is does in
      let before_sound : IsSound rows_schema old.now.trees = subst (λ (s : Schema). IsSound s old.now.trees) own.schema_is sound in
      let after_sound : IsSound rows_schema after.trees = subst (λ (s : Schema). IsSound s after.trees) u.0 sound_after in
      let was : kept (old.now.trees 0) ≡ Some before = sym (rows_are old.now.trees before_sound) ∙ is in
      let made : kept (after.trees 0) ≡ put_told (Some row) (kept (old.now.trees 0)) = elim u.1 [
        | inl a ↦ added row old.now.trees after.trees low small_num a
        | inr r ↦ replaced (mode_of old).keys row old.now.trees after.trees low small_num before_sound.obeys r (number_before (mode_of old).keys row old.now.trees after.trees r before was)
      ] in
      rows_are after.trees after_sound ∙ (made ∙ ap (put_told (Some row)) was)

  -- rows that were told are still told at Ok
  pub row_told : (new : State) (count : ℕ) → (HasCleanDisk new → Executes upsert_text (values_of row) old new (Ok count)) → StillTold (told old) (told new) (stop_of new) (put row)
  row_told new count runs clean before is =
      let t = tells old before is in
      let w = runs_as upsert_text (values_of row) old new rows_schema own.schema_is upsert upsert_is upsert_plain count (runs (no_doubt new.is_clean clean)) in
      told_is new clean w.shown.is_open ∙ rows_on (statement_of upsert_text (understood rows_schema upsert_text)) w.tally new.now (own.sound t.is_open) w.changed w.sound before t.rows_are

  -- at Ok the rows are those before, with this one kept
  pub row_kept : (new : State) (count : ℕ) → doubt old.is_clean ≤ doubt new.is_clean → (HasCleanDisk new → Executes upsert_text (values_of row) old new (Ok count)) → ToldFollow (told old) (told new) (put row)
  row_kept new count falls runs rows is =
      let t = tells new rows is in
      let w = runs_as upsert_text (values_of row) old new rows_schema own.schema_is upsert upsert_is upsert_plain count (runs (no_doubt new.is_clean t.clean)) in
      let it = rows_after (statement_of upsert_text (understood rows_schema upsert_text)) w.tally new.now (own.sound w.shown.was_open) w.changed w.sound rows t.rows_are in
      (it.0, told_is old (was_clean old new falls t.clean) w.shown.was_open ∙ it.1, it.2)

  -- and a stop leaves them, and nothing else
  pub row_settled : (new : State) (count : ℕ) → (HasCleanDisk new → Executes upsert_text (values_of row) old new (Ok count)) → ((db : Trees) → IsTrue new.is_open → new.may_leave db → db ≡ new.committed.trees)
      → LeavesTold (told new) (stop_of new)
  row_settled new count runs settled rows left is leaves =
      let t = tells new rows is in
      let w = runs_as upsert_text (values_of row) old new rows_schema own.schema_is upsert upsert_is upsert_plain count (runs (no_doubt new.is_clean t.clean)) in
      let committed : new.committed ≡ new.now = w.shown.committed_is ∙ rw own.autocommit refl in
      let db : leaves.0 ≡ new.now.trees = settled leaves.0 t.is_open leaves.1 ∙ ap (λ (d : Database). d.trees) committed in
      let both : Some left ≡ Some rows = sym leaves.2 ∙ (ap rows_in db ∙ t.rows_are) in
      cc

  -- at any exit a stop leaves what it could leave before, or the rows with this one kept
  pub row_stops : (new : State) → IsTrue old.is_open → Survives old new (CommitsBy upsert_text (values_of row) old) → StopsAsBefore (stop_of old) (stop_of new) (Changed (told old) (put row))
  row_stops new is_open s = record {
    told = λ clean. was_clean old new s.clean clean;
    leaves = λ clean rows left. elim (s.crash (no_doubt new.is_clean clean) left.0 left.1) [
      | inl before ↦ inl (left.0, before, left.2)
      | inr commits ↦
          elim (commits_as upsert_text (values_of row) old rows_schema own.schema_is upsert upsert_is upsert_plain left.0 commits) [
            | inl ends ↦ absurd (elim ends.0 [ inl e ↦ let x = e in cc | inr e ↦ let x = e.2 in cc ])
            | inr may ↦
                let it = rows_after (statement_of upsert_text (understood rows_schema upsert_text)) may.1 may.2 (own.sound is_open) may.3 may.4 rows (ap rows_in (sym may.5) ∙ left.2) in
                inr (it.0, told_is old (was_clean old new s.clean clean) is_open ∙ it.1, it.2)
          ]
    ];
  }

-- ---- a statement that was compiled first

-- what changes and commits nothing
pub quiet_stops : (old new : State) (Also : List Row → Type 0) → Survives old new (λ _. ⊥) → StopsAsBefore (stop_of old) (stop_of new) Also
quiet_stops old new Also s = record {
  told = λ clean. was_clean old new s.clean clean;
  leaves = λ clean rows left. elim (s.crash (no_doubt new.is_clean clean) left.0 left.1) [ inl before ↦ inl (left.0, before, left.2) | inr none ↦ absurd none ];
}

pub over_again : (schema : Schema) (old new : State) → IsOver schema old → IsUnchanged old new → IsOver schema new
over_again schema old new own same = record {
  autocommit = same.0.mode ∙ own.autocommit;
  schema_is = ap (λ (d : Database). d.schema) same.0.now_is ∙ own.schema_is;
  sound = λ is_open. subst IsDatabase (sym same.0.now_is) (own.sound same.0.was_open);
  settled = λ is_open. same.0.now_is ∙ (own.settled same.0.was_open ∙ sym same.0.committed_is);
}

pub told_again : (old new : State) → doubt old.is_clean ≤ doubt new.is_clean → HasCleanDisk new → IsUnchanged old new → told old ≡ told new
told_again old new falls clean same =
    let now = clean_of new.is_clean clean in
    told_is old (was_clean old new falls now) same.0.was_open ∙ (ap (λ (d : Database). rows_in d.trees) (sym same.0.now_is) ∙ sym (told_is new now same.0.is_open))

module _ (row : Row) (low : row.kind < 2 ^ 8) (small_num : row.num < 2 ^ 32) (old mid new : State) (own : IsOver rows_schema old) (first : Survives old mid (λ _. ⊥)) (same : HasCleanDisk mid → IsUnchanged old mid)
    (text : List ℕ) (text_is : HasCleanDisk mid → text ≡ upsert_text) (last : Survives mid new (CommitsBy text (values_of row) mid)) where
  clean_mid : IsTrue new.is_clean → HasCleanDisk mid
  clean_mid clean = no_doubt mid.is_clean (was_clean mid new last.clean clean)

  over : IsTrue new.is_clean → IsOver rows_schema mid
  over clean = over_again rows_schema old mid own (same (clean_mid clean))

  as_before : IsTrue new.is_clean → told old ≡ told mid
  as_before clean = told_again old mid first.clean (clean_mid clean) (same (clean_mid clean))

  known : (r : Result ℕ Error) → (HasCleanDisk new → Executes text (values_of row) mid new r) → HasCleanDisk new → Executes upsert_text (values_of row) mid new r
  known r runs clean = subst (λ t. Executes t (values_of row) mid new r) (text_is (clean_mid (clean_of new.is_clean clean))) (runs clean)

  committing : Survives mid new (CommitsBy upsert_text (values_of row) mid)
  committing = record {
    clean = last.clean;
    shield = last.shield;
    counts = last.counts;
    limit = last.limit;
    closes = last.closes;
    crash = λ clean db left. subst (λ t. mid.may_leave db ⊎ CommitsBy t (values_of row) mid db) (text_is (clean_mid (clean_of new.is_clean clean))) (last.crash clean db left);
  }

  pub then_kept : (count : ℕ) → (HasCleanDisk new → Executes text (values_of row) mid new (Ok count)) → ToldFollow (told old) (told new) (put row)
  then_kept count runs rows is =
      let t = tells new rows is in
      let it = row_kept row low small_num mid (over t.clean) new count last.clean (known (Ok count) runs) rows is in
      (it.0, as_before t.clean ∙ it.1, it.2)

  pub then_told : (count : ℕ) → (HasCleanDisk new → Executes text (values_of row) mid new (Ok count)) → StillTold (told old) (told new) (stop_of new) (put row)
  then_told count runs clean before is = row_told row low small_num mid (over clean) new count (known (Ok count) runs) clean before (sym (as_before clean) ∙ is)

  pub then_undone : (e : Error) → (HasCleanDisk new → Executes text (values_of row) mid new (Err e)) → ToldFollow (told old) (told new) (λ rows. rows)
  then_undone e runs rows is =
      let t = tells new rows is in
      let it = undone_rows rows_schema mid new (over t.clean) last.clean (λ clean. not_executed mid new text (values_of row) e (runs clean)) rows is in
      (it.0, as_before t.clean ∙ it.1, it.2)

  pub then_settled : (count : ℕ) → (HasCleanDisk new → Executes text (values_of row) mid new (Ok count)) → ((db : Trees) → IsTrue new.is_open → new.may_leave db → db ≡ new.committed.trees) → LeavesTold (told new) (stop_of new)
  then_settled count runs settled rows left is leaves = row_settled row low small_num mid (over (tells new rows is).clean) new count (known (Ok count) runs) settled rows left is leaves

  pub then_stops : StopsAsBefore (stop_of old) (stop_of new) (Changed (told old) (put row))
  then_stops = record {
    told = λ clean. was_clean old mid first.clean (was_clean mid new last.clean clean);
    leaves = λ clean rows left. elim ((row_stops row low small_num mid (over clean) new (same (clean_mid clean)).0.is_open committing).leaves clean rows left) [
      | inl there ↦ elim (first.crash (clean_mid clean) there.0 there.1) [ inl before ↦ inl (there.0, before, there.2) | inr none ↦ absurd none ]
      | inr changed ↦ inr (changed.0, as_before clean ∙ changed.1, changed.2)
    ];
  }

-- ---- the same connection

pub rows_stay : (now : Option (List Row)) → ToldFollow now now (λ rows. rows)
rows_stay now rows is = (rows, is, refl)

pub stop_stays : (stop : Stop) (Also : List Row → Type 0) → StopsAsBefore stop stop Also
stop_stays stop Also = record { told = λ is. is; leaves = λ is rows left. inl left }

pub rows_twice : (a b c : Option (List Row)) → ToldFollow a b (λ rows. rows) → ToldFollow b c (λ rows. rows) → ToldFollow a c (λ rows. rows)
rows_twice a b c p q rows is = let x = q rows is in let y = p x.0 x.1 in (y.0, y.1, x.2 ∙ y.2)

pub stop_twice : (a b c : Stop) → StopsAsBefore a b NoOther → StopsAsBefore b c NoOther → StopsAsBefore a c NoOther
stop_twice a b c p q = record {
  told = λ is. p.told (q.told is);
  leaves = λ is rows left. elim (q.leaves is rows left) [ inl there ↦ p.leaves (q.told is) rows there | inr none ↦ absurd none ];
}

pub still_told : (s : State) → StillTold (told s) (told s) (stop_of s) (λ rows. rows)
still_told s clean rows is = is

pub still_twice : (a b c : Option (List Row)) (middle last : Stop) → StillTold a b middle (λ rows. rows) → (IsTrue last.is_told → IsTrue middle.is_told) → StillTold b c last (λ rows. rows) → StillTold a c last (λ rows. rows)
still_twice a b c middle last p back q is rows told = q is rows (p (back is) rows told)
