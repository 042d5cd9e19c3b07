-- What the creation and the selection make of the rows that are told, and of what a stop may leave.
use Rattle.std.proofs.Common.{◌≡◌, ◌⊎◌, inl, inr, ℕ, Bool, true, false, List, [], ◌∷◌, map, Option, Some, None, Result, Ok, Err, IsTrue, refl, sym, ap, subst, ◌∙◌}
use Rattle.std.specs.List.{AllZip}
use Rattle.std.proofs.lemmas.List.Sorted.{IsPermutation-sym}
use Rattle.sqlite_value.specs.declared.value.Value.TheVariants.{Null}
use Rattle.sqlite_value.specs.Order.{Row as Values}
use Rattle.sqlite_sql.specs.Program.{overlay}
use Rattle.sqlite_sql.specs.Term.{Env}
use Rattle.sqlite_sql.specs.Query.{IsAnswer, Output, output}
use Rattle.sqlite_trees.specs.Tree.{Trees}
use Rattle.sqlite_trees.specs.Objects.{catalog_tree}
use Rattle.sqlite_trees.proofs.Doubt.{no_doubt}
use Rattle.sqlite_rules.specs.Lists.{Has}
use Rattle.sqlite_catalog.specs.Listing.{IsSound}
use Rattle.sqlite.specs.declared.error.Error.{Error}
use Rattle.sqlite.specs.declared.run.Mode.{Mode}
use Rattle.sqlite.specs.Change.{created, next_tree}
use Rattle.sqlite.specs.Clock.{timed}
use Rattle.sqlite.specs.Command.TheVariants.{CreateTable}
use Rattle.sqlite.specs.Does.{Tally, Does, lacks_sequence}
use Rattle.sqlite.specs.Effect.{Database}
use Rattle.sqlite.specs.Listing.{understood}
use Rattle.sqlite.specs.Schema.{Schema}
use Rattle.sqlite.specs.State.{State, HasCleanDisk, mode_of, Executes, Shown, ShowsRows, FailsToQuery, FailsToShow, IsUnchanged, IsRolledBack, Survives, CommitsBy, CommitsShowing}
use Rattle.sqlite.proofs.Callers.{IsPlain, statement_of, runs_as, reads_as, never_commits}
use Rattle.cloud_keeper.specs.declared.row.Row.{Row}
use Rattle.cloud_keeper.specs.Keeping.{InOrder, NoOther}
use Rattle.sql_keeper.specs.Schema.{no_schema, rows_schema, rows_table}
use Rattle.sql_keeper.specs.Statements.{create_text, select_text, Stores}
use Rattle.sql_keeper.specs.Told.{kept}
use Rattle.sql_keeper.specs.KeptRows.{rows_listed, rows_in, told, Stop, stop_of, StopsAsBefore, ToldFollow, StillTold, LeavesTold, IsOver}
use Rattle.sql_keeper.proofs.Texts.{ordered_rows, create_is, create_plain, select_is, select_plain}
use Rattle.sql_keeper.proofs.KeptLemmas.{each_fits}
use Rattle.sql_keeper.proofs.Tied.{chosen, has_chosen}
use Rattle.sql_keeper.proofs.Upserting.{went, same_value}
use Rattle.sql_keeper.proofs.Replacing.{chosen_has, has_mapped, has_map, has_permuted}
use Rattle.sql_keeper.proofs.Members.{shown_of, read_rows}
use Rattle.sql_keeper.proofs.Keeps.{rows_are, no_rows_are, tells, told_is, was_clean, same_rows, undone_rows, not_run, not_executed, commits_as, over_again, told_again}

-- while a connection is open, outside a transaction, a stop leaves the rows that are told
pub only_told : (s : State) → (IsTrue s.is_open → s.now ≡ s.committed) → ((db : Trees) → IsTrue s.is_open → s.may_leave db → db ≡ s.committed.trees) → LeavesTold (told s) (stop_of s)
only_told s committed settled rows left is leaves =
    let t = tells s rows is in
    let db : leaves.0 ≡ s.now.trees = settled leaves.0 t.is_open leaves.1 ∙ ap (λ (d : Database). d.trees) (sym (committed t.is_open)) in
    let both : Some left ≡ Some rows = sym leaves.2 ∙ (ap rows_in db ∙ t.rows_are) in
    cc

-- ---- THE SELECTION

shown_unchanged : (old new : State) (all : List Values) → IsOver rows_schema old → Shown select_text [] old new all → IsUnchanged old new
unfolding Shown
shown_unchanged old new all own h =
    let known = sym h.1.is ∙ ap (λ s. understood s select_text) own.schema_is in
    let bare = subst IsPlain (sym known) select_plain in
    (subst (ShowsRows old new select_text h.0 (timed [] h.0.formats h.1.now) all) bare.0 h.2).3

not_queried : (old new : State) (e : Error) → IsOver rows_schema old → FailsToQuery select_text [] old new e → IsUnchanged old new ⊎ IsRolledBack old new
unfolding FailsToQuery
not_queried old new e own (inl h) = not_run old new select_text [] e h
not_queried old new e own (inr h) =
    let known = sym h.1.is ∙ ap (λ s. understood s select_text) own.schema_is in
    let bare = subst IsPlain (sym known) select_plain in
    inl (subst (FailsToShow old new select_text h.0 (timed [] h.0.formats h.1.now) e) bare.0 h.2).3

module _ (db : Trees) (all : List Values) (a : IsAnswer ordered_rows (overlay db []) [] all) where
  abbrev env : Values → Env
  env r = [] ∷ r ∷ []

  abbrev any : Values → Bool
  any r = true

  all_is : a.kept ≡ map (output ordered_rows) (chosen any env (db 0))
  all_is = a.distinct ∙ ap (map (output ordered_rows)) a.grouped

  shows_only : (v : Values) → Has all v → (r : Values) × Has (db 0) r × (v ≡ shown_of r)
  shows_only v there =
      let o = has_mapped (λ (p : Output). p.1) a.ordered v (subst (λ (l : List Values). Has l v) a.shown there) in
      let k = has_permuted a.ordered a.kept (IsPermutation-sym a.kept a.ordered a.same) o.0 o.1 in
      let m = has_mapped (output ordered_rows) (chosen any env (db 0)) o.0 (subst (λ (l : List Output). Has l o.0) all_is k) in
      let c = chosen_has any env (db 0) m.0 m.1 in
      (c.0, c.1, o.2 ∙ (ap (λ (p : Output). p.1) m.2 ∙ ap (λ (e : Env). (output ordered_rows e).1) c.3))

  shows_each : (r : Values) → Has (db 0) r → Has all (shown_of r)
  shows_each r there =
      let m = has_map (output ordered_rows) (chosen any env (db 0)) (env r) (has_chosen any env (db 0) r there refl) in
      let o = has_permuted a.kept a.ordered a.same (output ordered_rows (env r)) (subst (λ (l : List Output). Has l (output ordered_rows (env r))) (sym all_is) m) in
      subst (λ (l : List Values). Has l (shown_of r)) (sym a.shown) (has_map (λ (p : Output). p.1) a.ordered (output ordered_rows (env r)) o)

module _ (old new : State) (own : IsOver rows_schema old) (survives : Survives old new (CommitsShowing select_text [] old)) where
  -- what was read, in order, is what is told
  pub read_told : (all : List Values) (items : List Row) → (HasCleanDisk new → Shown select_text [] old new all) → AllZip Stores all items → InOrder items → (rows : List Row) → told new ≡ Some rows → items ≡ rows
  read_told all items shows zipped ordered rows is =
      let t = tells new rows is in
      let shown = shows (no_doubt new.is_clean t.clean) in
      let same = shown_unchanged old new all own shown in
      let db = old.now.trees in
      let sound : IsSound rows_schema db = subst (λ (s : Schema). IsSound s db) own.schema_is (own.sound same.0.was_open) in
      let here : kept (db 0) ≡ Some rows = sym (rows_are db sound) ∙ (ap (λ (d : Database). rows_in d.trees) (sym same.0.now_is) ∙ t.rows_are) in
      let a = (reads_as select_text [] old new rows_schema own.schema_is _ select_is.0 select_plain select_is.1 all shown).answer Null in
      read_rows (db 0) all items rows (shows_only db all a) (shows_each db all a) (each_fits (db 0) rows here) zipped ordered here

  pub read_same : (all : List Values) → (HasCleanDisk new → Shown select_text [] old new all) → ToldFollow (told old) (told new) (λ rows. rows)
  read_same all shows = same_rows old new survives.clean (λ clean. shown_unchanged old new all own (shows clean))

  pub read_still : (all : List Values) → (HasCleanDisk new → Shown select_text [] old new all) → StillTold (told old) (told new) (stop_of new) (λ rows. rows)
  read_still all shows clean rows is =
      let none = no_doubt new.is_clean clean in
      sym (told_again old new survives.clean none (shown_unchanged old new all own (shows none))) ∙ is

  pub unread_same : (e : Error) → (HasCleanDisk new → FailsToQuery select_text [] old new e) → ToldFollow (told old) (told new) (λ rows. rows)
  unread_same e fails = undone_rows rows_schema old new own survives.clean (λ clean. not_queried old new e own (fails clean))

  pub read_settled : (all : List Values) → (HasCleanDisk new → Shown select_text [] old new all) → ((db : Trees) → IsTrue new.is_open → new.may_leave db → db ≡ new.committed.trees) → LeavesTold (told new) (stop_of new)
  read_settled all shows settled rows left is leaves =
      let clean = no_doubt new.is_clean (tells new rows is).clean in
      only_told new (over_again rows_schema old new own (shown_unchanged old new all own (shows clean))).settled settled rows left is leaves

  pub read_stops : StopsAsBefore (stop_of old) (stop_of new) NoOther
  read_stops = record {
    told = λ clean. was_clean old new survives.clean clean;
    leaves = λ clean rows left. elim (survives.crash (no_doubt new.is_clean clean) left.0 left.1) [
      | inl before ↦ inl (left.0, before, left.2)
      | inr commits ↦ absurd (never_commits select_text [] old left.0 (subst (λ (s : Schema). IsPlain (understood s select_text)) (sym own.schema_is) select_plain) commits)
    ];
  }

-- ---- THE CREATION

made_empty : (limit : Option ℕ) (mode : Mode) (db after : Database) (tally : Tally) → db.schema ≡ no_schema
    → Does limit mode [] db (statement_of create_text (understood no_schema create_text)) None CreateTable (Ok (tally, after)) → after.trees 0 ≡ []
made_empty limit mode db after tally has does =
    let all = went does in
    let first = went all.1 in
    let made = first.1 in
    let both : Ok made.table ≡ Ok rows_table = sym made.defined ∙ create_is.1 in
    let same : made.table ≡ rows_table = cc in
    let schema : first.0.schema ≡ rows_schema = made.is ∙ ap (λ s. created s made.table) has ∙ ap (created no_schema) same in
    let plain : lacks_sequence first.0.schema ≡ false = ap lacks_sequence schema in
    let now : after ≡ first.0 = ap (λ (p : Tally × Database). p.1) (same_value all.2) ∙ same_value (rw plain at first.2) in
    ap (λ (d : Database). d.trees 0) now ∙ subst (λ s. first.0.trees (next_tree s) ≡ []) has made.empty

no_rows : (db : Trees) → db 0 ≡ [] → rows_in db ≡ Some []
no_rows db empty = go (db catalog_tree)
  where
    go : (objects : List Values) → rows_listed objects (db 0) ≡ Some []
    go [] = refl
    go (object ∷ objects) = ap kept empty

module _ (old mid new : State) (own : IsOver no_schema old) (first : Survives old mid (λ _. ⊥)) (same : HasCleanDisk mid → IsUnchanged old mid) (text : List ℕ) (text_is : HasCleanDisk mid → text ≡ create_text)
    (last : Survives mid new (CommitsBy text [] mid)) where
  clean_mid : IsTrue new.is_clean → HasCleanDisk mid
  clean_mid clean = no_doubt mid.is_clean (was_clean mid new last.clean clean)

  over : IsTrue new.is_clean → IsOver no_schema mid
  over clean = over_again no_schema old mid own (same (clean_mid clean))

  as_before : IsTrue new.is_clean → told old ≡ told mid
  as_before clean = told_again old mid first.clean (clean_mid clean) (same (clean_mid clean))

  none_mid : IsTrue new.is_clean → rows_in mid.now.trees ≡ Some []
  none_mid clean =
      let o = over clean in
      no_rows_are mid.now.trees (subst (λ (s : Schema). IsSound s mid.now.trees) o.schema_is (o.sound (same (clean_mid clean)).0.is_open))

  pub made_same : (r : Result ℕ Error) → (HasCleanDisk new → Executes text [] mid new r) → ToldFollow (told old) (told new) (λ rows. rows)
  made_same (Err e) runs rows is =
      let t = tells new rows is in
      let it = undone_rows no_schema mid new (over t.clean) last.clean (λ clean. not_executed mid new text [] e (runs clean)) rows is in
      (it.0, as_before t.clean ∙ it.1, it.2)
  made_same (Ok count) runs rows is =
      let t = tells new rows is in
      let o = over t.clean in
      let ran = subst (λ x. Executes x [] mid new (Ok count)) (text_is (clean_mid t.clean)) (runs (no_doubt new.is_clean t.clean)) in
      let w = runs_as create_text [] mid new no_schema o.schema_is CreateTable create_is.0 create_plain count ran in
      let none = no_rows new.now.trees (made_empty mid.step_limit (mode_of mid) mid.now new.now w.tally o.schema_is w.changed) in
      let both : Some [] ≡ Some rows = sym none ∙ t.rows_are in
      let empty : [] ≡ rows = cc in
      ([], as_before t.clean ∙ (told_is mid (was_clean mid new last.clean t.clean) w.shown.was_open ∙ none_mid t.clean), sym empty)

  pub made_still : (count : ℕ) → (HasCleanDisk new → Executes text [] mid new (Ok count)) → StillTold (told old) (told new) (stop_of new) (λ rows. rows)
  made_still count runs clean rows is =
      let o = over clean in
      let ran = subst (λ x. Executes x [] mid new (Ok count)) (text_is (clean_mid clean)) (runs (no_doubt new.is_clean clean)) in
      let w = runs_as create_text [] mid new no_schema o.schema_is CreateTable create_is.0 create_plain count ran in
      let none = no_rows new.now.trees (made_empty mid.step_limit (mode_of mid) mid.now new.now w.tally o.schema_is w.changed) in
      let was = told_is mid (was_clean mid new last.clean clean) w.shown.was_open ∙ none_mid clean in
      told_is new clean w.shown.is_open ∙ (none ∙ (sym was ∙ (sym (as_before clean) ∙ is)))

  -- What the creation commits has no rows, as the last commit, which a stop could leave before.
  pub made_stops : (IsTrue mid.is_open → mid.may_leave mid.committed.trees) → StopsAsBefore (stop_of old) (stop_of new) NoOther
  made_stops stays = record {
    told = λ clean. was_clean old mid first.clean (was_clean mid new last.clean clean);
    leaves = λ clean rows left.
        let o = over clean in
        let is_open = (same (clean_mid clean)).0.is_open in
        let back : (db : Trees) → mid.may_leave db → rows_in db ≡ Some rows → (stop_of old).may_leave rows ⊎ NoOther rows = λ db leaves is.
        elim (first.crash (clean_mid clean) db leaves) [ inl before ↦ inl (db, before, is) | inr none ↦ absurd none ] in
        elim (last.crash (no_doubt new.is_clean clean) left.0 left.1) [
          | inl there ↦ back left.0 there left.2
          | inr commits ↦
              elim (commits_as create_text [] mid no_schema o.schema_is CreateTable create_is.0 create_plain left.0 (subst (λ x. CommitsBy x [] mid left.0) (text_is (clean_mid clean)) commits)) [
                | inl ends ↦ absurd (elim ends.0 [ inl e ↦ let x = e in cc | inr e ↦ let x = e.2 in cc ])
                | inr may ↦
                    let none = no_rows may.2.trees (made_empty mid.step_limit (mode_of mid) mid.now may.2 may.1 o.schema_is may.3) in
                    let both : Some [] ≡ Some rows = sym none ∙ (ap rows_in (sym may.5) ∙ left.2) in
                    let last_commit : rows_in mid.committed.trees ≡ Some [] = ap (λ (d : Database). rows_in d.trees) (sym (o.settled is_open)) ∙ none_mid clean in
                    back mid.committed.trees (stays is_open) (last_commit ∙ both)
              ]
        ];
  }
