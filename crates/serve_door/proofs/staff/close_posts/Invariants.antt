use Rattle.std.specs.Prelude.{◌≡◌, ◌++◌, ◌∷◌, [], List}
use Rattle.serve_door.specs.Working.{Post, all_together, with_handles}
use Rattle.serve_door.proofs.staff.close_posts.Given as goal

abbrev pub invariant-handles : goal.invariant-handles
invariant-handles g l = record {
  door : (handles : List Post) (main : Post) → l.fn.posts.items ≡ handles ++ main ∷ [] → g.E.Entrance.doorway l.door ≡ with_handles main.doorway l.yielded;
  stopped : (handles : List Post) (main : Post) → l.fn.posts.items ≡ handles ++ main ∷ [] → l.all ≡ all_together main.stopped l.yielded;
}
