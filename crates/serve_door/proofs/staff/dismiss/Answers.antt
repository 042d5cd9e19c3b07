use Rattle.std.proofs.Common.{◌≡◌, ◌∙◌, ◌++◌, ◌∷◌, [], List, ap}
use Rattle.serve_door.specs.Inner.{door_posts, hall_posts}
use Rattle.serve_door.specs.Working.{Post, Posts, all_together, together, workers_at}
use Rattle.serve_door.specs.declared.serving.Stopped.{Stopped}
use Rattle.serve_door.proofs.Employed.{door_posts_at, hall_posts_at}
use Rattle.serve_door.proofs.staff.dismiss.Goals as goal

door_of : (workers : List Posts) (doors handles at_halls : List Post) (main hall : Post) → doors ≡ door_posts workers
    → workers ≡ workers_at (handles ++ main ∷ []) (at_halls ++ hall ∷ []) → doors ≡ handles ++ main ∷ []
door_of workers doors handles at_halls main hall collected is =
    collected ∙ (ap (λ (w : List Posts). door_posts w) is ∙ door_posts_at (handles ++ main ∷ []) (at_halls ++ hall ∷ []))

halls_of : (workers : List Posts) (halls handles at_halls : List Post) (main hall : Post) → halls ≡ hall_posts workers
    → workers ≡ workers_at (handles ++ main ∷ []) (at_halls ++ hall ∷ []) → halls ≡ at_halls ++ hall ∷ []
halls_of workers halls handles at_halls main hall collected is =
    collected ∙ (ap (λ (w : List Posts). hall_posts w) is ∙ hall_posts_at (handles ++ main ∷ []) (at_halls ++ hall ∷ []))

pub close_posts-door-requires : goal.close_posts-door-requires
close_posts-door-requires g c =
    let (handles, at_halls, main, hall, is) = c.requires.all in
    (handles, main, door_of _ _ handles at_halls main hall c.collect.ensures.doors is)

pub close_posts-halls-requires : goal.close_posts-halls-requires
close_posts-halls-requires g c =
    let (handles, at_halls, main, hall, is) = c.requires.all in
    (at_halls, hall, halls_of _ _ handles at_halls main hall c.collect.ensures.halls is)

pub returns-clause-door : goal.returns-clause-door
returns-clause-door g c = λ handles at_halls main hall is.
    c.close_posts-door.ensures.door handles main (door_of _ _ handles at_halls main hall c.collect.ensures.doors is)

pub returns-clause-halls : goal.returns-clause-halls
returns-clause-halls g c = λ handles at_halls main hall is.
    c.close_posts-halls.ensures.door at_halls hall (halls_of _ _ handles at_halls main hall c.collect.ensures.halls is)

pub returns-clause-stopped : goal.returns-clause-stopped
returns-clause-stopped g c = λ handles at_halls main hall is.
    c.together.ensures
    ∙ (ap (λ (s : Stopped). together s c.close_posts-halls.result.1)
    (c.close_posts-door.ensures.stopped handles main (door_of _ _ handles at_halls main hall c.collect.ensures.doors is))
    ∙ ap (λ (s : Stopped). together (all_together main.stopped handles) s)
    (c.close_posts-halls.ensures.stopped at_halls hall (halls_of _ _ handles at_halls main hall c.collect.ensures.halls is)))
