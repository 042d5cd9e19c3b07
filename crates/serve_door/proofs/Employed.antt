-- Workers at a door and at halls, and their posts.
use Rattle.std.proofs.Common.{◌≡◌, ◌∙◌, ◌++◌, List, [], ◌∷◌, None, Some, map, refl, ap, sym, append_assoc, append-nil}
use Rattle.std.specs.List.{flat_map}
use Rattle.std.proofs.lemmas.List.{map-append}
use Rattle.std.proofs.lemmas.Grind.{flat_map-append}
use Rattle.serve_door.specs.Inner.{door_posts, hall_posts}
use Rattle.serve_door.specs.Working.{Post, Posts, workers_at}

abbrev pub doorman : Post → Posts
doorman post = record { door = Some post; halls = None }

abbrev pub hallman : Post → Posts
hallman post = record { door = None; halls = Some post }

-- one worker more at the door, and one more at the halls
pub door_more : (workers : List Posts) (posts : List Post) (post : Post) → (workers ++ workers_at posts []) ++ doorman post ∷ [] ≡ workers ++ workers_at (posts ++ post ∷ []) []
door_more workers posts post =
    ap (λ (list : List Posts). (workers ++ list) ++ doorman post ∷ []) (append-nil (map doorman posts))
    ∙ (append_assoc workers (map doorman posts) (doorman post ∷ [])
    ∙ ap (λ (list : List Posts). workers ++ list) (sym (map-append doorman posts (post ∷ [])) ∙ sym (append-nil (map doorman (posts ++ post ∷ [])))))

pub hall_more : (workers : List Posts) (posts : List Post) (post : Post) → (workers ++ workers_at [] posts) ++ hallman post ∷ [] ≡ workers ++ workers_at [] (posts ++ post ∷ [])
hall_more workers posts post =
    append_assoc workers (map hallman posts) (hallman post ∷ [])
    ∙ ap (λ (list : List Posts). workers ++ list) (sym (map-append hallman posts (post ∷ [])))

-- workers at the door, and then those at the halls
pub both_at : (doors halls : List Post) → workers_at doors [] ++ workers_at [] halls ≡ workers_at doors halls
both_at doors halls = ap (λ (list : List Posts). list ++ map hallman halls) (append-nil (map doorman doors))

-- what each of some workers comes to, and one more
pub posts_more : (f : Posts → List Post) (workers : List Posts) (worker : Posts) → flat_map f (workers ++ worker ∷ []) ≡ flat_map f workers ++ f worker
posts_more f workers worker = flat_map-append f workers (worker ∷ []) ∙ ap (λ (list : List Post). flat_map f workers ++ list) (append-nil (f worker))

-- the posts of such workers are those that they were made of
pub door_posts_at : (doors halls : List Post) → door_posts (workers_at doors halls) ≡ doors
door_posts_at [] [] = refl
door_posts_at [] (post ∷ halls) = door_posts_at [] halls
door_posts_at (post ∷ doors) halls = ap (λ (list : List Post). post ∷ list) (door_posts_at doors halls)

pub hall_posts_at : (doors halls : List Post) → hall_posts (workers_at doors halls) ≡ halls
hall_posts_at [] [] = refl
hall_posts_at [] (post ∷ halls) = ap (λ (list : List Post). post ∷ list) (hall_posts_at [] halls)
hall_posts_at (post ∷ doors) halls = hall_posts_at doors halls
