-- For proofs alone, beside what a reader must believe: what stands between private functions.
use Rattle.std.specs.Prelude.{List, [], ◌∷◌, Option, Some, None}
use Rattle.std.specs.List.{flat_map}
use Rattle.serve_door.specs.Working.{Post, Posts}

-- a post, where there is one
abbrev pub listed : Option Post → List Post
listed None = []
listed (Some post) = post ∷ []

-- the posts of workers at the door, and at the halls
abbrev pub door_posts : List Posts → List Post
door_posts workers = flat_map (λ (worker : Posts). listed worker.door) workers

abbrev pub hall_posts : List Posts → List Post
hall_posts workers = flat_map (λ (worker : Posts). listed worker.halls) workers
