-- Workers one after another, and one more.
use Rattle.std.proofs.Common.{◌≡◌, ◌∙◌, ◌++◌, ◌+◌, ℕ, List, [], ◌∷◌, length, map, refl, ap, arith, length-append}
use Rattle.serve_door.specs.Doors.{Doorway, given_and_back, with_faults_of}
use Rattle.serve_door.specs.Working.{AreHired, Post, all_together, together, with_handles}
use Rattle.serve_door.specs.declared.serving.Stopped.{Stopped}

pub unchanged : {A : Type 0} (xs : List A) → map (λ x. x) xs ≡ xs
unchanged [] = refl
unchanged {A} (x ∷ xs) = ap (λ (ys : List A). x ∷ ys) (unchanged xs)

-- lists with a last item are the same where these and what stands before them are
pub last_same : {A : Type 0} (xs ys : List A) (x y : A) → xs ++ x ∷ [] ≡ ys ++ y ∷ [] → (xs ≡ ys) × (x ≡ y)
last_same [] [] x y is = (refl, cc is)
last_same [] (b ∷ ys) x y is = absurd (let long = length-append ys (y ∷ []) in let same = ap length is in omega (arith, long, same))
last_same (a ∷ xs) [] x y is = absurd (let long = length-append xs (x ∷ []) in let same = ap length is in omega (arith, long, same))
last_same (a ∷ xs) (b ∷ ys) x y is =
    let first : a ≡ b = cc is in
    let others : xs ++ x ∷ [] ≡ ys ++ y ∷ [] = cc is in
    let (front, last) = last_same xs ys x y others in
    (ap (λ c. c ∷ xs) first ∙ ap (λ more. b ∷ more) front, last)

pub handles_more : (door : Doorway) (list : List Post) (post : Post) → with_faults_of (with_handles door list) post.doorway ≡ with_handles door (list ++ post ∷ [])
handles_more door [] post = refl
handles_more door (first ∷ more) post = handles_more (with_faults_of door first.doorway) more post

pub together_more : (stopped : Stopped) (list : List Post) (post : Post) → together (all_together stopped list) post.stopped ≡ all_together stopped (list ++ post ∷ [])
together_more stopped [] post = refl
together_more stopped (first ∷ more) post = together_more (together stopped first.stopped) more post

-- a door that took handles back gave as many as before
pub handles_same : (door : Doorway) (handles : List Post) → given_and_back (with_handles door handles) ≡ given_and_back door
handles_same door [] = refl
handles_same door (post ∷ more) = handles_same (with_faults_of door post.doorway) more

-- and so did one whose handles were taken back unused
pub hired_same : (door door' : Doorway) (others : ℕ) (posts : List Post) → (hired : AreHired door others posts)
    → ((handles : List Post) (main : Post) → posts ≡ handles ++ main ∷ [] → door' ≡ with_handles main.doorway handles) → given_and_back door' ≡ given_and_back door
hired_same door door' others posts hired closed =
    ap given_and_back (closed hired.handles hired.main hired.all) ∙ (handles_same hired.main.doorway hired.handles ∙ ap given_and_back hired.main_is)

-- the same of posts that were handed back
pub back_same : (door door' : Doorway) (others : ℕ) (posts posts' : List Post) → AreHired door others posts → posts' ≡ posts
    → ((handles : List Post) (main : Post) → posts' ≡ handles ++ main ∷ [] → door' ≡ with_handles main.doorway handles) → given_and_back door' ≡ given_and_back door
back_same door door' others posts posts' hired same closed = hired_same door door' others posts hired (λ handles main is. closed handles main (same ∙ is))
