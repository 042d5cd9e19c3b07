use Rattle.std.proofs.Common.{◌∙◌, ◌++◌, ◌∷◌, [], List, ap, arith, length-append}
use Rattle.serve_door.specs.Working.{Posts}
use Rattle.serve_door.proofs.Employed.{door_more, doorman}
use Rattle.serve_door.proofs.staff.employ_at_door.Goals as goal

pub posts-preserved : goal.posts-preserved
posts-preserved g c =
    let so_far = c.posts.invariant in
    let more = length-append c.posts.yielded (c.in-Some.post ∷ []) in
    record {
      employed = c.push_reserved.ensures.items
          ∙ (ap (λ (w : Posts). c.posts.workers.items ++ w ∷ []) c.at_door.ensures
          ∙ (ap (λ (list : List Posts). list ++ doorman c.in-Some.post ∷ []) so_far.employed ∙ door_more c.args.workers.now.items c.posts.yielded c.in-Some.post));
      many = omega (arith, so_far.many, c.push_reserved.ensures.len, more);
      capacity = c.push_reserved.ensures.capacity ∙ so_far.capacity;
    }
