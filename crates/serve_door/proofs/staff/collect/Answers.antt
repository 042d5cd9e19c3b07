use Rattle.std.proofs.Common.{◌≡◌, ◌∙◌, ◌++◌, ◌∷◌, [], List, Option, ap, arith, length-append, sym}
use Rattle.serve_door.specs.Inner.{listed}
use Rattle.serve_door.specs.Working.{Post, Posts}
use Rattle.serve_door.proofs.Employed.{posts_more}
use Rattle.serve_door.proofs.staff.collect.Goals as goal

pub workers-preserved : goal.workers-preserved
workers-preserved g c =
    let so_far = c.workers.invariant in
    let worker = c.in-Some.worker in
    let yielded = c.workers.yielded in
    let more = length-append yielded (worker ∷ []) in
    record {
      doors = c.keep.ensures.kept
          ∙ (ap (λ (post : Option Post). c.workers.doors.items ++ listed post) c.into_posts-door.ensures.door
          ∙ (ap (λ (list : List Post). list ++ listed worker.door) so_far.doors ∙ sym (posts_more (λ (w : Posts). listed w.door) yielded worker)));
      halls = c.keep-in-workers.ensures.kept
          ∙ (ap (λ (post : Option Post). c.workers.halls.items ++ listed post) c.into_posts-door.ensures.halls
          ∙ (ap (λ (list : List Post). list ++ listed worker.halls) so_far.halls ∙ sym (posts_more (λ (w : Posts). listed w.halls) yielded worker)));
      doors_few = omega (arith, so_far.doors_few, c.keep.ensures.few, more);
      halls_few = omega (arith, so_far.halls_few, c.keep-in-workers.ensures.few, more);
      doors_room = c.keep.ensures.capacity ∙ so_far.doors_room;
      halls_room = c.keep-in-workers.ensures.capacity ∙ so_far.halls_room;
    }
