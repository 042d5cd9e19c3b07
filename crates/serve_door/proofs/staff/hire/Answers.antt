use Rattle.std.proofs.Common.{ap}
use Rattle.serve_door.specs.Doors.{given_and_back}
use Rattle.serve_door.proofs.Handles.{back_same, hired_same}
use Rattle.serve_door.proofs.staff.hire.Goals as goal

pub returns-in-Err-make_posts-clause-back : goal.returns-in-Err-make_posts-clause-back
returns-in-Err-make_posts-clause-back g c = (
  hired_same _ _ _ _ c.in-Ok.ensures.hired c.close_posts.ensures.door,
  ap (λ h. given_and_back (g.H.Entrance.doorway h)) c.in-Err-make_posts.ensures.back,
)

pub returns-in-Err-employ-clause-back : goal.returns-in-Err-employ-clause-back
returns-in-Err-employ-clause-back g c = (
  back_same _ _ _ _ _ c.in-Ok.ensures.hired (ap (λ posts. posts.items) c.in-Err-employ.ensures.back.0) c.close_posts-in-Err-employ.ensures.door,
  back_same _ _ _ _ _ c.in-Ok-make_posts.ensures.hired (ap (λ posts. posts.items) c.in-Err-employ.ensures.back.1) c.close_posts-in-Err-employ-2.ensures.door,
)
