use Rattle.std.proofs.Common.{◌∙◌, List, ap, sym, arith}
use Rattle.std.proofs.lemmas.Iterator.Adapters.{YieldsList-from_vec}
use Rattle.std.proofs.lemmas.Iterator.Consumers.{YieldsList-end}
use Rattle.serve_door.specs.Doors.{Doorway, with_faults_of}
use Rattle.serve_door.specs.Working.{Post, all_together, together, with_handles}
use Rattle.serve_door.specs.declared.serving.Stopped.{Stopped}
use Rattle.serve_door.proofs.Handles.{handles_more, last_same, together_more, unchanged}
use Rattle.serve_door.proofs.staff.close_posts.Goals as goal

pub handles-preserved : goal.handles-preserved
handles-preserved g c =
    let post = c.in-Some-post.post in
    let so_far = c.handles.invariant in
    record {
      door = λ handles main is.
          c.take_back.ensures ∙ ap (λ (h : Doorway). with_faults_of (g.E.Entrance.doorway c.handles.door) h) c.into_parts-handle.ensures.door
          ∙ ap (λ (d : Doorway). with_faults_of d post.doorway) (so_far.door handles main is) ∙ handles_more main.doorway c.handles.yielded post;
      stopped = λ handles main is.
          c.together-all.ensures ∙ ap (λ (s : Stopped). together c.handles.all s) c.into_parts-handle.ensures.stopped
          ∙ ap (λ (s : Stopped). together s post.stopped) (so_far.stopped handles main is) ∙ together_more main.stopped c.handles.yielded post;
    }

pub returns-clause-door : goal.returns-clause-door
returns-clause-door g c = λ handles main is.
    let rest = c.pop.new.self.items in
    let yielded = c.handles.yielded in
    let made = c.into_iter-post-iterator.ensures.into_iter_gives in
    let whole = YieldsList-from_vec {s = c.into_iter-post-iterator.result} rest made.0 (omega arith) in
    let all = YieldsList-end whole yielded c.handles.post-iterator c.handles.yielded_by c.next.result c.next.new.self c.in-None.is c.next.ensures.steps in
    let same = last_same rest handles c.in-Some.main main (sym c.in-Some.ensures.items ∙ is) in
    c.handles.invariant.door handles main is ∙ ap (λ (list : List Post). with_handles main.doorway list) (sym (unchanged yielded) ∙ all.0 ∙ same.0)

pub returns-clause-stopped : goal.returns-clause-stopped
returns-clause-stopped g c = λ handles main is.
    let rest = c.pop.new.self.items in
    let yielded = c.handles.yielded in
    let made = c.into_iter-post-iterator.ensures.into_iter_gives in
    let whole = YieldsList-from_vec {s = c.into_iter-post-iterator.result} rest made.0 (omega arith) in
    let all = YieldsList-end whole yielded c.handles.post-iterator c.handles.yielded_by c.next.result c.next.new.self c.in-None.is c.next.ensures.steps in
    let same = last_same rest handles c.in-Some.main main (sym c.in-Some.ensures.items ∙ is) in
    c.handles.invariant.stopped handles main is ∙ ap (λ (list : List Post). all_together main.stopped list) (sym (unchanged yielded) ∙ all.0 ∙ same.0)
