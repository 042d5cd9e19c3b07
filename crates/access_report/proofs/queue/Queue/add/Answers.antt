use Rattle.std.proofs.Common.{◌++◌, ◌∷◌, [], List, sym, ◌∙◌, ap, subst}
use Rattle.host_base.specs.declared.ids.GrantId.{GrantId}
use Rattle.access_report.specs.Waiting.{AreListed, IsQueued}
use Rattle.access_report.proofs.Queued.{listed_push, queued_push}
use Rattle.access_report.proofs.queue.Queue.add.Goals as goal

pub invariant_of-self-2 : goal.invariant_of-self-2
invariant_of-self-2 c =
    subst (λ (xs : List GrantId). AreListed c.insert.new.self xs) (sym c.in_ok-push_back.ensures.items)
    (listed_push c.self.inside.there c.insert.new.self c.self.inside.waiting.items c.args.num c.in_ok-insert.ensures.updates c.self.invariant)

pub returns : goal.returns
returns c =
    subst (λ (xs : List GrantId). IsQueued c.args.num c.args.self.now xs) (sym (c.in_ok-push_back.ensures.items ∙ ap (λ (xs : List GrantId). xs ++ c.args.num ∷ []) c.self.view_is))
    (queued_push c.args.num c.args.self.now)
