use Rattle.std.proofs.Common.{List, sym, subst}
use Rattle.std.specs.List.{filter_map}
use Rattle.std.specs.Range.{range_inclusive_start, range_inclusive_end}
use Rattle.std.proofs.lemmas.Result.{IfOk-weaker}
use Rattle.host_base.specs.declared.ids.GrainId.{GrainId}
use Rattle.least_access.specs.Entered.{AreEntered, entered_by}
use Rattle.least_access.specs.Solved.{Table}
use Rattle.least_access.proofs.OwnNodes.{entered_between}
use Rattle.least_access.proofs.solving.Solved.entered.Goals as goal

pub returns : goal.returns
returns c =
    let a = c.args.account in
    let entered = entered_between a c.self.inside.table c.range.result (range_inclusive_start c.new.result) (range_inclusive_end c.new.result) c.new.ensures.start c.new.ensures.end
    (c.range.ensures.between c.new.ensures.exhausted) (c.range.ensures.in_range c.new.ensures.exhausted) c.range.ensures.ordered in
    let seen = subst (λ (table : Table). AreEntered table a (filter_map entered_by c.range.result)) c.self.view_is entered in
    IfOk-weaker c.grains_of.result _ _ (λ grains same. subst (λ (xs : List GrainId). AreEntered c.args.self.now a xs) (sym same) seen) c.grains_of.ensures
