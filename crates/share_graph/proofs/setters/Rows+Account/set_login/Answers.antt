use Rattle.std.proofs.Common.{None, ◌<◌, refl, subst, true≢false}
use Rattle.share_graph.specs.Clues.{account_clues, no_link}
use Rattle.share_graph.specs.Setting.{with_login}
use Rattle.share_graph.proofs.ChangedRow.{sets_row}
use Rattle.share_graph.proofs.Keeping.{others_known, rows_learn}
use Rattle.share_graph.proofs.setters.Rows+Account.set_login.Goals as goal

pub learn-requires-clause-others : goal.learn-requires-clause-others
learn-requires-clause-others c = others_known account_clues (λ row. None) (λ row. no_link) (with_login c.args.login) c.self.inside.items c.self.inside.index c.self.inside.ways c.in-Some.place c.index_mut.result.now refl
    (subst (λ n. c.in-Some.place < n) c.len.ensures c.in-Some.ensures.1) c.index_mut.ensures.value refl c.self.invariant

pub invariant_of-self : goal.invariant_of-self
invariant_of-self c = rows_learn account_clues (λ row. None) (λ row. no_link) (with_login c.args.login) c.self.inside.items c.self.inside.index c.self.inside.ways c.in-Some.place c.index_mut.result.now refl
    (subst (λ n. c.in-Some.place < n) c.len.ensures c.in-Some.ensures.1) c.index_mut.ensures.value c.learn.new.index _ c.learn.ensures.index (λ fed. absurd (true≢false fed)) c.self.invariant

pub invariant_of-self-else-learn : goal.invariant_of-self-else-learn
invariant_of-self-else-learn c = rows_learn account_clues (λ row. None) (λ row. no_link) (with_login c.args.login) c.self.inside.items c.self.inside.index c.self.inside.ways c.in-Some.place c.index_mut.result.now refl
    (subst (λ n. c.in-Some.place < n) c.len.ensures c.in-Some.ensures.1) c.index_mut.ensures.value c.learn.new.index _ c.learn.ensures.index (λ fed. (fed, c.learn.ensures.covered c.if-learn.false)) c.self.invariant

pub returns-then-learn : goal.returns-then-learn
returns-then-learn c = rw (← c.self.view_is, ← c.from.ensures) (sets_row (with_login c.args.login) _ _ _ c.index_mut.result.now c.in-Some.ensures.0 c.index_mut.ensures.value)

pub returns-else-learn : goal.returns-else-learn
returns-else-learn c = rw (← c.self.view_is, ← c.from.ensures) (sets_row (with_login c.args.login) _ _ _ c.index_mut.result.now c.in-Some.ensures.0 c.index_mut.ensures.value)
