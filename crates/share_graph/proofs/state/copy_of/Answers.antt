use Rattle.std.proofs.Common.{◌≡◌, rules}
use Rattle.share_graph.proofs.AllSame.{all_same}
use Rattle.share_graph.proofs.state.copy_of.Goals as goal

pub returns-in-Ok : goal.returns-in-Ok
returns-in-Ok c =
    let h = c.in-Ok.ensures.cases in
    let accounts : c.in-Ok.copy.tables.accounts ≡ c.args.state.now.tables.accounts = all_same _ _ _ (λ x y k. search rules) h.0.0 in
    let apps : c.in-Ok.copy.tables.apps ≡ c.args.state.now.tables.apps = all_same _ _ _ (λ x y k. search rules) h.0.1.0 in
    let grains : c.in-Ok.copy.tables.grains ≡ c.args.state.now.tables.grains = all_same _ _ _ (λ x y k. search rules) h.0.1.1.0 in
    let grants : c.in-Ok.copy.tables.grants ≡ c.args.state.now.tables.grants = all_same _ _ _ (λ x y k. k) h.0.1.1.1.0 in
    let saved : c.in-Ok.copy.tables.saved ≡ c.args.state.now.tables.saved = all_same _ _ _ (λ x y k. search rules) h.0.1.1.1.1.0 in
    let moment : c.in-Ok.copy.tables.moment ≡ c.args.state.now.tables.moment = h.0.1.1.1.1.1 in
    let sessions : c.in-Ok.copy.sessions ≡ c.args.state.now.sessions = all_same _ _ _ (λ x y k. search rules) h.1.0 in
    let runs : c.in-Ok.copy.runs ≡ c.args.state.now.runs = all_same _ _ _ (λ x y k. search rules) h.1.1.0 in
    let handles : c.in-Ok.copy.handles ≡ c.args.state.now.handles = all_same _ _ _ (λ x y k. search rules) h.1.1.1 in
    λ i. record { tables = record { accounts = accounts i; apps = apps i; grains = grains i; grants = grants i; saved = saved i; moment = moment i }; sessions = sessions i; runs = runs i; handles = handles i }
