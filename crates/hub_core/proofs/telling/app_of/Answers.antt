use Rattle.hub_core.proofs.Adding.{grain_there}
use Rattle.hub_core.proofs.telling.app_of.Goals as goal

pub app_behind-requires : goal.app_behind-requires
app_behind-requires c = grain_there c.args.state.now c.args.event.now c.in-RunStarted.run' c.in-RunStarted.is c.requires
