use denote.Param.Send.{sendable}
use Rattle.std.proofs.Crossing.{crosses}
use Rattle.race.proofs.Crossing.{solver_send, pass_send, exchange_sync}
use Rattle.race.proofs.threads.run_others.Goals as goal

pub for_each_mut-requires-send-T : goal.for_each_mut-requires-send-T
for_each_mut-requires-send-T g c κs within = search (solver_send, pass_send, exchange_sync, sendable, crosses) depth 60 fits 20000
