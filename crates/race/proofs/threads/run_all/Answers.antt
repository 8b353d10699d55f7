use denote.Param.Send.{sendable}
use Rattle.race.proofs.Crossing.{runner_send, task_sync}
use Rattle.race.proofs.threads.run_all.Goals as goal

pub join_mut-requires-send-F : goal.join_mut-requires-send-F
join_mut-requires-send-F g c κs within = search (runner_send, task_sync, sendable) depth 60 fits 20000
