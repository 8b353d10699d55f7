-- Which parts of a run may cross threads. Each is proved apart, since one search for the whole is too long.
use denote.RattleType.{RattleType}
use denote.Ref.{NamedLft}
use denote.Param.Send.{IsSend, IsSync, sendable}
use Rattle.std.proofs.Crossing.{crosses}
use Rattle.share_turn.specs.contracts.exchange.Exchange as Exchange
use Rattle.share_turn.specs.contracts.pass.Pass as Pass
use Rattle.share_turn.proofs.exchange.Exchange.TheSendSync as exchange
use Rattle.share_turn.proofs.pass.Pass.TheSendSync as pass
use Rattle.private_state.proofs.state.PrivateState.TheSendSync as state
use Rattle.data_sync.proofs.book.SyncBook.TheSendSync as book
use Rattle.search.specs.contracts.search.Search as Search
use Rattle.one_solver.specs.contracts.solver.OneSolver as OneSolver
use Rattle.sat_ports.specs.declared.Alarm.{Ghosts}
use Rattle.race.specs.contracts.runner.Runner as Runner
use Rattle.race.specs.contracts.task.Task as Task

search_send : IsSend Search.the_row
search_send = search (sendable, crosses) depth 60 fits 20000

pub solver_send : IsSend OneSolver.the_row
solver_send = search (state.the_send, book.the_send, search_send, sendable, crosses) depth 60 fits 20000

pub pass_send : IsSend Pass.the_row
pass_send = pass.the_send

pub exchange_sync : IsSync Exchange.the_row
exchange_sync = exchange.the_sync

pub runner_send : (l : NamedLft) (T : RattleType) (g : Ghosts T.Denot) → IsSend T → IsSend (Runner.the_row l T g)
runner_send l T g s = search (solver_send, pass_send, exchange_sync, sendable, crosses) depth 60 fits 20000

pub task_sync : (l : NamedLft) (T : RattleType) → IsSync T → IsSync (Task.the_row l T)
task_sync l T s = search (sendable, crosses) depth 60 fits 20000
