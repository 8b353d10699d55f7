-- Why a run goes no further.
use Rattle.sat_run.specs.declared.failures.Halt.{Halt}
use Rattle.sat_run.specs.declared.failures.Halt.TheVariants as halt
use Rattle.sat_run.specs.declared.failures.Stop.{Stop}
use Rattle.sat_run.specs.declared.failures.Stop.TheVariants as stop

-- a run whose block is not written whole stops
abbrev pub halted : Halt → Stop
halted halt.Write = stop.Write
halted halt.Memory = stop.Memory
