-- What a call that writes a text leaves in the sink.
use Rattle.std.specs.Prelude.{◌≡◌, ℕ, List, OnOk, Err}
use Rattle.std.specs.declared.option.Option.{Option}
use Rattle.std.specs.declared.result.Result.{Result}
use Rattle.std.specs.Io.KnownBytes.{Appends}
use Rattle.sat_ports.specs.Causes.{Rose}
use Rattle.sat_ports.specs.Writes.{AppendsFront}
use Rattle.sat_run.specs.declared.failures.Halt.{Halt}
use Rattle.sat_run.specs.declared.failures.Halt.TheVariants.{Memory, Write}

-- what is told of a source or a sink: the bytes that are left or written, and how often it failed
pub record Port : Type 0 where
  pub bytes : Option (List ℕ)
  pub faults : ℕ

abbrev pub port : Option (List ℕ) → ℕ → Port
port bytes faults = record { bytes = bytes; faults = faults }

-- all of the text is written, or a front of it where the sink failed, or none of it for want of memory
pub record WritesText {X : Type 0} (text : List ℕ) (result : Result X Halt) (before now : Port) : Type 0 where
  pub whole : OnOk result (Appends before.bytes now.bytes text)
  pub kept : OnOk result (now.faults ≡ before.faults)
  pub front : result ≡ Err Write → AppendsFront before.bytes now.bytes text
  pub fault : result ≡ Err Write → Rose before.faults now.faults
  pub none : result ≡ Err Memory → now ≡ before
