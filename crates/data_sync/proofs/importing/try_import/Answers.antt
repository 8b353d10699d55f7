use Rattle.std.proofs.Common.{◌≡◌, ap, Result, Ok, Err, OnErr}
use Rattle.state_laws.specs.Kernel.{state_of}
use Rattle.private_state.specs.MovingLaws.{plain_state}
use Rattle.data_sync.specs.TakingLaws.{is_waits, waited, took}
use Rattle.data_sync.proofs.importing.try_import.Goals as goal

on_err : {X E : Type 0} (P : Type 0) (r : Result X E) → P → OnErr r P
on_err P (Ok x) h = tt
on_err P (Err e) h = h

pub returns-in_err-import-clause-err : goal.returns-in_err-import-clause-err
returns-in_err-import-clause-err c =
    on_err (state_of c.import.new.self ≡ state_of c.args.state.now) c.from_residual.result (plain_state c.args.state.now c.import.new.self c.in_err-import.ensures.err)

pub returns-in-Waits-clause-ok : goal.returns-in-Waits-clause-ok
returns-in-Waits-clause-ok c = waited (state_of c.args.state.now) (state_of c.import.new.self) c.args.entry.now c.args.solver c.in_ok-import.field-0 c.in_ok-import.ensures.answer c.in_ok-import.ensures.state (ap is_waits c.in-Waits.is)

pub returns-in-Taken-clause-ok : goal.returns-in-Taken-clause-ok
returns-in-Taken-clause-ok c = took (state_of c.args.state.now) (state_of c.import.new.self) c.args.entry.now c.args.solver c.in_ok-import.field-0 c.requires c.in_ok-import.ensures.answer c.in_ok-import.ensures.state (ap is_waits c.in-Taken.is) c.given_by_other.result c.given_by_other.ensures

pub returns-in-Trivial-clause-ok : goal.returns-in-Trivial-clause-ok
returns-in-Trivial-clause-ok c = took (state_of c.args.state.now) (state_of c.import.new.self) c.args.entry.now c.args.solver c.in_ok-import.field-0 c.requires c.in_ok-import.ensures.answer c.in_ok-import.ensures.state (ap is_waits c.in-Trivial.is) c.given_by_other-in-Trivial.result c.given_by_other-in-Trivial.ensures
