use Rattle.sat_api.proofs.Pouring.{HasPoured}
use Rattle.sat_api.proofs.solvers.pour_all.Given as goal

abbrev pub invariant-solvers : goal.invariant-solvers
invariant-solvers l = HasPoured l.fn.solvers l.solvers l.place l.fn.tally l.tally
