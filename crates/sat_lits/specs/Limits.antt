-- The limits on what is taken.
use Rattle.std.specs.Prelude.{ℕ, ◌≤◌}

-- the greatest numbers of variables, literals, solver threads and input bytes
pub record LimitNumbers : Type 0 where
  pub vars : ℕ
  pub lits : ℕ
  pub threads : ℕ
  pub input : ℕ

-- the greatest numbers that any limits have
abbrev pub standard_limits : LimitNumbers
standard_limits = record { vars = 16777215; lits = 33554432; threads = 64; input = 2147483648 }

-- no number is greater than the standard one, and there is a thread
pub record IsWithinStandard (numbers : LimitNumbers) : Type 0 where
  pub vars_fit : numbers.vars ≤ standard_limits.vars
  pub lits_fit : numbers.lits ≤ standard_limits.lits
  pub some_thread : 1 ≤ numbers.threads
  pub threads_fit : numbers.threads ≤ standard_limits.threads
  pub input_fits : numbers.input ≤ standard_limits.input
