-- The questions of a text: each with the formula of the commands before it.
use Rattle.std.specs.Prelude.{max, List, [], ◌∷◌, ◌++◌}
use Rattle.sat_lits.specs.Meaning.{Problem}
use Rattle.sat_lits.specs.Formulas.{no_problem}
use Rattle.sat_lits.specs.declared.literal.Lit.{Lit}
use Rattle.dimacs_text.specs.Grammar.{Reading}
use Rattle.dimacs_text.specs.Lists.{End, Ended, Refused, Open}
use Rattle.dimacs_text.specs.Commands.{items_of, named_by}
use Rattle.dimacs_text.specs.declared.command.Command.{Command}
use Rattle.dimacs_text.specs.declared.command.Command.TheVariants.{Clause, Parity, Grow, Solve}

-- a formula, and the literals that are to be true
pub record Question : Type 0 where
  pub problem : Problem
  pub assumptions : List Lit

abbrev pub question : Problem → List Lit → Question
question f assumptions = record { problem = f; assumptions = assumptions }

-- the formula after a command: it has as many variables as the command names, and its items at the end
abbrev pub after : Problem → Command → Problem
after f command = record { vars = max f.vars (named_by command); items = f.items ++ items_of command }

-- the formula after commands in order
abbrev pub after_all : Problem → List Command → Problem
after_all f [] = f
after_all f (command ∷ commands) = after_all (after f command) commands

-- the formula of a list of commands
abbrev pub problem_of : List Command → Problem
problem_of commands = after_all no_problem commands

-- what a command asks, behind commands with this formula: its own variables count too
abbrev pub asked : Problem → Command → List Question
asked f (Clause lits) = []
asked f (Parity vars rhs) = []
asked f (Grow to) = []
asked f (Solve assumptions) = question (after f (Solve assumptions)) assumptions ∷ []

-- what commands ask in order, behind commands with this formula
abbrev pub questions_from : Problem → List Command → List Question
questions_from f [] = []
questions_from f (command ∷ commands) = asked f command ++ questions_from (after f command) commands

-- the question at the end of a text, without assumptions, where the text is not refused
abbrev pub closing : End → Problem → List Question
closing Ended f = question f [] ∷ []
closing (Refused why) f = []
closing Open f = []

-- the questions of a text
abbrev pub questions_of : Reading → List Question
questions_of r = questions_from no_problem r.commands ++ closing r.end (problem_of r.commands)
