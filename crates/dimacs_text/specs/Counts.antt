-- What the state of a reader has counted.
use Rattle.std.specs.Prelude.{ℕ, suc, ◌+◌, ◌≡◌, ◌≤◌, true, List, length, map, sum_by}
use Rattle.sat_lits.specs.Limits.{LimitNumbers}
use Rattle.sat_lits.specs.declared.literal.Lit.{Lit}
use Rattle.dimacs_text.specs.Commands.{greatest, named_by, literals_in}
use Rattle.dimacs_text.specs.CommentSteps.{is_opened}
use Rattle.dimacs_text.specs.declared.arguments.Arguments.{Arguments}
use Rattle.dimacs_text.specs.declared.phrase.Phrase.{Phrase}
use Rattle.dimacs_text.specs.declared.phrase.Phrase.TheVariants.{Nothing, Clause as InClause, Parity as InParity, Header as InHeader}
use Rattle.dimacs_text.specs.declared.phrase.Wanted.TheVariants.{Format, Variables, Clauses}
use Rattle.dimacs_text.specs.declared.state.State.{State}
use Rattle.dimacs_text.specs.declared.command.Command.{Command}

-- the number of variables that literals name
abbrev pub named_in : List Lit → ℕ
named_in lits = greatest (map (λ (l : Lit). suc l.var.0) lits)

-- the number of variables of an open header is within the limit
abbrev pub HeaderFits : ℕ → Phrase → Type 0
HeaderFits vars Nothing = Unit {0}
HeaderFits vars InClause = Unit {0}
HeaderFits vars InParity = Unit {0}
HeaderFits vars (InHeader Format) = Unit {0}
HeaderFits vars (InHeader Variables) = Unit {0}
HeaderFits vars (InHeader (Clauses n)) = n ≤ vars

-- what stands between brackets is counted beside the variables and the literals before it, and within the limits
pub record CountsArguments (limits : LimitNumbers) (vars lits : ℕ) (a : Arguments) : Type 0 where
  pub named : named_in a.lits ≤ a.named
  pub since : vars ≤ a.named
  pub known : a.named ≤ limits.vars
  pub count : lits + length a.lits ≤ a.count
  pub few : a.count ≤ limits.lits

-- the variables and the literals of the commands, of the open list and of what stands between brackets are counted, and within the limits
pub record Counts (commands : List Command) (st : State) : Type 0 where
  pub named : greatest (map named_by commands) ≤ st.named
  pub named_open : named_in st.lits ≤ st.named
  pub known : st.named ≤ st.limits.vars
  pub count : sum_by literals_in commands + length st.lits ≤ st.count
  pub few : st.count ≤ st.limits.lits
  pub header : HeaderFits st.limits.vars st.phrase
  pub arguments : is_opened st.comment ≡ true → CountsArguments st.limits st.named st.count st.arguments
