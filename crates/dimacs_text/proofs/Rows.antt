-- The grammar on small texts.
use Rattle.std.proofs.Common.{ℕ, zero, suc, ◌≡◌, refl, Bool, true, false, List, [], ◌∷◌, codes, map}
use Rattle.sat_lits.specs.Limits.{LimitNumbers, standard_limits}
use Rattle.sat_lits.specs.declared.literal.Lit.{Lit}
use Rattle.dimacs_text.specs.Walk.{is_blank, word, after_word, walk}
use Rattle.dimacs_text.specs.Tokens.{number_after, number, signed, literal_token, is_judged}
use Rattle.dimacs_text.specs.Comments.{line, after_line, is_line_judged, skip_blanks, behind, behind_bracket, kind_named, kind_behind, kind, inside, is_closed}
use Rattle.dimacs_text.specs.Lists.{End, Ended, Refused, Open, literal_met, token_turn, comment_in_list, literal_turn, literals_end, literals, solve_met, solve_turn, solve_literals, growth_met, growth_turn, growth, solve_in, growth_in, said}
use Rattle.dimacs_text.specs.Headers.{format_met, variables_met, clauses_met, header_met, header_turn, header_end, header}
use Rattle.dimacs_text.specs.Grammar.{Reading, read, reading_of, front_reading, first_met, comment_turn, opening, opened, token_phrase, phrase, text_end, reading_from}
use Rattle.dimacs_text.specs.declared.command.Command.{Command}
use Rattle.dimacs_text.specs.declared.command.Command.TheVariants.{Clause, Parity, Grow, Solve}
use Rattle.dimacs_text.specs.declared.refusal.Refusal.TheVariants.{BadToken, VarTooLarge, TooManyLits, Truncated, TooLong}

abbrev standard : LimitNumbers
standard = standard_limits

-- the reading of a text, by all of the grammar
unfoldable value : LimitNumbers → List ℕ → Reading
unfolding reading_of front_reading read is_blank word after_word walk number_after number signed literal_token is_judged line after_line is_line_judged skip_blanks behind behind_bracket kind_named kind_behind kind inside is_closed literal_met token_turn comment_in_list literal_turn literals_end literals first_met format_met variables_met clauses_met header_met header_turn header_end header solve_met solve_turn solve_literals growth_met growth_turn growth solve_in growth_in said comment_turn opening opened token_phrase phrase text_end reading_from
value limits text = reading_of limits text

-- the literal of a variable, counted from 1
abbrev lit : ℕ → Lit
lit zero = record { var = record { 0 = 0 }; negative = false }
lit (suc v) = record { var = record { 0 = v }; negative = false }

-- its negation
abbrev neg : ℕ → Lit
neg zero = record { var = record { 0 = 0 }; negative = true }
neg (suc v) = record { var = record { 0 = v }; negative = true }

-- the parity of variables, counted from 0
abbrev parity : List ℕ → Bool → Command
parity vars rhs = Parity (map (λ v. record { 0 = v }) vars) rhs

abbrev gives : List Command → End → Reading
gives commands end = record { commands = commands; end = end }

clause_cut : value standard (codes "1 2") ≡ gives [] (Refused (Truncated 3))
unfolding value
clause_cut = refl

letter : value standard (codes "1 a 0\n") ≡ gives [] (Refused (BadToken 2))
unfolding value
letter = refl

large_variable : value standard (codes "16777216 0\n") ≡ gives [] (Refused (VarTooLarge 0))
unfolding value
large_variable = refl

long_text : value (record standard { input = 4 }) (codes "1 0\n2 0\n") ≡ gives (Clause (lit 1 ∷ []) ∷ []) (Refused (TooLong 4))
unfolding value
long_text = refl

command_in_clause : value standard (codes "1 c Solver::solve( )\n0\n") ≡ gives [] (Refused (BadToken 2))
unfolding value
command_in_clause = refl

command_cut_by_line : value standard (codes "c Solver::solve( 1\n") ≡ gives [] (Refused (BadToken 18))
unfolding value
command_cut_by_line = refl

clauses_over_lines : value standard (codes "1\n2 0 -1 0 -2\nc between the lines\n3 0\n") ≡ gives (Clause (lit 1 ∷ lit 2 ∷ []) ∷ Clause (neg 1 ∷ []) ∷ Clause (neg 2 ∷ lit 3 ∷ []) ∷ []) Ended
unfolding value
clauses_over_lines = refl

satlib_text : value standard (codes "c uf\np cnf 2 2\n1 -2 0\n2 0\n%\n0\n") ≡ gives (Grow 2 ∷ Clause (lit 1 ∷ neg 2 ∷ []) ∷ Clause (lit 2 ∷ []) ∷ []) Ended
unfolding value
satlib_text = refl

two_more : value standard (codes "c Solver::new_vars( 2 )\n-2 0\n") ≡ gives (Grow 2 ∷ Clause (neg 2 ∷ []) ∷ []) Ended
unfolding value
two_more = refl

parity_with_minus : value standard (codes "x-1 2 0\n1 0\n") ≡ gives (parity (0 ∷ 1 ∷ []) false ∷ Clause (lit 1 ∷ []) ∷ []) Ended
unfolding value
parity_with_minus = refl

parity_with_repeats : value standard (codes "x1 1 0\nx0\n") ≡ gives (parity (0 ∷ 0 ∷ []) true ∷ parity [] true ∷ []) Ended
unfolding value
parity_with_repeats = refl

solve_after_clause : value standard (codes "1 -2 0\nc Solver::solve( 1 -2 )\n") ≡ gives (Clause (lit 1 ∷ neg 2 ∷ []) ∷ Solve (lit 1 ∷ neg 2 ∷ []) ∷ []) Ended
unfolding value
solve_after_clause = refl

all_commands : value standard (codes "c a small circuit\np cnf 4 5\n1 2 0\nx2 3 4 0\nc Solver::solve( 1 -3 )\n-4 0\nc Solver::solve()\n") ≡ gives (Grow 4 ∷ Clause (lit 1 ∷ lit 2 ∷ []) ∷ parity (1 ∷ 2 ∷ 3 ∷ []) true ∷ Solve (lit 1 ∷ neg 3 ∷ []) ∷ Clause (neg 4 ∷ []) ∷ Solve [] ∷ []) Ended
unfolding value
all_commands = refl

clause_without_line_end : value standard (codes "1 2 0") ≡ gives (Clause (lit 1 ∷ lit 2 ∷ []) ∷ []) Ended
unfolding value
clause_without_line_end = refl

many_literals : value (record standard { lits = 3 }) (codes "1 2 0 1 2 0") ≡ gives (Clause (lit 1 ∷ lit 2 ∷ []) ∷ []) (Refused (TooManyLits 8))
unfolding value
many_literals = refl

-- each further refusal
zero_in_solve : value standard (codes "c Solver::solve( 1 0 )\n") ≡ gives [] (Refused (BadToken 19))
unfolding value
zero_in_solve = refl

second_number : value standard (codes "c Solver::new_vars( 1 2 )\n") ≡ gives [] (Refused (BadToken 22))
unfolding value
second_number = refl

no_number : value standard (codes "c Solver::new_vars( )\n") ≡ gives [] (Refused (BadToken 20))
unfolding value
no_number = refl

unclosed_at_end : value standard (codes "c Solver::solve( 1") ≡ gives [] (Refused (Truncated 18))
unfolding value
unclosed_at_end = refl

percent_in_clause : value standard (codes "1 %") ≡ gives [] (Refused (Truncated 2))
unfolding value
percent_in_clause = refl

bad_header : value standard (codes "p cnf -1 2\n") ≡ gives [] (Refused (BadToken 6))
unfolding value
bad_header = refl

large_header : value standard (codes "p cnf 16777216 2\n") ≡ gives [] (Refused (VarTooLarge 6))
unfolding value
large_header = refl

comment_in_header : value standard (codes "p\ncnf c 2\n") ≡ gives [] (Refused (BadToken 6))
unfolding value
comment_in_header = refl

-- the reading of a front of a text
unfoldable front : LimitNumbers → List ℕ → Reading
unfolding value read
front limits text = read false limits text

token_at_end_open : front standard (codes "1 2 0") ≡ gives [] Open
unfolding front value
token_at_end_open = refl

comment_at_end_open : front standard (codes "c Solver::solve( 1 )") ≡ gives [] Open
unfolding front value
comment_at_end_open = refl

command_without_line_end : value standard (codes "c Solver::solve( 1 )") ≡ gives (Solve (lit 1 ∷ []) ∷ []) Ended
unfolding value
command_without_line_end = refl

percent_at_once : front standard (codes "1 0 %") ≡ gives (Clause (lit 1 ∷ []) ∷ []) Ended
unfolding front value
percent_at_once = refl

percent_in_limit : value (record standard { input = 5 }) (codes "1 0 %rest") ≡ gives (Clause (lit 1 ∷ []) ∷ []) Ended
unfolding value
percent_in_limit = refl

percent_past_limit : value (record standard { input = 4 }) (codes "1 0 %") ≡ gives (Clause (lit 1 ∷ []) ∷ []) (Refused (TooLong 4))
unfolding value
percent_past_limit = refl

blank_past_limit : value (record standard { input = 3 }) (codes "1 0 ") ≡ gives [] (Refused (TooLong 3))
unfolding value
blank_past_limit = refl

bad_past_limit : value (record standard { input = 3 }) (codes "1 a 0") ≡ gives [] (Refused (TooLong 3))
unfolding value
bad_past_limit = refl

minus_zero : value standard (codes "-0 0") ≡ gives [] (Refused (BadToken 0))
unfolding value
minus_zero = refl

leading_zeros : value standard (codes "0001 00") ≡ gives (Clause (lit 1 ∷ []) ∷ []) Ended
unfolding value
leading_zeros = refl

other_name : value standard (codes "c Solver::solves( 1\n0\n") ≡ gives (Clause [] ∷ []) Ended
unfolding value
other_name = refl

tight_brackets : value standard (codes "c Solver::solve(1 -2)x\n") ≡ gives (Solve (lit 1 ∷ neg 2 ∷ []) ∷ []) Ended
unfolding value
tight_brackets = refl

large_sum : value (record standard { vars = 5 }) (codes "c Solver::new_vars( 3 )\nc Solver::new_vars( 3 )\n") ≡ gives (Grow 3 ∷ []) (Refused (VarTooLarge 44))
unfolding value
large_sum = refl

parity_place : value (record standard { vars = 5 }) (codes "x9 0") ≡ gives [] (Refused (VarTooLarge 0))
unfolding value
parity_place = refl

bad_command_in_clause : value standard (codes "1 c Solver::solve( a\n0\n") ≡ gives [] (Refused (BadToken 2))
unfolding value
bad_command_in_clause = refl

header_at_end : value standard (codes "p cnf 3") ≡ gives [] (Refused (Truncated 7))
unfolding value
header_at_end = refl

header_by_lines : value standard (codes "p\ncnf\n3 c\n") ≡ gives [] (Refused (BadToken 8))
unfolding value
header_by_lines = refl

smaller_header : value standard (codes "4 0\np cnf 2 9\n") ≡ gives (Clause (lit 4 ∷ []) ∷ Grow 4 ∷ []) Ended
unfolding value
smaller_header = refl

percent_in_token : value standard (codes "1% 0") ≡ gives [] (Refused (BadToken 0))
unfolding value
percent_in_token = refl

percent_in_brackets : value standard (codes "c Solver::solve( % )\n") ≡ gives [] (Refused (BadToken 17))
unfolding value
percent_in_brackets = refl

percent_in_header : value standard (codes "p cnf %") ≡ gives [] (Refused (BadToken 6))
unfolding value
percent_in_header = refl

large_negative : value standard (codes "-16777216 0") ≡ gives [] (Refused (VarTooLarge 0))
unfolding value
large_negative = refl

no_number_no_bracket : value standard (codes "c Solver::new_vars( \n") ≡ gives [] (Refused (BadToken 20))
unfolding value
no_number_no_bracket = refl

no_bracket_at_end : value standard (codes "c Solver::new_vars( 2") ≡ gives [] (Refused (Truncated 21))
unfolding value
no_bracket_at_end = refl

parity_many : value (record standard { lits = 0 }) (codes "x1 0") ≡ gives [] (Refused (TooManyLits 0))
unfolding value
parity_many = refl

parity_bad : value standard (codes "xa 0") ≡ gives [] (Refused (BadToken 0))
unfolding value
parity_bad = refl

parity_cut : value standard (codes "x 1") ≡ gives [] (Refused (Truncated 3))
unfolding value
parity_cut = refl

minus_zero_parity : value standard (codes "x-0 0") ≡ gives [] (Refused (BadToken 0))
unfolding value
minus_zero_parity = refl

solve_many : value (record standard { lits = 1 }) (codes "c Solver::solve( 1 2 )\n") ≡ gives [] (Refused (TooManyLits 19))
unfolding value
solve_many = refl

bad_in_brackets_past_limit : value (record standard { input = 20 }) (codes "c Solver::solve( a 1 )\n") ≡ gives [] (Refused (TooLong 20))
unfolding value
bad_in_brackets_past_limit = refl

minus_zeros : value standard (codes "1 -00 0") ≡ gives [] (Refused (BadToken 2))
unfolding value
minus_zeros = refl

p_alone : value standard (codes "p") ≡ gives [] (Refused (Truncated 1))
unfolding value
p_alone = refl

p_comment : value standard (codes "p c") ≡ gives [] (Refused (BadToken 2))
unfolding value
p_comment = refl
