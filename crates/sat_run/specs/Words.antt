-- What the words of the command line say.
use Rattle.std.specs.Prelude.{ℕ, ◌^◌, Bool, true, false, ◌&&◌, List, [], ◌∷◌, Some, None, length, drop, codes, nat_eq, nat_lt, nat_le, if◌then◌else◌}
use Rattle.std.specs.declared.option.Option.{Option}
use Rattle.std.specs.List.{starts_with}
use Rattle.std.specs.Option.{option_and_then, option_map}
use Rattle.std.specs.Str.{bytes_eq, all_ascii_digits}
use Rattle.std.specs.Str.Parse.{digits_value}
use Rattle.sat_lits.specs.Limits.{standard_limits}
use Rattle.sat_api.specs.State.{SolverState}
use Rattle.sat_run.specs.declared.words.Options.{Options}
use Rattle.sat_run.specs.declared.words.Setting.{Setting}
use Rattle.sat_run.specs.declared.words.Setting.TheVariants.{MaxConflicts, MaxInput, ThreadCount}
use Rattle.sat_run.specs.declared.words.Chosen.{Chosen}

-- one to twenty decimal digits, whose number is one of 64 bits
abbrev pub is_number : List ℕ → Bool
is_number word = all_ascii_digits word && (nat_lt 0 (length word) && (nat_le (length word) 20 && nat_lt (digits_value 10 word) (2 ^ 64)))

-- the number that a word is
abbrev pub number_of : List ℕ → Option ℕ
number_of word = if is_number word then Some (digits_value 10 word) else None

-- the number that stands in a word behind this beginning
abbrev pub number_behind : List ℕ → List ℕ → Option ℕ
number_behind begin word = if starts_with nat_eq word begin then number_of (drop (length begin) word) else None

-- the option whose name a word is
abbrev pub setting_of : List ℕ → Option Setting
setting_of word =
    if bytes_eq word (codes "--maxconfl")
    then Some MaxConflicts
    else if bytes_eq word (codes "--max-input")
    then Some MaxInput
    else if bytes_eq word (codes "--threads")
    then Some ThreadCount
    else None

-- the options with this conflict limit, if none was given before
abbrev pub with_limit : Options → ℕ → Option Options
with_limit options limit = elim options.max_conflicts [ None ↦ Some (record options { max_conflicts = Some limit }) | Some earlier ↦ None ]

-- the options with this limit on input, if it is at most the standard one and none was given before
abbrev pub with_input : Options → ℕ → Option Options
with_input options most = elim options.max_input [ None ↦ if nat_le most standard_limits.input then Some (record options { max_input = Some most }) else None | Some earlier ↦ None ]

-- whether the limits allow so many threads
abbrev pub allows_threads : ℕ → Bool
allows_threads count = nat_lt 0 count && nat_le count standard_limits.threads

-- the options with this number of threads, if the limits allow it and none was given before
abbrev pub with_threads : Options → ℕ → Option Options
with_threads options count = elim options.threads [ None ↦ if allows_threads count then Some (record options { threads = Some count }) else None | Some earlier ↦ None ]

-- the options with shared clauses listed, if that was not said before
abbrev pub with_shared : Options → Option Options
with_shared options = if options.print_shared then None else Some (record options { print_shared = true })

-- the options with one of them set to a number
abbrev pub with_setting : Options → Setting → ℕ → Option Options
with_setting options MaxConflicts number = with_limit options number
with_setting options MaxInput number = with_input options number
with_setting options ThreadCount number = with_threads options number

-- the options behind a word that is the number of an option named before
abbrev pub with_number : Options → Setting → List ℕ → Option Options
with_number options setting word = option_and_then (with_setting options setting) (number_of word)

-- the options behind a word that is an option without a number, or an option's name, an equals sign and its number
abbrev pub with_word : Options → List ℕ → Option Options
with_word options word =
    if bytes_eq word (codes "--print-shared")
    then with_shared options
    else if starts_with nat_eq word (codes "--maxconfl=")
    then option_and_then (with_limit options) (number_behind (codes "--maxconfl=") word)
    else if starts_with nat_eq word (codes "--max-input=")
    then option_and_then (with_input options) (number_behind (codes "--max-input=") word)
    else option_and_then (with_threads options) (number_behind (codes "--threads=") word)

-- these options, with no option named whose number is still to come
abbrev pub settled : Options → Chosen
settled options = record { options = options; named = None }

-- what is chosen behind a word more: an option is one word, or its name and then its number
abbrev pub chosen_with : Chosen → List ℕ → Option Chosen
chosen_with chosen word = elim chosen.named [
  | Some setting ↦ option_map settled (with_number chosen.options setting word)
  | None ↦ elim (setting_of word) [
    | Some setting ↦ Some (record chosen { named = Some setting })
    | None ↦ option_map settled (with_word chosen.options word)
  ]
]

-- the options that words give behind others; None where a word is not taken, or the last one is a name alone
abbrev pub options_after : Chosen → List (List ℕ) → Option Options
options_after chosen [] = elim chosen.named [ None ↦ Some chosen.options | Some setting ↦ None ]
options_after chosen (word ∷ words) = option_and_then (λ next. options_after next words) (chosen_with chosen word)

-- the options where there is no word
abbrev pub no_options : Options
no_options = record { threads = None; max_conflicts = None; max_input = None; print_shared = false }

-- the options that the words give; None where they are not taken
abbrev pub options_of : List (List ℕ) → Option Options
options_of words = options_after (settled no_options) words

-- the number of threads
abbrev pub threads_of : Options → ℕ
threads_of options = elim options.threads [ None ↦ 1 | Some count ↦ count ]

-- a solver with the options set
abbrev pub with_options : Options → SolverState → SolverState
with_options options s = record s { threads = threads_of options; max_conflicts = options.max_conflicts }

-- the greatest number of bytes that a text may have
abbrev pub input_of : Options → ℕ
input_of options = elim options.max_input [ None ↦ standard_limits.input | Some most ↦ most ]
