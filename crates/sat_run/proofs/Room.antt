-- The room for some commands, and what they name.
use Rattle.std.proofs.Common.{◌≡◌, ℕ, zero, suc, ◌+◌, ◌<◌, ◌≤◌, max, true, List, [], ◌∷◌, ◌++◌, length, map, take, get_or, nat_lt, refl, ap, ◌∙◌, arith}
use Rattle.std.specs.Prelude.{sum_by}
use Rattle.std.specs.List.{list_all}
use Rattle.std.proofs.lemmas.Bool.{and_from, lt-ltb}
use Rattle.std.proofs.lemmas.List.{map-append, take_more, length-map}
use Rattle.std.proofs.lemmas.List.Sums.{sum_by-append, sum_by-cons}
use Rattle.sat_lits.specs.Limits.{LimitNumbers, standard_limits}
use Rattle.sat_lits.specs.Meaning.{Problem}
use Rattle.sat_lits.specs.Formulas.{no_problem, numbers_of, lit_count}
use Rattle.sat_api.specs.State.{SolverState}
use Rattle.dimacs_text.specs.Commands.{items_of, greatest, named_by, literals_in, AreWithin}
use Rattle.dimacs_text.specs.declared.command.Command.{Command}
use Rattle.dimacs_text.specs.declared.command.Command.TheVariants.{Clause, Parity, Grow, Solve}
use Rattle.sat_run.specs.Questions.{after, after_all, problem_of}
use Rattle.sat_run.specs.Progress.{HasRoomFor}

greatest-append : (xs ys : List ℕ) → greatest (xs ++ ys) ≡ max (greatest xs) (greatest ys)
greatest-append [] ys = omega arith
greatest-append (x ∷ xs) ys = let e = greatest-append xs ys in omega arith

-- no number is above the greatest
pub within_greatest : {X : Type 0} (f : X → ℕ) (xs : List X) (i : ℕ) (d : X) → i < length xs → f (get_or xs i d) ≤ greatest (map f xs)
within_greatest f [] i d h = absurd (omega arith)
within_greatest f (x ∷ xs) zero d h = omega arith
within_greatest f (x ∷ xs) (suc i) d h = let e = within_greatest f xs i d (omega arith) in omega arith

-- one number more
pub greatest_more : {X : Type 0} (f : X → ℕ) (xs : List X) (i n : ℕ) (d : X) → i < length xs → n ≡ greatest (map f (take i xs)) → max n (f (get_or xs i d)) ≡ greatest (map f (take (i + 1) xs))
greatest_more f xs i n d h e =
    let last = get_or xs i d ∷ [] in
    let k : greatest (map f (take (i + 1) xs)) ≡ max (greatest (map f (take i xs))) (greatest (map f last)) =
    ap (λ ys. greatest (map f ys)) (take_more xs i d h) ∙ ap greatest (map-append f (take i xs) last) ∙ greatest-append (map f (take i xs)) (map f last) in
    omega (arith, k, e)

-- where there are as many variables as are named, they are there
pub greatest_knows : {X : Type 0} (f : X → ℕ) (vars : ℕ) (xs : List X) → greatest (map (λ x. suc (f x)) xs) ≤ vars → list_all (λ n. nat_lt n vars) (map f xs) ≡ true
greatest_knows f vars [] h = refl
greatest_knows f vars (x ∷ xs) h = and_from _ _ (lt-ltb (f x) vars (omega arith)) (greatest_knows f vars xs (omega arith))

-- the items of a command have no more literals than it has
items_few : (c : Command) → lit_count (items_of c) ≤ literals_in c
items_few (Clause lits) = omega (arith, length-map lits (λ l. l.var.0))
items_few (Parity vars rhs) = omega (arith, length-map vars (λ v. v.0))
items_few (Grow to) = omega arith
items_few (Solve lits) = omega arith

lits_after : (f : Problem) (c : Command) → lit_count (after f c).items ≤ lit_count f.items + literals_in c
lits_after f c = omega (arith, sum_by-append (λ item. length (numbers_of item)) f.items (items_of c), items_few c)

-- the variables and the literals behind commands
vars_after : (f : Problem) (cs : List Command) → (after_all f cs).vars ≡ max f.vars (greatest (map named_by cs))
vars_after f [] = omega arith
vars_after f (c ∷ cs) = let e = vars_after (after f c) cs in omega arith

lits_after_all : (f : Problem) (cs : List Command) → lit_count (after_all f cs).items ≤ lit_count f.items + sum_by literals_in cs
lits_after_all f [] = omega arith
lits_after_all f (c ∷ cs) = omega (arith, lits_after_all (after f c) cs, lits_after f c, sum_by-cons literals_in c cs)

-- behind a command there is room for the others
pub room_rest : (c : Command) (cs : List Command) (s t : SolverState) → HasRoomFor (c ∷ cs) s → t.problem ≡ after s.problem c → t.limits ≡ s.limits → HasRoomFor cs t
room_rest c cs s t h p l =
    record {
      limits = l ∙ h.limits;
      vars = omega (arith, ap (λ (f : Problem). f.vars) p, h.vars, h.named);
      named = omega (arith, h.named);
      few = omega (arith, h.few, ap (λ (f : Problem). lit_count f.items) p, lits_after s.problem c, sum_by-cons literals_in c cs);
    }

-- what the reader hands on has room, behind what it gave before
pub room_behind : (limits : LimitNumbers) (given commands : List Command) (s : SolverState) → limits.vars ≤ standard_limits.vars → limits.lits ≤ standard_limits.lits → s.problem ≡ problem_of given → s.limits ≡ standard_limits
    → AreWithin limits (given ++ commands) → HasRoomFor commands s
room_behind limits given commands s lv ll p l w =
    let named : greatest (map named_by (given ++ commands)) ≡ max (greatest (map named_by given)) (greatest (map named_by commands)) =
    ap greatest (map-append named_by given commands) ∙ greatest-append (map named_by given) (map named_by commands) in
    record {
      limits = l;
      vars = omega (arith, ap (λ (f : Problem). f.vars) p, vars_after no_problem given, named, w.named, lv);
      named = omega (arith, named, w.named, lv);
      few = omega (arith, ap (λ (f : Problem). lit_count f.items) p, lits_after_all no_problem given, sum_by-append literals_in given commands, w.few, ll);
    }
