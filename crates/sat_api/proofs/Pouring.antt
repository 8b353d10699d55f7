-- The conflicts of all solvers are poured into a tally.
use Rattle.std.proofs.Common.{◌≡◌, ℕ, ◌+◌, ◌-◌, ◌*◌, ◌^◌, ◌<◌, ◌≤◌, min, List, [], ◌++◌, All, map, length, take, drop, get_or, set, None, Some, IfSome, refl, sym, ap, subst, ◌∙◌, ⊎_elim, inl, inr, arith, length-append, append-nil}
use Rattle.std.specs.Prelude.{sum_by}
use Rattle.std.specs.declared.option.Option.{Option}
use Rattle.std.proofs.lemmas.List.{get_or-append_right, get_or-drop, get_or-map, get_or_default, length-map, length-take-le, take_all, drop_all}
use Rattle.std.proofs.lemmas.List.Edits.{map_over_more}
use Rattle.std.proofs.lemmas.List.Sums.{sum_by_more, sum_by-le}
use Rattle.analyze.specs.Counting.{saturated}
use Rattle.sat_lits.specs.Meaning.{Problem}
use Rattle.sat_lits.specs.declared.shared.Shared.{Shared}
use Rattle.one_solver.specs.Parts.{Parts, problem_in}
use Rattle.one_solver.specs.InStep.{IsInStep, in_step_with, with_in_step}
use Rattle.race.specs.Running.{IsWithin}
use Rattle.race.specs.Homes.{EachPlace, IsEntrant, IsSettledHome}
use Rattle.race.specs.Laws.{home_front}
use Rattle.sat_api.specs.Answers.{poured}

abbrev pub conflicts_in : Parts → ℕ
conflicts_in s = s.conflicts

-- the conflicts of the first solvers were poured
pub record HasPoured (before now : List Parts) (place tally_before tally_now : ℕ) : Type 0 where
  pub each : now ≡ map poured (take place before) ++ drop place before
  pub sum : tally_now ≡ saturated tally_before (sum_by (λ s. s.conflicts) (take place before))

pub poured_none : (before : List Parts) (tally : ℕ) → tally < 2 ^ 64 → HasPoured before before 0 tally tally
poured_none before tally fits = record { each = refl; sum = omega (arith, fits) }

twice : (a b c : ℕ) → saturated (saturated a b) c ≡ saturated a (b + c)
twice a b c = omega arith

-- the solver at a place is as it was
pub unpoured : (before now : List Parts) (place : ℕ) (d : Parts) → place < length before → now ≡ map poured (take place before) ++ drop place before → get_or now place d ≡ get_or before place d
unpoured before now place d within each =
    let front : length (map poured (take place before)) ≡ place = length-map (take place before) poured ∙ length-take-le place before (omega (arith, within)) in
    ap (λ (xs : List Parts). get_or xs place d) each
    ∙ (get_or-append_right (map poured (take place before)) (drop place before) place place d front (omega arith)
    ∙ (get_or-drop place before (place - place) d ∙ ap (λ (n : ℕ). get_or before n d) (omega arith)))

-- a solver more was poured
pub poured_more : (before now : List Parts) (place tally_before tally_now tally_new : ℕ) (s t : Parts) → place < length before → s ≡ get_or now place s → t ≡ poured s → tally_new ≡ saturated tally_now s.conflicts
    → HasPoured before now place tally_before tally_now → HasPoured before (set now place t) (place + 1) tally_before tally_new
poured_more before now place tally_before tally_now tally_new s t within is new sum h =
    let same : s ≡ get_or before place s = is ∙ unpoured before now place s within h.each in
    let made : s.conflicts ≡ (get_or before place s).conflicts = ap (λ (p : Parts). p.conflicts) same in
    record {
      each = ap (set now place) new ∙ map_over_more poured before now place s within h.each is;
      sum = sum ∙ ap (λ n. saturated n s.conflicts) h.sum ∙ twice tally_before (sum_by (λ p. p.conflicts) (take place before)) s.conflicts
          ∙ ap (saturated tally_before) (ap (λ n. sum_by (λ p. p.conflicts) (take place before) + n) made ∙ sym (sum_by_more (λ p. p.conflicts) before place s within));
    }

-- the same for the solver that a reading with a default finds
pub poured_next : (before now : List Parts) (place tally_before tally_now tally_new : ℕ) (d t : Parts) → place < length before → t ≡ poured (get_or now place d) → tally_new ≡ saturated tally_now (get_or now place d).conflicts
    → HasPoured before now place tally_before tally_now → HasPoured before (set now place t) (place + 1) tally_before tally_new
poured_next before now place tally_before tally_now tally_new d t within new sum h =
    let s : Parts = get_or now place d in
    let at : s ≡ get_or now place s = unpoured before now place d within h.each ∙ (get_or_default before place d s within ∙ sym (unpoured before now place s within h.each)) in
    poured_more before now place tally_before tally_now tally_new s t within at new sum h

-- all were poured
pub poured_all : (before now : List Parts) (place tally_before tally_now : ℕ) → length before ≤ place → HasPoured before now place tally_before tally_now
    → (now ≡ map poured before) × (tally_now ≡ saturated tally_before (sum_by (λ s. s.conflicts) before))
poured_all before now place tally_before tally_now past h = (
  h.each ∙ ap (λ (xs : List Parts). map poured (take place before) ++ xs) (drop_all place before past) ∙ append-nil (map poured (take place before)) ∙ ap (map poured) (take_all place before past),
  h.sum ∙ ap (λ (xs : List Parts). saturated tally_before (sum_by (λ s. s.conflicts) xs)) (take_all place before past),
)

-- a fact on each solver, after all were poured
pub poured_each : (P Q : ℕ → Parts → Type 0) → ((k : ℕ) (s : Parts) → P k s → Q k (poured s)) → (before now : List Parts) → now ≡ map poured before → EachPlace P before → EachPlace Q now
poured_each P Q on before now is each k d within =
    let w : k < length before = omega (arith, ap length is ∙ length-map before poured, within) in
    subst (Q k) (sym (ap (λ (xs : List Parts). get_or xs k d) is ∙ get_or-map poured before k d d w)) (on k (get_or before k d) (each k d w))

poured_in_step : (s : Parts) (log : List Shared) → IsInStep s log → IsInStep (poured s) log
poured_in_step s log h = with_in_step (poured s) log (in_step_with s log h)

none_within : (limit : Option ℕ) → IsWithin limit 0
none_within None = tt
none_within (Some most) = omega arith

-- a solver may enter a race again
pub poured_enters : (limit : Option ℕ) (f : Problem) (log : List Shared) (k : ℕ) (s : Parts) → IsSettledHome limit f log k s → IsEntrant f log k (poured s)
poured_enters limit f log k s h = record { number = h.number; front = home_front limit f log k s h; conflicts = refl; in_step = poured_in_step s log h.in_step }

-- no more is poured than the limit allows each
pub poured_within : (limit : Option ℕ) (f : Problem) (log : List Shared) (before : List Parts) (tally_before tally_now : ℕ) → EachPlace (IsSettledHome limit f log) before → tally_now ≡ saturated tally_before (sum_by (λ s. s.conflicts) before)
    → IfSome limit (λ most. tally_now ≤ tally_before + length before * most)
poured_within None f log before tally_before tally_now each sum = tt
poured_within (Some most) f log before tally_before tally_now each sum =
    let within : All (λ (s : Parts). s.conflicts ≤ most) before = λ k d w. (each k d w).within in
    omega (arith, sum, sum_by-le (λ (s : Parts). s.conflicts) most before within)
