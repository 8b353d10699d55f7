-- A table by variable beside the literals of a trail.
use Rattle.std.proofs.Common.{◌≡◌, ◌<◌, ◌≤◌, ◌+◌, ◌-◌, ◌^◌, ℕ, Bool, true, false, cond, eqb, ltb, List, [], ◌∷◌, ◌++◌, length, map, reverse, drop, set, get_or, replicate, Option, Some, None, refl, sym, ap, subst, ◌∙◌, arith, ltb-true, lt-ltb, eq-eqb, lit<, max, option_map}
use Rattle.std.proofs.lemmas.Bool.{and_parts, and_from, or_left, or_right, eqb-true, eqb-false, false≢true, ltb-false}
use Rattle.std.proofs.lemmas.List.{get_or-set_same, get_or-set_other, get_or_append_left, get_or-replicate, get_or_past, get_or-append_right, reverse-append, reverse-reverse, length-reverse, length-set, length-map, length-append, length-replicate}
use Rattle.std.specs.Option.{is_some}
use Rattle.std.specs.List.{list_all, slice_get}
use Rattle.sat_lits.specs.Laws.{all_mono}
use Rattle.sat_lits.specs.declared.literal.InLit.{InLit}
use Rattle.trail.specs.declared.trail.Step.{Step}
use Rattle.trail.specs.Trail.{Assignment, level_of, level_in, set_in, step_in, shaped, shaped_step}
use Rattle.trail.specs.Inside.{told, steps_for, Says}
use Rattle.trail.specs.Laws.{step_new, steps_within, set_in-step_in}

-- a set variable is not an unset one
apart : (t : List Step) (u v : ℕ) → set_in t u ≡ false → set_in t v ≡ true → eqb u v ≡ false
apart t u v e f = go (eqb u v) refl
  where
    go : (b : Bool) → eqb u v ≡ b → b ≡ false
    go true g = absurd (false≢true (sym e ∙ (ap (set_in t) (eqb-true u v g) ∙ f)))
    go false g = refl

-- the newest step is that of its variable
step_in-newest : (s : Step) (older : List Step) → step_in (s ∷ older) s.lit.var.0 ≡ Some s
step_in-newest s older = rw (eq-eqb s.lit.var.0 s.lit.var.0 refl) refl

-- other variables have older steps
step_in-older : (s : Step) (older : List Step) (v : ℕ) → eqb s.lit.var.0 v ≡ false → step_in (s ∷ older) v ≡ step_in older v
step_in-older s older v e = rw e refl

-- a table that has each step of a trail gives these steps
steps_for-steps : (table : List (Option Step)) (t : List Step) → shaped t ≡ true → ((v : ℕ) → set_in t v ≡ true → told table v ≡ step_in t v) → steps_for table (map (λ s. s.lit) t) ≡ t
steps_for-steps table [] e h = refl
steps_for-steps table (s ∷ older) e h =
    let p : (shaped_step older s ≡ true) × (shaped older ≡ true) = and_parts _ _ e in
    let n : set_in older s.lit.var.0 ≡ false = step_new older s p.0 in
    let here : told table s.lit.var.0 ≡ Some s = h s.lit.var.0 (or_left _ _ (eq-eqb s.lit.var.0 s.lit.var.0 refl)) ∙ step_in-newest s older in
    let rest : steps_for table (map (λ r. r.lit) older) ≡ older = steps_for-steps table older p.1 (later n) in
    rw (here, rest) refl
  where
    later : set_in older s.lit.var.0 ≡ false → (v : ℕ) → set_in older v ≡ true → told table v ≡ step_in older v
    later n v f = h v (or_right _ _ f) ∙ step_in-older s older v (apart older s.lit.var.0 v n f)

none : {X : Type 0} (o : Option X) → is_some o ≡ false → o ≡ None
none None e = refl
none (Some x) e = absurd (false≢true (sym e))

abbrev nothing : Option Step
nothing = None

-- empty places say nothing
told-more : (table : List (Option Step)) (n v : ℕ) → told (table ++ replicate n None) v ≡ told table v
told-more table n v = go (ltb v (length table)) refl
  where
    past : (k : ℕ) (b : Bool) → ltb k n ≡ b → get_or (replicate n nothing) k nothing ≡ None
    past k true f = get_or-replicate n k nothing nothing (ltb-true _ _ f)
    past k false f = get_or_past (replicate n nothing) k nothing (let l : n ≤ k = ltb-false _ _ f in omega (arith, l, length-replicate n nothing))

    go : (b : Bool) → ltb v (length table) ≡ b → told (table ++ replicate n None) v ≡ told table v
    go true f = get_or_append_left table (replicate n None) None v (ltb-true _ _ f)
    go false f =
        let l : length table ≤ v = ltb-false _ _ f in
        get_or-append_right table (replicate n None) (length table) v None refl l ∙ (past (v - length table) (ltb (v - length table) n) refl ∙ sym (get_or_past table v None l))

seam : {X : Type 0} (xs : List X) (x : X) → slice_get (xs ++ x ∷ []) (length xs) ≡ Some x
seam [] x = refl
seam (y ∷ xs) x = seam xs x

-- what a table and literals say is seen in them
pub seen : (table : List (Option Step)) (lits : List InLit) (steps : List Step) → Says table lits steps → steps_for table lits ≡ steps
seen table lits steps h = ap (steps_for table) h.same_lits ∙ steps_for-steps table steps h.kept.sound (λ v f. h.same_steps v)

pub says_seen : (table : List (Option Step)) (lits : List InLit) (steps : List Step) → Says table lits steps → Says table lits (steps_for table lits)
says_seen table lits steps h = subst (λ (z : List Step). Says table lits z) (sym (seen table lits steps h)) h

-- nothing is assigned at first
pub says_none : Says [] [] []
says_none = record { same_lits = refl; same_steps = λ v. refl; kept = record { sound = refl; known = refl; few = lit< tt } }

-- a step is taken
pub says_push : (table : List (Option Step)) (lits : List InLit) (steps : List Step) (s : Step) → Says table lits steps → s.lit.var.0 < length table → shaped_step steps s ≡ true
    → Says (set table s.lit.var.0 (Some s)) (s.lit ∷ lits) (s ∷ steps)
says_push table lits steps s h l e =
    record {
      same_lits = ap (λ (z : List InLit). s.lit ∷ z) h.same_lits;
      same_steps = λ v. go v (eqb s.lit.var.0 v) refl;
      kept =
          rw (length-set table s.lit.var.0 (Some s))
          (record {
            sound = and_from _ _ e h.kept.sound;
            known = and_from _ _ (lt-ltb _ _ l) h.kept.known;
            few = h.kept.few;
          });
    }
  where
    go : (v : ℕ) (b : Bool) → eqb s.lit.var.0 v ≡ b → told (set table s.lit.var.0 (Some s)) v ≡ cond b (Some s) (step_in steps v)
    go v true f = ap (told (set table s.lit.var.0 (Some s))) (sym (eqb-true _ _ f)) ∙ get_or-set_same table s.lit.var.0 (Some s) None l
    go v false f = get_or-set_other table s.lit.var.0 v (Some s) None (λ q. eqb-false _ _ f (sym q)) ∙ h.same_steps v

-- the newest literal is reserved
pub newest_within : (table : List (Option Step)) (l : InLit) (lits : List InLit) (steps : List Step) → Says table (l ∷ lits) steps → l.var.0 < length table
newest_within table l lits [] h = absurd (let e : l ∷ lits ≡ [] = h.same_lits in cc)
newest_within table l lits (s ∷ older) h =
    let e : l ∷ lits ≡ s.lit ∷ map (λ r. r.lit) older = h.same_lits in
    let a : l ≡ s.lit = cc in
    let p : (ltb s.lit.var.0 (length table) ≡ true) × (list_all (λ r. ltb r.lit.var.0 (length table)) older ≡ true) = and_parts _ _ h.kept.known in
    rw a (ltb-true _ _ p.0)

-- the newest step is taken back
pub says_pop : (table : List (Option Step)) (l : InLit) (lits : List InLit) (steps : List Step) → Says table (l ∷ lits) steps → Says (set table l.var.0 None) lits (drop 1 steps)
says_pop table l lits [] h = absurd (let e : l ∷ lits ≡ [] = h.same_lits in cc)
says_pop table l lits (s ∷ older) h =
    let e : l ∷ lits ≡ s.lit ∷ map (λ r. r.lit) older = h.same_lits in
    let a : l ≡ s.lit = cc in
    let m : lits ≡ map (λ r. r.lit) older = cc in
    let p : (shaped_step older s ≡ true) × (shaped older ≡ true) = and_parts _ _ h.kept.sound in
    let q : (ltb s.lit.var.0 (length table) ≡ true) × (list_all (λ r. ltb r.lit.var.0 (length table)) older ≡ true) = and_parts _ _ h.kept.known in
    rw a
    (record {
      same_lits = m;
      same_steps = λ v. go (step_new older s p.0) (ltb-true _ _ q.0) v (eqb s.lit.var.0 v) refl (h.same_steps v);
      kept = rw (length-set table s.lit.var.0 None) (record { sound = p.1; known = q.1; few = h.kept.few });
    })
  where
    go : set_in older s.lit.var.0 ≡ false → s.lit.var.0 < length table → (v : ℕ) (b : Bool) → eqb s.lit.var.0 v ≡ b → told table v ≡ cond b (Some s) (step_in older v)
        → told (set table s.lit.var.0 None) v ≡ step_in older v
    go n l v true f k =
        let w : s.lit.var.0 ≡ v = eqb-true _ _ f in
        let i : is_some (step_in older v) ≡ false = sym (set_in-step_in older v) ∙ (ap (set_in older) (sym w) ∙ n) in
        ap (told (set table s.lit.var.0 None)) (sym w) ∙ (get_or-set_same table s.lit.var.0 None None l ∙ sym (none (step_in older v) i))
    go n l v false f k = get_or-set_other table s.lit.var.0 v None None (λ q. eqb-false _ _ f (sym q)) ∙ k

-- there is room for more variables
pub says_more : (table : List (Option Step)) (lits : List InLit) (steps : List Step) (n : ℕ) → Says table lits steps → length (table ++ replicate n None) < 2 ^ 32 → Says (table ++ replicate n None) lits steps
says_more table lits steps n h small =
    let l : length (table ++ replicate n None) ≡ length table + length (replicate n None) = length-append table (replicate n None) in
    record {
      same_lits = h.same_lits;
      same_steps = λ v. told-more table n v ∙ h.same_steps v;
      kept =
          record {
            sound = h.kept.sound;
            known =
                all_mono (λ (s : Step). ltb s.lit.var.0 (length table)) (λ (s : Step). ltb s.lit.var.0 (length (table ++ replicate n None)))
                (λ s f. lt-ltb _ _ (let k : s.lit.var.0 < length table = ltb-true _ _ f in omega arith)) steps h.kept.known;
            few = small;
          };
    }

-- there are no more literals than reserved variables
pub lits_within : (table : List (Option Step)) (lits : List InLit) (steps : List Step) → Says table lits steps → length lits ≤ length table
lits_within table lits steps h =
    let a : length lits ≡ length (map (λ (s : Step). s.lit) steps) = ap length h.same_lits in
    let b : length steps ≤ length table = steps_within steps (length table) h.kept.sound h.kept.known in
    omega (arith, a, b, length-map steps (λ (s : Step). s.lit))

-- the last of literals is the first of them in reverse
pub last_is_newest : (lits : List InLit) (l : InLit) (rest : List InLit) → reverse lits ≡ l ∷ rest → slice_get lits (length lits - 1) ≡ Some l
last_is_newest lits l rest e =
    let a : lits ≡ reverse rest ++ l ∷ [] = sym (reverse-reverse lits) ∙ (ap reverse e ∙ reverse-append (l ∷ []) rest) in
    let n : length (reverse rest ++ l ∷ []) - 1 ≡ length (reverse rest) = omega (arith, length-append (reverse rest) (l ∷ [])) in
    subst (λ (z : List InLit). slice_get z (length z - 1) ≡ Some l) (sym a) (rw n (seam (reverse rest) l))

-- what a table and the literals of a trail, oldest first, are seen as
abbrev pub stored : List (Option Step) → List InLit → Assignment
stored table lits = record { steps = steps_for table (reverse lits); reserved = length table }

-- what they keep
pub record IsStored (table : List (Option Step)) (lits : List InLit) (trail : Assignment) : Type 0 where
  pub value : stored table lits ≡ trail
  pub says : Says table (reverse lits) trail.steps

pub is_stored : (table : List (Option Step)) (lits : List InLit) (trail : Assignment) → stored table lits ≡ trail → Says table (reverse lits) (steps_for table (reverse lits)) → IsStored table lits trail
is_stored table lits trail e h = record { value = e; says = subst (λ (a : Assignment). Says table (reverse lits) a.steps) e h }

stored_by : (table : List (Option Step)) (lits : List InLit) (steps : List Step) → Says table (reverse lits) steps → IsStored table lits (record { steps = steps; reserved = length table })
stored_by table lits steps h = record { value = ap (λ (z : List Step). record { steps = z; reserved = length table }) (seen table (reverse lits) steps h); says = h }

-- what is stored keeps the fields tied
pub tied : (table : List (Option Step)) (lits : List InLit) (trail : Assignment) → IsStored table lits trail → Says table (reverse lits) (steps_for table (reverse lits))
tied table lits trail h = says_seen table (reverse lits) trail.steps h.says

-- a step is taken
pub stored_push : (table : List (Option Step)) (lits : List InLit) (trail : Assignment) (s : Step) → IsStored table lits trail → s.lit.var.0 < trail.reserved → shaped_step trail.steps s ≡ true
    → IsStored (set table s.lit.var.0 (Some s)) (lits ++ s.lit ∷ []) (record trail { steps = s ∷ trail.steps })
stored_push table lits trail s h l e =
    let n : trail.reserved ≡ length table = sym (ap (λ (a : Assignment). a.reserved) h.value) in
    let m : length (set table s.lit.var.0 (Some s)) ≡ trail.reserved = length-set table s.lit.var.0 (Some s) ∙ sym n in
    let k : Says (set table s.lit.var.0 (Some s)) (s.lit ∷ reverse lits) (s ∷ trail.steps) = says_push table (reverse lits) trail.steps s h.says (omega arith) e in
    let w : Says (set table s.lit.var.0 (Some s)) (reverse (lits ++ s.lit ∷ [])) (s ∷ trail.steps) =
    subst (λ (z : List InLit). Says (set table s.lit.var.0 (Some s)) z (s ∷ trail.steps)) (sym (reverse-append lits (s.lit ∷ []))) k in
    subst (λ (r : ℕ). IsStored (set table s.lit.var.0 (Some s)) (lits ++ s.lit ∷ []) (record { steps = s ∷ trail.steps; reserved = r })) m
    (stored_by (set table s.lit.var.0 (Some s)) (lits ++ s.lit ∷ []) (s ∷ trail.steps) w)

-- the newest step is taken back
pub stored_pop : (table : List (Option Step)) (lits front : List InLit) (l : InLit) (trail : Assignment) → lits ≡ front ++ l ∷ [] → IsStored table lits trail
    → IsStored (set table l.var.0 None) front (record trail { steps = drop 1 trail.steps })
stored_pop table lits front l trail e h =
    let m : length (set table l.var.0 None) ≡ trail.reserved = length-set table l.var.0 None ∙ ap (λ (a : Assignment). a.reserved) h.value in
    let r : reverse lits ≡ l ∷ reverse front = ap reverse e ∙ reverse-append front (l ∷ []) in
    let k : Says table (l ∷ reverse front) trail.steps = subst (λ (z : List InLit). Says table z trail.steps) r h.says in
    subst (λ (n : ℕ). IsStored (set table l.var.0 None) front (record { steps = drop 1 trail.steps; reserved = n })) m
    (stored_by (set table l.var.0 None) front (drop 1 trail.steps) (says_pop table l (reverse front) trail.steps k))

-- and its variable is reserved
pub popped_within : (table : List (Option Step)) (lits front : List InLit) (l : InLit) (trail : Assignment) → lits ≡ front ++ l ∷ [] → IsStored table lits trail → l.var.0 < length table
popped_within table lits front l trail e h =
    newest_within table l (reverse front) trail.steps (subst (λ (z : List InLit). Says table z trail.steps) (ap reverse e ∙ reverse-append front (l ∷ [])) h.says)

-- where no literal is left, there is no step
pub popped_none : (table : List (Option Step)) (lits : List InLit) (trail : Assignment) → lits ≡ [] → IsStored table lits trail → trail.steps ≡ []
popped_none table lits trail e h = sym (ap (λ (a : Assignment). a.steps) h.value) ∙ ap (λ (z : List InLit). steps_for table (reverse z)) e

-- there is room for more variables
pub stored_more : (table : List (Option Step)) (lits : List InLit) (trail : Assignment) (n : ℕ) → IsStored table lits trail → length table ≤ n → n < 2 ^ 32
    → IsStored (table ++ replicate (n - length table) None) lits (record trail { reserved = max trail.reserved n })
stored_more table lits trail n h l small =
    let a : length (table ++ replicate (n - length table) nothing) ≡ n = omega (arith, length-append table (replicate (n - length table) nothing), length-replicate (n - length table) nothing) in
    let b : length table ≡ trail.reserved = ap (λ (a : Assignment). a.reserved) h.value in
    let m : length (table ++ replicate (n - length table) nothing) ≡ max trail.reserved n = omega arith in
    subst (λ (r : ℕ). IsStored (table ++ replicate (n - length table) None) lits (record { steps = trail.steps; reserved = r })) m
    (stored_by (table ++ replicate (n - length table) None) lits trail.steps (says_more table (reverse lits) trail.steps (n - length table) h.says (omega arith)))

-- there are no more literals than reserved variables
pub stored_within : (table : List (Option Step)) (lits : List InLit) (trail : Assignment) → IsStored table lits trail → length lits ≤ length table
stored_within table lits trail h = omega (arith, lits_within table (reverse lits) trail.steps h.says, length-reverse lits)

-- the level of the last literal is the present one
pub last_level : (table : List (Option Step)) (lits : List InLit) (trail : Assignment) (l : InLit) → IsStored table lits trail → slice_get lits (length lits - 1) ≡ Some l → level_in trail.steps l.var.0 ≡ Some (level_of trail.steps)
last_level table lits trail l h e = go (reverse lits) trail.steps refl h.says.same_lits
  where
    go : (newest : List InLit) (steps : List Step) → reverse lits ≡ newest → reverse lits ≡ map (λ s. s.lit) steps → level_in steps l.var.0 ≡ Some (level_of steps)
    go newest [] r m = let a : lits ≡ [] = sym (reverse-reverse lits) ∙ ap reverse m in let b : slice_get lits (length lits - 1) ≡ None = rw a refl in cc
    go newest (s ∷ older) r m =
        let a : slice_get lits (length lits - 1) ≡ Some s.lit = last_is_newest lits s.lit (map (λ k. k.lit) older) m in
        let b : l ≡ s.lit = cc in
        ap (λ (k : InLit). level_in (s ∷ older) k.var.0) b ∙ ap (option_map (λ k. k.level)) (step_in-newest s older)
