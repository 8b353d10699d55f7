-- The resolvents of clauses on a variable hold where one of its values makes the clauses true.
use Rattle.std.proofs.Common.{◌≡◌, ℕ, ◌==◌, Bool, true, false, cond, not, ◌&&◌, ◌||◌, List, [], ◌∷◌, ◌++◌, refl, sym, ap, ap₂, ◌∙◌, filter, map}
use Rattle.std.proofs.lemmas.Bool.{and_parts, and_from, or_left, or_right, not-true}
use Rattle.std.proofs.lemmas.List.Folds.{list_all-append, list_any-append, list_all-map}
use Rattle.std.specs.Bool.{beq}
use Rattle.std.specs.List.{list_any, list_all}
use Rattle.sat_lits.specs.Truth.{signed, clause_value, clauses_value, with_value}
use Rattle.sat_lits.specs.ListLaws.{all_mono, all_filter}
use Rattle.sat_lits.specs.ClauseLaws.{clauses_value-append}
use Rattle.sat_lits.specs.declared.literal.OwnLit.{OwnLit}
use Rattle.rebuild_stack.specs.Values.{own_value, each_lit}
use Rattle.rebuild_stack.specs.PutIn.{put_in_all, is_clean}
use Rattle.rebuild_stack.specs.CommonLaws.{or_true, with_value_kept}
use Rattle.rebuild_stack.specs.PutInLaws.{put_in_all_value, put_in_all_passes, put_in_all_clean}
use Rattle.rebuild_stack.specs.declared.entry.Root.TheVariants.{Last}
use Rattle.state_laws.specs.Resolution.{is_of, has_sign, without_var, rests, joins, resolvents}
use Rattle.state_laws.specs.PlaceLaws.{still_active}

or_swap : (f h r : Bool) → (f || (h || r)) ≡ (h || (f || r))
or_swap true true r = refl
or_swap true false r = refl
or_swap false h r = refl

with_step : (f : OwnLit → Bool) (l : OwnLit) (r : List OwnLit) (b n x y t h : Bool) → f l ≡ signed n y → t ≡ (h || list_any f r) → (signed n (cond b x y) || t) ≡ (((b && beq (not x) n) || h) || list_any f (cond (not b) (l ∷ r) r))
with_step f l r true true true y t h p q = q
with_step f l r true true false y t h p q = refl
with_step f l r true false true y t h p q = refl
with_step f l r true false false y t h p q = q
with_step f l r false n x y t h p q = ap₂ ◌||◌ (sym p) q ∙ or_swap (f l) h (list_any f r)

-- a clause where the variable has a value: it holds the literal that is true then, or what is left of it holds
clause_with : (w : ℕ → Bool) (v : ℕ) (x : Bool) (c : List OwnLit) → clause_value (own_value (with_value w v x)) c ≡ (has_sign v (not x) c || clause_value (own_value w) (without_var v c))
clause_with w v x [] = refl
clause_with w v x (l ∷ c) = with_step (own_value w) l (without_var v c) (l.var.0 == v) l.negative x (w l.var.0) _ (has_sign v (not x) c) refl (clause_with w v x c)

rest_step : (f : OwnLit → Bool) (g : List OwnLit → List OwnLit) (h : Bool) (c : List OwnLit) (cs : List (List OwnLit)) (k t : Bool) → k ≡ (h || list_any f (g c)) → clauses_value f (map g cs) ≡ t → clauses_value f (map g (cond (not h) (c ∷ cs) cs)) ≡ (k && t)
rest_step f g true c cs k t p e = e ∙ sym (ap (λ z. z && t) p)
rest_step f g false c cs k t p e = ap₂ ◌&&◌ (sym p) e

-- the rests say of values what the clauses say where the variable has the value
pub rests_value : (w : ℕ → Bool) (v : ℕ) (x : Bool) (cs : List (List OwnLit)) → clauses_value (own_value w) (rests v x cs) ≡ clauses_value (own_value (with_value w v x)) cs
rests_value w v x [] = refl
rests_value w v x (c ∷ cs) =
    rest_step (own_value w) (without_var v) (has_sign v (not x) c) c (filter (λ d. not (has_sign v (not x) d)) cs) (clause_value (own_value (with_value w v x)) c) (clauses_value (own_value (with_value w v x)) cs)
    (clause_with w v x c) (rests_value w v x cs)

or_and : (c d t : Bool) → ((c || d) && (c || t)) ≡ (c || (d && t))
or_and true d t = refl
or_and false d t = refl

and_or : (c d t : Bool) → ((c || t) && (d || t)) ≡ ((c && d) || t)
and_or true true t = refl
and_or true false true = refl
and_or true false false = refl
and_or false d true = or_true d
and_or false d false = refl

join_value : (f : OwnLit → Bool) (c : List OwnLit) (ds : List (List OwnLit)) → clauses_value f (map (λ d. c ++ d) ds) ≡ (list_any f c || clauses_value f ds)
join_value f c [] = sym (or_true (list_any f c))
join_value f c (d ∷ ds) = ap₂ ◌&&◌ (list_any-append f c d) (join_value f c ds) ∙ or_and (list_any f c) (list_any f d) (clauses_value f ds)

-- joined clauses hold where all of one list do or all of the other
pub joins_value : (w : ℕ → Bool) (cs ds : List (List OwnLit)) → clauses_value (own_value w) (joins cs ds) ≡ (clauses_value (own_value w) cs || clauses_value (own_value w) ds)
joins_value w [] ds = refl
joins_value w (c ∷ cs) ds =
    clauses_value-append (own_value w) (put_in_all Last (map (λ d. c ++ d) ds)) (joins cs ds)
    ∙ (ap₂ ◌&&◌ (put_in_all_value w Last (map (λ d. c ++ d) ds) ∙ join_value (own_value w) c ds) (joins_value w cs ds)
    ∙ and_or (clause_value (own_value w) c) (clauses_value (own_value w) cs) (clauses_value (own_value w) ds))

-- the resolvents hold where the clauses do with the variable false or with it true
pub resolvents_value : (w : ℕ → Bool) (v : ℕ) (cs : List (List OwnLit)) → clauses_value (own_value w) (resolvents v cs) ≡ (clauses_value (own_value (with_value w v false)) cs || clauses_value (own_value (with_value w v true)) cs)
resolvents_value w v cs = joins_value w (rests v false cs) (rests v true cs) ∙ ap₂ ◌||◌ (rests_value w v false cs) (rests_value w v true cs)

either_true : (f : Bool → Bool) (y : Bool) → f y ≡ true → (f false || f true) ≡ true
either_true f true e = or_right _ _ e
either_true f false e = or_left _ _ e

-- so they hold where the clauses do
pub resolvents_hold : (w : ℕ → Bool) (v : ℕ) (cs : List (List OwnLit)) → clauses_value (own_value w) cs ≡ true → clauses_value (own_value w) (resolvents v cs) ≡ true
resolvents_hold w v cs h =
    resolvents_value w v cs ∙ either_true (λ x. clauses_value (own_value (with_value w v x)) cs) (w v) (ap (λ (z : ℕ → Bool). clauses_value (own_value z) cs) (with_value_kept w v (w v) refl) ∙ h)

join_passes : (p : OwnLit → Bool) (c : List OwnLit) (ds : List (List OwnLit)) → list_all p c ≡ true → each_lit p ds ≡ true → each_lit p (map (λ d. c ++ d) ds) ≡ true
join_passes p c ds e f = list_all-map (list_all p) (λ d. c ++ d) ds ∙ all_mono (list_all p) (λ d. list_all p (c ++ d)) (λ d h. list_all-append p c d ∙ and_from _ _ e h) ds f

-- literals of joined clauses pass what all literals pass
pub joins_pass : (p : OwnLit → Bool) (cs ds : List (List OwnLit)) → each_lit p cs ≡ true → each_lit p ds ≡ true → each_lit p (joins cs ds) ≡ true
joins_pass p [] ds e f = refl
joins_pass p (c ∷ cs) ds e f =
    let a : (list_all p c ≡ true) × (each_lit p cs ≡ true) = and_parts _ _ e in
    list_all-append (list_all p) (put_in_all Last (map (λ d. c ++ d) ds)) (joins cs ds)
    ∙ and_from _ _ (put_in_all_passes p Last (map (λ d. c ++ d) ds) (join_passes p c ds a.0 f)) (joins_pass p cs ds a.1 f)

-- the rests are active without the variable
pub rests_pass : (active : ℕ → Bool) (v : ℕ) (x : Bool) (cs : List (List OwnLit)) → each_lit (λ l. active l.var.0) cs ≡ true → each_lit (λ l. with_value active v false l.var.0) (rests v x cs) ≡ true
rests_pass active v x cs e =
    list_all-map (list_all (λ (l : OwnLit). with_value active v false l.var.0)) (without_var v) (filter (λ d. not (has_sign v (not x) d)) cs)
    ∙ all_filter (list_all (λ (l : OwnLit). active l.var.0)) (λ d. not (has_sign v (not x) d)) (λ d. list_all (λ (l : OwnLit). with_value active v false l.var.0) (without_var v d))
    (λ c h m. all_filter (λ (l : OwnLit). active l.var.0) (λ (l : OwnLit). not (is_of v l)) (λ (l : OwnLit). with_value active v false l.var.0) (λ l a n. still_active active v l.var.0 a (not-true _ n)) c h) cs e

-- resolvents are clean
pub joins_clean : (cs ds : List (List OwnLit)) → list_all is_clean (joins cs ds) ≡ true
joins_clean [] ds = refl
joins_clean (c ∷ cs) ds = list_all-append is_clean (put_in_all Last (map (λ d. c ++ d) ds)) (joins cs ds) ∙ and_from _ _ (put_in_all_clean Last (map (λ d. c ++ d) ds)) (joins_clean cs ds)
