use Rattle.std.proofs.Common.{◌≡◌, ◌<◌, ◌∙◌, ℕ, true, false, not, eqb, ◌&&◌, ◌||◌, List, length, get_or, Some, unwrap_or, ap, sym, eq-eqb}
use Rattle.std.proofs.lemmas.Bool.{and_from}
use Rattle.std.proofs.lemmas.List.Folds.{list_any_at}
use Rattle.sat_lits.specs.InLits.{opposite}
use Rattle.sat_lits.specs.ListLaws.{all_at, all_any_mono}
use Rattle.sat_lits.specs.declared.literal.InLit.{InLit}
use Rattle.sat_lits.specs.declared.literal.ClauseId.{ClauseId}
use Rattle.trail.specs.declared.trail.Step.{Step}
use Rattle.trail.specs.Trail.{false_in, level_of, shaped}
use Rattle.trail.specs.Laws.{opposite_var, false_set}
use Rattle.clause_store.specs.Store.{Held}
use Rattle.propagate.specs.Units.{false_clause}
use Rattle.propagate.specs.Reasons.{names}
use Rattle.analyze.specs.Falsity.{false_at, has_present}
use Rattle.analyze.specs.Marking.{level_or}
use Rattle.analyze.proofs.Entailing.{lits_at, names_lits, lits_names}
use Rattle.analyze.proofs.Tracking.{level_all}
use Rattle.analyze.proofs.Marked.{level_set}
use Rattle.analyze.proofs.Shortening.{holds}
use Rattle.analyze.proofs.tests.is_present.Goals as goal

-- a clause whose literal at a place is of the present level holds one of it
present_at : (held : List Held) (t : List Step) (id : ClauseId) (c : List InLit) (i : ℕ) (d : InLit) → shaped t ≡ true → lits_at held id ≡ Some c → names held id (false_clause t) ≡ true → i < length c → level_or t (get_or c i d).var.0 ≡ level_of t
    → names held id (has_present t) ≡ true
present_at held t id c i d e g n h l =
    let f : false_in t (get_or c i d) ≡ true = all_at (false_in t) c i d h (names_lits held id (false_clause t) c g n) in
    lits_names held id (has_present t) c g
    ∙ list_any_at (false_at t (level_of t)) c i d h
    (all_any_mono (λ (s : Step). not (eqb s.lit.var.0 (get_or c i d).var.0) || eqb s.level (level_of t)) (λ (s : Step). opposite s.lit (get_or c i d)) (λ (s : Step). opposite s.lit (get_or c i d) && eqb s.level (level_of t))
    (λ s x y. and_from _ _ y (holds _ _ x (eq-eqb _ _ (opposite_var s.lit (get_or c i d) y)))) t
    (level_all t (get_or c i d).var.0 (level_of t) e (level_set t (get_or c i d).var.0 (false_set t (get_or c i d) f) ∙ ap Some l)) f)

pub returns-then-unwrap_or-level : goal.returns-then-unwrap_or-level
returns-then-unwrap_or-level c _ =
    present_at c.args.store.now.held c.args.trail.now.steps c.args.id c.lits-lit-items.result.now c.loop-lit.lit-index (record { var = record { 0 = 0 }; negative = false }) c.level-level.ensures.kept.sound c.lits-lit-items.ensures.value c.requires c.loop-lit-test.true
    (sym (c.unwrap_or.ensures ∙ ap (λ o. unwrap_or o 0) c.level_of.ensures) ∙ (c.if-unwrap_or-level.true ∙ c.level-level.ensures.value))
