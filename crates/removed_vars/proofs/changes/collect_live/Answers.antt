use Rattle.std.proofs.Common.{◌≡◌, ◌∙◌, ◌++◌, ◌∷◌, [], refl, ap, sym, subst, List, Option, Some, None, true, IfSome, IsTrue, option_map, append-nil}
use Rattle.std.specs.List.{list_all}
use Rattle.sat_lits.specs.InLits.{is_distinct}
use Rattle.sat_lits.specs.declared.literal.InLit.{InLit}
use Rattle.rebuild_stack.specs.Roots.{root, root_passes}
use Rattle.rebuild_stack.specs.Entries.{named}
use Rattle.clause_store.specs.Store.{Held, clause_at}
use Rattle.state_laws.specs.Held.{own_clause, has_inner, touches}
use Rattle.state_laws.specs.HeldLaws.{id_found}
use Rattle.removed_vars.specs.declared.changes.Changes.{Changes}
use Rattle.removed_vars.specs.CollectLaws.{read_held, read_learned, ready_clause, collected_step, fresh_of, fresh_put, fresh_distinct}
use Rattle.removed_vars.proofs.changes.collect_live.Goals.{in-Some+in_ok-push, in_default}
use Rattle.removed_vars.proofs.changes.collect_live.Goals as goal

pub put_in_stored-requires : goal.put_in_stored-requires
put_in_stored-requires c =
    let h : (h : Held) × ((clause_at c.args.store.now.held c.args.id.0 ≡ Some h) × (h.lits ≡ c.lits-lits.result.now)) = read_held c.args.store.now.held c.args.id.0 c.lits-lits.result.now c.requires.live c.lits-lits.ensures.value in
    let t : touches c.args.maps.now (named c.args.entry.now) h.0 ≡ true = subst (λ (o : Option Held). IfSome o (λ k. IsTrue (touches c.args.maps.now (named c.args.entry.now) k))) h.1.0 c.requires.touched in
    subst (λ (z : List InLit). list_all (λ l. root_passes (has_inner c.args.maps.now) (root (c.args.entry.now ∷ []) l)) (own_clause c.args.maps.now z) ≡ true) h.1.1
    (ready_clause c.args.maps.now (root (c.args.entry.now ∷ [])) (named c.args.entry.now) c.args.store.now.held c.args.id.0 h.0 h.1.0 c.requires.ready t)

pub returns : goal.returns
returns c = λ hs d.
    let h : (h : Held) × ((clause_at c.args.store.now.held c.args.id.0 ≡ Some h) × (h.lits ≡ c.lits-lits.result.now)) = read_held c.args.store.now.held c.args.id.0 c.lits-lits.result.now c.requires.live c.lits-lits.ensures.value in
    let t : touches c.args.maps.now (named c.args.entry.now) h.0 ≡ true = subst (λ (o : Option Held). IfSome o (λ k. IsTrue (touches c.args.maps.now (named c.args.entry.now) k))) h.1.0 c.requires.touched in
    rw h.1.0
    (elim c.match-branch-2.branch [
      | in-Some+in_ok-push w ↦
          collected_step c.args.maps.now (root (c.args.entry.now ∷ [])) (named c.args.entry.now) hs h.0 c.args.to.now _ (fresh_of w.is_learned-learned.result (Some w.in-Some.lits)) c.args.id t
          (fresh_put c.args.maps.now (root (c.args.entry.now ∷ [])) h.0 w.is_learned-learned.result (Some w.in-Some.lits) c.lits-lits.result.now h.1.1 (read_learned c.args.store.now.held c.args.id.0 h.0 w.is_learned-learned.result h.1.0 w.is_learned-learned.ensures.value)
          (ap (option_map (own_clause c.args.maps.now)) (sym w.in-Some.is) ∙ c.in_ok-lits.ensures.value))
          (fresh_distinct w.is_learned-learned.result (Some w.in-Some.lits) (subst (λ (o : Option (List InLit)). IfSome o (λ clause. IsTrue (is_distinct clause))) w.in-Some.is c.in_ok-lits.ensures.distinct))
          (ap (λ (z : Changes). z.fresh.items) w.to-is ∙ w.in_ok-push.ensures.items)
          (c.in_ok-push-2.ensures.items ∙ ap (λ (z : Changes). z.doomed.items ++ c.args.id ∷ []) w.to-is)
          (id_found c.args.store.now.held c.args.id.0 h.0 h.1.0) d
      | in_default w ↦
          collected_step c.args.maps.now (root (c.args.entry.now ∷ [])) (named c.args.entry.now) hs h.0 c.args.to.now _ (fresh_of h.0.learned None) c.args.id t
          (fresh_put c.args.maps.now (root (c.args.entry.now ∷ [])) h.0 h.0.learned None c.lits-lits.result.now h.1.1 refl
          (ap (option_map (own_clause c.args.maps.now)) (sym w.in_default.is) ∙ c.in_ok-lits.ensures.value))
          (fresh_distinct h.0.learned None tt)
          (ap (λ (z : Changes). z.fresh.items) w.to-is ∙ sym (append-nil c.args.to.now.fresh.items))
          (c.in_ok-push-2.ensures.items ∙ ap (λ (z : Changes). z.doomed.items ++ c.args.id ∷ []) w.to-is)
          (id_found c.args.store.now.held c.args.id.0 h.0 h.1.0) d
    ])
