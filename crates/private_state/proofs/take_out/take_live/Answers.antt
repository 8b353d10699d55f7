use Rattle.std.proofs.Common.{◌≡◌, ◌∙◌, ◌++◌, ◌∷◌, [], ap, sym, Some, append-nil}
use Rattle.clause_store.specs.Store.{Held, clause_at}
use Rattle.state_laws.specs.HeldLaws.{id_found, found}
use Rattle.private_state.specs.declared.take_out.TakenOut.{TakenOut}
use Rattle.removed_vars.specs.CollectLaws.{read_learned}
use Rattle.private_state.proofs.Resolving.{takes_step, block_hard, block_learned, read_lits}
use Rattle.private_state.proofs.take_out.take_live.Goals.{then-not-is_learned+in_ok-lits+in_ok-push, else-not-is_learned}
use Rattle.private_state.proofs.take_out.take_live.Goals as goal

pub returns : goal.returns
returns c = λ hs t.
    let h : (h : Held) × (clause_at c.args.store.now.held c.args.id.0 ≡ Some h) = found (clause_at c.args.store.now.held c.args.id.0) c.requires in
    let l : h.0.learned ≡ c.is_learned.result = read_learned c.args.store.now.held c.args.id.0 h.0 c.is_learned.result h.1 c.is_learned.ensures.value in
    rw h.1
    (elim c.if-not-is_learned.branch [
      | then-not-is_learned+in_ok-lits+in_ok-push w ↦
          takes_step c.args.maps.now hs h.0 c.args.to.now _ c.args.id (id_found c.args.store.now.held c.args.id.0 h.0 h.1)
          (c.in_ok-push-2.ensures.items ∙ ap (λ (z : TakenOut). z.doomed.items ++ c.args.id ∷ []) w.to-is)
          (ap (λ (z : TakenOut). z.block) w.to-is
          ∙ (w.in_ok-push.ensures.ok ∙ ap (λ z. c.args.to.now.block ++ z) (ap (λ z. z ∷ []) (w.as_slice.ensures ∙ w.in_ok-lits.ensures.own)
          ∙ sym (block_hard c.args.maps.now h.0 w.lits.result.now (l ∙ w.if-not-is_learned.true) (read_lits c.args.store.now.held c.args.id.0 h.0 w.lits.result.now h.1 w.lits.ensures.value)))))
          t
      | else-not-is_learned w ↦
          takes_step c.args.maps.now hs h.0 c.args.to.now _ c.args.id (id_found c.args.store.now.held c.args.id.0 h.0 h.1)
          (c.in_ok-push-2.ensures.items ∙ ap (λ (z : TakenOut). z.doomed.items ++ c.args.id ∷ []) w.to-is)
          (ap (λ (z : TakenOut). z.block) w.to-is
          ∙ (sym (append-nil c.args.to.now.block) ∙ ap (λ z. c.args.to.now.block ++ z) (sym (block_learned c.args.maps.now h.0 (l ∙ w.if-not-is_learned.false)))))
          t
    ])
