use Rattle.std.proofs.Common.{◌≡◌, ◌≤◌, length, List, ◌∷◌, [], ◌++◌, sym, ap, subst, ◌∙◌}
use Rattle.std.specs.List.{list_any}
use Rattle.sat_lits.specs.declared.literal.Lit.{Lit}
use Rattle.sat_lits.specs.declared.shared.Shared.{Shared}
use Rattle.share_store.specs.Log.{entry_of, LacksClause, IsKept}
use Rattle.share_store.specs.Inside.{is_same}
use Rattle.share_store.proofs.Clauses.{still_indexed, still_kept, clauses_alike}
use Rattle.share_store.proofs.store.Store.append.Goals as goal

pub invariant_of-self-2 : goal.invariant_of-self-2
invariant_of-self-2 c =
    let old = c.self.inside.log.items in
    let entry = entry_of c.args.solver c.args.after c.args.clause.now in
    let made : entry_of c.args.solver c.args.after c.in_ok-from_slice.field-0 ≡ entry = ap (λ (lits : List Lit). entry_of c.args.solver c.args.after lits) c.in_ok-from_slice.ensures in
    let log : c.push_reserved.new.self.items ≡ old ++ entry ∷ [] = c.push_reserved.ensures.items ∙ (λ i. c.reserve.ensures.items i ++ made i ∷ []) in
    let was : old ≡ c.args.self.now = c.self.view_is in
    record {
      indexed = λ clause.
          ap (list_any (λ k. is_same clause k.items)) c.in_ok-insert.ensures.keys
          ∙ still_indexed (λ k. k.items) _ (λ x y e. clauses_alike x.items y.items e) (is_same clause) old entry _ _ c.in_ok-from_slice-2.ensures.items (c.self.invariant.indexed clause)
          ∙ ap (list_any (λ (e : Shared). is_same clause e.clause)) (sym log);
      kept = subst IsKept (sym log) (still_kept old entry c.self.invariant.kept c.requires.form (subst (λ (l : List Shared). c.args.after ≤ length l) (sym was) c.requires.earlier) (subst (λ (l : List Shared). LacksClause l c.args.clause.now) (sym was) c.requires.fresh));
    }
