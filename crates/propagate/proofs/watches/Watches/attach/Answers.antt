use Rattle.std.proofs.Common.{◌≡◌, ◌∷◌, ◌++◌, [], ℕ, List, length, sym, ap, subst, ◌∙◌, arith, ◌+◌, length-append}
use Rattle.propagate.specs.declared.watches.Taken.{Taken}
use Rattle.propagate.specs.Inside.{AreKept}
use Rattle.propagate.proofs.Keeping.{keeps_same, keeps_attached}
use Rattle.propagate.proofs.watches.Watches.attach.Goals as goal

pub invariant_of-self-2 : goal.invariant_of-self-2
invariant_of-self-2 c =
    let n : c.len-place.result ≡ length c.self.inside.taken.items = omega (arith, c.len-place.ensures, c.reserve_all.new.taken.ok.0, ap length c.reserve_all.ensures.taken) in
    let q : length c.push_reserved.new.self.items ≡ length c.self.inside.taken.items + 1 = ap length (c.push_reserved.ensures.items ∙ ap (λ (z : List Taken). z ++ c.of-clause.result ∷ []) c.reserve_all.ensures.taken) ∙ length-append c.self.inside.taken.items (c.of-clause.result ∷ []) in
    record {
      kept =
          subst (λ (z : List Taken). AreKept z c.self.inside.done.items c.self.inside.starts.items c.self.inside.walked c.add_whole.new.self c.push_reserved-2.new.self.items c.self.inside.variables)
          (sym (c.push_reserved.ensures.items ∙ ap (λ (z : List Taken). z ++ c.of-clause.result ∷ []) c.reserve_all.ensures.taken))
          (keeps_attached c.self.inside.taken.items c.of-clause.result c.self.inside.done.items c.self.inside.starts.items c.self.inside.walked c.self.inside.variables c.reserve_all.new.table c.add_whole.new.self c.reserve_all.new.fresh.items c.push_reserved-2.new.self.items
          (keeps_same c.self.inside.taken.items c.self.inside.done.items c.self.inside.starts.items c.self.inside.walked c.self.inside.variables c.self.inside.table c.reserve_all.new.table c.self.inside.fresh.items c.reserve_all.new.fresh.items c.self.invariant.kept c.reserve_all.ensures.table c.reserve_all.ensures.fresh)
          c.add_whole.ensures.heads c.add_whole.ensures.next c.add_whole.ensures.watched c.add_whole.ensures.whole
          (c.push_reserved-2.ensures.items ∙ ap (λ (z : ℕ). c.reserve_all.new.fresh.items ++ z ∷ []) n));
      room = c.self.invariant.room;
      marks = c.self.invariant.marks;
      few = omega (arith, q, c.if-len-ge-MOST_CLAUSES.false, c.len.ensures, c.self.inside.taken.ok.0);
    }

pub invariant_of-self : goal.invariant_of-self
invariant_of-self c =
    record {
      kept =
          subst (λ (z : List Taken). AreKept z c.self.inside.done.items c.self.inside.starts.items c.self.inside.walked c.reserve_all.new.table c.reserve_all.new.fresh.items c.self.inside.variables) (sym c.reserve_all.ensures.taken)
          (keeps_same c.self.inside.taken.items c.self.inside.done.items c.self.inside.starts.items c.self.inside.walked c.self.inside.variables c.self.inside.table c.reserve_all.new.table c.self.inside.fresh.items c.reserve_all.new.fresh.items c.self.invariant.kept c.reserve_all.ensures.table c.reserve_all.ensures.fresh);
      room = c.self.invariant.room;
      marks = c.self.invariant.marks;
      few = omega (arith, c.self.invariant.few, ap length c.reserve_all.ensures.taken);
    }
