use Rattle.std.proofs.Common.{◌<◌, ◌≤◌, ◌≡◌, ℕ, List, length, get_or, take, vec_len, sym, subst, arith}
use Rattle.std.proofs.lemmas.List.{get_or_read_under}
use Rattle.sat_lits.specs.declared.literal.InLit.{InLit}
use Rattle.propagate.specs.Inside.{AreKept}
use Rattle.propagate.proofs.Keeping.{keeps_back}
use Rattle.propagate.proofs.watches.Watches.rewind.Goals as goal

pub invariant_of-self : goal.invariant_of-self
invariant_of-self c =
    let k : c.args.keep < length c.self.inside.done.items = omega (arith, c.if-keep-len.true, c.len.ensures, c.self.inside.done.ok.0) in
    let s : c.args.keep < length c.self.inside.starts.items = omega (arith, k, c.self.invariant.kept.marked.same) in
    let e : c.index.result.now ≡ get_or c.self.inside.starts.items c.args.keep 0 = get_or_read_under c.self.inside.starts.items c.args.keep (vec_len c.self.inside.starts) c.index.result.now 0 c.index.ensures (omega (arith, s, c.self.inside.starts.ok.0)) (omega (arith, c.self.inside.starts.ok.0)) in
    let l : c.min-self-inside.result ≤ get_or c.self.inside.starts.items c.args.keep 0 = omega (arith, e, c.min-self-inside.ensures) in
    record {
      kept =
          subst (λ (z : List InLit). AreKept c.self.inside.taken.items z c.truncate-then-keep-len.new.self.items c.min-self-inside.result c.self.inside.table c.self.inside.fresh.items c.self.inside.variables) (sym c.truncate.ensures.items)
          (subst (λ (z : List ℕ). AreKept c.self.inside.taken.items (take c.args.keep c.self.inside.done.items) z c.min-self-inside.result c.self.inside.table c.self.inside.fresh.items c.self.inside.variables) (sym c.truncate-then-keep-len.ensures.items)
          (keeps_back c.self.inside.taken.items c.self.inside.done.items c.self.inside.starts.items c.self.inside.walked c.args.keep c.min-self-inside.result c.self.inside.variables c.self.inside.table c.self.inside.fresh.items c.self.invariant.kept k (omega (arith, c.min-self-inside.ensures)) l));
      room = omega (arith, c.truncate.ensures.capacity, c.self.invariant.room);
      marks = omega (arith, c.truncate-then-keep-len.ensures.capacity, c.self.invariant.marks);
      few = c.self.invariant.few;
    }
