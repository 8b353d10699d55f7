use Rattle.std.proofs.Common.{◌≡◌, true, [], filter, nat_le, subst, sym, ap, ◌∙◌, IfSome, IsTrue, Some, None}
use Rattle.std.specs.List.{list_any}
use Rattle.sat_lits.specs.declared.literal.OwnLit.{OwnLit}
use Rattle.rebuild_stack.specs.declared.entry.Entry.TheVariants.{Fix}
use Rattle.clause_store.specs.Store.{Store, Held, IsKept, before, is_live}
use Rattle.var_maps.specs.Maps.{Maps}
use Rattle.state_laws.specs.State.{is_active}
use Rattle.state_laws.specs.Conditions.{EntryFollows}
use Rattle.state_laws.specs.Held.{own_of}
use Rattle.state_laws.specs.Kernel.{state_of}
use Rattle.sync_laws.specs.KeepLaws.{keeps_trans, plain-KeepsMet, refuting-KeepsMet}
use Rattle.one_solver.specs.Fixing.{NotesTo}
use Rattle.one_solver.specs.Learned.{NotesLong}
use Rattle.one_solver.specs.Units.{is_empty, are_long, FindsShort, FindsSingle, HasNoUnits}
use Rattle.one_solver.specs.declared.units.Short.{Short}
use Rattle.one_solver.proofs.Walking.{unit_found, fixed_passed}
use Rattle.one_solver.proofs.Fixing.{unit_active, unit_follows, empty_contradicted, fixing_start, fixing_step, fewer_active, has_no_units, fixing_end}
use Rattle.one_solver.proofs.Noting.{noted_none, noted_fixed}
use Rattle.one_solver.proofs.units.fix_each.Goals as goal
use Rattle.one_solver.proofs.units.fix_each.Goals.{After-own_lit, In-End}

pub find_short-requires : goal.find_short-requires
find_short-requires c = subst (λ (s : Store). IfSome c.units.at (λ id. IsTrue (is_live s.held id.0))) (sym c.clauses-in-units.ensures.value) c.units.invariant.live

pub units-init : goal.units-init
units-init c =
    record {
      fixing = fixing_start c.args.state.now c.requires.basic;
      live = subst (λ (s : Store). IfSome c.first-at.result (λ id. IsTrue (is_live s.held id.0))) c.clauses.ensures.value c.first-at.ensures.live;
      passed = ap are_long (subst (λ (s : Store). before s.held c.first-at.result ≡ []) c.clauses.ensures.value c.first-at.ensures.start);
      noted = noted_none c.args.state.now.store c.first-at.result c.args.ids.now (subst (λ (s : Store). before s.held c.first-at.result ≡ []) c.clauses.ensures.value c.first-at.ensures.start) c.requires.empty;
    }

pub refute-requires : goal.refute-requires
refute-requires c = empty_contradicted c.units.state (ap (λ (s : Store). list_any (λ (h : Held). is_empty h.lits) s.held) (sym c.clauses-in-units.ensures.value) ∙ subst (λ (f : Short). FindsShort c.clauses-in-units.result.now c.units.at f) c.in-Empty.is c.in_ok-find_short.ensures.found)

-- the literal's clause is held
single : (c : After-own_lit) → FindsSingle c.units.state.store c.units.at c.in-Single.id c.in-Single.lit
single c = subst (λ (s : Store). FindsSingle s c.units.at c.in-Single.id c.in-Single.lit) c.clauses-in-units.ensures.value (subst (λ (f : Short). FindsShort c.clauses-in-units.result.now c.units.at f) c.in-Single.is c.in_ok-find_short.ensures.found)

own : (c : After-own_lit) → c.own_lit.result ≡ own_of c.units.state.maps c.in-Single.lit
own c = c.own_lit.ensures ∙ ap (λ (m : Maps). own_of m c.in-Single.lit) c.maps.ensures.value

active : (c : After-own_lit) → is_active (state_of c.units.state) c.own_lit.result.var.0 ≡ true
active c = ap (λ (o : OwnLit). is_active (state_of c.units.state) o.var.0) (own c) ∙ unit_active c.units.state c.in-Single.lit c.clauses-in-units.ensures.standing (unit_found c.units.state.store.held c.in-Single.id.0 c.in-Single.lit (single c).lits)

-- the ids of the long learned clauses before it were noted
noted_single : (c : After-own_lit) → NotesLong c.units.state.store (Some c.in-Single.id) c.find_short.new.ids
noted_single c =
    subst (λ (s : Store). NotesLong s (Some c.in-Single.id) c.find_short.new.ids) c.clauses-in-units.ensures.value
    (subst (λ (f : Short). NotesTo c.clauses-in-units.result.now c.units.at f c.units.ids c.find_short.new.ids) c.in-Single.is c.in_ok-find_short.ensures.noted
    (subst (λ (s : Store). NotesLong s c.units.at c.units.ids) (sym c.clauses-in-units.ensures.value) c.units.invariant.noted))

pub fix-requires-clause-active : goal.fix-requires-clause-active
fix-requires-clause-active c = active c

pub fix-requires-clause-follows : goal.fix-requires-clause-follows
fix-requires-clause-follows c = subst (λ (o : OwnLit). EntryFollows (state_of c.units.state) (Fix o)) (sym (own c)) (unit_follows c.units.state c.in-Single.lit (unit_found c.units.state.store.held c.in-Single.id.0 c.in-Single.lit (single c).lits))

pub units-smaller : goal.units-smaller
units-smaller c = fewer_active c.units.state c.fix.new.self c.own_lit.result (active ((goal.at.units-smaller c).After-own_lit)) c.in_ok-fix-in-Single.ensures.ok

pub units-preserved : goal.units-preserved
units-preserved c =
    let k = (goal.at.units-preserved c).After-own_lit in
    record {
      fixing = fixing_step c.args.state.now c.units.state c.fix.new.self c.own_lit.result c.clauses-in-units.ensures.standing (active k) c.in_ok-fix-in-Single.ensures.ok c.units.invariant.fixing;
      live = subst (λ (s : Store). IfSome c.next-at.result (λ id. IsTrue (is_live s.held id.0))) c.clauses-in-Single.ensures.value c.next-at.ensures.live;
      passed =
          fixed_passed c.units.state c.fix.new.self c.own_lit.result.var.0 c.in-Single.id c.in-Single.lit c.next-at.result (single k).kept c.in_ok-fix-in-Single.ensures.ids (single k).lits (ap (λ (o : OwnLit). o.var.0) (sym (own k)))
          ((single k).passed c.units.invariant.passed)
          (subst (λ (s : Store). before s.held c.next-at.result ≡ filter (λ h. nat_le h.id c.in-Single.id.0) s.held) c.clauses-in-Single.ensures.value c.next-at.ensures.step);
      noted =
          noted_fixed c.units.state c.fix.new.self c.own_lit.result.var.0 c.in-Single.id c.in-Single.lit c.next-at.result c.find_short.new.ids (single k).kept (subst IsKept c.clauses-in-Single.ensures.value c.next-at.ensures.kept) c.in_ok-fix-in-Single.ensures.ids (single k).lits (ap (λ (o : OwnLit). o.var.0) (sym (own k)))
          (subst (λ (s : Store). IfSome c.next-at.result (λ id. IsTrue (is_live s.held id.0))) c.clauses-in-Single.ensures.value c.next-at.ensures.live)
          (subst (λ (s : Store). before s.held c.next-at.result ≡ filter (λ h. nat_le h.id c.in-Single.id.0) s.held) c.clauses-in-Single.ensures.value c.next-at.ensures.step)
          (noted_single k);
    }

left : (c : In-End) → HasNoUnits c.units.state
left c = has_no_units c.units.state (ap (λ (s : Store). are_long s.held) (sym c.clauses-in-units.ensures.value) ∙ subst (λ (f : Short). FindsShort c.clauses-in-units.result.now c.units.at f) c.in-End.is c.in_ok-find_short.ensures.found (ap (λ (s : Store). are_long (before s.held c.units.at)) c.clauses-in-units.ensures.value ∙ c.units.invariant.passed))

pub returns-in-End-clause-fixed : goal.returns-in-End-clause-fixed
returns-in-End-clause-fixed c = λ o. fixing_end c.args.state.now c.units.state c.units.invariant.fixing (left c)

pub returns-in-End-clause-left : goal.returns-in-End-clause-left
returns-in-End-clause-left c = λ o. left c

pub returns-in-End-clause-noted : goal.returns-in-End-clause-noted
returns-in-End-clause-noted c =
    subst (λ (s : Store). NotesLong s None c.find_short.new.ids) c.clauses-in-units.ensures.value
    (subst (λ (f : Short). NotesTo c.clauses-in-units.result.now c.units.at f c.units.ids c.find_short.new.ids) c.in-End.is c.in_ok-find_short.ensures.noted
    (subst (λ (s : Store). NotesLong s c.units.at c.units.ids) (sym c.clauses-in-units.ensures.value) c.units.invariant.noted))

pub returns-in-Empty-clause-met : goal.returns-in-Empty-clause-met
returns-in-Empty-clause-met c =
    keeps_trans (state_of c.args.state.now) (state_of c.units.state) (state_of c.refute.new.self) c.units.invariant.fixing.met (refuting-KeepsMet c.units.state c.refute.new.self c.refute.ensures.value)

pub returns-in_err-fix-in-Single-clause-met : goal.returns-in_err-fix-in-Single-clause-met
returns-in_err-fix-in-Single-clause-met c =
    keeps_trans (state_of c.args.state.now) (state_of c.units.state) (state_of c.fix.new.self) c.units.invariant.fixing.met (plain-KeepsMet c.units.state c.fix.new.self c.in_err-fix-in-Single.ensures.err)
