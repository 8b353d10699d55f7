use Rattle.std.proofs.Common.{◌≡◌, ◌∙◌, ℕ, List, Option, true, false, length, sym, ap, subst, arith}
use Rattle.std.proofs.lemmas.List.{length-map}
use Rattle.sat_lits.specs.declared.literal.Lit.{Lit}
use Rattle.rebuild_stack.specs.Roots.{root, root_passes}
use Rattle.rebuild_stack.specs.declared.entry.Root.{Root}
use Rattle.var_maps.specs.Maps.{Maps}
use Rattle.state_laws.specs.State.{to_own}
use Rattle.state_laws.specs.Held.{has_inner}
use Rattle.state_laws.specs.Kernel.{state_of}
use Rattle.assume_map.specs.Roots.{roots, root_at}
use Rattle.assume_map.specs.Walking.{Walked, IsMet}
use Rattle.assume_map.proofs.Taking.{there_at, kept_at, active_at, root_here}
use Rattle.assume_map.proofs.Walked.{ready}
use Rattle.assume_map.proofs.mapped.map_assumptions.Goals as goal
use Rattle.assume_map.proofs.mapped.map_assumptions.Goals.{In_ok-clash}

abbrev d : Lit
d = record { var = record { 0 = 0 }; negative = false }

pub loop-position-init : goal.loop-position-init
loop-position-init c =
    record {
      walked = c.in_ok-walk.ensures.none c.args.state.now.maps (roots (state_of c.args.state.now) c.args.assumptions.now);
      vars = c.in_ok-walk.ensures.vars ∙ (c.own_len.ensures.value ∙ ap (λ (m : Maps). length m.inners) c.maps.ensures.value);
      standing = c.maps.ensures.standing;
    }

pub root_of-root-requires-clause-there : goal.root_of-root-requires-clause-there
root_of-root-requires-clause-there c = there_at c.args.state.now c.args.assumptions.now c.loop-position.position d (omega arith) c.requires.takable c.loop-position.invariant.standing

pub root_of-root-requires-clause-kept : goal.root_of-root-requires-clause-kept
root_of-root-requires-clause-kept c = kept_at c.args.state.now c.args.assumptions.now c.loop-position.position d (omega arith) c.requires.takable

-- what the assumption comes to stands among the roots
here : (c : In_ok-clash) → root_at (roots (state_of c.args.state.now) c.args.assumptions.now) c.loop-position.position ≡ c.root_of-root.result
here c = root_here c.args.state.now c.args.assumptions.now c.loop-position.position d (omega arith) c.requires.takable ∙ sym c.root_of-root.ensures

-- it was met
met : (c : In_ok-clash) → IsMet c.args.state.now.maps (roots (state_of c.args.state.now) c.args.assumptions.now) c.loop-position.position c.meet.new.self c.in_ok-clash.clash
met c =
    subst (λ (m : Maps). IsMet m (roots (state_of c.args.state.now) c.args.assumptions.now) c.loop-position.position c.meet.new.self c.in_ok-clash.clash) c.maps-in-loop-position.ensures.value
    (c.in_ok-clash.ensures.met (roots (state_of c.args.state.now) c.args.assumptions.now) (here c)
    (subst (λ (m : Maps). Walked m (roots (state_of c.args.state.now) c.args.assumptions.now) c.loop-position.position c.loop-position.walk) (sym c.maps-in-loop-position.ensures.value) c.loop-position.invariant.walked))

pub meet-requires-clause-active : goal.meet-requires-clause-active
meet-requires-clause-active c =
    subst (λ (m : Maps). root_passes (has_inner m) c.root_of-root.result ≡ true) (sym c.maps-in-loop-position.ensures.value)
    (subst (λ (r : Root). root_passes (has_inner c.args.state.now.maps) r ≡ true) (sym c.root_of-root.ensures)
    (active_at c.args.state.now c.args.assumptions.now c.loop-position.position d (omega arith) c.requires.takable c.loop-position.invariant.standing))

pub returns-in-Some : goal.returns-in-Some
returns-in-Some c =
    subst (λ (o : Option (List ℕ)). IsMet c.args.state.now.maps (roots (state_of c.args.state.now) c.args.assumptions.now) c.loop-position.position c.meet.new.self o) c.in-Some.is (met ((goal.at.returns-in-Some c).In_ok-clash))

pub loop-position-preserved : goal.loop-position-preserved
loop-position-preserved c =
    record {
      walked = subst (λ (o : Option (List ℕ)). IsMet c.args.state.now.maps (roots (state_of c.args.state.now) c.args.assumptions.now) c.loop-position.position c.meet.new.self o) c.in_default.is (met ((goal.at.loop-position-preserved c).In_ok-clash));
      vars = c.in_ok-clash.ensures.vars ∙ c.loop-position.invariant.vars;
      standing = c.loop-position.invariant.standing;
    }

pub returns : goal.returns
returns c =
    ready c.args.state.now.maps (roots (state_of c.args.state.now) c.args.assumptions.now) c.loop-position.position c.loop-position.walk
    (length-map c.args.assumptions.now (λ l. root c.args.state.now.stack (to_own c.args.state.now.definitions l)) ∙ omega arith) c.loop-position.invariant.walked
