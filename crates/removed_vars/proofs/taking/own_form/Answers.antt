use Rattle.std.proofs.Common.{◌≡◌, ◌∙◌, ap, sym, List, map, take, Some, Option, length, ◌≤◌, take_all}
use Rattle.sat_lits.specs.declared.literal.Lit.{Lit}
use Rattle.sat_lits.specs.declared.literal.OwnLit.{OwnLit}
use Rattle.rebuild_stack.specs.Roots.{root}
use Rattle.rebuild_stack.specs.PutIn.{put_in, option_passes}
use Rattle.rebuild_stack.specs.declared.entry.Entry.{Entry}
use Rattle.rebuild_stack.specs.declared.entry.Root.{Root}
use Rattle.var_maps.specs.Maps.{Maps}
use Rattle.state_laws.specs.Held.{has_inner, own_outer}
use Rattle.removed_vars.specs.PuttingLaws.{put_in-map}
use Rattle.removed_vars.specs.CollectLaws.{put_distinct}
use Rattle.removed_vars.proofs.taking.own_form.Goals as goal

-- the clause that was merged is that of the roots
merged : (m : Maps) (s : List Entry) (lits : List Lit) (i : _) (roots now : List Root) (o : Option (List OwnLit)) (c : List OwnLit) → roots ≡ map (λ k. root s (own_outer m k)) (take i lits) → length lits ≤ i → now ≡ roots → o ≡ put_in (λ r. r) now
    → o ≡ Some c → Some c ≡ put_in (λ l. root s (own_outer m l)) lits
merged m s lits i roots now o c e l n p q =
    sym q ∙ (p ∙ (ap (put_in (λ r. r)) (n ∙ (e ∙ ap (map (λ k. root s (own_outer m k))) (take_all i lits l))) ∙ put_in-map (λ k. root s (own_outer m k)) lits))

pub in_lits-requires : goal.in_lits-requires
in_lits-requires c =
    rw c.as_slice.ensures
    (ap (option_passes (has_inner c.args.maps.now)) (merged c.args.maps.now c.args.removed.now.entries c.args.lits.now c.loop-lit.lit-index c.loop-lit.roots.items c.deref.result.now c.in_ok-clause.field-0 c.in-Some.clause c.loop-lit.invariant c.loop-lit-test.false c.deref.ensures.value c.in_ok-clause.ensures c.in-Some.is)
    ∙ c.requires.active)

pub returns-clause-distinct : goal.returns-clause-distinct
returns-clause-distinct c =
    put_distinct c.args.maps.now (λ l. root c.args.removed.now.entries (own_outer c.args.maps.now l)) c.args.lits.now c.in-Some.clause c.in_ok-stored.stored
    (merged c.args.maps.now c.args.removed.now.entries c.args.lits.now c.loop-lit.lit-index c.loop-lit.roots.items c.deref.result.now c.in_ok-clause.field-0 c.in-Some.clause c.loop-lit.invariant c.loop-lit-test.false c.deref.ensures.value c.in_ok-clause.ensures c.in-Some.is)
    (c.in_ok-stored.ensures ∙ c.as_slice.ensures)
