use Rattle.std.proofs.Common.{◌∙◌, ◌*◌, List, ℕ, ap, sym, refl, subst, length}
use Rattle.std.proofs.lemmas.Bool.{true≢false}
use Rattle.sync_laws.specs.KeepLaws.{refuting-KeepsMet}
use Rattle.equiv_replace.specs.Replaced.{HasOpposites, IsReplacing}
use Rattle.equiv_replace.proofs.Ending.{edges_inside, starts, contradicts, finds_opposites, ends_without_cycles}
use Rattle.equiv_replace.proofs.Replacing.{none_replaced}
use Rattle.equiv_replace.proofs.replace.replace_on_cycles.Goals as goal

pub roots-requires : goal.roots-requires
roots-requires c = edges_inside c.args.state.now c.args.graph.now c.requires.graph

pub refute-requires : goal.refute-requires
refute-requires c =
    contradicts c.args.state.now c.args.graph.now c.in_ok-roots.roots.items c.requires.graph c.in_ok-roots.ensures
    (subst (λ (z : List ℕ). HasOpposites z) c.deref.ensures.value (c.has_opposites.ensures.some c.if-has_opposites.true))

pub replace_all-requires-clause-there : goal.replace_all-requires-clause-there
replace_all-requires-clause-there c = ap length c.deref-2.ensures.value ∙ (c.in_ok-roots.ensures.each ∙ (c.requires.graph.long ∙ ap (λ (n : ℕ). 2 * n) (sym c.requires.vars)))

pub replace_all-requires-clause-replacing : goal.replace_all-requires-clause-replacing
replace_all-requires-clause-replacing c =
    subst (λ (z : List ℕ). IsReplacing z 0 c.args.state.now) (sym c.deref-2.ensures.value) (starts c.args.state.now c.args.graph.now c.in_ok-roots.roots.items c.requires.graph c.in_ok-roots.ensures)

pub returns-clause-cycles : goal.returns-clause-cycles
returns-clause-cycles c =
    ends_without_cycles c.args.state.now c.replace_all.new.state c.args.graph.now c.in_ok-roots.roots.items c.args.vars c.in_ok-count.count c.requires.graph c.in_ok-roots.ensures c.requires.vars
    (λ o. true≢false (sym (c.has_opposites.ensures.none (subst (λ (z : List ℕ). HasOpposites z) (sym c.deref.ensures.value) o)) ∙ c.if-has_opposites.false))
    (subst (λ (z : List ℕ). IsReplacing z c.args.vars c.replace_all.new.state) c.deref-2.ensures.value c.in_ok-count.ensures.replacing)
    c.in_ok-count.ensures.replaced

pub returns-clause-opposite : goal.returns-clause-opposite
returns-clause-opposite c = λ a o.
    absurd (true≢false (sym (c.has_opposites.ensures.none (subst (λ (z : List ℕ). HasOpposites z) (sym c.deref.ensures.value)
    (finds_opposites c.args.state.now c.args.graph.now c.in_ok-roots.roots.items c.requires.graph c.in_ok-roots.ensures a o))) ∙ c.if-has_opposites.false))

pub returns-in_err-roots-clause-pushed : goal.returns-in_err-roots-clause-pushed
returns-in_err-roots-clause-pushed c = none_replaced c.args.state.now c.args.state.now refl refl

pub returns-then-has_opposites-clause-kept : goal.returns-then-has_opposites-clause-kept
returns-then-has_opposites-clause-kept c = refuting-KeepsMet c.args.state.now c.refute.new.self c.refute.ensures.value
