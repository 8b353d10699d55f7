use Rattle.std.proofs.Common.{◌≡◌, ◌≢◌, ◌∙◌, ap, sym, refl, Some, subst}
use Rattle.std.specs.Option.{is_some}
use Rattle.sat_lits.specs.declared.literal.InLit.{InLit}
use Rattle.var_maps.specs.Maps.{Maps, Matched, owner_at}
use Rattle.rebuild_stack.specs.declared.entry.Entry.TheVariants.{Equal}
use Rattle.sync_laws.specs.KeepLaws.{plain-KeepsMet, pushed-KeepsMet}
use Rattle.equiv_replace.specs.Replaced.{IsUsed, root_var}
use Rattle.equiv_replace.proofs.Replacing.{root_used, pushable_root, root_follows, replaced_step, replaced_one, owner_active, only_one_replaced}
use Rattle.equiv_replace.proofs.replace.replace_one.Goals as goal

differs : (c : goal.After-at_inner-2) → root_var c.args.roots.now c.args.var.0 ≢ c.args.var.0
differs c e = c.if-root-var.false (ap (λ (l : InLit). l.var.0) c.lit_of-root.ensures ∙ e)

pub unwrap-requires : goal.unwrap-requires
unwrap-requires c =
    let h : IsUsed c.args.state.now.maps (root_var c.args.roots.now c.args.var.0) = root_used c.args.roots.now c.args.var.0 c.args.state.now c.requires.replacing c.args.var.0 c.requires.there (differs c) in
    ap is_some
    (c.at_inner-2.ensures.value ∙ (ap (λ (l : InLit). owner_at c.maps-2.result.now l.var.0) c.lit_of-root.ensures
    ∙ (ap (λ (m : Maps). owner_at m (root_var c.args.roots.now c.args.var.0)) c.maps-2.ensures.value ∙ h.1)))

matched : (c : goal.After-replace-arg-1) → Matched c.args.state.now.maps
matched c = subst (λ (m : Maps). Matched m) c.maps.ensures.value c.in-Some.ensures.matched

owner : (c : goal.After-replace-arg-1) → owner_at c.args.state.now.maps c.args.var.0 ≡ Some c.in-Some.own
owner c = ap (λ (m : Maps). owner_at m c.args.var.0) (sym c.maps.ensures.value) ∙ sym c.in-Some.ensures.value

by_owner : (c : goal.After-replace-arg-1) → owner_at c.args.state.now.maps (root_var c.args.roots.now c.args.var.0) ≡ Some c.unwrap.result
by_owner c =
    ap (λ (m : Maps). owner_at m (root_var c.args.roots.now c.args.var.0)) (sym c.maps-2.ensures.value)
    ∙ (ap (λ (l : InLit). owner_at c.maps-2.result.now l.var.0) (sym c.lit_of-root.ensures) ∙ (sym c.at_inner-2.ensures.value ∙ c.unwrap.ensures))

root_differs : (c : goal.After-replace-arg-1) → root_var c.args.roots.now c.args.var.0 ≢ c.args.var.0
root_differs c e = c.if-root-var.false (ap (λ (l : InLit). l.var.0) c.lit_of-root.ensures ∙ e)

pub replace-requires-clause-pushable : goal.replace-requires-clause-pushable
replace-requires-clause-pushable c =
    pushable_root c.args.state.now c.args.var.0 (root_var c.args.roots.now c.args.var.0) c.in-Some.own c.unwrap.result c.lit_of-root.result.negative (matched c) (owner c) (by_owner c) (λ e. root_differs c (sym e))

pub replace-requires-clause-follows : goal.replace-requires-clause-follows
replace-requires-clause-follows c =
    rw c.lit_of-root.ensures (root_follows c.args.roots.now c.args.var.0 c.args.state.now c.requires.replacing c.args.var.0 c.in-Some.own c.unwrap.result c.requires.there (owner c) (by_owner c))

pub returns-clause-replacing : goal.returns-clause-replacing
returns-clause-replacing c =
    replaced_step c.args.roots.now c.args.var.0 c.args.state.now c.replace.new.self c.in-Some.own c.unwrap.result c.lit_of-root.result.negative c.requires.replacing
    (subst (λ (m : Maps). Matched m) c.maps.ensures.value c.in-Some.ensures.matched) (ap (λ (m : Maps). owner_at m c.args.var.0) (sym c.maps.ensures.value) ∙ sym c.in-Some.ensures.value)
    (λ e. c.if-root-var.false (ap (λ (l : InLit). l.var.0) c.lit_of-root.ensures ∙ e)) c.in_ok-replace.ensures.ok c.in_ok-replace.ensures.maps

pub returns-clause-replaced : goal.returns-clause-replaced
returns-clause-replaced c =
    replaced_one c.args.state.now c.replace.new.self c.in-Some.own (record { var = c.unwrap.result; negative = c.lit_of-root.result.negative })
    (owner_active c.args.state.now.maps c.args.var.0 c.in-Some.own (subst (λ (m : Maps). Matched m) c.maps.ensures.value c.in-Some.ensures.matched) (ap (λ (m : Maps). owner_at m c.args.var.0) (sym c.maps.ensures.value) ∙ sym c.in-Some.ensures.value))
    c.in_ok-replace.ensures.ok

pub returns-clause-pushed : goal.returns-clause-pushed
returns-clause-pushed c =
    only_one_replaced c.args.state.now c.replace.new.self
    (replaced_one c.args.state.now c.replace.new.self c.in-Some.own (record { var = c.unwrap.result; negative = c.lit_of-root.result.negative })
    (owner_active c.args.state.now.maps c.args.var.0 c.in-Some.own (subst (λ (m : Maps). Matched m) c.maps.ensures.value c.in-Some.ensures.matched) (ap (λ (m : Maps). owner_at m c.args.var.0) (sym c.maps.ensures.value) ∙ sym c.in-Some.ensures.value))
    c.in_ok-replace.ensures.ok)

pub returns-clause-kept : goal.returns-clause-kept
returns-clause-kept c =
    pushed-KeepsMet c.args.state.now c.replace.new.self (Equal c.in-Some.own (record { var = c.unwrap.result; negative = c.lit_of-root.result.negative })) refl c.in_ok-replace.ensures.ok

pub returns-in_err-replace-clause-kept : goal.returns-in_err-replace-clause-kept
returns-in_err-replace-clause-kept c = plain-KeepsMet c.args.state.now c.replace.new.self c.in_err-replace.ensures.err
