-- Assumptions that can be mapped, one by one.
use Rattle.std.proofs.Common.{◌≡◌, ℕ, ◌+◌, ◌<◌, true, false, not, nat_lt, List, length, get_or, sym, subst, ◌∙◌, arith}
use Rattle.std.proofs.lemmas.Bool.{not-true, ltb-true}
use Rattle.std.proofs.lemmas.List.{get_or-map}
use Rattle.sat_lits.specs.ListLaws.{all_at}
use Rattle.sat_lits.specs.declared.literal.Lit.{Lit}
use Rattle.rebuild_stack.specs.Roots.{root, is_lost, root_passes}
use Rattle.rebuild_stack.specs.OrderLaws.{root_active}
use Rattle.rebuild_stack.specs.declared.entry.Root.{Root}
use Rattle.rebuild_stack.specs.declared.entry.Root.TheVariants.{Known, Last, Lost}
use Rattle.state_laws.specs.State.{is_active, outers_from, outer_count, to_own}
use Rattle.state_laws.specs.Conditions.{Takable}
use Rattle.state_laws.specs.Held.{has_inner}
use Rattle.state_laws.specs.Kernel.{Kernel, state_of, Standing}
use Rattle.state_laws.specs.KernelTakeLaws.{takable_there, outers_len}
use Rattle.state_laws.specs.TakeLaws.{outers_below}
use Rattle.state_laws.specs.PlaceLaws.{somewhere}
use Rattle.state_laws.specs.ViewLaws.{get_is_some}
use Rattle.assume_map.specs.Roots.{roots, root_at}

module _ (k : Kernel) (assumptions : List Lit) (i : ℕ) (d : Lit) (h : i < length assumptions) (t : Takable (state_of k) assumptions) where
  -- its variable is there
  pub there_at : Standing k → (get_or assumptions i d).var.0 < length k.maps.outers
  there_at s = ltb-true _ _ (all_at (λ (l : Lit). nat_lt l.var.0 (length k.maps.outers)) assumptions i d h (takable_there k assumptions s t))

  pub known_at : Standing k → (get_or assumptions i d).var.0 < outer_count k.definitions
  known_at s = subst (λ (n : ℕ). (get_or assumptions i d).var.0 < n) (outers_len k s) (there_at s)

  -- it does not come to an eliminated one
  pub kept_at : is_lost (root k.stack (to_own k.definitions (get_or assumptions i d))) ≡ false
  kept_at = not-true _ (all_at (λ (l : Lit). not (is_lost (root k.stack (to_own k.definitions l)))) assumptions i d h t.roots)

  -- a literal that it comes to is active
  pub active_at : Standing k → root_passes (has_inner k.maps) (root k.stack (to_own k.definitions (get_or assumptions i d))) ≡ true
  active_at s =
      let a : get_or (outers_from 0 k.definitions) (get_or assumptions i d).var.0 0 < 0 + length k.definitions = outers_below 0 k.definitions (get_or assumptions i d).var.0 (known_at s) in
      inner (root k.stack (to_own k.definitions (get_or assumptions i d)))
      (root_active (is_active (state_of k)) k.stack (to_own k.definitions (get_or assumptions i d)) s.stands.places.placed.in_order
      (somewhere (state_of k) (get_or (outers_from 0 k.definitions) (get_or assumptions i d).var.0 0) s.stands.places (omega arith)))
    where
      inner : (r : Root) → root_passes (λ l. is_active (state_of k) l.var.0) r ≡ true → root_passes (has_inner k.maps) r ≡ true
      inner (Known b) e = e
      inner (Last l) e = sym (get_is_some k.maps.inners l.var.0) ∙ e
      inner (Lost v) e = e

  -- what stands for it among the roots
  pub root_here : root_at (roots (state_of k) assumptions) i ≡ root k.stack (to_own k.definitions (get_or assumptions i d))
  root_here = get_or-map (λ (l : Lit). root k.stack (to_own k.definitions l)) assumptions i d (Known true) h
