use Rattle.std.proofs.Common.{◌≡◌, ◌+◌, ℕ, ◌++◌, ◌∷◌, [], List, Option, Some, None, IfOk, Result, map, length, sym, ap, subst, ◌∙◌, arith, append_assoc, vec_len}
use Rattle.std.specs.Prelude.{if◌then◌else◌, is_ok}
use Rattle.std.proofs.lemmas.List.{map-append, length_push}
use Rattle.sat_lits.specs.ListLaws.{pushed}
use Rattle.sat_lits.specs.declared.literal.Own.{Own}
use Rattle.sat_lits.specs.declared.list.NoMemory.{NoMemory}
use Rattle.var_maps.specs.Maps.{Maps, Added}
use Rattle.state_laws.specs.declared.definition.Definition.{Definition}
use Rattle.parity_forms.specs.InMaps.{HasPrivates}
use Rattle.parity_forms.specs.KernelMadeLaws.{privates_more}
use Rattle.parity_forms.proofs.made.add_vars.Goals as goal

pub each-preserved : goal.each-preserved
each-preserved c =
    let m : Maps = c.add_private.new.self in
    let d : Definition = c.in-Some.definition in
    let a : Added None c.unwrap.result c.each.maps m = subst (λ (r : Result Own NoMemory). IfOk r (λ own. Added None own c.each.maps m)) c.unwrap.ensures c.add_private.ensures.ok in
    let o : m.owners ≡ c.each.maps.owners ++ Some c.unwrap.result ∷ [] = subst (λ (r : Result Own NoMemory). IfOk r (λ own. m.owners ≡ c.each.maps.owners ++ Some own ∷ [])) c.unwrap.ensures c.add_private.ensures.last in
    let p : c.push.new.self.items ≡ c.each.definitions.items ++ Some d ∷ [] = pushed c.push.result c.unwrap-in-each.result c.each.definitions.items (c.each.definitions.items ++ Some d ∷ []) c.push.new.self.items c.push.ensures.items c.unwrap-in-each.ensures in
    let l : length (c.each.yielded ++ d ∷ []) ≡ length c.each.yielded + 1 = length_push c.each.yielded d in
    let i : length m.inners ≡ length c.each.maps.inners + 1 = ap length a.inners ∙ length_push c.each.maps.inners (Some a.inner) in
    let v : vec_len c.push.new.self ≡ vec_len c.each.definitions + 1 = c.push.ensures.len ∙ ap (λ r. if is_ok r then vec_len c.each.definitions + 1 else vec_len c.each.definitions) c.unwrap-in-each.ensures in
    record {
      maps = subst (λ (n : ℕ). HasPrivates n c.args.maps.now m) (sym l) (privates_more (length c.each.yielded) c.args.maps.now c.each.maps m c.unwrap.result c.each.invariant.maps c.each.invariant.count a o c.add_private.ensures.outers);
      definitions = p
          ∙ (ap (λ (z : List (Option Definition)). z ++ Some d ∷ []) c.each.invariant.definitions
          ∙ (append_assoc c.args.definitions.now.items (map Some c.each.yielded) (Some d ∷ []) ∙ ap (λ (z : List (Option Definition)). c.args.definitions.now.items ++ z) (sym (map-append Some c.each.yielded (d ∷ [])))));
      count = omega (arith, l, i, c.each.invariant.count);
      room = omega (arith, l, c.each.invariant.room, c.add_private.ensures.spare);
      capacity = (omega (arith, l, c.each.invariant.capacity.0, v), omega (arith, c.each.invariant.capacity.1, c.push.ensures.capacity));
    }
