use Rattle.std.proofs.Common.{◌≡◌, ◌<◌, ◌+◌, ◌^◌, ◌++◌, ◌∷◌, [], Some, length, sym, ap, ◌∙◌, subst, arith, length-append}
use Rattle.sat_lits.specs.declared.literal.Own.{Own}
use Rattle.sat_lits.specs.declared.literal.Inner.{Inner}
use Rattle.sat_lits.specs.declared.literal.Var.{Var}
use Rattle.var_maps.specs.Maps.{Maps, plain}
use Rattle.var_maps.specs.Kept.{maps_of}
use Rattle.sat_lits.specs.ListLaws.{pushed}
use Rattle.var_maps.proofs.Matching.{added_free, outer_added, added_matched, added_numbered, added_plain}
use Rattle.var_maps.proofs.maps.VarMaps.add_outer.Goals as goal

pub invariant_of-self : goal.invariant_of-self
invariant_of-self c =
    let m : Maps = maps_of c.self.inside in
    let n : Maps = maps_of (record { inners = c.push.new.self; outer_numbers = c.push-3.new.self; owners = c.push-2.new.self; outers = c.push-4.new.self }) in
    let v : Own = record { 0 = c.len.result } in
    let i : Inner = record { 0 = c.len.result } in
    let few : length m.inners < 2 ^ 31 = subst (λ (z : Maps). length z.inners < 2 ^ 31) (sym (ap plain c.self.view_is ∙ c.in_ok-reserve.ensures.same)) c.requires in
    let e : v.0 ≡ length m.inners = c.len.ensures ∙ c.self.inside.inners.ok.0 in
    let o : c.len-2.result ≡ length m.outers = c.len-2.ensures ∙ c.self.inside.outers.ok.0 in
    let p : n.inners ≡ m.inners ++ Some i ∷ [] = pushed c.push.result c.unwrap.result m.inners (m.inners ++ Some i ∷ []) n.inners c.push.ensures.items c.unwrap.ensures in
    let q : n.outer_numbers ≡ m.outer_numbers ++ Some (record { 0 = c.len-2.result }) ∷ [] = pushed c.push-3.result c.unwrap-3.result m.outer_numbers (m.outer_numbers ++ Some (record { 0 = c.len-2.result }) ∷ []) n.outer_numbers c.push-3.ensures.items c.unwrap-3.ensures in
    let r : n.outers ≡ m.outers ++ v ∷ [] = pushed c.push-4.result c.unwrap-4.result m.outers (m.outers ++ v ∷ []) n.outers c.push-4.ensures.items c.unwrap-4.ensures in
    let s : n.outer_numbers ≡ m.outer_numbers ++ Some (record { 0 = length m.outers }) ∷ [] = q ∙ ap (λ (z : _). m.outer_numbers ++ Some (let x : Var = record { 0 = z } in x) ∷ []) o in
    let w : n.owners ≡ m.owners ++ Some v ∷ [] = pushed c.push-2.result c.unwrap-2.result m.owners (m.owners ++ Some v ∷ []) n.owners c.push-2.ensures.items c.unwrap-2.ensures in
    record {
      matched = added_matched m n v i (Some (record { 0 = length m.outers })) c.self.invariant.matched (added_free m n v c.self.invariant.numbered e w) e p s (outer_added m n v c.self.invariant.matched e s r);
      numbered = added_numbered m n v c.self.invariant.numbered few e p w (let l : length n.outers ≡ length m.outers + 1 = ap length r ∙ length-append m.outers (v ∷ []) in omega (arith, l));
    }

pub returns-clause-ok : goal.returns-clause-ok
returns-clause-ok c =
    let m : Maps = maps_of c.self.inside in
    let n : Maps = maps_of (record { inners = c.push.new.self; outer_numbers = c.push-3.new.self; owners = c.push-2.new.self; outers = c.push-4.new.self }) in
    let v : Own = record { 0 = c.len.result } in
    let i : Inner = record { 0 = c.len.result } in
    let same : plain m ≡ plain c.args.self.now = ap plain c.self.view_is ∙ c.in_ok-reserve.ensures.same in
    let o : c.len-2.result ≡ length c.args.self.now.outers = (c.len-2.ensures ∙ c.self.inside.outers.ok.0) ∙ ap (λ (z : Maps). length z.outers) same in
    let q : n.outer_numbers ≡ m.outer_numbers ++ Some (record { 0 = c.len-2.result }) ∷ [] = pushed c.push-3.result c.unwrap-3.result m.outer_numbers (m.outer_numbers ++ Some (record { 0 = c.len-2.result }) ∷ []) n.outer_numbers c.push-3.ensures.items c.unwrap-3.ensures in
    let w : n.owners ≡ m.owners ++ Some v ∷ [] = pushed c.push-2.result c.unwrap-2.result m.owners (m.owners ++ Some v ∷ []) n.owners c.push-2.ensures.items c.unwrap-2.ensures in
    let e : v.0 ≡ length m.inners = c.len.ensures ∙ c.self.inside.inners.ok.0 in
    added_plain (Some (record { 0 = length c.args.self.now.outers })) v m c.args.self.now n same
    (record {
      number = e;
      inner = i;
      inners = pushed c.push.result c.unwrap.result m.inners (m.inners ++ Some i ∷ []) n.inners c.push.ensures.items c.unwrap.ensures;
      outer_numbers = q ∙ ap (λ (z : _). m.outer_numbers ++ Some (let x : Var = record { 0 = z } in x) ∷ []) o;
      numbered = added_free m n v c.self.invariant.numbered e w;
    })
