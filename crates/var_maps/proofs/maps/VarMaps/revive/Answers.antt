use Rattle.std.proofs.Common.{◌≡◌, ◌<◌, Some, None, length, sym, ap, ◌∙◌, subst, refl, arith, length-set}
use Rattle.std.specs.Vec.{with_item}
use Rattle.sat_lits.specs.declared.literal.Inner.{Inner}
use Rattle.var_maps.specs.Maps.{Maps, inner_at, plain}
use Rattle.var_maps.specs.Kept.{maps_of}
use Rattle.var_maps.proofs.Matching.{revived_free, revived_matched, revived_numbered, revived_plain}
use Rattle.var_maps.proofs.maps.VarMaps.revive.Goals as goal

pub invariant_of-self : goal.invariant_of-self
invariant_of-self c =
    let m : Maps = maps_of c.self.inside in
    let i : Inner = record { 0 = c.args.own.0 } in
    let n : Maps = maps_of (record { inners = with_item c.self.inside.inners c.args.own.0 (Some i); outer_numbers = c.self.inside.outer_numbers; owners = with_item c.self.inside.owners c.args.own.0 (Some c.args.own); outers = c.self.inside.outers }) in
    let there : c.args.own.0 < length m.inners = subst (λ (z : Maps). c.args.own.0 < length z.inners) (sym c.self.view_is) c.requires.there in
    let gone : inner_at m c.args.own.0 ≡ None = ap (λ (z : Maps). inner_at z c.args.own.0) c.self.view_is ∙ c.requires.retired in
    let l : length n.owners ≡ length m.owners = length-set m.owners c.args.own.0 (Some c.args.own) in
    record {
      matched = revived_matched m n c.args.own i c.self.invariant.matched (revived_free m n c.args.own c.self.invariant.matched c.self.invariant.numbered there gone refl) l there gone refl refl refl;
      numbered = revived_numbered m n c.args.own c.self.invariant.numbered there l refl refl;
    }

pub returns-clause-ok : goal.returns-clause-ok
returns-clause-ok c =
    let m : Maps = maps_of c.self.inside in
    let i : Inner = record { 0 = c.args.own.0 } in
    let n : Maps = maps_of (record { inners = with_item c.self.inside.inners c.args.own.0 (Some i); outer_numbers = c.self.inside.outer_numbers; owners = with_item c.self.inside.owners c.args.own.0 (Some c.args.own); outers = c.self.inside.outers }) in
    let there : c.args.own.0 < length m.inners = subst (λ (z : Maps). c.args.own.0 < length z.inners) (sym c.self.view_is) c.requires.there in
    let gone : inner_at m c.args.own.0 ≡ None = ap (λ (z : Maps). inner_at z c.args.own.0) c.self.view_is ∙ c.requires.retired in
    let l : length n.owners ≡ length m.owners = length-set m.owners c.args.own.0 (Some c.args.own) in
    revived_plain c.args.own i m c.args.self.now n (ap plain c.self.view_is)
    (record {
      inners = refl;
      outer_numbers = refl;
      outers = refl;
      numbered = revived_free m n c.args.own c.self.invariant.matched c.self.invariant.numbered there gone refl;
      if_full = λ longer. absurd (omega (arith, l));
    })
