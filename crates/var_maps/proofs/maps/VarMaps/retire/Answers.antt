use Rattle.std.proofs.Common.{◌≡◌, Some, None, true, get_or, ap, ◌∙◌, refl}
use Rattle.std.specs.Option.{is_some}
use Rattle.std.specs.Vec.{with_item}
use Rattle.var_maps.specs.Maps.{Maps, inner_at}
use Rattle.var_maps.specs.Kept.{maps_of}
use Rattle.var_maps.proofs.Tables.{some_within, read_some}
use Rattle.var_maps.proofs.Matching.{retired_matched, retired_numbered}
use Rattle.var_maps.proofs.maps.VarMaps.retire.Goals as goal

pub invariant_of-self : goal.invariant_of-self
invariant_of-self c =
    let h : is_some (get_or c.self.inside.inners.items c.args.own.0 None) ≡ true = ap (λ (m : Maps). is_some (inner_at m c.args.own.0)) c.self.view_is ∙ c.requires in
    let e : inner_at (maps_of c.self.inside) c.args.own.0 ≡ Some c.unwrap-inner.result = read_some c.self.inside.inners.items c.args.own.0 c.index.result.now (some_within _ _ h) c.index.ensures ∙ c.unwrap-inner.ensures in
    let n : Maps = maps_of (record { inners = with_item c.self.inside.inners c.args.own.0 None; outer_numbers = c.self.inside.outer_numbers; owners = with_item c.self.inside.owners c.unwrap-inner.result.0 None; outers = c.self.inside.outers }) in
    record {
      matched = retired_matched (maps_of c.self.inside) n c.args.own.0 c.unwrap-inner.result c.self.invariant.matched e refl refl refl refl;
      numbered = retired_numbered (maps_of c.self.inside) n c.args.own.0 c.unwrap-inner.result c.self.invariant.numbered e refl refl refl;
    }
