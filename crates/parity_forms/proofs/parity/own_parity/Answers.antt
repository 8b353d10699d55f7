use Rattle.std.proofs.Common.{ℕ, List, length, map, nat_lt, ap, ◌∙◌}
use Rattle.std.specs.List.{list_all}
use Rattle.std.specs.Prelude.{filter_map}
use Rattle.xor_cut.specs.Pieces.{own_var}
use Rattle.parity_forms.specs.Parities.{odd_numbers, left_number, left_rhs}
use Rattle.parity_forms.specs.InMaps.{outer_root}
use Rattle.parity_forms.specs.OddLaws.{odd_of_vars}
use Rattle.parity_forms.specs.ParityRootLaws.{odd_there}
use Rattle.parity_forms.proofs.parity.own_parity.Goals as goal

pub put_roots-requires-clause-there : goal.put_roots-requires-clause-there
put_roots-requires-clause-there c =
    ap (list_all (λ n. nat_lt n (length c.args.maps.now.outers))) (c.as_slice-2.ensures ∙ (c.in_ok-odd.ensures {u = tt} ∙ (ap odd_numbers (c.as_slice.ensures ∙ c.in_ok-numbers.ensures {u = tt}) ∙ odd_of_vars c.args.vars.now)))
    ∙ odd_there (λ n. nat_lt n (length c.args.maps.now.outers)) c.args.vars.now c.requires.there

pub returns-clause-vars : goal.returns-clause-vars
returns-clause-vars c =
    c.in_ok-vars.ensures {u = tt}
    ∙ ap (map own_var)
    (c.as_slice-4.ensures
    ∙ (c.in_ok-own.ensures {u = tt}
    ∙ ap odd_numbers
    (c.as_slice-3.ensures
    ∙ ((c.in_ok-left.ensures {u = tt}).numbers
    ∙ ap (λ (z : List ℕ). filter_map left_number (map (outer_root c.args.maps.now c.args.removed.now.entries) z))
    (c.as_slice-2.ensures ∙ (c.in_ok-odd.ensures {u = tt} ∙ (ap odd_numbers (c.as_slice.ensures ∙ c.in_ok-numbers.ensures {u = tt}) ∙ odd_of_vars c.args.vars.now)))))))

pub returns-clause-rhs : goal.returns-clause-rhs
returns-clause-rhs c =
    (c.in_ok-left.ensures {u = tt}).rhs
    ∙ ap (λ (z : List ℕ). left_rhs (map (outer_root c.args.maps.now c.args.removed.now.entries) z) c.args.rhs)
    (c.as_slice-2.ensures ∙ (c.in_ok-odd.ensures {u = tt} ∙ (ap odd_numbers (c.as_slice.ensures ∙ c.in_ok-numbers.ensures {u = tt}) ∙ odd_of_vars c.args.vars.now)))
