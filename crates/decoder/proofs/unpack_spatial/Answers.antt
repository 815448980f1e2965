-- `decoder::unpack_spatial` meets its contract. Assumes nothing.
use Rattle.std.proofs.lemmas.Result.{err_from_is_err_and}
use Rattle.decoder.proofs.Located.{decided-none, decided-other, decided-right, found-at-53}
use Rattle.decoder.proofs.Spatial.{refused-53, orderly-53, few-53, room-53, done-53}
use Rattle.decoder.proofs.unpack_spatial.Goals as goal

pub returns-in_err-located : goal.returns-in_err-located
returns-in_err-located c =
    let p = err_from_is_err_and c.from_residual.result c.from_residual.ensures.1 in
    rw (p.1, p.2) (refused-53 _ _ _ _ _ c.located_spatial.ensures (decided-none _ _ c.in_err-located.was))

pub returns-in_err-check_points : goal.returns-in_err-check_points
returns-in_err-check_points c =
    let p = err_from_is_err_and c.from_residual-in_err-check_points.result c.from_residual-in_err-check_points.ensures.1 in
    rw (p.1, p.2) (refused-53 _ _ _ _ _ c.located_spatial.ensures (decided-other _ _ c.in_ok-located.was c.check_points.ensures c.in_err-check_points.was))

pub invariant_of-groups : goal.invariant_of-groups
invariant_of-groups c = record { laid = (found-at-53 _ _ _ _ (decided-right _ _ c.in_ok-located.was c.check_points.ensures c.in_ok-check_points.was) _ c.located_spatial.ensures).0 }

pub store_points-requires : goal.store_points-requires
store_points-requires c = (found-at-53 _ _ _ _ (decided-right _ _ c.in_ok-located.was c.check_points.ensures c.in_ok-check_points.was) _ c.located_spatial.ensures).1

pub unpack_differences-requires : goal.unpack_differences-requires
unpack_differences-requires c =
    let d = decided-right _ _ c.in_ok-located.was c.check_points.ensures c.in_ok-check_points.was in (
      orderly-53 _ _ _ _ _ c.located_spatial.ensures d c.store_points.ensures,
      few-53 _ _ _ _ _ c.located_spatial.ensures d c.store_points.ensures,
      room-53 _ _ _ _ _ c.located_spatial.ensures d c.store_points.ensures,
    )

pub returns : goal.returns
returns c =
    done-53 _ _ _ _ _ c.located_spatial.ensures (decided-right _ _ c.in_ok-located.was c.check_points.ensures c.in_ok-check_points.was) c.store_points.ensures
    c.unpack_differences.ensures
