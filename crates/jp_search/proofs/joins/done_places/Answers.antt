use Rattle.std.proofs.Common.{arith}
use Rattle.jp_search.proofs.joins.done_places.Goals as goal

pub overflow_add-places : goal.overflow_add-places
overflow_add-places c = omega (arith, c.joins.invariant.1, c.place_if_done-places.ensures.fits, c.place_if_done-places.ensures.place_fits)
