use Rattle.jp_search_tests.proofs.shapes.+write_shape.Given as goal

abbrev pub decreases-write_shape : goal.decreases-write_shape
decreases-write_shape l = l.id
