use Rattle.jp_search_tests.proofs.shapes.shape_of.Given as goal

abbrev pub ghosts-counted_shape : goal.ghosts-counted_shape
ghosts-counted_shape a = record { name = a.blank.name; parts = a.blank.parts }
