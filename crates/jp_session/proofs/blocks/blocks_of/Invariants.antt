use Rattle.jp_session.proofs.blocks.blocks_of.Given as goal

abbrev pub ghosts-counted_blocks : goal.ghosts-counted_blocks
ghosts-counted_blocks a = record { name = a.blank.name; parts = a.blank.parts }
