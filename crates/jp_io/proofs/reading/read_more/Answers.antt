-- What was read stands behind what was read before it.
use Rattle.std.proofs.Common.{drop, Ok, subst, ◌∙◌}
use Rattle.jp_io.specs.Files.{ReadsAt}
use Rattle.jp_io.proofs.Pieces.{start_grows}
use Rattle.jp_io.proofs.reading.read_more.Goals as goal

pub returns-in-Ok-extend_from_slice-clause-start : goal.returns-in-Ok-extend_from_slice-clause-start
returns-in-Ok-extend_from_slice-clause-start g c =
    λ start. rw c.in-Ok-extend_from_slice.ensures.items (start_grows (g.F.Files.contents c.args.files.now) c.args.name.now
    c.args.bytes.now.items c.read.new.into (drop c.min-asked.result c.args.piece.now) c.in-Ok.n c.in-Ok.ensures.bound.0
    (subst (λ at. ReadsAt (g.F.Files.contents c.args.files.now) c.args.name.now at (Ok c.in-Ok.n) c.read.new.into)
    (c.len-filled.ensures ∙ c.args.bytes.now.ok.0) c.in-Ok.ensures.bytes) start)
