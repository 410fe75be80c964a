use Rattle.std.proofs.Common.{◌≡◌, drop, map}
use Rattle.std.specs.Cmp.Lexicographic.{pointwise}
use Rattle.std.specs.Str.{bytes_eq}
use Rattle.csv.specs.Records.{fields_of}
use Rattle.jp_table.proofs.header.is_header.Given as goal

abbrev pub invariant-loop-i : goal.invariant-loop-i
invariant-loop-i l =
    pointwise bytes_eq (drop l.i (map (λ column. column.0) l.columns)) (drop l.i (fields_of l.header)) ≡ pointwise bytes_eq (map (λ column. column.0) l.columns) (fields_of l.header)
