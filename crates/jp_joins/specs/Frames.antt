-- The kinds of joins of a frame.
use Rattle.jp_query.specs.declared.JoinKind.{JoinKind}
use Rattle.jp_query.specs.declared.JoinKind.TheVariants as join
use Rattle.jp_frame.specs.Frames.{Kind, Left, Semi, Anti}

abbrev pub IsSameKind : Kind → JoinKind → Type 0
IsSameKind Left join.Left = Unit {0}
IsSameKind Semi join.Semi = Unit {0}
IsSameKind Anti join.Anti = Unit {0}
IsSameKind _ _ = ⊥
