use Rattle.jp_framed.proofs.MapRows.{own_row, other_row}
use Rattle.jp_framed.proofs.environments.a_map_gives_relations_their_rows.Goals as goal

pub returns : goal.returns
returns c = record {
  own = λ rels setting m i set rel apart e h. own_row rels setting m i set rel apart e h;
  others = λ rels setting m rel none. other_row rels setting m rel none;
}
