use Rattle.jp_session.proofs.running.run_query.Goals as goal

pub execute-requires : goal.execute-requires
execute-requires c = record {
  whole = c.requires.whole;
  belong = c.requires.belong;
  there = c.requires.whole.statement.there;
  fits = λ column outside. absurd (c.requires.whole.statement.alone column outside);
}
