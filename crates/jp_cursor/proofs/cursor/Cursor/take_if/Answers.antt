use Rattle.std.proofs.Common.{◌∙◌, ap}
use Rattle.jp_ast.specs.Classes.{first}
use Rattle.jp_cursor.proofs.FirstFacts.{first_class, first_fits}
use Rattle.jp_cursor.proofs.cursor.Cursor.take_if.Goals as goal

pub returns-clause-taken : goal.returns-clause-taken
returns-clause-taken c =
    let some = c.in_ok-token.ensures.item in
    record {
      passed = c.if-not-passes.false;
      class = first_class c.self.inside.tokens.now c.in_ok-token.token.now some.3.0 some.1 ∙ ap first c.self.view_is;
      fits = first_fits c.self.inside.tokens.now c.in_ok-token.token.now some.3.0 some.1 c.self.invariant.1;
    }
