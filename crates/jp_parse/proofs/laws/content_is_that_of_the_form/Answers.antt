use Rattle.jp_ast.proofs.Contents.{content_is}
use Rattle.jp_parse.proofs.laws.content_is_that_of_the_form.Goals as goal

pub returns : goal.returns
returns c = content_is
