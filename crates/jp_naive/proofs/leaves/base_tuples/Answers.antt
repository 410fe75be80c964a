use Rattle.std.proofs.Common.{◌∙◌, ap}
use Rattle.std.specs.Prelude.{vec_items}
use Rattle.jp_naive.specs.Frames.{rels_of}
use Rattle.jp_naive.specs.Numbers.{Numbered}
use Rattle.jp_naive.specs.declared.frames.Source.TheVariants as source
use Rattle.jp_naive.proofs.FrameFacts.{one_leaf_envs, rels_of_one}
use Rattle.jp_naive.proofs.leaves.base_tuples.Goals as goal

pub returns-clause-rels : goal.returns-clause-rels
returns-clause-rels c = ap (λ v. rels_of (vec_items v)) c.new.ensures.leaves ∙ ap rels_of c.in_ok-leaves.ensures ∙ rels_of_one (record { rel = c.args.rel; source = source.Table c.args.table })

pub returns-clause-tuples : goal.returns-clause-tuples
returns-clause-tuples c outer =
    one_leaf_envs c.args.tables.now.list (record { rel = c.args.rel; source = source.Table c.args.table }) outer c.new.result.leaves.items c.new.result.numbers.list c.row_count.result
    (ap vec_items c.new.ensures.leaves ∙ c.in_ok-leaves.ensures) (ap (λ (n : Numbered). n.list) c.new.ensures.numbers ∙ c.in_ok-numbers.ensures.numbers) c.row_count.ensures
