use Rattle.std.proofs.Common.{rules, ◌∙◌, ap, cond, Some, ◌++◌, ◌∷◌, []}
use Rattle.std.specs.HashMap as hash
use Rattle.jp_joins.specs.Keys.{listed}
use Rattle.jp_joins.specs.declared.listed.Listed.TheVariants as few
use Rattle.jp_joins.proofs.KeyFacts.{same_key, table_more}
use Rattle.jp_joins.proofs.table.add_at.Goals as goal

pub returns-in_ok-list-in-Some : goal.returns-in_ok-list-in-Some
returns-in_ok-list-in-Some g c = table_more c.args.table.now (c.get_mut.follows.lender c.list.new.listed) c.args.key c.list.new.listed c.args.value
    (((c.get_mut.follows.holds c.list.new.listed).3 (search rules)).0)
    (c.in_ok-list-in-Some.ensures ∙ ap (λ xs. listed xs ++ c.args.value ∷ []) c.in-Some.ensures.value)

pub returns-in_ok-insert-in-None : goal.returns-in_ok-insert-in-None
returns-in_ok-insert-in-None g c = table_more c.args.table.now c.insert.new.self c.args.key (few.One c.args.value) c.args.value
    (λ q. c.in_ok-insert-in-None.ensures.updates.0 q ∙ ap (λ m. cond (same_key c.args.key q) (Some (few.One c.args.value)) (hash.get same_key m q)) c.get_mut.follows.holds-at-none)
    (ap (λ xs. listed xs ++ c.args.value ∷ []) c.in-None.ensures.value)
