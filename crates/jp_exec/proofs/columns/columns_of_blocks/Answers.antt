use Rattle.std.proofs.Common.{◌∙◌, sym, ap, ap₂, ◌++◌, ◌∷◌, [], List, ℕ, map}
use Rattle.std.proofs.lemmas.List.{map-append}
use Rattle.jp_exec.specs.Columns.{listed_columns}
use Rattle.jp_exec.proofs.CycleFacts.{named_more}
use Rattle.jp_exec.proofs.columns.columns_of_blocks.Goals as goal

pub blocks-2-preserved : goal.blocks-2-preserved
blocks-2-preserved c =
    ap (map listed_columns) c.in_ok-push.ensures.items ∙ map-append listed_columns c.blocks-2.list.items (c.in_ok-columns.columns ∷ [])
    ∙ ap₂ (λ (xs : List (List (ℕ × ℕ))) (x : List (ℕ × ℕ)). xs ++ x ∷ []) c.blocks-2.invariant c.in_ok-columns.ensures
    ∙ sym (named_more c.args.prepared.now c.blocks-2.at)
