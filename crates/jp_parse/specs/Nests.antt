-- Function values that read expressions, selects and items of FROM to a depth.
use Rattle.std.specs.Prelude.{ℕ, List, Result}
use Rattle.std.specs.declared.alloc.Global.{Global}
use denote.Ref.{MutBor}
use Rattle.jp_ast.specs.declared.tree.Ast.{Ast}
use Rattle.jp_ast.specs.declared.tree.FromItem.{FromItem}
use Rattle.jp_ast.specs.declared.tree.Select.{Select}
use Rattle.jp_cursor.specs.declared.stop.Stop.{Stop}
use Rattle.jp_ast.specs.Seen.{Seen}
use Rattle.jp_parse.specs.Readers.{expr, select, item}
use Rattle.jp_cursor.specs.Reads.{Reads}

-- what a call may be made of, and what it may give
abbrev pub Pre : Type 1
Pre = Global → MutBor (List Seen) → ℕ → Type 0

abbrev pub Post : Type 0 → Type 1
Post A = Global → MutBor (List Seen) → ℕ → Result A Stop → MutBor (List Seen) → Type 0

pub record Nests (depth : ℕ) (expr_pre : Pre) (expr_post : Post Ast) (select_pre : Pre) (select_post : Post Select) (item_pre : Pre) (item_post : Post FromItem) : Type 0 where
  pub expr_callable : (alloc : Global) (old : MutBor (List Seen)) → expr_pre alloc old depth
  pub expr_reads : (alloc : Global) (old new : MutBor (List Seen)) (r : Result Ast Stop) → expr_post alloc old depth r new → Reads (expr depth old.now) r new.now
  pub select_callable : (alloc : Global) (old : MutBor (List Seen)) → select_pre alloc old depth
  pub select_reads : (alloc : Global) (old new : MutBor (List Seen)) (r : Result Select Stop) → select_post alloc old depth r new → Reads (select depth old.now) r new.now
  pub item_callable : (alloc : Global) (old : MutBor (List Seen)) → item_pre alloc old depth
  pub item_reads : (alloc : Global) (old new : MutBor (List Seen)) (r : Result FromItem Stop) → item_post alloc old depth r new → Reads (item depth old.now) r new.now
