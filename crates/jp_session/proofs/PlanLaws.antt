-- The block of a part, as the search and the prices give it.
use Rattle.std.proofs.Common.{◌≡◌, ap, sym, subst, ℕ, ◌≤◌, ◌^◌, List}
use Rattle.jp_catalog.specs.declared.types.Catalog.{Catalog}
use Rattle.jp_cost.specs.Estimates.{estimate}
use Rattle.jp_cost.specs.TreeCosts.{tree_cost}
use Rattle.jp_problem.specs.declared.types.Item.{Item}
use Rattle.jp_problem.specs.declared.types.Problem.{Problem}
use Rattle.jp_problem.specs.Made.{IsSearchable}
use Rattle.jp_problem.specs.Problems.{items_of, problem_of}
use Rattle.jp_problem.specs.Trees.{Tree, IsPlan}
use Rattle.jp_query.specs.declared.Query.{Query, out-Query}
use Rattle.jp_search.specs.TreeOrder.{ComesBefore}
use Rattle.jp_tree.specs.declared.pool.PlanNode.{PlanNode}
use Rattle.jp_tree.specs.declared.prepared.Block.{Block}
use Rattle.jp_tree.specs.Pools.{IsTreeOf}
use Rattle.jp_prepared.specs.Sources.{items_of_block}
use Rattle.jp_session.specs.declared.gathering.Entry.{Entry}
use Rattle.jp_session.specs.declared.prices.Price.{Price}
use Rattle.jp_session.specs.Blocks.{CanBePlanned, IsPlanned}
use Rattle.jp_session.specs.Costs.{IsLegalPlan}
use Rattle.jp_session.specs.Items.{AreItems}

-- the search takes the problem of the items
pub searched : (catalog : Catalog) (prices : List Price) (count : ℕ) (entry : Entry) (q : Query) (inner : List ℕ) (items : List Item) (problem : Problem) → CanBePlanned catalog prices count entry → q ≡ entry.part.query → inner ≡ entry.inner
    → AreItems catalog prices count (items_of_block q) inner items → problem ≡ problem_of items q → IsSearchable problem
searched catalog prices count entry q inner items problem can same at them is =
    let own = subst (λ ps. AreItems catalog prices count (items_of_block entry.part.query) ps items) at (subst (λ b. AreItems catalog prices count (items_of_block b) inner items) same them) in
    subst IsSearchable (sym (subst (λ x. problem ≡ problem_of items x) same is)) (can.can items own).searchable

-- the first of the legal trees is one
pub is_legal : (problem : Problem) (nodes : List PlanNode) (plan : ℕ) → (tree : Tree) × IsTreeOf nodes plan tree × IsPlan problem tree → IsLegalPlan problem nodes plan
is_legal problem nodes plan h = record { tree = h.0; is = h.1; legal = h.2.legal }

pub is_planned : (catalog : Catalog) (prices : List Price) (count : ℕ) (entry : Entry) (q : Query) (inner : List ℕ) (items : List Item) (nodes : List PlanNode) (block : Block) (price : Price) → q ≡ entry.part.query → inner ≡ entry.inner
    → AreItems catalog prices count (items_of_block q) inner items → block.problem ≡ problem_of items q
    → (tree : Tree) × IsTreeOf nodes block.plan tree × IsPlan block.problem tree
    → ((tree other : Tree) → IsTreeOf nodes block.plan tree → IsPlan block.problem other → ¬ ComesBefore block.problem other tree)
    → block.columns ≡ (out-Query q).columns → block.distinct ≡ (out-Query q).distinct → block.order ≡ (out-Query q).order → block.sub ≡ entry.part.sub
    → price.rows ≡ estimate block.problem (items_of block.problem) → ((tree : Tree) → IsTreeOf nodes block.plan tree → price.cost ≡ tree_cost block.problem tree) → price.rows ≤ 2 ^ 60 → price.cost ≤ 2 ^ 126
    → IsPlanned catalog prices count entry nodes block price
is_planned catalog prices count entry q inner items nodes block price same at them is plan first columns distinct order sub rows cost few fits =
    let own = subst (λ ps. AreItems catalog prices count (items_of_block entry.part.query) ps items) at (subst (λ b. AreItems catalog prices count (items_of_block b) inner items) same them) in
    let made : block.problem ≡ problem_of items entry.part.query = subst (λ x. block.problem ≡ problem_of items x) same is in
    let their : items ≡ block.problem.items = ap (λ (p : Problem). p.items) (sym made) in
    record {
      items = subst (AreItems catalog prices count (items_of_block entry.part.query) entry.inner) their own;
      problem = subst (λ xs. block.problem ≡ problem_of xs entry.part.query) their made;
      plan = record { tree = plan.0; is = plan.1; plan = plan.2; first = λ other legal. first plan.0 other plan.1 legal };
      columns = subst (λ x. block.columns ≡ (out-Query x).columns) same columns;
      distinct = subst (λ x. block.distinct ≡ (out-Query x).distinct) same distinct;
      order = subst (λ x. block.order ≡ (out-Query x).order) same order;
      sub = sub;
      priced = record { rows = rows; cost = cost; bounded = record { rows = few; cost = fits } };
    }
