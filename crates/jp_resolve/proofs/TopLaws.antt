-- A statement by its select and its ORDER BY.
use Rattle.std.proofs.Common.{◌≡◌, ◌∙◌, ◌≤◌, ap, sym, refl, true, List, [], ◌∷◌, Ok, Err}
use Rattle.std.specs.Prelude.{nat_le, if◌then◌else◌}
use Rattle.std.proofs.lemmas.Bool.{le-leb}
use Rattle.jp_ast.specs.declared.tree.OrderAst.{OrderAst}
use Rattle.jp_ast.specs.declared.tree.Stmt.{Stmt}
use Rattle.jp_catalog.specs.declared.types.Catalog.{Catalog}
use Rattle.jp_query.specs.declared.Order.{Order}
use Rattle.jp_query.specs.declared.Query.{Query}
use Rattle.jp_resolution.specs.declared.words.Counts.{Counts}
use Rattle.jp_resolution.specs.declared.words.Selection.{Selection}
use Rattle.jp_resolution.specs.Answers.{Answer, ◌>>=◌, Gives}
use Rattle.jp_resolution.specs.Counting.{none, both}
use Rattle.jp_resolution.specs.Resolving.{ordered, counted, counts_in, query_of, entry_limit, resolved}
use Rattle.jp_resolution.specs.declared.error.ResolveError.TheVariants.{TooManyTables}
use Rattle.jp_resolve.specs.Walk.{select_in, counts_of_select}
use Rattle.jp_resolve.specs.Orders.{orders_in, counts_of_orders}
use Rattle.jp_resolve.proofs.CountLaws.{agreed}
use Rattle.jp_resolve.proofs.OrderLaws.{orders_are, orders_counted}

abbrev ordered_query : Selection → List Order → Answer Query
ordered_query s items = Ok (query_of s items)

pub ordered_is : (c : Catalog) (orders : List OrderAst) (before : Counts) (s : Selection)
    → ordered c orders before s ≡ (orders_in c s.distinct s.outputs orders (s.entries ∷ []) before >>= ordered_query s)
ordered_is c orders before s = ap (λ r. r >>= ordered_query s) (orders_are c s.distinct s.outputs orders (s.entries ∷ []) before)

pub counted_is : (c : Catalog) (stmt : Stmt) → counted c stmt ≡ (select_in c stmt.select [] none >>= ordered c stmt.order (counts_of_select c stmt.select))
unfolding select_in counts_of_select
counted_is c stmt = refl

pub counts_are : (c : Catalog) (stmt : Stmt) → counts_in c stmt ≡ both (counts_of_select c stmt.select) (counts_of_orders c stmt.order)
unfolding counts_of_select
counts_are c stmt = ap (both (counts_of_select c stmt.select)) (orders_counted c stmt.order)

-- a statement whose entries are few enough
pub few_resolved : (c : Catalog) (stmt : Stmt) (select order counts : Counts) → Gives (Ok (counts_of_select c stmt.select)) (Ok select) → Gives (Ok (counts_of_orders c stmt.order)) (Ok order)
    → Gives (Ok (both select order)) (Ok counts) → counts.entries ≤ 12 → resolved c stmt ≡ counted c stmt
unfolding resolved
few_resolved c stmt select order counts g1 g2 g3 few =
    let whole : counts ≡ counts_in c stmt = agreed (both select order) counts g3 ∙ (λ k. both (agreed (counts_of_select c stmt.select) select g1 k) (agreed (counts_of_orders c stmt.order) order g2 k)) ∙ sym (counts_are c stmt) in
    let fits : nat_le counts.entries entry_limit ≡ true = le-leb counts.entries 12 few in
    ap (λ b. if b then counted c stmt else Err (TooManyTables (counts_in c stmt).entries)) (ap (λ k. nat_le k.entries entry_limit) (sym whole) ∙ fits)

pub ruleset tops = (ordered_is, counted_is, counts_are)
