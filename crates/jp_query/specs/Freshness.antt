-- Fresh queries, which resolution gives: without placeholders, with numbers that the rewritings leave free, and with
-- copies of a sublink only where an ORDER BY item repeats an output.
use Rattle.std.specs.Prelude.{ℕ, ◌≡◌, ◌≤◌, ◌+◌, ◌==◌, ◌&&◌, ◌||◌, Bool, true, false, not, List, [], ◌∷◌, ◌++◌, map, length, All, Contains, Option, Some, None, if◌then◌else◌}
use Rattle.std.specs.List.{list_all, list_any}
use Rattle.jp_query.specs.declared.Expr.TheVariants as expr
use Rattle.jp_query.specs.declared.Expr.TheFolds.{para-Query}
use Rattle.jp_query.specs.Layers.{Expr, JoinTree, Order, Output, Query, Expr-F, JoinTree-F, Order-F, Output-F, Query-F, fold-Query}
use Rattle.jp_query.specs.Parts.{all_in, parts, sublink_query, trees, conditions, leaf_query, option_part, leaves_in, placeholders_in_query}
use Rattle.jp_query.specs.Typing.{is_listed}

-- ---- the sublinks of a query, at every depth

pub record Sublink : Type 0 where
  pub number : ℕ
  pub node : Expr

abbrev pub Found : Type 0
Found = List Sublink

module _ {A : Type 0} where
  abbrev pub found_in : A × Found → Found
  found_in part = part.1

abbrev pub ExprParts : Type 0
ExprParts = Expr-F (Expr × Found) (JoinTree × Found) (Order × Found) (Output × Found) (Query × Found)

abbrev pub sublink_here : ExprParts → Found
sublink_here (Expr-F.Exists sub query) = record { number = sub; node = expr.Exists sub query.0 } ∷ []
sublink_here (Expr-F.InSub sub operand query) = record { number = sub; node = expr.InSub sub operand.0 query.0 } ∷ []
sublink_here _ = []

abbrev pub expr_found : ExprParts → Found
expr_found x = sublink_here x ++ (all_in (map found_in (parts x)) ++ all_in (map found_in (option_part (sublink_query x))))

abbrev pub tree_found : JoinTree-F (Expr × Found) (JoinTree × Found) (Order × Found) (Output × Found) (Query × Found) → Found
tree_found t = all_in (map found_in (trees t)) ++ (all_in (map found_in (conditions t)) ++ all_in (map found_in (option_part (leaf_query t))))

abbrev pub order_found : Order-F (Expr × Found) (JoinTree × Found) (Order × Found) (Output × Found) (Query × Found) → Found
order_found o = o.expr.1

abbrev pub output_found : Output-F (Expr × Found) (JoinTree × Found) (Order × Found) (Output × Found) (Query × Found) → Found
output_found o = o.expr.1

abbrev pub query_found : Query-F (Expr × Found) (JoinTree × Found) (Order × Found) (Output × Found) (Query × Found) → Found
query_found q = all_in (map found_in q.columns) ++ (q.tree.1 ++ (all_in (map found_in q.conds) ++ all_in (map found_in q.order)))

abbrev pub sublinks_in : Query → Found
sublinks_in = para-Query Found Found Found Found Found expr_found tree_found order_found output_found query_found

-- ---- where the sublinks of a query stand

-- from the top of a tree down: which of its parts, which part of that one, and so on
abbrev pub Position : Type 0
Position = List ℕ

abbrev pub same_position : Position → Position → Bool
same_position [] [] = true
same_position (i ∷ p) (j ∷ q) = i == j && same_position p q
same_position _ _ = false

-- a sublink around another, by its own position
pub record Larger : Type 0 where
  pub number : ℕ
  pub position : Position

-- One occurrence of a sublink: the larger sublinks around it and, if it stands in outputs or ORDER BY items and in no larger
-- sublink of theirs, the position of their select.
pub record Occurrence : Type 0 where
  pub number : ℕ
  pub around : List Larger
  pub listed_in : Option Position

-- ---- positions seen from one level higher, where the part is the one at place i

abbrev pub larger_below : ℕ → Larger → Larger
larger_below i larger = record { number = larger.number; position = i ∷ larger.position }

abbrev pub position_below : ℕ → Option Position → Option Position
position_below i (Some position) = Some (i ∷ position)
position_below i None = None

abbrev pub below : ℕ → Occurrence → Occurrence
below i s = record { number = s.number; around = map (larger_below i) s.around; listed_in = position_below i s.listed_in }

-- those of all parts, which have the places from i on
abbrev pub from_parts : ℕ → List (List Occurrence) → List Occurrence
from_parts i [] = []
from_parts i (part ∷ more) = map (below i) part ++ from_parts (i + 1) more

-- ---- the occurrences of a query's sublinks, at every depth

abbrev pub itself : ℕ → Occurrence
itself sub = record { number = sub; around = []; listed_in = None }

-- inside the sublink at this level
abbrev pub inside : ℕ → Occurrence → Occurrence
inside sub s = record s { around = record { number = sub; position = [] } ∷ s.around }

-- in the outputs or ORDER BY items of the select at this level
abbrev pub listed_here : Occurrence → Occurrence
listed_here s = if is_listed s.around then s else record s { listed_in = Some [] }

abbrev pub expr_occurrences : Expr-F (List Occurrence) (List Occurrence) (List Occurrence) (List Occurrence) (List Occurrence) → List Occurrence
expr_occurrences (Expr-F.Exists sub query) = itself sub ∷ map (inside sub) (from_parts 0 (query ∷ []))
expr_occurrences (Expr-F.InSub sub operand query) = itself sub ∷ (from_parts 0 (operand ∷ []) ++ map (inside sub) (from_parts 1 (query ∷ [])))
expr_occurrences x = from_parts 0 (parts x)

abbrev pub tree_occurrences : JoinTree-F (List Occurrence) (List Occurrence) (List Occurrence) (List Occurrence) (List Occurrence) → List Occurrence
tree_occurrences (JoinTree-F.Base rel name table) = []
tree_occurrences (JoinTree-F.Sub rel name query) = from_parts 0 (query ∷ [])
tree_occurrences (JoinTree-F.Join kind left right on) = from_parts 0 (left ∷ right ∷ on)
tree_occurrences (JoinTree-F.From members conds) = from_parts 0 (members ++ conds)

abbrev pub order_occurrences : Order-F (List Occurrence) (List Occurrence) (List Occurrence) (List Occurrence) (List Occurrence) → List Occurrence
order_occurrences order = order.expr

abbrev pub output_occurrences : Output-F (List Occurrence) (List Occurrence) (List Occurrence) (List Occurrence) (List Occurrence) → List Occurrence
output_occurrences output = output.expr

abbrev pub query_occurrences : Query-F (List Occurrence) (List Occurrence) (List Occurrence) (List Occurrence) (List Occurrence) → List Occurrence
query_occurrences q =
    let lists = q.columns ++ q.order in
    map listed_here (from_parts 0 lists) ++ from_parts (length lists) (q.tree ∷ q.conds)

abbrev pub occurrences_in : Query → List Occurrence
occurrences_in = fold-Query (List Occurrence) (List Occurrence) (List Occurrence) (List Occurrence) (List Occurrence) expr_occurrences tree_occurrences order_occurrences output_occurrences query_occurrences

-- ---- where two sublinks of one number may stand

-- in outputs or ORDER BY items of one select
abbrev pub in_one_list : Option Position → Option Position → Bool
in_one_list (Some p) (Some q) = same_position p q
in_one_list _ _ = false

-- two larger sublinks of one number
abbrev pub are_copies : Larger → Larger → Bool
are_copies p q = p.number == q.number && not (same_position p.position q.position)

abbrev pub inside_copies : List Larger → List Larger → Bool
inside_copies ps qs = list_any (λ p. list_any (are_copies p) qs) ps

abbrev pub may_stand : Occurrence → Occurrence → Bool
may_stand a b = not (a.number == b.number) || (in_one_list a.listed_in b.listed_in || inside_copies a.around b.around)

-- each pair of members passes the test
abbrev pub each_pair : {A : Type 0} → (A → A → Bool) → List A → Bool
each_pair test [] = true
each_pair test (x ∷ xs) = list_all (test x) xs && each_pair test xs

-- Fresh; said of a typed query.
pub record IsFresh (query : Query) : Type 0 where
  pub placeholders : placeholders_in_query query ≡ []
  pub numbers : All (λ s. (1 ≤ s.number) × (s.number ≤ 15)) (sublinks_in query)
  pub leaves : All (λ n. ¬ ((32 ≤ n) × (n ≤ 46))) (leaves_in query)
  -- two sublinks of one number are equal
  pub equal : (a b : Sublink) → Contains (sublinks_in query) a → Contains (sublinks_in query) b → a.number ≡ b.number → a.node ≡ b.node
  -- and stand either in outputs or ORDER BY items of one select, or inside two larger sublinks of one number
  pub placed : each_pair may_stand (occurrences_in query) ≡ true
