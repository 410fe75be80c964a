-- What each part of a statement gives, put together from what the parts inside it give.
use Rattle.std.specs.Prelude.{ℕ, Bool, List, [], ◌∷◌, ◌++◌, Option, Some, None, Ok, Err}
use Rattle.jp_ast.specs.declared.tree.Ast.{Ast}
use Rattle.jp_ast.specs.declared.tree.FromItem.{FromItem}
use Rattle.jp_ast.specs.declared.tree.Target.{Target}
use Rattle.jp_ast.specs.declared.tree.Select.{Select}
use Rattle.jp_ast.specs.declared.tree.Ast.TheOpen.{Select-F}
use Rattle.jp_catalog.specs.declared.types.Catalog.{Catalog}
use Rattle.jp_query.specs.declared.Expr.{Expr}
use Rattle.jp_query.specs.declared.JoinKind.{JoinKind}
use Rattle.jp_query.specs.declared.JoinTree.{JoinTree}
use Rattle.jp_query.specs.declared.JoinTree.TheVariants as tree
use Rattle.jp_resolution.specs.declared.words.Counts.{Counts}
use Rattle.jp_resolution.specs.declared.words.Entry.{Entry}
use Rattle.jp_resolution.specs.declared.words.Selection.{Selection}
use Rattle.jp_resolution.specs.declared.words.TypedExpr.{TypedExpr}
use Rattle.jp_resolution.specs.Answers.{Answer, ◌>>=◌}
use Rattle.jp_resolution.specs.Counting.{Levels, none, one_sublink, both, next_sublink, is_there}
use Rattle.jp_resolution.specs.Types.{condition}
use Rattle.jp_resolution.specs.Resolving.{Selected, Source, Sources, with_source, with_sign, selection, outputs_in, meant_by, item_by, target_by, select_by}

-- ---- what the trees stand for

unfoldable pub expr_in : Catalog → Ast → Levels → Counts → Answer TypedExpr
expr_in catalog ast levels before = (meant_by catalog ast).part.over levels before

unfoldable pub counts_of_expr : Catalog → Ast → Counts
counts_of_expr catalog ast = (meant_by catalog ast).part.counts

unfoldable pub place_of_expr : Catalog → Ast → ℕ
place_of_expr catalog ast = (meant_by catalog ast).place

unfoldable pub label_of_expr : Catalog → Ast → Option (List ℕ)
label_of_expr catalog ast = (meant_by catalog ast).label

unfoldable pub select_in : Catalog → Select → Levels → Counts → Answer Selection
select_in catalog select levels before = (select_by catalog select).over levels before

unfoldable pub counts_of_select : Catalog → Select → Counts
counts_of_select catalog select = (select_by catalog select).counts

unfoldable pub item_in : Catalog → FromItem → Levels → List Entry → Counts → Answer Source
item_in catalog item outer earlier before = (item_by catalog item).from outer earlier before

unfoldable pub counts_of_item : Catalog → FromItem → Counts
counts_of_item catalog item = (item_by catalog item).counts

unfoldable pub target_in : Catalog → Target → Levels → Counts → Answer (List Selected)
target_in catalog target levels before = (target_by catalog target).over levels before

unfoldable pub counts_of_target : Catalog → Target → Counts
counts_of_target catalog target = (target_by catalog target).counts

module _ (catalog : Catalog) where
  -- ---- expressions

  abbrev pub exprs_in : List Ast → Levels → Counts → Answer (List TypedExpr)
  exprs_in [] levels before = Ok []
  exprs_in (ast ∷ asts) levels before = do
    x ← expr_in catalog ast levels before
    xs ← exprs_in asts levels (both before (counts_of_expr catalog ast))
    Ok (x ∷ xs)

  abbrev pub counts_of_exprs : List Ast → Counts
  counts_of_exprs [] = none
  counts_of_exprs (ast ∷ asts) = both (counts_of_expr catalog ast) (counts_of_exprs asts)

  abbrev pub term_in : Bool × Ast → Levels → Counts → Answer (Bool × TypedExpr)
  term_in term levels before = expr_in catalog term.1 levels before >>= with_sign term.0

  abbrev pub terms_in : List (Bool × Ast) → Levels → Counts → Answer (List (Bool × TypedExpr))
  terms_in [] levels before = Ok []
  terms_in (term ∷ terms) levels before = do
    x ← term_in term levels before
    xs ← terms_in terms levels (both before (counts_of_expr catalog term.1))
    Ok (x ∷ xs)

  abbrev pub counts_of_terms : List (Bool × Ast) → Counts
  counts_of_terms [] = none
  counts_of_terms (term ∷ terms) = both (counts_of_expr catalog term.1) (counts_of_terms terms)

  abbrev pub pair_in : Ast → Ast → Levels → Counts → Answer (TypedExpr × TypedExpr)
  pair_in left right levels before = do
    x ← expr_in catalog left levels before
    y ← expr_in catalog right levels (both before (counts_of_expr catalog left))
    Ok (x, y)

  abbrev pub counts_of_pair : Ast → Ast → Counts
  counts_of_pair left right = both (counts_of_expr catalog left) (counts_of_expr catalog right)

  abbrev pub triple_in : Ast → Ast → Ast → Levels → Counts → Answer (TypedExpr × (TypedExpr × TypedExpr))
  triple_in first second third levels before = do
    x ← expr_in catalog first levels before
    y ← pair_in second third levels (both before (counts_of_expr catalog first))
    Ok (x, y)

  abbrev pub arms_in : List (Ast × Ast) → Levels → Counts → Answer (List (TypedExpr × TypedExpr))
  arms_in [] levels before = Ok []
  arms_in (arm ∷ arms) levels before = do
    x ← pair_in arm.0 arm.1 levels before
    xs ← arms_in arms levels (both before (counts_of_pair arm.0 arm.1))
    Ok (x ∷ xs)

  abbrev pub counts_of_arms : List (Ast × Ast) → Counts
  counts_of_arms [] = none
  counts_of_arms (arm ∷ arms) = both (counts_of_pair arm.0 arm.1) (counts_of_arms arms)

  abbrev pub maybe_in : Option Ast → Levels → Counts → Answer (Option TypedExpr)
  maybe_in None levels before = Ok None
  maybe_in (Some ast) levels before = expr_in catalog ast levels before >>= is_there

  abbrev pub counts_of_maybe : Option Ast → Counts
  counts_of_maybe None = none
  counts_of_maybe (Some ast) = counts_of_expr catalog ast

  abbrev pub case_in : Option Ast → List (Ast × Ast) → Option Ast → Levels → Counts → Answer (Option TypedExpr × (List (TypedExpr × TypedExpr) × Option TypedExpr))
  case_in operand arms otherwise levels before = do
    x ← maybe_in operand levels before
    y ← arms_and_else arms otherwise levels (both before (counts_of_maybe operand))
    Ok (x, y)
    where
      arms_and_else : List (Ast × Ast) → Option Ast → Levels → Counts → Answer (List (TypedExpr × TypedExpr) × Option TypedExpr)
      arms_and_else arms otherwise levels before = do
        y ← arms_in arms levels before
        z ← maybe_in otherwise levels (both before (counts_of_arms arms))
        Ok (y, z)

  abbrev pub among_in : Ast → List Ast → Levels → Counts → Answer (TypedExpr × List TypedExpr)
  among_in operand list levels before = do
    x ← expr_in catalog operand levels before
    xs ← exprs_in list levels (both before (counts_of_expr catalog operand))
    Ok (x, xs)

  abbrev pub sublink_in : Ast → Select → Levels → Counts → Answer (ℕ × (TypedExpr × Selection))
  sublink_in operand select levels before = do
    x ← operand_and_select operand select levels (both before one_sublink)
    Ok (next_sublink before, x)
    where
      operand_and_select : Ast → Select → Levels → Counts → Answer (TypedExpr × Selection)
      operand_and_select operand select levels before = do
        x ← expr_in catalog operand levels before
        y ← select_in catalog select levels (both before (counts_of_expr catalog operand))
        Ok (x, y)

  abbrev pub exists_in : Select → Levels → Counts → Answer (ℕ × Selection)
  exists_in select levels before = do
    x ← select_in catalog select levels (both before one_sublink)
    Ok (next_sublink before, x)

  abbrev pub cond_in : Option Ast → Levels → Counts → Answer (List Expr)
  cond_in None levels before = Ok []
  cond_in (Some ast) levels before = expr_in catalog ast levels before >>= condition (place_of_expr catalog ast)

  -- ---- FROM

  abbrev pub items_in : List FromItem → Levels → List Entry → Counts → Answer Sources
  items_in [] outer earlier before = Ok (record { entries = []; trees = [] })
  items_in (item ∷ items) outer earlier before = do
    source ← item_in catalog item outer earlier before
    more ← items_in items outer (earlier ++ source.entries) (both before (counts_of_item catalog item))
    Ok (with_source source more)

  abbrev pub counts_of_items : List FromItem → Counts
  counts_of_items [] = none
  counts_of_items (item ∷ items) = both (counts_of_item catalog item) (counts_of_items items)

  abbrev pub join_in : JoinKind → FromItem → FromItem → Option Ast → Levels → List Entry → Counts → Answer Source
  join_in kind left right on outer earlier before = do
    l ← item_in catalog left outer earlier before
    r ← item_in catalog right outer (earlier ++ l.entries) (both before (counts_of_item catalog left))
    conds ← cond_in on ((l.entries ++ r.entries) ∷ outer) (both (both before (counts_of_item catalog left)) (counts_of_item catalog right))
    Ok (record { entries = l.entries ++ r.entries; tree = tree.Join kind l.tree r.tree conds })

  -- ---- targets and selects

  abbrev pub targets_in : List Target → Levels → Counts → Answer (List (List Selected))
  targets_in [] levels before = Ok []
  targets_in (target ∷ targets) levels before = do
    x ← target_in catalog target levels before
    xs ← targets_in targets levels (both before (counts_of_target catalog target))
    Ok (x ∷ xs)

  abbrev pub counts_of_targets : List Target → Counts
  counts_of_targets [] = none
  counts_of_targets (target ∷ targets) = both (counts_of_target catalog target) (counts_of_targets targets)

  abbrev pub all_outputs_in : List Target → Levels → Counts → Answer (List Selected)
  all_outputs_in targets levels before = targets_in targets levels before >>= (λ lists. Ok (outputs_in lists))

  abbrev pub select_steps : Select-F Ast FromItem Target Select → Levels → Counts → Answer Selection
  select_steps s outer before = do
    sources ← items_in s.items outer [] (both before (counts_of_targets s.targets))
    conds ← cond_in s.cond (sources.entries ∷ outer) (both (both before (counts_of_targets s.targets)) (counts_of_items s.items))
    outputs ← all_outputs_in s.targets (sources.entries ∷ outer) before
    Ok (selection s.distinct sources conds outputs)

-- ---- what is behind what was found

abbrev pub behind : {A : Type 0} → List A → Answer (List A) → Answer (List A)
behind found (Ok more) = Ok (found ++ more)
behind found (Err e) = Err e

-- the trees behind others, and the entries behind those before them
abbrev pub sources_behind : List JoinTree → List Entry → Answer Sources → Answer (List JoinTree × List Entry)
sources_behind trees earlier (Ok sources) = Ok (trees ++ sources.trees, earlier ++ sources.entries)
sources_behind trees earlier (Err e) = Err e
