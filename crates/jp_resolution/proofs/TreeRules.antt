-- The equations by which the definitions are run on a tree that is written out.
use Rattle.std.proofs.Common.{◌≡◌, ◌∙◌, ap, ℕ, false, List}
use Rattle.jp_ast.specs.declared.tree.Ast.TheFolds.{map-Ast, map-FromItem, map-Target, map-Select, fold-roll-Ast, fold-roll-FromItem, fold-roll-Target, fold-roll-Select}
use Rattle.jp_ast.specs.declared.tree.Ast.TheViews.{roll-Ast, roll-FromItem, roll-Target, roll-Select}
use Rattle.jp_base.specs.declared.values.Ty.{Ty}
use Rattle.jp_base.specs.declared.values.Value.{Value}
use Rattle.jp_query.specs.declared.Expr.TheVariants as expr
use Rattle.jp_query.specs.declared.Output.{out-roll-Output}
use Rattle.jp_query.specs.declared.Query.{out-roll-Query}
use Rattle.jp_query.specs.declared.Expr.TheOpen.{Expr-F}
use Rattle.jp_query.specs.Equality.{Same, same_as, same_level, same_expr}
use Rattle.jp_query.proofs.EqualityRules.{same-Col, same-Lit, same-Sum, same-Exists}
use Rattle.jp_query.proofs.FoldLaws as laws
use Rattle.jp_resolution.specs.Layers.{Ast, FromItem, Target, Select, Ast-F, FromItem-F, Target-F, Select-F, Catalog, Counts, Entry, Selection}
use Rattle.jp_resolution.specs.Counting.{Part, Levels}
use Rattle.jp_resolution.specs.Resolving.{AstMeant, ItemMeant, Targets, ast_meant, item_meant, target_meant, select_meant, meant_by, item_by, target_by, select_by}

module _ (catalog : Catalog) where
  abbrev pub ast_level : Ast-F Ast FromItem Target Select → AstMeant
  ast_level x = ast_meant (map-Ast Ast FromItem Target Select AstMeant ItemMeant Targets (Part Selection) (meant_by catalog) (item_by catalog) (target_by catalog) (select_by catalog) x)

  abbrev pub item_level : FromItem-F Ast FromItem Target Select → ItemMeant
  item_level x = item_meant catalog (map-FromItem Ast FromItem Target Select AstMeant ItemMeant Targets (Part Selection) (meant_by catalog) (item_by catalog) (target_by catalog) (select_by catalog) x)

  abbrev pub target_level : Target-F Ast FromItem Target Select → Targets
  target_level x = target_meant (map-Target Ast FromItem Target Select AstMeant ItemMeant Targets (Part Selection) (meant_by catalog) (item_by catalog) (target_by catalog) (select_by catalog) x)

  abbrev pub select_level : Select-F Ast FromItem Target Select → Part Selection
  select_level x = select_meant (map-Select Ast FromItem Target Select AstMeant ItemMeant Targets (Part Selection) (meant_by catalog) (item_by catalog) (target_by catalog) (select_by catalog) x)

  pub ast_rolls : (x : Ast-F Ast FromItem Target Select) → meant_by catalog (roll-Ast x) ≡ ast_level x
  ast_rolls x = fold-roll-Ast AstMeant ItemMeant Targets (Part Selection) ast_meant (item_meant catalog) target_meant select_meant x

  pub item_rolls : (x : FromItem-F Ast FromItem Target Select) → item_by catalog (roll-FromItem x) ≡ item_level x
  item_rolls x = fold-roll-FromItem AstMeant ItemMeant Targets (Part Selection) ast_meant (item_meant catalog) target_meant select_meant x

  pub target_rolls : (x : Target-F Ast FromItem Target Select) → target_by catalog (roll-Target x) ≡ target_level x
  target_rolls x = fold-roll-Target AstMeant ItemMeant Targets (Part Selection) ast_meant (item_meant catalog) target_meant select_meant x

  pub select_rolls : (x : Select-F Ast FromItem Target Select) → select_by catalog (roll-Select x) ≡ select_level x
  select_rolls x = fold-roll-Select AstMeant ItemMeant Targets (Part Selection) ast_meant (item_meant catalog) target_meant select_meant x

  -- ---- what a tree gives, part by part

  pub ast_over : (x : Ast-F Ast FromItem Target Select) (levels : Levels) (before : Counts) → (meant_by catalog (roll-Ast x)).part.over levels before ≡ (ast_level x).part.over levels before
  ast_over x levels before = ap (λ (m : AstMeant). m.part.over levels before) (ast_rolls x)

  pub ast_counts : (x : Ast-F Ast FromItem Target Select) → (meant_by catalog (roll-Ast x)).part.counts ≡ (ast_level x).part.counts
  ast_counts x = ap (λ (m : AstMeant). m.part.counts) (ast_rolls x)

  pub ast_place : (x : Ast-F Ast FromItem Target Select) → (meant_by catalog (roll-Ast x)).place ≡ (ast_level x).place
  ast_place x = ap (λ (m : AstMeant). m.place) (ast_rolls x)

  pub ast_label : (x : Ast-F Ast FromItem Target Select) → (meant_by catalog (roll-Ast x)).label ≡ (ast_level x).label
  ast_label x = ap (λ (m : AstMeant). m.label) (ast_rolls x)

  pub ast_written : (x : Ast-F Ast FromItem Target Select) → (meant_by catalog (roll-Ast x)).written ≡ (ast_level x).written
  ast_written x = ap (λ (m : AstMeant). m.written) (ast_rolls x)

  pub item_counts : (x : FromItem-F Ast FromItem Target Select) → (item_by catalog (roll-FromItem x)).counts ≡ (item_level x).counts
  item_counts x = ap (λ (m : ItemMeant). m.counts) (item_rolls x)

  pub item_from : (x : FromItem-F Ast FromItem Target Select) (outer : Levels) (earlier : List Entry) (before : Counts) → (item_by catalog (roll-FromItem x)).from outer earlier before ≡ (item_level x).from outer earlier before
  item_from x outer earlier before = ap (λ (m : ItemMeant). m.from outer earlier before) (item_rolls x)

  pub target_over : (x : Target-F Ast FromItem Target Select) (levels : Levels) (before : Counts) → (target_by catalog (roll-Target x)).over levels before ≡ (target_level x).over levels before
  target_over x levels before = ap (λ (m : Targets). m.over levels before) (target_rolls x)

  pub target_counts : (x : Target-F Ast FromItem Target Select) → (target_by catalog (roll-Target x)).counts ≡ (target_level x).counts
  target_counts x = ap (λ (m : Targets). m.counts) (target_rolls x)

  pub select_over : (x : Select-F Ast FromItem Target Select) (levels : Levels) (before : Counts) → (select_by catalog (roll-Select x)).over levels before ≡ (select_level x).over levels before
  select_over x levels before = ap (λ (m : Part Selection). m.over levels before) (select_rolls x)

  pub select_counts : (x : Select-F Ast FromItem Target Select) → (select_by catalog (roll-Select x)).counts ≡ (select_level x).counts
  select_counts x = ap (λ (m : Part Selection). m.counts) (select_rolls x)

-- of statements whose entries are too many: what stands in them alone
pub ruleset counts = (ast_counts, item_counts, target_counts, select_counts)

-- ---- expressions of different constructors

abbrev nothing : {A : Type 0} → A → Unit {0}
nothing x = tt

pub col_and_literal : (rel col : ℕ) (t : Ty) (nulled : ℕ) (v : Value) (u : Ty) → same_expr (expr.Col rel col t nulled) (expr.Lit v u) ≡ false
unfolding same_level
col_and_literal rel col t nulled v u =
    ap (λ (f : Same). f (expr.Lit v u)) (laws.at-Col Same (Unit {0}) (Unit {0}) (Unit {0}) (Unit {0}) same_as nothing nothing nothing nothing rel col t nulled)
    ∙ ap (same_level (Expr-F.Col rel col t nulled)) (expr.outs-Lit v u)

pub literal_and_col : (v : Value) (u : Ty) (rel col : ℕ) (t : Ty) (nulled : ℕ) → same_expr (expr.Lit v u) (expr.Col rel col t nulled) ≡ false
unfolding same_level
literal_and_col v u rel col t nulled =
    ap (λ (f : Same). f (expr.Col rel col t nulled)) (laws.at-Lit Same (Unit {0}) (Unit {0}) (Unit {0}) (Unit {0}) same_as nothing nothing nothing nothing v u)
    ∙ ap (same_level (Expr-F.Lit v u)) (expr.outs-Col rel col t nulled)

pub ruleset runs = (
  ast_over,
  ast_counts,
  ast_place,
  ast_label,
  ast_written,
  item_counts,
  item_from,
  target_over,
  target_counts,
  select_over,
  select_counts,
  out-roll-Output,
  out-roll-Query,
  same-Col,
  same-Lit,
  same-Sum,
  same-Exists,
  col_and_literal,
  literal_and_col,
)
