-- Whatever a whole part of a statement stands for is made: an induction over the statement's tree.
use Rattle.std.proofs.Common.{◌≡◌, ◌∙◌, sym, subst, refl, ℕ, Bool, true, List, [], ◌∷◌, map, Option, Some, None, Ok}
use Rattle.std.specs.Prelude.{◌&&◌}
use Rattle.std.specs.List.{list_all}
use Rattle.std.proofs.lemmas.Bool.{and_parts, false≢true}
use Rattle.jp_base.specs.declared.values.Ty.TheVariants as ty
use Rattle.jp_catalog.specs.declared.types.Catalog.{Catalog}
use Rattle.jp_ast.specs.declared.tree.Ast.{Ast}
use Rattle.jp_ast.specs.declared.tree.FromItem.{FromItem}
use Rattle.jp_ast.specs.declared.tree.Target.{Target}
use Rattle.jp_ast.specs.declared.tree.Select.{Select}
use Rattle.jp_ast.specs.declared.tree.JoinWord.{JoinWord}
use Rattle.jp_ast.specs.declared.tree.JoinWord.TheVariants as join_word
use Rattle.jp_ast.specs.declared.tree.Ast.TheOpen.{Ast-F, FromItem-F, Target-F, Select-F}
use Rattle.jp_ast.specs.declared.tree.Ast.TheShapes.{former-Ast-Case-0, former-FromItem-Join-3}
use Rattle.jp_ast.specs.declared.tree.Ast.TheViews.{roll-Ast, roll-FromItem, roll-Target, roll-Select}
use Rattle.jp_ast.specs.declared.tree.Ast.TheFolds.{map-Ast, map-FromItem, map-Target, map-Select, ind-Ast, ind-Select, fold-roll-Ast, fold-roll-FromItem, fold-roll-Target, fold-roll-Select}
use Rattle.jp_statements.specs.Layers.{itself, in_term}
use Rattle.jp_statements.specs.Whole.{has_one, has_two, arm_passes, maybe_passes, fits_join, ast_whole, item_whole, target_whole, select_whole, is_whole_ast, is_whole_item, is_whole_target, is_whole_select}
use Rattle.jp_query.specs.declared.Expr.{Expr}
use Rattle.jp_query.specs.Typing.{is_listed}
use Rattle.jp_query.specs.Conjuncts.{conjuncts}
use Rattle.jp_query.specs.Scopes.{Schema}
use Rattle.jp_resolution.specs.declared.words.Counts.{Counts}
use Rattle.jp_resolution.specs.declared.words.Selection.{Selection}
use Rattle.jp_resolution.specs.declared.words.TypedExpr.{TypedExpr}
use Rattle.jp_resolution.specs.Counting.{Levels, Part, beside, listed, sublinked}
use Rattle.jp_resolution.specs.Resolving.{AstMeant, ItemMeant, Targets, part_of, maybe_part, term_of, arm_of, case_of, case_parts, name_over, qualified_over, exists_node, in_select_node, ast_part, ast_meant, item_meant, target_meant, select_meant, condition_of, targets_of, output_name, one_output, all_columns, all_columns_of, meant_by, item_by, target_by, select_by, with_sign}
use Rattle.jp_resolution.specs.Schemas.{schema_of}
use Rattle.jp_resolution.specs.Types.{can_be, expr_as, condition, number_literal, text_literal, truth_literal, null_literal, sign_node, sum_node, product_node, concat_node, compare_node, between_node, in_list_node, and_node, or_node, not_node, is_node, coalesce_node}
use Rattle.jp_query.specs.Parts.{term_part}
use Rattle.jp_induction.proofs.EachPart.{Each}
use Rattle.jp_resolved.proofs.Answered.{same_Ok, if_parts}
use Rattle.jp_resolved.proofs.Spans.{Along, along_map}
use Rattle.jp_resolved.proofs.Seen.{scope_of}
use Rattle.jp_resolved.proofs.Found.{Found}
use Rattle.jp_resolved.proofs.Nodes.{number_is, text_is, truth_is, null_is}
use Rattle.jp_resolved.proofs.Operators.{product_is, concat_is, and_is, or_is, coalesce_is, sum_is, sign_is, not_is, is_is, compare_is, between_is, in_list_is}
use Rattle.jp_resolved.proofs.CaseNodes.{FoundOption, case_is}
use Rattle.jp_resolved.proofs.Parts.{Claim, Good, simply_good, given_good, Two, beside_good, Some_of, some_good, Maybe, none_good, there_good, Sublinked, sublinked_good}
use Rattle.jp_resolved.proofs.Conjuncts.{AreConditions, conjuncts_made}
use Rattle.jp_resolved.proofs.Made.{no_exprs}
use Rattle.jp_resolved.proofs.Selections.{exists_is, in_select_is}
use Rattle.jp_resolved.proofs.Sources.{GoodItem, ConditionsAt, table_good, sub_good, join_good}
use Rattle.jp_resolved.proofs.Targets.{FoundAt, SelectedAt, name_is, qualified_is, all_columns_are, columns_of_are, one_is, targets_good}
use Rattle.jp_resolved.proofs.Selects.{SelectionAt, select_good}

fits_on : (kind : JoinWord) (o : Option Bool) → fits_join itself kind o ≡ true → maybe_passes itself o ≡ true
fits_on join_word.Cross None h = refl
fits_on join_word.Cross (Some b) h = absurd (false≢true h)
fits_on join_word.Inner None h = refl
fits_on join_word.Inner (Some b) h = h
fits_on join_word.Left None h = refl
fits_on join_word.Left (Some b) h = h
fits_on join_word.Right None h = refl
fits_on join_word.Right (Some b) h = h
fits_on join_word.Full None h = refl
fits_on join_word.Full (Some b) h = h

module _ (catalog : Catalog) where
  abbrev schema : Schema
  schema = schema_of catalog

  abbrev FoundHere : Claim TypedExpr
  FoundHere = FoundAt schema

  abbrev TermHere : Claim (Bool × TypedExpr)
  TermHere levels a b term = FoundAt schema levels a b term.1

  abbrev ArmHere : Claim (TypedExpr × TypedExpr)
  ArmHere = Two (FoundAt schema) (FoundAt schema)

  -- ---- what is claimed of each tree

  abbrev GoodAst : Ast → Type 0
  GoodAst a = is_whole_ast a ≡ true → Good FoundHere (meant_by catalog a).part

  abbrev GoodFrom : FromItem → Type 0
  GoodFrom i = is_whole_item i ≡ true → GoodItem catalog (item_by catalog i)

  abbrev GoodTarget : Target → Type 0
  GoodTarget t = is_whole_target t ≡ true → Good (SelectedAt schema) (target_by catalog t)

  abbrev GoodSelect : Select → Type 0
  GoodSelect s = is_whole_select s ≡ true → Good (SelectionAt catalog) (select_by catalog s)

  abbrev A : Type 0
  A = (a : Ast) × GoodAst a

  abbrev I : Type 0
  I = (i : FromItem) × GoodFrom i

  abbrev T : Type 0
  T = (t : Target) × GoodTarget t

  abbrev S : Type 0
  S = (s : Select) × GoodSelect s

  abbrev ast_of : A → Ast
  ast_of x = x.0

  abbrev item_of : I → FromItem
  item_of x = x.0

  abbrev target_of : T → Target
  target_of x = x.0

  abbrev select_of : S → Select
  select_of x = x.0

  -- ---- lists and parts that may be missing

  exprs_good : (ps : List A) → list_all itself (map is_whole_ast (map ast_of ps)) ≡ true → Each (Good FoundHere) (map part_of (map (meant_by catalog) (map ast_of ps)))
  exprs_good [] h = tt
  exprs_good (p ∷ ps) h = let both = and_parts (is_whole_ast p.0) (list_all itself (map is_whole_ast (map ast_of ps))) h in (p.1 both.0, exprs_good ps both.1)

  abbrev exprs_of : List A → List (Part TypedExpr)
  exprs_of ps = map part_of (map (meant_by catalog) (map ast_of ps))

  several_listed : (ps : List A) → has_two (map is_whole_ast (map ast_of ps)) ≡ true → is_listed (exprs_of ps) ≡ true
  several_listed [] h = absurd (false≢true h)
  several_listed (p ∷ ps) h = refl

  some_listed : (ps : List A) → has_one (map is_whole_ast (map ast_of ps)) ≡ true → is_listed (exprs_of ps) ≡ true
  some_listed [] h = absurd (false≢true h)
  some_listed (p ∷ ps) h = refl

  several_good : (ps : List A) → (has_two (map is_whole_ast (map ast_of ps)) && list_all itself (map is_whole_ast (map ast_of ps))) ≡ true → Good (Some_of FoundHere) (listed (exprs_of ps))
  several_good ps h = let both = and_parts (has_two (map is_whole_ast (map ast_of ps))) (list_all itself (map is_whole_ast (map ast_of ps))) h in some_good FoundHere (exprs_of ps) (several_listed ps both.0) (exprs_good ps both.1)

  one_good : (ps : List A) → (has_one (map is_whole_ast (map ast_of ps)) && list_all itself (map is_whole_ast (map ast_of ps))) ≡ true → Good (Some_of FoundHere) (listed (exprs_of ps))
  one_good ps h = let both = and_parts (has_one (map is_whole_ast (map ast_of ps))) (list_all itself (map is_whole_ast (map ast_of ps))) h in some_good FoundHere (exprs_of ps) (some_listed ps both.0) (exprs_good ps both.1)

  -- terms of sums
  abbrev term_meant : Bool × Ast → Bool × AstMeant
  term_meant t = (t.0, meant_by catalog t.1)

  abbrev term_whole : Bool × Ast → Bool × Bool
  term_whole t = (t.0, is_whole_ast t.1)

  abbrev term_ast : Bool × A → Bool × Ast
  term_ast t = (t.0, ast_of t.1)

  term_good : (sign : Bool) (m : AstMeant) → Good FoundHere m.part → Good TermHere (term_of (sign, m))
  term_good sign m good = given_good FoundHere TermHere m.part (with_sign sign) good (λ levels a b e t found h. subst (TermHere levels a b) (same_Ok (sign, e) t h) found)

  terms_good : (ps : List (Bool × A)) → list_all (in_term itself) (map term_whole (map term_ast ps)) ≡ true → Each (Good TermHere) (map term_of (map term_meant (map term_ast ps)))
  terms_good [] h = tt
  terms_good (p ∷ ps) h =
      let both = and_parts (is_whole_ast p.1.0) (list_all (in_term itself) (map term_whole (map term_ast ps))) h in
      (term_good p.0 (meant_by catalog p.1.0) (p.1.1 both.0), terms_good ps both.1)

  terms_listed : (ps : List (Bool × A)) → has_two (map term_whole (map term_ast ps)) ≡ true → is_listed (map term_of (map term_meant (map term_ast ps))) ≡ true
  terms_listed [] h = absurd (false≢true h)
  terms_listed (p ∷ ps) h = refl

  -- arms of CASE
  abbrev arm_meant : Ast × Ast → AstMeant × AstMeant
  arm_meant m = (meant_by catalog m.0, meant_by catalog m.1)

  abbrev arm_whole : Ast × Ast → Bool × Bool
  arm_whole m = (is_whole_ast m.0, is_whole_ast m.1)

  abbrev arm_ast : A × A → Ast × Ast
  arm_ast m = (ast_of m.0, ast_of m.1)

  arms_good : (ps : List (A × A)) → list_all (arm_passes itself) (map arm_whole (map arm_ast ps)) ≡ true → Each (Good ArmHere) (map arm_of (map arm_meant (map arm_ast ps)))
  arms_good [] h = tt
  arms_good (p ∷ ps) h =
      let both = and_parts (is_whole_ast p.0.0 && is_whole_ast p.1.0) (list_all (arm_passes itself) (map arm_whole (map arm_ast ps))) h in
      let sides = and_parts (is_whole_ast p.0.0) (is_whole_ast p.1.0) both.0 in
      (beside_good FoundHere FoundHere (meant_by catalog p.0.0).part (meant_by catalog p.1.0).part (p.0.1 sides.0) (p.1.1 sides.1), arms_good ps both.1)

  arms_listed : (ps : List (A × A)) → has_one (map arm_whole (map arm_ast ps)) ≡ true → is_listed (map arm_of (map arm_meant (map arm_ast ps))) ≡ true
  arms_listed [] h = absurd (false≢true h)
  arms_listed (p ∷ ps) h = refl

  abbrev box_ast : Option A → Option Ast
  box_ast o = (former-Ast-Case-0).map A Ast ast_of o

  abbrev box_whole : Option Ast → Option Bool
  box_whole o = (former-Ast-Case-0).map Ast Bool is_whole_ast o

  abbrev box_meant : Option Ast → Option AstMeant
  box_meant o = (former-Ast-Case-0).map Ast AstMeant (meant_by catalog) o

  maybe_good : (o : Option A) → maybe_passes itself (box_whole (box_ast o)) ≡ true → Good (Maybe FoundHere) (maybe_part (box_meant (box_ast o)))
  maybe_good None h = none_good FoundHere
  maybe_good (Some p) h = there_good FoundHere (meant_by catalog p.0).part (p.1 h)

  option_found : (levels : Levels) (a b : Counts) (o : Option TypedExpr) → Maybe FoundHere levels a b o → FoundOption schema (scope_of levels) a b o
  option_found levels a b None h = h
  option_found levels a b (Some e) h = h

  -- conditions
  abbrev cond_ast : Option A → Option Ast
  cond_ast o = (former-FromItem-Join-3).map A Ast ast_of o

  abbrev cond_whole : Option Ast → Option Bool
  cond_whole o = (former-FromItem-Join-3).map Ast Bool is_whole_ast o

  abbrev cond_meant : Option Ast → Option AstMeant
  cond_meant o = (former-FromItem-Join-3).map Ast AstMeant (meant_by catalog) o

  condition_is : (levels : Levels) (a b : Counts) (at : ℕ) (e : TypedExpr) (es : List Expr) → FoundHere levels a b e → condition at e ≡ Ok es → ConditionsAt catalog levels a b es
  condition_is levels a b at e es found h =
      let x = expr_as ty.Boolean e in
      let made = if_parts (can_be ty.Boolean e) _ (conjuncts x) es h in
      let is = found ty.Boolean made.0 in
      subst (AreConditions schema (scope_of levels) a b) made.1 (conjuncts_made schema (scope_of levels) a b x is.made is.type)

  cond_good : (o : Option A) → maybe_passes itself (cond_whole (cond_ast o)) ≡ true → Good (ConditionsAt catalog) (condition_of (cond_meant (cond_ast o)))
  cond_good None h = simply_good (ConditionsAt catalog) (λ levels. Ok []) (λ levels a b es same place e. subst (AreConditions schema (scope_of levels) a b) (same_Ok [] es e) (no_exprs (scope_of levels) a b same, tt))
  cond_good (Some p) h =
      let m = meant_by catalog p.0 in
      given_good FoundHere (ConditionsAt catalog) m.part (condition m.place) (p.1 h) (λ levels a b e es found g. condition_is levels a b m.place e es found g)

  -- ---- expressions

  abbrev bare : Ast-F A I T S → Ast-F Ast FromItem Target Select
  bare = map-Ast A I T S Ast FromItem Target Select ast_of item_of target_of select_of

  abbrev means : Ast-F Ast FromItem Target Select → Ast-F AstMeant ItemMeant Targets (Part Selection)
  means = map-Ast Ast FromItem Target Select AstMeant ItemMeant Targets (Part Selection) (meant_by catalog) (item_by catalog) (target_by catalog) (select_by catalog)

  abbrev wholes : Ast-F Ast FromItem Target Select → Ast-F Bool Bool Bool Bool
  wholes = map-Ast Ast FromItem Target Select Bool Bool Bool Bool is_whole_ast is_whole_item is_whole_target is_whole_select

  two_along : (levels : Levels) (a b : Counts) (pair : TypedExpr × TypedExpr) → Two FoundHere FoundHere levels a b pair → Along (Found schema (scope_of levels)) a b (pair.0 ∷ pair.1 ∷ [])
  two_along levels a b pair h = (h.0, h.1, (b, h.2, refl))

  ast_step : (y : Ast-F A I T S) → ast_whole (wholes (bare y)) ≡ true → Good FoundHere (ast_part (means (bare y)))
  ast_step (Ast-F.Number n at) h = simply_good FoundHere (λ levels. number_literal at n) (λ levels a b e same place g. number_is schema (scope_of levels) a b at n e same g)
  ast_step (Ast-F.Text bytes at) h = simply_good FoundHere (λ levels. text_literal bytes) (λ levels a b e same place g. text_is schema (scope_of levels) a b bytes e same g)
  ast_step (Ast-F.Bool v at) h = simply_good FoundHere (λ levels. truth_literal v) (λ levels a b e same place g. truth_is schema (scope_of levels) a b v e same g)
  ast_step (Ast-F.Null at) h = simply_good FoundHere (λ levels. null_literal) (λ levels a b e same place g. null_is schema (scope_of levels) a b e same g)
  ast_step (Ast-F.Name name at) h = simply_good FoundHere (name_over at name) (λ levels a b e same place g. name_is schema at name levels a b e same place g)
  ast_step (Ast-F.Qualified qualifier name at) h = simply_good FoundHere (qualified_over at qualifier name) (λ levels a b e same place g. qualified_is schema at qualifier name levels a b e same place g)
  ast_step (Ast-F.Sign minus operand at) h =
      given_good FoundHere FoundHere (meant_by catalog operand.0).part (sign_node at minus) (operand.1 h) (λ levels a b x e found g. sign_is schema (scope_of levels) a b at minus x e found g)
  ast_step (Ast-F.Sum terms at) h =
      let both = and_parts (has_two (map term_whole (map term_ast terms))) (list_all (in_term itself) (map term_whole (map term_ast terms))) h in
      let ps = map term_of (map term_meant (map term_ast terms)) in
      given_good (Some_of TermHere) FoundHere (listed ps) (sum_node at) (some_good TermHere ps (terms_listed terms both.0) (terms_good terms both.1))
      (λ levels a b xs e found g. sum_is schema (scope_of levels) a b at xs e found.0 (along_map (TermHere levels) (FoundHere levels) term_part (λ c d x q. q) a b xs found.1) g)
  ast_step (Ast-F.Product factors at) h = given_good (Some_of FoundHere) FoundHere (listed (exprs_of factors)) (product_node at) (several_good factors h) (λ levels a b xs e found g. product_is schema (scope_of levels) a b at xs e found.0 found.1 g)
  ast_step (Ast-F.Concat pieces at) h = given_good (Some_of FoundHere) FoundHere (listed (exprs_of pieces)) (concat_node at) (several_good pieces h) (λ levels a b xs e found g. concat_is schema (scope_of levels) a b at xs e found.0 found.1 g)
  ast_step (Ast-F.Compare op left right at) h =
      let both = and_parts (is_whole_ast left.0) (is_whole_ast right.0) h in
      let l = (meant_by catalog left.0).part in
      let r = (meant_by catalog right.0).part in
      given_good (Two FoundHere FoundHere) FoundHere (beside l r) (compare_node at op) (beside_good FoundHere FoundHere l r (left.1 both.0) (right.1 both.1))
      (λ levels a b pair e found g. compare_is schema (scope_of levels) a b at op pair.0 pair.1 e (two_along levels a b pair found) g)
  ast_step (Ast-F.Between operand low high at) h =
      let both = and_parts (is_whole_ast operand.0) (is_whole_ast low.0 && is_whole_ast high.0) h in
      let ends = and_parts (is_whole_ast low.0) (is_whole_ast high.0) both.1 in
      let x = (meant_by catalog operand.0).part in
      let l = (meant_by catalog low.0).part in
      let r = (meant_by catalog high.0).part in
      given_good (Two FoundHere (Two FoundHere FoundHere)) FoundHere (beside x (beside l r)) (between_node at) (beside_good FoundHere (Two FoundHere FoundHere) x (beside l r) (operand.1 both.0) (beside_good FoundHere FoundHere l r (low.1 ends.0) (high.1 ends.1)))
      (λ levels a b pair e found g. between_is schema (scope_of levels) a b at pair.0 pair.1.0 pair.1.1 e (found.0, found.1, two_along levels found.0 b pair.1 found.2) g)
  ast_step (Ast-F.InList operand list at) h =
      let both = and_parts (is_whole_ast operand.0) (has_one (map is_whole_ast (map ast_of list)) && list_all itself (map is_whole_ast (map ast_of list))) h in
      let x = (meant_by catalog operand.0).part in
      given_good (Two FoundHere (Some_of FoundHere)) FoundHere (beside x (listed (exprs_of list))) (in_list_node at) (beside_good FoundHere (Some_of FoundHere) x (listed (exprs_of list)) (operand.1 both.0) (one_good list both.1))
      (λ levels a b pair e found g. in_list_is schema (scope_of levels) a b at pair.0 pair.1 e found.2.0 (found.0, found.1, found.2.1) g)
  ast_step (Ast-F.InSelect operand select at) h =
      let both = and_parts (is_whole_ast operand.0) (is_whole_select select.0) h in
      let x = (meant_by catalog operand.0).part in
      let s = select_by catalog select.0 in
      given_good (Sublinked (Two FoundHere (SelectionAt catalog))) FoundHere (sublinked (beside x s)) (in_select_node at)
      (sublinked_good (Two FoundHere (SelectionAt catalog)) (beside x s) (beside_good FoundHere (SelectionAt catalog) x s (operand.1 both.0) (select.1 both.1)))
      (λ levels a b pair e found g. in_select_is schema (scope_of levels) a found.1.0 b at pair.0 pair.1.0 pair.1.1 e found.0 found.1.1 found.1.2 g)
  ast_step (Ast-F.And list at) h = given_good (Some_of FoundHere) FoundHere (listed (exprs_of list)) (and_node at) (several_good list h) (λ levels a b xs e found g. and_is schema (scope_of levels) a b at xs e found.0 found.1 g)
  ast_step (Ast-F.Or list at) h = given_good (Some_of FoundHere) FoundHere (listed (exprs_of list)) (or_node at) (several_good list h) (λ levels a b xs e found g. or_is schema (scope_of levels) a b at xs e found.0 found.1 g)
  ast_step (Ast-F.Not operand at) h = given_good FoundHere FoundHere (meant_by catalog operand.0).part (not_node at) (operand.1 h) (λ levels a b x e found g. not_is schema (scope_of levels) a b at x e found g)
  ast_step (Ast-F.Is operand negated word at) h = given_good FoundHere FoundHere (meant_by catalog operand.0).part (is_node at negated word) (operand.1 h) (λ levels a b x e found g. is_is schema (scope_of levels) a b at negated word x e found g)
  ast_step (Ast-F.Exists select at) h =
      let s = select_by catalog select.0 in
      given_good (Sublinked (SelectionAt catalog)) FoundHere (sublinked s) exists_node (sublinked_good (SelectionAt catalog) s (select.1 h)) (λ levels a b pair e found g. exists_is schema (scope_of levels) a b pair.0 pair.1 e found.0 found.1 g)
  ast_step (Ast-F.Coalesce list at) h = given_good (Some_of FoundHere) FoundHere (listed (exprs_of list)) (coalesce_node at) (one_good list h) (λ levels a b xs e found g. coalesce_is schema (scope_of levels) a b at xs e found.0 found.1 g)
  ast_step (Ast-F.Case operand arms otherwise at) h =
      let arms_whole = has_one (map arm_whole (map arm_ast arms)) && list_all (arm_passes itself) (map arm_whole (map arm_ast arms)) in
      let end_whole = maybe_passes itself (box_whole (box_ast otherwise)) in
      let first = and_parts (maybe_passes itself (box_whole (box_ast operand))) (arms_whole && end_whole) h in
      let second = and_parts arms_whole end_whole first.1 in
      let each = and_parts (has_one (map arm_whole (map arm_ast arms))) (list_all (arm_passes itself) (map arm_whole (map arm_ast arms))) second.0 in
      let o = maybe_part (box_meant (box_ast operand)) in
      let l = map arm_of (map arm_meant (map arm_ast arms)) in
      let d = maybe_part (box_meant (box_ast otherwise)) in
      given_good (Two (Maybe FoundHere) (Two (Some_of ArmHere) (Maybe FoundHere))) FoundHere (beside o (beside (listed l) d)) (case_of at)
      (beside_good (Maybe FoundHere) (Two (Some_of ArmHere) (Maybe FoundHere)) o (beside (listed l) d) (maybe_good operand first.0)
      (beside_good (Some_of ArmHere) (Maybe FoundHere) (listed l) d (some_good ArmHere l (arms_listed arms each.0) (arms_good arms each.1)) (maybe_good otherwise second.1)))
      (λ levels a b parts e found g.
      case_is schema (scope_of levels) a found.0 found.2.0 b at (case_parts parts) e found.2.1.0 (option_found levels a found.0 parts.0 found.1) found.2.1.1 (option_found levels found.2.0 b parts.1.1 found.2.2) g)

  -- ---- FROM items

  abbrev bare_item : FromItem-F A I T S → FromItem-F Ast FromItem Target Select
  bare_item = map-FromItem A I T S Ast FromItem Target Select ast_of item_of target_of select_of

  abbrev item_means : FromItem-F Ast FromItem Target Select → FromItem-F AstMeant ItemMeant Targets (Part Selection)
  item_means = map-FromItem Ast FromItem Target Select AstMeant ItemMeant Targets (Part Selection) (meant_by catalog) (item_by catalog) (target_by catalog) (select_by catalog)

  abbrev item_wholes : FromItem-F Ast FromItem Target Select → FromItem-F Bool Bool Bool Bool
  item_wholes = map-FromItem Ast FromItem Target Select Bool Bool Bool Bool is_whole_ast is_whole_item is_whole_target is_whole_select

  item_step : (y : FromItem-F A I T S) → item_whole (item_wholes (bare_item y)) ≡ true → GoodItem catalog (item_meant catalog (item_means (bare_item y)))
  item_step (FromItem-F.Table name alias at) h = table_good catalog at name alias
  item_step (FromItem-F.Sub select alias at) h = sub_good catalog at (select_by catalog select.0) alias (select.1 h)
  item_step (FromItem-F.Join kind left right on at) h =
      let both = and_parts (is_whole_item left.0) (is_whole_item right.0 && fits_join itself kind (cond_whole (cond_ast on))) h in
      let more = and_parts (is_whole_item right.0) (fits_join itself kind (cond_whole (cond_ast on))) both.1 in
      join_good catalog kind (item_by catalog left.0) (item_by catalog right.0) (condition_of (cond_meant (cond_ast on))) (left.1 both.0) (right.1 more.0) (cond_good on (fits_on kind (cond_whole (cond_ast on)) more.1))

  -- ---- targets

  abbrev bare_target : Target-F A I T S → Target-F Ast FromItem Target Select
  bare_target = map-Target A I T S Ast FromItem Target Select ast_of item_of target_of select_of

  abbrev target_means : Target-F Ast FromItem Target Select → Target-F AstMeant ItemMeant Targets (Part Selection)
  target_means = map-Target Ast FromItem Target Select AstMeant ItemMeant Targets (Part Selection) (meant_by catalog) (item_by catalog) (target_by catalog) (select_by catalog)

  abbrev target_wholes : Target-F Ast FromItem Target Select → Target-F Bool Bool Bool Bool
  target_wholes = map-Target Ast FromItem Target Select Bool Bool Bool Bool is_whole_ast is_whole_item is_whole_target is_whole_select

  target_step : (y : Target-F A I T S) → target_whole (target_wholes (bare_target y)) ≡ true → Good (SelectedAt schema) (target_meant (target_means (bare_target y)))
  target_step (Target-F.All at) h = simply_good (SelectedAt schema) all_columns (λ levels a b xs same place g. all_columns_are schema levels a b xs same place g)
  target_step (Target-F.AllOf name at) h = simply_good (SelectedAt schema) (all_columns_of at name) (λ levels a b xs same place g. columns_of_are schema at name levels a b xs same place g)
  target_step (Target-F.One e alias) h =
      let m = meant_by catalog e.0 in
      given_good FoundHere (SelectedAt schema) m.part (one_output (output_name alias m.label)) (e.1 h) (λ levels a b x xs found g. one_is schema (output_name alias m.label) levels a b x xs found g)

  -- ---- selects

  abbrev bare_select : Select-F A I T S → Select-F Ast FromItem Target Select
  bare_select = map-Select A I T S Ast FromItem Target Select ast_of item_of target_of select_of

  abbrev select_means : Select-F Ast FromItem Target Select → Select-F AstMeant ItemMeant Targets (Part Selection)
  select_means = map-Select Ast FromItem Target Select AstMeant ItemMeant Targets (Part Selection) (meant_by catalog) (item_by catalog) (target_by catalog) (select_by catalog)

  abbrev select_wholes : Select-F Ast FromItem Target Select → Select-F Bool Bool Bool Bool
  select_wholes = map-Select Ast FromItem Target Select Bool Bool Bool Bool is_whole_ast is_whole_item is_whole_target is_whole_select

  targets_each : (ps : List T) → list_all itself (map is_whole_target (map target_of ps)) ≡ true → Each (Good (SelectedAt schema)) (map (target_by catalog) (map target_of ps))
  targets_each [] h = tt
  targets_each (p ∷ ps) h = let both = and_parts (is_whole_target p.0) (list_all itself (map is_whole_target (map target_of ps))) h in (p.1 both.0, targets_each ps both.1)

  items_each : (ps : List I) → list_all itself (map is_whole_item (map item_of ps)) ≡ true → Each (GoodItem catalog) (map (item_by catalog) (map item_of ps))
  items_each [] h = tt
  items_each (p ∷ ps) h = let both = and_parts (is_whole_item p.0) (list_all itself (map is_whole_item (map item_of ps))) h in (p.1 both.0, items_each ps both.1)

  items_listed : (ps : List I) → has_one (map is_whole_item (map item_of ps)) ≡ true → is_listed (map (item_by catalog) (map item_of ps)) ≡ true
  items_listed [] h = absurd (false≢true h)
  items_listed (p ∷ ps) h = refl

  select_step : (y : Select-F A I T S) → select_whole (select_wholes (bare_select y)) ≡ true → Good (SelectionAt catalog) (select_meant (select_means (bare_select y)))
  select_step y h =
      let targets_whole = has_one (map is_whole_target (map target_of y.targets)) && list_all itself (map is_whole_target (map target_of y.targets)) in
      let items_whole = has_one (map is_whole_item (map item_of y.items)) && list_all itself (map is_whole_item (map item_of y.items)) in
      let both = and_parts targets_whole (items_whole && maybe_passes itself (cond_whole (cond_ast y.cond))) h in
      let more = and_parts items_whole (maybe_passes itself (cond_whole (cond_ast y.cond))) both.1 in
      let ts = and_parts (has_one (map is_whole_target (map target_of y.targets))) (list_all itself (map is_whole_target (map target_of y.targets))) both.0 in
      let is = and_parts (has_one (map is_whole_item (map item_of y.items))) (list_all itself (map is_whole_item (map item_of y.items))) more.0 in
      select_good catalog y.distinct (targets_of (map (target_by catalog) (map target_of y.targets))) (map (item_by catalog) (map item_of y.items)) (condition_of (cond_meant (cond_ast y.cond)))
      (items_listed y.items is.0) (targets_good schema (map (target_by catalog) (map target_of y.targets)) (targets_each y.targets ts.1)) (items_each y.items is.1) (cond_good y.cond more.1)

  -- ---- whole trees

  ast_whole_step : (y : Ast-F A I T S) → GoodAst (roll-Ast (bare y))
  ast_whole_step y h =
      subst (λ (m : AstMeant). Good FoundHere m.part) (sym (fold-roll-Ast AstMeant ItemMeant Targets (Part Selection) ast_meant (item_meant catalog) target_meant select_meant (bare y)))
      (ast_step y (sym (fold-roll-Ast Bool Bool Bool Bool ast_whole item_whole target_whole select_whole (bare y)) ∙ h))

  item_whole_step : (y : FromItem-F A I T S) → GoodFrom (roll-FromItem (bare_item y))
  item_whole_step y h =
      subst (GoodItem catalog) (sym (fold-roll-FromItem AstMeant ItemMeant Targets (Part Selection) ast_meant (item_meant catalog) target_meant select_meant (bare_item y)))
      (item_step y (sym (fold-roll-FromItem Bool Bool Bool Bool ast_whole item_whole target_whole select_whole (bare_item y)) ∙ h))

  target_whole_step : (y : Target-F A I T S) → GoodTarget (roll-Target (bare_target y))
  target_whole_step y h =
      subst (Good (SelectedAt schema)) (sym (fold-roll-Target AstMeant ItemMeant Targets (Part Selection) ast_meant (item_meant catalog) target_meant select_meant (bare_target y)))
      (target_step y (sym (fold-roll-Target Bool Bool Bool Bool ast_whole item_whole target_whole select_whole (bare_target y)) ∙ h))

  select_whole_step : (y : Select-F A I T S) → GoodSelect (roll-Select (bare_select y))
  select_whole_step y h =
      subst (Good (SelectionAt catalog)) (sym (fold-roll-Select AstMeant ItemMeant Targets (Part Selection) ast_meant (item_meant catalog) target_meant select_meant (bare_select y)))
      (select_step y (sym (fold-roll-Select Bool Bool Bool Bool ast_whole item_whole target_whole select_whole (bare_select y)) ∙ h))

  pub ast_good : (a : Ast) → is_whole_ast a ≡ true → Good FoundHere (meant_by catalog a).part
  ast_good = ind-Ast GoodAst GoodFrom GoodTarget GoodSelect
      (λ x y e. subst (λ z. GoodAst (roll-Ast z)) e (ast_whole_step y))
      (λ x y e. subst (λ z. GoodFrom (roll-FromItem z)) e (item_whole_step y))
      (λ x y e. subst (λ z. GoodTarget (roll-Target z)) e (target_whole_step y))
      (λ x y e. subst (λ z. GoodSelect (roll-Select z)) e (select_whole_step y))

  pub select_is_good : (s : Select) → is_whole_select s ≡ true → Good (SelectionAt catalog) (select_by catalog s)
  select_is_good = ind-Select GoodAst GoodFrom GoodTarget GoodSelect
      (λ x y e. subst (λ z. GoodAst (roll-Ast z)) e (ast_whole_step y))
      (λ x y e. subst (λ z. GoodFrom (roll-FromItem z)) e (item_whole_step y))
      (λ x y e. subst (λ z. GoodTarget (roll-Target z)) e (target_whole_step y))
      (λ x y e. subst (λ z. GoodSelect (roll-Select z)) e (select_whole_step y))
