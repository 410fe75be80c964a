-- What each part of a statement gives, level by level.
use Rattle.std.proofs.Common.{◌≡◌, ◌∙◌, ap, sym, refl, ℕ, Bool, List, [], ◌∷◌, ◌++◌, map, Option, Some, None, Ok}
use Rattle.std.specs.Prelude.{ℤ}
use Rattle.std.specs.Option.{option_map}
use Rattle.jp_ast.specs.declared.tree.Ast.{Ast}
use Rattle.jp_ast.specs.declared.tree.FromItem.{FromItem}
use Rattle.jp_ast.specs.declared.tree.Target.{Target}
use Rattle.jp_ast.specs.declared.tree.Select.{Select, out-Select}
use Rattle.jp_ast.specs.declared.tree.Ast.TheOpen.{Select-F}
use Rattle.jp_ast.specs.declared.tree.Select.{roll-out-Select}
use Rattle.jp_ast.specs.declared.tree.Ast.TheVariants as ast
use Rattle.jp_ast.specs.declared.tree.FromItem.TheVariants as item
use Rattle.jp_ast.specs.declared.tree.Target.TheVariants as target
use Rattle.jp_ast.specs.declared.tree.CmpWord.{CmpWord}
use Rattle.jp_ast.specs.declared.tree.IsWord.{IsWord}
use Rattle.jp_ast.specs.declared.tree.JoinWord.{JoinWord}
use Rattle.jp_catalog.specs.declared.types.Catalog.{Catalog}
use Rattle.jp_resolution.specs.declared.words.Counts.{Counts}
use Rattle.jp_resolution.specs.declared.words.Entry.{Entry}
use Rattle.jp_resolution.specs.declared.words.Selection.{Selection}
use Rattle.jp_resolution.specs.Answers.{Answer, ◌>>=◌}
use Rattle.jp_resolution.specs.Counting.{Part, Levels, none, one_entry, one_sublink, both, all_over, counts_of_all, optional}
use Rattle.jp_resolution.specs.Types.{number_literal, text_literal, truth_literal, null_literal, sign_node, sum_node, product_node, concat_node, compare_node, between_node, in_list_node, and_node, or_node, not_node, is_node, coalesce_node}
use Rattle.jp_resolution.specs.Resolving.{AstMeant, ItemMeant, Targets, ast_meant, item_meant, target_meant, select_meant, meant_by, item_by, target_by, select_by, part_of, term_of, arm_of, condition_of, case_of, name_over, qualified_over, exists_node, in_select_node, table_from, sub_source, new_source, kind_of, all_columns, all_columns_of, one_output, output_name, select_over, items_from, selection}
use Rattle.jp_resolution.specs.Resolving as spec
use Rattle.jp_statements.proofs.FoldLaws as laws
use Rattle.jp_resolve.specs.Walk.{expr_in, counts_of_expr, place_of_expr, label_of_expr, select_in, counts_of_select, item_in, counts_of_item, target_in, counts_of_target, exprs_in, counts_of_exprs, term_in, terms_in, counts_of_terms, pair_in, counts_of_pair, triple_in, arms_in, counts_of_arms, maybe_in, counts_of_maybe, case_in, among_in, sublink_in, exists_in, cond_in, items_in, counts_of_items, join_in, targets_in, counts_of_targets, select_steps}

-- ---- lists and parts that may be missing

exprs_are : (c : Catalog) (asts : List Ast) (levels : Levels) (before : Counts) → all_over (map part_of (map (meant_by c) asts)) levels before ≡ exprs_in c asts levels before
unfolding expr_in counts_of_expr
exprs_are c [] levels before = refl
exprs_are c (a ∷ asts) levels before = ap (λ r. expr_in c a levels before >>= (λ x. r >>= (λ xs. Ok (x ∷ xs)))) (exprs_are c asts levels (both before (counts_of_expr c a)))

exprs_counted : (c : Catalog) (asts : List Ast) → counts_of_all (map part_of (map (meant_by c) asts)) ≡ counts_of_exprs c asts
unfolding counts_of_expr
exprs_counted c [] = refl
exprs_counted c (a ∷ asts) = ap (both (counts_of_expr c a)) (exprs_counted c asts)

abbrev term_meant : Catalog → Bool × Ast → Bool × AstMeant
term_meant c term = (term.0, meant_by c term.1)

terms_are : (c : Catalog) (terms : List (Bool × Ast)) (levels : Levels) (before : Counts) → all_over (map term_of (map (term_meant c) terms)) levels before ≡ terms_in c terms levels before
unfolding expr_in counts_of_expr
terms_are c [] levels before = refl
terms_are c (t ∷ terms) levels before = ap (λ r. term_in c t levels before >>= (λ x. r >>= (λ xs. Ok (x ∷ xs)))) (terms_are c terms levels (both before (counts_of_expr c t.1)))

terms_counted : (c : Catalog) (terms : List (Bool × Ast)) → counts_of_all (map term_of (map (term_meant c) terms)) ≡ counts_of_terms c terms
unfolding counts_of_expr
terms_counted c [] = refl
terms_counted c (t ∷ terms) = ap (both (counts_of_expr c t.1)) (terms_counted c terms)

abbrev arm_meant : Catalog → Ast × Ast → AstMeant × AstMeant
arm_meant c arm = (meant_by c arm.0, meant_by c arm.1)

arms_are : (c : Catalog) (arms : List (Ast × Ast)) (levels : Levels) (before : Counts) → all_over (map arm_of (map (arm_meant c) arms)) levels before ≡ arms_in c arms levels before
unfolding expr_in counts_of_expr
arms_are c [] levels before = refl
arms_are c (a ∷ arms) levels before = ap (λ r. pair_in c a.0 a.1 levels before >>= (λ x. r >>= (λ xs. Ok (x ∷ xs)))) (arms_are c arms levels (both before (counts_of_pair c a.0 a.1)))

arms_counted : (c : Catalog) (arms : List (Ast × Ast)) → counts_of_all (map arm_of (map (arm_meant c) arms)) ≡ counts_of_arms c arms
unfolding counts_of_expr
arms_counted c [] = refl
arms_counted c (a ∷ arms) = ap (both (counts_of_pair c a.0 a.1)) (arms_counted c arms)

maybe_is : (c : Catalog) (o : Option Ast) (levels : Levels) (before : Counts) → (optional (option_map part_of (option_map (meant_by c) o))).over levels before ≡ maybe_in c o levels before
unfolding expr_in
maybe_is c None levels before = refl
maybe_is c (Some a) levels before = refl

maybe_counted : (c : Catalog) (o : Option Ast) → (optional (option_map part_of (option_map (meant_by c) o))).counts ≡ counts_of_maybe c o
unfolding counts_of_expr
maybe_counted c None = refl
maybe_counted c (Some a) = refl

cond_is : (c : Catalog) (o : Option Ast) (levels : Levels) (before : Counts) → (condition_of (option_map (meant_by c) o)).over levels before ≡ cond_in c o levels before
unfolding expr_in place_of_expr
cond_is c None levels before = refl
cond_is c (Some a) levels before = refl

cond_counted : (c : Catalog) (o : Option Ast) → (condition_of (option_map (meant_by c) o)).counts ≡ counts_of_maybe c o
unfolding counts_of_expr
cond_counted c None = refl
cond_counted c (Some a) = refl

items_are : (c : Catalog) (items : List FromItem) (outer : Levels) (earlier : List Entry) (before : Counts) → items_from (map (item_by c) items) outer earlier before ≡ items_in c items outer earlier before
unfolding item_in counts_of_item
items_are c [] outer earlier before = refl
items_are c (i ∷ items) outer earlier before = ap (λ (f : spec.Source → Answer spec.Sources). item_in c i outer earlier before >>= f) (λ k source. items_are c items outer (earlier ++ source.entries) (both before (counts_of_item c i)) k >>= (λ more. Ok (spec.with_source source more)))

items_counted : (c : Catalog) (items : List FromItem) → spec.counts_of_items (map (item_by c) items) ≡ counts_of_items c items
unfolding counts_of_item
items_counted c [] = refl
items_counted c (i ∷ items) = ap (both (counts_of_item c i)) (items_counted c items)

targets_are : (c : Catalog) (targets : List Target) (levels : Levels) (before : Counts) → all_over (map (target_by c) targets) levels before ≡ targets_in c targets levels before
unfolding target_in counts_of_target
targets_are c [] levels before = refl
targets_are c (t ∷ targets) levels before = ap (λ r. target_in c t levels before >>= (λ x. r >>= (λ xs. Ok (x ∷ xs)))) (targets_are c targets levels (both before (counts_of_target c t)))

targets_counted : (c : Catalog) (targets : List Target) → counts_of_all (map (target_by c) targets) ≡ counts_of_targets c targets
unfolding counts_of_target
targets_counted c [] = refl
targets_counted c (t ∷ targets) = ap (both (counts_of_target c t)) (targets_counted c targets)

-- ---- expressions

pub in-Number : (c : Catalog) (n : ℤ) (at : ℕ) (levels : Levels) (before : Counts) → expr_in c (ast.Number n at) levels before ≡ (number_literal at n)
unfolding expr_in counts_of_expr select_in counts_of_select
in-Number c n at levels before = ap (λ (m : AstMeant). m.part.over levels before) (laws.at-Number ast_meant (item_meant c) target_meant select_meant n at)

pub counts-Number : (c : Catalog) (n : ℤ) (at : ℕ) → counts_of_expr c (ast.Number n at) ≡ none
unfolding expr_in counts_of_expr select_in counts_of_select
counts-Number c n at = ap (λ (m : AstMeant). m.part.counts) (laws.at-Number ast_meant (item_meant c) target_meant select_meant n at)

pub place-Number : (c : Catalog) (n : ℤ) (at : ℕ) → place_of_expr c (ast.Number n at) ≡ at
unfolding place_of_expr
place-Number c n at = ap (λ (m : AstMeant). m.place) (laws.at-Number ast_meant (item_meant c) target_meant select_meant n at)

pub in-Text : (c : Catalog) (bytes : List ℕ) (at : ℕ) (levels : Levels) (before : Counts) → expr_in c (ast.Text bytes at) levels before ≡ (text_literal bytes)
unfolding expr_in counts_of_expr select_in counts_of_select
in-Text c bytes at levels before = ap (λ (m : AstMeant). m.part.over levels before) (laws.at-Text ast_meant (item_meant c) target_meant select_meant bytes at)

pub counts-Text : (c : Catalog) (bytes : List ℕ) (at : ℕ) → counts_of_expr c (ast.Text bytes at) ≡ none
unfolding expr_in counts_of_expr select_in counts_of_select
counts-Text c bytes at = ap (λ (m : AstMeant). m.part.counts) (laws.at-Text ast_meant (item_meant c) target_meant select_meant bytes at)

pub place-Text : (c : Catalog) (bytes : List ℕ) (at : ℕ) → place_of_expr c (ast.Text bytes at) ≡ at
unfolding place_of_expr
place-Text c bytes at = ap (λ (m : AstMeant). m.place) (laws.at-Text ast_meant (item_meant c) target_meant select_meant bytes at)

pub in-Bool : (c : Catalog) (b : Bool) (at : ℕ) (levels : Levels) (before : Counts) → expr_in c (ast.Bool b at) levels before ≡ (truth_literal b)
unfolding expr_in counts_of_expr select_in counts_of_select
in-Bool c b at levels before = ap (λ (m : AstMeant). m.part.over levels before) (laws.at-Bool ast_meant (item_meant c) target_meant select_meant b at)

pub counts-Bool : (c : Catalog) (b : Bool) (at : ℕ) → counts_of_expr c (ast.Bool b at) ≡ none
unfolding expr_in counts_of_expr select_in counts_of_select
counts-Bool c b at = ap (λ (m : AstMeant). m.part.counts) (laws.at-Bool ast_meant (item_meant c) target_meant select_meant b at)

pub place-Bool : (c : Catalog) (b : Bool) (at : ℕ) → place_of_expr c (ast.Bool b at) ≡ at
unfolding place_of_expr
place-Bool c b at = ap (λ (m : AstMeant). m.place) (laws.at-Bool ast_meant (item_meant c) target_meant select_meant b at)

pub in-Null : (c : Catalog) (at : ℕ) (levels : Levels) (before : Counts) → expr_in c (ast.Null at) levels before ≡ (null_literal)
unfolding expr_in counts_of_expr select_in counts_of_select
in-Null c at levels before = ap (λ (m : AstMeant). m.part.over levels before) (laws.at-Null ast_meant (item_meant c) target_meant select_meant at)

pub counts-Null : (c : Catalog) (at : ℕ) → counts_of_expr c (ast.Null at) ≡ none
unfolding expr_in counts_of_expr select_in counts_of_select
counts-Null c at = ap (λ (m : AstMeant). m.part.counts) (laws.at-Null ast_meant (item_meant c) target_meant select_meant at)

pub place-Null : (c : Catalog) (at : ℕ) → place_of_expr c (ast.Null at) ≡ at
unfolding place_of_expr
place-Null c at = ap (λ (m : AstMeant). m.place) (laws.at-Null ast_meant (item_meant c) target_meant select_meant at)

pub in-Name : (c : Catalog) (name : List ℕ) (at : ℕ) (levels : Levels) (before : Counts) → expr_in c (ast.Name name at) levels before ≡ (name_over at name levels)
unfolding expr_in counts_of_expr select_in counts_of_select
in-Name c name at levels before = ap (λ (m : AstMeant). m.part.over levels before) (laws.at-Name ast_meant (item_meant c) target_meant select_meant name at)

pub counts-Name : (c : Catalog) (name : List ℕ) (at : ℕ) → counts_of_expr c (ast.Name name at) ≡ none
unfolding expr_in counts_of_expr select_in counts_of_select
counts-Name c name at = ap (λ (m : AstMeant). m.part.counts) (laws.at-Name ast_meant (item_meant c) target_meant select_meant name at)

pub place-Name : (c : Catalog) (name : List ℕ) (at : ℕ) → place_of_expr c (ast.Name name at) ≡ at
unfolding place_of_expr
place-Name c name at = ap (λ (m : AstMeant). m.place) (laws.at-Name ast_meant (item_meant c) target_meant select_meant name at)

pub in-Qualified : (c : Catalog) (qualifier name : List ℕ) (at : ℕ) (levels : Levels) (before : Counts) → expr_in c (ast.Qualified qualifier name at) levels before ≡ (qualified_over at qualifier name levels)
unfolding expr_in counts_of_expr select_in counts_of_select
in-Qualified c qualifier name at levels before = ap (λ (m : AstMeant). m.part.over levels before) (laws.at-Qualified ast_meant (item_meant c) target_meant select_meant qualifier name at)

pub counts-Qualified : (c : Catalog) (qualifier name : List ℕ) (at : ℕ) → counts_of_expr c (ast.Qualified qualifier name at) ≡ none
unfolding expr_in counts_of_expr select_in counts_of_select
counts-Qualified c qualifier name at = ap (λ (m : AstMeant). m.part.counts) (laws.at-Qualified ast_meant (item_meant c) target_meant select_meant qualifier name at)

pub place-Qualified : (c : Catalog) (qualifier name : List ℕ) (at : ℕ) → place_of_expr c (ast.Qualified qualifier name at) ≡ at
unfolding place_of_expr
place-Qualified c qualifier name at = ap (λ (m : AstMeant). m.place) (laws.at-Qualified ast_meant (item_meant c) target_meant select_meant qualifier name at)

pub in-Sign : (c : Catalog) (minus : Bool) (operand : Ast) (at : ℕ) (levels : Levels) (before : Counts) → expr_in c (ast.Sign minus operand at) levels before ≡ (expr_in c operand levels before >>= sign_node at minus)
unfolding expr_in counts_of_expr select_in counts_of_select
in-Sign c minus operand at levels before = ap (λ (m : AstMeant). m.part.over levels before) (laws.at-Sign ast_meant (item_meant c) target_meant select_meant minus operand at)

pub counts-Sign : (c : Catalog) (minus : Bool) (operand : Ast) (at : ℕ) → counts_of_expr c (ast.Sign minus operand at) ≡ counts_of_expr c operand
unfolding expr_in counts_of_expr select_in counts_of_select
counts-Sign c minus operand at = ap (λ (m : AstMeant). m.part.counts) (laws.at-Sign ast_meant (item_meant c) target_meant select_meant minus operand at)

pub place-Sign : (c : Catalog) (minus : Bool) (operand : Ast) (at : ℕ) → place_of_expr c (ast.Sign minus operand at) ≡ at
unfolding place_of_expr
place-Sign c minus operand at = ap (λ (m : AstMeant). m.place) (laws.at-Sign ast_meant (item_meant c) target_meant select_meant minus operand at)

pub in-Sum : (c : Catalog) (terms : List (Bool × Ast)) (at : ℕ) (levels : Levels) (before : Counts) → expr_in c (ast.Sum terms at) levels before ≡ (terms_in c terms levels before >>= sum_node at)
unfolding expr_in counts_of_expr select_in counts_of_select
in-Sum c terms at levels before = ap (λ (m : AstMeant). m.part.over levels before) (laws.at-Sum ast_meant (item_meant c) target_meant select_meant terms at)
    ∙ ap (λ r. r >>= sum_node at) (terms_are c terms levels before)

pub counts-Sum : (c : Catalog) (terms : List (Bool × Ast)) (at : ℕ) → counts_of_expr c (ast.Sum terms at) ≡ counts_of_terms c terms
unfolding expr_in counts_of_expr select_in counts_of_select
counts-Sum c terms at = ap (λ (m : AstMeant). m.part.counts) (laws.at-Sum ast_meant (item_meant c) target_meant select_meant terms at) ∙ terms_counted c terms

pub place-Sum : (c : Catalog) (terms : List (Bool × Ast)) (at : ℕ) → place_of_expr c (ast.Sum terms at) ≡ at
unfolding place_of_expr
place-Sum c terms at = ap (λ (m : AstMeant). m.place) (laws.at-Sum ast_meant (item_meant c) target_meant select_meant terms at)

pub in-Product : (c : Catalog) (list : List Ast) (at : ℕ) (levels : Levels) (before : Counts) → expr_in c (ast.Product list at) levels before ≡ (exprs_in c list levels before >>= product_node at)
unfolding expr_in counts_of_expr select_in counts_of_select
in-Product c list at levels before = ap (λ (m : AstMeant). m.part.over levels before) (laws.at-Product ast_meant (item_meant c) target_meant select_meant list at)
    ∙ ap (λ r. r >>= product_node at) (exprs_are c list levels before)

pub counts-Product : (c : Catalog) (list : List Ast) (at : ℕ) → counts_of_expr c (ast.Product list at) ≡ counts_of_exprs c list
unfolding expr_in counts_of_expr select_in counts_of_select
counts-Product c list at = ap (λ (m : AstMeant). m.part.counts) (laws.at-Product ast_meant (item_meant c) target_meant select_meant list at) ∙ exprs_counted c list

pub place-Product : (c : Catalog) (list : List Ast) (at : ℕ) → place_of_expr c (ast.Product list at) ≡ at
unfolding place_of_expr
place-Product c list at = ap (λ (m : AstMeant). m.place) (laws.at-Product ast_meant (item_meant c) target_meant select_meant list at)

pub in-Concat : (c : Catalog) (list : List Ast) (at : ℕ) (levels : Levels) (before : Counts) → expr_in c (ast.Concat list at) levels before ≡ (exprs_in c list levels before >>= concat_node at)
unfolding expr_in counts_of_expr select_in counts_of_select
in-Concat c list at levels before = ap (λ (m : AstMeant). m.part.over levels before) (laws.at-Concat ast_meant (item_meant c) target_meant select_meant list at)
    ∙ ap (λ r. r >>= concat_node at) (exprs_are c list levels before)

pub counts-Concat : (c : Catalog) (list : List Ast) (at : ℕ) → counts_of_expr c (ast.Concat list at) ≡ counts_of_exprs c list
unfolding expr_in counts_of_expr select_in counts_of_select
counts-Concat c list at = ap (λ (m : AstMeant). m.part.counts) (laws.at-Concat ast_meant (item_meant c) target_meant select_meant list at) ∙ exprs_counted c list

pub place-Concat : (c : Catalog) (list : List Ast) (at : ℕ) → place_of_expr c (ast.Concat list at) ≡ at
unfolding place_of_expr
place-Concat c list at = ap (λ (m : AstMeant). m.place) (laws.at-Concat ast_meant (item_meant c) target_meant select_meant list at)

pub in-Compare : (c : Catalog) (op : CmpWord) (left right : Ast) (at : ℕ) (levels : Levels) (before : Counts) → expr_in c (ast.Compare op left right at) levels before ≡ (pair_in c left right levels before >>= compare_node at op)
unfolding expr_in counts_of_expr select_in counts_of_select
in-Compare c op left right at levels before = ap (λ (m : AstMeant). m.part.over levels before) (laws.at-Compare ast_meant (item_meant c) target_meant select_meant op left right at)

pub counts-Compare : (c : Catalog) (op : CmpWord) (left right : Ast) (at : ℕ) → counts_of_expr c (ast.Compare op left right at) ≡ counts_of_pair c left right
unfolding expr_in counts_of_expr select_in counts_of_select
counts-Compare c op left right at = ap (λ (m : AstMeant). m.part.counts) (laws.at-Compare ast_meant (item_meant c) target_meant select_meant op left right at)

pub place-Compare : (c : Catalog) (op : CmpWord) (left right : Ast) (at : ℕ) → place_of_expr c (ast.Compare op left right at) ≡ at
unfolding place_of_expr
place-Compare c op left right at = ap (λ (m : AstMeant). m.place) (laws.at-Compare ast_meant (item_meant c) target_meant select_meant op left right at)

pub in-Between : (c : Catalog) (operand low high : Ast) (at : ℕ) (levels : Levels) (before : Counts) → expr_in c (ast.Between operand low high at) levels before ≡ (triple_in c operand low high levels before >>= between_node at)
unfolding expr_in counts_of_expr select_in counts_of_select
in-Between c operand low high at levels before = ap (λ (m : AstMeant). m.part.over levels before) (laws.at-Between ast_meant (item_meant c) target_meant select_meant operand low high at)

pub counts-Between : (c : Catalog) (operand low high : Ast) (at : ℕ) → counts_of_expr c (ast.Between operand low high at) ≡ both (counts_of_expr c operand) (counts_of_pair c low high)
unfolding expr_in counts_of_expr select_in counts_of_select
counts-Between c operand low high at = ap (λ (m : AstMeant). m.part.counts) (laws.at-Between ast_meant (item_meant c) target_meant select_meant operand low high at)

pub place-Between : (c : Catalog) (operand low high : Ast) (at : ℕ) → place_of_expr c (ast.Between operand low high at) ≡ at
unfolding place_of_expr
place-Between c operand low high at = ap (λ (m : AstMeant). m.place) (laws.at-Between ast_meant (item_meant c) target_meant select_meant operand low high at)

pub in-InList : (c : Catalog) (operand : Ast) (list : List Ast) (at : ℕ) (levels : Levels) (before : Counts) → expr_in c (ast.InList operand list at) levels before ≡ (among_in c operand list levels before >>= in_list_node at)
unfolding expr_in counts_of_expr select_in counts_of_select
in-InList c operand list at levels before = ap (λ (m : AstMeant). m.part.over levels before) (laws.at-InList ast_meant (item_meant c) target_meant select_meant operand list at)
    ∙ ap (λ r. (expr_in c operand levels before >>= (λ x. r >>= (λ xs. Ok (x, xs)))) >>= in_list_node at) (exprs_are c list levels (both before (counts_of_expr c operand)))

pub counts-InList : (c : Catalog) (operand : Ast) (list : List Ast) (at : ℕ) → counts_of_expr c (ast.InList operand list at) ≡ both (counts_of_expr c operand) (counts_of_exprs c list)
unfolding expr_in counts_of_expr select_in counts_of_select
counts-InList c operand list at = ap (λ (m : AstMeant). m.part.counts) (laws.at-InList ast_meant (item_meant c) target_meant select_meant operand list at) ∙ ap (both (counts_of_expr c operand)) (exprs_counted c list)

pub place-InList : (c : Catalog) (operand : Ast) (list : List Ast) (at : ℕ) → place_of_expr c (ast.InList operand list at) ≡ at
unfolding place_of_expr
place-InList c operand list at = ap (λ (m : AstMeant). m.place) (laws.at-InList ast_meant (item_meant c) target_meant select_meant operand list at)

pub in-InSelect : (c : Catalog) (operand : Ast) (select : Select) (at : ℕ) (levels : Levels) (before : Counts) → expr_in c (ast.InSelect operand select at) levels before ≡ (sublink_in c operand select levels before >>= in_select_node at)
unfolding expr_in counts_of_expr select_in counts_of_select
in-InSelect c operand select at levels before = ap (λ (m : AstMeant). m.part.over levels before) (laws.at-InSelect ast_meant (item_meant c) target_meant select_meant operand select at)

pub counts-InSelect : (c : Catalog) (operand : Ast) (select : Select) (at : ℕ) → counts_of_expr c (ast.InSelect operand select at) ≡ both one_sublink (both (counts_of_expr c operand) (counts_of_select c select))
unfolding expr_in counts_of_expr select_in counts_of_select
counts-InSelect c operand select at = ap (λ (m : AstMeant). m.part.counts) (laws.at-InSelect ast_meant (item_meant c) target_meant select_meant operand select at)

pub place-InSelect : (c : Catalog) (operand : Ast) (select : Select) (at : ℕ) → place_of_expr c (ast.InSelect operand select at) ≡ at
unfolding place_of_expr
place-InSelect c operand select at = ap (λ (m : AstMeant). m.place) (laws.at-InSelect ast_meant (item_meant c) target_meant select_meant operand select at)

pub in-And : (c : Catalog) (list : List Ast) (at : ℕ) (levels : Levels) (before : Counts) → expr_in c (ast.And list at) levels before ≡ (exprs_in c list levels before >>= and_node at)
unfolding expr_in counts_of_expr select_in counts_of_select
in-And c list at levels before = ap (λ (m : AstMeant). m.part.over levels before) (laws.at-And ast_meant (item_meant c) target_meant select_meant list at)
    ∙ ap (λ r. r >>= and_node at) (exprs_are c list levels before)

pub counts-And : (c : Catalog) (list : List Ast) (at : ℕ) → counts_of_expr c (ast.And list at) ≡ counts_of_exprs c list
unfolding expr_in counts_of_expr select_in counts_of_select
counts-And c list at = ap (λ (m : AstMeant). m.part.counts) (laws.at-And ast_meant (item_meant c) target_meant select_meant list at) ∙ exprs_counted c list

pub place-And : (c : Catalog) (list : List Ast) (at : ℕ) → place_of_expr c (ast.And list at) ≡ at
unfolding place_of_expr
place-And c list at = ap (λ (m : AstMeant). m.place) (laws.at-And ast_meant (item_meant c) target_meant select_meant list at)

pub in-Or : (c : Catalog) (list : List Ast) (at : ℕ) (levels : Levels) (before : Counts) → expr_in c (ast.Or list at) levels before ≡ (exprs_in c list levels before >>= or_node at)
unfolding expr_in counts_of_expr select_in counts_of_select
in-Or c list at levels before = ap (λ (m : AstMeant). m.part.over levels before) (laws.at-Or ast_meant (item_meant c) target_meant select_meant list at)
    ∙ ap (λ r. r >>= or_node at) (exprs_are c list levels before)

pub counts-Or : (c : Catalog) (list : List Ast) (at : ℕ) → counts_of_expr c (ast.Or list at) ≡ counts_of_exprs c list
unfolding expr_in counts_of_expr select_in counts_of_select
counts-Or c list at = ap (λ (m : AstMeant). m.part.counts) (laws.at-Or ast_meant (item_meant c) target_meant select_meant list at) ∙ exprs_counted c list

pub place-Or : (c : Catalog) (list : List Ast) (at : ℕ) → place_of_expr c (ast.Or list at) ≡ at
unfolding place_of_expr
place-Or c list at = ap (λ (m : AstMeant). m.place) (laws.at-Or ast_meant (item_meant c) target_meant select_meant list at)

pub in-Not : (c : Catalog) (operand : Ast) (at : ℕ) (levels : Levels) (before : Counts) → expr_in c (ast.Not operand at) levels before ≡ (expr_in c operand levels before >>= not_node at)
unfolding expr_in counts_of_expr select_in counts_of_select
in-Not c operand at levels before = ap (λ (m : AstMeant). m.part.over levels before) (laws.at-Not ast_meant (item_meant c) target_meant select_meant operand at)

pub counts-Not : (c : Catalog) (operand : Ast) (at : ℕ) → counts_of_expr c (ast.Not operand at) ≡ counts_of_expr c operand
unfolding expr_in counts_of_expr select_in counts_of_select
counts-Not c operand at = ap (λ (m : AstMeant). m.part.counts) (laws.at-Not ast_meant (item_meant c) target_meant select_meant operand at)

pub place-Not : (c : Catalog) (operand : Ast) (at : ℕ) → place_of_expr c (ast.Not operand at) ≡ at
unfolding place_of_expr
place-Not c operand at = ap (λ (m : AstMeant). m.place) (laws.at-Not ast_meant (item_meant c) target_meant select_meant operand at)

pub in-Is : (c : Catalog) (operand : Ast) (negated : Bool) (word : IsWord) (at : ℕ) (levels : Levels) (before : Counts) → expr_in c (ast.Is operand negated word at) levels before ≡ (expr_in c operand levels before >>= is_node at negated word)
unfolding expr_in counts_of_expr select_in counts_of_select
in-Is c operand negated word at levels before = ap (λ (m : AstMeant). m.part.over levels before) (laws.at-Is ast_meant (item_meant c) target_meant select_meant operand negated word at)

pub counts-Is : (c : Catalog) (operand : Ast) (negated : Bool) (word : IsWord) (at : ℕ) → counts_of_expr c (ast.Is operand negated word at) ≡ counts_of_expr c operand
unfolding expr_in counts_of_expr select_in counts_of_select
counts-Is c operand negated word at = ap (λ (m : AstMeant). m.part.counts) (laws.at-Is ast_meant (item_meant c) target_meant select_meant operand negated word at)

pub place-Is : (c : Catalog) (operand : Ast) (negated : Bool) (word : IsWord) (at : ℕ) → place_of_expr c (ast.Is operand negated word at) ≡ at
unfolding place_of_expr
place-Is c operand negated word at = ap (λ (m : AstMeant). m.place) (laws.at-Is ast_meant (item_meant c) target_meant select_meant operand negated word at)

pub in-Exists : (c : Catalog) (select : Select) (at : ℕ) (levels : Levels) (before : Counts) → expr_in c (ast.Exists select at) levels before ≡ (exists_in c select levels before >>= exists_node)
unfolding expr_in counts_of_expr select_in counts_of_select
in-Exists c select at levels before = ap (λ (m : AstMeant). m.part.over levels before) (laws.at-Exists ast_meant (item_meant c) target_meant select_meant select at)

pub counts-Exists : (c : Catalog) (select : Select) (at : ℕ) → counts_of_expr c (ast.Exists select at) ≡ both one_sublink (counts_of_select c select)
unfolding expr_in counts_of_expr select_in counts_of_select
counts-Exists c select at = ap (λ (m : AstMeant). m.part.counts) (laws.at-Exists ast_meant (item_meant c) target_meant select_meant select at)

pub place-Exists : (c : Catalog) (select : Select) (at : ℕ) → place_of_expr c (ast.Exists select at) ≡ at
unfolding place_of_expr
place-Exists c select at = ap (λ (m : AstMeant). m.place) (laws.at-Exists ast_meant (item_meant c) target_meant select_meant select at)

pub in-Coalesce : (c : Catalog) (list : List Ast) (at : ℕ) (levels : Levels) (before : Counts) → expr_in c (ast.Coalesce list at) levels before ≡ (exprs_in c list levels before >>= coalesce_node at)
unfolding expr_in counts_of_expr select_in counts_of_select
in-Coalesce c list at levels before = ap (λ (m : AstMeant). m.part.over levels before) (laws.at-Coalesce ast_meant (item_meant c) target_meant select_meant list at)
    ∙ ap (λ r. r >>= coalesce_node at) (exprs_are c list levels before)

pub counts-Coalesce : (c : Catalog) (list : List Ast) (at : ℕ) → counts_of_expr c (ast.Coalesce list at) ≡ counts_of_exprs c list
unfolding expr_in counts_of_expr select_in counts_of_select
counts-Coalesce c list at = ap (λ (m : AstMeant). m.part.counts) (laws.at-Coalesce ast_meant (item_meant c) target_meant select_meant list at) ∙ exprs_counted c list

pub place-Coalesce : (c : Catalog) (list : List Ast) (at : ℕ) → place_of_expr c (ast.Coalesce list at) ≡ at
unfolding place_of_expr
place-Coalesce c list at = ap (λ (m : AstMeant). m.place) (laws.at-Coalesce ast_meant (item_meant c) target_meant select_meant list at)

case_is : (c : Catalog) (operand : Option Ast) (arms : List (Ast × Ast)) (otherwise : Option Ast) (levels : Levels) (before : Counts)
    → (Rattle.jp_resolution.specs.Counting.beside (optional (option_map part_of (option_map (meant_by c) operand))) (Rattle.jp_resolution.specs.Counting.beside (Rattle.jp_resolution.specs.Counting.listed (map arm_of (map (arm_meant c) arms))) (optional (option_map part_of (option_map (meant_by c) otherwise))))).over levels before ≡ case_in c operand arms otherwise levels before
case_is c operand arms otherwise levels before =
    λ k. maybe_is c operand levels before k >>= (λ x. (arms_are c arms levels (both before (maybe_counted c operand k)) k >>= (λ y. maybe_is c otherwise levels (both (both before (maybe_counted c operand k)) (arms_counted c arms k)) k >>= (λ z. Ok (y, z)))) >>= (λ y. Ok (x, y)))

pub in-Case : (c : Catalog) (operand : Option Ast) (arms : List (Ast × Ast)) (otherwise : Option Ast) (at : ℕ) (levels : Levels) (before : Counts) → expr_in c (ast.Case operand arms otherwise at) levels before ≡ (case_in c operand arms otherwise levels before >>= case_of at)
unfolding expr_in counts_of_expr select_in counts_of_select
in-Case c operand arms otherwise at levels before = ap (λ (m : AstMeant). m.part.over levels before) (laws.at-Case ast_meant (item_meant c) target_meant select_meant operand arms otherwise at)
    ∙ ap (λ r. r >>= case_of at) (case_is c operand arms otherwise levels before)

pub counts-Case : (c : Catalog) (operand : Option Ast) (arms : List (Ast × Ast)) (otherwise : Option Ast) (at : ℕ) → counts_of_expr c (ast.Case operand arms otherwise at) ≡ both (counts_of_maybe c operand) (both (counts_of_arms c arms) (counts_of_maybe c otherwise))
unfolding expr_in counts_of_expr select_in counts_of_select
counts-Case c operand arms otherwise at = ap (λ (m : AstMeant). m.part.counts) (laws.at-Case ast_meant (item_meant c) target_meant select_meant operand arms otherwise at) ∙ (λ k. both (maybe_counted c operand k) (both (arms_counted c arms k) (maybe_counted c otherwise k)))

pub place-Case : (c : Catalog) (operand : Option Ast) (arms : List (Ast × Ast)) (otherwise : Option Ast) (at : ℕ) → place_of_expr c (ast.Case operand arms otherwise at) ≡ at
unfolding place_of_expr
place-Case c operand arms otherwise at = ap (λ (m : AstMeant). m.place) (laws.at-Case ast_meant (item_meant c) target_meant select_meant operand arms otherwise at)

pub ruleset exprs = (in-Number, in-Text, in-Bool, in-Null, in-Name, in-Qualified, in-Sign, in-Sum, in-Product, in-Concat, in-Compare, in-Between, in-InList, in-InSelect, in-And, in-Or, in-Not, in-Is, in-Exists, in-Coalesce, in-Case)

pub ruleset expr_counts = (counts-Number, counts-Text, counts-Bool, counts-Null, counts-Name, counts-Qualified, counts-Sign, counts-Sum, counts-Product, counts-Concat, counts-Compare, counts-Between, counts-InList, counts-InSelect, counts-And, counts-Or, counts-Not, counts-Is, counts-Exists, counts-Coalesce, counts-Case)

pub ruleset places = (place-Number, place-Text, place-Bool, place-Null, place-Name, place-Qualified, place-Sign, place-Sum, place-Product, place-Concat, place-Compare, place-Between, place-InList, place-InSelect, place-And, place-Or, place-Not, place-Is, place-Exists, place-Coalesce, place-Case)

-- ---- FROM, targets and selects

pub in-Table : (c : Catalog) (name : List ℕ) (alias : Option (List ℕ)) (at : ℕ) (outer : Levels) (earlier : List Entry) (before : Counts) → item_in c (item.Table name alias at) outer earlier before ≡ table_from c at name alias outer earlier before
unfolding item_in
in-Table c name alias at outer earlier before = ap (λ (m : ItemMeant). m.from outer earlier before) (laws.at-Table ast_meant (item_meant c) target_meant select_meant name alias at)

pub in-Sub : (c : Catalog) (select : Select) (alias : Option (List ℕ)) (at : ℕ) (outer : Levels) (earlier : List Entry) (before : Counts)
    → item_in c (item.Sub select alias at) outer earlier before ≡ (select_in c select outer (both before one_entry) >>= (λ s. new_source at alias earlier (sub_source before.entries alias s)))
unfolding item_in select_in
in-Sub c select alias at outer earlier before = ap (λ (m : ItemMeant). m.from outer earlier before) (laws.at-Sub ast_meant (item_meant c) target_meant select_meant select alias at)

on_is : (c : Catalog) (kind : JoinWord) (left right : FromItem) (on : Option Ast) (outer : Levels) (earlier : List Entry) (before : Counts)
    → spec.join_from (kind_of kind) (item_by c left) (item_by c right) (condition_of (option_map (meant_by c) on)) outer earlier before ≡ join_in c (kind_of kind) left right on outer earlier before
unfolding item_in counts_of_item expr_in place_of_expr
on_is c kind left right None outer earlier before = refl
on_is c kind left right (Some on) outer earlier before = refl

pub in-Join : (c : Catalog) (kind : JoinWord) (left right : FromItem) (on : Option Ast) (at : ℕ) (outer : Levels) (earlier : List Entry) (before : Counts)
    → item_in c (item.Join kind left right on at) outer earlier before ≡ join_in c (kind_of kind) left right on outer earlier before
unfolding item_in counts_of_item
in-Join c kind left right on at outer earlier before = ap (λ (m : ItemMeant). m.from outer earlier before) (laws.at-Join ast_meant (item_meant c) target_meant select_meant kind left right on at) ∙ on_is c kind left right on outer earlier before

pub counts-Table : (c : Catalog) (name : List ℕ) (alias : Option (List ℕ)) (at : ℕ) → counts_of_item c (item.Table name alias at) ≡ one_entry
unfolding counts_of_item
counts-Table c name alias at = ap (λ (m : ItemMeant). m.counts) (laws.at-Table ast_meant (item_meant c) target_meant select_meant name alias at)

pub counts-Sub : (c : Catalog) (select : Select) (alias : Option (List ℕ)) (at : ℕ) → counts_of_item c (item.Sub select alias at) ≡ both one_entry (counts_of_select c select)
unfolding counts_of_item counts_of_select
counts-Sub c select alias at = ap (λ (m : ItemMeant). m.counts) (laws.at-Sub ast_meant (item_meant c) target_meant select_meant select alias at)

pub counts-Join : (c : Catalog) (kind : JoinWord) (left right : FromItem) (on : Option Ast) (at : ℕ) → counts_of_item c (item.Join kind left right on at) ≡ both (both (counts_of_item c left) (counts_of_item c right)) (counts_of_maybe c on)
unfolding counts_of_item
counts-Join c kind left right on at = ap (λ (m : ItemMeant). m.counts) (laws.at-Join ast_meant (item_meant c) target_meant select_meant kind left right on at) ∙ ap (both (both (counts_of_item c left) (counts_of_item c right))) (cond_counted c on)

pub in-All : (c : Catalog) (at : ℕ) (levels : Levels) (before : Counts) → target_in c (target.All at) levels before ≡ all_columns levels
unfolding target_in
in-All c at levels before = ap (λ (m : Targets). m.over levels before) (laws.at-All ast_meant (item_meant c) target_meant select_meant at)

pub in-AllOf : (c : Catalog) (name : List ℕ) (at : ℕ) (levels : Levels) (before : Counts) → target_in c (target.AllOf name at) levels before ≡ all_columns_of at name levels
unfolding target_in
in-AllOf c name at levels before = ap (λ (m : Targets). m.over levels before) (laws.at-AllOf ast_meant (item_meant c) target_meant select_meant name at)

pub in-One : (c : Catalog) (expr : Ast) (alias : Option (List ℕ)) (levels : Levels) (before : Counts) → target_in c (target.One expr alias) levels before ≡ (expr_in c expr levels before >>= one_output (output_name alias (label_of_expr c expr)))
unfolding target_in expr_in label_of_expr
in-One c expr alias levels before = ap (λ (m : Targets). m.over levels before) (laws.at-One ast_meant (item_meant c) target_meant select_meant expr alias)

pub counts-All : (c : Catalog) (at : ℕ) → counts_of_target c (target.All at) ≡ none
unfolding counts_of_target
counts-All c at = ap (λ (m : Targets). m.counts) (laws.at-All ast_meant (item_meant c) target_meant select_meant at)

pub counts-AllOf : (c : Catalog) (name : List ℕ) (at : ℕ) → counts_of_target c (target.AllOf name at) ≡ none
unfolding counts_of_target
counts-AllOf c name at = ap (λ (m : Targets). m.counts) (laws.at-AllOf ast_meant (item_meant c) target_meant select_meant name at)

pub counts-One : (c : Catalog) (expr : Ast) (alias : Option (List ℕ)) → counts_of_target c (target.One expr alias) ≡ counts_of_expr c expr
unfolding counts_of_target counts_of_expr
counts-One c expr alias = ap (λ (m : Targets). m.counts) (laws.at-One ast_meant (item_meant c) target_meant select_meant expr alias)

select_is : (c : Catalog) (x : Select-F Ast FromItem Target Select) (outer : Levels) (before : Counts)
    → select_over x.distinct (spec.targets_of (map (target_by c) x.targets)) (map (item_by c) x.items) (condition_of (option_map (meant_by c) x.cond)) outer before ≡ select_steps c x outer before
select_is c x outer before =
    λ k. items_are c x.items outer [] (both before (targets_counted c x.targets k)) k
    >>= (λ sources. cond_is c x.cond (sources.entries ∷ outer) (both (both before (targets_counted c x.targets k)) (items_counted c x.items k)) k
    >>= (λ conds. (targets_are c x.targets (sources.entries ∷ outer) before k >>= (λ lists. Ok (spec.outputs_in lists)))
    >>= (λ outputs. Ok (selection x.distinct sources conds outputs))))

pub in-Select : (c : Catalog) (s : Select) (outer : Levels) (before : Counts) → select_in c s outer before ≡ select_steps c (out-Select s) outer before
unfolding select_in
in-Select c s outer before =
    ap (λ z. (select_by c z).over outer before) (sym (roll-out-Select s))
    ∙ ap (λ (m : Part Selection). m.over outer before) (laws.at-Select ast_meant (item_meant c) target_meant select_meant (out-Select s))
    ∙ select_is c (out-Select s) outer before

pub counts-Select : (c : Catalog) (s : Select) → counts_of_select c s ≡ both (both (counts_of_targets c (out-Select s).targets) (counts_of_items c (out-Select s).items)) (counts_of_maybe c (out-Select s).cond)
unfolding counts_of_select
counts-Select c s =
    ap (λ z. (select_by c z).counts) (sym (roll-out-Select s))
    ∙ ap (λ (m : Part Selection). m.counts) (laws.at-Select ast_meant (item_meant c) target_meant select_meant (out-Select s))
    ∙ (λ k. both (both (targets_counted c (out-Select s).targets k) (items_counted c (out-Select s).items k)) (cond_counted c (out-Select s).cond k))

pub ruleset all_counts = (expr_counts, counts-Table, counts-Sub, counts-Join, counts-All, counts-AllOf, counts-One, counts-Select)

pub ruleset walks = (exprs, in-Table, in-Sub, in-Join, in-All, in-AllOf, in-One, in-Select)
