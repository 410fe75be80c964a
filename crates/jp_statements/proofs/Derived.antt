-- What the grammar derives is whole where the numbers of its tokens fit, and has no more entries than there are tokens:
-- by induction over the rules, one lemma for each, which ends in `_good`.
use Rattle.std.proofs.Common.{◌≡◌, ◌∙◌, ap, sym, refl, subst, ℕ, ◌+◌, ◌^◌, Bool, true, false, ◌&&◌, List, [], ◌∷◌, ◌++◌, arith, Option, Some}
use Rattle.std.specs.Prelude.{nat_lt}
use Rattle.std.specs.List.{list_all, sum_by}
use Rattle.std.proofs.lemmas.List.Sums.{sum_by-cons}
use Rattle.jp_lex.specs.Cutting.{value}
use Rattle.jp_ast.specs.declared.class.Class.TheVariants as k
use Rattle.jp_ast.specs.declared.tree.Ast.TheVariants as ast
use Rattle.jp_ast.specs.declared.tree.FromItem.TheVariants as item
use Rattle.jp_ast.specs.declared.tree.Target.TheVariants as target
use Rattle.jp_ast.specs.Classes.{class}
use Rattle.jp_ast.specs.Nodes.{chain, or_node, and_node, concat_node, product_node, sum_of, negated_at, is_minus, Joined, join_chain}
use Rattle.jp_ast.specs.Seen.{Seen, number_in, place}
use Rattle.jp_ast.specs.Grammar.{MaybeSide, IsAtom, MaybeOperand, IsArm, AreArms, MoreArms, MaybeElse, AreExprs, MoreExprs, IsSign, IsProduct, MoreFactors, IsSum, MoreTerms, IsCat, MoreParts, IsRange, IsRangeTail, IsMembers, IsCompare, IsCompareTail, IsTest, IsTestTail, IsNot, IsAnd, MoreNots, IsExpr, MoreAnds, IsPrimary, IsJoin, IsItem, MoreJoins, AreItems, MoreItems, IsTarget, AreTargets, MoreTargets, MaybeWhere, IsSelect, IsOrder, MoreOrders, MaybeOrder, Derives}
use Rattle.jp_statements.specs.Layers.{Ast, FromItem, Target, Select, OrderAst, Stmt, JoinWord, in_term}
use Rattle.jp_statements.specs.Whole.{has_one, has_two, fits_join, arm_passes, maybe_passes, is_whole_ast, is_whole_item, is_whole_target, is_whole_select, is_whole_order, is_whole}
use Rattle.jp_statements.specs.Entries.{in_arm, in_maybe, entries_in_ast, entries_in_item, entries_in_target, entries_in_select, entries_in_order, entries_in_statement}
use Rattle.jp_statements.proofs.Weights.{weigh, excess, wide, wide_as, Good, nothing, exactly, behind, front, after, same, both, member, with_entry, an_entry}
use Rattle.jp_statements.proofs.WholeLaws as wholes
use Rattle.jp_statements.proofs.EntryLaws as counts

-- ---- what is claimed of the value of a rule

abbrev GoodAst : List Seen → Ast → Type 0
GoodAst ts a = Good ts (is_whole_ast a) (entries_in_ast a)

abbrev GoodAsts : List Seen → List Ast → Type 0
GoodAsts ts list = Good ts (list_all is_whole_ast list) (sum_by entries_in_ast list)

abbrev GoodTerms : List Seen → List (Bool × Ast) → Type 0
GoodTerms ts terms = Good ts (list_all (in_term is_whole_ast) terms) (sum_by (in_term entries_in_ast) terms)

abbrev GoodArm : List Seen → Ast × Ast → Type 0
GoodArm ts arm = Good ts (arm_passes is_whole_ast arm) (in_arm entries_in_ast arm)

abbrev GoodArms : List Seen → List (Ast × Ast) → Type 0
GoodArms ts arms = Good ts (list_all (arm_passes is_whole_ast) arms) (sum_by (in_arm entries_in_ast) arms)

abbrev GoodMaybe : List Seen → Option Ast → Type 0
GoodMaybe ts o = Good ts (maybe_passes is_whole_ast o) (in_maybe entries_in_ast o)

abbrev GoodItem : List Seen → FromItem → Type 0
GoodItem ts i = Good ts (is_whole_item i) (entries_in_item i)

abbrev GoodItems : List Seen → List FromItem → Type 0
GoodItems ts items = Good ts (list_all is_whole_item items) (sum_by entries_in_item items)

abbrev whole_joined : Joined → Bool
whole_joined j = is_whole_item j.1 && fits_join is_whole_ast j.0 j.2

abbrev entries_in_joined : Joined → ℕ
entries_in_joined j = entries_in_item j.1 + in_maybe entries_in_ast j.2

abbrev GoodJoined : List Seen → Joined → Type 0
GoodJoined ts j = Good ts (whole_joined j) (entries_in_joined j)

abbrev GoodJoins : List Seen → List Joined → Type 0
GoodJoins ts joins = Good ts (list_all whole_joined joins) (sum_by entries_in_joined joins)

abbrev GoodTarget : List Seen → Target → Type 0
GoodTarget ts t = Good ts (is_whole_target t) (entries_in_target t)

abbrev GoodTargets : List Seen → List Target → Type 0
GoodTargets ts targets = Good ts (list_all is_whole_target targets) (sum_by entries_in_target targets)

abbrev GoodSelect : List Seen → Select → Type 0
GoodSelect ts s = Good ts (is_whole_select s) (entries_in_select s)

-- ---- nodes

module _ {ts : List Seen} {b : Bool} {n : ℕ} where
  ast_node : {v : Ast} (x : Ast) → v ≡ x → is_whole_ast x ≡ b → entries_in_ast x ≡ n → Good ts b n → GoodAst ts v
  ast_node x is w e g = subst (GoodAst ts) (sym is) (same w e g)

  item_node : {v : FromItem} (x : FromItem) → v ≡ x → is_whole_item x ≡ b → entries_in_item x ≡ n → Good ts b n → GoodItem ts v
  item_node x is w e g = subst (GoodItem ts) (sym is) (same w e g)

  target_node : {v : Target} (x : Target) → v ≡ x → is_whole_target x ≡ b → entries_in_target x ≡ n → Good ts b n → GoodTarget ts v
  target_node x is w e g = subst (GoodTarget ts) (sym is) (same w e g)

with_true : (b : Bool) → b ≡ (b && true)
with_true true = refl
with_true false = refl

-- a number, where it fits
fits_of : (b : Bool) → excess b ≡ 0 → b ≡ true
fits_of true h = refl
fits_of false h = absurd (omega (arith, h))

number_fits : (t : Seen) → class t ≡ k.Number → weigh wide (t ∷ []) ≡ 0 → nat_lt (value t.content) (2 ^ 127) ≡ true
number_fits t is h =
    let e : wide t ≡ excess (nat_lt (value t.content) (2 ^ 127)) = ap (λ c. wide_as c (value t.content)) is in
    let z : wide t ≡ 0 = omega (arith, h) in
    fits_of (nat_lt (value t.content) (2 ^ 127)) (sym e ∙ z)

literal : (t : Seen) → class t ≡ k.Number → Good (t ∷ []) (nat_lt (value t.content) (2 ^ 127)) 0
literal t is = record { whole = number_fits t is; few = omega arith }

-- a member alone is itself, and more are one node
module _ (node : List Ast → Ast) (all : (list : List Ast) → is_whole_ast (node list) ≡ (has_two list && list_all is_whole_ast list)) (sum : (list : List Ast) → entries_in_ast (node list) ≡ sum_by entries_in_ast list) where
  chain_whole : (a : Ast) (more : List Ast) → is_whole_ast (chain node a more) ≡ list_all is_whole_ast (a ∷ more)
  chain_whole a [] = with_true (is_whole_ast a)
  chain_whole a (b ∷ bs) = all (a ∷ b ∷ bs)

  chain_count : (a : Ast) (more : List Ast) → entries_in_ast (chain node a more) ≡ sum_by entries_in_ast (a ∷ more)
  chain_count a [] = omega arith
  chain_count a (b ∷ bs) = sum (a ∷ b ∷ bs)

  chained : {ts u w : List Seen} {v : Ast} (a : Ast) (more : List Ast) → ts ≡ u ++ w → v ≡ chain node a more → GoodAst u a → GoodAsts w more → GoodAst ts v
  chained a more cut is g h = ast_node (chain node a more) is (chain_whole a more) (chain_count a more) (exactly cut (member is_whole_ast entries_in_ast a more g h))

sum_whole : (at : ℕ) (a : Ast) (more : List (Bool × Ast)) → is_whole_ast (sum_of at a more) ≡ (is_whole_ast a && list_all (in_term is_whole_ast) more)
sum_whole at a [] = with_true (is_whole_ast a)
sum_whole at a (b ∷ bs) = wholes.whole-Sum ((false, a) ∷ b ∷ bs) at

sum_count : (at : ℕ) (a : Ast) (more : List (Bool × Ast)) → entries_in_ast (sum_of at a more) ≡ entries_in_ast a + sum_by (in_term entries_in_ast) more
sum_count at a [] = omega arith
sum_count at a (b ∷ bs) = counts.entries-Sum ((false, a) ∷ b ∷ bs) at ∙ sum_by-cons (in_term entries_in_ast) (false, a) (b ∷ bs)

negated_whole : (at : ℕ) (negated : Bool) (plain : Ast) → is_whole_ast (negated_at at negated plain) ≡ is_whole_ast plain
negated_whole at false plain = refl
negated_whole at true plain = wholes.whole-Not plain at

negated_count : (at : ℕ) (negated : Bool) (plain : Ast) → entries_in_ast (negated_at at negated plain) ≡ entries_in_ast plain
negated_count at false plain = refl
negated_count at true plain = counts.entries-Not plain at

joins_whole : (at : ℕ) (left : FromItem) (joins : List Joined) → is_whole_item (join_chain at left joins) ≡ (is_whole_item left && list_all whole_joined joins)
joins_whole at left [] = with_true (is_whole_item left)
joins_whole at left (j ∷ joins) =
    joins_whole at (item.Join j.0 left j.1 j.2 at) joins
    ∙ ap (λ b. b && list_all whole_joined joins) (wholes.whole-Join j.0 left j.1 j.2 at)
    ∙ in_turn (is_whole_item left) (whole_joined j) (list_all whole_joined joins)
  where
    in_turn : (a b c : Bool) → ((a && b) && c) ≡ (a && (b && c))
    in_turn true b c = refl
    in_turn false b c = refl

joins_count : (at : ℕ) (left : FromItem) (joins : List Joined) → entries_in_item (join_chain at left joins) ≡ entries_in_item left + sum_by entries_in_joined joins
joins_count at left [] = omega arith
joins_count at left (j ∷ joins) =
    let e = joins_count at (item.Join j.0 left j.1 j.2 at) joins in
    omega (arith, e, counts.entries-Join j.0 left j.1 j.2 at, sum_by-cons entries_in_joined j joins)

-- a side's join wants a condition
side_fits : {ts : List Seen} (kind : JoinWord) (c : Ast) → MaybeSide ts kind → fits_join is_whole_ast kind (Some c) ≡ is_whole_ast c
side_fits kind c (MaybeSide.none cut is) = ap (λ w. fits_join is_whole_ast w (Some c)) is
side_fits kind c (MaybeSide.inner t cut word is) = ap (λ w. fits_join is_whole_ast w (Some c)) is
side_fits kind c (MaybeSide.left t u cut word outer is) = ap (λ w. fits_join is_whole_ast w (Some c)) is
side_fits kind c (MaybeSide.right t u cut word outer is) = ap (λ w. fits_join is_whole_ast w (Some c)) is
side_fits kind c (MaybeSide.full t u cut word outer is) = ap (λ w. fits_join is_whole_ast w (Some c)) is

-- ---- the rules

mutual
  atom_good : (ts : List Seen) (v : Ast) → IsAtom ts v → GoodAst ts v
  atom_good ts v (IsAtom.number t cut kind is) = ast_node (ast.Number (number_in t) t.at) is (wholes.whole-Number (number_in t) t.at) (counts.entries-Number (number_in t) t.at) (exactly cut (literal t kind))
  atom_good ts v (IsAtom.text t cut kind is) = ast_node (ast.Text t.content t.at) is (wholes.whole-Text t.content t.at) (counts.entries-Text t.content t.at) (nothing ts)
  atom_good ts v (IsAtom.yes_word t cut kind is) = ast_node (ast.Bool true t.at) is (wholes.whole-Bool true t.at) (counts.entries-Bool true t.at) (nothing ts)
  atom_good ts v (IsAtom.no_word t cut kind is) = ast_node (ast.Bool false t.at) is (wholes.whole-Bool false t.at) (counts.entries-Bool false t.at) (nothing ts)
  atom_good ts v (IsAtom.null t cut kind is) = ast_node (ast.Null t.at) is (wholes.whole-Null t.at) (counts.entries-Null t.at) (nothing ts)
  atom_good ts v (IsAtom.column t cut kind is) = ast_node (ast.Name t.content t.at) is (wholes.whole-Name t.content t.at) (counts.entries-Name t.content t.at) (nothing ts)
  atom_good ts v (IsAtom.qualified q dot t cut kind point name is) =
      ast_node (ast.Qualified q.content t.content q.at) is (wholes.whole-Qualified q.content t.content q.at) (counts.entries-Qualified q.content t.content q.at) (nothing ts)
  atom_good ts v (IsAtom.parens left u right cut opens inner closes) = exactly cut (behind left (front (right ∷ []) (expr_good u v inner)))
  atom_good ts v (IsAtom.exists word left u s right cut kind opens inner closes is) =
      ast_node (ast.Exists s word.at) is (wholes.whole-Exists s word.at) (counts.entries-Exists s word.at) (exactly cut (behind word (behind left (front (right ∷ []) (select_good u s inner)))))
  atom_good ts v (IsAtom.coalesce word left u list right cut kind opens inner closes is) =
      ast_node (ast.Coalesce list word.at) is (wholes.whole-Coalesce list word.at) (counts.entries-Coalesce list word.at) (exactly cut (behind word (behind left (front (right ∷ []) (exprs_good u list inner)))))
  atom_good ts v (IsAtom.cases word o a e operand arms otherwise end cut kind first some last closes is) =
      ast_node (ast.Case operand arms otherwise word.at) is (wholes.whole-Case operand arms otherwise word.at) (counts.entries-Case operand arms otherwise word.at)
      (exactly cut (behind word (both (operand_good o operand first) (both (arms_good a arms some) (front (end ∷ []) (else_good e otherwise last))))))

  operand_good : (ts : List Seen) (v : Option Ast) → MaybeOperand ts v → GoodMaybe ts v
  operand_good ts v (MaybeOperand.no_operand cut is) = subst (GoodMaybe ts) (sym is) (nothing ts)
  operand_good ts v (MaybeOperand.operand a inner is) = subst (GoodMaybe ts) (sym is) (expr_good ts a inner)

  arm_good : (ts : List Seen) (v : Ast × Ast) → IsArm ts v → GoodArm ts v
  arm_good ts v (IsArm.arm when u a word w b cut kind first then last is) = subst (GoodArm ts) (sym is) (exactly cut (behind when (both (expr_good u a first) (behind word (expr_good w b last)))))

  arms_good : (ts : List Seen) (v : List (Ast × Ast)) → AreArms ts v → Good ts (has_one v && list_all (arm_passes is_whole_ast) v) (sum_by (in_arm entries_in_ast) v)
  arms_good ts v (AreArms.arms u w a more cut first rest is) =
      subst (λ l. Good ts (has_one l && list_all (arm_passes is_whole_ast) l) (sum_by (in_arm entries_in_ast) l)) (sym is)
      (exactly cut (member (arm_passes is_whole_ast) (in_arm entries_in_ast) a more (arm_good u a first) (more_arms_good w more rest)))

  more_arms_good : (ts : List Seen) (v : List (Ast × Ast)) → MoreArms ts v → GoodArms ts v
  more_arms_good ts v (MoreArms.no_arms cut is) = subst (GoodArms ts) (sym is) (nothing ts)
  more_arms_good ts v (MoreArms.more_arms u w a more cut first rest is) =
      subst (GoodArms ts) (sym is) (exactly cut (member (arm_passes is_whole_ast) (in_arm entries_in_ast) a more (arm_good u a first) (more_arms_good w more rest)))

  else_good : (ts : List Seen) (v : Option Ast) → MaybeElse ts v → GoodMaybe ts v
  else_good ts v (MaybeElse.no_else cut is) = subst (GoodMaybe ts) (sym is) (nothing ts)
  else_good ts v (MaybeElse.otherwise t u a cut kind inner is) = subst (GoodMaybe ts) (sym is) (exactly cut (behind t (expr_good u a inner)))

  exprs_good : (ts : List Seen) (v : List Ast) → AreExprs ts v → Good ts (has_one v && list_all is_whole_ast v) (sum_by entries_in_ast v)
  exprs_good ts v (AreExprs.exprs u w a more cut first rest is) =
      subst (λ l. Good ts (has_one l && list_all is_whole_ast l) (sum_by entries_in_ast l)) (sym is) (exactly cut (member is_whole_ast entries_in_ast a more (expr_good u a first) (more_exprs_good w more rest)))

  more_exprs_good : (ts : List Seen) (v : List Ast) → MoreExprs ts v → GoodAsts ts v
  more_exprs_good ts v (MoreExprs.no_exprs cut is) = subst (GoodAsts ts) (sym is) (nothing ts)
  more_exprs_good ts v (MoreExprs.more_exprs t u w a more cut comma first rest is) =
      subst (GoodAsts ts) (sym is) (exactly cut (behind t (member is_whole_ast entries_in_ast a more (expr_good u a first) (more_exprs_good w more rest))))

  sign_good : (ts : List Seen) (v : Ast) → IsSign ts v → GoodAst ts v
  sign_good ts v (IsSign.unsigned inner) = atom_good ts v inner
  sign_good ts v (IsSign.signed t u a cut sign inner is) = ast_node _ is (wholes.whole-Sign _ a t.at) (counts.entries-Sign _ a t.at) (exactly cut (behind t (atom_good u a inner)))

  product_good : (ts : List Seen) (v : Ast) → IsProduct ts v → GoodAst ts v
  product_good ts v (IsProduct.product u w a more cut first rest is) =
      chained (product_node (place ts)) (λ l. wholes.whole-Product l (place ts)) (λ l. counts.entries-Product l (place ts)) a more cut is (sign_good u a first) (more_factors_good w more rest)

  more_factors_good : (ts : List Seen) (v : List Ast) → MoreFactors ts v → GoodAsts ts v
  more_factors_good ts v (MoreFactors.no_factors cut is) = subst (GoodAsts ts) (sym is) (nothing ts)
  more_factors_good ts v (MoreFactors.more_factors t u w a more cut star first rest is) =
      subst (GoodAsts ts) (sym is) (exactly cut (behind t (member is_whole_ast entries_in_ast a more (sign_good u a first) (more_factors_good w more rest))))

  sum_good : (ts : List Seen) (v : Ast) → IsSum ts v → GoodAst ts v
  sum_good ts v (IsSum.sum u w a more cut first rest is) =
      ast_node (sum_of (place ts) a more) is (sum_whole (place ts) a more) (sum_count (place ts) a more) (exactly cut (both (product_good u a first) (more_terms_good w more rest)))

  more_terms_good : (ts : List Seen) (v : List (Bool × Ast)) → MoreTerms ts v → GoodTerms ts v
  more_terms_good ts v (MoreTerms.no_terms cut is) = subst (GoodTerms ts) (sym is) (nothing ts)
  more_terms_good ts v (MoreTerms.more_terms t u w a more cut sign first rest is) =
      subst (GoodTerms ts) (sym is) (exactly cut (behind t (member (in_term is_whole_ast) (in_term entries_in_ast) (is_minus (class t), a) more (product_good u a first) (more_terms_good w more rest))))

  cat_good : (ts : List Seen) (v : Ast) → IsCat ts v → GoodAst ts v
  cat_good ts v (IsCat.cat u w a more cut first rest is) =
      chained (concat_node (place ts)) (λ l. wholes.whole-Concat l (place ts)) (λ l. counts.entries-Concat l (place ts)) a more cut is (sum_good u a first) (more_parts_good w more rest)

  more_parts_good : (ts : List Seen) (v : List Ast) → MoreParts ts v → GoodAsts ts v
  more_parts_good ts v (MoreParts.no_parts cut is) = subst (GoodAsts ts) (sym is) (nothing ts)
  more_parts_good ts v (MoreParts.more_parts t u w a more cut bars first rest is) =
      subst (GoodAsts ts) (sym is) (exactly cut (behind t (member is_whole_ast entries_in_ast a more (sum_good u a first) (more_parts_good w more rest))))

  range_good : (ts : List Seen) (v : Ast) → IsRange ts v → GoodAst ts v
  range_good ts v (IsRange.range u w a cut first tail) = exactly cut (range_tail_good (place ts) a u w v (cat_good u a first) tail)

  -- what stands behind the operand, whose tokens are u
  range_tail_good : (at : ℕ) (a : Ast) (u ts : List Seen) (v : Ast) → GoodAst u a → IsRangeTail at a ts v → GoodAst (u ++ ts) v
  range_tail_good at a u ts v g (IsRangeTail.no_range cut is) = subst (GoodAst (u ++ ts)) (sym is) (front ts g)
  range_tail_good at a u ts v g (IsRangeTail.between n negated word x low and y high cut not kind first link last is) =
      ast_node (negated_at at negated (ast.Between a low high at)) is (negated_whole at negated (ast.Between a low high at) ∙ wholes.whole-Between a low high at)
      (negated_count at negated (ast.Between a low high at) ∙ counts.entries-Between a low high at)
      (both g (exactly cut (after n (behind word (both (cat_good x low first) (behind and (cat_good y high last)))))))
  range_tail_good at a u ts v g (IsRangeTail.among n negated word left x plain right cut not kind opens inner closes is) =
      ast_node (negated_at at negated plain) is (negated_whole at negated plain) (negated_count at negated plain)
      (members_good at a u x plain ts (λ b m h. exactly cut (after n (behind word (behind left (front (right ∷ []) h))))) g inner)

  -- the members' tokens x stand among the tokens ts
  members_good : (at : ℕ) (a : Ast) (u x : List Seen) (v : Ast) (ts : List Seen) → ((b : Bool) (m : ℕ) → Good x b m → Good ts b m) → GoodAst u a → IsMembers at a x v → GoodAst (u ++ ts) v
  members_good at a u x v ts among g (IsMembers.members_select s inner is) =
      ast_node (ast.InSelect a s at) is (wholes.whole-InSelect a s at) (counts.entries-InSelect a s at) (both g (among (is_whole_select s) (entries_in_select s) (select_good x s inner)))
  members_good at a u x v ts among g (IsMembers.members_list list inner is) =
      ast_node (ast.InList a list at) is (wholes.whole-InList a list at) (counts.entries-InList a list at)
      (both g (among (has_one list && list_all is_whole_ast list) (sum_by entries_in_ast list) (exprs_good x list inner)))

  compare_good : (ts : List Seen) (v : Ast) → IsCompare ts v → GoodAst ts v
  compare_good ts v (IsCompare.compare u w a cut first tail) = exactly cut (compare_tail_good (place ts) a u w v (range_good u a first) tail)

  compare_tail_good : (at : ℕ) (a : Ast) (u ts : List Seen) (v : Ast) → GoodAst u a → IsCompareTail at a ts v → GoodAst (u ++ ts) v
  compare_tail_good at a u ts v g (IsCompareTail.no_compare cut is) = subst (GoodAst (u ++ ts)) (sym is) (front ts g)
  compare_tail_good at a u ts v g (IsCompareTail.compared t w b cut kind inner is) =
      ast_node _ is (wholes.whole-Compare _ a b at) (counts.entries-Compare _ a b at) (both g (exactly cut (behind t (range_good w b inner))))

  test_good : (ts : List Seen) (v : Ast) → IsTest ts v → GoodAst ts v
  test_good ts v (IsTest.test u w a cut first tail) = exactly cut (test_tail_good (place ts) a u w v (compare_good u a first) tail)

  test_tail_good : (at : ℕ) (a : Ast) (u ts : List Seen) (v : Ast) → GoodAst u a → IsTestTail at a ts v → GoodAst (u ++ ts) v
  test_tail_good at a u ts v g (IsTestTail.no_test cut is) = subst (GoodAst (u ++ ts)) (sym is) (front ts g)
  test_tail_good at a u ts v g (IsTestTail.tested word n negated t cut kind not test is) = ast_node _ is (wholes.whole-Is a negated _ at) (counts.entries-Is a negated _ at) (front ts g)

  not_good : (ts : List Seen) (v : Ast) → IsNot ts v → GoodAst ts v
  not_good ts v (IsNot.affirmed inner) = test_good ts v inner
  not_good ts v (IsNot.negated t u a cut kind inner is) = ast_node (ast.Not a t.at) is (wholes.whole-Not a t.at) (counts.entries-Not a t.at) (exactly cut (behind t (test_good u a inner)))

  and_good : (ts : List Seen) (v : Ast) → IsAnd ts v → GoodAst ts v
  and_good ts v (IsAnd.and u w a more cut first rest is) =
      chained (and_node (place ts)) (λ l. wholes.whole-And l (place ts)) (λ l. counts.entries-And l (place ts)) a more cut is (not_good u a first) (more_nots_good w more rest)

  more_nots_good : (ts : List Seen) (v : List Ast) → MoreNots ts v → GoodAsts ts v
  more_nots_good ts v (MoreNots.no_nots cut is) = subst (GoodAsts ts) (sym is) (nothing ts)
  more_nots_good ts v (MoreNots.more_nots t u w a more cut kind first rest is) =
      subst (GoodAsts ts) (sym is) (exactly cut (behind t (member is_whole_ast entries_in_ast a more (not_good u a first) (more_nots_good w more rest))))

  expr_good : (ts : List Seen) (v : Ast) → IsExpr ts v → GoodAst ts v
  expr_good ts v (IsExpr.or u w a more cut first rest is) =
      chained (or_node (place ts)) (λ l. wholes.whole-Or l (place ts)) (λ l. counts.entries-Or l (place ts)) a more cut is (and_good u a first) (more_ands_good w more rest)

  more_ands_good : (ts : List Seen) (v : List Ast) → MoreAnds ts v → GoodAsts ts v
  more_ands_good ts v (MoreAnds.no_ands cut is) = subst (GoodAsts ts) (sym is) (nothing ts)
  more_ands_good ts v (MoreAnds.more_ands t u w a more cut kind first rest is) =
      subst (GoodAsts ts) (sym is) (exactly cut (behind t (member is_whole_ast entries_in_ast a more (and_good u a first) (more_ands_good w more rest))))

  primary_good : (ts : List Seen) (v : FromItem) → IsPrimary ts v → GoodItem ts v
  primary_good ts v (IsPrimary.table t u alias cut kind aliased is) =
      item_node (item.Table t.content alias t.at) is (wholes.whole-Table t.content alias t.at) (counts.entries-Table t.content alias t.at) (exactly cut (an_entry t u))
  primary_good ts v (IsPrimary.sub left u s right w alias cut opens inner closes aliased is) =
      item_node (item.Sub s alias left.at) is (wholes.whole-Sub s alias left.at) (counts.entries-Sub s alias left.at) (exactly cut (with_entry left (front (right ∷ w) (select_good u s inner))))
  primary_good ts v (IsPrimary.grouped left u right cut opens inner closes) = exactly cut (behind left (front (right ∷ []) (item_good u v inner)))

  join_good : (ts : List Seen) (v : Joined) → IsJoin ts v → GoodJoined ts v
  join_good ts v (IsJoin.cross cross word u right cut kind link inner is) =
      subst (GoodJoined ts) (sym is) (same (sym (with_true (is_whole_item right))) (omega arith) (exactly cut (behind cross (behind word (primary_good u right inner)))))
  join_good ts v (IsJoin.sided x kind word u right on w c cut side link inner want last is) =
      subst (GoodJoined ts) (sym is) (same (ap (λ b. is_whole_item right && b) (side_fits kind c side)) refl (exactly cut (after x (behind word (both (primary_good u right inner) (behind on (expr_good w c last)))))))

  item_good : (ts : List Seen) (v : FromItem) → IsItem ts v → GoodItem ts v
  item_good ts v (IsItem.joined u w a joins cut first rest is) =
      item_node (join_chain (place ts) a joins) is (joins_whole (place ts) a joins) (joins_count (place ts) a joins) (exactly cut (both (primary_good u a first) (more_joins_good w joins rest)))

  more_joins_good : (ts : List Seen) (v : List Joined) → MoreJoins ts v → GoodJoins ts v
  more_joins_good ts v (MoreJoins.no_joins cut is) = subst (GoodJoins ts) (sym is) (nothing ts)
  more_joins_good ts v (MoreJoins.more_joins u w a more cut first rest is) =
      subst (GoodJoins ts) (sym is) (exactly cut (member whole_joined entries_in_joined a more (join_good u a first) (more_joins_good w more rest)))

  items_good : (ts : List Seen) (v : List FromItem) → AreItems ts v → Good ts (has_one v && list_all is_whole_item v) (sum_by entries_in_item v)
  items_good ts v (AreItems.items u w a more cut first rest is) =
      subst (λ l. Good ts (has_one l && list_all is_whole_item l) (sum_by entries_in_item l)) (sym is) (exactly cut (member is_whole_item entries_in_item a more (item_good u a first) (more_items_good w more rest)))

  more_items_good : (ts : List Seen) (v : List FromItem) → MoreItems ts v → GoodItems ts v
  more_items_good ts v (MoreItems.no_items cut is) = subst (GoodItems ts) (sym is) (nothing ts)
  more_items_good ts v (MoreItems.more_items t u w a more cut comma first rest is) =
      subst (GoodItems ts) (sym is) (exactly cut (behind t (member is_whole_item entries_in_item a more (item_good u a first) (more_items_good w more rest))))

  target_good : (ts : List Seen) (v : Target) → IsTarget ts v → GoodTarget ts v
  target_good ts v (IsTarget.all t cut kind is) = target_node (target.All t.at) is (wholes.whole-All t.at) (counts.entries-All t.at) (nothing ts)
  target_good ts v (IsTarget.all_of q dot t cut name point star is) = target_node (target.AllOf q.content q.at) is (wholes.whole-AllOf q.content q.at) (counts.entries-AllOf q.content q.at) (nothing ts)
  target_good ts v (IsTarget.one u w a alias cut inner aliased is) = target_node (target.One a alias) is (wholes.whole-One a alias) (counts.entries-One a alias) (exactly cut (front w (expr_good u a inner)))

  targets_good : (ts : List Seen) (v : List Target) → AreTargets ts v → Good ts (has_one v && list_all is_whole_target v) (sum_by entries_in_target v)
  targets_good ts v (AreTargets.targets u w a more cut first rest is) =
      subst (λ l. Good ts (has_one l && list_all is_whole_target l) (sum_by entries_in_target l)) (sym is) (exactly cut (member is_whole_target entries_in_target a more (target_good u a first) (more_targets_good w more rest)))

  more_targets_good : (ts : List Seen) (v : List Target) → MoreTargets ts v → GoodTargets ts v
  more_targets_good ts v (MoreTargets.no_targets cut is) = subst (GoodTargets ts) (sym is) (nothing ts)
  more_targets_good ts v (MoreTargets.more_targets t u w a more cut comma first rest is) =
      subst (GoodTargets ts) (sym is) (exactly cut (behind t (member is_whole_target entries_in_target a more (target_good u a first) (more_targets_good w more rest))))

  where_good : (ts : List Seen) (v : Option Ast) → MaybeWhere ts v → GoodMaybe ts v
  where_good ts v (MaybeWhere.no_where cut is) = subst (GoodMaybe ts) (sym is) (nothing ts)
  where_good ts v (MaybeWhere.condition t u a cut kind inner is) = subst (GoodMaybe ts) (sym is) (exactly cut (behind t (expr_good u a inner)))

  select_good : (ts : List Seen) (v : Select) → IsSelect ts v → GoodSelect ts v
  select_good ts v (IsSelect.select word d x from y z distinct targets items c cut kind unique outputs link sources last is) =
      subst (GoodSelect ts) (sym is)
      (same (wholes.whole-made (record { distinct = distinct; targets = targets; items = items; cond = c })) (counts.entries-made (record { distinct = distinct; targets = targets; items = items; cond = c }))
      (exactly cut (behind word (after d (both (targets_good x targets outputs) (behind from (both (items_good y items sources) (where_good z c last))))))))

-- ---- the statement

order_good : (ts : List Seen) (v : OrderAst) → IsOrder ts v → Good ts (is_whole_order v) (entries_in_order v)
order_good ts v (IsOrder.order u d n a desc nulls_first cut inner direction nulls is) = subst (λ o. Good ts (is_whole_order o) (entries_in_order o)) (sym is) (exactly cut (front (d ++ n) (expr_good u a inner)))

abbrev GoodOrders : List Seen → List OrderAst → Type 0
GoodOrders ts orders = Good ts (list_all is_whole_order orders) (sum_by entries_in_order orders)

more_orders_good : (ts : List Seen) (v : List OrderAst) → MoreOrders ts v → GoodOrders ts v
more_orders_good ts v (MoreOrders.none cut is) = subst (GoodOrders ts) (sym is) (nothing ts)
more_orders_good ts v (MoreOrders.more t u w a more cut comma first rest is) =
    subst (GoodOrders ts) (sym is) (exactly cut (behind t (member is_whole_order entries_in_order a more (order_good u a first) (more_orders_good w more rest))))

orders_good : (ts : List Seen) (v : List OrderAst) → MaybeOrder ts v → GoodOrders ts v
orders_good ts v (MaybeOrder.none cut is) = subst (GoodOrders ts) (sym is) (nothing ts)
orders_good ts v (MaybeOrder.some word by u w a more cut kind link first rest is) =
    subst (GoodOrders ts) (sym is) (exactly cut (behind word (behind by (member is_whole_order entries_in_order a more (order_good u a first) (more_orders_good w more rest)))))

pub statement_good : (ts : List Seen) (s : Stmt) → Derives ts s → Good ts (is_whole s) (entries_in_statement s)
statement_good ts s (Derives.statement x o e select order cut first last end is) =
    subst (λ v. Good ts (is_whole v) (entries_in_statement v)) (sym is) (exactly cut (both (select_good x select first) (front e (orders_good o order last))))
