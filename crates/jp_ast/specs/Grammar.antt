-- The grammar of statements: one family for each rule, over whole lists of tokens, with one constructor for each
-- alternative. The second index is the value: the node that the tokens stand for.
use Rattle.std.specs.Prelude.{◌≡◌, ℕ, Bool, true, false, List, [], ◌∷◌, ◌++◌, Option, Some, None}
use Rattle.jp_ast.specs.declared.tree.Stmt.{Stmt}
use Rattle.jp_ast.specs.declared.tree.OrderAst.{OrderAst}
use Rattle.jp_ast.specs.declared.tree.Ast.{Ast}
use Rattle.jp_ast.specs.declared.tree.Ast.TheVariants as ast
use Rattle.jp_ast.specs.declared.tree.FromItem.{FromItem}
use Rattle.jp_ast.specs.declared.tree.FromItem.TheVariants as item
use Rattle.jp_ast.specs.declared.tree.Target.{Target}
use Rattle.jp_ast.specs.declared.tree.Target.TheVariants as target
use Rattle.jp_ast.specs.declared.tree.Select.{Select}
use Rattle.jp_ast.specs.declared.tree.JoinWord.{JoinWord}
use Rattle.jp_ast.specs.declared.tree.JoinWord.TheVariants as join
use Rattle.jp_ast.specs.declared.class.Class.TheVariants as k
use Rattle.jp_ast.specs.Seen.{Seen, number_in, place}
use Rattle.jp_ast.specs.Classes.{class, is_name}
use Rattle.jp_ast.specs.Nodes.{chain, or_node, and_node, concat_node, product_node, sum_of, negated_at, is_sign, is_minus, is_comparison, comparison, is_test, test_word, Joined, join_chain, select_of}

-- ---- parts without expressions

-- [NOT]
pub data MaybeNot : List Seen → Bool → Type 0 where
  none : {ts : List Seen} {v : Bool} → ts ≡ [] → v ≡ false → MaybeNot ts v
  word : {ts : List Seen} {v : Bool} (t : Seen) → ts ≡ t ∷ [] → class t ≡ k.Not → v ≡ true → MaybeNot ts v

-- [DISTINCT]
pub data MaybeDistinct : List Seen → Bool → Type 0 where
  none : {ts : List Seen} {v : Bool} → ts ≡ [] → v ≡ false → MaybeDistinct ts v
  word : {ts : List Seen} {v : Bool} (t : Seen) → ts ≡ t ∷ [] → class t ≡ k.Distinct → v ≡ true → MaybeDistinct ts v

-- [[AS] name]
pub data MaybeAlias : List Seen → Option (List ℕ) → Type 0 where
  none : {ts : List Seen} {v : Option (List ℕ)} → ts ≡ [] → v ≡ None → MaybeAlias ts v
  bare : {ts : List Seen} {v : Option (List ℕ)} (t : Seen) → ts ≡ t ∷ [] → is_name (class t) ≡ true → v ≡ Some t.content → MaybeAlias ts v
  named : {ts : List Seen} {v : Option (List ℕ)} (word t : Seen) → ts ≡ word ∷ t ∷ [] → class word ≡ k.As → is_name (class t) ≡ true → v ≡ Some t.content → MaybeAlias ts v

-- [OUTER]
pub data MaybeOuter : List Seen → Type 0 where
  none : {ts : List Seen} → ts ≡ [] → MaybeOuter ts
  word : {ts : List Seen} (t : Seen) → ts ≡ t ∷ [] → class t ≡ k.Outer → MaybeOuter ts

-- [INNER | LEFT [OUTER] | RIGHT [OUTER] | FULL [OUTER]]
pub data MaybeSide : List Seen → JoinWord → Type 0 where
  none : {ts : List Seen} {v : JoinWord} → ts ≡ [] → v ≡ join.Inner → MaybeSide ts v
  inner : {ts : List Seen} {v : JoinWord} (t : Seen) → ts ≡ t ∷ [] → class t ≡ k.Inner → v ≡ join.Inner → MaybeSide ts v
  left : {ts : List Seen} {v : JoinWord} (t : Seen) (u : List Seen) → ts ≡ t ∷ u → class t ≡ k.Left → MaybeOuter u → v ≡ join.Left → MaybeSide ts v
  right : {ts : List Seen} {v : JoinWord} (t : Seen) (u : List Seen) → ts ≡ t ∷ u → class t ≡ k.Right → MaybeOuter u → v ≡ join.Right → MaybeSide ts v
  full : {ts : List Seen} {v : JoinWord} (t : Seen) (u : List Seen) → ts ≡ t ∷ u → class t ≡ k.Full → MaybeOuter u → v ≡ join.Full → MaybeSide ts v

-- [ASC | DESC]: whether it is DESC
pub data MaybeDirection : List Seen → Bool → Type 0 where
  none : {ts : List Seen} {v : Bool} → ts ≡ [] → v ≡ false → MaybeDirection ts v
  ascending : {ts : List Seen} {v : Bool} (t : Seen) → ts ≡ t ∷ [] → class t ≡ k.Asc → v ≡ false → MaybeDirection ts v
  descending : {ts : List Seen} {v : Bool} (t : Seen) → ts ≡ t ∷ [] → class t ≡ k.Desc → v ≡ true → MaybeDirection ts v

-- [NULLS (FIRST | LAST)]: whether NULL comes first, which without the words it does exactly for DESC
pub data MaybeNulls : List Seen → Bool → Bool → Type 0 where
  none : {ts : List Seen} {desc v : Bool} → ts ≡ [] → v ≡ desc → MaybeNulls ts desc v
  first : {ts : List Seen} {desc v : Bool} (word t : Seen) → ts ≡ word ∷ t ∷ [] → class word ≡ k.Nulls → class t ≡ k.First → v ≡ true → MaybeNulls ts desc v
  last : {ts : List Seen} {desc v : Bool} (word t : Seen) → ts ≡ word ∷ t ∷ [] → class word ≡ k.Nulls → class t ≡ k.Last → v ≡ false → MaybeNulls ts desc v

-- [;]
pub data MaybeEnd : List Seen → Type 0 where
  none : {ts : List Seen} → ts ≡ [] → MaybeEnd ts
  symbol : {ts : List Seen} (t : Seen) → ts ≡ t ∷ [] → class t ≡ k.Semicolon → MaybeEnd ts

-- ---- expressions, and what stands in them

mutual
  pub data IsAtom : List Seen → Ast → Type 0 where
    number : {ts : List Seen} {v : Ast} (t : Seen) → ts ≡ t ∷ [] → class t ≡ k.Number → v ≡ ast.Number (number_in t) t.at → IsAtom ts v
    text : {ts : List Seen} {v : Ast} (t : Seen) → ts ≡ t ∷ [] → class t ≡ k.Text → v ≡ ast.Text t.content t.at → IsAtom ts v
    yes_word : {ts : List Seen} {v : Ast} (t : Seen) → ts ≡ t ∷ [] → class t ≡ k.True → v ≡ ast.Bool true t.at → IsAtom ts v
    no_word : {ts : List Seen} {v : Ast} (t : Seen) → ts ≡ t ∷ [] → class t ≡ k.False → v ≡ ast.Bool false t.at → IsAtom ts v
    null : {ts : List Seen} {v : Ast} (t : Seen) → ts ≡ t ∷ [] → class t ≡ k.Null → v ≡ ast.Null t.at → IsAtom ts v
    column : {ts : List Seen} {v : Ast} (t : Seen) → ts ≡ t ∷ [] → is_name (class t) ≡ true → v ≡ ast.Name t.content t.at → IsAtom ts v
    qualified : {ts : List Seen} {v : Ast} (q dot t : Seen) → ts ≡ q ∷ dot ∷ t ∷ [] → is_name (class q) ≡ true → class dot ≡ k.Dot → is_name (class t) ≡ true → v ≡ ast.Qualified q.content t.content q.at → IsAtom ts v
    parens : {ts : List Seen} {v : Ast} (left : Seen) (u : List Seen) (right : Seen) → ts ≡ left ∷ (u ++ (right ∷ [])) → class left ≡ k.Open → IsExpr u v → class right ≡ k.Close → IsAtom ts v
    exists : {ts : List Seen} {v : Ast} (word left : Seen) (u : List Seen) (s : Select) (right : Seen) → ts ≡ word ∷ left ∷ (u ++ (right ∷ [])) → class word ≡ k.Exists → class left ≡ k.Open → IsSelect u s → class right ≡ k.Close
        → v ≡ ast.Exists s word.at → IsAtom ts v
    coalesce : {ts : List Seen} {v : Ast} (word left : Seen) (u : List Seen) (list : List Ast) (right : Seen) → ts ≡ word ∷ left ∷ (u ++ (right ∷ [])) → class word ≡ k.Coalesce → class left ≡ k.Open → AreExprs u list → class right ≡ k.Close
        → v ≡ ast.Coalesce list word.at → IsAtom ts v
    cases : {ts : List Seen} {v : Ast} (word : Seen) (o a e : List Seen) (operand : Option Ast) (arms : List (Ast × Ast)) (otherwise : Option Ast) (end : Seen)
        → ts ≡ word ∷ (o ++ (a ++ (e ++ (end ∷ [])))) → class word ≡ k.Case → MaybeOperand o operand → AreArms a arms → MaybeElse e otherwise → class end ≡ k.End
        → v ≡ ast.Case operand arms otherwise word.at → IsAtom ts v

  -- CASE [expr]
  pub data MaybeOperand : List Seen → Option Ast → Type 0 where
    no_operand : {ts : List Seen} {v : Option Ast} → ts ≡ [] → v ≡ None → MaybeOperand ts v
    operand : {ts : List Seen} {v : Option Ast} (a : Ast) → IsExpr ts a → v ≡ Some a → MaybeOperand ts v

  -- WHEN expr THEN expr
  pub data IsArm : List Seen → Ast × Ast → Type 0 where
    arm : {ts : List Seen} {v : Ast × Ast} (when : Seen) (u : List Seen) (a : Ast) (word : Seen) (w : List Seen) (b : Ast) → ts ≡ when ∷ (u ++ (word ∷ w)) → class when ≡ k.When → IsExpr u a → class word ≡ k.Then → IsExpr w b → v ≡ (a, b) → IsArm ts v

  pub data AreArms : List Seen → List (Ast × Ast) → Type 0 where
    arms : {ts : List Seen} {v : List (Ast × Ast)} (u w : List Seen) (a : Ast × Ast) (more : List (Ast × Ast)) → ts ≡ u ++ w → IsArm u a → MoreArms w more → v ≡ a ∷ more → AreArms ts v

  -- {arm}
  pub data MoreArms : List Seen → List (Ast × Ast) → Type 0 where
    no_arms : {ts : List Seen} {v : List (Ast × Ast)} → ts ≡ [] → v ≡ [] → MoreArms ts v
    more_arms : {ts : List Seen} {v : List (Ast × Ast)} (u w : List Seen) (a : Ast × Ast) (more : List (Ast × Ast)) → ts ≡ u ++ w → IsArm u a → MoreArms w more → v ≡ a ∷ more → MoreArms ts v

  -- [ELSE expr]
  pub data MaybeElse : List Seen → Option Ast → Type 0 where
    no_else : {ts : List Seen} {v : Option Ast} → ts ≡ [] → v ≡ None → MaybeElse ts v
    otherwise : {ts : List Seen} {v : Option Ast} (t : Seen) (u : List Seen) (a : Ast) → ts ≡ t ∷ u → class t ≡ k.Else → IsExpr u a → v ≡ Some a → MaybeElse ts v

  -- expr {"," expr}
  pub data AreExprs : List Seen → List Ast → Type 0 where
    exprs : {ts : List Seen} {v : List Ast} (u w : List Seen) (a : Ast) (more : List Ast) → ts ≡ u ++ w → IsExpr u a → MoreExprs w more → v ≡ a ∷ more → AreExprs ts v

  pub data MoreExprs : List Seen → List Ast → Type 0 where
    no_exprs : {ts : List Seen} {v : List Ast} → ts ≡ [] → v ≡ [] → MoreExprs ts v
    more_exprs : {ts : List Seen} {v : List Ast} (t : Seen) (u w : List Seen) (a : Ast) (more : List Ast) → ts ≡ t ∷ (u ++ w) → class t ≡ k.Comma → IsExpr u a → MoreExprs w more → v ≡ a ∷ more → MoreExprs ts v

  -- ["+" | "-"] atom
  pub data IsSign : List Seen → Ast → Type 0 where
    unsigned : {ts : List Seen} {v : Ast} → IsAtom ts v → IsSign ts v
    signed : {ts : List Seen} {v : Ast} (t : Seen) (u : List Seen) (a : Ast) → ts ≡ t ∷ u → is_sign (class t) ≡ true → IsAtom u a → v ≡ ast.Sign (is_minus (class t)) a t.at → IsSign ts v

  -- sign {"*" sign}
  pub data IsProduct : List Seen → Ast → Type 0 where
    product : {ts : List Seen} {v : Ast} (u w : List Seen) (a : Ast) (more : List Ast) → ts ≡ u ++ w → IsSign u a → MoreFactors w more → v ≡ chain (product_node (place ts)) a more → IsProduct ts v

  pub data MoreFactors : List Seen → List Ast → Type 0 where
    no_factors : {ts : List Seen} {v : List Ast} → ts ≡ [] → v ≡ [] → MoreFactors ts v
    more_factors : {ts : List Seen} {v : List Ast} (t : Seen) (u w : List Seen) (a : Ast) (more : List Ast) → ts ≡ t ∷ (u ++ w) → class t ≡ k.Star → IsSign u a → MoreFactors w more → v ≡ a ∷ more → MoreFactors ts v

  -- product {("+" | "-") product}
  pub data IsSum : List Seen → Ast → Type 0 where
    sum : {ts : List Seen} {v : Ast} (u w : List Seen) (a : Ast) (more : List (Bool × Ast)) → ts ≡ u ++ w → IsProduct u a → MoreTerms w more → v ≡ sum_of (place ts) a more → IsSum ts v

  pub data MoreTerms : List Seen → List (Bool × Ast) → Type 0 where
    no_terms : {ts : List Seen} {v : List (Bool × Ast)} → ts ≡ [] → v ≡ [] → MoreTerms ts v
    more_terms : {ts : List Seen} {v : List (Bool × Ast)} (t : Seen) (u w : List Seen) (a : Ast) (more : List (Bool × Ast)) → ts ≡ t ∷ (u ++ w) → is_sign (class t) ≡ true → IsProduct u a → MoreTerms w more → v ≡ (is_minus (class t), a) ∷ more → MoreTerms ts v

  -- sum {"||" sum}
  pub data IsCat : List Seen → Ast → Type 0 where
    cat : {ts : List Seen} {v : Ast} (u w : List Seen) (a : Ast) (more : List Ast) → ts ≡ u ++ w → IsSum u a → MoreParts w more → v ≡ chain (concat_node (place ts)) a more → IsCat ts v

  pub data MoreParts : List Seen → List Ast → Type 0 where
    no_parts : {ts : List Seen} {v : List Ast} → ts ≡ [] → v ≡ [] → MoreParts ts v
    more_parts : {ts : List Seen} {v : List Ast} (t : Seen) (u w : List Seen) (a : Ast) (more : List Ast) → ts ≡ t ∷ (u ++ w) → class t ≡ k.Bars → IsSum u a → MoreParts w more → v ≡ a ∷ more → MoreParts ts v

  -- cat [[NOT] BETWEEN cat AND cat | [NOT] IN "(" (select | expr {"," expr}) ")"]
  pub data IsRange : List Seen → Ast → Type 0 where
    range : {ts : List Seen} {v : Ast} (u w : List Seen) (a : Ast) → ts ≡ u ++ w → IsCat u a → IsRangeTail (place ts) a w v → IsRange ts v

  -- what stands in the brackets, behind the operand a at a place
  pub data IsRangeTail : ℕ → Ast → List Seen → Ast → Type 0 where
    no_range : {at : ℕ} {a : Ast} {ts : List Seen} {v : Ast} → ts ≡ [] → v ≡ a → IsRangeTail at a ts v
    between : {at : ℕ} {a : Ast} {ts : List Seen} {v : Ast} (n : List Seen) (negated : Bool) (word : Seen) (x : List Seen) (low : Ast) (and : Seen) (y : List Seen) (high : Ast) → ts ≡ n ++ (word ∷ (x ++ (and ∷ y))) → MaybeNot n negated
        → class word ≡ k.Between → IsCat x low → class and ≡ k.And → IsCat y high → v ≡ negated_at at negated (ast.Between a low high at) → IsRangeTail at a ts v
    among : {at : ℕ} {a : Ast} {ts : List Seen} {v : Ast} (n : List Seen) (negated : Bool) (word left : Seen) (x : List Seen) (plain : Ast) (right : Seen) → ts ≡ n ++ (word ∷ left ∷ (x ++ (right ∷ []))) → MaybeNot n negated
        → class word ≡ k.In → class left ≡ k.Open → IsMembers at a x plain → class right ≡ k.Close → v ≡ negated_at at negated plain → IsRangeTail at a ts v

  -- select | expr {"," expr}, behind the operand a and IN
  pub data IsMembers : ℕ → Ast → List Seen → Ast → Type 0 where
    members_select : {at : ℕ} {a : Ast} {ts : List Seen} {v : Ast} (s : Select) → IsSelect ts s → v ≡ ast.InSelect a s at → IsMembers at a ts v
    members_list : {at : ℕ} {a : Ast} {ts : List Seen} {v : Ast} (list : List Ast) → AreExprs ts list → v ≡ ast.InList a list at → IsMembers at a ts v

  -- range [("=" | "<>" | "!=" | "<" | "<=" | ">" | ">=") range]
  pub data IsCompare : List Seen → Ast → Type 0 where
    compare : {ts : List Seen} {v : Ast} (u w : List Seen) (a : Ast) → ts ≡ u ++ w → IsRange u a → IsCompareTail (place ts) a w v → IsCompare ts v

  pub data IsCompareTail : ℕ → Ast → List Seen → Ast → Type 0 where
    no_compare : {at : ℕ} {a : Ast} {ts : List Seen} {v : Ast} → ts ≡ [] → v ≡ a → IsCompareTail at a ts v
    compared : {at : ℕ} {a : Ast} {ts : List Seen} {v : Ast} (t : Seen) (u : List Seen) (b : Ast) → ts ≡ t ∷ u → is_comparison (class t) ≡ true → IsRange u b → v ≡ ast.Compare (comparison (class t)) a b at → IsCompareTail at a ts v

  -- cmp [IS [NOT] (NULL | TRUE | FALSE | UNKNOWN)]
  pub data IsTest : List Seen → Ast → Type 0 where
    test : {ts : List Seen} {v : Ast} (u w : List Seen) (a : Ast) → ts ≡ u ++ w → IsCompare u a → IsTestTail (place ts) a w v → IsTest ts v

  pub data IsTestTail : ℕ → Ast → List Seen → Ast → Type 0 where
    no_test : {at : ℕ} {a : Ast} {ts : List Seen} {v : Ast} → ts ≡ [] → v ≡ a → IsTestTail at a ts v
    tested : {at : ℕ} {a : Ast} {ts : List Seen} {v : Ast} (is : Seen) (n : List Seen) (negated : Bool) (t : Seen) → ts ≡ is ∷ (n ++ (t ∷ [])) → class is ≡ k.Is → MaybeNot n negated → is_test (class t) ≡ true
        → v ≡ ast.Is a negated (test_word (class t)) at → IsTestTail at a ts v

  -- [NOT] is
  pub data IsNot : List Seen → Ast → Type 0 where
    affirmed : {ts : List Seen} {v : Ast} → IsTest ts v → IsNot ts v
    negated : {ts : List Seen} {v : Ast} (t : Seen) (u : List Seen) (a : Ast) → ts ≡ t ∷ u → class t ≡ k.Not → IsTest u a → v ≡ ast.Not a t.at → IsNot ts v

  -- not {AND not}
  pub data IsAnd : List Seen → Ast → Type 0 where
    and : {ts : List Seen} {v : Ast} (u w : List Seen) (a : Ast) (more : List Ast) → ts ≡ u ++ w → IsNot u a → MoreNots w more → v ≡ chain (and_node (place ts)) a more → IsAnd ts v

  pub data MoreNots : List Seen → List Ast → Type 0 where
    no_nots : {ts : List Seen} {v : List Ast} → ts ≡ [] → v ≡ [] → MoreNots ts v
    more_nots : {ts : List Seen} {v : List Ast} (t : Seen) (u w : List Seen) (a : Ast) (more : List Ast) → ts ≡ t ∷ (u ++ w) → class t ≡ k.And → IsNot u a → MoreNots w more → v ≡ a ∷ more → MoreNots ts v

  -- and {OR and}
  pub data IsExpr : List Seen → Ast → Type 0 where
    or : {ts : List Seen} {v : Ast} (u w : List Seen) (a : Ast) (more : List Ast) → ts ≡ u ++ w → IsAnd u a → MoreAnds w more → v ≡ chain (or_node (place ts)) a more → IsExpr ts v

  pub data MoreAnds : List Seen → List Ast → Type 0 where
    no_ands : {ts : List Seen} {v : List Ast} → ts ≡ [] → v ≡ [] → MoreAnds ts v
    more_ands : {ts : List Seen} {v : List Ast} (t : Seen) (u w : List Seen) (a : Ast) (more : List Ast) → ts ≡ t ∷ (u ++ w) → class t ≡ k.Or → IsAnd u a → MoreAnds w more → v ≡ a ∷ more → MoreAnds ts v

  -- name [[AS] name] | "(" select ")" [[AS] name] | "(" item ")"
  pub data IsPrimary : List Seen → FromItem → Type 0 where
    table : {ts : List Seen} {v : FromItem} (t : Seen) (u : List Seen) (alias : Option (List ℕ)) → ts ≡ t ∷ u → is_name (class t) ≡ true → MaybeAlias u alias → v ≡ item.Table t.content alias t.at → IsPrimary ts v
    sub : {ts : List Seen} {v : FromItem} (left : Seen) (u : List Seen) (s : Select) (right : Seen) (w : List Seen) (alias : Option (List ℕ)) → ts ≡ left ∷ (u ++ (right ∷ w)) → class left ≡ k.Open → IsSelect u s → class right ≡ k.Close → MaybeAlias w alias
        → v ≡ item.Sub s alias left.at → IsPrimary ts v
    grouped : {ts : List Seen} {v : FromItem} (left : Seen) (u : List Seen) (right : Seen) → ts ≡ left ∷ (u ++ (right ∷ [])) → class left ≡ k.Open → IsItem u v → class right ≡ k.Close → IsPrimary ts v

  -- CROSS JOIN primary | [INNER | LEFT [OUTER] | RIGHT [OUTER] | FULL [OUTER]] JOIN primary ON expr
  pub data IsJoin : List Seen → Joined → Type 0 where
    cross : {ts : List Seen} {v : Joined} (cross word : Seen) (u : List Seen) (right : FromItem) → ts ≡ cross ∷ word ∷ u → class cross ≡ k.Cross → class word ≡ k.Join → IsPrimary u right → v ≡ (join.Cross, right, None) → IsJoin ts v
    sided : {ts : List Seen} {v : Joined} (x : List Seen) (kind : JoinWord) (word : Seen) (u : List Seen) (right : FromItem) (on : Seen) (w : List Seen) (cond : Ast) → ts ≡ x ++ (word ∷ (u ++ (on ∷ w))) → MaybeSide x kind → class word ≡ k.Join → IsPrimary u right
        → class on ≡ k.On → IsExpr w cond → v ≡ (kind, right, Some cond) → IsJoin ts v

  -- primary {join}
  pub data IsItem : List Seen → FromItem → Type 0 where
    joined : {ts : List Seen} {v : FromItem} (u w : List Seen) (a : FromItem) (joins : List Joined) → ts ≡ u ++ w → IsPrimary u a → MoreJoins w joins → v ≡ join_chain (place ts) a joins → IsItem ts v

  pub data MoreJoins : List Seen → List Joined → Type 0 where
    no_joins : {ts : List Seen} {v : List Joined} → ts ≡ [] → v ≡ [] → MoreJoins ts v
    more_joins : {ts : List Seen} {v : List Joined} (u w : List Seen) (a : Joined) (more : List Joined) → ts ≡ u ++ w → IsJoin u a → MoreJoins w more → v ≡ a ∷ more → MoreJoins ts v

  -- item {"," item}
  pub data AreItems : List Seen → List FromItem → Type 0 where
    items : {ts : List Seen} {v : List FromItem} (u w : List Seen) (a : FromItem) (more : List FromItem) → ts ≡ u ++ w → IsItem u a → MoreItems w more → v ≡ a ∷ more → AreItems ts v

  pub data MoreItems : List Seen → List FromItem → Type 0 where
    no_items : {ts : List Seen} {v : List FromItem} → ts ≡ [] → v ≡ [] → MoreItems ts v
    more_items : {ts : List Seen} {v : List FromItem} (t : Seen) (u w : List Seen) (a : FromItem) (more : List FromItem) → ts ≡ t ∷ (u ++ w) → class t ≡ k.Comma → IsItem u a → MoreItems w more → v ≡ a ∷ more → MoreItems ts v

  -- "*" | name "." "*" | expr [[AS] name]
  pub data IsTarget : List Seen → Target → Type 0 where
    all : {ts : List Seen} {v : Target} (t : Seen) → ts ≡ t ∷ [] → class t ≡ k.Star → v ≡ target.All t.at → IsTarget ts v
    all_of : {ts : List Seen} {v : Target} (q dot t : Seen) → ts ≡ q ∷ dot ∷ t ∷ [] → is_name (class q) ≡ true → class dot ≡ k.Dot → class t ≡ k.Star → v ≡ target.AllOf q.content q.at → IsTarget ts v
    one : {ts : List Seen} {v : Target} (u w : List Seen) (a : Ast) (alias : Option (List ℕ)) → ts ≡ u ++ w → IsExpr u a → MaybeAlias w alias → v ≡ target.One a alias → IsTarget ts v

  -- target {"," target}
  pub data AreTargets : List Seen → List Target → Type 0 where
    targets : {ts : List Seen} {v : List Target} (u w : List Seen) (a : Target) (more : List Target) → ts ≡ u ++ w → IsTarget u a → MoreTargets w more → v ≡ a ∷ more → AreTargets ts v

  pub data MoreTargets : List Seen → List Target → Type 0 where
    no_targets : {ts : List Seen} {v : List Target} → ts ≡ [] → v ≡ [] → MoreTargets ts v
    more_targets : {ts : List Seen} {v : List Target} (t : Seen) (u w : List Seen) (a : Target) (more : List Target) → ts ≡ t ∷ (u ++ w) → class t ≡ k.Comma → IsTarget u a → MoreTargets w more → v ≡ a ∷ more → MoreTargets ts v

  -- [WHERE expr]
  pub data MaybeWhere : List Seen → Option Ast → Type 0 where
    no_where : {ts : List Seen} {v : Option Ast} → ts ≡ [] → v ≡ None → MaybeWhere ts v
    condition : {ts : List Seen} {v : Option Ast} (t : Seen) (u : List Seen) (a : Ast) → ts ≡ t ∷ u → class t ≡ k.Where → IsExpr u a → v ≡ Some a → MaybeWhere ts v

  -- SELECT [DISTINCT] target {"," target} FROM item {"," item} [WHERE expr]
  pub data IsSelect : List Seen → Select → Type 0 where
    select : {ts : List Seen} {v : Select} (word : Seen) (d x : List Seen) (from : Seen) (y z : List Seen) (distinct : Bool) (targets : List Target) (items : List FromItem) (cond : Option Ast) → ts ≡ word ∷ (d ++ (x ++ (from ∷ (y ++ z))))
        → class word ≡ k.Select → MaybeDistinct d distinct → AreTargets x targets → class from ≡ k.From → AreItems y items → MaybeWhere z cond → v ≡ select_of distinct targets items cond → IsSelect ts v

-- ---- the statement

-- expr [ASC | DESC] [NULLS (FIRST | LAST)]
pub data IsOrder : List Seen → OrderAst → Type 0 where
  order : {ts : List Seen} {v : OrderAst} (u d n : List Seen) (a : Ast) (desc nulls_first : Bool) → ts ≡ u ++ (d ++ n) → IsExpr u a → MaybeDirection d desc → MaybeNulls n desc nulls_first → v ≡ record { expr = a; desc = desc; nulls_first = nulls_first } → IsOrder ts v

-- {"," order}
pub data MoreOrders : List Seen → List OrderAst → Type 0 where
  none : {ts : List Seen} {v : List OrderAst} → ts ≡ [] → v ≡ [] → MoreOrders ts v
  more : {ts : List Seen} {v : List OrderAst} (t : Seen) (u w : List Seen) (a : OrderAst) (more : List OrderAst) → ts ≡ t ∷ (u ++ w) → class t ≡ k.Comma → IsOrder u a → MoreOrders w more → v ≡ a ∷ more → MoreOrders ts v

-- [ORDER BY order {"," order}]
pub data MaybeOrder : List Seen → List OrderAst → Type 0 where
  none : {ts : List Seen} {v : List OrderAst} → ts ≡ [] → v ≡ [] → MaybeOrder ts v
  some : {ts : List Seen} {v : List OrderAst} (word by : Seen) (u w : List Seen) (a : OrderAst) (more : List OrderAst) → ts ≡ word ∷ by ∷ (u ++ w) → class word ≡ k.Order → class by ≡ k.By → IsOrder u a → MoreOrders w more → v ≡ a ∷ more → MaybeOrder ts v

-- select [ORDER BY order {"," order}] [";"]
pub data Derives : List Seen → Stmt → Type 0 where
  statement : {ts : List Seen} {v : Stmt} (x o e : List Seen) (select : Select) (order : List OrderAst) → ts ≡ x ++ (o ++ e) → IsSelect x select → MaybeOrder o order → MaybeEnd e → v ≡ record { select = select; order = order } → Derives ts v
