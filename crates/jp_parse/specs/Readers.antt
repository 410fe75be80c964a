-- A reader for each rule. A rule that stands in parentheses of its own is a parameter: E reads an expression, Q a
-- select and I an item of FROM.
use Rattle.std.specs.Prelude.{ℕ, zero, suc, Bool, true, false, if◌then◌else◌, List, [], ◌∷◌, length, Option, Some, None, Result, Ok, Err}
use Rattle.jp_ast.specs.declared.tree.Stmt.{Stmt}
use Rattle.jp_ast.specs.declared.tree.OrderAst.{OrderAst}
use Rattle.jp_ast.specs.declared.tree.Ast.{Ast}
use Rattle.jp_ast.specs.declared.tree.Ast.TheVariants as ast
use Rattle.jp_ast.specs.declared.tree.FromItem.{FromItem}
use Rattle.jp_ast.specs.declared.tree.FromItem.TheVariants as from
use Rattle.jp_ast.specs.declared.tree.Target.{Target}
use Rattle.jp_ast.specs.declared.tree.Target.TheVariants as target
use Rattle.jp_ast.specs.declared.tree.Select.{Select}
use Rattle.jp_ast.specs.declared.tree.JoinWord.{JoinWord}
use Rattle.jp_ast.specs.declared.tree.JoinWord.TheVariants as join
use Rattle.jp_ast.specs.declared.class.Class.{Class}
use Rattle.jp_ast.specs.declared.class.Class.TheVariants as k
use Rattle.jp_ast.specs.Seen.{Seen}
use Rattle.jp_ast.specs.Classes.{is_name}
use Rattle.jp_ast.specs.Nodes.{chain, or_node, and_node, concat_node, product_node, sum_of, negated_at, is_sign, is_comparison, Joined, join_chain, select_of}
use Rattle.jp_ast.specs.Place.{end_of}
use Rattle.jp_cursor.specs.Reading.{Reader, Outcome, ◌>>=◌, ◌>>◌, pure, refuse, peek, here, is, expect, name, text, number, sign_token, comparison_token, test_token, eat, peek_all_of, begins_join, many, listed}

-- [[AS] name]
abbrev pub alias_by : Class → Reader (Option (List ℕ))
alias_by k.As = do
  expect k.As
  n ← name
  pure (Some n)
alias_by c = if is_name c then (do n ← name; pure (Some n)) else pure None

unfoldable pub alias : Reader (Option (List ℕ))
alias = peek >>= alias_by

-- [ASC | DESC]
abbrev pub direction_by : Class → Reader Bool
direction_by k.Asc = do
  expect k.Asc
  pure false
direction_by k.Desc = do
  expect k.Desc
  pure true
direction_by _ = pure false

unfoldable pub direction : Reader Bool
direction = peek >>= direction_by

-- [NULLS (FIRST | LAST)]
abbrev pub nulls_word : Class → Reader Bool
nulls_word k.First = do
  expect k.First
  pure true
nulls_word _ = do
  expect k.Last
  pure false

abbrev pub nulls_by : Bool → Class → Reader Bool
nulls_by desc k.Nulls = do
  expect k.Nulls
  peek >>= nulls_word
nulls_by desc _ = pure desc

unfoldable pub nulls : Bool → Reader Bool
nulls desc = peek >>= nulls_by desc

-- ---- a chain of members with one kind of token between

unfoldable pub level : (ℕ → List Ast → Ast) → Class → Reader Ast → Reader Ast
level node between member = do
  at ← here
  a ← member
  more ← many (is between) (expect between >> member)
  pure (chain (node at) a more)

-- ---- atoms without inner expressions

unfoldable pub number_atom : Reader Ast
number_atom = do
  at ← here
  n ← number
  pure (ast.Number n at)

unfoldable pub text_atom : Reader Ast
text_atom = do
  at ← here
  t ← text
  pure (ast.Text t at)

-- a word that is a literal
unfoldable pub word_atom : Class → (ℕ → Ast) → Reader Ast
word_atom c node = do
  at ← here
  expect c
  pure (node at)

abbrev pub after_name : ℕ → List ℕ → Class → Reader Ast
after_name at q k.Dot = do
  expect k.Dot
  n ← name
  pure (ast.Qualified q n at)
after_name at q _ = pure (ast.Name q at)

unfoldable pub name_atom : Reader Ast
name_atom = do
  at ← here
  q ← name
  peek >>= after_name at q

abbrev pub true_node : ℕ → Ast
true_node at = ast.Bool true at

abbrev pub false_node : ℕ → Ast
false_node at = ast.Bool false at

abbrev pub null_node : ℕ → Ast
null_node at = ast.Null at

-- ---- what may stand behind IS

unfoldable pub tested : ℕ → Ast → Reader Ast
tested at a = do
  expect k.Is
  negated ← eat k.Not
  word ← test_token
  pure (ast.Is a negated word at)

abbrev pub test_by : ℕ → Ast → Class → Reader Ast
test_by at a k.Is = tested at a
test_by at a _ = pure a

unfoldable pub test_tail : ℕ → Ast → Reader Ast
test_tail at a = peek >>= test_by at a

-- ---- the words in front of JOIN

unfoldable pub outer_side : Class → JoinWord → Reader JoinWord
outer_side c kind = do
  expect c
  eat k.Outer
  pure kind

unfoldable pub inner_side : Reader JoinWord
inner_side = do
  expect k.Inner
  pure join.Inner

abbrev pub side_by : Class → Reader JoinWord
side_by k.Inner = inner_side
side_by k.Left = outer_side k.Left join.Left
side_by k.Right = outer_side k.Right join.Right
side_by k.Full = outer_side k.Full join.Full
side_by _ = pure join.Inner

unfoldable pub side : Reader JoinWord
side = peek >>= side_by

-- ---- targets without expressions

unfoldable pub all : Reader Target
all = do
  at ← here
  expect k.Star
  pure (target.All at)

unfoldable pub all_of : Reader Target
all_of = do
  at ← here
  q ← name
  expect k.Dot
  expect k.Star
  pure (target.AllOf q at)

-- ---- expressions

module _ (E : Reader Ast) where
  unfoldable pub parens : Reader Ast
  parens = do
    expect k.Open
    a ← E
    expect k.Close
    pure a

  unfoldable pub coalesce : Reader Ast
  coalesce = do
    at ← here
    expect k.Coalesce
    expect k.Open
    list ← listed E
    expect k.Close
    pure (ast.Coalesce list at)

  abbrev pub operand_by : Class → Reader (Option Ast)
  operand_by k.When = pure None
  operand_by _ = do
    a ← E
    pure (Some a)

  unfoldable pub operand : Reader (Option Ast)
  operand = peek >>= operand_by

  unfoldable pub arm : Reader (Ast × Ast)
  arm = do
    expect k.When
    a ← E
    expect k.Then
    b ← E
    pure (a, b)

  unfoldable pub arms : Reader (List (Ast × Ast))
  arms = do
    a ← arm
    more ← many (is k.When) arm
    pure (a ∷ more)

  abbrev pub otherwise_by : Class → Reader (Option Ast)
  otherwise_by k.Else = do
    expect k.Else
    a ← E
    pure (Some a)
  otherwise_by _ = pure None

  unfoldable pub otherwise : Reader (Option Ast)
  otherwise = peek >>= otherwise_by

  unfoldable pub cases : Reader Ast
  cases = do
    at ← here
    expect k.Case
    o ← operand
    list ← arms
    e ← otherwise
    expect k.End
    pure (ast.Case o list e at)

unfoldable pub exists : Reader Select → Reader Ast
exists Q = do
  at ← here
  expect k.Exists
  expect k.Open
  s ← Q
  expect k.Close
  pure (ast.Exists s at)

module _ (E : Reader Ast) (Q : Reader Select) where
  abbrev pub atom_by : Class → Reader Ast
  atom_by k.Number = number_atom
  atom_by k.Text = text_atom
  atom_by k.True = word_atom k.True true_node
  atom_by k.False = word_atom k.False false_node
  atom_by k.Null = word_atom k.Null null_node
  atom_by k.Open = parens E
  atom_by k.Exists = exists Q
  atom_by k.Coalesce = coalesce E
  atom_by k.Case = cases E
  atom_by c = name_atom

  unfoldable pub atom : Reader Ast
  atom = peek >>= atom_by

  unfoldable pub signed : Reader Ast
  signed = do
    at ← here
    minus ← sign_token
    a ← atom
    pure (ast.Sign minus a at)

  unfoldable pub sign : Reader Ast
  sign = do
    c ← peek
    if is_sign c then signed else atom

  unfoldable pub product : Reader Ast
  product = level product_node k.Star sign

  unfoldable pub term : Reader (Bool × Ast)
  term = do
    minus ← sign_token
    a ← product
    pure (minus, a)

  unfoldable pub sum : Reader Ast
  sum = do
    at ← here
    a ← product
    more ← many is_sign term
    pure (sum_of at a more)

  unfoldable pub cat : Reader Ast
  cat = level concat_node k.Bars sum

  unfoldable pub between : ℕ → Ast → Bool → Reader Ast
  between at a negated = do
    expect k.Between
    low ← cat
    expect k.And
    high ← cat
    pure (negated_at at negated (ast.Between a low high at))

  abbrev pub members_by : ℕ → Ast → Class → Reader Ast
  members_by at a k.Select = do
    s ← Q
    pure (ast.InSelect a s at)
  members_by at a _ = do
    list ← listed E
    pure (ast.InList a list at)

  unfoldable pub members : ℕ → Ast → Reader Ast
  members at a = peek >>= members_by at a

  unfoldable pub among : ℕ → Ast → Bool → Reader Ast
  among at a negated = do
    expect k.In
    expect k.Open
    plain ← members at a
    expect k.Close
    pure (negated_at at negated plain)

  abbrev pub after_not_by : ℕ → Ast → Class → Reader Ast
  after_not_by at a k.Between = between at a true
  after_not_by at a _ = among at a true

  unfoldable pub after_not : ℕ → Ast → Reader Ast
  after_not at a = do
    expect k.Not
    peek >>= after_not_by at a

  abbrev pub range_by : ℕ → Ast → Class → Reader Ast
  range_by at a k.Not = after_not at a
  range_by at a k.Between = between at a false
  range_by at a k.In = among at a false
  range_by at a _ = pure a

  unfoldable pub range_tail : ℕ → Ast → Reader Ast
  range_tail at a = peek >>= range_by at a

  unfoldable pub range : Reader Ast
  range = do
    at ← here
    a ← cat
    range_tail at a

  unfoldable pub compared : ℕ → Ast → Reader Ast
  compared at a = do
    op ← comparison_token
    b ← range
    pure (ast.Compare op a b at)

  unfoldable pub compare_tail : ℕ → Ast → Reader Ast
  compare_tail at a = do
    c ← peek
    if is_comparison c then compared at a else pure a

  unfoldable pub compare : Reader Ast
  compare = do
    at ← here
    a ← range
    compare_tail at a

  unfoldable pub test_level : Reader Ast
  test_level = do
    at ← here
    a ← compare
    test_tail at a

  unfoldable pub negated : Reader Ast
  negated = do
    at ← here
    expect k.Not
    a ← test_level
    pure (ast.Not a at)

  abbrev pub not_by : Class → Reader Ast
  not_by k.Not = negated
  not_by _ = test_level

  unfoldable pub not_level : Reader Ast
  not_level = peek >>= not_by

  unfoldable pub and_level : Reader Ast
  and_level = level and_node k.And not_level

  unfoldable pub expr_of : Reader Ast
  expr_of = level or_node k.Or and_level

-- ---- FROM

unfoldable pub table : Reader FromItem
table = do
  at ← here
  n ← name
  a ← alias
  pure (from.Table n a at)

unfoldable pub sub : Reader Select → ℕ → Reader FromItem
sub Q at = do
  s ← Q
  expect k.Close
  a ← alias
  pure (from.Sub s a at)

unfoldable pub grouped : Reader FromItem → Reader FromItem
grouped I = do
  i ← I
  expect k.Close
  pure i

module _ (Q : Reader Select) (I : Reader FromItem) where
  abbrev pub inside_by : ℕ → Class → Reader FromItem
  inside_by at k.Select = sub Q at
  inside_by at _ = grouped I

  unfoldable pub in_parens : Reader FromItem
  in_parens = do
    at ← here
    expect k.Open
    peek >>= inside_by at

  abbrev pub primary_by : Class → Reader FromItem
  primary_by k.Open = in_parens
  primary_by _ = table

  unfoldable pub primary : Reader FromItem
  primary = peek >>= primary_by

  unfoldable pub crossed : Reader Joined
  crossed = do
    expect k.Cross
    expect k.Join
    right ← primary
    pure (join.Cross, right, None)

module _ (E : Reader Ast) (Q : Reader Select) (I : Reader FromItem) where
  unfoldable pub sided : Reader Joined
  sided = do
    kind ← side
    expect k.Join
    right ← primary Q I
    expect k.On
    cond ← E
    pure (kind, right, Some cond)

  abbrev pub join_by : Class → Reader Joined
  join_by k.Cross = crossed Q I
  join_by _ = sided

  unfoldable pub join_of : Reader Joined
  join_of = peek >>= join_by

  unfoldable pub item_of : Reader FromItem
  item_of = do
    at ← here
    a ← primary Q I
    joins ← many begins_join join_of
    pure (join_chain at a joins)

-- ---- the select

module _ (E : Reader Ast) where
  unfoldable pub one : Reader Target
  one = do
    a ← E
    n ← alias
    pure (target.One a n)

  abbrev pub target_by : Class → Reader Target
  target_by k.Star = all
  target_by _ = one

  unfoldable pub target_of : Reader Target
  target_of = do
    qualified ← peek_all_of
    if qualified then all_of else (peek >>= target_by)

  abbrev pub where_by : Class → Reader (Option Ast)
  where_by k.Where = do
    expect k.Where
    a ← E
    pure (Some a)
  where_by _ = pure None

  unfoldable pub condition : Reader (Option Ast)
  condition = peek >>= where_by

unfoldable pub select_from : Reader Ast → Reader FromItem → Reader Select
select_from E I = do
  expect k.Select
  distinct ← eat k.Distinct
  targets ← listed (target_of E)
  expect k.From
  items ← listed I
  cond ← condition E
  pure (select_of distinct targets items cond)

-- ---- the inner rules, each behind a token of the outer one; the number is above that of the tokens

unfoldable mutual
  pub expr : ℕ → Reader Ast
  expr zero = refuse
  expr (suc n) = expr_of (expr n) (select n)

  pub item : ℕ → Reader FromItem
  item zero = refuse
  item (suc n) = item_of (expr n) (select n) (item n)

  pub select : ℕ → Reader Select
  select zero = refuse
  select (suc n) = select_from (expr n) (item n)

-- ---- the statement

module _ (E : Reader Ast) where
  unfoldable pub order : Reader OrderAst
  order = do
    a ← E
    desc ← direction
    nulls_first ← nulls desc
    pure (record { expr = a; desc = desc; nulls_first = nulls_first })

  abbrev pub orders_by : Class → Reader (List OrderAst)
  orders_by k.Order = do
    expect k.Order
    expect k.By
    listed order
  orders_by _ = pure []

  unfoldable pub orders : Reader (List OrderAst)
  orders = peek >>= orders_by

unfoldable pub statement_of : Reader Ast → Reader Select → Reader Stmt
statement_of E Q = do
  s ← Q
  list ← orders E
  eat k.Semicolon
  pure (record { select = s; order = list })

unfoldable pub statement : ℕ → Reader Stmt
statement n = statement_of (expr n) (select n)

-- the statement, or the place where the tokens stop being the beginning of one
abbrev pub verdict : List Seen → Outcome Stmt → Result Stmt ℕ
verdict ts (Ok (s, [])) = Ok s
verdict ts (Ok (s, t ∷ rest)) = Err t.at
verdict ts (Err []) = Err (end_of ts)
verdict ts (Err (t ∷ rest)) = Err t.at

unfoldable pub parsed : List Seen → Result Stmt ℕ
parsed ts = verdict ts (statement (suc (length ts)) ts)
