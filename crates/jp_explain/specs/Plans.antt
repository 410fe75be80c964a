-- A block's plan as text, and a whole statement's.
use Rattle.std.specs.Prelude.{ℕ, zero, suc, ◌<◌, length, ◌==◌, Bool, false, bit_or, List, [], ◌∷◌, ◌++◌, drop, Option, Some, None, slice_get, codes, decimal, if◌then◌else◌}
use Rattle.jp_query.specs.declared.Expr.{Expr}
use Rattle.jp_query.specs.declared.JoinKind.{JoinKind}
use Rattle.jp_query.specs.declared.JoinKind.TheVariants as join
use Rattle.jp_query.specs.Refs.{only}
use Rattle.jp_problem.specs.declared.types.Item.{Item}
use Rattle.jp_problem.specs.declared.types.ItemKind.{ItemKind}
use Rattle.jp_problem.specs.declared.types.ItemKind.TheVariants as kind
use Rattle.jp_problem.specs.declared.types.Method.{Method}
use Rattle.jp_problem.specs.declared.types.Method.TheVariants as method
use Rattle.jp_problem.specs.declared.types.Problem.{Problem}
use Rattle.jp_problem.specs.declared.types.Special.{Special}
use Rattle.jp_problem.specs.declared.types.Step.{Step}
use Rattle.jp_problem.specs.declared.types.Step.TheVariants as step
use Rattle.jp_problem.specs.Made.{on_of_item}
use Rattle.jp_problem.specs.Problems.{join_of}
use Rattle.jp_problem.specs.StepClauses.{scan_clauses, step_clauses}
use Rattle.jp_problem.specs.Trees.{Tree, set_of}
use Rattle.jp_problem.specs.Trees as tree
use Rattle.jp_cost.specs.Estimates.{estimate}
use Rattle.jp_cost.specs.TreeCosts.{tree_cost}
use Rattle.jp_tree.specs.declared.prepared.Block.{Block}
use Rattle.jp_tree.specs.declared.prepared.Prepared.{Prepared}
use Rattle.jp_explain.specs.Lines.{deeper, numbers, conditions, sort_line, distinct_line}
use Rattle.jp_explain.specs.Names.{Names, relation_name}
use Rattle.jp_tree.specs.PlanTrees.{tree_at}

-- ---- the parts of a line

abbrev pub method_word : Method → List ℕ
method_word method.Nest = codes "Nest "
method_word method.Hash = codes "Hash "
method_word method.HashRight = codes "HashRight "
method_word method.Merge = codes "Merge "

abbrev pub kind_word : JoinKind → List ℕ
kind_word join.Inner = codes "Inner"
kind_word join.Left = codes "Left"
kind_word join.Right = codes "Right"
kind_word join.Full = codes "Full"
kind_word join.Semi = codes "Semi"
kind_word join.Anti = codes "Anti"

-- of the special join that a step does, or Inner
abbrev pub kind_of : Option Special → JoinKind
kind_of (Some s) = s.kind
kind_of None = join.Inner

abbrev pub step_join : Problem → Step → Option Special
step_join problem step.Inner = None
step_join problem (step.By number) = join_of problem.joins number

-- what a match of an Inner step makes true are its step clauses; of a special join its ON list, and its step clauses are
-- tested behind it
abbrev pub matched_by : Option Special → List Expr → List Expr
matched_by (Some s) clauses = s.on
matched_by None clauses = clauses

abbrev pub tested_behind : Option Special → List Expr → List Expr
tested_behind (Some s) clauses = clauses
tested_behind None clauses = []

-- ---- nodes

-- the lines of a step itself, without its two sides: of these, it has the sets, and the cost of both with the step's own
unfoldable pub step_lines : Names → Problem → List ℕ → Method → Step → ℕ → ℕ → ℕ → List ℕ
step_lines names problem indent method kind left right cost =
    let done = step_join problem kind in
    let clauses = step_clauses problem left right in
    indent ++ (method_word method ++ (kind_word (kind_of done) ++ (numbers (estimate problem (bit_or left right)) cost
    ++ (conditions names (deeper indent) (codes "on: ") (matched_by done clauses) ++ conditions names (deeper indent) (codes "filter: ") (tested_behind done clauses)))))

abbrev pub item_title : Names → ItemKind → List ℕ
item_title names (kind.Base rel table) = codes "Scan " ++ relation_name names rel
item_title names (kind.Sub rel block) = codes "Sub " ++ relation_name names rel
item_title names (kind.Full left right on) = codes "Full"

-- the lines of a scan itself, without those of the blocks that its item takes its rows from
unfoldable pub scan_lines : Names → Problem → List ℕ → ℕ → Item → List ℕ
scan_lines names problem indent i item =
    indent ++ (item_title names item.kind ++ (numbers (estimate problem (only i)) item.cost
    ++ (conditions names (deeper indent) (codes "on: ") (on_of_item item.kind) ++ conditions names (deeper indent) (codes "filter: ") (scan_clauses problem i))))

-- ---- a plan

-- the lines of a block above those of its plan
abbrev pub head_lines : Names → List ℕ → Option Block → List ℕ
head_lines names indent (Some block) = sort_line names indent block.order ++ distinct_line indent block.distinct
head_lines names indent None = []

-- the plans of other blocks, by number and indentation
abbrev pub Inner : Type 0
Inner = ℕ → List ℕ → List ℕ

abbrev pub problem_of : Option Block → Problem
problem_of (Some block) = block.problem
problem_of None = record { items = []; joins = []; clauses = []; classes = [] }

abbrev pub problem_at : Prepared → ℕ → Problem
problem_at prepared number = problem_of (slice_get prepared.blocks number)

abbrev pub plan_of : Option Block → ℕ
plan_of (Some block) = block.plan
plan_of None = 0

abbrev pub plan_at : Prepared → ℕ → ℕ
plan_at prepared number = plan_of (slice_get prepared.blocks number)

-- a sub-select's block is printed whole, of a side of a Full join its plan alone
abbrev pub item_texts : Prepared → Inner → List ℕ → ItemKind → List ℕ
item_texts prepared inner indent (kind.Base rel table) = []
item_texts prepared inner indent (kind.Sub rel block) = head_lines prepared.names indent (slice_get prepared.blocks block) ++ inner block indent
item_texts prepared inner indent (kind.Full left right on) = inner left indent ++ inner right indent

abbrev pub scan_text : Prepared → Inner → Problem → List ℕ → ℕ → Option Item → List ℕ
scan_text prepared inner problem indent i (Some item) = scan_lines prepared.names problem indent i item ++ item_texts prepared inner (deeper indent) item.kind
scan_text prepared inner problem indent i None = []

unfoldable pub tree_text : Prepared → Inner → Problem → List ℕ → Tree → List ℕ
tree_text prepared inner problem indent (tree.Scan i) = scan_text prepared inner problem indent i (slice_get problem.items i)
tree_text prepared inner problem indent (tree.Join method kind left right) =
    step_lines prepared.names problem indent method kind (set_of left) (set_of right) (tree_cost problem (tree.Join method kind left right))
    ++ (tree_text prepared inner problem (deeper indent) left ++ tree_text prepared inner problem (deeper indent) right)

-- ---- the plans of blocks: a block is printed with those behind it, which are all that it uses

unfoldable pub plans_from : Prepared → ℕ → List Block → Inner
plans_from prepared first [] number indent = []
plans_from prepared first (block ∷ blocks) number indent =
    if number == first then tree_text prepared (plans_from prepared (suc first) blocks) block.problem indent (tree_at prepared.pool.nodes block.plan)
    else plans_from prepared (suc first) blocks number indent

abbrev pub plan_text : Prepared → Inner
plan_text prepared = plans_from prepared 0 prepared.blocks

abbrev pub plans_behind : Prepared → ℕ → Inner
plans_behind prepared number = plans_from prepared (suc number) (drop (suc number) prepared.blocks)

-- there is such a block, behind the one of this number
pub record IsBehind (prepared : Prepared) (number inner : ℕ) : Type 0 where
  pub above : number < inner
  pub there : inner < length prepared.blocks

abbrev pub block_text : Prepared → ℕ → List ℕ → List ℕ
block_text prepared number indent = head_lines prepared.names indent (slice_get prepared.blocks number) ++ plan_text prepared number indent

-- ---- a statement

abbrev pub is_of_sublink : ℕ → Option ℕ → Bool
is_of_sublink sub (Some number) = number == sub
is_of_sublink sub None = false

abbrev pub sublink_text : Prepared → ℕ → ℕ → List ℕ
sublink_text prepared sub number = codes "#" ++ (decimal sub ++ (codes ":\n" ++ block_text prepared number (deeper [])))

-- the blocks of a sublink, among those from a number on
unfoldable pub blocks_of_sublink : Prepared → ℕ → ℕ → List Block → List ℕ
blocks_of_sublink prepared sub first [] = []
blocks_of_sublink prepared sub first (block ∷ blocks) =
    (if is_of_sublink sub block.sub then sublink_text prepared sub first else []) ++ blocks_of_sublink prepared sub (suc first) blocks

-- the blocks of the sublinks of so many numbers from one on
unfoldable pub sublinks_from : Prepared → ℕ → ℕ → List ℕ
sublinks_from prepared sub zero = []
sublinks_from prepared sub (suc count) = blocks_of_sublink prepared sub 0 prepared.blocks ++ sublinks_from prepared (suc sub) count

-- the block of the statement, and behind it those of the sublinks that stay, by ascending number
abbrev pub explain_text : Prepared → List ℕ
explain_text prepared = block_text prepared 0 [] ++ sublinks_from prepared 0 256
