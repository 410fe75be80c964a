-- The plans of blocks in a list of blocks, and what a whole statement says of a block.
use Rattle.std.proofs.Common.{◌≡◌, ◌∙◌, ap, sym, subst, refl, ℕ, zero, suc, ◌+◌, ◌<◌, ◌≤◌, ◌==◌, false, List, [], ◌∷◌, ◌++◌, length, drop, Some, eq-eqb, append_assoc, arith}
use Rattle.std.specs.Prelude.{All, Contains, slice_get, if◌then◌else◌}
use Rattle.std.specs.List.{flat_map}
use Rattle.std.proofs.lemmas.Bool.{ne_eqb}
use Rattle.std.proofs.lemmas.List.Elements.{All-contains_itself, All-weaker, Contains-append_left, Contains-append_right}
use Rattle.std.proofs.lemmas.Option.{get_or_from_slice_get, none-some, slice_get_within}
use Rattle.jp_problem.specs.declared.types.Item.{Item}
use Rattle.jp_problem.specs.declared.types.Method.{Method}
use Rattle.jp_problem.specs.declared.types.Problem.{Problem}
use Rattle.jp_problem.specs.declared.types.Step.{Step}
use Rattle.jp_problem.specs.Made.{IsSearchable}
use Rattle.jp_problem.specs.Trees.{Tree, set_of}
use Rattle.jp_problem.specs.Trees as tree
use Rattle.jp_cost.specs.TreeCosts.{tree_cost}
use Rattle.jp_tree.specs.declared.prepared.Block.{Block}
use Rattle.jp_tree.specs.declared.prepared.Prepared.{Prepared}
use Rattle.jp_tree.specs.declared.pool.PlanNode.{PlanNode}
use Rattle.jp_tree.specs.declared.pool.PlanNode.TheVariants as node
use Rattle.jp_tree.specs.BlockParts.{blocks_of_item, blocks_of_kind}
use Rattle.jp_tree.specs.Prepared.{IsWhole, IsPlannable, HasPlan}
use Rattle.jp_explain.specs.Lines.{deeper}
use Rattle.jp_explain.specs.Plans.{Inner, IsBehind, block_text, head_lines, item_texts, plan_at, plan_of, plan_text, plans_behind, plans_from, problem_at, problem_of, scan_lines, scan_text, step_lines, tree_text}
use Rattle.jp_tree.specs.PlanTrees.{IsLegalAt, tree_at}
use Rattle.jp_tree.proofs.PlanTreeLaws.{tree_join, tree_scan}

-- ---- lists

all_at : {X : Type 0} (P : X → Type 0) (xs : List X) (k : ℕ) (x : X) → All P xs → slice_get xs k ≡ Some x → P x
all_at P xs k x all is = subst P (get_or_from_slice_get xs k x x is) (all k x (slice_get_within xs k x is))

some_at : {X : Type 0} (xs : List X) (k : ℕ) → k < length xs → (x : X) × (slice_get xs k ≡ Some x)
some_at [] k low = absurd (omega (arith, low))
some_at (x ∷ xs) zero low = (x, refl)
some_at (x ∷ xs) (suc k) low = some_at xs k (omega (arith, low))

same_of : {X : Type 0} (x y : X) → Some x ≡ Some y → x ≡ y
same_of x y e = cc

contains_flat : {X Y : Type 0} (f : X → List Y) (xs : List X) (k : ℕ) (x : X) (y : Y) → slice_get xs k ≡ Some x → Contains (f x) y → Contains (flat_map f xs) y
contains_flat f [] k x y is has = absurd (none-some x is)
contains_flat f (z ∷ xs) zero x y is has = Contains-append_left (f z) (flat_map f xs) y (subst (λ w. Contains (f w) y) (sym (same_of z x is)) has)
contains_flat f (z ∷ xs) (suc k) x y is has = Contains-append_right (f z) (flat_map f xs) y (contains_flat f xs k x y is has)

-- ---- the text of a tree, by its root

pub text_scan : (prepared : Prepared) (inner : Inner) (problem : Problem) (indent : List ℕ) (i : ℕ) → tree_text prepared inner problem indent (tree.Scan i) ≡ scan_text prepared inner problem indent i (slice_get problem.items i)
unfolding tree_text
text_scan prepared inner problem indent i = refl

pub text_join : (prepared : Prepared) (inner : Inner) (problem : Problem) (indent : List ℕ) (m : Method) (s : Step) (l r : Tree)
    → tree_text prepared inner problem indent (tree.Join m s l r)
    ≡ step_lines prepared.names problem indent m s (set_of l) (set_of r) (tree_cost problem (tree.Join m s l r)) ++ (tree_text prepared inner problem (deeper indent) l ++ tree_text prepared inner problem (deeper indent) r)
unfolding tree_text
text_join prepared inner problem indent m s l r = refl

-- ---- the plans of blocks

plan_here : (prepared : Prepared) (first number : ℕ) (block : Block) (blocks : List Block) (indent : List ℕ) → number ≡ first
    → plans_from prepared first (block ∷ blocks) number indent ≡ tree_text prepared (plans_from prepared (suc first) blocks) block.problem indent (tree_at prepared.pool.nodes block.plan)
unfolding plans_from
plan_here prepared first number block blocks indent is =
    ap (λ b. if b then tree_text prepared (plans_from prepared (suc first) blocks) block.problem indent (tree_at prepared.pool.nodes block.plan) else plans_from prepared (suc first) blocks number indent) (eq-eqb number first is)

differ : (a b : ℕ) → b < a → (a == b) ≡ false
differ a b low = ne_eqb a b (λ e. omega (arith, e, low))

plan_later : (prepared : Prepared) (first number : ℕ) (block : Block) (blocks : List Block) (indent : List ℕ) → first < number
    → plans_from prepared first (block ∷ blocks) number indent ≡ plans_from prepared (suc first) blocks number indent
unfolding plans_from
plan_later prepared first number block blocks indent low =
    ap (λ b. if b then tree_text prepared (plans_from prepared (suc first) blocks) block.problem indent (tree_at prepared.pool.nodes block.plan) else plans_from prepared (suc first) blocks number indent) (differ number first low)

plan_among : (prepared : Prepared) (first k number : ℕ) (blocks : List Block) (block : Block) (indent : List ℕ) → number ≡ first + k → slice_get blocks k ≡ Some block
    → plans_from prepared first blocks number indent ≡ tree_text prepared (plans_from prepared (suc number) (drop (suc k) blocks)) block.problem indent (tree_at prepared.pool.nodes block.plan)
plan_among prepared first k number [] block indent place is = absurd (none-some block is)
plan_among prepared first zero number (b ∷ blocks) block indent place is =
    let here : number ≡ first = omega (arith, place) in
    plan_here prepared first number b blocks indent here
    ∙ ap (λ n. tree_text prepared (plans_from prepared (suc n) blocks) b.problem indent (tree_at prepared.pool.nodes b.plan)) (sym here)
    ∙ ap (λ (x : Block). tree_text prepared (plans_from prepared (suc number) blocks) x.problem indent (tree_at prepared.pool.nodes x.plan)) (same_of b block is)
plan_among prepared first (suc k) number (b ∷ blocks) block indent place is =
    plan_later prepared first number b blocks indent (omega (arith, place)) ∙ plan_among prepared (suc first) k number blocks block indent (omega (arith, place)) is

plans_past : (prepared : Prepared) (first k last number : ℕ) (blocks : List Block) (indent : List ℕ) → last ≡ first + k → last ≤ number
    → plans_from prepared first blocks number indent ≡ plans_from prepared last (drop k blocks) number indent
unfolding plans_from
plans_past prepared first zero last number [] indent place past = refl
plans_past prepared first (suc k) last number [] indent place past = refl
plans_past prepared first zero last number (b ∷ blocks) indent place past = ap (λ n. plans_from prepared n (b ∷ blocks) number indent) (omega (arith, place))
plans_past prepared first (suc k) last number (b ∷ blocks) indent place past =
    plan_later prepared first number b blocks indent (omega (arith, place, past)) ∙ plans_past prepared (suc first) k last number blocks indent (omega (arith, place)) past

-- a block behind another is printed as it is by itself
pub plan_behind : (prepared : Prepared) (number inner : ℕ) (indent : List ℕ) → number < inner → plans_behind prepared number inner indent ≡ plan_text prepared inner indent
plan_behind prepared number inner indent above = sym (plans_past prepared 0 (suc number) (suc number) inner prepared.blocks indent (omega arith) (omega (arith, above)))

pub plan_is : (prepared : Prepared) (number : ℕ) (indent : List ℕ) → number < length prepared.blocks
    → plan_text prepared number indent ≡ tree_text prepared (plans_behind prepared number) (problem_at prepared number) indent (tree_at prepared.pool.nodes (plan_at prepared number))
plan_is prepared number indent there =
    let (block, is) = some_at prepared.blocks number there in
    plan_among prepared 0 number number prepared.blocks block indent (omega arith) is
    ∙ ap (λ o. tree_text prepared (plans_behind prepared number) (problem_of o) indent (tree_at prepared.pool.nodes (plan_of o))) (sym is)

-- ---- a whole statement

pub searchable_at : (prepared : Prepared) → IsWhole prepared → (number : ℕ) → number < length prepared.blocks → IsSearchable (problem_at prepared number)
searchable_at prepared whole number there =
    let found = some_at prepared.blocks number there in
    subst (λ o. IsSearchable (problem_of o)) (sym found.1) (all_at IsPlannable prepared.blocks number found.0 whole.plannable found.1).searchable

pub legal_plan : (prepared : Prepared) → IsWhole prepared → (number : ℕ) → number < length prepared.blocks → IsLegalAt (problem_at prepared number) prepared.pool.nodes (plan_at prepared number)
legal_plan prepared whole number there =
    let found = some_at prepared.blocks number there in
    let has = all_at (HasPlan prepared) prepared.blocks number found.0 whole.plans found.1 in
    subst (λ o. IsLegalAt (problem_of o) prepared.pool.nodes (plan_of o)) (sym found.1) (record { tree = has.0; named = has.1; legal = has.2.legal })

item_behind : (prepared : Prepared) → IsWhole prepared → (number i : ℕ) (block : Block) (item : Item) → slice_get prepared.blocks number ≡ Some block → slice_get block.problem.items i ≡ Some item
    → All (IsBehind prepared number) (blocks_of_item item)
item_behind prepared whole number i block item is has =
    All-weaker (Contains (blocks_of_item item)) (IsBehind prepared number)
    (λ inner named. let behind = whole.behind number inner block is (contains_flat blocks_of_item block.problem.items i item inner has named) in record { above = behind.0; there = behind.1 })
    (blocks_of_item item) (All-contains_itself (blocks_of_item item))

pub blocks_behind : (prepared : Prepared) → IsWhole prepared → (number i : ℕ) (item : Item) → number < length prepared.blocks → slice_get (problem_at prepared number).items i ≡ Some item
    → All (IsBehind prepared number) (blocks_of_kind item.kind)
blocks_behind prepared whole number i item there has =
    let found = some_at prepared.blocks number there in
    item_behind prepared whole number i found.0 item found.1 (ap (λ o. slice_get (problem_of o).items i) (sym found.1) ∙ has)

-- ---- what is put at the end

module _ (prepared : Prepared) (inner : Inner) (problem : Problem) (indent : List ℕ) (nodes : List PlanNode) (id : ℕ) where
  pub scan_pushed : (i : ℕ) (old last : List ℕ) → slice_get nodes id ≡ Some (node.Scan i) → last ≡ old ++ scan_text prepared inner problem indent i (slice_get problem.items i)
      → last ≡ old ++ tree_text prepared inner problem indent (tree_at nodes id)
  scan_pushed i old last is p =
      p ∙ ap (λ x. old ++ x) (sym (text_scan prepared inner problem indent i)) ∙ ap (λ t. old ++ tree_text prepared inner problem indent t) (sym (tree_scan nodes id i is))

  regrouped : (a b c d : List ℕ) → ((a ++ b) ++ c) ++ d ≡ a ++ (b ++ (c ++ d))
  regrouped a b c d = simp append_assoc

  pub join_pushed : (m : Method) (s : Step) (l r : ℕ) (q : Problem) (left right whole : ℕ) (deep old first second last : List ℕ)
      → slice_get nodes id ≡ Some (node.Join m s l r) → l < id → r < id
      → q ≡ problem → left ≡ set_of (tree_at nodes l) → right ≡ set_of (tree_at nodes r) → whole ≡ tree_cost q (tree_at nodes id) → deep ≡ deeper indent
      → first ≡ old ++ step_lines prepared.names q indent m s left right whole
      → second ≡ first ++ tree_text prepared inner problem deep (tree_at nodes l) → last ≡ second ++ tree_text prepared inner problem deep (tree_at nodes r)
      → last ≡ old ++ tree_text prepared inner problem indent (tree_at nodes id)
  join_pushed m s l r q left right whole deep old first second last is low high same left_is right_is whole_is deep_is p a b =
      let here = tree_join nodes id m s l r is low high in
      let lines = step_lines prepared.names problem indent m s (set_of (tree_at nodes l)) (set_of (tree_at nodes r)) (tree_cost problem (tree.Join m s (tree_at nodes l) (tree_at nodes r))) in
      let costs : whole ≡ tree_cost problem (tree.Join m s (tree_at nodes l) (tree_at nodes r)) = whole_is ∙ ap (λ x. tree_cost x (tree_at nodes id)) same ∙ ap (tree_cost problem) here in
      let stepped : first ≡ old ++ lines =
      p ∙ ap (λ x. old ++ step_lines prepared.names x indent m s left right whole) same
      ∙ ap (λ x. old ++ step_lines prepared.names problem indent m s x right whole) left_is
      ∙ ap (λ x. old ++ step_lines prepared.names problem indent m s (set_of (tree_at nodes l)) x whole) right_is
      ∙ ap (λ x. old ++ step_lines prepared.names problem indent m s (set_of (tree_at nodes l)) (set_of (tree_at nodes r)) x) costs
      in
      let left_text : second ≡ (old ++ lines) ++ tree_text prepared inner problem (deeper indent) (tree_at nodes l) =
      a ∙ ap (λ x. x ++ tree_text prepared inner problem deep (tree_at nodes l)) stepped ∙ ap (λ x. (old ++ lines) ++ tree_text prepared inner problem x (tree_at nodes l)) deep_is
      in
      b ∙ ap (λ x. x ++ tree_text prepared inner problem deep (tree_at nodes r)) left_text
      ∙ ap (λ x. ((old ++ lines) ++ tree_text prepared inner problem (deeper indent) (tree_at nodes l)) ++ tree_text prepared inner problem x (tree_at nodes r)) deep_is
      ∙ regrouped old lines (tree_text prepared inner problem (deeper indent) (tree_at nodes l)) (tree_text prepared inner problem (deeper indent) (tree_at nodes r))
      ∙ ap (λ x. old ++ x) (sym (text_join prepared inner problem indent m s (tree_at nodes l) (tree_at nodes r)))
      ∙ ap (λ t. old ++ tree_text prepared inner problem indent t) (sym here)

pub item_pushed : (prepared : Prepared) (inner : Inner) (problem q : Problem) (indent deep : List ℕ) (i : ℕ) (item : Item) (old first last : List ℕ)
    → q ≡ problem → slice_get q.items i ≡ Some item → deep ≡ deeper indent
    → first ≡ old ++ scan_lines prepared.names q indent i item → last ≡ first ++ item_texts prepared inner deep item.kind
    → last ≡ old ++ scan_text prepared inner problem indent i (slice_get problem.items i)
item_pushed prepared inner problem q indent deep i item old first last same is deep_is p a =
    a ∙ ap (λ x. x ++ item_texts prepared inner deep item.kind) p ∙ append_assoc old (scan_lines prepared.names q indent i item) (item_texts prepared inner deep item.kind)
    ∙ ap (λ x. old ++ (scan_lines prepared.names q indent i item ++ item_texts prepared inner x item.kind)) deep_is
    ∙ ap (λ o. old ++ scan_text prepared inner q indent i o) (sym is)
    ∙ ap (λ x. old ++ scan_text prepared inner x indent i (slice_get x.items i)) same

-- what is put at the end for the block of a sub-select, and for the plans of two sides
pub sub_pushed : (prepared : Prepared) (number block : ℕ) (indent old last : List ℕ) → IsBehind prepared number block → last ≡ old ++ block_text prepared block indent
    → last ≡ old ++ (head_lines prepared.names indent (slice_get prepared.blocks block) ++ plans_behind prepared number block indent)
sub_pushed prepared number block indent old last behind p =
    p ∙ ap (λ x. old ++ (head_lines prepared.names indent (slice_get prepared.blocks block) ++ x)) (sym (plan_behind prepared number block indent behind.above))

pub full_pushed : (prepared : Prepared) (number left right : ℕ) (indent old first last : List ℕ) → IsBehind prepared number left → IsBehind prepared number right
    → first ≡ old ++ plan_text prepared left indent → last ≡ first ++ plan_text prepared right indent
    → last ≡ old ++ (plans_behind prepared number left indent ++ plans_behind prepared number right indent)
full_pushed prepared number left right indent old first last on_left on_right p q =
    q ∙ ap (λ x. x ++ plan_text prepared right indent) p ∙ append_assoc old (plan_text prepared left indent) (plan_text prepared right indent)
    ∙ ap (λ x. old ++ (x ++ plan_text prepared right indent)) (sym (plan_behind prepared number left indent on_left.above))
    ∙ ap (λ x. old ++ (plans_behind prepared number left indent ++ x)) (sym (plan_behind prepared number right indent on_right.above))
