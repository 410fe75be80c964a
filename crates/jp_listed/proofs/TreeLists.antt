-- A legal tree lists what a run of it gives in the frame of a setting in which its conditions have their values.
use Rattle.std.proofs.Common.{◌≡◌, ◌∙◌, ap, ap₂, sym, subst, refl, ℕ, zero, suc, inl, inr, true, false, ◌&&◌, List, [], ◌∷◌, ◌++◌, map, filter, length, Option, Some, None, eq-eqb, arith}
use mathlib.Core.Path.{fun_ext}
use Rattle.std.specs.Prelude.{IsSome, if◌then◌else◌}
use Rattle.std.specs.List.{flat_map}
use Rattle.std.specs.Option.{option_map}
use Rattle.std.proofs.lemmas.Bool.{cases_eq, ne_eqb}
use Rattle.jp_facts.proofs.Members.{In, from_in, from_map, from_filter}
use Rattle.jp_query.specs.declared.Expr.{Expr}
use Rattle.jp_query.specs.declared.Query.{Query}
use Rattle.jp_query.specs.Meaning.{Row, Env, ValueIn, holds, value_given}
use Rattle.jp_query.specs.Operators.{is_true, truth_of_value}
use Rattle.jp_problem.specs.declared.types.Item.{Item}
use Rattle.jp_problem.specs.declared.types.Method.{Method}
use Rattle.jp_problem.specs.declared.types.Method.TheVariants as method
use Rattle.jp_problem.specs.declared.types.Problem.{Problem}
use Rattle.jp_problem.specs.declared.types.Special.{Special}
use Rattle.jp_problem.specs.declared.types.Stage.{Stage}
use Rattle.jp_problem.specs.declared.types.Step.{Step}
use Rattle.jp_problem.specs.declared.types.Step.TheVariants as step
use Rattle.jp_problem.specs.Conditions.{MeetsConditions}
use Rattle.jp_problem.specs.Equalities.{Sides}
use Rattle.jp_problem.specs.Keys.{key_of, IsAllowed, on_of}
use Rattle.jp_problem.specs.Legal.{IsLegalStep}
use Rattle.jp_problem.specs.Made.{IsBlock, IsMade}
use Rattle.jp_problem.specs.Problems.{AreItemsOf, problem_rels, problem_of, join_of}
use Rattle.jp_problem.specs.StepClauses.{clauses_of_stage, of_class, is_open_class, stands_alone, expr_of, step_clauses, scan_clauses, step_stage, scan_stage}
use Rattle.jp_problem.specs.Trees.{Tree, set_of, IsLegalTree}
use Rattle.jp_conditions.proofs.MadeLaws.{made_conditions}
use Rattle.jp_conditions.proofs.Numbers.{from_place}
use Rattle.jp_frame.specs.Frames.{Frame}
use Rattle.jp_frame.specs.Maps.{Map}
use Rattle.jp_frame.specs.Methods.{list_of, rows_of_item, plain, right_first, sorted_by}
use Rattle.jp_frame.specs.Steps.{By}
use Rattle.jp_frame.specs.Steps as frame_step
use Rattle.jp_frame.specs.Trees.{rows_of}
use Rattle.jp_framed.specs.Environments.{Setting, value_by, source_at, env_of}
use Rattle.jp_framed.specs.Framing.{kind_of, join_at, frame_of}
use Rattle.jp_framed.specs.Framing as framing
use Rattle.jp_framed.specs.Running.{HasNoClasses, step_of, step_clauses_hold, run_of, method_of}
use Rattle.jp_framed.proofs.FrameLaws.{numbered_at}
use Rattle.jp_framed.proofs.MadeLaws.{plain_without_classes}
use Rattle.jp_joins.specs.Frames.{IsSameKind}
use Rattle.jp_joins.specs.Meant.{Meant, is_match, list_holds, plain_list}
use Rattle.jp_joins.specs.Sorting.{merged_list}
use Rattle.jp_joins.proofs.FrameFacts.{plain_inner, plain_by, right_by, merged_is}
use Rattle.jp_lists.specs.Steps.{Run, run_holds, meant_of, method_list, tree_list, pair_of_sides, kind_of_join}
use Rattle.jp_listed.specs.Plans.{run_in, HasItsValue, HaveTheirValues, by_first, by_second, key_orders}
use Rattle.jp_listed.proofs.SpecialKinds.{IsSpecial, specials_special}

-- conditions that have the same values hold alike
pub holds_same : (f g : Expr → ValueIn) (env : Env) (conds : List Expr) → ((e : Expr) → In e conds → f e env ≡ g e env) → holds (map f conds) env ≡ holds (map g conds) env
holds_same f g env [] h = refl
holds_same f g env (e ∷ conds) h = ap₂ ◌&&◌ (ap (λ v. is_true (truth_of_value v)) (h e (inl refl))) (holds_same f g env conds (λ x k. h x (inr k)))

-- the join of a number is found
pub join_found : (joins : List Special) (s : Special) (number : ℕ) → In s joins → s.no ≡ number → ((t : Special) → In t joins → t.no ≡ number → t ≡ s) → join_of joins number ≡ Some s
join_found [] s number h e one = absurd h
join_found (t ∷ joins) s number h e one = elim (cases_eq t.no number) [
  | inl p ↦ ap (λ b. if b then Some t else join_of joins number) (eq-eqb t.no number p) ∙ ap Some (one t (inl refl) p)
  | inr n ↦ ap (λ b. if b then Some t else join_of joins number) (ne_eqb t.no number n) ∙ elim h [
    | inl same ↦ absurd (n (ap (λ (x : Special). x.no) same ∙ e))
    | inr k ↦ join_found joins s number k e (λ u l. one u (inr l))
  ]
]

merged_some : (meant : Meant) (o : Option Sides) (ls rs : List Map) → meant.key ≡ option_map pair_of_sides o → IsSome o → plain_list meant (sorted_by (by_first meant o) ls) (sorted_by (by_second meant o) rs) ≡ merged_list meant ls rs
merged_some meant (Some sides) ls rs e some = merged_is meant sides.first sides.second ls rs e
merged_some meant None ls rs e some = cc

module _ (problem : Problem) (setting : Setting) (rows : Env → ℕ → List Row) (m : MeetsConditions problem) (none : HasNoClasses problem) (kinds : (s : Special) → In s problem.joins → IsSpecial s.kind) (values : HaveTheirValues problem setting rows) where
  abbrev f : Frame
  f = frame_of problem setting

  abbrev run : Run
  run = run_in problem setting rows

  abbrev rels : List ℕ
  rels = problem_rels problem

  abbrev Tested : List Expr → Type 0
  Tested conds = (e : Expr) → In e conds → HasItsValue problem setting rows e

  stage_tested : (stage : Stage) → Tested (clauses_of_stage problem stage)
  stage_tested stage e h =
      let alone = filter (stands_alone problem.joins stage) problem.clauses in
      let k : In e (map expr_of alone) = subst (λ cs. In e (flat_map (of_class stage) (filter (is_open_class problem.joins stage.whole) cs) ++ map expr_of alone)) none.classes h in
      let c = from_map expr_of e alone k in
      subst (HasItsValue problem setting rows) c.2 (values.clauses c.0 (from_in c.0 problem.clauses (from_filter (stands_alone problem.joins stage) c.0 problem.clauses c.1).1))

  on_tested : (s : Special) → In s problem.joins → Tested s.on
  on_tested s h e k = values.on s e (from_in s problem.joins h) (from_in e s.on k)

  tests_same : (conds : List Expr) → Tested conds → (x : Map) → run_holds run conds x ≡ framing.list_holds rels setting conds x
  tests_same conds tested x = holds_same (value_given (rows (env_of rels setting x))) (value_by setting.sublinks) (env_of rels setting x) conds (λ e h. tested e h x)

  meant_holds : (left right : ℕ) (kind : Step) (conds : List Expr) → Tested conds → framing.list_holds rels setting conds ≡ list_holds (meant_of run problem left right kind) conds
  unfolding list_holds
  meant_holds left right kind conds tested = fun_ext (λ x. sym (tests_same conds tested x))

  abbrev Listed : Method → ℕ → ℕ → Step → List Map → List Map → Type 0
  Listed how left right kind ls rs =
      list_of f (method_of ((key_orders run problem).by_left left right kind) ((key_orders run problem).by_right left right kind) how) (step_of kind) (step_clauses_hold problem setting left right) ls rs ≡ method_list how (meant_of run problem left right kind) ls rs

  clauses_hold : (left right : ℕ) (kind : Step) → step_clauses_hold problem setting left right ≡ list_holds (meant_of run problem left right kind) (step_clauses problem left right)
  clauses_hold left right kind = meant_holds left right kind (step_clauses problem left right) (stage_tested (step_stage left right))

  inner_plain : (left right : ℕ) (ls rs : List Map) → plain f frame_step.Inner (step_clauses_hold problem setting left right) ls rs ≡ plain_list (meant_of run problem left right step.Inner) ls rs
  inner_plain left right ls rs = ap (λ test. plain f frame_step.Inner test ls rs) (clauses_hold left right step.Inner) ∙ plain_inner f (meant_of run problem left right step.Inner) ls rs refl

  inner_listed : (how : Method) (left right : ℕ) (ls rs : List Map) → IsAllowed problem left right step.Inner how → Listed how left right step.Inner ls rs
  inner_listed method.Nest left right ls rs allowed = inner_plain left right ls rs
  inner_listed method.Hash left right ls rs allowed = inner_plain left right ls rs
  inner_listed method.HashRight left right ls rs allowed = absurd (never allowed.1)
    where
      never : false ≡ true → ⊥
      never e = cc
  inner_listed method.Merge left right ls rs allowed =
      let meant = meant_of run problem left right step.Inner in
      let key = key_of problem left right step.Inner in
      inner_plain left right (sorted_by (by_first meant key) ls) (sorted_by (by_second meant key) rs) ∙ merged_some meant key ls rs refl allowed

  -- ---- a step by a join

  module _ (left right k : ℕ) (s : Special) (here : In s problem.joins) (numbered : s.no ≡ suc k) where
    abbrev by : Step
    by = step.By (suc k)

    abbrev meant : Meant
    meant = meant_of run problem left right by

    at : join_at problem.joins k ≡ s
    at = (numbered_at problem setting m s k (from_in s problem.joins here) numbered).1

    found : join_of problem.joins (suc k) ≡ Some s
    found = join_found problem.joins s (suc k) here numbered (λ t h e. sym (numbered_at problem setting m t k (from_in t problem.joins h) e).1 ∙ at)

    same_kind : IsSameKind (f.kind k) meant.kind
    same_kind = subst (λ (x : Special). IsSameKind (kind_of x.kind) (kind_of_join (join_of problem.joins (suc k)))) (sym at) (subst (λ o. IsSameKind (kind_of s.kind) (kind_of_join o)) (sym found) (kinds s here))

    same_on : f.on k ≡ is_match meant
    same_on = ap (λ (x : Special). framing.list_holds rels setting x.on) at ∙ meant_holds left right by s.on (on_tested s here) ∙ ap (λ o. list_holds meant (on_of o)) (sym found)

    by_plain : (ls rs : List Map) → plain f (By k) (step_clauses_hold problem setting left right) ls rs ≡ plain_list meant ls rs
    by_plain ls rs = ap (λ test. plain f (By k) test ls rs) (clauses_hold left right by) ∙ plain_by f k meant ls rs same_kind same_on

    join_listed : (how : Method) (ls rs : List Map) → IsAllowed problem left right (step.By (suc k)) how → Listed how left right (step.By (suc k)) ls rs
    join_listed method.Nest ls rs allowed = by_plain ls rs
    join_listed method.Hash ls rs allowed = by_plain ls rs
    join_listed method.HashRight ls rs allowed = ap (λ test. filter test (right_first (f.on k) ls rs)) (clauses_hold left right by) ∙ right_by f k meant ls rs same_on
    join_listed method.Merge ls rs allowed =
        let key = key_of problem left right by in
        by_plain (sorted_by (by_first meant key) ls) (sorted_by (by_second meant key) rs) ∙ merged_some meant key ls rs refl allowed

  step_listed : (how : Method) (left right : ℕ) (kind : Step) (ls rs : List Map) → IsLegalStep problem left right kind → IsAllowed problem left right kind how → Listed how left right kind ls rs
  step_listed how left right step.Inner ls rs legal allowed = inner_listed how left right ls rs allowed
  step_listed how left right (step.By zero) ls rs legal allowed = absurd (let e = m.numbered legal.of_kind.only_new.place legal.of_kind.join legal.of_kind.only_new.join in omega (arith, e, legal.of_kind.numbered))
  step_listed how left right (step.By (suc k)) ls rs legal allowed =
      let by = legal.of_kind in join_listed left right k by.join (from_place problem.joins by.only_new.place by.join by.only_new.join) by.numbered how ls rs allowed

  pub tree_listed : (t : Tree) → IsLegalTree problem t → tree_list (run_in problem setting rows) problem t ≡ rows_of (frame_of problem setting) (run_of problem setting (key_orders (run_in problem setting rows) problem) t)
  unfolding tree_list
  tree_listed (Tree.Scan i) legal = ap (λ test. filter test (rows_of_item (length problem.items) i 0 (length (source_at setting.sources i)))) (fun_ext (λ x. tests_same (scan_clauses problem i) (stage_tested (scan_stage i)) x))
  tree_listed (Tree.Join how kind left right) legal =
      ap₂ (method_list how (meant_of run problem (set_of left) (set_of right) kind)) (tree_listed left legal.2) (tree_listed right legal.3)
      ∙ sym (step_listed how (set_of left) (set_of right) kind (rows_of f (run_of problem setting (key_orders run problem) left)) (rows_of f (run_of problem setting (key_orders run problem) right)) legal.0 legal.1)

pub block_listed : (query : Query) (items : List Item) (setting : Setting) (rows : Env → ℕ → List Row) (t : Tree) → IsBlock query → AreItemsOf query items → HaveTheirValues (problem_of items query) setting rows → IsLegalTree (problem_of items query) t
    → tree_list (run_in (problem_of items query) setting rows) (problem_of items query) t ≡ rows_of (frame_of (problem_of items query) setting) (run_of (problem_of items query) setting (key_orders (run_in (problem_of items query) setting rows) (problem_of items query)) t)
block_listed query items setting rows t block are values legal =
    let made : IsMade (problem_of items query) = record { query = query; block = block; items = are; made = inl refl } in
    tree_listed (problem_of items query) setting rows (made_conditions (problem_of items query) made) (plain_without_classes items query) (specials_special query block.no_right) values t legal
