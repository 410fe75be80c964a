-- The joins and clauses of a problem by their places, and the frame's tests on two maps.
use Rattle.std.proofs.Common.{◌≡◌, ap, ap₂, refl, ℕ, zero, suc, ◌<◌, inl, inr, ◌&&◌, false, List, [], ◌∷◌, map, length, Some, arith}
use Rattle.std.specs.Prelude.{Contains, All, slice_get}
use Rattle.std.proofs.lemmas.Option.{slice_get-get_or, get_or_from_slice_get}
use Rattle.std.proofs.lemmas.List.Elements.{Contains-get_or}
use Rattle.jp_base.specs.Sets.{Has}
use Rattle.jp_facts.proofs.Members.{In, to_in}
use Rattle.jp_induction.proofs.EachPart.{Each, each_of}
use Rattle.jp_query.specs.declared.Expr.{Expr}
use Rattle.jp_query.specs.Meaning.{Env, holds}
use Rattle.jp_query.specs.Operators.{is_true, truth_of_value}
use Rattle.jp_query.specs.Refs.{refs_of}
use Rattle.jp_query.specs.Typing.{IsTypedExpr}
use Rattle.jp_laws.proofs.CellUses.{value_of_references}
use Rattle.jp_problem.specs.declared.types.Clause.{Clause}
use Rattle.jp_problem.specs.declared.types.Problem.{Problem}
use Rattle.jp_problem.specs.declared.types.Special.{Special}
use Rattle.jp_problem.specs.Blocks.{used, used_by, rels_at}
use Rattle.jp_problem.specs.Conditions.{IsAbsent, IsVoid}
use Rattle.jp_problem.specs.Problems.{problem_rels}
use Rattle.jp_conditions.proofs.Items.{used_member}
use Rattle.jp_conditions.proofs.Numbers.{at_place}
use Rattle.jp_frame.specs.Maps.{Map, Agree}
use Rattle.jp_framed.specs.Environments.{Sublinks, Setting, value_by, env_of}
use Rattle.jp_framed.specs.Framing.{join_at, no_join, clause_at, no_clause, list_holds, expr_holds}
use Rattle.jp_framed.proofs.GivenLaws.{given_by_references}
use Rattle.jp_framed.proofs.MapRows.{agreeing}

-- ---- places

pub join_stands : (joins : List Special) (k : ℕ) → k < length joins → Contains joins (join_at joins k)
join_stands joins k low = Contains-get_or joins k no_join low

pub join_there : (joins : List Special) (k : ℕ) → k < length joins → slice_get joins k ≡ Some (join_at joins k)
join_there joins k low = slice_get-get_or joins k no_join low

pub join_is : (joins : List Special) (k : ℕ) (s : Special) → slice_get joins k ≡ Some s → join_at joins k ≡ s
join_is joins k s e = get_or_from_slice_get joins k s no_join e

pub clause_stands : (clauses : List Clause) (k : ℕ) → k < length clauses → Contains clauses (clause_at clauses k)
clause_stands clauses k low = Contains-get_or clauses k no_clause low

-- a join of the list by its place
pub record Place (joins : List Special) (s : Special) : Type 0 where
  pub place : ℕ
  pub low : place < length joins
  pub there : slice_get joins place ≡ Some s
  pub is : join_at joins place ≡ s

low_place : {X : Type 0} (xs : List X) (k : ℕ) (x : X) → slice_get xs k ≡ Some x → k < length xs
low_place [] k x e = cc
low_place (y ∷ xs) zero x e = omega arith
low_place (y ∷ xs) (suc k) x e = let h = low_place xs k x e in omega (arith, h)

pub placed : (joins : List Special) (s : Special) → Contains joins s → Place joins s
placed joins s h =
    let k = at_place joins s (to_in s joins h) in
    record { place = k.0; low = low_place joins k.0 s k.1; there = k.1; is = join_is joins k.0 s k.1 }

pub low_of : (joins : List Special) (k : ℕ) (s : Special) → slice_get joins k ≡ Some s → k < length joins
low_of joins k s e = low_place joins k s e

pub clause_placed : (clauses : List Clause) (c : Clause) → In c clauses → (k : ℕ) × (k < length clauses) × (clause_at clauses k ≡ c)
clause_placed clauses c h = let k = at_place clauses c h in (k.0, low_place clauses k.0 c k.1, get_or_from_slice_get clauses k.0 c no_clause k.1)

-- ---- values

pub by_references : (sublinks : Sublinks) (e : Expr) (env other : Env) → IsTypedExpr e → ((i : ℕ) → Has (refs_of e) i → env i ≡ other i) → value_by sublinks e env ≡ value_by sublinks e other
by_references (Sublinks.in_place tables) e env other typed agree = value_of_references tables e env other typed agree
by_references (Sublinks.given rows) e env other typed agree = given_by_references rows env other e typed agree

module _ (rels : List ℕ) (setting : Setting) (m n : Map) where
  value_agrees : (e : Expr) → IsTypedExpr e → Agree (used rels e) m n → value_by setting.sublinks e (env_of rels setting m) ≡ value_by setting.sublinks e (env_of rels setting n)
  value_agrees e typed agree = by_references setting.sublinks e (env_of rels setting m) (env_of rels setting n) typed (agreeing rels setting (refs_of e) m n agree)

  pub expr_agrees : (e : Expr) → IsTypedExpr e → Agree (used rels e) m n → expr_holds rels setting e m ≡ expr_holds rels setting e n
  expr_agrees e typed agree = ap (λ v. is_true (truth_of_value v)) (value_agrees e typed agree)

  each_agrees : (conds : List Expr) → Each IsTypedExpr conds → ((e : Expr) → In e conds → Agree (used rels e) m n) → list_holds rels setting conds m ≡ list_holds rels setting conds n
  each_agrees [] typed agree = refl
  each_agrees (e ∷ conds) typed agree = ap₂ ◌&&◌ (expr_agrees e typed.0 (agree e (inl refl))) (each_agrees conds typed.1 (λ x h. agree x (inr h)))

  pub list_agrees : (conds : List Expr) → All IsTypedExpr conds → Agree (used_by rels conds) m n → list_holds rels setting conds m ≡ list_holds rels setting conds n
  list_agrees conds typed agree = each_agrees conds (each_of IsTypedExpr conds typed) (λ e h i p. agree i (used_member rels conds e h i p))

-- a void ON list isn't true, whatever gives sublinks their rows
pub void_by : (problem : Problem) (u : Special) (set : ℕ) (sublinks : Sublinks) (env : Env) → IsVoid problem u set → IsAbsent (rels_at (problem_rels problem) set) env → holds (map (value_by sublinks) u.on) env ≡ false
void_by problem u set (Sublinks.in_place tables) env void absent = void.in_place tables env absent
void_by problem u set (Sublinks.given rows) env void absent = void.given rows env absent
