-- What is made begins no more sublinks than entries, and a select fewer.
use Rattle.std.proofs.Common.{◌≡◌, subst, ◌+◌, ◌<◌, ◌≤◌, true, List, [], ◌∷◌, ◌++◌, map, arith}
use Rattle.std.proofs.lemmas.Bool.{false≢true}
use Rattle.jp_query.specs.declared.Expr.{Expr}
use Rattle.jp_query.specs.declared.JoinTree.{JoinTree}
use Rattle.jp_query.specs.Layers.{QueryLayer}
use Rattle.jp_query.specs.Parts.{parts}
use Rattle.jp_query.specs.Scopes.{Scope, Schema}
use Rattle.jp_query.specs.Typing.{is_listed}
use Rattle.jp_resolution.specs.declared.words.Counts.{Counts}
use Rattle.jp_resolution.specs.Counting.{one_entry, both}
use Rattle.jp_resolved.specs.Sorted.{expr_of_output}
use Rattle.jp_resolved.proofs.Spans.{Along}
use Rattle.jp_resolved.proofs.Made.{Steps, TreesAlong}

abbrev pub IsPaced : Counts → Counts → Type 0
IsPaced a b = b.sublinks + a.entries ≤ a.sublinks + b.entries

abbrev pub IsBehind : Counts → Counts → Type 0
IsBehind a b = b.sublinks + a.entries < a.sublinks + b.entries

abbrev pub ExprPaced : Scope → Counts → Counts → Expr → Type 0
ExprPaced scope a b e = IsPaced a b

abbrev pub TreePaced : Scope → Counts → Counts → Scope → JoinTree → Type 0
TreePaced outer a b own t = IsBehind a b

abbrev pub SelectPaced : Scope → Counts → Counts → QueryLayer → Type 0
SelectPaced outer a b level = IsBehind a b

same_paced : (a b : Counts) → a ≡ b → IsPaced a b
same_paced a b same = subst (IsPaced a) same (self a)
  where
    self : (a : Counts) → IsPaced a a
    self a = omega arith

pub exprs_paced : (scope : Scope) (a b : Counts) (es : List Expr) → Along (ExprPaced scope) a b es → IsPaced a b
exprs_paced scope a b [] along = same_paced a b along
exprs_paced scope a b (e ∷ es) along = let more : IsPaced along.0 b = exprs_paced scope along.0 b es along.2 in omega (arith, along.1, more)

trees_paced : (outer : Scope) (a b : Counts) (own : Scope) (ts : List JoinTree) → TreesAlong (TreePaced outer) a b own ts → IsPaced a b
trees_paced outer a b own [] along = same_paced a b along.1
trees_paced outer a b own (t ∷ ts) along = let more : IsPaced along.0 b = trees_paced outer along.0 b along.2 ts along.5 in omega (arith, along.4, more)

trees_behind : (outer : Scope) (a b : Counts) (own : Scope) (ts : List JoinTree) → is_listed ts ≡ true → TreesAlong (TreePaced outer) a b own ts → IsBehind a b
trees_behind outer a b own [] some along = absurd (false≢true some)
trees_behind outer a b own (t ∷ ts) some along = let more : IsPaced along.0 b = trees_paced outer along.0 b along.2 ts along.5 in omega (arith, along.4, more)

base_behind : (a b : Counts) → both a one_entry ≡ b → IsBehind a b
base_behind a b same = subst (IsBehind a) same (next a)
  where
    next : (a : Counts) → IsBehind a (both a one_entry)
    next a = omega arith

pub select_behind : (outer own : Scope) (a m n b : Counts) (us cs : List Expr) (members : List JoinTree) → is_listed members ≡ true → Along (ExprPaced (own ++ outer)) a m us → TreesAlong (TreePaced outer) m n own members → Along (ExprPaced (own ++ outer)) n b cs → IsBehind a b
select_behind outer own a m n b us cs members some outputs trees conds =
    let x : IsPaced a m = exprs_paced (own ++ outer) a m us outputs in
    let y : IsBehind m n = trees_behind outer m n own members some trees in
    let z : IsPaced n b = exprs_paced (own ++ outer) n b cs conds in
    omega (arith, x, y, z)

pub pacing : (schema : Schema) → Steps schema ExprPaced TreePaced SelectPaced
pacing schema = record {
  at_column = λ scope a b rel place c all there small. same_paced a b all;
  at_operator = λ scope a b x is small along. exprs_paced scope a b (parts x) along;
  at_exists = λ scope a b level h. omega (arith, h);
  at_among = λ scope a m b operand level p h. omega (arith, p, h);
  at_base = λ outer a b name place columns all apart there. base_behind a b all;
  at_sub = λ outer a b name level apart h. omega (arith, h);
  at_joined = λ outer a m n b kind l r left right on apart p q along. let more : IsPaced n b = exprs_paced ((l ++ r) ++ outer) n b on along in omega (arith, p, q, more);
  at_select = λ outer a m n b own level members plain some is apart outputs trees conds. select_behind outer own a m n b (map expr_of_output level.columns) level.conds members some outputs trees conds;
}
