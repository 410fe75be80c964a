-- Some list of each rule.
use Rattle.std.proofs.Common.{false, [], ◌∷◌, ◌++◌, None, refl, sym, ap, append-nil}
use Rattle.jp_ast.specs.declared.tree.JoinWord.TheVariants as join
use Rattle.jp_ast.specs.declared.tree.Ast.TheVariants as ast
use Rattle.jp_ast.specs.declared.tree.FromItem.TheVariants as from
use Rattle.jp_ast.specs.declared.tree.Target.TheVariants as target
use Rattle.jp_ast.specs.declared.class.Class.TheVariants as k
use Rattle.jp_ast.specs.Seen.{number_in}
use Rattle.jp_ast.specs.Classes.{is_name}
use Rattle.jp_ast.specs.Nodes.{select_of}
use Rattle.jp_ast.specs.Grammar.{MaybeAlias, MaybeDistinct, MaybeDirection, MaybeNulls, IsAtom, IsSign, IsProduct, MoreFactors, IsSum, MoreTerms, IsCat, MoreParts, IsRange, IsRangeTail, IsCompare, IsCompareTail, IsTest, IsTestTail, IsNot, IsAnd, MoreNots, IsExpr, MoreAnds, IsArm, AreArms, MoreArms, IsPrimary, IsJoin, IsItem, MoreJoins, AreItems, MoreItems, IsTarget, AreTargets, MoreTargets, MaybeWhere, IsSelect, IsOrder}
use Rattle.jp_parse.proofs.Exact.{Inhabited}
use Rattle.jp_parse.proofs.Samples.{sample, sampled}

pub some-IsAtom : Inhabited IsAtom
some-IsAtom = (sample k.Number ∷ [], ast.Number (number_in (sample k.Number)) (sample k.Number).at, IsAtom.number (sample k.Number) refl (sampled k.Number) refl)

pub some-IsSign : Inhabited IsSign
some-IsSign = let s = some-IsAtom in (s.0, s.1, IsSign.unsigned s.2)

pub some-IsProduct : Inhabited IsProduct
some-IsProduct = let s = some-IsSign in (s.0, s.1, IsProduct.product s.0 [] s.1 [] (sym (append-nil s.0)) s.2 (MoreFactors.no_factors refl refl) refl)

pub some-IsSum : Inhabited IsSum
some-IsSum = let s = some-IsProduct in (s.0, s.1, IsSum.sum s.0 [] s.1 [] (sym (append-nil s.0)) s.2 (MoreTerms.no_terms refl refl) refl)

pub some-IsCat : Inhabited IsCat
some-IsCat = let s = some-IsSum in (s.0, s.1, IsCat.cat s.0 [] s.1 [] (sym (append-nil s.0)) s.2 (MoreParts.no_parts refl refl) refl)

pub some-IsRange : Inhabited IsRange
some-IsRange = let s = some-IsCat in (s.0, s.1, IsRange.range s.0 [] s.1 (sym (append-nil s.0)) s.2 (IsRangeTail.no_range refl refl))

pub some-IsCompare : Inhabited IsCompare
some-IsCompare = let s = some-IsRange in (s.0, s.1, IsCompare.compare s.0 [] s.1 (sym (append-nil s.0)) s.2 (IsCompareTail.no_compare refl refl))

pub some-IsTest : Inhabited IsTest
some-IsTest = let s = some-IsCompare in (s.0, s.1, IsTest.test s.0 [] s.1 (sym (append-nil s.0)) s.2 (IsTestTail.no_test refl refl))

pub some-IsNot : Inhabited IsNot
some-IsNot = let s = some-IsTest in (s.0, s.1, IsNot.affirmed s.2)

pub some-IsAnd : Inhabited IsAnd
some-IsAnd = let s = some-IsNot in (s.0, s.1, IsAnd.and s.0 [] s.1 [] (sym (append-nil s.0)) s.2 (MoreNots.no_nots refl refl) refl)

pub some-IsExpr : Inhabited IsExpr
some-IsExpr = let s = some-IsAnd in (s.0, s.1, IsExpr.or s.0 [] s.1 [] (sym (append-nil s.0)) s.2 (MoreAnds.no_ands refl refl) refl)

pub some-IsArm : Inhabited IsArm
some-IsArm =
    let s = some-IsExpr in
    (sample k.When ∷ (s.0 ++ (sample k.Then ∷ s.0)), (s.1, s.1), IsArm.arm (sample k.When) s.0 s.1 (sample k.Then) s.0 s.1 refl (sampled k.When) s.2 (sampled k.Then) s.2 refl)

pub some-AreArms : Inhabited AreArms
some-AreArms = let s = some-IsArm in (s.0, s.1 ∷ [], AreArms.arms s.0 [] s.1 [] (sym (append-nil s.0)) s.2 (MoreArms.no_arms refl refl) refl)

pub some-IsPrimary : Inhabited IsPrimary
some-IsPrimary = (sample k.Name ∷ [], from.Table (sample k.Name).content None (sample k.Name).at, IsPrimary.table (sample k.Name) [] None refl (ap is_name (sampled k.Name)) (MaybeAlias.none refl refl) refl)

pub some-IsJoin : Inhabited IsJoin
some-IsJoin =
    let p = some-IsPrimary in
    (sample k.Cross ∷ sample k.Join ∷ p.0, (join.Cross, p.1, None), IsJoin.cross (sample k.Cross) (sample k.Join) p.0 p.1 refl (sampled k.Cross) (sampled k.Join) p.2 refl)

pub some-IsItem : Inhabited IsItem
some-IsItem = let s = some-IsPrimary in (s.0, s.1, IsItem.joined s.0 [] s.1 [] (sym (append-nil s.0)) s.2 (MoreJoins.no_joins refl refl) refl)

pub some-AreItems : Inhabited AreItems
some-AreItems = let s = some-IsItem in (s.0, s.1 ∷ [], AreItems.items s.0 [] s.1 [] (sym (append-nil s.0)) s.2 (MoreItems.no_items refl refl) refl)

pub some-IsTarget : Inhabited IsTarget
some-IsTarget = (sample k.Star ∷ [], target.All (sample k.Star).at, IsTarget.all (sample k.Star) refl (sampled k.Star) refl)

pub some-AreTargets : Inhabited AreTargets
some-AreTargets = let s = some-IsTarget in (s.0, s.1 ∷ [], AreTargets.targets s.0 [] s.1 [] (sym (append-nil s.0)) s.2 (MoreTargets.no_targets refl refl) refl)

pub some-IsSelect : Inhabited IsSelect
some-IsSelect =
    let t = some-AreTargets in
    let i = some-AreItems in
    (sample k.Select ∷ (t.0 ++ (sample k.From ∷ (i.0 ++ []))), select_of false t.1 i.1 None, IsSelect.select (sample k.Select) [] t.0 (sample k.From) i.0 [] false t.1 i.1 None refl (sampled k.Select) (MaybeDistinct.none refl refl) t.2 (sampled k.From) i.2 (MaybeWhere.no_where refl refl) refl)

pub some-IsOrder : Inhabited IsOrder
some-IsOrder = let s = some-IsExpr in (s.0, record { expr = s.1; desc = false; nulls_first = false }, IsOrder.order s.0 [] [] s.1 false false (sym (append-nil s.0)) s.2 (MaybeDirection.none refl refl) (MaybeNulls.none refl refl) refl)
