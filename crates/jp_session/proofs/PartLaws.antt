-- The parts of each form of expression and of tree, and what a loop adds.
use Rattle.std.proofs.Common.{◌≡◌, ◌∙◌, ap, ap₂, sym, refl, ℕ, ◌+◌, ◌<◌, Bool, true, false, List, [], ◌∷◌, ◌++◌, map, length, get_or, take, Option, Some, None, append_assoc}
use Rattle.std.specs.List.{flat_map}
use Rattle.std.proofs.lemmas.List.{append-nil, map-append, take_more}
use Rattle.std.proofs.lemmas.Grind.{flat_map-append}
use Rattle.std.proofs.lemmas.List.Sums.{fold-append}
use Rattle.jp_base.specs.declared.values.Ty.{Ty}
use Rattle.jp_base.specs.declared.values.Value.{Value}
use Rattle.jp_query.specs.declared.CmpOp.{CmpOp}
use Rattle.jp_query.specs.declared.IsTest.{IsTest}
use Rattle.jp_query.specs.declared.JoinKind.{JoinKind}
use Rattle.jp_query.specs.declared.JoinKind.TheVariants as join
use Rattle.jp_query.specs.declared.Expr.TheVariants as expr
use Rattle.jp_query.specs.declared.Expr.{Expr}
use Rattle.jp_query.specs.declared.JoinTree.{JoinTree}
use Rattle.jp_query.specs.declared.JoinTree.TheVariants as tree
use Rattle.jp_query.specs.declared.Query.{Query, out-Query}
use Rattle.jp_query.specs.declared.Expr.TheOpen.{Expr-F, JoinTree-F}
use Rattle.jp_query.specs.Parts.{arm_parts, option_part, term_part}
use Rattle.jp_problem.proofs.ShapeLaws.{at_base, at_sub, at_join, at_from}
use Rattle.jp_query.specs.declared.JoinTree.{out-JoinTree}
use Rattle.jp_query.specs.declared.Expr.TheViews.{outs-Base, outs-Sub, outs-Join}
use Rattle.jp_query.specs.Layers.{JoinTreeLayer}
use Rattle.jp_problem.specs.InnerBlocks.{side_block, blocks_at, exprs_at}
use Rattle.jp_problem.specs.Shapes.{Shape, nothing, beside, together, shape_of, items_in, exprs_in}
use Rattle.jp_session.proofs.OuterLevels.{parts_level}
use Rattle.jp_session.specs.declared.sources.Part.{Part}
use Rattle.jp_session.specs.Parts.{arm_parts_of, condition_parts, is_full, item_part, item_parts, option_parts, order_parts, output_parts, parts_of, parts_of_item, sublink_parts, term_parts, with_number}

-- ---- expressions

of_terms : (terms : List (Bool × Expr)) → flat_map sublink_parts (map term_part terms) ≡ flat_map term_parts terms
of_terms [] = refl
of_terms (t ∷ ts) = ap (λ ps. sublink_parts t.1 ++ ps) (of_terms ts)

of_arms : (arms : List (Expr × Expr)) → flat_map sublink_parts (arm_parts arms) ≡ flat_map arm_parts_of arms
of_arms [] = refl
of_arms (a ∷ more) = ap (λ ps. sublink_parts a.0 ++ (sublink_parts a.1 ++ ps)) (of_arms more) ∙ sym (append_assoc (sublink_parts a.0) (sublink_parts a.1) (flat_map arm_parts_of more))

of_optional : (o : Option Expr) → flat_map sublink_parts (option_part o) ≡ option_parts o
of_optional (Some e) = append-nil (sublink_parts e)
of_optional None = refl

pub parts-Col : (rel col : ℕ) (ty : Ty) (nulled : ℕ) → sublink_parts (expr.Col rel col ty nulled) ≡ []
parts-Col rel col ty nulled = ap sublink_parts (sym (expr.rolls-Col rel col ty nulled)) ∙ parts_level (Expr-F.Col rel col ty nulled)

pub parts-Lit : (v : Value) (ty : Ty) → sublink_parts (expr.Lit v ty) ≡ []
parts-Lit v ty = ap sublink_parts (sym (expr.rolls-Lit v ty)) ∙ parts_level (Expr-F.Lit v ty)

pub parts-Place : (inner : Expr) (rels : ℕ) → sublink_parts (expr.Place inner rels) ≡ sublink_parts inner
parts-Place inner rels = ap sublink_parts (sym (expr.rolls-Place inner rels)) ∙ parts_level (Expr-F.Place inner rels) ∙ append-nil (sublink_parts inner)

pub parts-Neg : (e : Expr) → sublink_parts (expr.Neg e) ≡ sublink_parts e
parts-Neg e = ap sublink_parts (sym (expr.rolls-Neg e)) ∙ parts_level (Expr-F.Neg e) ∙ append-nil (sublink_parts e)

pub parts-Not : (e : Expr) → sublink_parts (expr.Not e) ≡ sublink_parts e
parts-Not e = ap sublink_parts (sym (expr.rolls-Not e)) ∙ parts_level (Expr-F.Not e) ∙ append-nil (sublink_parts e)

pub parts-Test : (test : IsTest) (e : Expr) → sublink_parts (expr.Test test e) ≡ sublink_parts e
parts-Test test e = ap sublink_parts (sym (expr.rolls-Test test e)) ∙ parts_level (Expr-F.Test test e) ∙ append-nil (sublink_parts e)

pub parts-Sum : (terms : List (Bool × Expr)) → sublink_parts (expr.Sum terms) ≡ flat_map term_parts terms
parts-Sum terms = ap sublink_parts (sym (expr.rolls-Sum terms)) ∙ parts_level (Expr-F.Sum terms) ∙ of_terms terms

pub parts-Product : (es : List Expr) → sublink_parts (expr.Product es) ≡ flat_map sublink_parts es
parts-Product es = ap sublink_parts (sym (expr.rolls-Product es)) ∙ parts_level (Expr-F.Product es)

pub parts-Concat : (es : List Expr) → sublink_parts (expr.Concat es) ≡ flat_map sublink_parts es
parts-Concat es = ap sublink_parts (sym (expr.rolls-Concat es)) ∙ parts_level (Expr-F.Concat es)

pub parts-And : (es : List Expr) → sublink_parts (expr.And es) ≡ flat_map sublink_parts es
parts-And es = ap sublink_parts (sym (expr.rolls-And es)) ∙ parts_level (Expr-F.And es)

pub parts-Or : (es : List Expr) → sublink_parts (expr.Or es) ≡ flat_map sublink_parts es
parts-Or es = ap sublink_parts (sym (expr.rolls-Or es)) ∙ parts_level (Expr-F.Or es)

pub parts-Coalesce : (es : List Expr) → sublink_parts (expr.Coalesce es) ≡ flat_map sublink_parts es
parts-Coalesce es = ap sublink_parts (sym (expr.rolls-Coalesce es)) ∙ parts_level (Expr-F.Coalesce es)

pub parts-Compare : (op : CmpOp) (a b : Expr) → sublink_parts (expr.Compare op a b) ≡ sublink_parts a ++ sublink_parts b
parts-Compare op a b = ap sublink_parts (sym (expr.rolls-Compare op a b)) ∙ parts_level (Expr-F.Compare op a b) ∙ ap (λ ps. sublink_parts a ++ ps) (append-nil (sublink_parts b))

pub parts-Between : (a b c : Expr) → sublink_parts (expr.Between a b c) ≡ sublink_parts a ++ (sublink_parts b ++ sublink_parts c)
parts-Between a b c = ap sublink_parts (sym (expr.rolls-Between a b c)) ∙ parts_level (Expr-F.Between a b c) ∙ ap (λ ps. sublink_parts a ++ (sublink_parts b ++ ps)) (append-nil (sublink_parts c))

pub parts-InList : (e : Expr) (es : List Expr) → sublink_parts (expr.InList e es) ≡ sublink_parts e ++ flat_map sublink_parts es
parts-InList e es = ap sublink_parts (sym (expr.rolls-InList e es)) ∙ parts_level (Expr-F.InList e es)

pub parts-Case : (operand : Option Expr) (arms : List (Expr × Expr)) (otherwise : Option Expr) → sublink_parts (expr.Case operand arms otherwise) ≡ option_parts operand ++ (flat_map arm_parts_of arms ++ option_parts otherwise)
parts-Case operand arms otherwise =
    ap sublink_parts (sym (expr.rolls-Case operand arms otherwise)) ∙ parts_level (Expr-F.Case operand arms otherwise)
    ∙ flat_map-append sublink_parts (option_part operand) (arm_parts arms ++ option_part otherwise)
    ∙ ap₂ (λ xs ys. xs ++ ys) (of_optional operand) (flat_map-append sublink_parts (arm_parts arms) (option_part otherwise) ∙ ap₂ (λ xs ys. xs ++ ys) (of_arms arms) (of_optional otherwise))

pub parts-Exists : (sub : ℕ) (q : Query) → sublink_parts (expr.Exists sub q) ≡ with_number sub q ∷ []
parts-Exists sub q = ap sublink_parts (sym (expr.rolls-Exists sub q)) ∙ parts_level (Expr-F.Exists sub q)

pub parts-InSub : (sub : ℕ) (e : Expr) (q : Query) → sublink_parts (expr.InSub sub e q) ≡ with_number sub q ∷ sublink_parts e
parts-InSub sub e q = ap sublink_parts (sym (expr.rolls-InSub sub e q)) ∙ parts_level (Expr-F.InSub sub e q) ∙ ap (λ ps. with_number sub q ∷ ps) (append-nil (sublink_parts e))

-- ---- trees

abbrev parts_at : JoinTreeLayer → List Part
parts_at t = map item_part (blocks_at t) ++ flat_map sublink_parts (exprs_at t)

one_item : (t : JoinTree) (x : JoinTreeLayer) → out-JoinTree t ≡ x → parts_of_item t ++ [] ≡ parts_at x
one_item t x e = append-nil (parts_of_item t) ∙ ap parts_at e

pub items-Base : (rel : ℕ) (name : List ℕ) (table : ℕ) → item_parts (shape_of (tree.Base rel name table)) ≡ []
unfolding item_parts
items-Base rel name table = ap item_parts (at_base rel name table) ∙ one_item (tree.Base rel name table) (JoinTree-F.Base rel name table) (outs-Base rel name table)

pub items-Sub : (rel : ℕ) (name : List ℕ) (query : Query) → item_parts (shape_of (tree.Sub rel name query)) ≡ item_part query ∷ []
unfolding item_parts
items-Sub rel name query = ap item_parts (at_sub rel name query) ∙ one_item (tree.Sub rel name query) (JoinTree-F.Sub rel name query) (outs-Sub rel name query)

pub items-Full : (kind : JoinKind) (left right : JoinTree) (on : List Expr) → is_full kind ≡ true
    → item_parts (shape_of (tree.Join kind left right on)) ≡ item_part (side_block left) ∷ item_part (side_block right) ∷ flat_map sublink_parts on
unfolding item_parts
items-Full join.Full left right on e = ap item_parts (at_join join.Full left right on) ∙ one_item (tree.Join join.Full left right on) (JoinTree-F.Join join.Full left right on) (outs-Join join.Full left right on)
items-Full join.Inner left right on e = cc
items-Full join.Left left right on e = cc
items-Full join.Right left right on e = cc
items-Full join.Semi left right on e = cc
items-Full join.Anti left right on e = cc

pub items-beside : (left right : Shape) → item_parts (beside left right) ≡ item_parts left ++ item_parts right
unfolding item_parts
items-beside left right = flat_map-append parts_of_item (items_in left) (items_in right)

pub items-Join : (kind : JoinKind) (left right : JoinTree) (on : List Expr) → is_full kind ≡ false → item_parts (shape_of (tree.Join kind left right on)) ≡ item_parts (shape_of left) ++ item_parts (shape_of right)
unfolding item_parts
items-Join join.Full left right on e = cc
items-Join join.Inner left right on e = ap item_parts (at_join join.Inner left right on) ∙ flat_map-append parts_of_item (items_in (shape_of left)) (items_in (shape_of right))
items-Join join.Left left right on e = ap item_parts (at_join join.Left left right on) ∙ flat_map-append parts_of_item (items_in (shape_of left)) (items_in (shape_of right))
items-Join join.Right left right on e = ap item_parts (at_join join.Right left right on) ∙ flat_map-append parts_of_item (items_in (shape_of left)) (items_in (shape_of right))
items-Join join.Semi left right on e = ap item_parts (at_join join.Semi left right on) ∙ flat_map-append parts_of_item (items_in (shape_of left)) (items_in (shape_of right))
items-Join join.Anti left right on e = ap item_parts (at_join join.Anti left right on) ∙ flat_map-append parts_of_item (items_in (shape_of left)) (items_in (shape_of right))

pub items-From : (members : List JoinTree) (conds : List Expr) → item_parts (shape_of (tree.From members conds)) ≡ item_parts (together (map shape_of members))
unfolding item_parts
items-From members conds = ap item_parts (at_from members conds)

pub conds-Base : (rel : ℕ) (name : List ℕ) (table : ℕ) → condition_parts (shape_of (tree.Base rel name table)) ≡ []
unfolding condition_parts
conds-Base rel name table = ap condition_parts (at_base rel name table)

pub conds-Sub : (rel : ℕ) (name : List ℕ) (query : Query) → condition_parts (shape_of (tree.Sub rel name query)) ≡ []
unfolding condition_parts
conds-Sub rel name query = ap condition_parts (at_sub rel name query)

pub conds-Full : (kind : JoinKind) (left right : JoinTree) (on : List Expr) → is_full kind ≡ true → condition_parts (shape_of (tree.Join kind left right on)) ≡ []
unfolding condition_parts
conds-Full join.Full left right on e = ap condition_parts (at_join join.Full left right on)
conds-Full join.Inner left right on e = cc
conds-Full join.Left left right on e = cc
conds-Full join.Right left right on e = cc
conds-Full join.Semi left right on e = cc
conds-Full join.Anti left right on e = cc

pub conds-beside : (left right : Shape) → condition_parts (beside left right) ≡ condition_parts left ++ condition_parts right
unfolding condition_parts
conds-beside left right = flat_map-append sublink_parts (exprs_in left) (exprs_in right)

on_behind : (ls rs on : List Expr) → flat_map sublink_parts ((ls ++ rs) ++ on) ≡ flat_map sublink_parts ls ++ (flat_map sublink_parts rs ++ flat_map sublink_parts on)
on_behind ls rs on =
    flat_map-append sublink_parts (ls ++ rs) on ∙ ap (λ ps. ps ++ flat_map sublink_parts on) (flat_map-append sublink_parts ls rs)
    ∙ append_assoc (flat_map sublink_parts ls) (flat_map sublink_parts rs) (flat_map sublink_parts on)

pub conds-Join : (kind : JoinKind) (left right : JoinTree) (on : List Expr) → is_full kind ≡ false
    → condition_parts (shape_of (tree.Join kind left right on)) ≡ condition_parts (shape_of left) ++ (condition_parts (shape_of right) ++ flat_map sublink_parts on)
unfolding condition_parts
conds-Join join.Full left right on e = cc
conds-Join join.Inner left right on e = ap condition_parts (at_join join.Inner left right on) ∙ on_behind (exprs_in (shape_of left)) (exprs_in (shape_of right)) on
conds-Join join.Left left right on e = ap condition_parts (at_join join.Left left right on) ∙ on_behind (exprs_in (shape_of left)) (exprs_in (shape_of right)) on
conds-Join join.Right left right on e = ap condition_parts (at_join join.Right left right on) ∙ on_behind (exprs_in (shape_of left)) (exprs_in (shape_of right)) on
conds-Join join.Semi left right on e = ap condition_parts (at_join join.Semi left right on) ∙ on_behind (exprs_in (shape_of left)) (exprs_in (shape_of right)) on
conds-Join join.Anti left right on e = ap condition_parts (at_join join.Anti left right on) ∙ on_behind (exprs_in (shape_of left)) (exprs_in (shape_of right)) on

pub conds-From : (members : List JoinTree) (conds : List Expr) → condition_parts (shape_of (tree.From members conds)) ≡ condition_parts (together (map shape_of members)) ++ flat_map sublink_parts conds
unfolding condition_parts
conds-From members conds = ap condition_parts (at_from members conds) ∙ flat_map-append sublink_parts (exprs_in (together (map shape_of members))) conds

-- ---- loops

pub parts_more : {X : Type 0} (f : X → List Part) (xs : List X) (i : ℕ) (d : X) → i < length xs → flat_map f (take (i + 1) xs) ≡ flat_map f (take i xs) ++ f (get_or xs i d)
parts_more f xs i d within =
    ap (flat_map f) (take_more xs i d within)
    ∙ flat_map-append f (take i xs) (get_or xs i d ∷ [])
    ∙ ap (λ ys. flat_map f (take i xs) ++ ys) (append-nil (f (get_or xs i d)))

pub items-nothing : item_parts nothing ≡ []
unfolding item_parts
items-nothing = refl

pub conds-nothing : condition_parts nothing ≡ []
unfolding condition_parts
conds-nothing = refl

one_beside : (ms : List JoinTree) (i : ℕ) (m : JoinTree) → i < length ms → m ≡ get_or ms i m → together (map shape_of (take (i + 1) ms)) ≡ beside (together (map shape_of (take i ms))) (shape_of m)
one_beside ms i m low is =
    ap (λ ts. together (map shape_of ts)) (take_more ms i m low ∙ ap (λ t. take i ms ++ t ∷ []) (sym is))
    ∙ ap together (map-append shape_of (take i ms) (m ∷ [])) ∙ fold-append beside nothing (map shape_of (take i ms)) (shape_of m ∷ [])

-- what a loop over members has put at the end
pub none_pushed : (word : Shape → List Part) (old : List Part) → word nothing ≡ [] → old ≡ old ++ word nothing
none_pushed word old e = sym (ap (λ ps. old ++ ps) e ∙ append-nil old)

pub member_pushed : (word : Shape → List Part) → ((l r : Shape) → word (beside l r) ≡ word l ++ word r) → (ms : List JoinTree) (i : ℕ) (m : JoinTree) (old now next : List Part) → i < length ms → m ≡ get_or ms i m
    → now ≡ old ++ word (together (map shape_of (take i ms))) → next ≡ now ++ word (shape_of m) → next ≡ old ++ word (together (map shape_of (take (i + 1) ms)))
member_pushed word both ms i m old now next low is p q =
    q ∙ ap (λ ps. ps ++ word (shape_of m)) p ∙ append_assoc old (word (together (map shape_of (take i ms)))) (word (shape_of m))
    ∙ ap (λ ps. old ++ ps) (sym (ap word (one_beside ms i m low is) ∙ both (together (map shape_of (take i ms))) (shape_of m)))

-- the parts of a block, put at the end one list after another
pub all_pushed : (q : Query) (none a b c d e : List Part) → none ≡ [] → a ≡ none ++ item_parts (shape_of (out-Query q).tree) → b ≡ a ++ condition_parts (shape_of (out-Query q).tree)
    → c ≡ b ++ flat_map sublink_parts (out-Query q).conds → d ≡ c ++ flat_map output_parts (out-Query q).columns → e ≡ d ++ flat_map order_parts (out-Query q).order → e ≡ parts_of q
unfolding parts_of
all_pushed q none a b c d e n p1 p2 p3 p4 p5 =
    let x1 = item_parts (shape_of (out-Query q).tree) in
    let x2 = condition_parts (shape_of (out-Query q).tree) in
    let x3 = flat_map sublink_parts (out-Query q).conds in
    let x4 = flat_map output_parts (out-Query q).columns in
    let x5 = flat_map order_parts (out-Query q).order in
    p5 ∙ ap (λ xs. xs ++ x5) (p4 ∙ ap (λ xs. xs ++ x4) (p3 ∙ ap (λ xs. xs ++ x3) (p2 ∙ ap (λ xs. xs ++ x2) (p1 ∙ ap (λ xs. xs ++ x1) n))))
    ∙ append_assoc ((x1 ++ x2) ++ x3) x4 x5 ∙ append_assoc (x1 ++ x2) x3 (x4 ++ x5) ∙ append_assoc x1 x2 (x3 ++ (x4 ++ x5))

-- what a loop has put at the end behind one more element
pub pushed_more : {X : Type 0} (f : X → List Part) (xs : List X) (i : ℕ) (x : X) (old now next : List Part) → i < length xs → x ≡ get_or xs i x → now ≡ old ++ flat_map f (take i xs) → next ≡ now ++ f x → next ≡ old ++ flat_map f (take (i + 1) xs)
pushed_more f xs i x old now next low is p q =
    q ∙ ap (λ ys. ys ++ f x) p ∙ append_assoc old (flat_map f (take i xs)) (f x)
    ∙ ap (λ ys. old ++ ys) (ap (λ y. flat_map f (take i xs) ++ f y) is ∙ sym (parts_more f xs i x low))

-- what is put at the end for a CASE
pub case_pushed : (operand : Option Expr) (arms : List (Expr × Expr)) (otherwise : Option Expr) (old first second last : List Part) → first ≡ old ++ option_parts operand → second ≡ first ++ flat_map arm_parts_of arms → last ≡ second ++ option_parts otherwise
    → last ≡ old ++ sublink_parts (expr.Case operand arms otherwise)
case_pushed operand arms otherwise old first second last p q r =
    r ∙ ap (λ xs. xs ++ option_parts otherwise) (q ∙ ap (λ xs. xs ++ flat_map arm_parts_of arms) p)
    ∙ append_assoc (old ++ option_parts operand) (flat_map arm_parts_of arms) (option_parts otherwise)
    ∙ append_assoc old (option_parts operand) (flat_map arm_parts_of arms ++ option_parts otherwise)
    ∙ ap (λ xs. old ++ xs) (sym (parts-Case operand arms otherwise))

pub ruleset equations = (parts-Col, parts-Lit, parts-Place, parts-Neg, parts-Not, parts-Test, parts-Sum, parts-Product, parts-Concat, parts-And, parts-Or, parts-Coalesce, parts-Compare, parts-Between, parts-InList, parts-Case, parts-Exists, parts-InSub, items-Base, items-Sub, items-Full, items-Join, items-From, items-beside, conds-Base, conds-Sub, conds-Full, conds-Join, conds-From, conds-beside, parts_more, append-nil, append_assoc)
