-- The place and the name of an expression by its node.
use Rattle.std.proofs.Common.{◌≡◌, ◌∙◌, ap, sym, refl, ℕ, List, None}
use Rattle.jp_ast.specs.declared.tree.Ast.{Ast, out-Ast, roll-Ast, roll-out-Ast}
use Rattle.jp_ast.specs.declared.tree.Ast.TheOpen.{Ast-F}
use Rattle.jp_ast.specs.declared.tree.FromItem.{FromItem}
use Rattle.jp_ast.specs.declared.tree.Target.{Target}
use Rattle.jp_ast.specs.declared.tree.Select.{Select}
use Rattle.jp_ast.specs.declared.tree.Ast.TheVariants as ast
use Rattle.jp_ast.specs.declared.tree.Ast.TheFolds.{map-Ast, fold-roll-Ast}
use Rattle.jp_catalog.specs.declared.types.Catalog.{Catalog}
use Rattle.jp_resolution.specs.declared.words.Selection.{Selection}
use Rattle.jp_resolution.specs.Counting.{Part}
use Rattle.jp_resolution.specs.Resolving.{AstMeant, ItemMeant, Targets, ast_meant, item_meant, target_meant, select_meant, meant_by, item_by, target_by, select_by, place_of_ast, label_of}
use Rattle.jp_resolve.specs.Walk.{place_of_expr, label_of_expr}

abbrev Level : Type 0
Level = Ast-F Ast FromItem Target Select

abbrev meant_level : Catalog → Level → Ast-F AstMeant ItemMeant Targets (Part Selection)
meant_level c x = map-Ast Ast FromItem Target Select AstMeant ItemMeant Targets (Part Selection) (meant_by c) (item_by c) (target_by c) (select_by c) x

place_kept : (c : Catalog) (x : Level) → place_of_ast (meant_level c x) ≡ place_of_ast x
place_kept c (Ast-F.Number n at) = refl
place_kept c (Ast-F.Text bytes at) = refl
place_kept c (Ast-F.Bool b at) = refl
place_kept c (Ast-F.Null at) = refl
place_kept c (Ast-F.Name name at) = refl
place_kept c (Ast-F.Qualified qualifier name at) = refl
place_kept c (Ast-F.Sign minus operand at) = refl
place_kept c (Ast-F.Sum terms at) = refl
place_kept c (Ast-F.Product factors at) = refl
place_kept c (Ast-F.Concat parts at) = refl
place_kept c (Ast-F.Compare op left right at) = refl
place_kept c (Ast-F.Between operand low high at) = refl
place_kept c (Ast-F.InList operand list at) = refl
place_kept c (Ast-F.InSelect operand select at) = refl
place_kept c (Ast-F.And list at) = refl
place_kept c (Ast-F.Or list at) = refl
place_kept c (Ast-F.Not operand at) = refl
place_kept c (Ast-F.Is operand negated word at) = refl
place_kept c (Ast-F.Exists select at) = refl
place_kept c (Ast-F.Coalesce list at) = refl
place_kept c (Ast-F.Case operand arms otherwise at) = refl

label_kept : (c : Catalog) (x : Level) → label_of (meant_level c x) ≡ label_of x
label_kept c (Ast-F.Name name at) = refl
label_kept c (Ast-F.Qualified qualifier name at) = refl
label_kept c _ = refl

pub place_is : (c : Catalog) (a : Ast) → place_of_expr c a ≡ place_of_ast (out-Ast a)
unfolding place_of_expr
place_is c a =
    ap (λ z. (meant_by c z).place) (sym (roll-out-Ast a))
    ∙ ap (λ (m : AstMeant). m.place) (fold-roll-Ast AstMeant ItemMeant Targets (Part Selection) ast_meant (item_meant c) target_meant select_meant (out-Ast a))
    ∙ place_kept c (out-Ast a)

pub label_is : (c : Catalog) (a : Ast) → label_of_expr c a ≡ label_of (out-Ast a)
unfolding label_of_expr
label_is c a =
    ap (λ z. (meant_by c z).label) (sym (roll-out-Ast a))
    ∙ ap (λ (m : AstMeant). m.label) (fold-roll-Ast AstMeant ItemMeant Targets (Part Selection) ast_meant (item_meant c) target_meant select_meant (out-Ast a))
    ∙ label_kept c (out-Ast a)

-- an expression that is no name has no label
no_label : (x : Level) → ((name : List ℕ) (at : ℕ) → x ≡ Ast-F.Name name at → ⊥) → ((q name : List ℕ) (at : ℕ) → x ≡ Ast-F.Qualified q name at → ⊥) → label_of x ≡ None
no_label (Ast-F.Name name at) p q = absurd (p name at refl)
no_label (Ast-F.Qualified qualifier name at) p q = absurd (q qualifier name at refl)
no_label _ p q = refl

pub unlabelled : (a : Ast) → ((name : List ℕ) (at : ℕ) → a ≡ ast.Name name at → ⊥) → ((q name : List ℕ) (at : ℕ) → a ≡ ast.Qualified q name at → ⊥) → label_of (out-Ast a) ≡ None
unlabelled a p q = no_label (out-Ast a)
    (λ name at e. p name at (sym (roll-out-Ast a) ∙ ap roll-Ast e ∙ ast.rolls-Name name at))
    (λ r name at e. q r name at (sym (roll-out-Ast a) ∙ ap roll-Ast e ∙ ast.rolls-Qualified r name at))

pub ruleset naming = (ast.outs-Name, ast.outs-Qualified, unlabelled)
