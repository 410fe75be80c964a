-- Lines one after the other, and without ORDER BY.
use Rattle.std.proofs.Common.{◌≡◌, ◌∙◌, ap, sym, refl, true, List, [], ◌∷◌, ◌++◌, length, map, eqb-true, arith}
use Rattle.std.specs.Prelude.{◌==◌}
use Rattle.jp_query.specs.declared.Order.{Order}
use Rattle.jp_query.specs.InOrder.{direction_of}
use Rattle.jp_query.specs.Ordering.{Row, Line, inserted, outputs_of, sorted}
use Rattle.jp_order.specs.Lines.{line_of, lines_with}
use Rattle.jp_order.proofs.FirstFacts.{line_outputs}

line_more : (rows keys : List Row) (row key : Row) → length rows ≡ length keys → lines_with (rows ++ row ∷ []) (keys ++ key ∷ []) ≡ lines_with rows keys ++ line_of (row, key) ∷ []
line_more [] [] row key e = refl
line_more [] (k ∷ keys) row key e = absurd (omega (arith, e))
line_more (r ∷ rows) [] row key e = absurd (omega (arith, e))
line_more (r ∷ rows) (k ∷ keys) row key e = ap (λ ls. line_of (r, k) ∷ ls) (line_more rows keys row key (omega (arith, e)))

pub line_pushed : (rows keys more_rows more_keys : List Row) (row key : Row) (lines : List Line) → lines_with rows keys ≡ lines → length rows ≡ length keys → more_rows ≡ rows ++ row ∷ [] → more_keys ≡ keys ++ key ∷ []
    → lines_with more_rows more_keys ≡ lines ++ record { outputs = row; keys = key } ∷ []
line_pushed rows keys more_rows more_keys row key lines is e f g =
    ap (λ rs. lines_with rs more_keys) f ∙ ap (lines_with (rows ++ row ∷ [])) g ∙ line_more rows keys row key e ∙ ap (λ ls. ls ++ record { outputs = row; keys = key } ∷ []) is

first_put : (line : Line) (lines : List Line) → inserted [] line lines ≡ line ∷ lines
first_put line [] = refl
first_put line (next ∷ lines) = refl

unsorted : (lines : List Line) → sorted [] lines ≡ lines
unsorted [] = refl
unsorted (line ∷ lines) = first_put line (sorted [] lines) ∙ ap (λ ls. line ∷ ls) (unsorted lines)

nothing : (order : List Order) → true ≡ (length order == 0) → order ≡ []
nothing [] e = refl
nothing (item ∷ order) e = absurd (omega (arith, eqb-true (length (item ∷ order)) 0 (sym e)))

pub unordered : (order : List Order) (rows keys : List Row) → true ≡ (length order == 0) → length rows ≡ length keys → rows ≡ map outputs_of (sorted (map direction_of order) (lines_with rows keys))
unordered order rows keys e size =
    sym (line_outputs rows keys size) ∙ ap (map outputs_of) (sym (ap (λ (os : List Order). sorted (map direction_of os) (lines_with rows keys)) (nothing order e) ∙ unsorted (lines_with rows keys)))
