-- One more row in an index.
use Rattle.std.proofs.Common.{◌≡◌, ◌∙◌, ap, sym, ℕ, ◌+◌, ◌<◌, List, [], ◌++◌, length, get_or, take, arith}
use Rattle.std.proofs.lemmas.List.{take_more, length-take-le}
use Rattle.jp_base.specs.declared.values.Value.{Value}
use Rattle.jp_query.specs.Meaning.{Row}
use Rattle.jp_joins.specs.Keys.{once_if, places_where}
use Rattle.jp_joins.proofs.PlaceFacts.{places_snoc}
use Rattle.jp_indexes.specs.Indexes.{has_cell}

pub row_more : (col : ℕ) (v : Value) (rows : List Row) (i : ℕ) (before now : List ℕ) → i < length rows → before ≡ places_where (has_cell col v) 0 (take i rows) → now ≡ before ++ once_if (has_cell col v (get_or rows i [])) i
    → now ≡ places_where (has_cell col v) 0 (take (i + 1) rows)
row_more col v rows i before now h e f =
    let p = has_cell col v in
    let at : i ≡ 0 + length (take i rows) = let long = length-take-le i rows (omega (arith, h)) in omega (arith, long) in
    f ∙ ap (λ ks. ks ++ once_if (p (get_or rows i [])) i) e
    ∙ ap (λ k. places_where p 0 (take i rows) ++ once_if (p (get_or rows i [])) k) at
    ∙ sym (places_snoc p 0 (take i rows) (get_or rows i []))
    ∙ ap (places_where p 0) (sym (take_more rows i [] h))
