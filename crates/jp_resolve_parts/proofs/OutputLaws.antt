-- Outputs behind others, one list after the other.
use Rattle.std.proofs.Common.{◌≡◌, ◌∙◌, ap, sym, List, [], ◌∷◌, ◌++◌, map, append_assoc}
use Rattle.std.proofs.lemmas.List.{append-nil, map-append}
use Rattle.jp_resolution.specs.declared.words.Entry.{Entry}
use Rattle.jp_resolution.specs.Names.{VisibleColumn, entry_columns, columns_of}
use Rattle.jp_resolution.specs.Resolving.{Selected, output_of, column_of, column_output}
use Rattle.jp_resolve_parts.specs.declared.outputs.Outputs.{Outputs}
use Rattle.jp_resolve_parts.specs.Outs.{with_outputs}

joined : {A B : Type 0} (f : A → B) (xs : List B) (ys zs : List A) → (xs ++ map f ys) ++ map f zs ≡ xs ++ map f (ys ++ zs)
joined f xs ys zs = append_assoc xs (map f ys) (map f zs) ∙ ap (λ ws. xs ++ ws) (sym (map-append f ys zs))

pub outputs_joined : (o : Outputs) (xs ys : List Selected) → with_outputs (with_outputs o xs) ys ≡ with_outputs o (xs ++ ys)
outputs_joined o xs ys = λ i. record { list = joined output_of o.list xs ys i; columns = joined column_of o.columns xs ys i }

pub no_outputs : (o : Outputs) → with_outputs o [] ≡ o
no_outputs o = λ i. record { list = append-nil o.list i; columns = append-nil o.columns i }

pub column_more : (o : Outputs) (c : VisibleColumn) (cs : List VisibleColumn) → with_outputs (with_outputs o (column_output c ∷ [])) (map column_output cs) ≡ with_outputs o (map column_output (c ∷ cs))
column_more o c cs = outputs_joined o (column_output c ∷ []) (map column_output cs)

pub entry_more : (o : Outputs) (e : Entry) (es : List Entry) → with_outputs (with_outputs o (map column_output (entry_columns e))) (map column_output (columns_of es)) ≡ with_outputs o (map column_output (columns_of (e ∷ es)))
entry_more o e es = outputs_joined o (map column_output (entry_columns e)) (map column_output (columns_of es)) ∙ ap (with_outputs o) (sym (map-append column_output (entry_columns e) (columns_of es)))

pub ruleset output_laws = (column_more, entry_more, no_outputs)
